-- A forward, an invalidation and a reply: elsewhere they keep no header, and at the home a reply keeps what holds of its line by itself.
use Rattle.std.proofs.Common.{◌≡◌, ◌≢◌, ℕ, Bool, true, false, cond, ◌||◌, refl, arith, sym, ap, subst, ◌∙◌, Option, Some, None}
use Rattle.std.proofs.lemmas.Bool.Decides.{nat_tests}
use Rattle.op_model.specs.Nodes.{listed, count, none, listings}
use Rattle.op_model.specs.Operations.{Words, after_op}
use Rattle.op_model.specs.Lines.{Exclusive, LineShare, Outcome, Own, sending, no_message, is_exclusive, without_shared, is_outstanding}
use Rattle.op_model.specs.OwnPart.{IsOwnLine, IsOwnWait}
use Rattle.op_model.specs.declared.state.Want.{Want}
use Rattle.op_model.specs.declared.state.Wait.{Wait}
use Rattle.op_model.specs.declared.state.Wait.TheVariants.{Idle, Invalidate, ForwardGet, ForwardGetX}
use Rattle.line_invariant.proofs.Public.{if-either}
use Rattle.op_model.specs.Tables.Remote.{on_fwd_get, on_fwd_getx, on_inv, on_put, on_putx, on_nak, waits_load, waits_write, is_forward_get, is_forward_getx}
use Rattle.op_model.proofs.Public.{load-outstanding, write-outstanding}
use Rattle.own_part.proofs.Effects.{IsQuiet, IsMark, IsEnd, waits-so}

pub fwd-get-quiet : (home requester : ℕ) (s : LineShare) → IsQuiet s (on_fwd_get home requester s)
unfolding on_fwd_get
fwd-get-quiet home requester s = if-either (IsQuiet s) (is_exclusive s.copy) _ _ (λ has. (refl, refl, λ none. absurd (let e : false ≡ true = sym (ap is_exclusive none) ∙ has in cc))) (λ _. (refl, refl, λ none. none))

pub fwd-getx-quiet : (home requester : ℕ) (s : LineShare) → IsQuiet s (on_fwd_getx home requester s)
unfolding on_fwd_getx
fwd-getx-quiet home requester s = if-either (IsQuiet s) (is_exclusive s.copy) _ _ (λ has. (refl, refl, λ none. refl)) (λ _. (refl, refl, λ none. none))

pub inv-mark : (me home : ℕ) (s : LineShare) → me ≢ home → IsMark me home s (on_inv home s)
unfolding on_inv
inv-mark me home s apart = (apart, refl, refl, λ none. ap without_shared none)

pub put-ends : (at_home : Bool) (words : Words) (s : LineShare) → waits_load s.want ≡ true → IsEnd s (on_put at_home words s)
unfolding on_put
put-ends true words s waits = (refl, load-outstanding s.want waits)
put-ends false words s waits = (refl, load-outstanding s.want waits)

pub put-keeps : (home : ℕ) (words : Words) (s : LineShare) → IsOwnLine home s → is_forward_get home s.header.wait ≡ true → IsOwnLine home (on_put true words s).share
unfolding on_put
put-keeps home words s own forwards =
    record { local = refl; unlisted = own.unlisted; exclusive = refl; waiting = (none-due s.header.wait refl forwards, λ d. absurd (cc)) }
  where
    none-due : (wait : Wait) → s.header.wait ≡ wait → is_forward_get home wait ≡ true → s.header.acks ≡ 0
    none-due Idle is f = absurd (cc)
    none-due (Invalidate g) is f = absurd (cc)
    none-due (ForwardGet r) is f = (waits-so home (ForwardGet r) s is own).0
    none-due (ForwardGetX r) is f = absurd (cc)

-- a PutX by what its node has begun
abbrev putx_by : Bool → Words → LineShare → Option Want → Outcome
putx_by at_home words s want =
    elim want [
      | None ↦ sending s no_message
      | Some w ↦ record {
        share = record s {
          copy = Exclusive (after_op w.op words);
          want = None;
          header = cond at_home (record s.header { local = true; dirty = true; wait = Idle; list = none }) s.header;
        };
        sends = no_message;
        served = Own w.op words;
        done = true;
      }
    ]

none-waits : (want : Option Want) → want ≡ None → waits_write want ≡ true → ⊥
none-waits want e waits = let d : false ≡ true = sym (ap waits_write e) ∙ waits in cc

pub putx-ends : (at_home : Bool) (words : Words) (s : LineShare) → waits_write s.want ≡ true → IsEnd s (on_putx at_home words s)
unfolding on_putx
putx-ends at_home words s waits = go s.want refl
  where
    go : (want : Option Want) → s.want ≡ want → IsEnd s (putx_by at_home words s want)
    go None e = absurd (none-waits s.want e waits)
    go (Some w) e = (refl, write-outstanding s.want waits)

pub putx-keeps : (home : ℕ) (words : Words) (s : LineShare) → IsOwnLine home s → waits_write s.want ≡ true → is_forward_getx home s.header.wait ≡ true → IsOwnLine home (on_putx true words s).share
unfolding on_putx
putx-keeps home words s own waits forwards = go s.want refl
  where
    none-due : (wait : Wait) → s.header.wait ≡ wait → is_forward_getx home wait ≡ true → s.header.acks ≡ 0
    none-due Idle is f = absurd (cc)
    none-due (Invalidate g) is f = absurd (cc)
    none-due (ForwardGet r) is f = absurd (cc)
    none-due (ForwardGetX r) is f = (waits-so home (ForwardGetX r) s is own).0

    empty-count : count none ≡ 0
    empty-count = grind (arith, nat_tests, listings)

    empty-list : listed none home ≡ false
    empty-list = grind (arith, nat_tests, listings)

    go : (want : Option Want) → s.want ≡ want → IsOwnLine home (putx_by true words s want).share
    go None e = absurd (none-waits s.want e waits)
    go (Some w) e = record { local = refl; unlisted = empty-list; exclusive = refl; waiting = (none-due s.header.wait refl forwards, λ d. empty-count) }

pub nak-ends : (s : LineShare) → is_outstanding s.want ≡ true → IsEnd s (on_nak s)
unfolding on_nak
nak-ends s waits = (refl, waits)

-- a Nak to the home answers a forward, so that no grantee waits
pub nak-keeps : (home : ℕ) (s : LineShare) → IsOwnLine home s → (is_forward_get home s.header.wait || is_forward_getx home s.header.wait) ≡ true → IsOwnLine home (on_nak s).share
unfolding on_nak
nak-keeps home s own forwards = record { local = own.local; unlisted = own.unlisted; exclusive = own.exclusive; waiting = go s.header.wait refl forwards }
  where
    go : (wait : Wait) → s.header.wait ≡ wait → (is_forward_get home wait || is_forward_getx home wait) ≡ true → IsOwnWait home s.header.wait (record s { want = None })
    go Idle is f = absurd (cc)
    go (Invalidate g) is f = absurd (cc)
    go (ForwardGet r) is f = subst (λ k. IsOwnWait home k (record s { want = None })) (sym is) (waits-so home (ForwardGet r) s is own)
    go (ForwardGetX r) is f = subst (λ k. IsOwnWait home k (record s { want = None })) (sym is) (waits-so home (ForwardGetX r) s is own)
