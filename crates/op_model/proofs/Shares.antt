-- What tests say of a copy, of a wait, of what is wanted, of a class and of a set of nodes, and the headers at the start.
use Rattle.std.proofs.Common.{◌≡◌, ℕ, zero, suc, ◌-◌, ◌<◌, ◌≤◌, Bool, true, false, cond, not, ◌==◌, List, [], ◌∷◌, unwrap_or, Option, Some, None, Result, Ok, Err, refl, sym, ap, ◌∙◌, arith}
use Rattle.std.specs.FinMap as fin
use Rattle.std.specs.FinMap.{gets}
use Rattle.std.specs.Ordering.{nat_cmp, eq_by_cmp}
use Rattle.std.specs.Cmp.{nat_cmp_total}
use Rattle.std.proofs.lemmas.Bool.Decides.{nat_tests}
use Rattle.line_map.specs.Sizes.{Sizes, line_of}
use Rattle.op_model.specs.declared.events.Cause.{Cause}
use Rattle.op_model.specs.declared.events.Class.{Class}
use Rattle.op_model.specs.declared.events.Class.TheVariants.{Request, Reply}
use Rattle.op_model.specs.declared.events.EvictKind.{EvictKind}
use Rattle.op_model.specs.declared.messages.Msg.{Msg}
use Rattle.op_model.specs.declared.operations.Op.{Op}
use Rattle.op_model.specs.declared.state.Wait.{Wait}
use Rattle.op_model.specs.declared.state.Wait.TheVariants.{Idle, Invalidate, ForwardGet, ForwardGetX}
use Rattle.op_model.specs.declared.state.Want.{Want}
use Rattle.op_model.specs.Nodes.{Nodes, count, count-none, count-unlist, in_order, in_order-once, listed, listed-none, listed-unlist, none, same_nodes, times, unlist}
use Rattle.op_model.specs.Messages.{same_class}
use Rattle.op_model.specs.Lines.{Copy, Absent, Shared, Exclusive, is_empty, is_exclusive, is_idle, is_outstanding}
use Rattle.op_model.specs.Shares.{first_header, first_headers, want_after, want_on}
use Rattle.op_model.specs.Events.Node.{permit}
use Rattle.op_model.specs.Run.Schedules.{is_no_message}
use Rattle.op_model.specs.Tables.Processor.{fits, serves}
use Rattle.op_model.specs.Tables.Remote.{is_forward, is_forward_get, is_forward_getx, is_invalidate, waits_load, waits_write}

-- ---- copies

-- an empty copy is none
pub empty-copy : (copy : Copy) → is_empty copy ≡ true → copy ≡ Absent
empty-copy Absent e = refl
empty-copy (Shared words) e = cc
empty-copy (Exclusive words) e = cc

-- nothing is served without a copy
pub serves-copy : (op : Op) (copy : Copy) → serves op copy ≡ true → copy ≡ Absent → ⊥
serves-copy op copy s none = let f : serves op Absent ≡ true = rw none at s in cc

-- an exclusive copy serves whatever is next
pub unserved-shared : (op : Op) (copy : Copy) → serves op copy ≡ false → is_exclusive copy ≡ false
unserved-shared op Absent e = refl
unserved-shared op (Shared words) e = refl
unserved-shared op (Exclusive words) e = cc

-- only a copy is evicted
pub fits-copy : (at_home : Bool) (kind : EvictKind) (copy : Copy) → fits at_home kind copy ≡ true → is_empty copy ≡ false
fits-copy at_home kind Absent e = cc
fits-copy at_home kind (Shared words) e = refl
fits-copy at_home kind (Exclusive words) e = refl

-- ---- what a line waits for

-- a line that is idle waits for nothing
pub idle-wait : (wait : Wait) → is_idle wait ≡ true → wait ≡ Idle
idle-wait Idle e = refl
idle-wait (Invalidate g) e = cc
idle-wait (ForwardGet r) e = cc
idle-wait (ForwardGetX r) e = cc

-- a line that is idle waits for no acknowledgement
pub idle-calm : (wait : Wait) → is_idle wait ≡ true → is_invalidate wait ≡ false
idle-calm Idle e = refl
idle-calm (Invalidate g) e = cc
idle-calm (ForwardGet r) e = refl
idle-calm (ForwardGetX r) e = refl

-- a line that waits for acknowledgements isn't idle
pub called-pends : (wait : Wait) → is_invalidate wait ≡ true → not (is_idle wait) ≡ true
called-pends Idle e = cc
called-pends (Invalidate g) e = refl
called-pends (ForwardGet r) e = cc
called-pends (ForwardGetX r) e = cc

-- a forward of a load is a forward
pub forward-get : (home : ℕ) (wait : Wait) → is_forward_get home wait ≡ true → is_forward wait ≡ true
forward-get home Idle e = cc
forward-get home (Invalidate g) e = cc
forward-get home (ForwardGet r) e = refl
forward-get home (ForwardGetX r) e = cc

-- a forward of a write is a forward
pub forward-getx : (home : ℕ) (wait : Wait) → is_forward_getx home wait ≡ true → is_forward wait ≡ true
forward-getx home Idle e = cc
forward-getx home (Invalidate g) e = cc
forward-getx home (ForwardGet r) e = cc
forward-getx home (ForwardGetX r) e = refl

-- ---- what a node has begun

-- where nothing is outstanding nothing is wanted
pub free-want : (want : Option Want) → is_outstanding want ≡ false → want ≡ None
free-want None e = refl
free-want (Some want) e = cc

-- a load that waits is outstanding
pub load-outstanding : (want : Option Want) → waits_load want ≡ true → is_outstanding want ≡ true
load-outstanding None e = e
load-outstanding (Some want) e = refl

-- a write that waits is outstanding
pub write-outstanding : (want : Option Want) → waits_write want ≡ true → is_outstanding want ≡ true
write-outstanding None e = e
write-outstanding (Some want) e = refl

-- where nothing is wanted, nothing is wanted of a line
pub none-on : (sizes : Sizes) (want : Option Want) (line : ℕ) → want ≡ None → want_on sizes want line ≡ None
none-on sizes want line none = ap (λ w. want_on sizes w line) none

-- what is wanted stays where a row of a line leaves what is wanted of it
pub want-stays : (sizes : Sizes) (want : Option Want) (line : ℕ) → want_after sizes want line (want_on sizes want line) ≡ want
want-stays sizes None line = refl
want-stays sizes (Some want) line = go (line_of sizes want.op.word == line)
  where
    go : (b : Bool) → cond b (cond b (Some want) None) (Some want) ≡ Some want
    go true = refl
    go false = refl

-- ---- acts, messages and classes

-- what is refused is refused for this cause
pub refused-for : {A : Type 0} (act : Result A Cause) (cause : Cause) → Err cause ≡ permit act → act ≡ Err cause
refused-for (Ok done) cause e = cc
refused-for (Err other) cause e = cc

-- a lane that isn't busy is empty
pub no_message-empty : (messages : List Msg) → not (is_no_message messages) ≡ false → messages ≡ []
no_message-empty [] e = refl
no_message-empty (m ∷ messages) e = cc

-- a class is the same as itself
pub same_class-self : (class : Class) → same_class class class ≡ true
same_class-self Request = refl
same_class-self Reply = refl

-- classes that are the same are one
pub same_class-is : (k class : Class) → same_class k class ≡ true → k ≡ class
same_class-is Request Request e = refl
same_class-is Reply Reply e = refl
same_class-is Request Reply e = cc
same_class-is Reply Request e = cc

-- ---- sets of nodes

-- a set of nodes below n has at most n of them
pub count-below : (n : ℕ) (list : Nodes) → ((q : ℕ) → listed list q ≡ true → q < n) → count list ≤ n
count-below zero list below =
    let empty : list ≡ none = same_nodes list none (λ q. by q (listed list q) refl ∙ sym (listed-none q)) in
    let c : count list ≡ 0 = ap count empty ∙ count-none in omega arith
  where
    by : (q : ℕ) (b : Bool) → listed list q ≡ b → b ≡ false
    by q true e = absurd (let l = below q e in omega arith)
    by q false e = refl
count-below (suc n) list below =
    let rest : count (unlist list n) ≤ n = count-below n (unlist list n) (λ q there. less q (below q) there) in
    let c = count-unlist list n in
    by (listed list n) (count list) (count (unlist list n)) c rest
  where
    less : (q : ℕ) → (listed list q ≡ true → q < suc n) → listed (unlist list n) q ≡ true → q < n
    less q each there = let l = listed-unlist list n q in grind (arith, nat_tests)

    by : (l : Bool) (k k' : ℕ) → k' ≡ cond l (k - 1) k → k' ≤ n → k ≤ suc n
    by true k k' e h = omega arith
    by false k k' e h = omega arith

-- what stands in a set's order is listed
pub in_order-listed : (list : Nodes) (q : ℕ) → 0 < times q (in_order list) → listed list q ≡ true
in_order-listed list q lt = go (listed list q) (in_order-once list q)
  where
    go : (c : Bool) → times q (in_order list) ≡ cond {A = ℕ} c 1 0 → c ≡ true
    go true e = refl
    go false e = absurd (omega arith)

-- ---- the start

-- each line has the first header at first
pub first_headers-same : (sizes : Sizes) (lines : List ℕ) (line : ℕ) → unwrap_or (fin.get (first_headers sizes lines) line) (first_header sizes) ≡ first_header sizes
first_headers-same sizes [] line = grind (arith, gets)
first_headers-same sizes (l ∷ lines) line =
    ap (λ o. unwrap_or o (first_header sizes)) (fin.get-insert nat_cmp_total (first_headers sizes lines) l (first_header sizes) line) ∙ go (eq_by_cmp nat_cmp line l) (first_headers-same sizes lines line)
  where
    go : (c : Bool) → unwrap_or (fin.get (first_headers sizes lines) line) (first_header sizes) ≡ first_header sizes → unwrap_or (cond c (Some (first_header sizes)) (fin.get (first_headers sizes lines) line)) (first_header sizes) ≡ first_header sizes
    go true e = refl
    go false e = e
