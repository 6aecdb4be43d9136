-- What a node does by its own share is the row of the whole machine: the two differ at most in the header, elsewhere than at the
-- home, and there the header neither counts nor is kept.
use Rattle.std.proofs.Common.{◌≡◌, ◌≢◌, ℕ, Bool, true, false, cond, ◌==◌, ◌&&◌, List, [], ◌∷◌, ◌++◌, append-nil, append_assoc, drop, refl, arith, ap, sym, ◌∙◌, Result, Ok, Err}
use Rattle.std.proofs.lemmas.Bool.Decides.{nat_tests}
use Rattle.line_map.specs.Sizes.{Sizes, home_of}
use Rattle.op_model.specs.declared.events.Cause.{Cause}
use Rattle.op_model.specs.declared.events.Class.{Class}
use Rattle.op_model.specs.declared.messages.Msg.{Msg}
use Rattle.op_model.specs.Events.Node.{NodeOutcome, and_call, by_row, messages}
use Rattle.op_model.specs.Events.Step.{Off, none_off, one_off, put_at, to_lane}
use Rattle.op_model.specs.Lines.{Header, LineShare, Outcome}
use Rattle.op_model.specs.Messages.{msg_class, same_class}
use Rattle.op_model.specs.Run.Runs.{Past, past_after}
use Rattle.op_model.specs.Shares.{Lanes, Share, State, Trace, header_of, line_share, put_share, share_at}
use Rattle.op_model.specs.Tables.Processor.{call_in}
use Rattle.op_model.proofs.Public.{eqb-self, same_class-is}
use Rattle.line_invariant.specs.Rows.{with_header, with_header_ok}
use Rattle.one_history.proofs.Shares.{row_past, taken_of}

-- an outcome by the node's own share, and by a share with the home's header: they may differ in the header, elsewhere than at the home
abbrev pub IsOwn : Sizes → ℕ → ℕ → Outcome → Outcome → Type 0
IsOwn sizes node line own outcome = (header : Header) × (own ≡ with_header header outcome) × ((node == home_of sizes line) ≡ true → header ≡ outcome.share.header)

module _ (sizes : Sizes) (state : State) (node line : ℕ) where
  abbrev own : LineShare
  own = line_share sizes (state.share node) line

  abbrev whole : LineShare
  whole = share_at sizes state node line

  pub at-home : (node == home_of sizes line) ≡ true → own ≡ whole
  at-home e = let same : node ≡ home_of sizes line = grind (arith, nat_tests) in ap (λ k. record whole { header = header_of sizes (state.share k) line }) same

  pub own-row : (f : LineShare → Outcome) → (node ≢ home_of sizes line → (s : LineShare) (h : Header) → f (record s { header = h }) ≡ with_header h (f s)) → IsOwn sizes node line (f own) (f whole)
  own-row f free = go (node == home_of sizes line) refl
    where
      go : (c : Bool) → (node == home_of sizes line) ≡ c → IsOwn sizes node line (f own) (f whole)
      go true e = ((f whole).share.header, ap f (at-home e), λ t. refl)
      go false e = let apart : node ≢ home_of sizes line = grind (arith, nat_tests) in (header_of sizes (state.share node) line, free apart whole _, λ t. absurd (let d : true ≡ false = sym t ∙ e in cc))

  pub own-ok : (f : LineShare → Result Outcome Cause) → (node ≢ home_of sizes line → (s : LineShare) (h : Header) → f (record s { header = h }) ≡ with_header_ok h (f s)) → (o : Outcome) → f own ≡ Ok o →
      (x : Outcome) × (f whole ≡ Ok x) × IsOwn sizes node line o x
  own-ok f free o e = go (node == home_of sizes line) refl
    where
      away : (h : Header) (r : Result Outcome Cause) → f whole ≡ r → with_header_ok h r ≡ Ok o → (x : Outcome) × (f whole ≡ Ok x) × (o ≡ with_header h x)
      away h (Ok x) is e = (x, is, sym (let d : Ok (with_header h x) ≡ Ok o = e in cc))
      away h (Err c) is e = absurd (let d : ◌≡◌ {A = Result Outcome Cause} (Err c) (Ok o) = e in cc)

      go : (c : Bool) → (node == home_of sizes line) ≡ c → (x : Outcome) × (f whole ≡ Ok x) × IsOwn sizes node line o x
      go true t = (o, ap f (sym (at-home t)) ∙ e, (o.share.header, refl, λ t. refl))
      go false t =
          let apart : node ≢ home_of sizes line = grind (arith, nat_tests) in
          let x = away (header_of sizes (state.share node) line) (f whole) refl (sym (free apart whole _) ∙ e) in
          (x.0, x.1, (header_of sizes (state.share node) line, x.2, λ y. absurd (let d : true ≡ false = sym y ∙ t in cc)))

same-put : (sizes : Sizes) (at_home : Bool) (line : ℕ) (done : Bool) (h : Header) (row : LineShare) (share : Share) → (at_home ≡ true → h ≡ row.header) → put_share sizes at_home line done (record row { header = h }) share ≡ put_share sizes at_home line done row share
unfolding put_share
same-put sizes true line done h row share same = ap (λ k. put_share sizes true line done (record row { header = k }) share) (same refl)
same-put sizes false line done h row share same = refl

module _ (trace : Trace) (past : Past) (node line : ℕ) (own outcome : Outcome) (off : Off) (lane : Lanes) where
  -- the machine after what a node does is the machine after the row
  pub own-past : IsOwn trace.sizes node line own outcome → ((a b : ℕ) (class : Class) → drop (off a b class) (past.state.lane a b class) ≡ lane a b class) →
      past_after trace.sizes past (record { node = node; out = by_row trace.sizes node (past.state.share node) line own; off = off }) ≡ row_past trace.sizes past node line outcome lane
  own-past is dropped =
      ap (λ o. past_after trace.sizes past (record { node = node; out = by_row trace.sizes node (past.state.share node) line o; off = off })) is.1
      ∙ (λ i. record (row_past trace.sizes past node line outcome lane) {
        state = record {
          share = put_at past.state.share node (same-put trace.sizes (node == home_of trace.sizes line) line outcome.done is.0 outcome.share (past.state.share node) is.2 i);
          lane = λ a b class. dropped a b class i ++ cond (a == node) (to_lane b class (messages line outcome.sends)) [];
        };
      })

pub none-dropped : (state : State) (a b : ℕ) (class : Class) → drop (none_off a b class) (state.lane a b class) ≡ state.lane a b class
none-dropped state a b class = refl

pub one-dropped : (state : State) (src dst : ℕ) (class : Class) (m : Msg) (rest : List Msg) → state.lane src dst class ≡ m ∷ rest → (a b : ℕ) (k : Class) → drop (one_off src dst class a b k) (state.lane a b k) ≡ taken_of src dst class rest state.lane a b k
one-dropped state src dst class m rest front a b k = go (b == dst) (a == src) (same_class k class) refl refl refl
  where
    go : (c d e : Bool) → (b == dst) ≡ c → (a == src) ≡ d → same_class k class ≡ e → drop (cond (c && (d && e)) 1 0) (state.lane a b k) ≡ cond (c && (d && e)) rest (state.lane a b k)
    go true true true x y z =
        let is_to : b ≡ dst = grind (arith, nat_tests) in
        let is_from : a ≡ src = grind (arith, nat_tests) in
        let is_class : k ≡ class = same_class-is k class z in
        let same : state.lane a b k ≡ state.lane src dst class = (λ i. state.lane (is_from i) (is_to i) (is_class i)) in
        ap (drop 1) (same ∙ front)
    go true true false x y z = refl
    go true false e x y z = refl
    go false d e x y z = refl

pub to_lane-append : (b : ℕ) (class : Class) (xs ys : List (ℕ × Msg)) → to_lane b class (xs ++ ys) ≡ to_lane b class xs ++ to_lane b class ys
to_lane-append b class [] ys = refl
to_lane-append b class (x ∷ xs) ys = go ((x.0 == b) && same_class class (msg_class x.1)) (to_lane-append b class xs ys)
  where
    go : (c : Bool) → to_lane b class (xs ++ ys) ≡ to_lane b class xs ++ to_lane b class ys → cond c (x.1 ∷ to_lane b class (xs ++ ys)) (to_lane b class (xs ++ ys)) ≡ cond c (x.1 ∷ to_lane b class xs) (to_lane b class xs) ++ to_lane b class ys
    go true e = ap (λ l. x.1 ∷ l) e
    go false e = e

-- a line that is called in after a row is a second row
module _ (trace : Trace) (past : Past) (dst victim : ℕ) (out : NodeOutcome) (off : Off) where
  abbrev sizes : Sizes
  sizes = trace.sizes

  abbrev first : Past
  first = past_after trace.sizes past (record { node = dst; out = out; off = off })

  abbrev called : Share → NodeOutcome
  called share = by_row sizes dst share victim (call_in (line_share sizes share victim))

  part-is : first.state.share dst ≡ out.share
  part-is = ap (λ c. cond c out.share (past.state.share dst)) (eqb-self dst)

  pub call-past : past_after trace.sizes past (record { node = dst; out = and_call sizes dst victim out; off = off })
      ≡ past_after trace.sizes first (record { node = dst; out = called (first.state.share dst); off = none_off })
  call-past = λ i. record {
    state = record { share = λ n. shares n i; lane = λ a b class. lanes a b class i };
    served = sym (append-nil first.served) i;
  }
    where
      shares : (n : ℕ) → put_at past.state.share dst (called out.share).share n ≡ put_at first.state.share dst (called (first.state.share dst)).share n
      shares n = go (n == dst)
        where
          go : (c : Bool) → cond c (called out.share).share (past.state.share n) ≡ cond c (called (first.state.share dst)).share (cond c out.share (past.state.share n))
          go true = ap (λ p. (called p).share) (sym part-is)
          go false = refl

      lanes : (a b : ℕ) (class : Class) → drop (off a b class) (past.state.lane a b class) ++ cond (a == dst) (to_lane b class (out.sends ++ (called out.share).sends)) []
          ≡ (drop (off a b class) (past.state.lane a b class) ++ cond (a == dst) (to_lane b class out.sends) []) ++ cond (a == dst) (to_lane b class (called (first.state.share dst)).sends) []
      lanes a b class = go (a == dst)
        where
          go : (c : Bool) → drop (off a b class) (past.state.lane a b class) ++ cond c (to_lane b class (out.sends ++ (called out.share).sends)) []
              ≡ (drop (off a b class) (past.state.lane a b class) ++ cond c (to_lane b class out.sends) []) ++ cond c (to_lane b class (called (first.state.share dst)).sends) []
          go true =
              ap (λ l. drop (off a b class) (past.state.lane a b class) ++ l) (to_lane-append b class out.sends (called out.share).sends ∙ ap (λ p. to_lane b class out.sends ++ to_lane b class (called p).sends) (sym part-is))
              ∙ sym (append_assoc (drop (off a b class) (past.state.lane a b class)) (to_lane b class out.sends) (to_lane b class (called (first.state.share dst)).sends))
          go false = sym (append-nil (drop (off a b class) (past.state.lane a b class) ++ []))
