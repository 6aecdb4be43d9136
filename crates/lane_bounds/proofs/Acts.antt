-- What an event does, as rows of the whole machine: at which node and line, with which outcome, the line that is then called in,
-- and the lanes without the message that it takes. The messages of a row are told lane by lane, all of one line.
use Rattle.std.proofs.Common.{◌≡◌, ℕ, Bool, true, false, cond, ◌==◌, ◌&&◌, List, [], ◌∷◌, ◌++◌, drop, refl, arith, ap, sym, ◌∙◌, subst, Option, Some, None, slice_get}
use Rattle.std.proofs.lemmas.Bool.Decides.{nat_tests}
use Rattle.line_map.specs.Sizes.{Sizes, home_of}
use Rattle.op_model.specs.declared.events.Class.{Class}
use Rattle.op_model.specs.declared.messages.Msg.{Msg}
use Rattle.op_model.specs.declared.operations.Op.{Op}
use Rattle.op_model.specs.Events.Node.{messages}
use Rattle.op_model.specs.Events.Step.{one_off, put_at, to_lane}
use Rattle.op_model.specs.Lines.{Outcome}
use Rattle.op_model.specs.Messages.{Content, class_of, message, msg_content-message, same_class}
use Rattle.op_model.specs.Shares.{Lanes, State, Trace, header_of, line_share, program, put_share, share_at}
use Rattle.op_model.specs.Tables.Processor.{call_in}
use Rattle.op_model.proofs.Public.{eqb-self, same_class-is}
use Rattle.line_invariant.specs.Line.{addressed}
use Rattle.one_history.proofs.Public.{header-kept}
use Rattle.one_history.proofs.Public as shares

-- messages of one line
abbrev pub tag : ℕ → List Content → List Msg
tag line [] = []
tag line (content ∷ contents) = message line content ∷ tag line contents

-- the lanes after a node has sent messages of a line
abbrev pub sent_of : ℕ → ℕ → List (ℕ × Content) → Lanes → Lanes
sent_of me line sends lane a b class = lane a b class ++ cond (a == me) (tag line (addressed b class sends)) []

-- the lanes after the first message of one is taken
abbrev pub taken_of : ℕ → ℕ → Class → List Msg → Lanes → Lanes
taken_of src dst class rest lane a b k = cond ((a == src) && (b == dst) && same_class k class) rest (lane a b k)

-- the state after a row of a line at a node
abbrev pub after_row_of : Sizes → ℕ → ℕ → Outcome → State → State
after_row_of sizes me line outcome state =
    record {
      share = put_at state.share me (put_share sizes (me == home_of sizes line) line outcome.done outcome.share (state.share me));
      lane = sent_of me line outcome.sends state.lane;
    }

pub record Act : Type 0 where
  pub node : ℕ
  pub line : ℕ
  pub outcome : Outcome
  pub called : Option ℕ
  pub lane : Lanes

-- a row that takes no message
abbrev pub just : State → ℕ → ℕ → Outcome → Act
just state node line outcome = record { node = node; line = line; outcome = outcome; called = None; lane = state.lane }

abbrev pub after_called : Sizes → ℕ → Option ℕ → State → State
after_called sizes node None state = state
after_called sizes node (Some line) state = after_row_of sizes node line (call_in (share_at sizes state node line)) state

unfoldable pub after_act : Sizes → Act → State → State
after_act sizes act state =
    after_called sizes act.node act.called (after_row_of sizes act.node act.line act.outcome (record state { lane = act.lane }))

-- the next operation of a node
abbrev pub next_op : Trace → State → ℕ → Option Op
next_op trace state node = slice_get (program trace node) (state.share node).place

pub lane-tagged : (line b : ℕ) (class : Class) (sends : List (ℕ × Content)) → to_lane b class (messages line sends) ≡ tag line (addressed b class sends)
lane-tagged line b class [] = refl
lane-tagged line b class (send ∷ sends) =
    ap (λ k. cond ((send.0 == b) && same_class class (class_of k)) (message line send.1 ∷ to_lane b class (messages line sends)) (to_lane b class (messages line sends))) (msg_content-message line send.1)
    ∙ go ((send.0 == b) && same_class class (class_of send.1)) (lane-tagged line b class sends)
  where
    go : (c : Bool) → to_lane b class (messages line sends) ≡ tag line (addressed b class sends) →
        cond c (message line send.1 ∷ to_lane b class (messages line sends)) (to_lane b class (messages line sends)) ≡ tag line (cond c (send.1 ∷ addressed b class sends) (addressed b class sends))
    go true e = ap (λ l. message line send.1 ∷ l) e
    go false e = e

-- the same state, with the messages sent in each lane by themselves
pub row-same : (sizes : Sizes) (me line : ℕ) (outcome : Outcome) (state : State) → shares.after_row_of sizes me line outcome state ≡ after_row_of sizes me line outcome state
row-same sizes me line outcome state = λ i. record {
  share = put_at state.share me (put_share sizes (me == home_of sizes line) line outcome.done outcome.share (state.share me));
  lane = λ a b class. state.lane a b class ++ cond (a == me) (lane-tagged line b class outcome.sends i) [];
}

pub one-taken : (state : State) (src dst : ℕ) (class : Class) (m : Msg) (rest : List Msg) → state.lane src dst class ≡ m ∷ rest → (a b : ℕ) (k : Class) → drop (one_off src dst class a b k) (state.lane a b k) ≡ taken_of src dst class rest state.lane a b k
one-taken state src dst class m rest front a b k = go (b == dst) (a == src) (same_class k class) refl refl refl
  where
    go : (c d e : Bool) → (b == dst) ≡ c → (a == src) ≡ d → same_class k class ≡ e → drop (cond (c && (d && e)) 1 0) (state.lane a b k) ≡ cond (d && c && e) rest (state.lane a b k)
    go true true true x y z =
        let is_dst : b ≡ dst = grind (arith, nat_tests) in
        let is_src : a ≡ src = grind (arith, nat_tests) in
        let is_class : k ≡ class = same_class-is k class z in
        let same : state.lane a b k ≡ state.lane src dst class = (λ i. state.lane (is_src i) (is_dst i) (is_class i)) in
        ap (drop 1) (same ∙ front)
    go true true false x y z = refl
    go true false e x y z = refl
    go false true e x y z = refl
    go false false e x y z = refl

-- a row at a home that leaves its share leaves the header of each of the home's lines
pub row-kept : (sizes : Sizes) (state : State) (lane : Lanes) (dst line g : ℕ) (outcome : Outcome) → (home_of sizes g == dst) ≡ true → outcome.share ≡ share_at sizes state dst line → (dst == home_of sizes line) ≡ true →
    header_of sizes ((after_row_of sizes dst line outcome (record state { lane = lane })).share (home_of sizes g)) g ≡ header_of sizes (state.share (home_of sizes g)) g
row-kept sizes state lane dst line g outcome here same at =
    let home : dst ≡ home_of sizes g = grind (arith, nat_tests) in
    let whose : dst ≡ home_of sizes line = grind (arith, nat_tests) in
    let own : outcome.share ≡ line_share sizes (state.share dst) line = same ∙ ap (λ k. record (share_at sizes state dst line) { header = header_of sizes (state.share k) line }) (sym whose) in
    let kept = header-kept sizes (dst == home_of sizes line) line outcome.done outcome.share (state.share dst) own g in
    subst (λ k. header_of sizes ((after_row_of sizes dst line outcome (record state { lane = lane })).share k) g ≡ header_of sizes (state.share k) g) home
    (ap (λ c. header_of sizes (cond c (put_share sizes (dst == home_of sizes line) line outcome.done outcome.share (state.share dst)) (state.share dst)) g) (eqb-self dst) ∙ kept)
