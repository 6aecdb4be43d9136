-- A lane from a node to itself is empty. Of a line of that node it is spelled so, since the home owes itself nothing and another
-- node answers it; and of another home's line no row sends to its own node.
use Rattle.std.proofs.Common.{◌≡◌, ◌≢◌, ℕ, ◌<◌, Bool, true, false, cond, ◌==◌, List, [], ◌∷◌, ◌++◌, refl, arith, ap, sym, ◌∙◌, subst, Some}
use Rattle.std.proofs.lemmas.Bool.Decides.{nat_tests}
use Rattle.line_map.specs.Sizes.{home_of}
use Rattle.op_model.specs.Lines.{Copy, Header}
use Rattle.op_model.specs.Messages.{Put, PutX, msg_content, msg_line}
use Rattle.op_model.specs.Operations.{Words}
use Rattle.op_model.specs.Run.Runs.{Past, run}
use Rattle.op_model.specs.Shares.{Charge, Trace}
use Rattle.op_model.specs.declared.events.Class.TheVariants.{Reply, Request}
use Rattle.op_model.specs.declared.events.Class.{Class}
use Rattle.op_model.specs.declared.events.Event.{Event}
use Rattle.op_model.specs.declared.messages.Msg.{Msg}
use Rattle.op_model.proofs.Public.{eqb-self}
use Rattle.line_invariant.specs.Good.{Answered, Asked, Called, Carrier, Clean, HandedOn, HomeOwns, IsAskedBy, IsGood, IsGoodHeader, IsHomeCarrier, IsRefusal, Owned, Phase, Resting, SharedOut, answer_part, asking_part, leaving_part, reply_part}
use Rattle.line_invariant.specs.Line.{Line}
use Rattle.line_invariant.specs.Types.{Me, Nobody, Node}
use Rattle.line_invariant.proofs.Public.{silent-home}
use Rattle.one_history.specs.Project.{line_words, of_line, project}
use Rattle.one_history.specs.Sound.{IsSound, answered_of}
use Rattle.one_history.proofs.Public.{of_line-front}
use Rattle.lane_bounds.proofs.Kept.{IsBounded}
use Rattle.lane_bounds.proofs.Runs.{bounded-run}

-- the home is answered by another node
own-answer : (home : ℕ) (words : Words) (phase : Phase) (header : Header) (copy : Copy) (carries : Carrier) → IsGoodHeader home phase words header copy → IsHomeCarrier home words phase carries → answer_part home carries ≡ []
own-answer home words Clean header copy carries good is = grind arith
own-answer home words HomeOwns header copy carries good is = grind arith
own-answer home words (Owned o) header copy carries good is = grind arith
own-answer home words (Called Nobody) header copy carries good is = grind arith
own-answer home words (Called Me) header copy carries good is = grind arith
own-answer home words (Called (Node n)) header copy carries good is = grind arith
own-answer home words (Asked w r o f h) header copy carries good is = asked (r == home) f is good.5
  where
    asked : (c f : Bool) → IsAskedBy c f w o carries → o ≢ home → answer_part home carries ≡ []
    asked true true is far = refused carries is far
      where
        refused : (carries : Carrier) → IsRefusal o carries → o ≢ home → answer_part home carries ≡ []
        refused carries is far = grind (arith, nat_tests)
    asked true false is far = grind arith
    asked false f is far = grind arith
own-answer home words (SharedOut r o) header copy carries good is = shared (r == home) is good.4
  where
    shared : (c : Bool) → carries ≡ cond c (Answered o (Put words)) Resting → o ≢ home → answer_part home carries ≡ []
    shared true is far = grind (arith, nat_tests)
    shared false is far = grind arith
own-answer home words (HandedOn r o h) header copy carries good is = handed (r == home) is good.5
  where
    handed : (c : Bool) → carries ≡ cond c (Answered o (PutX words)) Resting → o ≢ home → answer_part home carries ≡ []
    handed true is far = grind (arith, nat_tests)
    handed false is far = grind arith

own-lane : (home : ℕ) (line : Line) → IsGood home line → (class : Class) → line.lane home home class ≡ []
own-lane home line good Request =
    let e = simp (eqb-self home) at (good.lanes home home Request) in
    let at_home = good.at_home in
    let s : asking_part (good.status home).carrier ≡ [] = silent-home home line.words good.phase _ at_home.carrier in
    let t : leaving_part (good.status home).leaving ≡ [] = rw at_home.stays in
    e ∙ ap (λ xs. xs ++ asking_part (good.status home).carrier) t ∙ s
own-lane home line good Reply =
    let e = simp (eqb-self home) at (good.lanes home home Reply) in
    let at_home = good.at_home in
    let s : answer_part home (good.status home).carrier ≡ [] = own-answer home line.words good.phase line.header (line.copy home) _ good.header at_home.carrier in
    let t : reply_part (good.status home).duty ≡ [] = rw at_home.off_duty in
    e ∙ ap (λ xs. xs ++ reply_part (good.status home).duty) s ∙ t

-- a lane in which no line has a message is empty
pub no-lines : (ms : List Msg) → ((line : ℕ) → of_line line ms ≡ []) → ms ≡ []
no-lines [] h = refl
no-lines (m ∷ ms) h = absurd (let n : [] ≡ msg_content m ∷ of_line (msg_line m) ms = sym (h (msg_line m)) ∙ of_line-front m ms in cc)

pub own_lane : (charge : Charge) (trace : Trace) (events : List Event) (past : Past) (n : ℕ) (class : Class) → 0 < trace.sizes.words → run charge trace events ≡ Some past → past.state.lane n n class ≡ []
unfolding project
own_lane charge trace events past n class positive e =
    let both = bounded-run charge trace events past positive e in
    no-lines (past.state.lane n n class) (λ line. go both.0 both.1 line (home_of trace.sizes line == n) refl)
  where
    go : IsSound trace past → IsBounded charge trace.sizes past.state → (line : ℕ) (c : Bool) → (home_of trace.sizes line == n) ≡ c → of_line line (past.state.lane n n class) ≡ []
    go sound bounded line true e =
        let same : home_of trace.sizes line ≡ n = grind (arith, nat_tests) in
        subst (λ k. of_line line (past.state.lane k k class) ≡ []) same (own-lane (home_of trace.sizes line) (project trace.sizes past.state (line_words trace.sizes past.served line) (answered_of trace.sizes past line) line) (sound.lines line) class)
    go sound bounded line false e = bounded.apart line n class (let far : home_of trace.sizes line ≢ n = grind (arith, nat_tests) in far)
