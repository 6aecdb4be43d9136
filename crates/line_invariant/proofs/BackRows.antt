-- The owner's reply to the home, a ShWb, a FAck or a Nakc, keeps the line good.
-- The reply under way tells the phase, and the phase after it is told by whether the line is still held.
use Rattle.std.proofs.Common.{◌≡◌, ◌≢◌, ℕ, Bool, true, false, cond, ◌==◌, ◌&&◌, ◌||◌, not, List, [], refl, arith, ap, sym, ◌∙◌, Option}
use Rattle.std.proofs.Math.Bool.{and-false}
use Rattle.std.proofs.lemmas.Bool.{ne_eqb}
use Rattle.std.proofs.lemmas.Bool.Decides.{nat_tests}
use Rattle.line_invariant.specs.Types.{Want, Nobody, Me, Node, ForwardGet, ForwardGetX, Class, Request, Reply}
use Rattle.op_model.specs.Nodes.{listed, enlist, unlist, none, only, listings, same_nodes, listed-none}
use Rattle.op_model.specs.Operations.{Words}
use Rattle.op_model.specs.Messages.{Content}
use Rattle.op_model.specs.Lines.{Copy, no_message}
use Rattle.op_model.specs.Tables.Home.{on_shwb, on_fack, on_nakc, requester_of}
use Rattle.op_model.specs.Events.Step.{put_at}
use Rattle.op_model.proofs.Public.{eqb-self}
use Rattle.line_invariant.specs.Line.{Lanes, Line, share_of, after_row, sent, taken}
use Rattle.line_invariant.specs.Good.{Status, Carrier, Resting, Duty, NoDuty, ToGive, Returned, Handed, Refused, Phase, Clean, HomeOwns, Owned, Called, Asked, SharedOut, HandedOn, MayShare, Bare, Holds, Usual, ByForward, asked_role, asked_list, told_part, answer_part, expected, role_in, IsGoodNode, IsGood, IsGoodHeader, IsGoodHome, IsOnDuty, IsAskedBy}
use Rattle.line_invariant.proofs.ForwardNodes.{node-bare-shares}
use Rattle.line_invariant.proofs.HomeRows.{home-rests}
use Rattle.line_invariant.proofs.Marks.{keep}
use Rattle.line_invariant.proofs.Steps.{home-step}

lanes-back : (home p : ℕ) (lane : Lanes) (status : ℕ → Status) → p ≢ home → ((a b : ℕ) (class : Class) → lane a b class ≡ expected home status a b class) →
    (rest : List Content) → rest ≡ [] → told_part (status p).duty ≡ [] → answer_part p (status home).carrier ≡ [] →
    (a b : ℕ) (class : Class) → sent home no_message (taken p home Reply rest lane) a b class ≡ expected home (put_at status p (record (status p) { duty = NoDuty })) a b class
lanes-back home p lane status apart lanes rest empty silent quiet a b Request = grind (arith, nat_tests, lanes a b Request)
lanes-back home p lane status apart lanes rest empty silent quiet a b Reply = grind (arith, nat_tests, lanes a b Reply)

-- the phases in which these replies are under way
pub returned-phase : (home : ℕ) (words : Words) (phase : Phase) (p : ℕ) (lists : Bool) (duty : Duty) (has : Words) → IsOnDuty (role_in home words phase p) lists duty → duty ≡ Returned has → (r : ℕ) × (phase ≡ SharedOut r p) × (r ≢ home) × (has ≡ words)
returned-phase home words Clean p lists duty has on is = absurd (grind arith)
returned-phase home words HomeOwns p lists duty has on is = absurd (grind arith)
returned-phase home words (Owned o) p lists duty has on is = absurd (grind arith)
returned-phase home words (Called Nobody) p lists duty has on is = absurd (grind arith)
returned-phase home words (Called Me) p lists duty has on is = absurd (grind arith)
returned-phase home words (Called (Node g)) p lists duty has on is = absurd (grind arith)
returned-phase home words (Asked w q o f h) p lists duty has on is = absurd (asked (p == o) f h on)
  where
    asked : (c f h : Bool) → IsOnDuty (cond c (asked_role h (cond f Refused (ToGive w q))) (Bare (cond ((p == q) && not f) (ByForward w) Usual) NoDuty)) lists duty → ⊥
    asked true f true on = grind arith
    asked true f false on = grind arith
    asked false f h on = grind arith
returned-phase home words (SharedOut r o) p lists duty has on is = (r, grind (arith, nat_tests), grind (arith, nat_tests), grind (arith, nat_tests))
returned-phase home words (HandedOn r o h) p lists duty has on is = absurd (handed (p == o) (r == home) (h && (p == r)) on)
  where
    handed : (c d e : Bool) → IsOnDuty (cond c (Bare Usual (cond d NoDuty Handed)) (asked_role e NoDuty)) lists duty → ⊥
    handed true d e on = grind arith
    handed false d true on = grind arith
    handed false d false on = grind arith

pub handed-phase : (home : ℕ) (words : Words) (phase : Phase) (p : ℕ) (lists : Bool) (duty : Duty) → IsOnDuty (role_in home words phase p) lists duty → duty ≡ Handed → (r : ℕ) × (h : Bool) × (phase ≡ HandedOn r p h) × (r ≢ home)
handed-phase home words Clean p lists duty on is = absurd (grind arith)
handed-phase home words HomeOwns p lists duty on is = absurd (grind arith)
handed-phase home words (Owned o) p lists duty on is = absurd (grind arith)
handed-phase home words (Called Nobody) p lists duty on is = absurd (grind arith)
handed-phase home words (Called Me) p lists duty on is = absurd (grind arith)
handed-phase home words (Called (Node g)) p lists duty on is = absurd (grind arith)
handed-phase home words (Asked w q o f h) p lists duty on is = absurd (asked (p == o) f h on)
  where
    asked : (c f h : Bool) → IsOnDuty (cond c (asked_role h (cond f Refused (ToGive w q))) (Bare (cond ((p == q) && not f) (ByForward w) Usual) NoDuty)) lists duty → ⊥
    asked true f true on = grind arith
    asked true f false on = grind arith
    asked false f h on = grind arith
handed-phase home words (SharedOut r o) p lists duty on is = absurd (grind arith)
handed-phase home words (HandedOn r o h) p lists duty on is = let t = handed (p == o) (r == home) (h && (p == r)) refl refl on in (r, h, t.0, t.1)
  where
    handed : (c d e : Bool) → (p == o) ≡ c → (r == home) ≡ d → IsOnDuty (cond c (Bare Usual (cond d NoDuty Handed)) (asked_role e NoDuty)) lists duty → (HandedOn r o h ≡ HandedOn r p h) × (r ≢ home)
    handed true false e x y on = (let same : o ≡ p = grind (arith, nat_tests) in cc, grind (arith, nat_tests))
    handed true true e x y on = absurd (grind arith)
    handed false d true x y on = absurd (grind arith)
    handed false d false x y on = absurd (grind arith)

pub refused-phase : (home : ℕ) (words : Words) (phase : Phase) (p : ℕ) (lists : Bool) (duty : Duty) → IsOnDuty (role_in home words phase p) lists duty → duty ≡ Refused → (w : Bool) × (r : ℕ) × (h : Bool) × (phase ≡ Asked w r p true h)
refused-phase home words Clean p lists duty on is = absurd (grind arith)
refused-phase home words HomeOwns p lists duty on is = absurd (grind arith)
refused-phase home words (Owned o) p lists duty on is = absurd (grind arith)
refused-phase home words (Called Nobody) p lists duty on is = absurd (grind arith)
refused-phase home words (Called Me) p lists duty on is = absurd (grind arith)
refused-phase home words (Called (Node g)) p lists duty on is = absurd (grind arith)
refused-phase home words (Asked w r o f h) p lists duty on is = (w, r, h, asked (p == o) f h refl on)
  where
    asked : (c f h : Bool) → (p == o) ≡ c → IsOnDuty (cond c (asked_role h (cond f Refused (ToGive w r))) (Bare (cond ((p == r) && not f) (ByForward w) Usual) NoDuty)) lists duty → Asked w r o f h ≡ Asked w r p true h
    asked true true h e on = let same : o ≡ p = grind (arith, nat_tests) in cc
    asked true false true e on = cc
    asked true false false e on = cc
    asked false f h e on = cc
refused-phase home words (SharedOut r o) p lists duty on is = absurd (grind arith)
refused-phase home words (HandedOn r o h) p lists duty on is = absurd (handed (p == o) (r == home) (h && (p == r)) on)
  where
    handed : (c d e : Bool) → IsOnDuty (cond c (Bare Usual (cond d NoDuty Handed)) (asked_role e NoDuty)) lists duty → ⊥
    handed true true e on = grind arith
    handed true false e on = grind arith
    handed false d true on = grind arith
    handed false d false on = grind arith

module _ (words : Words) (lists : Bool) (copy : Copy) (want : Option Want) (status : Status) where
  node-keeps : (d e : Duty) (listed : Bool) → IsGoodNode (MayShare d) words lists copy want status → listed ≡ lists → IsGoodNode (MayShare e) words listed copy want (record status { duty = e })
  node-keeps d e listed good same = grind arith

  node-off : (d e : Duty) (listed : Bool) → IsGoodNode (Bare Usual d) words lists copy want status → IsGoodNode (Bare Usual e) words listed copy want (record status { duty = e })
  node-off d e listed good = grind arith

  node-off-shares : (d e : Duty) (listed : Bool) → IsGoodNode (Bare Usual d) words lists copy want status → IsGoodNode (MayShare e) words listed copy want (record status { duty = e })
  node-off-shares d e listed good = grind arith

  node-still-holds : (d e : Duty) (listed : Bool) → IsGoodNode (Holds d) words lists copy want status → IsGoodNode (Holds e) words listed copy want (record status { duty = e })
  node-still-holds d e listed good = grind arith

relist : (words : Words) (lists : Bool) (copy : Copy) (want : Option Want) (status : Status) (c : Bool) (listed : Bool) → IsGoodNode (cond c (Holds NoDuty) (Bare Usual NoDuty)) words lists copy want status → IsGoodNode (cond c (Holds NoDuty) (Bare Usual NoDuty)) words listed copy want status
relist words lists copy want status true listed good = grind arith
relist words lists copy want status false listed good = grind arith

nakc-rests : (p : ℕ) (carries : Carrier) (w c : Bool) → IsAskedBy c true w p carries → answer_part p carries ≡ [] → carries ≡ Resting
nakc-rests p carries w true asked quiet = grind (arith, nat_tests)
nakc-rests p carries w false asked quiet = asked

only-again : (o r : ℕ) → r ≢ o → (c : Bool) → unlist (cond c (only o) (enlist (only o) r)) r ≡ only o
only-again o r other true = same_nodes _ _ (λ q. grind (arith, nat_tests, listings))
only-again o r other false = same_nodes _ _ (λ q. grind (arith, nat_tests, listings))

module _ (home : ℕ) (line : Line) (good : IsGood home line) (p : ℕ) (apart : p ≢ home) (rest : List Content) (empty : rest ≡ []) (quiet : answer_part p (good.status home).carrier ≡ []) where
  -- the owner has shared its copy
  pub good-shwb : (r : ℕ) (has : Words) → good.phase ≡ SharedOut r p → r ≢ home → has ≡ line.words → (good.status p).duty ≡ Returned has →
      IsGood home (after_row home home (on_shwb has (share_of line home)) (record line { lane = taken p home Reply rest line.lane }))
  unfolding on_shwb
  good-shwb r has phase far same duty =
      let header : IsGoodHeader home (SharedOut r p) line.words line.header (line.copy home) = rw phase at good.header in
      let at_home : IsGoodHome home (SharedOut r p) line.words (line.copy home) (line.want home) (good.status home) = rw phase at good.at_home in
      let off : (r == home) ≡ false = ne_eqb r home far in
      home-step home p line good apart (on_shwb has (share_of line home)) Clean (record (good.status p) { duty = NoDuty }) (taken p home Reply rest line.lane)
      (keep line.answered good.status good.answered p _ refl)
      (lanes-back home p line.lane good.status apart good.lanes rest empty (rw duty) quiet)
      (refl, refl, same, rw header.3 tt, rw header.3 tt)
      good.local good.unlisted
      (home-rests home (SharedOut r p) Clean line.words line.words (line.copy home) _ (line.want home) (good.status home) at_home (rw off at at_home.carrier) refl)
      (node-keeps line.words _ (line.copy p) (line.want p) (good.status p) _ NoDuty _ (rw phase at (good.nodes p apart)) refl)
      (λ node far other. rw (ne_eqb node p other) at (rw phase at (good.nodes node far)))

  -- the owner has handed its copy on
  pub good-fack : (r : ℕ) (holds : Bool) → good.phase ≡ HandedOn r p holds → r ≢ home → (good.status p).duty ≡ Handed →
      IsGood home (after_row home home (on_fack (share_of line home)) (record line { lane = taken p home Reply rest line.lane }))
  unfolding on_fack
  good-fack r true phase far duty =
      let header : IsGoodHeader home (HandedOn r p true) line.words line.header (line.copy home) = rw phase at good.header in
      let at_home : IsGoodHome home (HandedOn r p true) line.words (line.copy home) (line.want home) (good.status home) = rw phase at good.at_home in
      let off : (r == home) ≡ false = ne_eqb r home far in
      let list : cond line.header.dirty (only (requester_of line.header.wait)) none ≡ only r = ap (λ d. cond d (only (requester_of line.header.wait)) none) header.1 ∙ ap (λ w. only (requester_of w)) header.0 in
      let apart_r : p ≢ r = λ e. header.6 (sym e) in
      let far' : home ≢ r = λ e. far (sym e) in
      home-step home p line good apart (on_fack (share_of line home)) (Owned r) (record (good.status p) { duty = NoDuty }) (taken p home Reply rest line.lane)
      (keep line.answered good.status good.answered p _ refl)
      (lanes-back home p line.lane good.status apart good.lanes rest empty (rw duty) quiet)
      (refl, header.1, list, header.4, far)
      good.local (ap (λ l. listed l home) list ∙ grind (arith, nat_tests, listings))
      (home-rests home (HandedOn r p true) (Owned r) line.words line.words (line.copy home) _ (line.want home) (good.status home) at_home (rw off at at_home.carrier) refl)
      (rw (ne_eqb p r apart_r) (node-off line.words _ (line.copy p) (line.want p) (good.status p) _ NoDuty _ (rw (eqb-self p) at (rw phase at (good.nodes p apart)))))
      (λ node far other. relist line.words _ (line.copy node) (line.want node) (good.status node) (node == r) _ (rw (ne_eqb node p other) at (rw phase at (good.nodes node far))))
  good-fack r false phase far duty =
      let header : IsGoodHeader home (HandedOn r p false) line.words line.header (line.copy home) = rw phase at good.header in
      let at_home : IsGoodHome home (HandedOn r p false) line.words (line.copy home) (line.want home) (good.status home) = rw phase at good.at_home in
      let off : (r == home) ≡ false = ne_eqb r home far in
      let list : cond line.header.dirty (only (requester_of line.header.wait)) none ≡ none = ap (λ d. cond d (only (requester_of line.header.wait)) none) header.1 in
      home-step home p line good apart (on_fack (share_of line home)) Clean (record (good.status p) { duty = NoDuty }) (taken p home Reply rest line.lane)
      (keep line.answered good.status good.answered p _ refl)
      (lanes-back home p line.lane good.status apart good.lanes rest empty (rw duty) quiet)
      (refl, header.1, header.2, rw header.4 tt, rw header.4 tt)
      good.local (ap (λ l. listed l home) list ∙ listed-none home)
      (home-rests home (HandedOn r p false) Clean line.words line.words (line.copy home) _ (line.want home) (good.status home) at_home (rw off at at_home.carrier) refl)
      (node-off-shares line.words _ (line.copy p) (line.want p) (good.status p) _ NoDuty _ (rw (eqb-self p) at (rw phase at (good.nodes p apart))))
      (λ node far other. node-bare-shares line.words _ (line.copy node) (line.want node) (good.status node) NoDuty _ (rw (ne_eqb node p other) at (rw phase at (good.nodes node far))))

  -- the owner had nothing to give
  pub good-nakc : (w : Bool) (r : ℕ) (holds : Bool) → good.phase ≡ Asked w r p true holds → (good.status p).duty ≡ Refused →
      IsGood home (after_row home home (on_nakc (share_of line home)) (record line { lane = taken p home Reply rest line.lane }))
  unfolding on_nakc
  good-nakc w r true phase duty =
      let header : IsGoodHeader home (Asked w r p true true) line.words line.header (line.copy home) = rw phase at good.header in
      let at_home : IsGoodHome home (Asked w r p true true) line.words (line.copy home) (line.want home) (good.status home) = rw phase at good.at_home in
      let rests : (good.status home).carrier ≡ Resting = nakc-rests p _ w (r == home) at_home.carrier quiet in
      let asker : requester_of line.header.wait ≡ r = ap requester_of header.0 ∙ either w in
      let list : cond line.header.dirty (unlist line.header.list (requester_of line.header.wait)) none ≡ only p =
      ap (λ d. cond d (unlist line.header.list (requester_of line.header.wait)) none) header.1 ∙ ap (λ l. unlist l (requester_of line.header.wait)) header.3 ∙ ap (λ q. unlist (asked_list home w r p) q) asker ∙ only-again p r header.6 (w || (r == home)) in
      let far' : home ≢ p = λ e. apart (sym e) in
      home-step home p line good apart (on_nakc (share_of line home)) (Owned p) (record (good.status p) { duty = NoDuty }) (taken p home Reply rest line.lane)
      (keep line.answered good.status good.answered p _ refl)
      (lanes-back home p line.lane good.status apart good.lanes rest empty (rw duty) quiet)
      (refl, header.1, list, header.4, apart)
      good.local (ap (λ l. listed l home) list ∙ grind (arith, nat_tests, listings))
      (home-rests home (Asked w r p true true) (Owned p) line.words line.words (line.copy home) _ (line.want home) (good.status home) at_home rests refl)
      (rw (eqb-self p) (node-still-holds line.words _ (line.copy p) (line.want p) (good.status p) Refused NoDuty _ (rw (eqb-self p) at (rw phase at (good.nodes p apart)))))
      (λ node far other. rw (ne_eqb node p other) (relist line.words _ (line.copy node) (line.want node) (good.status node) false _ (rw (ne_eqb node p other, and-false) at (rw phase at (good.nodes node far)))))
    where
      either : (c : Bool) → requester_of (cond c (ForwardGetX r) (ForwardGet r)) ≡ r
      either true = refl
      either false = refl
  good-nakc w r false phase duty =
      let header : IsGoodHeader home (Asked w r p true false) line.words line.header (line.copy home) = rw phase at good.header in
      let at_home : IsGoodHome home (Asked w r p true false) line.words (line.copy home) (line.want home) (good.status home) = rw phase at good.at_home in
      let rests : (good.status home).carrier ≡ Resting = nakc-rests p _ w (r == home) at_home.carrier quiet in
      let list : cond line.header.dirty (unlist line.header.list (requester_of line.header.wait)) none ≡ none = ap (λ d. cond d (unlist line.header.list (requester_of line.header.wait)) none) header.1 in
      home-step home p line good apart (on_nakc (share_of line home)) Clean (record (good.status p) { duty = NoDuty }) (taken p home Reply rest line.lane)
      (keep line.answered good.status good.answered p _ refl)
      (lanes-back home p line.lane good.status apart good.lanes rest empty (rw duty) quiet)
      (refl, header.1, header.2, rw header.4 tt, rw header.4 tt)
      good.local (ap (λ l. listed l home) list ∙ listed-none home)
      (home-rests home (Asked w r p true false) Clean line.words line.words (line.copy home) _ (line.want home) (good.status home) at_home rests refl)
      (node-off-shares line.words _ (line.copy p) (line.want p) (good.status p) _ NoDuty _ (rw (eqb-self p) at (rw phase at (good.nodes p apart))))
      (λ node far other. node-bare-shares line.words _ (line.copy node) (line.want node) (good.status node) NoDuty _ (rw (ne_eqb node p other, and-false) at (rw phase at (good.nodes node far))))
