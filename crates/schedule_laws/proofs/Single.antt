-- A state with one message under way, or with what one row has sent: the first lane that isn't empty is known, and after the message is
-- taken there is only what its row has sent.
use Rattle.std.proofs.Common.{◌≡◌, ◌≢◌, ℕ, ◌+◌, ◌<◌, ◌≤◌, Bool, true, false, cond, ◌==◌, ◌&&◌, List, [], ◌∷◌, ◌++◌, refl, arith, ap, sym, ◌∙◌, Some}
use Rattle.std.proofs.lemmas.Bool.Decides.{nat_tests}
use Rattle.line_map.specs.Sizes.{Sizes}
use Rattle.op_model.specs.declared.events.Class.{Class}
use Rattle.op_model.specs.declared.events.Class.TheVariants.{Reply, Request}
use Rattle.op_model.specs.declared.messages.Msg.{Msg}
use Rattle.op_model.specs.Messages.{Content, class_of, message, msg_class, msg_content-message, same_class}
use Rattle.op_model.specs.Run.Schedules.{first_busy}
use Rattle.op_model.specs.Run.Weight.{total}
use Rattle.op_model.specs.Shares.{Lanes, State}
use Rattle.op_model.proofs.Public.{eqb-self, eqb-swap, same_class-is, same_class-self, total-zero}
use Rattle.line_invariant.specs.Line.{addressed}
use Rattle.lane_bounds.proofs.Public.{sent_of, tag, taken_of}
use Rattle.rest_laws.proofs.Public.{busy-some, first-some, sends_weight, total-same, weight-sent, weight_by}
use Rattle.schedule_laws.proofs.Settled.{still}
use Rattle.schedule_laws.proofs.Under.{AllUnder}

abbrev pub AreEmpty : Lanes → Type 0
AreEmpty lane = (a b : ℕ) (class : Class) → lane a b class ≡ []

-- there is only what a node has sent of a line
abbrev pub OnlySent : ℕ → ℕ → List (ℕ × Content) → Lanes → Type 0
OnlySent node line sends lane = (a b : ℕ) (class : Class) → lane a b class ≡ cond (a == node) (tag line (addressed b class sends)) []

-- there is only this message, from a node to another
abbrev pub OnlyOne : ℕ → ℕ → Msg → Lanes → Type 0
OnlyOne node to m lane = (a b : ℕ) (class : Class) → lane a b class ≡ cond ((a == node) && ((b == to) && same_class class (msg_class m))) (m ∷ []) []

-- a row that sends into empty lanes
pub only-sent : (node line : ℕ) (sends : List (ℕ × Content)) (lane : Lanes) → AreEmpty lane → OnlySent node line sends (sent_of node line sends lane)
only-sent node line sends lane empty a b class = ap (λ l. l ++ cond (a == node) (tag line (addressed b class sends)) []) (empty a b class)

pub none-sent : (node line : ℕ) (lane : Lanes) → OnlySent node line [] lane → AreEmpty lane
none-sent node line lane only a b class = only a b class ∙ go (a == node)
  where
    go : (c : Bool) → cond {A = List Msg} c [] [] ≡ []
    go true = refl
    go false = refl

-- one message sent is the only one
pub one-sent : (node line to : ℕ) (content : Content) (lane : Lanes) → OnlySent node line ((to, content) ∷ []) lane → OnlyOne node to (message line content) lane
one-sent node line to content lane only a b class = only a b class ∙ go (a == node) (to == b) (b == to) (eqb-swap to b) ∙ ap (λ c. cond ((a == node) && ((b == to) && same_class class (class_of c))) (message line content ∷ []) []) (sym (msg_content-message line content))
  where
    go : (c d e : Bool) → d ≡ e → cond c (tag line (cond (d && same_class class (class_of content)) (content ∷ []) [])) [] ≡ cond (c && (e && same_class class (class_of content))) (message line content ∷ []) []
    go false d e f = refl
    go true d e f = here d e f (same_class class (class_of content))
      where
        here : (d e : Bool) → d ≡ e → (k : Bool) → tag line (cond (d && k) (content ∷ []) []) ≡ cond (e && k) (message line content ∷ []) []
        here true true f true = refl
        here true true f false = refl
        here false false f k = refl
        here true false f k = cc
        here false true f k = cc

module _ (node to : ℕ) (m : Msg) (lane : Lanes) (only : OnlyOne node to m lane) where
  -- the lane of the message
  pub one-front : lane node to (msg_class m) ≡ m ∷ []
  one-front = only node to (msg_class m) ∙ go (node == node) (to == to) (same_class (msg_class m) (msg_class m)) (eqb-self node) (eqb-self to) (same_class-self (msg_class m))
    where
      go : (a b c : Bool) → a ≡ true → b ≡ true → c ≡ true → cond (a && (b && c)) (m ∷ []) [] ≡ m ∷ []
      go true true true x y z = refl
      go true true false x y z = cc
      go true false c x y z = cc
      go false b c x y z = cc

  -- a lane that isn't empty is that one
  pub one-lane : (a b : ℕ) (class : Class) → lane a b class ≢ [] → (a ≡ node) × (b ≡ to) × (class ≡ msg_class m)
  one-lane a b class some = go (a == node) (b == to) (same_class class (msg_class m)) refl refl refl (only a b class)
    where
      go : (c d e : Bool) → (a == node) ≡ c → (b == to) ≡ d → same_class class (msg_class m) ≡ e → lane a b class ≡ cond (c && (d && e)) (m ∷ []) [] → (a ≡ node) × (b ≡ to) × (class ≡ msg_class m)
      go true true true x y z is = (grind (arith, nat_tests), grind (arith, nat_tests), same_class-is class (msg_class m) z)
      go true true false x y z is = absurd (some is)
      go true false e x y z is = absurd (some is)
      go false d e x y z is = absurd (some is)

  -- without it all lanes are empty
  pub one-taken : AreEmpty (taken_of node to (msg_class m) [] lane)
  one-taken a b k = go (a == node) (b == to) (same_class k (msg_class m)) (only a b k)
    where
      go : (c d e : Bool) → lane a b k ≡ cond (c && (d && e)) (m ∷ []) [] → cond (c && d && e) [] (lane a b k) ≡ []
      go true true true is = refl
      go true true false is = is
      go true false e is = is
      go false d e is = is

-- the first lane that isn't empty is that of the only message
pub first-one : (sizes : Sizes) (state : State) (node to : ℕ) (m : Msg) → OnlyOne node to m state.lane → node < sizes.nodes → to < sizes.nodes →
    first_busy sizes state ≡ Some (record { src = node; dst = to; class = msg_class m })
first-one sizes state node to m only node_in to_in =
    let there : state.lane node to (msg_class m) ≢ [] = (λ none. let n : m ∷ [] ≡ [] = sym (one-front node to m state.lane only) ∙ none in cc) in
    let found = busy-some sizes state node to (msg_class m) node_in to_in there in
    let lane = first-some sizes state found.0 found.1 in
    let same = one-lane node to m state.lane only (found.0).src (found.0).dst (found.0).class lane.1 in
    found.1 ∙ ap Some (λ i. record { src = same.0 i; dst = same.1 i; class = same.2 i })

-- empty lanes weigh nothing, and what is sent into them weighs what a row sends
pub empty-weight : (w : Content → ℕ) (nodes : ℕ) (lane : Lanes) → AreEmpty lane → weight_by w nodes lane ≡ 0
empty-weight w nodes lane empty =
    total-same (λ a. total (λ b. cell a b) nodes) (λ a. 0) nodes (λ a. total-same (λ b. cell a b) (λ b. 0) nodes (λ b. λ i. Rattle.lane_bounds.proofs.Public.weighed w (empty a b Request i) + Rattle.lane_bounds.proofs.Public.weighed w (empty a b Reply i)) ∙ total-zero nodes) ∙ total-zero nodes
  where
    cell : ℕ → ℕ → ℕ
    cell a b = Rattle.lane_bounds.proofs.Public.weighed w (lane a b Request) + Rattle.lane_bounds.proofs.Public.weighed w (lane a b Reply)

pub sent-weight : (nodes me line : ℕ) (sends : List (ℕ × Content)) (lane : Lanes) → AreEmpty lane → weight_by still nodes (sent_of me line sends lane) ≤ sends_weight still nodes sends
sent-weight nodes me line sends lane empty =
    let a = weight-sent still nodes lane me line sends in
    let b = empty-weight still nodes lane empty in
    omega arith

pub under-empty : (Is : Content → Type 0) (lane : Lanes) → AreEmpty lane → AllUnder Is lane
under-empty Is lane empty a b class = rw (empty a b class) tt
