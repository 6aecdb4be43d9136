-- What is in the lanes after a message is taken, and after a row has sent.
-- A row adds to the lanes of its own node alone, and messages of its own line alone.
use Rattle.std.proofs.Common.{◌≡◌, ◌≢◌, ℕ, ◌+◌, Bool, true, false, cond, ◌==◌, ◌&&◌, List, [], ◌∷◌, ◌++◌, refl, arith, ap, ◌∙◌, subst}
use Rattle.std.proofs.lemmas.Bool.Decides.{nat_tests}
use Rattle.std.proofs.lemmas.List.Sums.{sum_by-append}
use Rattle.std.specs.List.{sum_by, list_any}
use Rattle.op_model.specs.Events.Step.{departures, is_departure}
use Rattle.op_model.specs.Messages.{Content, message, msg_content, msg_content-message, msg_line-message, same_class}
use Rattle.op_model.specs.Shares.{Lanes}
use Rattle.op_model.specs.declared.events.Class.{Class}
use Rattle.op_model.specs.declared.messages.Msg.{Msg}
use Rattle.op_model.proofs.Public.{same_class-is}
use Rattle.line_invariant.specs.Line.{addressed}
use Rattle.one_history.specs.Project.{of_line}
use Rattle.one_history.proofs.Public.{of_line-append, of_line-behind, of_line-front}
use Rattle.lane_bounds.proofs.Acts.{sent_of, tag, taken_of}
use Rattle.lane_bounds.proofs.Sums.{contents-cons, weighed, weighed-cons}

-- messages of a line, at that line and at another
of_line-same : (line : ℕ) (contents : List Content) → of_line line (tag line contents) ≡ contents
of_line-same line [] = refl
of_line-same line (c ∷ cs) = let e = of_line-front (message line c) (tag line cs) in
    subst (λ l. of_line l (message line c ∷ tag line cs) ≡ msg_content (message line c) ∷ of_line l (tag line cs)) (msg_line-message line c) e
    ∙ ap (λ x. x ∷ of_line line (tag line cs)) (msg_content-message line c) ∙ ap (λ l. c ∷ l) (of_line-same line cs)

of_line-other : (line q : ℕ) (contents : List Content) → q ≢ line → of_line q (tag line contents) ≡ []
of_line-other line q [] other = refl
of_line-other line q (c ∷ cs) other = of_line-behind q (message line c) (tag line cs) (λ e. other (e ∙ msg_line-message line c)) ∙ of_line-other line q cs other

-- a lane is as it was, or is the one that the message was taken from
module _ (src dst : ℕ) (class : Class) (rest : List Msg) (lane : Lanes) (P : List Msg → Type 0) where
  pub taken-either : (a b : ℕ) (k : Class) → P (lane a b k) → (a ≡ src → b ≡ dst → k ≡ class → P rest) → P (taken_of src dst class rest lane a b k)
  taken-either a b k was is = go (a == src) (b == dst) (same_class k class) refl refl refl
    where
      go : (c d e : Bool) → (a == src) ≡ c → (b == dst) ≡ d → same_class k class ≡ e → P (cond (c && d && e) rest (lane a b k))
      go true true true x y z = is (grind (arith, nat_tests)) (grind (arith, nat_tests)) (same_class-is k class z)
      go true true false x y z = was
      go true false e x y z = was
      go false d e x y z = was

pub weighed-append : (w : Content → ℕ) (xs ys : List Msg) → weighed w (xs ++ ys) ≡ weighed w xs + weighed w ys
weighed-append w xs ys = sum_by-append (λ m. w (msg_content m)) xs ys

pub weighed-tagged : (w : Content → ℕ) (line : ℕ) (contents : List Content) → weighed w (tag line contents) ≡ sum_by w contents
weighed-tagged w line [] = refl
weighed-tagged w line (c ∷ cs) =
    let ih = weighed-tagged w line cs in
    let a = weighed-cons w (message line c) (tag line cs) in
    let b = contents-cons w c cs in
    let same : w (msg_content (message line c)) ≡ w c = ap w (msg_content-message line c) in
    omega (arith, ih, a, b, same)

-- what is sent in a lane, by its weight
pub weighed-sent : (w : Content → ℕ) (me line : ℕ) (sends : List (ℕ × Content)) (lane : Lanes) (a b : ℕ) (class : Class) →
    weighed w (sent_of me line sends lane a b class) ≡ weighed w (lane a b class) + cond (a == me) (sum_by w (addressed b class sends)) 0
weighed-sent w me line sends lane a b class = weighed-append w (lane a b class) _ ∙ ap (λ n. weighed w (lane a b class) + n) (go (a == me))
  where
    go : (c : Bool) → weighed w (cond c (tag line (addressed b class sends)) []) ≡ cond c (sum_by w (addressed b class sends)) 0
    go true = weighed-tagged w line (addressed b class sends)
    go false = refl

-- the weight by which write-backs and hints are counted
abbrev pub departing : Content → ℕ
departing content = cond (is_departure content) 1 0

pub departs-weighed : (ms : List Msg) → departures ms ≡ weighed departing ms
departs-weighed [] = refl
departs-weighed (m ∷ ms) = go (is_departure (msg_content m)) (weighed-cons departing m ms) (departs-weighed ms)
  where
    go : (c : Bool) → weighed departing (m ∷ ms) ≡ cond c 1 0 + weighed departing ms → departures ms ≡ weighed departing ms → cond c (departures ms + 1) (departures ms) ≡ weighed departing (m ∷ ms)
    go true w e = omega arith
    go false w e = omega arith

-- a row that sends no write-back and no hint
pub quiet-sends : (b : ℕ) (class : Class) (sends : List (ℕ × Content)) → list_any (λ s. is_departure s.1) sends ≡ false → sum_by departing (addressed b class sends) ≡ 0
quiet-sends b class [] h = refl
quiet-sends b class (s ∷ sends) h =
    let ih = quiet-sends b class sends in
    let c = contents-cons departing s.1 (addressed b class sends) in
    grind (arith, nat_tests)

-- the messages of a line after a row of a line
pub line-sent : (q me line : ℕ) (sends : List (ℕ × Content)) (lane : Lanes) (a b : ℕ) (class : Class) →
    of_line q (lane a b class) ≡ [] → (a ≡ me → q ≡ line → addressed b class sends ≡ []) → of_line q (sent_of me line sends lane a b class) ≡ []
line-sent q me line sends lane a b class none new = of_line-append q (lane a b class) _ ∙ ap (λ xs. xs ++ of_line q (cond (a == me) (tag line (addressed b class sends)) [])) none ∙ go (a == me) refl (q == line) refl
  where
    go : (c : Bool) → (a == me) ≡ c → (d : Bool) → (q == line) ≡ d → of_line q (cond c (tag line (addressed b class sends)) []) ≡ []
    go true e true f =
        let same : q ≡ line = grind (arith, nat_tests) in
        ap (λ l. of_line l (tag line (addressed b class sends))) same ∙ of_line-same line (addressed b class sends) ∙ new (grind (arith, nat_tests)) same
    go true e false f = let other : q ≢ line = grind (arith, nat_tests) in of_line-other line q (addressed b class sends) other
    go false e d f = refl
