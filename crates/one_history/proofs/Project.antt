-- A row of the whole machine is that row of its line, and leaves every other line as it was. So is a message that is taken:
-- at its own line the first message leaves the lane, and no other line sees that message.
use Rattle.std.proofs.Common.{◌≡◌, ◌≢◌, ℕ, Bool, true, false, cond, ◌==◌, ◌&&◌, ◌⊎◌, inl, List, [], ◌∷◌, ◌++◌, append-nil, refl, arith, ap, sym, ◌∙◌, None}
use Rattle.std.proofs.lemmas.Bool.Decides.{nat_tests}
use Rattle.line_map.specs.Sizes.{Sizes, home_of}
use Rattle.op_model.specs.declared.events.Class.{Class}
use Rattle.op_model.specs.declared.messages.Msg.{Msg}
use Rattle.op_model.specs.Events.Node.{messages}
use Rattle.op_model.specs.Events.Step.{put_at, to_lane}
use Rattle.op_model.specs.Lines.{Outcome}
use Rattle.op_model.specs.Messages.{msg_line, same_class}
use Rattle.op_model.specs.Operations.{Words}
use Rattle.op_model.specs.Shares.{Share, State, copy_of, header_of, put_share, want_on}
use Rattle.op_model.proofs.Public.{same_class-is}
use Rattle.line_invariant.specs.Line.{Line, addressed, after_row, answered_after, taken, words_after}
use Rattle.one_history.specs.Project.{of_line, project}
use Rattle.one_history.proofs.Shares.{IsOn, after_row_of, copy-other, copy-same, header-other, header-same, of_line-append, of_line-behind, of_line-other, of_line-same, taken_of, want-other, want-same}

pub same_line : (l m : Line) → ((node : ℕ) → l.copy node ≡ m.copy node) → ((node : ℕ) → l.want node ≡ m.want node) → l.header ≡ m.header → ((a b : ℕ) (class : Class) → l.lane a b class ≡ m.lane a b class) → l.words ≡ m.words → ((node : ℕ) → l.answered node ≡ m.answered node) → l ≡ m
same_line l m copy want header lane words answered = λ i. record { copy = λ n. copy n i; want = λ n. want n i; header = header i; lane = λ a b c. lane a b c i; words = words i; answered = λ n. answered n i }

pub project-marks : (sizes : Sizes) (state : State) (words : Words) (a b : ℕ → Bool) (q : ℕ) → ((node : ℕ) → a node ≡ b node) → project sizes state words a q ≡ project sizes state words b q
project-marks sizes state words a b q e = λ i. project sizes state words (λ n. e n i) q

at-share : {A : Type 0} (f : Share → A) (shares : ℕ → Share) (p : ℕ) (share : Share) (value : A) → f share ≡ value → (n : ℕ) → f (put_at shares p share n) ≡ put_at (λ k. f (shares k)) p value n
at-share f shares p share value e n = go (n == p)
  where
    go : (b : Bool) → f (cond b share (shares n)) ≡ cond b value (f (shares n))
    go true = e
    go false = refl

kept-share : {A : Type 0} (f : Share → A) (shares : ℕ → Share) (p : ℕ) (share : Share) → f share ≡ f (shares p) → (n : ℕ) → f (put_at shares p share n) ≡ f (shares n)
kept-share f shares p share e n = go (n == p) refl
  where
    go : (b : Bool) → (n == p) ≡ b → f (cond b share (shares n)) ≡ f (shares n)
    go true same = let is : n ≡ p = grind (arith, nat_tests) in e ∙ ap (λ k. f (shares k)) (sym is)
    go false other = refl

module _ (sizes : Sizes) (state : State) (words : Words) (answered : ℕ → Bool) (p line : ℕ) (outcome : Outcome)
    (fits : ((state.share p).want ≡ None) ⊎ (want_on sizes (state.share p).want line ≡ None → outcome.share.want ≡ None)) (on : IsOn sizes line outcome.share.want) where
  pub project-row : (next : Words) (marks : ℕ → Bool) → next ≡ words_after outcome.served words → ((node : ℕ) → marks node ≡ answered_after p outcome.served outcome.done answered node) → project sizes (after_row_of sizes p line outcome state) next marks line ≡ after_row (home_of sizes line) p outcome (project sizes state words answered line)
  unfolding project
  project-row next marks new marked =
      let home : ℕ = home_of sizes line in
      same_line _ _
      (at-share (λ share. copy_of share line) state.share p _ outcome.share.copy (copy-same sizes _ line outcome.done outcome.share (state.share p)))
      (at-share (λ share. want_on sizes share.want line) state.share p _ outcome.share.want (want-same sizes _ line outcome.done outcome.share (state.share p) fits on))
      (header (home == p) refl)
      (λ a b class. of_line-append line _ _ ∙ ap (λ xs. of_line line (state.lane a b class) ++ xs) (mine a b class (a == p)))
      new marked
    where
      mine : (a b : ℕ) (class : Class) (c : Bool) → of_line line (cond c (to_lane b class (messages line outcome.sends)) []) ≡ cond c (addressed b class outcome.sends) []
      mine a b class true = of_line-same line b class outcome.sends
      mine a b class false = refl

      header : (c : Bool) → (home_of sizes line == p) ≡ c → header_of sizes (cond c (put_share sizes (p == home_of sizes line) line outcome.done outcome.share (state.share p)) (state.share (home_of sizes line))) line ≡ cond (p == home_of sizes line) outcome.share.header (header_of sizes (state.share (home_of sizes line)) line)
      header true e = let on : (p == home_of sizes line) ≡ true = grind (arith, nat_tests) in rw on (header-same sizes true line outcome.done outcome.share (state.share p) refl)
      header false e = let off : (p == home_of sizes line) ≡ false = grind (arith, nat_tests) in rw off refl

  pub project-other : (q : ℕ) → q ≢ line → project sizes (after_row_of sizes p line outcome state) words answered q ≡ project sizes state words answered q
  unfolding project
  project-other q other =
      same_line _ _
      (kept-share (λ share. copy_of share q) state.share p _ (copy-other sizes _ line outcome.done outcome.share (state.share p) q other))
      (kept-share (λ share. want_on sizes share.want q) state.share p _ (want-other sizes _ line outcome.done outcome.share (state.share p) q other on))
      (kept-share (λ share. header_of sizes share q) state.share p _ (header-other sizes _ line outcome.done outcome.share (state.share p) q (inl other)) (home_of sizes q))
      (λ a b class. of_line-append q _ _ ∙ ap (λ xs. of_line q (state.lane a b class) ++ xs) (none_of a b class (a == p)) ∙ append-nil _)
      refl (λ n. refl)
    where
      none_of : (a b : ℕ) (class : Class) (c : Bool) → of_line q (cond c (to_lane b class (messages line outcome.sends)) []) ≡ []
      none_of a b class true = of_line-other line q b class outcome.sends other
      none_of a b class false = refl

module _ (sizes : Sizes) (state : State) (words : Words) (answered : ℕ → Bool) (src dst : ℕ) (class : Class) (rest : List Msg) where
  pub project-taken : (line : ℕ) → project sizes (record state { lane = taken_of src dst class rest state.lane }) words answered line ≡ record (project sizes state words answered line) { lane = taken src dst class (of_line line rest) (project sizes state words answered line).lane }
  unfolding project
  project-taken line = same_line _ _ (λ n. refl) (λ n. refl) refl (λ a b k. go a b k (a == src) (b == dst) (same_class k class)) refl (λ n. refl)
    where
      go : (a b : ℕ) (k : Class) (c d e : Bool) → of_line line (cond (d && (c && e)) rest (state.lane a b k)) ≡ cond (c && d && e) (of_line line rest) (of_line line (state.lane a b k))
      go a b k true true true = refl
      go a b k true true false = refl
      go a b k true false e = refl
      go a b k false true e = refl
      go a b k false false e = refl

  pub project-taken-other : (m : Msg) → state.lane src dst class ≡ m ∷ rest → (q : ℕ) → q ≢ msg_line m → project sizes (record state { lane = taken_of src dst class rest state.lane }) words answered q ≡ project sizes state words answered q
  unfolding project
  project-taken-other m front q other = same_line _ _ (λ n. refl) (λ n. refl) refl (λ a b k. same-lane a b k) refl (λ n. refl)
    where
      skips : of_line q rest ≡ of_line q (state.lane src dst class)
      skips = sym (ap (of_line q) front ∙ of_line-behind q m rest other)

      same-lane : (a b : ℕ) (k : Class) → of_line q (taken_of src dst class rest state.lane a b k) ≡ of_line q (state.lane a b k)
      same-lane a b k = go (a == src) (b == dst) (same_class k class) refl refl refl
        where
          go : (c d e : Bool) → (a == src) ≡ c → (b == dst) ≡ d → same_class k class ≡ e → of_line q (cond (d && (c && e)) rest (state.lane a b k)) ≡ of_line q (state.lane a b k)
          go true true true x y z =
              let is_src : a ≡ src = grind (arith, nat_tests) in
              let is_dst : b ≡ dst = grind (arith, nat_tests) in
              let is_class : k ≡ class = same_class-is k class z in
              let same : state.lane src dst class ≡ state.lane a b k = cc in
              skips ∙ ap (of_line q) same
          go true true false x y z = refl
          go true false e x y z = refl
          go false true e x y z = refl
          go false false e x y z = refl
