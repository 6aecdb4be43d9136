-- A message that the home of a draining line takes, where its row leaves the home's copy and its list, and changes what is under way at the sender alone.
use Rattle.std.proofs.Common.{◌≡◌, ◌≢◌, ℕ, Bool, true, false, cond, ◌==◌, List, ◌∷◌, refl, arith, ap, sym, ◌∙◌, inl}
use Rattle.std.proofs.lemmas.Bool.Decides.{nat_tests}
use Rattle.eager_model.specs.Types.{Class}
use Rattle.op_model.specs.Nodes.{listed}
use Rattle.op_model.specs.Messages.{Content}
use Rattle.op_model.specs.Lines.{Header, Outcome, sending, is_empty}
use Rattle.op_model.specs.Events.Step.{put_at}
use Rattle.line_invariant.specs.Line.{share_of, taken, sent}
use Rattle.line_invariant.specs.Good.{Status, IsGoodNode, is_put, expected}
use Rattle.std.proofs.lemmas.Bool.{ne_eqb}
use Rattle.line_invariant.proofs.Public.{keep}
use Rattle.eager_model.specs.Ages.{LineAges}
use Rattle.eager_model.specs.Line.{AgedLine, taken_age}
use Rattle.eager_model.specs.Good.{IsEagerGood, IsDraining, IsDrainingHeader, IsAgeIn, has_words, draining_role}
use Rattle.eager_model.proofs.SentAges.{AreSentAges, kept-copy, row_done, given_age, taken-ages}
use Rattle.eager_model.proofs.DrainingHome.{IsRowHome, home-good}

module _ (home : ℕ) (line : AgedLine) (newest : line.words_at line.top ≡ line.line.words) (good : IsDraining home line) (p : ℕ) (apart : p ≢ home)
    (class : Class) (content : Content) (rest : List Content) (age : ℕ) (ages : List ℕ) (front : line.line.lane p home class ≡ content ∷ rest) (first : line.lane_age p home class ≡ age ∷ ages)
    (header : Header) (sends : List (ℕ × Content)) (memory : ℕ) (now : Status) (holds : Bool) where
  abbrev pub taken_row : Outcome
  taken_row = sending (record (share_of line.line home) { header = header }) sends

  abbrev pub taken_ages : LineAges
  taken_ages = record { copy = cond (is_empty (line.line.copy home)) 0 (line.copy_age home); memory = memory }

  -- the line after the row
  abbrev pub taken_done : AgedLine
  taken_done = row_done home line home taken_row taken_ages (taken p home class rest line.line.lane) (taken_age p home class ages line.lane_age)

  pub record IsTakenHome : Type 0 where
    pub lanes : (a b : ℕ) (k : Class) → sent home sends (taken p home class rest line.line.lane) a b k ≡ expected home (put_at good.status p now) a b k
    pub sent : AreSentAges (given_age home line home) line.top good.has home sends
    pub same_role : (node : ℕ) → node ≢ p → draining_role good.grantee holds node ≡ draining_role good.grantee good.holds node
    pub of_header : IsDrainingHeader home good.grantee holds line.line.words header (line.line.copy home)
    pub list : header.list ≡ line.line.header.list
    pub local : header.local ≡ line.line.header.local
    pub node : IsGoodNode (draining_role good.grantee holds p) (line.words_at (good.has p)) (listed line.line.header.list p) (line.line.copy p) (line.line.want p) now
    pub had : has_words (line.line.copy p) (line.line.want p) now ≡ true → (has_words (line.line.copy p) (line.line.want p) (good.status p) ≡ true) × (holds ≡ good.holds)
    pub put : is_put now.carrier ≡ is_put (good.status p).carrier
    pub of_memory : header.dirty ≡ false → memory ≡ line.top

  pub taken-home : IsTakenHome → IsEagerGood home taken_done
  taken-home is = home-good home line newest good taken_row taken_ages _ _ (put_at good.status p now) holds row
    where
      node-now : (node : ℕ) → node ≢ home → (b : Bool) → (node == p) ≡ b →
          IsGoodNode (draining_role good.grantee holds node) (line.words_at (good.has node)) (listed line.line.header.list node) (line.line.copy node) (line.line.want node) (cond b now (good.status node))
      node-now node far true e = let same : node ≡ p = grind (arith, nat_tests) in rw same is.node
      node-now node far false e = rw (is.same_role node (λ same. grind (arith, nat_tests))) (good.nodes node far)

      had-now : (node : ℕ) → node ≢ home → (b : Bool) → (node == p) ≡ b →
          has_words (line.line.copy node) (line.line.want node) (cond b now (good.status node)) ≡ true → IsAgeIn (draining_role good.grantee holds node) (good.has node) line.top
      had-now node far true e has =
          let same : node ≡ p = grind (arith, nat_tests) in
          let was = is.had (rw same at has) in
          rw (same, was.1) (good.ages.aged p apart was.0)
      had-now node far false e has = rw (is.same_role node (λ same. grind (arith, nat_tests))) (good.ages.aged node far has)

      puts-now : (node : ℕ) (b : Bool) → (node == p) ≡ b → is_put (cond b now (good.status node)).carrier ≡ true → is_put (good.status node).carrier ≡ true
      puts-now node true e put = let same : node ≡ p = grind (arith, nat_tests) in rw same (sym is.put ∙ put)
      puts-now node false e put = put

      row : IsRowHome home line newest good taken_row taken_ages (taken p home class rest line.line.lane) (taken_age p home class ages line.lane_age) (put_at good.status p now) holds
      row = record {
        lanes = is.lanes;
        lane_ages = (taken-ages line _ good.ages.lanes p home class content rest age ages front first).1;
        copy = kept-copy (is_empty (line.line.copy home)) (line.copy_age home) (good.has home) (good.ages.copies home);
        sends = is.sent;
        writes = inl refl;
        header = is.of_header;
        list = is.list;
        local = is.local ∙ good.local;
        at_home = rw (ne_eqb home p (λ e. apart (sym e))) good.at_home;
        nodes = λ node far. node-now node far (node == p) refl;
        had = λ node far. had-now node far (node == p) refl;
        puts = λ node. puts-now node (node == p) refl;
        answered = λ node. keep line.line.answered good.status good.answered p now is.put node;
        memory = is.of_memory;
        last = (λ some. good.ages.under_copy home some, λ put. absurd (let e : is_put (good.status home).carrier ≡ true = rw (ne_eqb home p (λ e. apart (sym e))) at put in let rests : is_put (good.status home).carrier ≡ false = ap is_put good.at_home.carrier in grind arith));
      }
