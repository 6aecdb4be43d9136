-- What has to be shown of a row of a line that drains, so that it still drains: at the home, where words may come back, and at another node.
use Rattle.std.proofs.Common.{◌≡◌, ◌≢◌, ◌⊎◌, ℕ, ◌≤◌, ◌<◌, Bool, true, false, cond, nat_lt, ◌==◌, List, map, refl, arith, ap, sym, subst, ◌∙◌, inl, inr, Option}
use Rattle.std.proofs.lemmas.Bool.Decides.{nat_tests}
use Rattle.eager_model.specs.Types.{Class, Want}
use Rattle.op_model.specs.Nodes.{listed}
use Rattle.op_model.specs.Operations.{Words}
use Rattle.op_model.specs.Lines.{Copy, Outcome, Header, Service, NoService, Own, For, is_empty}
use Rattle.op_model.specs.Events.Step.{put_at}
use Rattle.line_invariant.specs.Line.{Lanes, words_after, answered_after, sent}
use Rattle.line_invariant.specs.Good.{Status, IsGoodNode, is_put, expected}
use Rattle.op_model.proofs.Public.{eqb-self}
use Rattle.std.proofs.lemmas.Bool.{ne_eqb}
use Rattle.eager_model.specs.Ages.{LineAges, served_age}
use Rattle.eager_model.specs.Line.{AgedLine, last_after}
use Rattle.eager_model.specs.Good.{IsEagerGood, IsDraining, IsDrainingHeader, IsAgeIn, has_words, draining_role, message_age}
use Rattle.eager_model.proofs.Quiet.{words-same, at-top}
use Rattle.eager_model.proofs.Kept.{any-words}
use Rattle.eager_model.proofs.SentAges.{AreSentAges, row_done, given_age, done-top, done-ages}

-- the line's words change only where the grantee writes
abbrev pub IsWriteOf : ℕ → Bool → ℕ → Words → Words → Type 0
IsWriteOf grantee holds me words next = (next ≡ words) ⊎ (((me == grantee) ≡ true) × (holds ≡ true))

-- an age of words that are called in is older
recalled-older : (grantee node age top : ℕ) (holds : Bool) → (node == grantee) ≡ false → IsAgeIn (draining_role grantee holds node) age top → age < top
recalled-older grantee node age top holds other aged = rw other at aged

module _ (home : ℕ) (line : AgedLine) (newest : line.words_at line.top ≡ line.line.words) (good : IsDraining home line)
    (me : ℕ) (row : Outcome) (ages : LineAges) (lane : Lanes) (lane_age : ℕ → ℕ → Class → List ℕ)
    (copy : ages.copy ≡ cond (is_empty row.share.copy) 0 (good.has me))
    (sends : AreSentAges (given_age home line me) line.top good.has me row.sends) where
  -- the line after the row
  abbrev pub drain_done : AgedLine
  drain_done = row_done home line me row ages lane lane_age

  pub drain-top : drain_done.top ≡ line.top
  drain-top = done-top home line good.status (draining_role good.grantee good.holds) good.has good.ages me row ages lane lane_age copy sends

  -- the words of an age are the same ones, or another node has none of the greatest age
  pub same-at : (holds : Bool) (node : ℕ) → node ≢ me → IsWriteOf good.grantee good.holds me line.line.words drain_done.line.words →
      IsAgeIn (draining_role good.grantee holds node) (good.has node) line.top → drain_done.words_at (good.has node) ≡ line.words_at (good.has node)
  same-at holds node other (inl same) aged =
      subst (λ w. cond (nat_lt (good.has node) drain_done.top) (line.words_at (good.has node)) w ≡ line.words_at (good.has node)) (sym same)
      (words-same line.words_at line.line.words line.top drain_done.top (good.has node) drain-top newest (good.ages.within node))
  same-at holds node other (inr writes) aged =
      let isnt : (node == good.grantee) ≡ false = let e = writes.0 in grind (arith, nat_tests) in
      let less : good.has node < line.top = recalled-older good.grantee node (good.has node) line.top holds isnt aged in
      let under : nat_lt (good.has node) drain_done.top ≡ true = let t = drain-top in grind (arith, nat_tests) in
      rw under

  -- another node, whose status stays, is as good as before
  pub other-node : IsWriteOf good.grantee good.holds me line.line.words drain_done.line.words → (node : ℕ) → node ≢ home → node ≢ me →
      IsGoodNode (draining_role good.grantee good.holds node) (drain_done.words_at (good.has node)) (listed line.line.header.list node) (line.line.copy node) (line.line.want node) (good.status node)
  other-node writes node far other = any-words _ _ _ _ (line.line.copy node) (line.line.want node) (good.status node) (good.nodes node far) (λ e. same-at good.holds node other writes (good.ages.aged node far e))

-- the header, where the words change
header-now : (home grantee : ℕ) (holds : Bool) (words next : Words) (header : Header) (copy : Copy) (me : ℕ) → me ≢ home → IsWriteOf grantee holds me words next → IsDrainingHeader home grantee holds words header copy → IsDrainingHeader home grantee holds next header copy
header-now home grantee holds words next header copy me apart (inl same) good = rw same good
header-now home grantee holds words next header copy me apart (inr writes) good =
    let held : holds ≡ true = writes.1 in
    let away : (grantee == home) ≡ false = let e = writes.0 in grind (arith, nat_tests) in
    record {
      waits = good.waits;
      dirty = good.dirty;
      some = good.some;
      due = good.due;
      granted = good.granted;
      memory = rw held tt;
      own = rw (held, away) (rw (held, away) at good.own);
    }

-- what is told of one node and of each other, where one place changes
pub at-each : (P : ℕ → Copy → Option Want → Status → Type 0) (home p : ℕ) (copy : ℕ → Copy) (want : ℕ → Option Want) (status : ℕ → Status) (c : Copy) (w : Option Want) (s : Status) →
    ((node : ℕ) → node ≢ home → node ≢ p → P node (copy node) (want node) (status node)) → P p c w s →
    (node : ℕ) → node ≢ home → P node (put_at copy p c node) (put_at want p w node) (put_at status p s node)
at-each P home p copy want status c w s others it node away = go (node == p) refl
  where
    go : (b : Bool) → (node == p) ≡ b → P node (cond b c (copy node)) (cond b w (want node)) (cond b s (status node))
    go true e = let same : p ≡ node = grind (arith, nat_tests) in subst (λ q. P q c w s) same it
    go false e = let other : node ≢ p = grind (arith, nat_tests) in others node away other

-- a row serves no other node's load, and where it serves none at all, a node's last operation is no younger than its words
abbrev pub IsLastWithin : ℕ → ℕ → Copy → Status → Service → Type 0
IsLastWithin last has copy now NoService = (is_empty copy ≡ false → last ≤ has) × (is_put now.carrier ≡ true → last ≡ has)
IsLastWithin last has copy now (Own op on) = is_put now.carrier ≡ false
IsLastWithin last has copy now (For node on) = ⊥

-- the ages of last operations after a row at one node
module _ (line : AgedLine) (has : ℕ → ℕ) (me : ℕ) (given age : ℕ) (copy : Copy) (held : age ≡ cond (is_empty copy) 0 (has me))
    (within : (node : ℕ) → has node ≤ line.top) (past : (node : ℕ) → line.last node ≤ line.top) where
  pub last-past : (served : Service) (now : Status) → IsLastWithin (line.last me) (has me) copy now served → (node : ℕ) → last_after me served (served_age given age served) line.last node ≤ line.top
  last-past NoService now is node = past node
  last-past (Own op on) now is node = go (node == me) (is_empty copy) held
    where
      go : (b c : Bool) → age ≡ cond c 0 (has me) → cond b age (line.last node) ≤ line.top
      go false c e = past node
      go true true e = grind arith
      go true false e = let le = within me in grind arith
  last-past (For n on) now is node = absurd is

  pub last-under : (served : Service) (now : Status) → IsLastWithin (line.last me) (has me) copy now served → ((node : ℕ) → is_empty (line.line.copy node) ≡ false → line.last node ≤ has node) →
      (node : ℕ) → is_empty (put_at line.line.copy me copy node) ≡ false → last_after me served (served_age given age served) line.last node ≤ has node
  last-under NoService now is under node = go (node == me) refl
    where
      go : (b : Bool) → (node == me) ≡ b → is_empty (cond b copy (line.line.copy node)) ≡ false → line.last node ≤ has node
      go true e some = let same : node ≡ me = grind (arith, nat_tests) in rw same (is.0 some)
      go false e some = under node some
  last-under (Own op on) now is under node = go (node == me) refl
    where
      go : (b : Bool) → (node == me) ≡ b → is_empty (cond b copy (line.line.copy node)) ≡ false → cond b age (line.last node) ≤ has node
      go true e some = let same : node ≡ me = grind (arith, nat_tests) in let is_held : age ≡ has me = rw some at held in rw same (grind arith)
      go false e some = under node some
  last-under (For n on) now is under node = absurd is

  pub last-put : (status : ℕ → Status) (served : Service) (now : Status) → IsLastWithin (line.last me) (has me) copy now served → ((node : ℕ) → node ≢ me → is_put (status node).carrier ≡ true → line.last node ≡ has node) → status me ≡ now →
      (node : ℕ) → is_put (status node).carrier ≡ true → last_after me served (served_age given age served) line.last node ≡ has node
  last-put status NoService now is others at_me node = go (node == me) refl
    where
      go : (b : Bool) → (node == me) ≡ b → is_put (status node).carrier ≡ true → line.last node ≡ has node
      go true e put = let same : node ≡ me = grind (arith, nat_tests) in rw same (is.1 (rw at_me at (rw same at put)))
      go false e put = others node (λ same. grind (arith, nat_tests)) put
  last-put status (Own op on) now is others at_me node = go (node == me) refl
    where
      go : (b : Bool) → (node == me) ≡ b → is_put (status node).carrier ≡ true → cond b age (line.last node) ≡ has node
      go true e put = let same : node ≡ me = grind (arith, nat_tests) in let p : is_put now.carrier ≡ true = rw at_me at (rw same at put) in absurd (grind arith)
      go false e put = others node (λ same. grind (arith, nat_tests)) put
  last-put status (For n on) now is others at_me node = absurd is

-- a row at a node that isn't the home
module _ (home : ℕ) (line : AgedLine) (newest : line.words_at line.top ≡ line.line.words) (good : IsDraining home line)
    (p : ℕ) (apart : p ≢ home) (row : Outcome) (ages : LineAges) (lane : Lanes) (lane_age : ℕ → ℕ → Class → List ℕ) (now : Status) where
  abbrev away_done : AgedLine
  away_done = row_done home line p row ages lane lane_age

  pub record IsRowAway : Type 0 where
    pub lanes : (a b : ℕ) (class : Class) → sent p row.sends lane a b class ≡ expected home (put_at good.status p now) a b class
    pub lane_ages : (a b : ℕ) (class : Class) → lane_age a b class ≡ map (message_age line.top good.has a b) (lane a b class)
    pub copy : ages.copy ≡ cond (is_empty row.share.copy) 0 (good.has p)
    pub sends : AreSentAges (line.copy_age p) line.top good.has p row.sends
    pub writes : IsWriteOf good.grantee good.holds p line.line.words (words_after row.served line.line.words)
    pub node : IsGoodNode (draining_role good.grantee good.holds p) (cond (nat_lt (good.has p) line.top) (line.words_at (good.has p)) (words_after row.served line.line.words)) (listed line.line.header.list p) row.share.copy row.share.want now
    pub had : has_words row.share.copy row.share.want now ≡ true → has_words (line.line.copy p) (line.line.want p) (good.status p) ≡ true
    pub answered : (node : ℕ) → answered_after p row.served row.done line.line.answered node ≡ is_put (put_at good.status p now node).carrier
    pub last : IsLastWithin (line.last p) (good.has p) row.share.copy now row.served

  module _ (is : IsRowAway) where
    away-given : given_age home line p ≡ line.copy_age p
    away-given = rw (ne_eqb p home apart)

    sends : AreSentAges (given_age home line p) line.top good.has p row.sends
    sends = subst (λ g. AreSentAges g line.top good.has p row.sends) (sym away-given) is.sends

    pub away-top : away_done.top ≡ line.top
    away-top = drain-top home line newest good p row ages lane lane_age is.copy sends

    words-now : (age : ℕ) → away_done.words_at age ≡ cond (nat_lt age line.top) (line.words_at age) (words_after row.served line.line.words)
    words-now age = ap (λ t. cond (nat_lt age t) (line.words_at age) (words_after row.served line.line.words)) away-top

    node-now : (node : ℕ) → node ≢ home →
        IsGoodNode (draining_role good.grantee good.holds node) (away_done.words_at (good.has node)) (listed line.line.header.list node) (put_at line.line.copy p row.share.copy node) (put_at line.line.want p row.share.want node) (put_at good.status p now node)
    node-now =
        at-each (λ node. IsGoodNode (draining_role good.grantee good.holds node) (away_done.words_at (good.has node)) (listed line.line.header.list node)) home p line.line.copy line.line.want good.status row.share.copy row.share.want now
        (λ node far other. other-node home line newest good p row ages lane lane_age is.copy sends is.writes node far other)
        (subst (λ w. IsGoodNode (draining_role good.grantee good.holds p) w (listed line.line.header.list p) row.share.copy row.share.want now) (sym (words-now (good.has p))) is.node)

    had-now : (node : ℕ) → node ≢ home → has_words (put_at line.line.copy p row.share.copy node) (put_at line.line.want p row.share.want node) (put_at good.status p now node) ≡ true → IsAgeIn (draining_role good.grantee good.holds node) (good.has node) line.top
    had-now =
        at-each (λ node copy want status. has_words copy want status ≡ true → IsAgeIn (draining_role good.grantee good.holds node) (good.has node) line.top) home p line.line.copy line.line.want good.status row.share.copy row.share.want now
        (λ node far other e. good.ages.aged node far e)
        (λ e. good.ages.aged p apart (is.had e))

    others-put : (node : ℕ) → node ≢ p → is_put (put_at good.status p now node).carrier ≡ true → line.last node ≡ good.has node
    others-put node other put = good.ages.of_put node (rw (ne_eqb node p other) at put)

    here : put_at good.status p now p ≡ now
    here = rw (eqb-self p)

    away-header : (on : Bool) → on ≡ false → (header : Header) → cond on header line.line.header ≡ line.line.header
    away-header false e header = refl
    away-header true e header = absurd (grind arith)

    header-same : away_done.line.header ≡ line.line.header
    header-same = away-header (p == home) (ne_eqb p home apart) row.share.header

    home-copy : away_done.line.copy home ≡ line.line.copy home
    home-copy = rw (ne_eqb home p (λ e. apart (sym e)))

    away-drains : IsDraining home away_done
    away-drains =
        let off : (home == p) ≡ false = ne_eqb home p (λ e. apart (sym e)) in
        record {
          grantee = good.grantee;
          holds = good.holds;
          status = put_at good.status p now;
          has = good.has;
          lanes = is.lanes;
          header = rw (header-same, home-copy) (header-now home good.grantee good.holds line.line.words away_done.line.words line.line.header (line.line.copy home) p apart is.writes good.header);
          local = rw (header-same, home-copy) good.local;
          unlisted = rw header-same good.unlisted;
          at_home = rw off (record { carried = good.at_home.carried; stays = good.at_home.stays; off_duty = good.at_home.off_duty; carrier = good.at_home.carrier });
          nodes = λ node far. rw header-same (node-now node far);
          answered = is.answered;
          ages = done-ages home line good.status (draining_role good.grantee good.holds) good.has good.ages p row ages lane lane_age is.copy sends (put_at good.status p now) (draining_role good.grantee good.holds)
              is.lane_ages
              (λ clean. memory clean)
              had-now
              (last-past line good.has p _ ages.copy row.share.copy is.copy good.ages.within good.ages.past row.served now is.last)
              (last-under line good.has p _ ages.copy row.share.copy is.copy good.ages.within good.ages.past row.served now is.last good.ages.under_copy)
              (last-put line good.has p _ ages.copy row.share.copy is.copy good.ages.within good.ages.past (put_at good.status p now) row.served now is.last others-put here);
        }
      where
        memory : away_done.line.header.dirty ≡ false → away_done.memory_age ≡ line.top
        memory clean = go (p == home) (ne_eqb p home apart) (good.ages.memory (ap (λ h. h.dirty) (sym header-same) ∙ clean))
          where
            go : (on : Bool) → on ≡ false → line.memory_age ≡ line.top → cond on ages.memory line.memory_age ≡ line.top
            go false e is_top = is_top
            go true e is_top = absurd (grind arith)

    pub away-good : IsEagerGood home away_done
    away-good = record { newest = at-top line.words_at away_done.line.words away_done.top; stands = inr away-drains }
