-- What has to be shown of a row so that it keeps a line good: its lanes, the header, the home, the one node that it changes, and each other node in its role.
-- A function that is changed at one place is read by one case split, which is done here once, so that the rows speak of plain variables.
use Rattle.std.proofs.Common.{◌≡◌, ◌≢◌, ℕ, Bool, true, false, cond, ◌==◌, not, refl, arith, subst, Option}
use Rattle.std.proofs.lemmas.Bool.{ne_eqb}
use Rattle.std.proofs.lemmas.Bool.Decides.{nat_tests}
use Rattle.line_invariant.specs.Types.{Want, Class}
use Rattle.op_model.specs.Nodes.{listed}
use Rattle.op_model.specs.Operations.{Words}
use Rattle.op_model.specs.Lines.{Copy, Outcome, is_empty}
use Rattle.op_model.specs.Events.Step.{put_at}
use Rattle.op_model.proofs.Public.{eqb-self}
use Rattle.line_invariant.specs.Line.{Line, Lanes, after_row, sent, words_after, answered_after}
use Rattle.line_invariant.specs.Good.{is_put, Status, Phase, role_in, IsGoodNode, IsGood, IsGoodHeader, IsGoodHome, expected}

-- what holds of one node, and of each other one but the home
each : (P : ℕ → Copy → Option Want → Status → Type 0) (home p : ℕ) (copy : ℕ → Copy) (want : ℕ → Option Want) (status : ℕ → Status) (c : Copy) (w : Option Want) (s : Status) →
    ((node : ℕ) → node ≢ home → node ≢ p → P node (copy node) (want node) (status node)) → P p c w s →
    (node : ℕ) → node ≢ home → P node (put_at copy p c node) (put_at want p w node) (put_at status p s node)
each P home p copy want status c w s others it node away =
    go (node == p) refl
  where
    go : (b : Bool) → (node == p) ≡ b → P node (cond b c (copy node)) (cond b w (want node)) (cond b s (status node))
    go true e = let same : p ≡ node = grind (arith, nat_tests) in subst (λ q. P q c w s) same it
    go false e = let other : node ≢ p = grind (arith, nat_tests) in others node away other

module _ (home p : ℕ) (line : Line) (good : IsGood home line) (apart : p ≢ home) (outcome : Outcome) (phase : Phase) (status : Status) (lane : Lanes) where
  -- a row at a node that isn't the home
  pub remote-step :
      ((node : ℕ) → answered_after p outcome.served outcome.done line.answered node ≡ is_put (put_at good.status p status node).carrier) →
      ((a b : ℕ) (class : Class) → sent p outcome.sends lane a b class ≡ expected home (put_at good.status p status) a b class) →
      IsGoodHeader home phase (words_after outcome.served line.words) line.header (line.copy home) →
      IsGoodHome home phase (words_after outcome.served line.words) (line.copy home) (line.want home) (good.status home) →
      IsGoodNode (role_in home (words_after outcome.served line.words) phase p) (words_after outcome.served line.words) (listed line.header.list p) outcome.share.copy outcome.share.want status →
      ((node : ℕ) → node ≢ home → node ≢ p → IsGoodNode (role_in home (words_after outcome.served line.words) phase node) (words_after outcome.served line.words) (listed line.header.list node) (line.copy node) (line.want node) (good.status node)) →
      IsGood home (after_row home p outcome (record line { lane = lane }))
  remote-step answered lanes header at_home it others =
      let words : Words = words_after outcome.served line.words in
      let off : (p == home) ≡ false = ne_eqb p home apart in
      let away : (home == p) ≡ false = grind (arith, nat_tests) in
      record {
        phase = phase;
        status = put_at good.status p status;
        lanes = lanes;
        answered = answered;
        header = simp (off, away) header;
        local = simp (off, away) good.local;
        unlisted = simp off good.unlisted;
        at_home = simp away at_home;
        nodes = λ node far. simp off (each (λ q. IsGoodNode (role_in home words phase q) words (listed line.header.list q)) home p line.copy line.want good.status outcome.share.copy outcome.share.want status others it node far);
      }

  -- a row at the home that changes what is under way at one other node
  pub home-step :
      ((node : ℕ) → answered_after home outcome.served outcome.done line.answered node ≡ is_put (put_at good.status p status node).carrier) →
      ((a b : ℕ) (class : Class) → sent home outcome.sends lane a b class ≡ expected home (put_at good.status p status) a b class) →
      IsGoodHeader home phase (words_after outcome.served line.words) outcome.share.header outcome.share.copy →
      outcome.share.header.local ≡ not (is_empty outcome.share.copy) →
      listed outcome.share.header.list home ≡ false →
      IsGoodHome home phase (words_after outcome.served line.words) outcome.share.copy outcome.share.want (good.status home) →
      IsGoodNode (role_in home (words_after outcome.served line.words) phase p) (words_after outcome.served line.words) (listed outcome.share.header.list p) (line.copy p) (line.want p) status →
      ((node : ℕ) → node ≢ home → node ≢ p → IsGoodNode (role_in home (words_after outcome.served line.words) phase node) (words_after outcome.served line.words) (listed outcome.share.header.list node) (line.copy node) (line.want node) (good.status node)) →
      IsGood home (after_row home home outcome (record line { lane = lane }))
  home-step answered lanes header local unlisted at_home it others =
      let words : Words = words_after outcome.served line.words in
      let on : (home == home) ≡ true = eqb-self home in
      let away : (home == p) ≡ false = grind (arith, nat_tests) in
      record {
        phase = phase;
        status = put_at good.status p status;
        lanes = lanes;
        answered = answered;
        header = simp on header;
        local = simp on local;
        unlisted = simp on unlisted;
        at_home = simp (on, away) at_home;
        nodes = λ node far.
            let off : (node == home) ≡ false = ne_eqb node home far in
            simp (on, off) (go words others it node far (node == p) refl);
      }
    where
      go : (words : Words) → ((node : ℕ) → node ≢ home → node ≢ p → IsGoodNode (role_in home words phase node) words (listed outcome.share.header.list node) (line.copy node) (line.want node) (good.status node)) →
          IsGoodNode (role_in home words phase p) words (listed outcome.share.header.list p) (line.copy p) (line.want p) status →
          (node : ℕ) → node ≢ home → (b : Bool) → (node == p) ≡ b →
          IsGoodNode (role_in home words phase node) words (listed outcome.share.header.list node) (line.copy node) (line.want node) (cond b status (good.status node))
      go words others it node far true e = let same : p ≡ node = grind (arith, nat_tests) in rw (← same) it
      go words others it node far false e = let other : node ≢ p = grind (arith, nat_tests) in others node far other

module _ (home : ℕ) (line : Line) (outcome : Outcome) (phase : Phase) (status : ℕ → Status) (lane : Lanes) where
  -- a row at the home that changes what is under way at many nodes, or at the home alone
  pub home-step-all :
      ((node : ℕ) → answered_after home outcome.served outcome.done line.answered node ≡ is_put (status node).carrier) →
      ((a b : ℕ) (class : Class) → sent home outcome.sends lane a b class ≡ expected home status a b class) →
      IsGoodHeader home phase (words_after outcome.served line.words) outcome.share.header outcome.share.copy →
      outcome.share.header.local ≡ not (is_empty outcome.share.copy) →
      listed outcome.share.header.list home ≡ false →
      IsGoodHome home phase (words_after outcome.served line.words) outcome.share.copy outcome.share.want (status home) →
      ((node : ℕ) → node ≢ home → IsGoodNode (role_in home (words_after outcome.served line.words) phase node) (words_after outcome.served line.words) (listed outcome.share.header.list node) (line.copy node) (line.want node) (status node)) →
      IsGood home (after_row home home outcome (record line { lane = lane }))
  home-step-all answered lanes header local unlisted at_home nodes =
      let on : (home == home) ≡ true = eqb-self home in
      record {
        phase = phase;
        status = status;
        lanes = lanes;
        answered = answered;
        header = simp on header;
        local = simp on local;
        unlisted = simp on unlisted;
        at_home = simp on at_home;
        nodes = λ node far. let off : (node == home) ≡ false = ne_eqb node home far in simp (on, off) (nodes node far);
      }

module _ (home p : ℕ) (line : Line) (good : IsGood home line) (apart : p ≢ home) (outcome : Outcome) (phase : Phase) (status : ℕ → Status) (lane : Lanes) where
  -- a row at a node that isn't the home, which changes what is under way at others too
  pub remote-step-all :
      words_after outcome.served line.words ≡ line.words →
      ((node : ℕ) → answered_after p outcome.served outcome.done line.answered node ≡ is_put (status node).carrier) →
      ((a b : ℕ) (class : Class) → sent p outcome.sends lane a b class ≡ expected home status a b class) →
      IsGoodHeader home phase line.words line.header (line.copy home) →
      IsGoodHome home phase line.words (line.copy home) (line.want home) (status home) →
      IsGoodNode (role_in home line.words phase p) line.words (listed line.header.list p) outcome.share.copy outcome.share.want (status p) →
      ((node : ℕ) → node ≢ home → node ≢ p → IsGoodNode (role_in home line.words phase node) line.words (listed line.header.list node) (line.copy node) (line.want node) (status node)) →
      IsGood home (after_row home p outcome (record line { lane = lane }))
  remote-step-all same answered lanes header at_home it others =
      let off : (p == home) ≡ false = ne_eqb p home apart in
      let away : (home == p) ≡ false = grind (arith, nat_tests) in
      record {
        phase = phase;
        status = status;
        lanes = lanes;
        answered = answered;
        header = simp (off, away, same) header;
        local = simp (off, away) good.local;
        unlisted = simp off good.unlisted;
        at_home = simp (away, same) at_home;
        nodes = λ node far. simp (off, same) (go node far (node == p) refl);
      }
    where
      go : (node : ℕ) → node ≢ home → (b : Bool) → (node == p) ≡ b → IsGoodNode (role_in home line.words phase node) line.words (listed line.header.list node) (cond b outcome.share.copy (line.copy node)) (cond b outcome.share.want (line.want node)) (status node)
      go node far true e = let is : p ≡ node = grind (arith, nat_tests) in rw (← is) it
      go node far false e = let other : node ≢ p = grind (arith, nat_tests) in others node far other
