-- An InvAck keeps a line good, E3 to E5. Only a line that drains has one under way, and from a listed node; after the last no node has an older copy.
use Rattle.std.proofs.Common.{◌≡◌, ◌≢◌, ℕ, ◌-◌, Bool, true, false, cond, nat_le, ◌==◌, List, [], ◌∷◌, refl, arith, ap, sym, ◌∙◌, Option}
use Rattle.std.proofs.lemmas.Bool.Decides.{nat_tests}
use Rattle.eager_model.specs.Types.{Reply, Want, Idle}
use Rattle.op_model.specs.Nodes.{Nodes, listed, unlist, listings, count-unlist}
use Rattle.op_model.specs.Operations.{Words}
use Rattle.op_model.specs.Messages.{Content, InvAck}
use Rattle.op_model.specs.Lines.{Copy, Header}
use Rattle.op_model.specs.Events.Step.{put_at}
use Rattle.line_invariant.specs.Good.{Status, Resting, Duty, NoDuty, Acked, Phase, Clean, MayShare, Recalled, Bare, Holds, Waiting, IsGood, IsGoodNode, IsGoodHeader, IsGoodHome, IsHomeCarrier, IsOnDuty, role_in, asked_role, answer_part, is_put}
use Rattle.op_model.proofs.Public.{eqb-self}
use Rattle.std.proofs.lemmas.Bool.{ne_eqb}
use Rattle.line_invariant.proofs.Public.{ack-first, all_in, at-one, keep, lanes-ack, lanes-all-quiet}
use Rattle.line_invariant.proofs.Public.{node-acked}
use Rattle.eager_model.specs.Line.{AgedLine}
use Rattle.eager_model.specs.Good.{IsDraining, IsSettled, has_words, draining_role}
use Rattle.eager_model.proofs.Quiet.{quiet_row, quiet-top, quiet-node, quiet-ages}
use Rattle.eager_model.proofs.Newest.{newest-of-ages}

-- who has acknowledged isn't the grantee, and is listed
acked-role : (grantee p : ℕ) (holds lists : Bool) (duty : Duty) → IsOnDuty (draining_role grantee holds p) lists duty → duty ≡ Acked → ((p == grantee) ≡ false) × (lists ≡ true)
acked-role grantee p holds lists duty on acked = go (p == grantee) refl holds on
  where
    go : (b : Bool) → (p == grantee) ≡ b → (holds : Bool) → IsOnDuty (cond b (asked_role holds NoDuty) Recalled) lists duty → (b ≡ false) × (lists ≡ true)
    go false e holds on = (refl, grind arith)
    go true e true on = absurd (grind arith)
    go true e false on = absurd (grind arith)

module _ (words : Words) (lists : Bool) (copy : Copy) (want : Option Want) (status : Status) where
  pub bare-has-none : (waiting : Waiting) (duty : Duty) → IsGoodNode (Bare waiting duty) words lists copy want status → has_words copy want status ≡ false
  bare-has-none waiting duty good = grind arith

  pub holder-has : (duty : Duty) → IsGoodNode (Holds duty) words lists copy want status → has_words copy want status ≡ true
  holder-has duty good = grind arith

  pub holder-any : (duty : Duty) (listed : Bool) → IsGoodNode (Holds duty) words lists copy want status → IsGoodNode (Holds duty) words listed copy want status
  holder-any duty listed good = grind arith

module _ (home : ℕ) (line : AgedLine) (newest : line.words_at line.top ≡ line.line.words) (good : IsDraining home line) (p : ℕ) (apart : p ≢ home)
    (rest : List Content) (age : ℕ) (ages : List ℕ) (front : line.line.lane p home Reply ≡ InvAck ∷ rest) (first : line.lane_age p home Reply ≡ age ∷ ages) where
  pub comes : (answer_part p (good.status home).carrier ≡ []) × ((good.status p).duty ≡ Acked) × (rest ≡ [])
  comes = ack-first p _ _ _ _ rest good.at_home.carried (sym (simp (eqb-self home) at (good.lanes p home Reply)) ∙ front)

  pub from : ((p == good.grantee) ≡ false) × (listed line.line.header.list p ≡ true)
  from = acked-role good.grantee p good.holds _ _ (good.nodes p apart).duty comes.1

  acked-node : IsGoodNode (draining_role good.grantee good.holds p) (line.words_at (good.has p)) (listed (unlist line.line.header.list p) p) (line.line.copy p) (line.line.want p) (record (good.status p) { duty = NoDuty })
  acked-node =
      let gone : listed (unlist line.line.header.list p) p ≡ false = grind (arith, nat_tests, listings) in
      rw (from.0, gone) (node-acked (line.words_at (good.has p)) _ (line.line.copy p) (line.line.want p) (good.status p) (rw from.0 at (good.nodes p apart)) comes.1)

  -- E3: further acknowledgements are due
  pub drains-on : nat_le line.line.header.acks 1 ≡ false → IsDraining home (quiet_row home line p Reply InvAck rest age ages (record line.line.header { list = unlist line.line.header.list p; acks = line.line.header.acks - 1 }))
  drains-on more =
      let header = good.header in
      let on : (home == home) ≡ true = eqb-self home in
      let counted = count-unlist line.line.header.list p in
      record {
        grantee = good.grantee;
        holds = good.holds;
        status = put_at good.status p (record (good.status p) { duty = NoDuty });
        has = good.has;
        lanes = lanes-ack home p line.line.lane good.status apart good.lanes rest comes.2 comes.1 comes.0;
        header = rw on (record {
          waits = header.waits;
          dirty = header.dirty;
          memory = header.memory;
          some = grind (arith, nat_tests);
          due = ap (λ n. n - 1) header.due ∙ sym (counted ∙ simp from.1);
          granted = (let e = header.granted in grind (arith, nat_tests, listings));
          own = header.own;
        });
        local = rw on good.local;
        unlisted = rw on (let e = good.unlisted in grind (arith, nat_tests, listings));
        at_home = rw (on, ne_eqb home p (λ e. apart (sym e))) good.at_home;
        nodes = λ node far. quiet-node home line p Reply InvAck rest age ages _ good.status (draining_role good.grantee good.holds) good.has good.ages newest node far _ _ (node-now node far (node == p) refl);
        answered = λ node. keep line.line.answered good.status good.answered p _ refl node;
        ages = quiet-ages home line p Reply InvAck rest age ages _ good.status (draining_role good.grantee good.holds) good.has good.ages _ (draining_role good.grantee good.holds) front first (λ e. e)
            (λ node far e. good.ages.aged node far (sym (same-words node (node == p) refl) ∙ e))
            (λ node. same-put node (node == p) refl);
      }
    where
      node-now : (node : ℕ) → node ≢ home → (b : Bool) → (node == p) ≡ b →
          IsGoodNode (draining_role good.grantee good.holds node) (line.words_at (good.has node)) (listed (unlist line.line.header.list p) node) (line.line.copy node) (line.line.want node) (cond b (record (good.status p) { duty = NoDuty }) (good.status node))
      node-now node far true e = let is : node ≡ p = grind (arith, nat_tests) in rw is acked-node
      node-now node far false e =
          let stays : listed (unlist line.line.header.list p) node ≡ listed line.line.header.list node = grind (arith, nat_tests, listings) in
          rw stays (good.nodes node far)

      same-words : (node : ℕ) (b : Bool) → (node == p) ≡ b → has_words (line.line.copy node) (line.line.want node) (cond b (record (good.status p) { duty = NoDuty }) (good.status node)) ≡ has_words (line.line.copy node) (line.line.want node) (good.status node)
      same-words node true e = let is : node ≡ p = grind (arith, nat_tests) in rw is
      same-words node false e = refl

      same-put : (node : ℕ) (b : Bool) → (node == p) ≡ b → is_put (cond b (record (good.status p) { duty = NoDuty }) (good.status node)).carrier ≡ is_put (good.status node).carrier
      same-put node true e = let is : node ≡ p = grind (arith, nat_tests) in rw is
      same-put node false e = refl

  -- after the last acknowledgement: the header in the phase that follows, and each node in its role
  pub drained : (phase : Phase) (list : Nodes) → let header = record line.line.header { wait = Idle; list = list; acks = 0 } in
      IsGoodHeader home phase line.line.words header (line.line.copy home) →
      IsHomeCarrier home line.line.words phase Resting →
      listed list home ≡ false →
      ((node : ℕ) → node ≢ home → IsGoodNode (role_in home line.line.words phase node) line.line.words (listed list node) (line.line.copy node) (line.line.want node) (all_in home p good.status node)) →
      ((node : ℕ) → node ≢ home → has_words (line.line.copy node) (line.line.want node) (all_in home p good.status node) ≡ true → good.has node ≡ line.top) →
      IsSettled home (quiet_row home line p Reply InvAck rest age ages header)
  drained phase list header carries unlisted nodes newest_has =
      let on : (home == home) ≡ true = eqb-self home in
      let off : (home == p) ≡ false = ne_eqb home p (λ e. apart (sym e)) in
      let next : Header = record line.line.header { wait = Idle; list = list; acks = 0 } in
      let good_next : IsGood home (quiet_row home line p Reply InvAck rest age ages next).line = record {
        phase = phase;
        status = all_in home p good.status;
        lanes = lanes-all-quiet home p line.line.lane good.status apart good.lanes rest comes.2 comes.1 good.at_home.carrier;
        header = rw on header;
        local = rw on good.local;
        unlisted = rw on unlisted;
        at_home = rw (on, off) (home-still (line.line.want home) (good.status home) good.at_home carries);
        nodes = λ node far. let apart_home : (node == home) ≡ false = ne_eqb node home far in rw (on, apart_home) (simp apart_home at (nodes node far));
        answered = λ node. at-one line.line.answered good.status good.answered home Resting (sym (ap is_put good.at_home.carrier)) node;
      } in
      record {
        good = good_next;
        settled = rw on;
        ages = newest-of-ages home (quiet_row home line p Reply InvAck rest age ages next) good_next (λ node. MayShare NoDuty) good.has
            (quiet-ages home line p Reply InvAck rest age ages next good.status (draining_role good.grantee good.holds) good.has good.ages (all_in home p good.status) (λ node. MayShare NoDuty) front first (λ e. e) newest_has
            (λ node. same-put node (node == home) refl))
            (λ node far e. newest_has node far (elsewhere node (node == home) (ne_eqb node home far) e) ∙ sym (quiet-top home line p Reply InvAck rest age ages next good.status (draining_role good.grantee good.holds) good.has good.ages));
      }
    where
      elsewhere : (node : ℕ) (b : Bool) → b ≡ false → has_words (cond b (line.line.copy home) (line.line.copy node)) (cond b (line.line.want home) (line.line.want node)) (all_in home p good.status node) ≡ true → has_words (line.line.copy node) (line.line.want node) (all_in home p good.status node) ≡ true
      elsewhere node false e h = h
      elsewhere node true e h = absurd (grind arith)

      home-still : (want : Option Want) (status : Status) → IsGoodHome home Clean line.line.words (line.line.copy home) want status → IsHomeCarrier home line.line.words phase Resting →
          IsGoodHome home phase line.line.words (line.line.copy home) want (record { carrier = Resting; leaving = status.leaving; duty = status.duty })
      home-still want status it fits = record { carried = rw it.carrier at it.carried; stays = it.stays; off_duty = it.off_duty; carrier = fits }

      same-put : (node : ℕ) (b : Bool) → (node == home) ≡ b → is_put (cond b Resting (good.status node).carrier) ≡ is_put (good.status node).carrier
      same-put node true e = let is : node ≡ home = grind (arith, nat_tests) in rw (is, good.at_home.carrier)
      same-put node false e = refl
