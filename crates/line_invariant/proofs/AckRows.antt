-- An InvAck at the home keeps the line good: it is counted, and the last one ends the call and gives the line to who waits for it.
-- Acknowledgements are due from just the listed nodes, so that after the last no node has a copy.
use Rattle.std.proofs.Common.{◌≡◌, ◌≢◌, ℕ, ◌-◌, Bool, true, false, cond, nat_le, ◌==◌, List, [], ◌∷◌, refl, arith, ap, sym, ◌∙◌, subst, Option, Some, None}
use Rattle.std.proofs.lemmas.Bool.Decides.{nat_tests}
use Rattle.line_invariant.specs.Types.{Op, Want, Grantee, Nobody, Me, Node, Reply}
use Rattle.op_model.specs.Nodes.{Nodes, listed, unlist, count, none, listings, count-unlist, none_of_count}
use Rattle.op_model.specs.Operations.{Words, after_op}
use Rattle.op_model.specs.Messages.{Content, InvAck, PutX}
use Rattle.op_model.specs.Lines.{Copy, Absent, Shared, Exclusive, Room, sending, no_message}
use Rattle.op_model.specs.Tables.Home.{on_inv_ack, grant, grantee_of}
use Rattle.op_model.proofs.Public.{eqb-self}
use Rattle.line_invariant.specs.Line.{Line, share_of, after_row, after_take, taken}
use Rattle.line_invariant.specs.Good.{is_put, Status, Resting, Granted, Duty, NoDuty, Acked, Phase, Clean, HomeOwns, Owned, Called, Asked, SharedOut, HandedOn, Recalled, Bare, ByGrant, role_in, IsGoodNode, IsGood, IsGoodHeader, IsGoodHome, IsOnDuty, IsCarried, answer_part, IsGrantee, IsFreshCopy, IsSharedOnly, Answered}
use Rattle.line_invariant.specs.Rows.{wanting}
use Rattle.line_invariant.proofs.Basics.{if-either, alone}
use Rattle.line_invariant.proofs.Fronts.{ack-comes}
use Rattle.line_invariant.proofs.Meets.{by-row, does-ack}
use Rattle.line_invariant.proofs.HomeLanes.{lanes-ack, lanes-all-in, lanes-all-quiet, lanes-handed, all_in, handed_to}
use Rattle.line_invariant.proofs.HomeNodes.{node-acked, node-all-in, node-may-share, node-handed}
use Rattle.line_invariant.proofs.HomeRows.{home-rests}
use Rattle.line_invariant.proofs.Marks.{keep, at-one, at-one-done}
use Rattle.line_invariant.proofs.Steps.{home-step, home-step-all}

-- only a line that is called has acknowledgements under way, and from listed nodes
pub called-phase : (home : ℕ) (words : Words) (phase : Phase) (p : ℕ) (lists : Bool) (duty : Duty) → IsOnDuty (role_in home words phase p) lists duty → duty ≡ Acked → (g : Grantee) × (phase ≡ Called g) × (role_in home words (Called g) p ≡ Recalled) × (lists ≡ true)
called-phase home words (Called Nobody) p lists duty on acked = (Nobody, refl, refl, grind arith)
called-phase home words (Called Me) p lists duty on acked = (Me, refl, refl, grind arith)
called-phase home words (Called (Node n)) p lists duty on acked = (Node n, refl, grind arith, grind arith)
called-phase home words Clean p lists duty on acked = absurd (grind arith)
called-phase home words HomeOwns p lists duty on acked = absurd (grind arith)
called-phase home words (Owned o) p lists duty on acked = absurd (grind arith)
called-phase home words (Asked w r o f h) p lists duty on acked = absurd (grind arith)
called-phase home words (SharedOut r o) p lists duty on acked = absurd (grind arith)
called-phase home words (HandedOn r o h) p lists duty on acked = absurd (grind arith)

home-done : (home p : ℕ) (words : Words) (copy copy' : Copy) (status : Status) → p ≢ home → (want : Option Want) → IsGoodHome home (Called Me) words copy want status → (next : Words) →
    IsGoodHome home HomeOwns next copy' None (record { carrier = cond (home == home) Resting status.carrier; leaving = status.leaving; duty = cond (home == p) NoDuty status.duty })
home-done home p words copy copy' status apart want good next =
    let on : (home == home) ≡ true = eqb-self home in
    let off : (home == p) ≡ false = grind (arith, nat_tests) in
    record { carried = rw on; stays = good.stays; off_duty = rw off good.off_duty; carrier = rw on }

grantee-stays : (home : ℕ) (g : Grantee) (list : Nodes) (p : ℕ) → IsGrantee home g list → IsGrantee home g (unlist list p)
grantee-stays home (Node n) list p h = (h.0, let e = h.1 in grind (arith, nat_tests, listings))
grantee-stays home Nobody list p h = tt
grantee-stays home Me list p h = tt

module _ (home : ℕ) (line : Line) (good : IsGood home line) (p : ℕ) (apart : p ≢ home) (rest : List Content) (empty : rest ≡ []) (acked : (good.status p).duty ≡ Acked)
    (lists : listed line.header.list p ≡ true) where
  -- further acknowledgements are due
  good-ack-more : (g : Grantee) → good.phase ≡ Called g → role_in home line.words (Called g) p ≡ Recalled → answer_part p (good.status home).carrier ≡ [] → nat_le line.header.acks 1 ≡ false →
      IsGood home (after_row home home (sending (record (share_of line home) { header = record line.header { list = unlist line.header.list p; acks = line.header.acks - 1 } }) no_message) (record line { lane = taken p home Reply rest line.lane }))
  good-ack-more g phase recalled quiet more =
      let header : IsGoodHeader home (Called g) line.words line.header (line.copy home) = rw phase at good.header in
      let counted = count-unlist line.header.list p in
      let gone : listed (unlist line.header.list p) p ≡ false = grind (arith, nat_tests, listings) in
      home-step home p line good apart (sending (record (share_of line home) { header = record line.header { list = unlist line.header.list p; acks = line.header.acks - 1 } }) no_message) (Called g) (record (good.status p) { duty = NoDuty }) (taken p home Reply rest line.lane)
      (keep line.answered good.status good.answered p _ refl)
      (lanes-ack home p line.lane good.status apart good.lanes rest empty acked quiet)
      (header.0, header.1, header.2, grind (arith, nat_tests), ap (λ n. n - 1) header.4 ∙ sym (counted ∙ simp lists), header.5, header.6, grantee-stays home g line.header.list p header.7)
      good.local (grind (arith, nat_tests, listings, good.unlisted)) (rw phase at good.at_home)
      (rw (recalled, gone) (node-acked line.words _ (line.copy p) (line.want p) (good.status p) (rw (phase, recalled) at (good.nodes p apart)) acked))
      (λ node far other.
      let stays : listed (unlist line.header.list p) node ≡ listed line.header.list node = grind (arith, nat_tests, listings) in
      rw stays (rw phase at (good.nodes node far)))

  -- the home's own write is done
  good-ack-me : (op : Op) (marked : Bool) → good.phase ≡ Called Me → line.want home ≡ wanting op marked → nat_le line.header.acks 1 ≡ true →
      IsGood home (after_row home home (grant Me (wanting op marked) (unlist line.header.list p) (share_of line home)) (record line { lane = taken p home Reply rest line.lane }))
  good-ack-me op marked phase wants last =
      let header : IsGoodHeader home (Called Me) line.words line.header (line.copy home) = rw phase at good.header in
      let at_home : IsGoodHome home (Called Me) line.words (line.copy home) (line.want home) (good.status home) = rw phase at good.at_home in
      let one : count line.header.list ≡ 1 = let e = header.4 in let above = header.3 in grind (arith, nat_tests) in
      let rid : (q : ℕ) → listed (unlist line.header.list p) q ≡ false = alone line.header.list p lists one in
      let all_gone : unlist line.header.list p ≡ none = none_of_count _ (count-unlist line.header.list p ∙ simp (lists, one)) in
      home-step-all home line (grant Me (wanting op marked) (unlist line.header.list p) (share_of line home)) HomeOwns (all_in home p good.status) (taken p home Reply rest line.lane)
      (at-one-done line.answered good.status good.answered home Resting refl)
      (lanes-all-in home p line.lane good.status apart good.lanes rest empty acked at_home.carrier)
      (refl, refl, all_gone, ap (λ w. Exclusive (after_op op w)) header.2)
      refl
      (rid home)
      (home-done home p line.words _ _ (good.status home) apart (line.want home) at_home (after_op op line.words))
      (λ node far. rw (rid node)
      (node-all-in line.words (after_op op line.words) (listed line.header.list node) (line.copy node) (line.want node) (good.status node) home p node far (rw phase at (good.nodes node far))
      (λ same. rw (same) acked)
      (λ other. let e = rid node in grind (arith, nat_tests, listings))))

  -- nobody waits for the line
  good-ack-nobody : (want : Option Want) → good.phase ≡ Called Nobody → nat_le line.header.acks 1 ≡ true →
      IsGood home (after_row home home (grant Nobody want (unlist line.header.list p) (share_of line home)) (record line { lane = taken p home Reply rest line.lane }))
  good-ack-nobody want phase last =
      let header : IsGoodHeader home (Called Nobody) line.words line.header (line.copy home) = rw phase at good.header in
      let at_home : IsGoodHome home (Called Nobody) line.words (line.copy home) (line.want home) (good.status home) = rw phase at good.at_home in
      let one : count line.header.list ≡ 1 = let e = header.4 in let above = header.3 in grind (arith, nat_tests) in
      let rid : (q : ℕ) → listed (unlist line.header.list p) q ≡ false = alone line.header.list p lists one in
      let on : (home == home) ≡ true = eqb-self home in
      let off : (home == p) ≡ false = grind (arith, nat_tests) in
      home-step-all home line (grant Nobody want (unlist line.header.list p) (share_of line home)) Clean (all_in home p good.status) (taken p home Reply rest line.lane)
      (at-one line.answered good.status good.answered home Resting (sym (ap is_put at_home.carrier)))
      (lanes-all-quiet home p line.lane good.status apart good.lanes rest empty acked at_home.carrier)
      (refl, header.1, header.2, header.5, may-have line.words (line.copy home) header.6)
      good.local
      (rid home)
      (rw (on, off) (record { carried = rw at_home.carrier at at_home.carried; stays = at_home.stays; off_duty = at_home.off_duty; carrier = refl }))
      (λ node far. rw (rid node) (node-may-share line.words _ (line.copy node) (line.want node) _ false
      (node-all-in line.words line.words (listed line.header.list node) (line.copy node) (line.want node) (good.status node) home p node far (rw phase at (good.nodes node far))
      (λ same. rw same acked)
      (λ other. let e = rid node in grind (arith, nat_tests, listings)))))
    where
      may-have : (words : Words) (copy : Copy) → IsFreshCopy (Nobody ≡ Nobody) words copy → IsFreshCopy (Unit {0}) words copy
      may-have words Absent h = tt
      may-have words (Shared has) h = (h.0, tt)
      may-have words (Exclusive has) h = h

  -- a node gets the line
  good-ack-node : (n : ℕ) (want : Option Want) → good.phase ≡ Called (Node n) → nat_le line.header.acks 1 ≡ true → answer_part p (good.status home).carrier ≡ [] →
      IsGood home (after_row home home (grant (Node n) want (unlist line.header.list p) (share_of line home)) (record line { lane = taken p home Reply rest line.lane }))
  good-ack-node n want phase last quiet =
      let header : IsGoodHeader home (Called (Node n)) line.words line.header (line.copy home) = rw phase at good.header in
      let at_home : IsGoodHome home (Called (Node n)) line.words (line.copy home) (line.want home) (good.status home) = rw phase at good.at_home in
      let one : count line.header.list ≡ 1 = let e = header.4 in let above = header.3 in grind (arith, nat_tests) in
      let rid : (q : ℕ) → listed (unlist line.header.list p) q ≡ false = alone line.header.list p lists one in
      let waits : IsGoodNode (Bare ByGrant NoDuty) line.words (listed line.header.list n) (line.copy n) (line.want n) (good.status n) = rw (eqb-self n) at (rw phase at (good.nodes n header.7.0)) in
      let off : (home == p) ≡ false = grind (arith, nat_tests) in
      let off_n : (home == n) ≡ false = let f = header.7.0 in grind (arith, nat_tests) in
      let empty_copy : line.copy home ≡ Absent = no-copy (line.copy home) line.words header.5 header.6 in
      home-step-all home line (grant (Node n) want (unlist line.header.list p) (share_of line home)) (Owned n) (handed_to home p n line.header.memory good.status) (taken p home Reply rest line.lane)
      (at-one line.answered good.status good.answered n (Answered home (PutX line.header.memory)) (sym (ap is_put waits.waiting)))
      (lanes-handed home p line.lane good.status apart good.lanes n line.header.memory rest header.7.0 empty acked quiet waits.waiting)
      (refl, refl, refl, empty_copy, header.7.0)
      good.local
      (grind (arith, nat_tests, listings))
      (rw (off, off_n) (home-rests home (Called (Node n)) (Owned n) line.words line.words (line.copy home) _ (line.want home) (good.status home) at_home at_home.carrier refl))
      (λ node far. node-handed home p n line.words line.header.memory (listed line.header.list node) _ (line.copy node) (line.want node) (good.status node) node header.2 (rw phase at (good.nodes node far))
      (λ same. rw same acked) (λ other. let e = rid node in grind (arith, nat_tests, listings)) (λ same. let e = header.7.1 in grind (arith, nat_tests, listings)))
    where
      no-copy : (copy : Copy) (words : Words) → IsSharedOnly copy → IsFreshCopy (Node n ≡ Nobody) words copy → copy ≡ Absent
      no-copy copy words s f = grind arith

module _ (home : ℕ) (line : Line) (good : IsGood home line) (p : ℕ) (apart : p ≢ home) (rest : List Content) (room : Room) where
  pub good-ack : line.lane p home Reply ≡ InvAck ∷ rest → IsGood home (after_take home p home Reply InvAck rest room line)
  unfolding on_inv_ack
  good-ack front =
      let comes = ack-comes home line good p apart rest front in
      let called = called-phase home line.words good.phase p _ _ (good.nodes p apart).duty comes.1 in
      by-grantee called.0 called.1 called.2 called.3 comes.0 comes.1 comes.2
    where
      by-grantee : (g : Grantee) → good.phase ≡ Called g → role_in home line.words (Called g) p ≡ Recalled → listed line.header.list p ≡ true → answer_part p (good.status home).carrier ≡ [] → (good.status p).duty ≡ Acked → rest ≡ [] → IsGood home (after_take home p home Reply InvAck rest room line)
      by-grantee g phase recalled lists quiet acked empty =
          let header : IsGoodHeader home (Called g) line.words line.header (line.copy home) = rw phase at good.header in
          by-row home p home Reply InvAck rest room line (on_inv_ack p (share_of line home)) (does-ack home p room (share_of line home) g header.0 lists)
          (if-either (λ o. IsGood home (after_row home home o (record line { lane = taken p home Reply rest line.lane }))) (nat_le line.header.acks 1) _ _
          (λ last. subst (λ h. IsGood home (after_row home home (grant h (line.want home) (unlist line.header.list p) (share_of line home)) (record line { lane = taken p home Reply rest line.lane }))) (sym (ap grantee_of header.0)) (granted g phase last lists quiet acked empty))
          (λ more. good-ack-more home line good p apart rest empty acked lists g phase recalled quiet more))
        where
          granted : (g : Grantee) → good.phase ≡ Called g → nat_le line.header.acks 1 ≡ true → listed line.header.list p ≡ true → answer_part p (good.status home).carrier ≡ [] → (good.status p).duty ≡ Acked → rest ≡ [] → IsGood home (after_row home home (grant g (line.want home) (unlist line.header.list p) (share_of line home)) (record line { lane = taken p home Reply rest line.lane }))
          granted Nobody phase last lists quiet acked empty = good-ack-nobody home line good p apart rest empty acked lists (line.want home) phase last
          granted (Node n) phase last lists quiet acked empty = good-ack-node home line good p apart rest empty acked lists n (line.want home) phase last quiet
          granted Me phase last lists quiet acked empty = wanted (line.want home) refl (let h : IsGoodHome home (Called Me) line.words (line.copy home) (line.want home) (good.status home) = rw phase at good.at_home in rw h.carrier at h.carried)
            where
              wanted : (want : Option Want) → line.want home ≡ want → IsCarried (line.want home) (line.copy home) Granted → IsGood home (after_row home home (grant Me want (unlist line.header.list p) (share_of line home)) (record line { lane = taken p home Reply rest line.lane }))
              wanted None e c = let d : Granted ≡ Resting = rw e at c in cc
              wanted (Some want) e c = good-ack-me home line good p apart rest empty acked lists want.op want.marked phase e last
