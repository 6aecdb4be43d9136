-- Every message that is taken on a line that doesn't drain meets a row and keeps the line good: it stays settled, but where a GetX makes it drain.
use Rattle.std.proofs.Common.{◌≡◌, ◌≢◌, ℕ, Bool, true, false, ◌==◌, ◌&&◌, not, List, ◌∷◌, refl, arith, ap, sym, ◌∙◌, subst, inl}
use Rattle.std.proofs.lemmas.Bool.Decides.{nat_tests}
use Rattle.eager_model.specs.Types.{Class, Request, Reply}
use Rattle.op_model.specs.Nodes.{listed}
use Rattle.op_model.specs.Messages.{Content, Get, GetX, FwdGet, FwdGetX, Inv, Wb, Rpl, Put, PutX, Nak, InvAck, ShWb, FAck, Nakc}
use Rattle.op_model.specs.Lines.{LineShare, Room, Outcome, Service, NoService, Own, For, is_empty, is_exclusive, is_pending}
use Rattle.op_model.specs.Tables.Home.{no_other}
use Rattle.op_model.specs.Tables.Home as delayed_home
use Rattle.op_model.specs.Tables.Remote.{on_fwd_get, is_invalidate, waits_load, waits_write}
use Rattle.op_model.specs.Tables.Remote as delayed
use Rattle.op_model.proofs.Public.{eqb-self, three_parts}
use Rattle.line_invariant.specs.Line.{share_of}
use Rattle.line_invariant.specs.Rows.{IsServedFor, IsPut, EndsRight}
use Rattle.line_invariant.specs.Good.{IsGoodNode, IsGoodHeader, AskingX, Asked, ToGive, asked_role}
use Rattle.line_invariant.proofs.Public.{answer-comes, answered, asked-phase, fwdx-first, getx-comes}
use Rattle.line_invariant.proofs.Public.{if-either, meets-take, node-holds, put-answered, replies-only}
use Rattle.line_invariant.proofs.Public.{reply-home, request-away, served-take}
use Rattle.eager_model.specs.Rows.{asks_shared, meets, row_of, on_getx, on_message}
use Rattle.eager_model.specs.Ages.{age_given, served_age}
use Rattle.eager_model.specs.Line.{AgedLine, ages_of, ages_after_take, row_taken, after_take}
use Rattle.eager_model.specs.Served.{IsServedAt, age_taken}
use Rattle.eager_model.specs.Good.{IsSettled, IsEagerGood}
use Rattle.eager_model.proofs.ServedAt.{above, for-well, served-at}
use Rattle.eager_model.proofs.AnyLine.{eager-done}
use Rattle.eager_model.proofs.Quiet.{at-top}
use Rattle.eager_model.proofs.Taken.{left_line}
use Rattle.eager_model.proofs.Same.{same-meets, same-message, good-without-ages}
use Rattle.eager_model.proofs.Gives.{good-give}
use Rattle.eager_model.proofs.NewestRows.{IsNewRow}
use Rattle.eager_model.proofs.Begins.{IsAlone}
use Rattle.eager_model.proofs.Alone.{alone-owner}
use Rattle.eager_model.proofs.TakenRows.{Row, row-nak, row-inv, row-fwd, row-put, row-putx}
use Rattle.eager_model.proofs.HomeTaken.{row-get, row-wb, row-rpl, row-shwb, row-fack, row-nakc}
use Rattle.eager_model.proofs.GivenRows.{row-fwdx, row-getx}

abbrev is_getx : Content → Bool
is_getx GetX = true
is_getx _ = false

getx-only : (content : Content) → is_getx content ≡ true → content ≡ GetX
getx-only content e = grind arith

-- a GetX serves nothing
getx-serves : (to home from : ℕ) (alone : Bool) (room : Room) (share : LineShare) → (on_message to home from alone room GetX share).served ≡ NoService
unfolding on_message row_of on_getx delayed_home.on_getx
getx-serves to home from alone room share =
    if-either Quiet (meets to home from alone GetX share) _ _ (λ _.
    (if-either Quiet (asks_shared room from share.header) _ _ (λ _. refl) (λ _.
    (if-either Quiet (is_pending share.header) _ _ (λ _. refl) (λ _.
    (if-either Quiet (share.header.dirty && share.header.local) _ _ (λ _. refl) (λ _.
    (if-either Quiet (share.header.dirty && room.full) _ _ (λ _. refl) (λ _.
    (if-either Quiet share.header.dirty _ _ (λ _. refl) (λ _.
    (if-either Quiet (no_other from share.header.list) _ _ (λ _. refl) (λ _.
    (if-either Quiet room.full _ _ (λ _. refl) (λ _. refl))))))))))))))) (λ _. refl)
  where
    Quiet : Outcome → Type 0
    Quiet o = o.served ≡ NoService

module _ (home : ℕ) (line : AgedLine) (settled : IsSettled home line) (from to : ℕ) (class : Class) (rest : List Content) (room : Room) where
  -- the load that a forward serves wasn't served before
  not-served : (r : ℕ) → IsServedFor line.line.want line.line.answered to line.line.words (on_fwd_get home r (share_of line.line to)).served → is_exclusive (line.line.copy to) ≡ true → line.line.answered r ≡ false
  unfolding on_fwd_get
  not-served r = if-either (λ (o : Outcome). IsServedFor line.line.want line.line.answered to line.line.words o.served → is_exclusive (line.line.copy to) ≡ true → line.line.answered r ≡ false) (is_exclusive (line.line.copy to)) _ _ (λ _ served _. served.2) (λ none _ held. absurd (grind arith))

  -- who is asked to hand the line on and has it is the only one
  asked-alone : (r : ℕ) → to ≢ home → (class : Class) → line.line.lane from to class ≡ FwdGetX r ∷ rest → is_exclusive (line.line.copy to) ≡ true → IsAlone home to line × (line.line.header.dirty ≡ true)
  asked-alone r apart Request front held =
      let good = settled.good in
      let away = request-away home line.line good from (FwdGetX r) rest to apart front in
      let comes = fwdx-first (good.status to).duty r rest away.1 in
      let asked = asked-phase home line.line.words good.phase to _ _ true r (good.nodes to apart).duty comes.0 in
      go asked.0 asked.1
    where
      go : (holds : Bool) → settled.good.phase ≡ Asked true r to false holds → IsAlone home to line × (line.line.header.dirty ≡ true)
      go holds phase =
          let it : IsGoodNode (asked_role holds (ToGive true r)) line.line.words (listed line.line.header.list to) (line.line.copy to) (line.line.want to) (settled.good.status to) = rw (eqb-self to) at (rw phase at (settled.good.nodes to apart)) in
          let is_held : holds ≡ true = node-holds line.line.words _ (line.line.copy to) (line.line.want to) (settled.good.status to) holds (ToGive true r) it held in
          let header : IsGoodHeader home (Asked true r to false holds) line.line.words line.line.header (line.line.copy home) = rw phase at settled.good.header in
          (alone-owner home line settled.good to apart true r (phase ∙ ap (Asked true r to false) is_held) held, header.1 ∙ is_held)
  asked-alone r apart Reply front held =
      let comes = answer-comes home line.line settled.good to apart rest from (FwdGetX r) front in
      absurd (answered (line.line.want to) (line.line.copy to) from (FwdGetX r) (rw comes.0 at (settled.good.nodes to apart).carried)).3

  -- who sent a GetX asks for the line
  module _ (apart : from ≢ home) where
    asks-for : (class : Class) → line.line.lane from home class ≡ GetX ∷ rest → (class ≡ Request) × ((settled.good.status from).carrier ≡ AskingX)
    asks-for Request front = (refl, (getx-comes home line.line settled.good from apart rest front).1)
    asks-for Reply front = let c = replies-only from _ _ (settled.good.status home).carrier (settled.good.status from).duty _ rest settled.good.at_home.carried (reply-home home line.line settled.good from GetX rest front) in cc

  module _ (content : Content) (front : line.line.lane from to class ≡ content ∷ rest) where
    pub meets-delayed : delayed.meets to home from (is_empty (line.line.copy to)) content (share_of line.line to) ≡ true
    meets-delayed = meets-take home line.line settled.good from rest to class content front

    -- the front of each lane meets a row
    pub meets-settled : meets to home from (is_empty (line.line.copy to)) content (share_of line.line to) ≡ true
    meets-settled = same-meets to home from (is_empty (line.line.copy to)) room (share_of line.line to) settled.settled content ∙ meets-delayed

    does-delayed : delayed.on_message to home from (is_empty (line.line.copy to)) room content (share_of line.line to) ≡ delayed.row_of to home from room content (share_of line.line to)
    unfolding delayed.on_message
    does-delayed = simp meets-delayed

    served-row : IsServedFor line.line.want line.line.answered to line.line.words (delayed.row_of to home from room content (share_of line.line to)).served
    served-row = subst (λ o. IsServedFor line.line.want line.line.answered to line.line.words o.served) does-delayed (served-take home line.line settled.good from rest room to class content front)

  off-home : (a : Bool) → not a ≡ true → a ≡ false
  off-home a e = grind arith

  module _ (age : ℕ) (ages : List ℕ) (first : line.lane_age from to class ≡ age ∷ ages) where
    row-any : (content : Content) → line.line.lane from to class ≡ content ∷ rest → (content ≡ GetX → asks_shared room from line.line.header ≡ false) →
        delayed.meets to home from (is_empty (line.line.copy to)) content (share_of line.line to) ≡ true →
        IsServedFor line.line.want line.line.answered to line.line.words (delayed.row_of to home from room content (share_of line.line to)).served →
        Row home line settled from to class rest age ages first content (delayed.row_of to home from room content (share_of line.line to))
    unfolding delayed.row_of delayed.meets
    row-any Get front other met served = row-get home line settled from to class rest age ages first (three_parts (to == home) _ _ met).0 front room served
    row-any GetX front other met served =
        let on : (to == home) ≡ true = (three_parts (to == home) _ _ met).0 in
        let there : to ≡ home = grind (arith, nat_tests) in
        let far : (from == home) ≡ false = off-home (from == home) (three_parts (to == home) _ _ met).1 in
        let apart : from ≢ home = (λ same. grind (arith, nat_tests)) in
        row-getx home line settled from to class rest age ages first on front room (other refl) (asks-for apart class (ap (λ n. line.line.lane from n class) (sym there) ∙ front)).1
    row-any (FwdGet r) front other met served = row-fwd home line settled from to class rest age ages first r front (off-home (to == home) met) (not-served r served)
    row-any (FwdGetX r) front other met served =
        let off : (to == home) ≡ false = off-home (to == home) met in
        let apart : to ≢ home = (λ same. grind (arith, nat_tests)) in
        row-fwdx home line settled from to class rest age ages first r front off (asked-alone r apart class front)
    row-any Inv front other met served = row-inv home line settled from to class rest age ages first front
    row-any (Wb words) front other met served = row-wb home line settled from to class rest age ages first words front
    row-any Rpl front other met served = row-rpl home line settled from to class rest age ages first front
    row-any (Put words) front other met served = row-put home line settled from to class rest age ages first words front (three_parts (waits_load (line.line.want to)) _ _ met).1
    row-any (PutX words) front other met served = row-putx home line settled from to class rest age ages first words front (three_parts (waits_write (line.line.want to)) _ _ met).0
    row-any (Nak cause) front other met served = row-nak home line settled from to class rest age ages first cause front
    row-any InvAck front other met served = absurd (let called : is_invalidate line.line.header.wait ≡ true = (three_parts (to == home) _ _ met).1 in let calm = settled.settled in grind arith)
    row-any (ShWb words) front other met served = row-shwb home line settled from to class rest age ages first words front
    row-any FAck front other met served = row-fack home line settled from to class rest age ages first front
    row-any Nakc front other met served = row-nakc home line settled from to class rest age ages first front

    module _ (content : Content) (front : line.line.lane from to class ≡ content ∷ rest) where
      pub taken-row : (content ≡ GetX → asks_shared room from line.line.header ≡ false) →
          IsNewRow home to (left_line from to class rest ages line) (row_taken home from to content room line.line) (ages_after_take home from to content age room line)
      taken-row other =
          rw (meets-settled content front) (subst (Row home line settled from to class rest age ages first content) (sym does) (row-any content front other (meets-delayed content front) (served-row content front)))
        where
          does : on_message to home from (is_empty (line.line.copy to)) room content (share_of line.line to) ≡ delayed.row_of to home from room content (share_of line.line to)
          does = same-message to home from (is_empty (line.line.copy to)) room (share_of line.line to) settled.settled content other ∙ does-delayed content front

      taken-served : (content ≡ GetX → asks_shared room from line.line.header ≡ false) → IsServedFor line.line.want line.line.answered to line.line.words (row_taken home from to content room line.line).served
      taken-served other = subst (λ o. IsServedFor line.line.want line.line.answered to line.line.words o.served) (sym (same-message to home from (is_empty (line.line.copy to)) room (share_of line.line to) settled.settled content other)) (served-take home line.line settled.good from rest room to class content front)

      -- what a message serves, where it doesn't make the line drain
      pub served-stays : line.words_at line.top ≡ line.line.words → (content ≡ GetX → asks_shared room from line.line.header ≡ false) →
          IsServedAt line (after_take home from to class content rest age ages room line).top to (age_taken home from to content age room line) (row_taken home from to content room line.line).served
      served-stays newest other =
          served-at line to newest settled.ages.past (after_take home from to class content rest age ages room line).top (above line.top _) (row_taken home from to content room line.line).served _
          (for-well line.line.want line.line.answered to line.line.words (row_taken home from to content room line.line).served (taken-served other)) (taken-row other).at_top

      stays : (content ≡ GetX → asks_shared room from line.line.header ≡ false) → IsEagerGood home (after_take home from to class content rest age ages room line)
      stays other =
          let row = taken-row other in
          record {
            newest = at-top line.words_at _ _;
            stands = inl (record { good = good-without-ages home line from to class content rest age ages room settled front other; settled = row.waits; ages = row.newest });
          }

      -- E2
      grants : line.words_at line.top ≡ line.line.words → content ≡ GetX → asks_shared room from line.line.header ≡ true → IsEagerGood home (after_take home from to class content rest age ages room line)
      unfolding delayed.meets
      grants newest is shared = rw is (subst (λ t. line.line.lane from t class ≡ GetX ∷ rest → line.lane_age from t class ≡ age ∷ ages → IsEagerGood home (after_take home from t class GetX rest age ages room line)) (sym there) (λ f g. given class f g) getx first)
        where
          getx : line.line.lane from to class ≡ GetX ∷ rest
          getx = front ∙ ap (λ c. c ∷ rest) is

          met : delayed.meets to home from (is_empty (line.line.copy to)) GetX (share_of line.line to) ≡ true
          met = meets-delayed GetX getx

          there : to ≡ home
          there = let on : (to == home) ≡ true = (three_parts (to == home) _ _ met).0 in grind (arith, nat_tests)

          apart : from ≢ home
          apart same = let far : (from == home) ≡ false = off-home (from == home) (three_parts (to == home) _ _ met).1 in grind (arith, nat_tests)

          given : (class : Class) → line.line.lane from home class ≡ GetX ∷ rest → line.lane_age from home class ≡ age ∷ ages → IsEagerGood home (after_take home from home class GetX rest age ages room line)
          given Request f g = good-give home line from apart rest age ages room f g shared (record { newest = newest; stands = inl settled })
          given Reply f g = let c = (asks-for apart Reply f).0 in cc

      pub good-settled-take : line.words_at line.top ≡ line.line.words → IsEagerGood home (after_take home from to class content rest age ages room line)
      good-settled-take newest = go (is_getx content) refl (asks_shared room from line.line.header) refl
        where
          go : (x : Bool) → is_getx content ≡ x → (a : Bool) → asks_shared room from line.line.header ≡ a → IsEagerGood home (after_take home from to class content rest age ages room line)
          go x e false f = stays (λ is. f)
          go false e true f = stays (λ is. absurd (let no : true ≡ false = sym (ap is_getx is) ∙ e in grind arith))
          go true e true f = grants newest (getx-only content e) f

      -- what any message serves
      pub served-settled-take : line.words_at line.top ≡ line.line.words → IsServedAt line (after_take home from to class content rest age ages room line).top to (age_taken home from to content age room line) (row_taken home from to content room line.line).served
      served-settled-take newest = go (is_getx content) refl
        where
          go : (x : Bool) → is_getx content ≡ x → IsServedAt line (after_take home from to class content rest age ages room line).top to (age_taken home from to content age room line) (row_taken home from to content room line.line).served
          go false e = served-stays newest (λ is. absurd (let no : true ≡ false = sym (ap is_getx is) ∙ e in grind arith))
          go true e =
              let none : (row_taken home from to content room line.line).served ≡ NoService = rw (getx-only content e) (getx-serves to home from (is_empty (line.line.copy to)) room (share_of line.line to)) in
              none-served (row_taken home from to content room line.line).served none
            where
              none-served : (service : Service) → service ≡ NoService → IsServedAt line (after_take home from to class content rest age ages room line).top to (served_age (age_given (to == home) (share_of line.line to) (ages_of line to)) (ages_after_take home from to content age room line).copy service) service
              none-served NoService e = tt
              none-served (Own op on) e = absurd (grind arith)
              none-served (For n on) e = absurd (grind arith)

      -- whose operation it is
      pub whose-settled-take : IsServedFor line.line.want line.line.answered to line.line.words (row_taken home from to content room line.line).served
      whose-settled-take = go (is_getx content) refl
        where
          go : (x : Bool) → is_getx content ≡ x → IsServedFor line.line.want line.line.answered to line.line.words (row_taken home from to content room line.line).served
          go false e = taken-served (λ is. absurd (let no : true ≡ false = sym (ap is_getx is) ∙ e in grind arith))
          go true e = let none : (row_taken home from to content room line.line).served ≡ NoService = rw (getx-only content e) (getx-serves to home from (is_empty (line.line.copy to)) room (share_of line.line to)) in rw none tt

      pub done-settled-take : EndsRight (line.line.answered to ≡ true) (row_taken home from to content room line.line)
      done-settled-take = eager-done to home from (is_empty (line.line.copy to)) room (share_of line.line to) (line.line.answered to ≡ true) content (known content front)
        where
          known : (content : Content) → line.line.lane from to class ≡ content ∷ rest → IsPut content → line.line.answered to ≡ true
          known (Put words) front is = put-answered home line.line settled.good from rest to class words front
          known Get front is = absurd is
          known GetX front is = absurd is
          known (FwdGet r) front is = absurd is
          known (FwdGetX r) front is = absurd is
          known Inv front is = absurd is
          known (Wb words) front is = absurd is
          known Rpl front is = absurd is
          known (PutX words) front is = absurd is
          known (Nak cause) front is = absurd is
          known InvAck front is = absurd is
          known (ShWb words) front is = absurd is
          known FAck front is = absurd is
          known Nakc front is = absurd is
