-- An issue, by the tables of both cores; and a write that drains its line, call by call.
use Rattle.std.proofs.Common.{◌≡◌, ℕ, Bool, true, false, cond, not, ◌&&◌, ◌==◌, List, slice_get, Option, Some, None, Result, Ok, Err, refl, sym, ap, ◌∙◌, arith}
use Rattle.std.proofs.lemmas.Bool.{cond-true, cond-false, eq-eqb}
use Rattle.line_map.specs.Sizes.{Sizes, home_of, line_of}
use Rattle.op_model.specs.declared.events.Cause.{Cause}
use Rattle.op_model.specs.declared.events.Cause.TheVariants.{Outstanding, HitFirst, Conflict}
use Rattle.op_model.specs.declared.operations.Op.{Op}
use Rattle.op_model.specs.Lines.{LineShare, Outcome, Room, is_idle, is_outstanding, nobody_listed}
use Rattle.op_model.specs.Operations.{is_load}
use Rattle.op_model.specs.Shares.{Share, Unlinked, conflicts, copy_of, line_share, room_of}
use Rattle.op_model.specs.Tables.Processor.{serves, invalidate_for_home}
use Rattle.op_model.specs.Tables.Processor as delayed_rows
use Rattle.op_model.specs.Events.Node.{IssueNext, NodeOutcome, by_row, map_ok, permit, with_next}
use Rattle.op_model.specs.Events.Node as delayed
use Rattle.op_model.proofs.Public.{free-want}
use Rattle.pi_handlers.proofs.Public.{allowed-idle, allowed-room, begin-called, permit-map, write-waits}
use Rattle.eager_model.specs.Node.{issue_next, local}
use Rattle.eager_model.specs.Rows.{begin_op, write_and_drain, writes_shared}

map-same : {A : Type 0} (r : Result A Cause) → map_ok (λ (a : A). a) r ≡ r
map-same (Ok a) = refl
map-same (Err c) = refl

-- a result behind three tests that are passed
passed : {A : Type 0} (a b c : Bool) (d e f : Cause) (r : Result A Cause) → Ok tt ≡ permit (cond a (Err d) (cond b (Err e) (cond c (Err f) r))) → (a ≡ false) × (b ≡ false) × (c ≡ false) × (cond a (Err d) (cond b (Err e) (cond c (Err f) r)) ≡ r)
passed true b c d e f r is = cc
passed false true c d e f r is = cc
passed false false true d e f r is = cc
passed false false false d e f r is = (refl, refl, refl, refl)

module _ (sizes : Sizes) (node : ℕ) (program : List Op) (share : Share) where
  abbrev act : Result NodeOutcome Cause
  act = local sizes node program share IssueNext

  abbrev delayed_act : Result NodeOutcome Cause
  delayed_act = delayed.local Unlinked sizes node program share IssueNext

  abbrev room : Room
  room = room_of Unlinked sizes share

  -- an issue is refused for the same causes
  permit-op : (op : Op) → permit (issue_next sizes node share op) ≡ permit (delayed.issue_next Unlinked sizes node share op)
  unfolding begin_op
  permit-op op =
      let line = line_of sizes op.word in
      let begun = delayed_rows.begin_op node (home_of sizes line) room op (line_share sizes share line) in
      let row : Outcome → Outcome = λ row. cond ((node == home_of sizes line) && writes_shared op (line_share sizes share line).header) (write_and_drain (home_of sizes line) op (line_share sizes share line)) row in
      behind (serves op (copy_of share line)) (conflicts sizes share line) (map_ok (by_row sizes node share line) (map_ok row begun)) (map_ok (by_row sizes node share line) begun)
      (permit-map (by_row sizes node share line) (map_ok row begun) ∙ permit-map row begun ∙ sym (permit-map (by_row sizes node share line) begun))
    where
      behind : (a b : Bool) (r r' : Result NodeOutcome Cause) → permit r ≡ permit r' → permit (cond a (Err HitFirst) (cond b (Err Conflict) r)) ≡ permit (cond a (Err HitFirst) (cond b (Err Conflict) r'))
      behind true b r r' same = refl
      behind false true r r' same = refl
      behind false false r r' same = same

  pub permit-is : permit act ≡ permit delayed_act
  unfolding local delayed.local
  permit-is = by (slice_get program share.place)
    where
      waits : (b : Bool) (r r' : Result NodeOutcome Cause) → permit r ≡ permit r' → permit (cond b (Err Outstanding) r) ≡ permit (cond b (Err Outstanding) r')
      waits true r r' same = refl
      waits false r r' same = same

      by : (o : Option Op) → permit (with_next share o (issue_next sizes node share)) ≡ permit (with_next share o (delayed.issue_next Unlinked sizes node share))
      by None = refl
      by (Some op) = waits (is_outstanding share.want) (issue_next sizes node share op) (delayed.issue_next Unlinked sizes node share op) (permit-op op)

  none : slice_get program share.place ≡ None → act ≡ delayed_act
  unfolding local delayed.local
  none e = ap (λ o. with_next share o (issue_next sizes node share)) e ∙ sym (ap (λ o. with_next share o (delayed.issue_next Unlinked sizes node share)) e)

  module _ (op : Op) (next : slice_get program share.place ≡ Some op) where
    abbrev line : ℕ
    line = line_of sizes op.word

    abbrev here : LineShare
    here = line_share sizes share line

    -- what isn't such a write is begun as in the delayed core
    pub as-delayed : ((node == home_of sizes line) && writes_shared op here.header) ≡ false → act ≡ delayed_act
    unfolding local delayed.local begin_op
    as-delayed other =
        let begun = delayed_rows.begin_op node (home_of sizes line) room op here in
        let same : map_ok (λ row. cond ((node == home_of sizes line) && writes_shared op here.header) (write_and_drain (home_of sizes line) op here) row) begun ≡ begun = ap (λ b. map_ok (λ row. cond b (write_and_drain (home_of sizes line) op here) row) begun) other ∙ map-same begun in
        ap (λ o. with_next share o (issue_next sizes node share)) next
        ∙ ap (λ r. cond (is_outstanding share.want) (Err Outstanding) (cond (serves op here.copy) (Err HitFirst) (cond (conflicts sizes share line) (Err Conflict) (map_ok (by_row sizes node share line) r)))) same
        ∙ sym (ap (λ o. with_next share o (delayed.issue_next Unlinked sizes node share)) next)

    -- What is known of a write that drains its line, where it may be begun
    pub record IsDrainingWrite : Type 0 where
      pub free : share.want ≡ None
      pub unserved : serves op here.copy ≡ false
      pub alone : conflicts sizes share line ≡ false
      pub idle : is_idle here.header.wait ≡ true
      pub clean : here.header.dirty ≡ false
      pub write : is_load op.kind ≡ false
      pub some : nobody_listed here.header.list ≡ false
      pub left : room.full ≡ false
      pub is : act ≡ Ok (by_row sizes node share line (write_and_drain (home_of sizes line) op here))

    shared-parts : (d l n : Bool) → (not d && not l && not n) ≡ true → (d ≡ false) × (l ≡ false) × (n ≡ false)
    shared-parts d l n e = (grind arith, grind arith, grind arith)

    pub drains : Ok tt ≡ permit act → home_of sizes line ≡ node → writes_shared op here.header ≡ true → IsDrainingWrite
    unfolding local begin_op delayed_rows.begin_op
    drains allowed own shared =
        let begun = delayed_rows.begin_op node (home_of sizes line) room op here in
        let row : Outcome → Outcome = λ row. cond ((node == home_of sizes line) && writes_shared op here.header) (write_and_drain (home_of sizes line) op here) row in
        let on : act ≡ with_next share (Some op) (issue_next sizes node share) = ap (λ o. with_next share o (issue_next sizes node share)) next in
        let tests = passed (is_outstanding share.want) (serves op here.copy) (conflicts sizes share line) Outstanding HitFirst Conflict (map_ok (by_row sizes node share line) (map_ok row begun)) (allowed ∙ ap permit on) in
        let at : (node == home_of sizes line) ≡ true = eq-eqb node (home_of sizes line) (sym own) in
        let home : begun ≡ delayed_rows.begin_at_home (home_of sizes line) room op here = cond-false (serves op here.copy) _ _ tests.1 ∙ cond-true (node == home_of sizes line) _ _ at in
        let may : Ok tt ≡ permit (delayed_rows.begin_at_home (home_of sizes line) room op here) =
        allowed ∙ ap permit (on ∙ tests.3) ∙ permit-map (by_row sizes node share line) (map_ok row begun) ∙ permit-map row begun ∙ ap permit home in
        let parts = shared-parts here.header.dirty (is_load op.kind) (nobody_listed here.header.list) shared in
        let idle = allowed-idle (home_of sizes line) room op here may in
        let left = allowed-room (home_of sizes line) room op here may (write-waits op here.header parts.0 parts.1 ∙ ap not parts.2) in
        record {
          free = free-want share.want tests.0;
          unserved = tests.1;
          alone = tests.2;
          idle = idle;
          clean = parts.0;
          write = parts.1;
          some = parts.2;
          left = left;
          is = on ∙ tests.3 ∙ ap (λ r. map_ok (by_row sizes node share line) (map_ok row r)) (home ∙ begin-called (home_of sizes line) room op here idle parts.0 parts.1 parts.2 left)
              ∙ ap (λ b. Ok (by_row sizes node share line (cond (b && writes_shared op here.header) (write_and_drain (home_of sizes line) op here) (invalidate_for_home op here)))) at
              ∙ ap (λ b. Ok (by_row sizes node share line (cond b (write_and_drain (home_of sizes line) op here) (invalidate_for_home op here)))) shared;
        }

  -- whatever is next, where it isn't such a write
  pub as-begun : ((op : Op) → slice_get program share.place ≡ Some op → ((node == home_of sizes (line_of sizes op.word)) && writes_shared op (line_share sizes share (line_of sizes op.word)).header) ≡ false) → act ≡ delayed_act
  as-begun other = by (slice_get program share.place) refl
    where
      by : (o : Option Op) → slice_get program share.place ≡ o → act ≡ delayed_act
      by None e = none e
      by (Some op) e = as-delayed op e (other op e)
