-- What a node's next operation does, by the definition of one node's act.
use Rattle.std.proofs.Common.{◌≡◌, ◌≢◌, ℕ, suc, Bool, true, false, cond, not, ◌==◌, List, [], slice_get, is_some, Option, Some, None, Result, Ok, Err, refl, sym, ap, ◌∙◌, subst, unwrap_or}
use Rattle.std.proofs.lemmas.Bool.{cond-true, cond-false, eqb-true, eq-eqb}
use Rattle.std.specs.FinMap as fin
use Rattle.line_map.specs.Sizes.{Sizes, line_of, home_of}
use Rattle.op_model.specs.declared.events.Cause.{Cause}
use Rattle.op_model.specs.declared.events.Cause.TheVariants.{NoOp, Outstanding, Miss, HitFirst, Conflict}
use Rattle.op_model.specs.declared.operations.Op.{Op}
use Rattle.op_model.specs.declared.state.Want.{Want}
use Rattle.op_model.specs.Operations.{entry_of, is_load}
use Rattle.op_model.specs.Lines.{Copy, LineShare, NoService, Own, Outcome, words_of}
use Rattle.op_model.specs.Shares.{Charge, Share, first_header, copy_of, header_of, line_share, put_copy, want_on, want_after, conflicts, room_of, header_in, copy_in, Headers}
use Rattle.op_model.specs.Tables.Processor.{serves, done_on, hit, ask, begin_op, begin_at_home}
use Rattle.op_model.specs.Events.Node.{Input, HitNext, IssueNext, NodeOutcome, local, by_row, with_next, hit_next, issue_next, map_ok, is_outstanding, permit}
use Rattle.op_model.specs.Programs.{IsProgramOf}
use Rattle.op_model.proofs.Public.{some_held}
use Rattle.cpu_cache.specs.Effects.{effect_of, nothing, own_effect}
use Rattle.cpu_cache.specs.declared.effects.Effect.{Effect}
use Rattle.cpu_cache.specs.Caches.{CacheView, with_copy, is_set_taken}
use Rattle.cpu_cache.specs.Processors.{ProcView}
use Rattle.msg_words.specs.SendList.{SendList}
use Rattle.node_share.specs.Parts.{share_of, row_at, AreHeaders, DoesRow}
use Rattle.node_share.specs.Effects.{Acts, Begins}
use Rattle.node_share.proofs.Public.{effect-none, effect-own, put-same, row-share, sent-none}

outstanding : (want : Option Want) → is_some want ≡ true → is_outstanding want ≡ true
outstanding None e = cc
outstanding (Some w) e = refl

pub free-is : (want : Option Want) → is_some want ≡ false → want ≡ None
free-is None e = refl
free-is (Some w) e = cc

pub permit-map : {A B : Type 0} (f : A → B) (r : Result A Cause) → permit (map_ok f r) ≡ permit r
permit-map f (Ok done) = refl
permit-map f (Err cause) = refl

ask-quiet : (home : ℕ) (op : Op) (share : LineShare) → ((ask home op share).served ≡ NoService) × ((ask home op share).done ≡ false)
unfolding ask
ask-quiet home op share = by (is_load op.kind)
  where
    by : (b : Bool) → ((cond b (Rattle.op_model.specs.Lines.sending (record share { want = Rattle.op_model.specs.Lines.begun op }) (Rattle.op_model.specs.Lines.one_to home Rattle.op_model.specs.Messages.Get)) (Rattle.op_model.specs.Lines.sending (record share { want = Rattle.op_model.specs.Lines.begun op; copy = Rattle.op_model.specs.Lines.without_shared share.copy }) (Rattle.op_model.specs.Lines.one_to home Rattle.op_model.specs.Messages.GetX))).served ≡ NoService)
        × ((cond b (Rattle.op_model.specs.Lines.sending (record share { want = Rattle.op_model.specs.Lines.begun op }) (Rattle.op_model.specs.Lines.one_to home Rattle.op_model.specs.Messages.Get)) (Rattle.op_model.specs.Lines.sending (record share { want = Rattle.op_model.specs.Lines.begun op; copy = Rattle.op_model.specs.Lines.without_shared share.copy }) (Rattle.op_model.specs.Lines.one_to home Rattle.op_model.specs.Messages.GetX))).done ≡ false)
    by true = (refl, refl)
    by false = (refl, refl)

module _ (charge : Charge) (sizes : Sizes) (node : ℕ) (proc : ProcView) (cache : CacheView) (headers : Headers) where
  abbrev share : Share
  share = share_of proc cache.copies headers

  abbrev pub act : Input → Result NodeOutcome Cause
  act input = local charge sizes node proc.program share input

  pub hit-none : slice_get proc.program proc.place ≡ None → act HitNext ≡ Err NoOp
  unfolding local
  hit-none next = ap (λ o. with_next share o (hit_next sizes node share)) next

  pub issue-none : slice_get proc.program proc.place ≡ None → act IssueNext ≡ Err NoOp
  unfolding local
  issue-none next = ap (λ o. with_next share o (issue_next charge sizes node share)) next

  module _ (op : Op) (next : slice_get proc.program proc.place ≡ Some op) where
    abbrev line : ℕ
    line = line_of sizes op.word

    abbrev here : LineShare
    here = line_share sizes share line

    pub hit-waits : is_some proc.want ≡ true → act HitNext ≡ Err Outstanding
    unfolding local
    hit-waits wanted = ap (λ o. with_next share o (hit_next sizes node share)) next ∙ cond-true (is_outstanding proc.want) _ _ (outstanding proc.want wanted)

    pub issue-waits : is_some proc.want ≡ true → act IssueNext ≡ Err Outstanding
    unfolding local
    issue-waits wanted = ap (λ o. with_next share o (issue_next charge sizes node share)) next ∙ cond-true (is_outstanding proc.want) _ _ (outstanding proc.want wanted)

    module _ (free : proc.want ≡ None) where
      hits : act HitNext ≡ cond (serves op (copy_in cache.copies line)) (Ok (by_row sizes node share line (hit op here))) (Err Miss)
      unfolding local copy_of
      hits = ap (λ o. with_next share o (hit_next sizes node share)) next ∙ cond-false (is_outstanding proc.want) _ _ (ap is_outstanding free)

      pub hit-misses : serves op (copy_in cache.copies line) ≡ false → act HitNext ≡ Err Miss
      hit-misses off = hits ∙ cond-false (serves op (copy_in cache.copies line)) _ _ off

      pub hit-may : serves op (copy_in cache.copies line) ≡ true → Ok tt ≡ permit (act HitNext)
      hit-may on = sym (ap permit (hits ∙ cond-true (serves op (copy_in cache.copies line)) _ _ on))

      pub hit-does : (proc' : ProcView) (cache' : CacheView) (out : SendList) → AreHeaders sizes node headers → IsProgramOf sizes node proc.program → serves op (copy_in cache.copies line) ≡ true →
          proc' ≡ record proc { place = suc proc.place; want = None } → cache' ≡ with_copy cache line (done_on op (copy_in cache.copies line)) →
          Acts node proc.program proc.place [] (act HitNext) (share_of proc' cache'.copies headers) out out (own_effect (entry_of op.node op.index op (words_of (copy_in cache.copies line))))
      unfolding hit copy_of header_in
      hit-does proc' cache' out has program on proc-is cache-is = record {
        outcome = by_row sizes node share line (hit op here);
        is = hits ∙ cond-true (serves op (copy_in cache.copies line)) _ _ on;
        share = row-share sizes node line proc cache.copies headers (hit op) proc' cache'.copies headers
            (ap (λ p. p.place) proc-is)
            (ap (λ p. p.want) proc-is ∙ sym (ap (λ k. want_after sizes k line (want_on sizes k line)) free))
            (ap (λ c. c.copies) cache-is)
            (kept (node == home_of sizes line) refl);
        sends = sent-none out;
        told = effect-own node proc.program proc.place [] (by_row sizes node share line (hit op here)) sizes op (words_of (copy_in cache.copies line)) program next refl refl;
      }
        where
          kept : (b : Bool) → (node == home_of sizes line) ≡ b → headers ≡ cond b (fin.insert headers line (unwrap_or (fin.get headers line) (first_header sizes))) headers
          kept true e = sym (put-same headers line (unwrap_or (fin.get headers line) (first_header sizes)) (some_held (fin.get headers line) (first_header sizes) (has line (sym (eqb-true node (home_of sizes line) e)))))
          kept false e = refl

      issues : act IssueNext ≡ cond (serves op (copy_in cache.copies line)) (Err HitFirst) (cond (conflicts sizes share line) (Err Conflict) (map_ok (by_row sizes node share line) (begin_op node (home_of sizes line) (room_of charge sizes share) op here)))
      unfolding local copy_of
      issues = ap (λ o. with_next share o (issue_next charge sizes node share)) next ∙ cond-false (is_outstanding proc.want) _ _ (ap is_outstanding free)

      pub issue-hits : serves op (copy_in cache.copies line) ≡ true → act IssueNext ≡ Err HitFirst
      issue-hits on = issues ∙ cond-true (serves op (copy_in cache.copies line)) _ _ on

      module _ (off : serves op (copy_in cache.copies line) ≡ false) (same : cache.sizes ≡ sizes) where
        conflicts-is : conflicts sizes share line ≡ is_set_taken cache line
        unfolding copy_of
        conflicts-is = ap (λ z. is_set_taken (record { sizes = z; copies = cache.copies }) line) (sym same)

        pub issue-conflicts : is_set_taken cache line ≡ true → act IssueNext ≡ Err Conflict
        issue-conflicts taken = issues ∙ cond-false (serves op (copy_in cache.copies line)) _ _ off ∙ cond-true (conflicts sizes share line) _ _ (conflicts-is ∙ taken)

        module _ (alone : is_set_taken cache line ≡ false) where
          begins : act IssueNext ≡ map_ok (by_row sizes node share line) (cond (node == home_of sizes line) (begin_at_home (home_of sizes line) (room_of charge sizes share) op here) (Ok (ask (home_of sizes line) op here)))
          unfolding begin_op copy_of
          begins =
              issues ∙ cond-false (serves op (copy_in cache.copies line)) _ _ off ∙ cond-false (conflicts sizes share line) _ _ (conflicts-is ∙ alone)
              ∙ ap (map_ok (by_row sizes node share line)) (cond-false (serves op (copy_in cache.copies line)) _ _ off)

          module _ (own : home_of sizes line ≡ node) where
            at-home : act IssueNext ≡ map_ok (by_row sizes node share line) (begin_at_home node (room_of charge sizes share) op here)
            at-home =
                begins ∙ ap (map_ok (by_row sizes node share line)) (cond-true (node == home_of sizes line) _ _ (eq-eqb node (home_of sizes line) (sym own)) ∙ ap (λ k. begin_at_home k (room_of charge sizes share) op here) own)

            pub issue-may : permit (act IssueNext) ≡ permit (begin_at_home node (room_of charge sizes share) op here)
            issue-may = ap permit at-home ∙ permit-map (by_row sizes node share line) (begin_at_home node (room_of charge sizes share) op here)

            pub issue-refused : (cause : Cause) → begin_at_home node (room_of charge sizes share) op here ≡ Err cause → act IssueNext ≡ Err cause
            issue-refused cause e = at-home ∙ ap (map_ok (by_row sizes node share line)) e

            pub issue-begins : (new : Share) (out out' : SendList) (effect : Effect) → Begins sizes node proc.program proc.place line (begin_at_home node (room_of charge sizes share) op here) share new out out' effect → Acts node proc.program proc.place [] (act IssueNext) new out out' effect
            issue-begins new out out' effect b = record {
              outcome = by_row sizes node share line b.outcome;
              is = at-home ∙ ap (map_ok (by_row sizes node share line)) b.is;
              share = b.row.share;
              sends = b.row.sends;
              told = b.told;
            }

          pub issue-away : (node == home_of sizes line) ≡ false → Ok tt ≡ permit (act IssueNext)
          issue-away away = sym (ap permit (begins ∙ ap (map_ok (by_row sizes node share line)) (cond-false (node == home_of sizes line) _ _ away)))

          pub issue-asks : (new : Share) (out out' : SendList) → (node == home_of sizes line) ≡ false → DoesRow sizes node share new out out' line (ask (home_of sizes line) op) → Acts node proc.program proc.place [] (act IssueNext) new out out' nothing
          issue-asks new out out' away row = record {
            outcome = row_at sizes node share line (ask (home_of sizes line) op);
            is = begins ∙ ap (map_ok (by_row sizes node share line)) (cond-false (node == home_of sizes line) _ _ away);
            share = row.share;
            sends = row.sends;
            told = let q = ask-quiet (home_of sizes line) op here in effect-none node proc.program proc.place [] (row_at sizes node share line (ask (home_of sizes line) op)) q.0 q.1;
          }
