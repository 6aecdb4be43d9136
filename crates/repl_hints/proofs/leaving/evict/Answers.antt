-- A copy that may leave does.
use Rattle.std.proofs.Common.{◌≡◌, ◌≢◌, ◌==◌, true, false, [], None, refl, sym, ap, ◌∙◌, subst}
use Rattle.std.proofs.lemmas.Result.{err_from_is_err_and}
use Rattle.line_map.specs.Sizes.{home_of}
use Rattle.op_model.specs.Shares.{Share, copy_of, line_share}
use Rattle.op_model.specs.Events.Node.{evict_line, is_silent, permit}
use Rattle.op_model.specs.Tables.Processor.{leave_home, leave_remote}
use Rattle.op_model.proofs.Public.{refused-for}
use Rattle.cpu_cache.specs.Processors.{ProcView}
use Rattle.node_share.specs.Parts.{share_of, row_at, sent, DoesRow}
use Rattle.node_share.proofs.Public.{at-home, is-away, sent-none}
use Rattle.repl_hints.proofs.Evicts.{evict-allowed, evict-away, evict-home, is-silent}
use Rattle.repl_hints.proofs.Leaves.{goes-silently, home-sends}
use Rattle.repl_hints.proofs.leaving.evict.Goals as goal

pub returns-in_err-can_evict-clause-refused : goal.returns-in_err-can_evict-clause-refused
returns-in_err-can_evict-clause-refused g c =
    let home = c.args.home.now in
    let p = err_from_is_err_and c.from_residual.result c.from_residual.ensures.1 in
    rw (p.1, p.2) (λ (proc : ProcView). refused-for (evict_line home.sizes c.args.node (share_of proc c.args.cache.now.copies home.headers) c.args.line c.args.kind c.args.room) c.in_err-can_evict.field-0.0
    (c.in_err-can_evict.ensures proc home.headers ∙ ap (λ z. permit (evict_line z c.args.node (share_of proc c.args.cache.now.copies home.headers) c.args.line c.args.kind c.args.room)) c.requires.same))

pub leave_home-requires-clause-held : goal.leave_home-requires-clause-held
unfolding copy_of
leave_home-requires-clause-held g c =
    let home = c.args.home.now in
    let proc : ProcView = record { program = []; place = 0; want = None } in
    (evict-allowed c.args.cache.now.sizes c.args.node c.args.line c.args.kind c.args.room (share_of proc c.args.cache.now.copies home.headers) (c.in_ok-can_evict.ensures proc home.headers)).held

pub leave_with-requires-clause-held : goal.leave_with-requires-clause-held
unfolding copy_of
leave_with-requires-clause-held g c =
    let home = c.args.home.now in
    let proc : ProcView = record { program = []; place = 0; want = None } in
    (evict-allowed c.args.cache.now.sizes c.args.node c.args.line c.args.kind c.args.room (share_of proc c.args.cache.now.copies home.headers) (c.in_ok-can_evict.ensures proc home.headers)).held

pub returns-then-node-at-clause-done : goal.returns-then-node-at-clause-done
unfolding copy_of
returns-then-node-at-clause-done g c =
    let home = c.args.home.now in
    let at : c.home_of-at.result ≡ home_of home.sizes c.args.line = c.home_of-at.ensures.value ∙ ap (λ z. home_of z c.args.line) (c.cfg.ensures.value ∙ c.requires.same) in
    let own : home_of home.sizes c.args.line ≡ c.args.node = sym at ∙ sym c.if-node-at.true in
    λ proc.
    let share = share_of proc c.args.cache.now.copies home.headers in
    let may = evict-allowed home.sizes c.args.node c.args.line c.args.kind c.args.room share (c.in_ok-can_evict.ensures proc home.headers ∙ ap (λ z. permit (evict_line z c.args.node share c.args.line c.args.kind c.args.room)) c.requires.same) in
    record {
      outcome = row_at home.sizes c.args.node share c.args.line (λ k. leave_home k.copy k);
      is = evict-home home.sizes c.args.node c.args.line c.args.kind c.args.room share may.fit (at-home home.sizes c.args.node c.args.line own);
      share = c.leave_home.ensures.share proc ∙ ap (λ n. (row_at home.sizes n share c.args.line (λ k. leave_home k.copy k)).share) c.requires.node;
      sends = sent-none c.args.out.now ∙ ap (sent c.args.out.now) (sym (home-sends c.args.line (copy_of share c.args.line) (line_share home.sizes share c.args.line)));
    }

pub returns-then-is_silent-clause-done : goal.returns-then-is_silent-clause-done
unfolding copy_of
returns-then-is_silent-clause-done g c =
    let home = c.args.home.now in
    let at : c.home_of-at.result ≡ home_of home.sizes c.args.line = c.home_of-at.ensures.value ∙ ap (λ z. home_of z c.args.line) (c.cfg.ensures.value ∙ c.requires.same) in
    let away : home_of home.sizes c.args.line ≢ c.args.node = λ e. c.if-node-at.false (sym e ∙ sym at) in
    let off : (c.args.node == home_of home.sizes c.args.line) ≡ false = is-away home.sizes c.args.node c.args.line away in
    let quiet : is_silent c.args.kind ≡ true = sym c.is_silent.ensures ∙ c.if-is_silent.true in
    λ proc.
    let share = share_of proc c.args.cache.now.copies home.headers in
    let may = evict-allowed home.sizes c.args.node c.args.line c.args.kind c.args.room share (c.in_ok-can_evict.ensures proc home.headers ∙ ap (λ z. permit (evict_line z c.args.node share c.args.line c.args.kind c.args.room)) c.requires.same) in
    let row = goes-silently home.sizes c.args.node c.args.line (home_of home.sizes c.args.line) c.args.cache.now c.drop_line.new.self c.args.out.now c.args.out.now away c.drop_line.ensures.dropped proc home.headers c.args.kind (is-silent c.args.kind quiet) refl in
    record {
      outcome = row_at home.sizes c.args.node share c.args.line (leave_remote (home_of home.sizes c.args.line) c.args.kind);
      is = evict-away home.sizes c.args.node c.args.line c.args.kind c.args.room share may.fit off may.gate;
      share = row.share;
      sends = row.sends;
    }

pub returns-clause-done : goal.returns-clause-done
unfolding copy_of
returns-clause-done g c =
    let home = c.args.home.now in
    let at : c.home_of-at.result ≡ home_of home.sizes c.args.line = c.home_of-at.ensures.value ∙ ap (λ z. home_of z c.args.line) (c.cfg.ensures.value ∙ c.requires.same) in
    let away : home_of home.sizes c.args.line ≢ c.args.node = λ e. c.if-node-at.false (sym e ∙ sym at) in
    let off : (c.args.node == home_of home.sizes c.args.line) ≡ false = is-away home.sizes c.args.node c.args.line away in
    λ proc.
    let share : Share = share_of proc c.args.cache.now.copies home.headers in
    let may = evict-allowed home.sizes c.args.node c.args.line c.args.kind c.args.room share (c.in_ok-can_evict.ensures proc home.headers ∙ ap (λ z. permit (evict_line z c.args.node share c.args.line c.args.kind c.args.room)) c.requires.same) in
    let row : DoesRow home.sizes c.args.node share (share_of proc c.leave_with.new.cache.copies home.headers) c.args.out.now c.leave_with.new.out c.args.line (leave_remote (home_of home.sizes c.args.line) c.args.kind) =
    subst (λ z. DoesRow z c.args.node share (share_of proc c.leave_with.new.cache.copies home.headers) c.args.out.now c.leave_with.new.out c.args.line (leave_remote (home_of home.sizes c.args.line) c.args.kind)) c.requires.same
    (subst (λ k. DoesRow c.args.cache.now.sizes c.args.node share (share_of proc c.leave_with.new.cache.copies home.headers) c.args.out.now c.leave_with.new.out c.args.line (leave_remote k c.args.kind)) at
    (c.leave_with.ensures.row proc home.headers c.args.node (λ e. away (ap (λ z. home_of z c.args.line) (sym c.requires.same) ∙ e)))) in
    record {
      outcome = row_at home.sizes c.args.node share c.args.line (leave_remote (home_of home.sizes c.args.line) c.args.kind);
      is = evict-away home.sizes c.args.node c.args.line c.args.kind c.args.room share may.fit off may.gate;
      share = row.share;
      sends = row.sends;
    }
