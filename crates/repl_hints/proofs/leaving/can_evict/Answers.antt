-- The first cause why a copy can't leave.
use Rattle.std.proofs.Common.{◌≡◌, ◌==◌, true, false, sym, ap, ◌∙◌}
use Rattle.line_map.specs.Sizes.{home_of}
use Rattle.op_model.specs.Lines.{is_empty}
use Rattle.op_model.specs.Shares.{copy_of, copy_in}
use Rattle.op_model.specs.Events.Node.{departs, permit}
use Rattle.op_model.specs.Tables.Processor.{fits}
use Rattle.node_share.specs.Parts.{share_of}
use Rattle.repl_hints.proofs.Evicts.{evict-none, evict-wrong, evict-may, evict-shut, gate-free, gate-open}
use Rattle.repl_hints.proofs.leaving.can_evict.Goals as goal

pub returns-then-has_none : goal.returns-then-has_none
unfolding copy_of
returns-then-has_none c = λ proc headers.
    sym (ap permit (evict-none c.args.cache.now.sizes c.args.node c.args.line c.args.kind c.args.room (share_of proc c.args.cache.now.copies headers) (sym c.has_none.ensures.value ∙ c.if-has_none.true)))

pub returns-then-not-fits : goal.returns-then-not-fits
unfolding copy_of
returns-then-not-fits c =
    let sizes = c.args.cache.now.sizes in
    let copy = copy_in c.args.cache.now.copies c.args.line in
    let at : c.home_of.result ≡ home_of sizes c.args.line = c.home_of.ensures.value ∙ ap (λ z. home_of z c.args.line) c.cfg.ensures.value in
    let held : is_empty copy ≡ false = sym c.has_none.ensures.value ∙ c.if-has_none.false in
    let fit : fits (c.args.node == home_of sizes c.args.line) c.args.kind copy ≡ false =
    ap (λ k. fits (c.args.node == k) c.args.kind copy) (sym at) ∙ sym (c.fits.ensures copy held (sym c.has_exclusive.ensures.value)) ∙ c.if-not-fits.true in
    λ proc headers. sym (ap permit (evict-wrong sizes c.args.node c.args.line c.args.kind c.args.room (share_of proc c.args.cache.now.copies headers) held fit))

pub returns-then-not-departs : goal.returns-then-not-departs
unfolding copy_of
returns-then-not-departs c =
    let sizes = c.args.cache.now.sizes in
    let copy = copy_in c.args.cache.now.copies c.args.line in
    let at : c.home_of.result ≡ home_of sizes c.args.line = c.home_of.ensures.value ∙ ap (λ z. home_of z c.args.line) c.cfg.ensures.value in
    let held : is_empty copy ≡ false = sym c.has_none.ensures.value ∙ c.if-has_none.false in
    let fit : fits (c.args.node == home_of sizes c.args.line) c.args.kind copy ≡ true =
    ap (λ k. fits (c.args.node == k) c.args.kind copy) (sym at) ∙ sym (c.fits.ensures copy held (sym c.has_exclusive.ensures.value)) ∙ c.if-not-fits.false in
    let quiet : departs (c.args.node == home_of sizes c.args.line) c.args.kind ≡ false = ap (λ k. departs (c.args.node == k) c.args.kind) (sym at) ∙ sym c.departs.ensures ∙ c.if-not-departs.true in
    λ proc headers. sym (evict-may sizes c.args.node c.args.line c.args.kind c.args.room (share_of proc c.args.cache.now.copies headers) fit (gate-free (departs (c.args.node == home_of sizes c.args.line) c.args.kind) c.args.room quiet))

pub returns-then-not-room : goal.returns-then-not-room
unfolding copy_of
returns-then-not-room c =
    let sizes = c.args.cache.now.sizes in
    let copy = copy_in c.args.cache.now.copies c.args.line in
    let at : c.home_of.result ≡ home_of sizes c.args.line = c.home_of.ensures.value ∙ ap (λ z. home_of z c.args.line) c.cfg.ensures.value in
    let held : is_empty copy ≡ false = sym c.has_none.ensures.value ∙ c.if-has_none.false in
    let fit : fits (c.args.node == home_of sizes c.args.line) c.args.kind copy ≡ true =
    ap (λ k. fits (c.args.node == k) c.args.kind copy) (sym at) ∙ sym (c.fits.ensures copy held (sym c.has_exclusive.ensures.value)) ∙ c.if-not-fits.false in
    let leaves : departs (c.args.node == home_of sizes c.args.line) c.args.kind ≡ true = ap (λ k. departs (c.args.node == k) c.args.kind) (sym at) ∙ sym c.departs.ensures ∙ c.if-not-departs.false in
    λ proc headers. sym (ap permit (evict-shut sizes c.args.node c.args.line c.args.kind c.args.room (share_of proc c.args.cache.now.copies headers) fit leaves c.if-not-room.true))

pub returns : goal.returns
unfolding copy_of
returns c =
    let sizes = c.args.cache.now.sizes in
    let copy = copy_in c.args.cache.now.copies c.args.line in
    let at : c.home_of.result ≡ home_of sizes c.args.line = c.home_of.ensures.value ∙ ap (λ z. home_of z c.args.line) c.cfg.ensures.value in
    let held : is_empty copy ≡ false = sym c.has_none.ensures.value ∙ c.if-has_none.false in
    let fit : fits (c.args.node == home_of sizes c.args.line) c.args.kind copy ≡ true =
    ap (λ k. fits (c.args.node == k) c.args.kind copy) (sym at) ∙ sym (c.fits.ensures copy held (sym c.has_exclusive.ensures.value)) ∙ c.if-not-fits.false in
    λ proc headers. sym (evict-may sizes c.args.node c.args.line c.args.kind c.args.room (share_of proc c.args.cache.now.copies headers) fit (gate-open (departs (c.args.node == home_of sizes c.args.line) c.args.kind) c.args.room c.if-not-room.false))
