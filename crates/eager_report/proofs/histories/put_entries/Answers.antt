use Rattle.std.proofs.Common.{◌++◌, codes, length, map, ap, sym, ◌∙◌, List, ℕ, append_assoc}
use Rattle.std.specs.List.{flat_map}
use Rattle.std.proofs.lemmas.List.{take_all, length-map}
use Rattle.decimal_text.specs.Text.{named}
use Rattle.eager_report.specs.declared.aged.AgedEntry.{AgedEntry}
use Rattle.eager_report.specs.Orders.{as_aged}
use Rattle.eager_report.specs.Reports.{aged_line, histories_text}
use Rattle.eager_report.proofs.Orders.{printed-kept}
use Rattle.eager_report.proofs.histories.put_entries.Goals as goal

pub returns : goal.returns
unfolding histories_text
returns c =
    let out = c.args.out.now.items in
    let entries = c.args.entries.now in
    c.loop-aged.invariant
    ∙ ap (λ (ks : List AgedEntry). out ++ named (codes "history ") (length entries) ++ flat_map (λ k. aged_line c.args.cfg.now (as_aged k)) ks) (take_all c.loop-aged.aged-index entries c.loop-aged-test.false)
    ∙ ap (λ (n : ℕ). out ++ named (codes "history ") n ++ flat_map (λ k. aged_line c.args.cfg.now (as_aged k)) entries) (sym (length-map entries as_aged))
    ∙ ap (λ (text : List ℕ). out ++ named (codes "history ") (length (map as_aged entries)) ++ text) (printed-kept (aged_line c.args.cfg.now) entries)
    ∙ append_assoc out (named (codes "history ") (length (map as_aged entries))) (flat_map (aged_line c.args.cfg.now) (map as_aged entries))
