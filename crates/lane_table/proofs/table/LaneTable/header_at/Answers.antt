-- The place is in the table by the number of its lane.
use Rattle.std.proofs.Common.{◌≡◌, ℕ, ◌+◌, ◌*◌, ◌<◌, sym, ap, ◌∙◌, subst, arith}
use Rattle.line_map.specs.Sizes.{Sizes}
use Rattle.lane_queues.specs.Queues.{class_number}
use Rattle.lane_table.specs.Layout.{cell_word, word_count}
use Rattle.lane_table.specs.Views.{TableView}
use Rattle.lane_table.proofs.Places.{in_table}
use Rattle.lane_table.proofs.table.LaneTable.header_at.Goals as goal
use Rattle.lane_table.proofs.table.LaneTable.header_at.Goals.{in-Request, in-Reply}

pub returns : goal.returns
returns c =
    let z : Sizes = c.args.self.now.setup.sizes in
    let cfg : c.self.inside.cfg ≡ z = c.self.invariant.0 ∙ ap (λ (t : TableView). t.setup.sizes) c.self.view_is in
    let nodes : c.nodes-nodes.result ≡ z.nodes = c.nodes-nodes.ensures.value ∙ ap (λ (s : Sizes). s.nodes) cfg in
    let words : c.words-words.result ≡ z.words = c.words-words.ensures.value ∙ ap (λ (s : Sizes). s.words) cfg in
    let number : c.match-class.class_number ≡ class_number c.args.class = elim c.match-class.branch [ in-Request w ↦ w.class_number-is ∙ ap class_number (sym w.in-Request.is) | in-Reply w ↦ w.class_number-is ∙ ap class_number (sym w.in-Reply.is) ] in
    let count : c.args.self.now.id.words ≡ word_count z = sym (ap (λ (t : TableView). t.id.words) c.self.view_is) ∙ (c.self.invariant.1 ∙ ap word_count cfg) in
    let is : 1 + ((c.args.src * c.nodes-nodes.result + c.args.dst) * 2 + c.match-class.class_number) * (1 + c.words-words.result) ≡ cell_word z c.args.src c.args.dst c.args.class 0 =
    (λ k. 1 + ((c.args.src * nodes k + c.args.dst) * 2 + number k) * (1 + words k)) ∙ omega arith in
    let P : ℕ → Type 0 = λ k. k < word_count z in
    let Q : ℕ → Type 0 = λ k. 1 + ((c.args.src * c.nodes-nodes.result + c.args.dst) * 2 + c.match-class.class_number) * (1 + c.words-words.result) < k in
    record { place = is; inside = subst Q (sym count) (subst P (sym is) (in_table z c.args.src c.args.dst c.args.class 0 c.requires.src c.requires.dst (omega arith))) }
