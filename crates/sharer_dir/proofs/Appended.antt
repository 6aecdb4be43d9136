-- One link more of a chain, in the text of its links.
use Rattle.std.specs.Prelude.{◌≡◌, ℕ, ◌+◌, ◌<◌, List, [], ◌∷◌, ◌++◌, length, flat_map, slice_index}
use Rattle.std.proofs.Common.{sym, ap, ◌∙◌, take, get_or, append_assoc}
use Rattle.std.proofs.Math.ListN.{get_or-map}
use Rattle.std.proofs.lemmas.List.{take_more, append-nil}
use Rattle.std.proofs.lemmas.Grind.{flat_map-append}
use Rattle.link_store.specs.Pools.{Chain, links_of, nodes_of}
use Rattle.sharer_dir.specs.Texts.{link_text}

pub one_more : (before start after : List ℕ) (chain : Chain) (i link node : ℕ) → i < length chain → link ≡ slice_index (links_of chain) i → node ≡ slice_index (nodes_of chain) i → before ≡ start ++ flat_map link_text (take i chain) → after ≡ before ++ link_text (link, node) → after ≡ start ++ flat_map link_text (take (i + 1) chain)
one_more before start after chain i link node l link_is node_is before_is after_is =
    let e : ℕ × ℕ = get_or chain i (0, 0) in
    let pair : (link, node) ≡ e = λ j. ((link_is ∙ get_or-map (λ (e : ℕ × ℕ). e.0) chain i (0, 0)) j, (node_is ∙ get_or-map (λ (e : ℕ × ℕ). e.1) chain i (0, 0)) j) in
    let more : flat_map link_text (take (i + 1) chain) ≡ flat_map link_text (take i chain) ++ link_text e =
    ap (flat_map link_text) (take_more chain i (0, 0) l) ∙ flat_map-append link_text (take i chain) (e ∷ []) ∙ ap (λ (text : List ℕ). flat_map link_text (take i chain) ++ text) (append-nil (link_text e)) in
    after_is ∙ (λ j. before_is j ++ link_text (pair j)) ∙ append_assoc start (flat_map link_text (take i chain)) (link_text e) ∙ ap (λ (text : List ℕ). start ++ text) (sym more)
