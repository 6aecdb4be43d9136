-- What the crates above cite of the lemmas of this crate: they import this module alone.

pub use Rattle.text_lines.proofs.Cutting.{cut_nowhere, line_none, unmatched}
pub use Rattle.text_lines.proofs.Places.{Has, has_behind, has_first, has_later, line_named}
pub use Rattle.text_lines.proofs.Inversion.{bind_ok, both_ok, guard_ok, same_value, unless_ok}
pub use Rattle.text_lines.proofs.Small.{numeral_small}
pub use Rattle.text_lines.proofs.Plain.{ArePlain, IsWord, spaced, words_again}
pub use Rattle.text_lines.proofs.Again.{AreLines, IsPlainLine, decimal_again, decimal_word_is}
pub use Rattle.text_lines.proofs.Again.{digits_plain, flat_map-map, is_word, left_again, line_words}
pub use Rattle.text_lines.proofs.Again.{lines_append, numbered, numeral_again, optional_again}
pub use Rattle.text_lines.proofs.Again.{word_by}
