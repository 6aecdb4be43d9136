-- What the crates above cite of the lemmas of this crate: they import this module alone.

pub use Rattle.msg_words.proofs.Fields.{argument-small, kind-small, kind_again}
pub use Rattle.msg_words.proofs.Contents.{width}
pub use Rattle.msg_words.proofs.Named.{few_nodes, named, names, none_has, word_above}
pub use Rattle.msg_words.proofs.Departures.{departures-le, departures-pop, departures-push}
pub use Rattle.msg_words.proofs.Departures.{departures-reply}
