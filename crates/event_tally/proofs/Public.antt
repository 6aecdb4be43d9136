-- What the crates above cite of the lemmas of this crate: they import this module alone.

pub use Rattle.event_tally.proofs.Tallies.{tally_of-at, tally_of-few, tally_of-nil, tally_of-push}
