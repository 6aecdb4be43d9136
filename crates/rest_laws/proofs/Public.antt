-- What the crates above cite of the lemmas of this crate: they import this module alone.

pub use Rattle.rest_laws.proofs.Totals.{total-same}
pub use Rattle.rest_laws.proofs.Sends.{sends-cons, sends-listed, sends-none, sends_weight}
pub use Rattle.rest_laws.proofs.Lighter.{Below, message-below}
pub use Rattle.rest_laws.proofs.Weights.{weight-sent, weight-taken, weight_by}
pub use Rattle.rest_laws.proofs.Falls.{falling_weight}
pub use Rattle.rest_laws.proofs.AllTakes.{falling_take}
pub use Rattle.rest_laws.proofs.FirstLane.{busy-some, clear-none, first-none, first-some}
pub use Rattle.rest_laws.proofs.Links.{entry-own, header-found}
pub use Rattle.rest_laws.proofs.Enabled.{enabled_take}
pub use Rattle.rest_laws.proofs.Quiet.{app-none, no-answer, quiet-header, quiet-want, silent}
pub use Rattle.rest_laws.proofs.Quiet.{silent-duty, some-listed}
pub use Rattle.rest_laws.proofs.AtRest.{all-clear, count-none, none-begun, resting, rests}
pub use Rattle.rest_laws.proofs.Deliver.{delivered-run, delivery-done, delivery_rests, run-on}
