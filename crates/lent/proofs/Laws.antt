-- What a crate above may cite: what a change of a lent position ensures.
pub use Rattle.lent.proofs.Ends.{leaves, leaves_done, leaves_refused, leaves_once}
