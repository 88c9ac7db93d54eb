-- What a crate above may cite: the writer's numbers, the bound of a text, unique reading over any game, and demand 3.
pub use Rattle.sfen.proofs.Cut.{Over, over_append, over_less, cut}
pub use Rattle.sfen.proofs.Boards.{GoodCells, board_over, board-same}
pub use Rattle.sfen.proofs.Counts.{Distinct, letters, counts, number_same, number_over, hands_over, hands-same}
pub use Rattle.sfen.proofs.Unique.{Readable, Same, text_over, text_same}
pub use Rattle.sfen.proofs.Bound.{text_bound}
pub use Rattle.sfen.proofs.Writing.{short_refused, fitting_written}
pub use Rattle.sfen.proofs.Theorems.{write-given, given-write, none-write, write-none, write_keeps, always_fits}
pub use Rattle.sfen.proofs.Demand3.{shogi_readable, position_over, one_text, demand3}
