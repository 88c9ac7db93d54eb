use mathlib.Core.Path.{◌∙◌}
use Rattle.squares.specs.Board.{file_of, rank_of}
use Rattle.position.specs.Machine.{tab, start_ranks, start_cells}
use Rattle.position.proofs.Editing.{start-good, start_made}
use Rattle.position.proofs.position.Position.startpos.Goals as goal

pub returns : goal.returns
unfolding start_cells start_ranks tab file_of rank_of
returns c = c.with_board.ensures start-good ∙ rw c.empty.ensures start_made
