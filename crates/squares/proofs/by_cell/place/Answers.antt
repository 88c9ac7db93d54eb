-- The place is the lesser of the cell and the last.
use Rattle.std.proofs.Common.{◌∙◌}
use Rattle.squares.proofs.ByCell.{mark_of}
use Rattle.squares.proofs.by_cell.place.Goals as goal

pub returns : goal.returns
returns c = mark_of c.args.cell (c.from.ensures ∙ c.min.ensures)
