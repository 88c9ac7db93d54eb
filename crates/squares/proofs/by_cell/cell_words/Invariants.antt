use Rattle.std.proofs.Common.{◌≡◌, ◌^◌}
use Rattle.squares.proofs.ByCell.{words_to}
use Rattle.squares.proofs.by_cell.cell_words.Given as goal

abbrev pub invariant-loop-cell : goal.invariant-loop-cell
invariant-loop-cell l = (l.words ≡ words_to l.cells l.cell-index) × (l.bit ≡ 2 ^ l.cell-index)
