use Rattle.squares.proofs.Lists.{Filled}
use Rattle.squares.proofs.ByCell.{placed}
use Rattle.squares.proofs.bitboard.Bitboard.by_cell.Given as goal

abbrev pub invariant-loop-k : goal.invariant-loop-k
invariant-loop-k l = Filled (placed l.board) 32 l.k l.set-items
