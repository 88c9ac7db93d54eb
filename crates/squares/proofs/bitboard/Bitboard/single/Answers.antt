use Rattle.std.proofs.Common.{arith}
use Rattle.squares.proofs.Steps.{board-low, board-high}
use Rattle.squares.proofs.Words.{single_lo, single_hi, single_bad}
use Rattle.squares.proofs.bitboard.Bitboard.single.Goals as goal

pub returns-in-1-to-63 : goal.returns-in-1-to-63
returns-in-1-to-63 c = single_lo c.args.square (omega arith) (omega arith)

pub returns-in-64-to-81 : goal.returns-in-64-to-81
returns-in-64-to-81 c = single_hi c.args.square (omega arith) (omega arith)

pub returns-in_default : goal.returns-in_default
returns-in_default c = single_bad _ (board-low 9 c.args.square (omega arith))

pub returns-in_default-2 : goal.returns-in_default-2
returns-in_default-2 c = single_bad _ (board-high 9 c.args.square (omega arith) (omega arith))
