use Rattle.std.proofs.Common.{arith}
use Rattle.squares.proofs.Steps.{board-low, board-high}
use Rattle.squares.proofs.Words.{contains_lo, contains_hi, contains_bad}
use Rattle.squares.proofs.bitboard.Bitboard.contains.Goals as goal
use Rattle.squares.proofs.bitboard.Bitboard.contains.Goals.{then-square-lt64, else-square-lt64}

pub returns-in-1-to-81 : goal.returns-in-1-to-81
returns-in-1-to-81 c =
    elim c.if-square-lt64.branch [
      | then-square-lt64 w ↦ contains_lo _ _ (omega arith) w.if-square-lt64.true w.word-is
      | else-square-lt64 w ↦ contains_hi _ _ w.if-square-lt64.false (omega arith) w.word-is
    ]

pub returns-in_default : goal.returns-in_default
returns-in_default c = contains_bad _ _ (board-low 9 c.args.square (omega arith))

pub returns-in_default-2 : goal.returns-in_default-2
returns-in_default-2 c = contains_bad _ _ (board-high 9 c.args.square (omega arith) (omega arith))
