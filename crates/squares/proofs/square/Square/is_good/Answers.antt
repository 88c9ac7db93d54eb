use Rattle.std.proofs.Common.{sym, arith}
use Rattle.squares.proofs.Steps.{board_on, board-low, board-high}
use Rattle.squares.proofs.square.Square.is_good.Goals as goal

pub returns-in-1-to-81 : goal.returns-in-1-to-81
returns-in-1-to-81 c = sym (board_on 9 c.args.square (omega arith) (omega arith))

pub returns-in_default : goal.returns-in_default
returns-in_default c = sym (board-low 9 c.args.square (omega arith))

pub returns-in_default-2 : goal.returns-in_default-2
returns-in_default-2 c = sym (board-high 9 c.args.square (omega arith) (omega arith))
