use Rattle.std.proofs.Common.{sym, arith}
use Rattle.squares.proofs.Numbers.{piece-low, piece_gap, piece-high, piece_black, piece_white}
use Rattle.squares.proofs.piece.Piece.is_good.Goals as goal

pub returns-in-1-to-14 : goal.returns-in-1-to-14
returns-in-1-to-14 c = sym (piece_black c.args.piece (omega arith) (omega arith))

pub returns-in-1-to-14-2 : goal.returns-in-1-to-14-2
returns-in-1-to-14-2 c = sym (piece_white c.args.piece (omega arith) (omega arith))

pub returns-in_default : goal.returns-in_default
returns-in_default c = sym (piece-low c.args.piece (omega arith))

pub returns-in_default-2 : goal.returns-in_default-2
returns-in_default-2 c = sym (piece_gap c.args.piece (omega arith) (omega arith))

pub returns-in_default-3 : goal.returns-in_default-3
returns-in_default-3 c = sym (piece-high c.args.piece (omega arith))
