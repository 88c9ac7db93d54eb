use Rattle.std.proofs.Common.{sym, arith}
use Rattle.squares.proofs.Numbers.{kind-good, kind_low, kind_high}
use Rattle.squares.proofs.piece_kind.PieceKind.is_good.Goals as goal

pub returns-in-1-to-14 : goal.returns-in-1-to-14
returns-in-1-to-14 c = sym (kind-good c.args.kind (omega arith) (omega arith))

pub returns-in_default : goal.returns-in_default
returns-in_default c = sym (kind_low c.args.kind (omega arith))

pub returns-in_default-2 : goal.returns-in_default-2
returns-in_default-2 c = sym (kind_high c.args.kind (omega arith))
