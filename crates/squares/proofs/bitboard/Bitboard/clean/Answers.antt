use Rattle.squares.proofs.Members.{masked}
use Rattle.squares.proofs.bitboard.Bitboard.clean.Goals as goal

pub returns : goal.returns
returns c = masked (record { lo = c.args.lo; hi = c.args.hi })
