use Rattle.std.proofs.Common.{arith}
use Rattle.squares.specs.declared.bitboard.Direction.TheVariants.{Left}
use Rattle.squares.proofs.Shifts.{shift_bad, moved, left_near, left_beyond}
use Rattle.squares.proofs.bitboard.Bitboard.shift_left.Goals as goal

pub returns-in_err-by : goal.returns-in_err-by
returns-in_err-by c = shift_bad _ _ c.distance.ensures Left _ _ c.in_err-by.was c.from_residual.ensures.0

pub returns-then-by-le63 : goal.returns-then-by-le63
returns-then-by-le63 c = moved _ _ c.distance.ensures Left _ c.in_ok-by.was (λ n. left_near _ _ (omega arith) c.clean.ensures)

pub returns : goal.returns
returns c = moved _ _ c.distance.ensures Left _ c.in_ok-by.was (λ n. left_beyond _ _ (omega arith) n c.clean-2.ensures)
