use Rattle.squares.specs.declared.bitboard.Direction.TheVariants.{Down}
use Rattle.squares.proofs.Shifts.{shift_bad, moved, down-answer}
use Rattle.squares.proofs.bitboard.Bitboard.shift_down.Goals as goal

pub returns-in_err-by : goal.returns-in_err-by
returns-in_err-by c = shift_bad _ _ c.distance.ensures Down _ _ c.in_err-by.was c.from_residual.ensures.0

pub returns : goal.returns
returns c = moved _ _ c.distance.ensures Down _ c.in_ok-by.was (λ n. down-answer _ _ n c.clean.ensures)
