use Rattle.squares.specs.declared.bitboard.Direction.TheVariants.{Up}
use Rattle.squares.proofs.Shifts.{shift_bad, near, moved, up_answer, up_mask_fits}
use Rattle.squares.proofs.bitboard.Bitboard.shift_up.Goals as goal

pub returns-in_err-by : goal.returns-in_err-by
returns-in_err-by c = shift_bad _ _ c.distance.ensures Up _ _ c.in_err-by.was c.from_residual.ensures.0

pub overflow_sub-mask-2 : goal.overflow_sub-mask-2
overflow_sub-mask-2 c = up_mask_fits _ (near _ _ c.distance.ensures c.in_ok-by.was).0

pub returns : goal.returns
returns c = moved _ _ c.distance.ensures Up _ c.in_ok-by.was (λ n. up_answer _ _ n c.clean.ensures)
