use mathlib.Core.Path.{refl, ap}
use borrow.Author.Tests.{not-false}
use Rattle.std.specs.Prelude.{None}
use Rattle.squares.proofs.Laws.{board_range}
use Rattle.position.specs.Answers.{done, told_piece_given, piece_at_answer}
use Rattle.position.proofs.Asking.{piece, passes_good, query_refused, query_done}
use Rattle.position.proofs.position.Position.piece_at.Goals as goal

pub returns-in_err-checked : goal.returns-in_err-checked
unfolding piece_at_answer
returns-in_err-checked c = query_refused told_piece_given piece None _ _ _ (λ r. refl) _ _ c.from_residual.ensures.1 (rw c.is_good.ensures at c.in_err-checked.ensures)

pub stands_on-requires : goal.stands_on-requires
stands_on-requires c =
    let r = board_range 9 _ (not-false _ (passes_good _ _ (rw c.is_good.ensures at c.in_ok-checked.ensures))) in
    record { low = r.0; high = r.1 }

pub returns : goal.returns
unfolding piece_at_answer
returns c = query_done told_piece_given piece None _ _ _ _ (rw c.is_good.ensures at c.in_ok-checked.ensures) (ap (piece done) c.stands_on.ensures)
