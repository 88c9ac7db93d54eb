use Rattle.std.proofs.lemmas.Result.{err_from_is_err_and}
use Rattle.position.specs.Plans.{played_by}
use Rattle.position.proofs.Ladder.{told_refuses, told_passes}
use Rattle.position.proofs.position.Position.make_move.Goals as goal

pub returns-in_err-checked : goal.returns-in_err-checked
returns-in_err-checked c =
    let i = err_from_is_err_and c.from_residual.result c.from_residual.ensures.1 in
    rw (i.1, i.2) (told_refuses _ _ _ (rw c.bad_move.ensures at c.in_err-checked.ensures))

pub make_plan-requires : goal.make_plan-requires
make_plan-requires c = told_passes _ _ (rw c.bad_move.ensures at c.in_ok-checked.ensures)

pub returns-in_err-plan : goal.returns-in_err-plan
returns-in_err-plan c =
    let i = err_from_is_err_and c.from_residual-in_err-plan.result c.from_residual-in_err-plan.ensures.1 in
    rw (i.1, i.2) c.in_err-plan.ensures

pub store-requires : goal.store-requires
store-requires c = c.in_ok-plan.ensures.fits

pub returns : goal.returns
unfolding played_by
returns c = rw (c.toggle-3.ensures, c.toggle-2.ensures, c.toggle.ensures, c.store.ensures) c.in_ok-plan.ensures.does
