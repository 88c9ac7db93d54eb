use borrow.Author.Tests.{not-false}
use Rattle.std.proofs.lemmas.Result.{err_from_is_err_and}
use Rattle.position.specs.Machine.{machine}
use Rattle.position.specs.Edits.{side_edited, with_side}
use Rattle.position.proofs.Sizes.{sized}
use Rattle.position.proofs.Asking.{passes_good, passes_sound}
use Rattle.position.proofs.Editing.{edit_refused, edit_sure, same-cells, side-sound}
use Rattle.position.proofs.position.Position.side_to_move_set.Goals as goal

pub returns-in_err-checked : goal.returns-in_err-checked
unfolding side_edited
returns-in_err-checked c =
    let i = err_from_is_err_and c.from_residual.result c.from_residual.ensures.1 in
    rw (i.1, i.2) (edit_refused _ _ _ _ (rw c.is_good.ensures at c.in_err-checked.ensures))

pub returns : goal.returns
unfolding side_edited with_side machine
returns c =
    let e = rw c.is_good.ensures at c.in_ok-checked.ensures in
    let size = sized _ _ c.well_formed.0 in
    edit_sure _ _ _ e _ (same-cells _ size (passes_sound _ _ e) _ _ _ _) (side-sound _ size (passes_sound _ _ e) _ (not-false _ (passes_good _ _ e)))
