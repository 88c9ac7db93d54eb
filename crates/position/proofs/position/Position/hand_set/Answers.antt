use mathlib.Core.Path.{ap, ◌∙◌}
use borrow.Author.Tests.{not-false}
use Rattle.std.proofs.lemmas.Result.{err_from_is_err_and}
use Rattle.position.specs.Machine.{machine}
use Rattle.position.specs.Answers.{answer_given}
use Rattle.position.specs.Edits.{hand_edited, with_hands}
use Rattle.position.proofs.Sizes.{sized}
use Rattle.position.proofs.Asking.{hand_range, passes_good, passes_sound}
use Rattle.position.proofs.Editing.{edit_refused, edit_asked, same-cells}
use Rattle.position.proofs.position.Position.hand_set.Goals as goal

pub returns-in_err-checked : goal.returns-in_err-checked
unfolding hand_edited
returns-in_err-checked c =
    let i = err_from_is_err_and c.from_residual.result c.from_residual.ensures.1 in
    rw (i.1, i.2) (edit_refused _ _ _ _ (rw c.is_hand.ensures at c.in_err-checked.ensures))

pub index-requires : goal.index-requires
index-requires c = hand_range _ _ (not-false _ (passes_good _ _ (rw c.is_hand.ensures at c.in_ok-checked.ensures)))

pub returns : goal.returns
unfolding hand_edited with_hands machine
returns c =
    let e = rw c.is_hand.ensures at c.in_ok-checked.ensures in
    ap (answer_given c.args.self) c.if_sound.ensures
    ∙ edit_asked _ _ _ e _ (rw c.index.ensures.0 (same-cells _ (sized _ _ c.well_formed.0) (passes_sound _ _ e) _ _ _ _))
