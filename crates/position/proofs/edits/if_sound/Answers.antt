use mathlib.Core.Path.{sym, ap, ◌∙◌}
use Rattle.position.specs.Answers.{told_given}
use Rattle.position.proofs.Editing.{asked_sound, asked_unsound}
use Rattle.position.proofs.edits.if_sound.Goals as goal

pub returns-in-Ok : goal.returns-in-Ok
returns-in-Ok c = asked_sound _ (ap told_given (sym c.in-Ok.is) ∙ c.soundness.ensures)

pub returns-in-Err : goal.returns-in-Err
returns-in-Err c = asked_unsound _ _ (ap told_given (sym c.in-Err.is) ∙ c.soundness.ensures)
