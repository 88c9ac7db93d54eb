use mathlib.Core.Path.{ap, ◌∙◌}
use Rattle.squares.specs.Sets.{smallest}
use Rattle.position.proofs.Tidiness.{never_bad}
use Rattle.position.proofs.Editing.{made_full}
use Rattle.position.proofs.position.with_board.Goals as goal

pub returns-in_default : goal.returns-in_default
returns-in_default c = λ good. absurd (never_bad _ _ good c.in_default.ensures)

pub returns : goal.returns
returns c =
    λ good. made_full _ _ good _ c.in-Ok.ensures _ _ _ _ _ _ (c.first_square-bking.ensures ∙ ap smallest c.and.ensures)
    (c.first_square-wking.ensures ∙ ap smallest c.and-2.ensures)
