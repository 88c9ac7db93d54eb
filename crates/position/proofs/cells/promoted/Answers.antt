use mathlib.Core.Path.{◌∙◌}
use Rattle.squares.proofs.Laws.{form-or, promoted-piece-value}
use Rattle.position.proofs.cells.promoted.Goals as goal

pub returns : goal.returns
returns c = c.unwrap_or-2.ensures ∙ rw c.unwrap_or.ensures (form-or c.promote.result) ∙ promoted-piece-value _ _ c.promote.ensures
