use mathlib.Core.Path.{◌∙◌}
use Rattle.squares.proofs.Laws.{set-or, single-value}
use Rattle.position.proofs.cells.single.Goals as goal

pub returns : goal.returns
returns c = c.unwrap_or.ensures ∙ rw c.empty.ensures (set-or c.single.result) ∙ single-value _ _ c.single.ensures
