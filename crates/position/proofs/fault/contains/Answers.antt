use mathlib.Core.Path.{◌∙◌}
use Rattle.squares.proofs.Laws.{truth-or, contains-value}
use Rattle.position.proofs.fault.contains.Goals as goal

pub returns : goal.returns
returns c = c.unwrap_or.ensures ∙ truth-or c.contains.result ∙ contains-value _ _ _ c.contains.ensures
