use mathlib.Core.Path.{◌∙◌}
use Rattle.squares.proofs.Laws.{number-or, limit-value}
use Rattle.position.proofs.counts.full_set.Goals as goal

pub returns : goal.returns
returns c = c.from.ensures ∙ c.unwrap_or.ensures ∙ number-or c.limit.result ∙ limit-value _ _ c.limit.ensures
