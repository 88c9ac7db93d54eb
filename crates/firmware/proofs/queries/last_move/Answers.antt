use mathlib.Core.Path.{◌∙◌}
use Rattle.firmware.proofs.Asked.{last-refused, last_done}
use Rattle.firmware.proofs.queries.last_move.Goals as goal

pub returns-then-told-eq0 : goal.returns-then-told-eq0
returns-then-told-eq0 c = last_done _ _ (c.from-told.ensures ∙ c.soundness.ensures) c.if-told-eq0.true

pub returns-else-told-eq0 : goal.returns-else-told-eq0
returns-else-told-eq0 c = last-refused _ _ (c.from-told.ensures ∙ c.soundness.ensures) _ c.none-last.ensures c.if-told-eq0.false
