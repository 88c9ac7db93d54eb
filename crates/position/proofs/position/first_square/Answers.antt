use Rattle.position.proofs.Editing.{popped_first, popped_none}
use Rattle.position.proofs.position.first_square.Goals as goal

pub returns-in-Some : goal.returns-in-Some
returns-in-Some c = popped_first _ _ _ c.in-Some.ensures

pub returns-in-None : goal.returns-in-None
returns-in-None c = popped_none _ _ c.in-None.ensures
