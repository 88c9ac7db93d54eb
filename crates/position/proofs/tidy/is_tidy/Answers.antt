use native.Mathlib.Omega.{arith}
use Rattle.position.proofs.Tidiness.{tidy_bad, tidy-players, tidy-kinds, players-clean, kinds-clean}
use Rattle.position.proofs.tidy.is_tidy.Goals as goal

pub same_sets-requires : goal.same_sets-requires
same_sets-requires c = (omega arith, players-clean _ _ c.in-Ok.ensures)

pub same_sets-requires-then-same_sets : goal.same_sets-requires-then-same_sets
same_sets-requires-then-same_sets c = (omega arith, kinds-clean _ _ c.in-Ok.ensures)

pub returns-then-same_sets : goal.returns-then-same_sets
returns-then-same_sets c = tidy-kinds _ _ c.in-Ok.ensures _ _ c.same_sets.ensures c.if-same_sets.true c.same_sets-then-same_sets.ensures

pub returns-else-same_sets : goal.returns-else-same_sets
returns-else-same_sets c = rw c.if-same_sets.false (tidy-players _ _ c.in-Ok.ensures _ c.same_sets.ensures c.if-same_sets.false)

pub returns-in-Err : goal.returns-in-Err
returns-in-Err c = tidy_bad _ _ c.in-Err.ensures
