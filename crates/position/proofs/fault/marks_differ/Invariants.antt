use mathlib.Core.Path.{◌≡◌}
use mathlib.Core.Bool.{false}
use Rattle.position.specs.Sound.{any_below, disagrees}
use Rattle.position.proofs.fault.marks_differ.Given as goal

abbrev pub invariant-loop-j : goal.invariant-loop-j
invariant-loop-j l = any_below (disagrees l.sets l.mark l.n) l.j ≡ false
