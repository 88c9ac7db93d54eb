use Prim.Native.Nat.{◌-◌, ◌≤◌}
use mathlib.Core.Path.{◌≡◌}
use mathlib.Core.Bool.{false}
use Rattle.position.specs.Sound.{any_below}
use Rattle.position.specs.Inner.{over_by_sets}
use Rattle.position.proofs.counts.over_limit.Given as goal

abbrev pub invariant-loop-j : goal.invariant-loop-j
invariant-loop-j l = (l.j ≤ 7) × (any_below (over_by_sets l.kinds l.hands) l.j ≡ false)

abbrev pub decreases-loop-j : goal.decreases-loop-j
decreases-loop-j l = 7 - l.j
