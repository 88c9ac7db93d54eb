use mathlib.Core.Path.{◌≡◌}
use Prim.Native.Nat.{ℕ, ◌<◌}
use lib.ListN.{length, get_or}
use Rattle.squares.specs.Sets.{empty_s}
use Rattle.position.proofs.tidy.same_sets.Given as goal

abbrev pub invariant-loop-set : goal.invariant-loop-set
invariant-loop-set l = (k : ℕ) → k < length l.yielded → get_or l.stored k empty_s ≡ get_or l.made k empty_s
