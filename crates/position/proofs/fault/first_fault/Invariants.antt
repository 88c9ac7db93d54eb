use mathlib.Core.Path.{◌≡◌}
use Prim.Native.Nat.{◌≤◌, ◌-◌}
use Rattle.position.specs.Sound.{faulty_at, first_fault}
use Rattle.position.proofs.Reading.{left}
use Rattle.position.proofs.fault.first_fault.Given as goal

abbrev pub invariant-loop-file : goal.invariant-loop-file
invariant-loop-file l = (1 ≤ l.rank) × (l.rank ≤ 9) × (l.found ≡ 0) × (left (faulty_at l.p) l.rank l.file ≡ first_fault l.p)

abbrev pub invariant-search : goal.invariant-search
invariant-search l = (1 ≤ l.rank) × (l.rank ≤ 10) × (l.found ≡ 0) × (left (faulty_at l.p) l.rank 9 ≡ first_fault l.p)

abbrev pub decreases-search : goal.decreases-search
decreases-search l = 10 - l.rank
