use Rattle.std.proofs.Common.{◌≡◌, ◌-◌, ◌/◌, ◌^◌, ◌≤◌}
use Rattle.squares.proofs.Bits.{reversed_to}
use Rattle.squares.proofs.bitboard.Bitboard.reversed9.Given as goal

abbrev pub invariant-loop-i : goal.invariant-loop-i
invariant-loop-i l = (l.i ≤ 9) × (l.rest ≡ l.pattern / 2 ^ l.i) × (l.turned ≡ reversed_to l.pattern l.i)

abbrev pub decreases-loop-i : goal.decreases-loop-i
decreases-loop-i l = 9 - l.i
