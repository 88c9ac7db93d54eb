use Rattle.std.proofs.Common.{◌≡◌, ◌-◌, ◌≤◌}
use Rattle.squares.proofs.Flips.{flipped}
use Rattle.squares.proofs.bitboard.Bitboard.flip.Given as goal

abbrev pub invariant-loop-file : goal.invariant-loop-file
invariant-loop-file l = (1 ≤ l.file) × (l.file ≤ 10) × (l.turned ≡ flipped l.self l.file)

abbrev pub decreases-loop-file : goal.decreases-loop-file
decreases-loop-file l = 10 - l.file
