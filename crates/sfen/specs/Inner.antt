-- What the inner functions promise one another. No public promise cites this file.
use Rattle.std.specs.Prelude.{ℕ, ◌+◌, ◌/◌, ◌%◌, ◌≤◌, cond, List, [], ◌∷◌, length, ltb}
use Rattle.sfen.specs.declared.line.TheConstants.{ROOM}

-- a line has room for these bytes
abbrev pub Fits : List ℕ → Type 0
Fits bs = length bs ≤ ROOM

-- the digit of n at the place of unit, none where it would be a leading zero
unfoldable pub place : ℕ → ℕ → List ℕ
place unit n = cond (ltb n unit) [] ((48 + n / unit % 10) ∷ [])
