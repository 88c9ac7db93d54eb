-- What the inner functions promise one another. No public promise cites this file.
use Rattle.std.specs.Prelude.{ℕ, ◌+◌, cond, nat_lt}

-- a mark for each cell number: one more than it, and the same for all from 31 on
unfoldable pub cell_mark : ℕ → ℕ
cell_mark c = cond (nat_lt c 31) (c + 1) 32
