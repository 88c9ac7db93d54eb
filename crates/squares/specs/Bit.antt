-- The binary digits of a number.
use Rattle.std.specs.Prelude.{ℕ, zero, suc, ◌+◌, ◌-◌, ◌*◌, ◌/◌, ◌%◌, ◌^◌, Bool, true, false, ◌==◌}

-- the last digit is 1
unfoldable pub odd : ℕ → Bool
odd n = n % 2 == 1

-- bit i of n, counted from 0, lowest first
unfoldable pub bit : ℕ → ℕ → Bool
bit i n = odd (n / 2 ^ i)

-- 1 for yes, 0 for no
unfoldable pub digit : Bool → ℕ
digit true = 1
digit false = 0

-- the number whose k bits, lowest first, are f i, f (i + 1), ..
unfoldable pub word : (ℕ → Bool) → ℕ → ℕ → ℕ
word f i zero = 0
word f i (suc k) = digit (f i) + 2 * word f (suc i) k

-- the nine bits of p, last first: what the flip does to a file's pattern
unfoldable pub reversed9 : ℕ → ℕ
reversed9 p = word (λ i. bit (8 - i) p) 0 9
