-- Sets of squares in two words, and what each operation means on them.
use Rattle.std.specs.Prelude.{ℕ, zero, suc, ◌+◌, ◌-◌, ◌*◌, ◌^◌, Bool, false, cond, not, ◌&&◌, ◌||◌, List, [], ◌∷◌, ◌==◌, nat_eq, nat_le, nat_lt, slice_index}
use Rattle.std.specs.Bool.{beq}
use Rattle.squares.specs.Bit.{bit, digit, word}
use Rattle.squares.specs.Board.{on_board, file_of, rank_of, flip_to, opposite, step}
use Rattle.squares.specs.Kinds.{good_cell}
use Rattle.squares.specs.declared.bitboard.Bitboard.{Bitboard}
use Rattle.squares.specs.declared.bitboard.Direction.{Direction}

-- "square n is bit n - 1 of the first for n up to 63, else bit n - 64 of the second"; all other bits are stray, and no
-- square's
unfoldable pub has : Bitboard → ℕ → Bool
has s n = on_board 9 n && cond (nat_le n 63) (bit (n - 1) s.lo) (bit (n - 64) s.hi)

-- the set of the squares that pass a test, with every stray bit zero
unfoldable pub set_of : (ℕ → Bool) → Bitboard
set_of f = record { lo = word f 1 63; hi = word f 64 18 }

-- "Bit 63 of the first and bits 18 and up of the second are stray": none of them is set
unfoldable pub clean : Bitboard → Bool
clean s = nat_lt s.lo (2 ^ 63) && nat_lt s.hi (2 ^ 18)

-- "Empty": no square
unfoldable pub empty_s : Bitboard
empty_s = set_of (λ n. false)

-- "single": one square
unfoldable pub single_s : ℕ → Bitboard
single_s n = set_of (nat_eq n)

-- "or": in one of the two
unfoldable pub or_s : Bitboard → Bitboard → Bitboard
or_s a b = set_of (λ n. has a n || has b n)

-- "and": in both
unfoldable pub and_s : Bitboard → Bitboard → Bitboard
and_s a b = set_of (λ n. has a n && has b n)

-- "xor": in just one
unfoldable pub xor_s : Bitboard → Bitboard → Bitboard
xor_s a b = set_of (λ n. not (beq (has a n) (has b n)))

-- "andnot (in the second, not in the first)"
unfoldable pub andnot_s : Bitboard → Bitboard → Bitboard
andnot_s a b = set_of (λ n. not (has a n) && has b n)

-- "not (within the 81)"
unfoldable pub not_s : Bitboard → Bitboard
not_s a = set_of (λ n. not (has a n))

-- how many of the k numbers from i on pass the test f
unfoldable pub count_of : (ℕ → Bool) → ℕ → ℕ → ℕ
count_of f i zero = 0
count_of f i (suc k) = digit (f i) + count_of f (suc i) k

-- "count": how many squares a set has
unfoldable pub size : Bitboard → ℕ
size s = count_of (has s) 1 81

-- whether it has none
unfoldable pub is_empty : Bitboard → Bool
is_empty s = size s == 0

-- "match the cells exactly, with no stray bits": the first has no stray bit, and just the squares of the second
unfoldable pub exactly : Bitboard → Bitboard → Bool
exactly s t = clean s && is_empty (xor_s s t)

-- "One file from a 9-bit pattern (bit 0 is rank A)"
unfoldable pub file_s : ℕ → ℕ → Bitboard
file_s f p = set_of (λ n. (file_of 9 n == f) && bit (rank_of 9 n - 1) p)

-- "and back": the nine bits of file f
unfoldable pub pattern_of : Bitboard → ℕ → ℕ
pattern_of s f = word (has s) (9 * f - 8) 9

-- "Flip: n goes to 82 - n"
unfoldable pub flip_s : Bitboard → Bitboard
flip_s s = set_of (λ n. has s (flip_to 9 n))

-- the first of the k numbers from i on that passes the test f, or 0
unfoldable pub first_of : (ℕ → Bool) → ℕ → ℕ → ℕ
first_of f i zero = 0
first_of f i (suc k) = let rest = first_of f (suc i) k in cond (f i) i rest

-- "Pop: the smallest square", 0 where there is none
unfoldable pub smallest : Bitboard → ℕ
smallest s = first_of (has s) 1 81

-- "and the set without it"
unfoldable pub without_s : ℕ → Bitboard → Bitboard
without_s n s = set_of (λ m. has s m && not (m == n))

-- "Shifts": a square is in the shifted set if the square d steps back was in the set
unfoldable pub shift_s : Direction → ℕ → Bitboard → Bitboard
shift_s dir d s = set_of (λ n. has s (step 9 (opposite dir) d n))

-- the list f i, f (i + 1), .., of k
unfoldable pub tab : {A : Type 0} → (ℕ → A) → ℕ → ℕ → List A
tab f i zero = []
tab f i (suc k) = f i ∷ tab f (suc i) k

-- the cell of square n
abbrev pub cell_at : List ℕ → ℕ → ℕ
cell_at cells n = slice_index cells (n - 1)

-- "Two colour sets and fourteen kind sets of squares match the cells exactly, with no stray bits": for each mark from 1 to
-- count the set of the squares whose cell has that mark, its colour or its kind
unfoldable pub family : (ℕ → ℕ) → ℕ → List ℕ → List Bitboard
family mark count cells = tab (λ k. set_of (λ n. nat_eq (mark (cell_at cells n)) k)) 1 count

-- "Every cell value is good": of the 81 none is bad
unfoldable pub all_good : List ℕ → Bool
all_good cells = count_of (λ n. not (good_cell (cell_at cells n))) 1 81 == 0
