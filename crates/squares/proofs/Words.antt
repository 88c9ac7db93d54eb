-- The words of the operations that go bit by bit, and of one square alone.
use Rattle.std.proofs.Common.{◌≡◌, ℕ, ◌+◌, ◌-◌, ◌*◌, ◌/◌, ◌%◌, ◌^◌, ◌<◌, ◌≤◌, Bool, false, not, ◌&&◌, ◌||◌, eqb, sym, ap, ◌∙◌, subst, ap₂, mod-eq_of_lt, one-mul, arith, lt-ltb, ne_eqb, le-leb}
use mathlib.Core.Bool.{beq}
use lib.Bits.{bit_and, bit_or, bit_xor}
use lib.Pow.{pow-lt}
use borrow.Author.Tests.{lt-leb}
use Rattle.squares.specs.Bit.{odd, bit}
use Rattle.squares.specs.Board.{on_board}
use Rattle.squares.specs.Sets.{has, set_of, and_s, or_s, xor_s, andnot_s, not_s, empty_s, single_s}
use Rattle.squares.specs.Answers.{single_answer, contains_answer}
use Rattle.squares.specs.declared.bitboard.Bitboard.{Bitboard}
use Rattle.squares.proofs.Bits.{bit-of-zero, bit-and, bit-or, bit-xor, bit_not, bit_pow, bit_shl64}
use Rattle.squares.proofs.Steps.{board_on, eqb_same}
use Rattle.squares.proofs.Members.{has_lo, has_hi, is_set, by_words}

has_pair : (g : Bool → Bool → Bool) (a b r : Bitboard)
    → ((i : ℕ) → i < 63 → bit i r.lo ≡ g (bit i a.lo) (bit i b.lo)) → ((i : ℕ) → i < 18 → bit i r.hi ≡ g (bit i a.hi) (bit i b.hi))
    → set_of (has r) ≡ set_of (λ n. g (has a n) (has b n))
has_pair g a b r el eh =
    by_words r (λ n. g (has a n) (has b n)) (λ i h. el i h ∙ sym (ap₂ g (has_lo a i h) (has_lo b i h))) (λ i h. eh i h ∙ sym (ap₂ g (has_hi a i h) (has_hi b i h)))

pub and_words : (a b : Bitboard) → set_of (has (record { lo = bit_and a.lo b.lo; hi = bit_and a.hi b.hi })) ≡ and_s a b
unfolding and_s
and_words a b = has_pair (λ p q. p && q) a b _ (λ i h. bit-and i a.lo b.lo) (λ i h. bit-and i a.hi b.hi)

pub or_words : (a b : Bitboard) → set_of (has (record { lo = bit_or a.lo b.lo; hi = bit_or a.hi b.hi })) ≡ or_s a b
unfolding or_s
or_words a b = has_pair (λ p q. p || q) a b _ (λ i h. bit-or i a.lo b.lo) (λ i h. bit-or i a.hi b.hi)

pub xor_words : (a b : Bitboard) → set_of (has (record { lo = bit_xor a.lo b.lo; hi = bit_xor a.hi b.hi })) ≡ xor_s a b
unfolding xor_s
xor_words a b = has_pair (λ p q. not (beq p q)) a b _ (λ i h. bit-xor i a.lo b.lo) (λ i h. bit-xor i a.hi b.hi)

-- a bit of `!x`, at 64 bits
bit_not64 : (i a : ℕ) → a < 2 ^ 64 → i < 64 → bit i (2 ^ 64 - 1 - a) ≡ not (bit i a)
bit_not64 i a h l = bit_not i 64 a h ∙ ap (λ (t : Bool). t && not (bit i a)) (lt-ltb i 64 l)

module _ (a : Bitboard) (hl : a.lo < 2 ^ 64) (hh : a.hi < 2 ^ 64) where
  pub not_words : set_of (has (record { lo = 2 ^ 64 - 1 - a.lo; hi = 2 ^ 64 - 1 - a.hi })) ≡ not_s a
  unfolding not_s
  not_words = has_pair (λ p q. not p) a a _ (λ i h. bit_not64 i a.lo hl (omega arith)) (λ i h. bit_not64 i a.hi hh (omega arith))

  pub andnot_words : (b : Bitboard) → set_of (has (record { lo = bit_and (2 ^ 64 - 1 - a.lo) b.lo; hi = bit_and (2 ^ 64 - 1 - a.hi) b.hi })) ≡ andnot_s a b
  unfolding andnot_s
  andnot_words b =
      has_pair (λ p q. not p && q) a b _
      (λ i h. bit-and i (2 ^ 64 - 1 - a.lo) b.lo ∙ ap (λ (t : Bool). t && bit i b.lo) (bit_not64 i a.lo hl (omega arith)))
      (λ i h. bit-and i (2 ^ 64 - 1 - a.hi) b.hi ∙ ap (λ (t : Bool). t && bit i b.hi) (bit_not64 i a.hi hh (omega arith)))

-- ---- one square alone: `1 << k`, at 64 bits
pub one_shl : (k : ℕ) → k < 64 → (1 * 2 ^ k) % 2 ^ 64 ≡ 2 ^ k
one_shl k h = ap (λ (x : ℕ). x % 2 ^ 64) (one-mul (2 ^ k)) ∙ mod-eq_of_lt (pow-lt h)

single-good : (n : ℕ) {r : Bitboard} → 1 ≤ n → n < 82 → r ≡ single_s n → record { number = 0; set = r } ≡ single_answer n
unfolding single_answer
single-good n l h e = rw (e, board_on 9 n l (omega arith))

pub single_lo : (n : ℕ) → 1 ≤ n → n < 64 → record { number = 0; set = record { lo = (1 * 2 ^ (n - 1)) % 2 ^ 64; hi = 0 } } ≡ single_answer n
unfolding single_s
single_lo n l h =
    let e : (1 * 2 ^ (n - 1)) % 2 ^ 64 ≡ 2 ^ (n - 1) = one_shl (n - 1) (omega arith) in
    single-good n l (omega arith)
    (is_set (record { lo = (1 * 2 ^ (n - 1)) % 2 ^ 64; hi = 0 }) (eqb n) (subst (λ (x : ℕ). x < 2 ^ 63) (sym e) (pow-lt {j = 63} (omega arith))) (omega arith)
    (λ i k. ap (bit i) e ∙ bit_pow i (n - 1) ∙ eqb_same i (n - 1) n (1 + i) (λ q. omega arith) (λ q. omega arith))
    (λ i k. bit-of-zero i ∙ sym (ne_eqb n (64 + i) (λ q. omega arith))))

pub single_hi : (n : ℕ) → 64 ≤ n → n < 82 → record { number = 0; set = record { lo = 0; hi = (1 * 2 ^ (n - 64)) % 2 ^ 64 } } ≡ single_answer n
unfolding single_s
single_hi n l h =
    let e : (1 * 2 ^ (n - 64)) % 2 ^ 64 ≡ 2 ^ (n - 64) = one_shl (n - 64) (omega arith) in
    single-good n (omega arith) h
    (is_set (record { lo = 0; hi = (1 * 2 ^ (n - 64)) % 2 ^ 64 }) (eqb n) (omega arith) (subst (λ (x : ℕ). x < 2 ^ 18) (sym e) (pow-lt {j = 18} (omega arith)))
    (λ i k. bit-of-zero i ∙ sym (ne_eqb n (1 + i) (λ q. omega arith)))
    (λ i k. ap (bit i) e ∙ bit_pow i (n - 64) ∙ eqb_same i (n - 64) n (64 + i) (λ q. omega arith) (λ q. omega arith)))

pub single_bad : (n : ℕ) → on_board 9 n ≡ false → record { number = 2; set = empty_s } ≡ single_answer n
unfolding single_answer
single_bad n e = rw e

-- ---- contains: the first word is doubled, so a square's bit is its number modulo 64 in either word
module _ (s : Bitboard) (n : ℕ) {w : ℕ} where
  pub contains_lo : 1 ≤ n → n < 64 → w ≡ (s.lo * 2 ^ 1) % 2 ^ 64 → record { number = 0; truth = eqb (w / 2 ^ (n % 64) % 2) 1 } ≡ contains_answer s n
  unfolding contains_answer has bit odd
  contains_lo l h e =
      rw (board_on 9 n l (omega arith), le-leb n 63 (omega arith))
      (ap (λ (t : Bool). record { number = 0; truth = t }) (ap₂ bit (mod-eq_of_lt h) e ∙ bit_shl64 n 1 s.lo h ∙ ap (λ (t : Bool). t && bit (n - 1) s.lo) (le-leb 1 n l)))

  pub contains_hi : 64 ≤ n → n < 82 → w ≡ s.hi → record { number = 0; truth = eqb (w / 2 ^ (n % 64) % 2) 1 } ≡ contains_answer s n
  unfolding contains_answer has bit odd
  contains_hi l h e =
      let m : n % 64 ≡ n - 64 = omega arith in
      rw (board_on 9 n (omega arith) (omega arith), lt-leb n 63 l) (ap (λ (t : Bool). record { number = 0; truth = t }) (ap₂ bit m e))

pub contains_bad : (s : Bitboard) (n : ℕ) → on_board 9 n ≡ false → record { number = 2; truth = false } ≡ contains_answer s n
unfolding contains_answer
contains_bad s n e = rw e
