-- The members of a set: of a set given by a rule, of two words, of words with stray bits; and a Bitboard by its members.
use Rattle.std.proofs.Common.{◌≡◌, ℕ, zero, suc, ◌+◌, ◌-◌, ◌^◌, ◌<◌, ◌≤◌, Bool, true, false, cond, ◌&&◌, ltb, leb, ◌⊎◌, sym, refl, ap, ◌∙◌, subst, ap₂, inl, inr, ⊎_elim, lt_of_not-le, one-add, arith, ltb-true, lt-ltb, le-leb}
use mathlib.Core.Bool.{and-false, false≢true}
use native.Mathlib.Decide.{dec_le}
use lib.Bits.{bit_and, and_mask, mask_lt}
use borrow.Author.Tests.{lt-leb}
use Rattle.squares.specs.Bit.{bit, word}
use Rattle.squares.specs.Board.{on_board}
use Rattle.squares.specs.Sets.{has, set_of, clean, empty_s}
use Rattle.squares.specs.declared.bitboard.Bitboard.{Bitboard}
use Rattle.squares.proofs.Bits.{bit-of-zero, bit_ext, bit_mod, word_lt, bit_word}
use Rattle.squares.proofs.Steps.{board_on, board-zero, board-high, both}

-- ---- a Bitboard's members, by word
pub has_lo : (s : Bitboard) (i : ℕ) → i < 63 → has s (1 + i) ≡ bit i s.lo
unfolding has
has_lo s i h =
    let e : 1 + i - 1 ≡ i = omega arith in
    rw (board_on 9 (1 + i) (omega arith) (omega arith), le-leb (1 + i) 63 (omega arith), e)

pub has_hi : (s : Bitboard) (i : ℕ) → i < 18 → has s (64 + i) ≡ bit i s.hi
unfolding has
has_hi s i h =
    let e : 64 + i - 64 ≡ i = omega arith in
    rw (board_on 9 (64 + i) (omega arith) (omega arith), lt-leb (64 + i) 63 (omega arith), e)

-- a Bitboard with no stray bit is the set of a rule where its digits follow the rule
pub is_set : (r : Bitboard) (f : ℕ → Bool) → r.lo < 2 ^ 63 → r.hi < 2 ^ 18
    → ((i : ℕ) → i < 63 → bit i r.lo ≡ f (1 + i)) → ((i : ℕ) → i < 18 → bit i r.hi ≡ f (64 + i)) → r ≡ set_of f
unfolding set_of
is_set r f hl hh el eh =
    let l : r.lo ≡ word f 1 63 = bit_ext 63 r.lo (word f 1 63) hl (word_lt f 1 63) (λ i h. el i h ∙ sym (bit_word f i 1 63 h)) in
    let u : r.hi ≡ word f 64 18 = bit_ext 18 r.hi (word f 64 18) hh (word_lt f 64 18) (λ i h. eh i h ∙ sym (bit_word f i 64 18 h)) in
    ap₂ (λ (x y : ℕ). record { lo = x; hi = y }) l u

-- ---- a square is one of the first word's 63, or one of the second's 18, or off the board
data Where : ℕ → Type 0 where
  low : {i : ℕ} → i < 63 → Where (1 + i)
  high : {i : ℕ} → i < 18 → Where (64 + i)
  off : {n : ℕ} → on_board 9 n ≡ false → Where n

pub le-or-lt : (a b : ℕ) → (a ≤ b) ⊎ (b < a)
le-or-lt a b = dec (dec_le a b)
  where
    dec : Dec (a ≤ b) → (a ≤ b) ⊎ (b < a)
    dec (yes p) = inl p
    dec (no f) = inr (lt_of_not-le f)

where_is : (n : ℕ) → Where n
where_is zero = off (board-zero 9)
where_is (suc i) =
    ⊎_elim
    (λ (h : suc i ≤ 63). subst Where (one-add i) (low h))
    (λ (h : 63 < suc i).
    ⊎_elim
    (λ (l : suc i ≤ 81). let e : 64 + (i - 63) ≡ suc i = omega arith in subst Where e (high {i = i - 63} (omega arith)))
    (λ (l : 81 < suc i). off (board-high 9 (suc i) (omega arith) l))
    (le-or-lt (suc i) 81))
    (le-or-lt (suc i) 63)

on_lo : (i : ℕ) → i < 63 → on_board 9 (1 + i) ≡ true
on_lo i h = board_on 9 (1 + i) (omega arith) (omega arith)

on_hi : (i : ℕ) → i < 18 → on_board 9 (64 + i) ≡ true
on_hi i h = board_on 9 (64 + i) (omega arith) (omega arith)

pub has_off : (s : Bitboard) (n : ℕ) → on_board 9 n ≡ false → has s n ≡ false
unfolding has
has_off s n e = rw e

-- THE law: the members of the set of a rule
pub has-set_of : (f : ℕ → Bool) (n : ℕ) → has (set_of f) n ≡ on_board 9 n && f n
unfolding set_of
has-set_of f n = go (where_is n)
  where
    go : {m : ℕ} → Where m → has (set_of f) m ≡ on_board 9 m && f m
    go (low {i} h) = has_lo (set_of f) i h ∙ bit_word f i 1 63 h ∙ sym (ap (λ (t : Bool). t && f (1 + i)) (on_lo i h))
    go (high {i} h) = has_hi (set_of f) i h ∙ bit_word f i 64 18 h ∙ sym (ap (λ (t : Bool). t && f (64 + i)) (on_hi i h))
    go (off {n = m} e) = has_off (set_of f) m e ∙ sym (ap (λ (t : Bool). t && f m) e)

-- two rules that agree on the board give one set
pub set_of_cong : (f g : ℕ → Bool) → ((n : ℕ) → on_board 9 n ≡ true → f n ≡ g n) → set_of f ≡ set_of g
unfolding set_of
set_of_cong f g e =
    is_set (set_of f) g (word_lt f 1 63) (word_lt f 64 18)
    (λ i h. bit_word f i 1 63 h ∙ e (1 + i) (on_lo i h)) (λ i h. bit_word f i 64 18 h ∙ e (64 + i) (on_hi i h))

-- a Bitboard with no stray bit is the set of its members; so two such with the same members are equal
pub set_of-has : (s : Bitboard) → s.lo < 2 ^ 63 → s.hi < 2 ^ 18 → set_of (has s) ≡ s
set_of-has s hl hh = sym (is_set s (has s) hl hh (λ i h. sym (has_lo s i h)) (λ i h. sym (has_hi s i h)))

-- the set of two words follows a rule where their digits do
pub by_words : (r : Bitboard) (f : ℕ → Bool) → ((i : ℕ) → i < 63 → bit i r.lo ≡ f (1 + i)) → ((i : ℕ) → i < 18 → bit i r.hi ≡ f (64 + i))
    → set_of (has r) ≡ set_of f
by_words r f el eh = set_of_cong (has r) f (λ n t. go (where_is n) t)
  where
    go : {m : ℕ} → Where m → on_board 9 m ≡ true → has r m ≡ f m
    go (low {i} h) t = has_lo r i h ∙ el i h
    go (high {i} h) t = has_hi r i h ∙ eh i h
    go (off {n = m} e) t = absurd (false≢true (sym e ∙ t))

-- ---- stray bits: every operation is a function of `has`, so words with the same members are the same to it
abbrev pub cleaned : Bitboard → Bitboard
cleaned s = record { lo = bit_and s.lo 0x7fff_ffff_ffff_ffff; hi = bit_and s.hi 0x3_ffff }

-- the masks take the stray bits off
pub masked : (s : Bitboard) → cleaned s ≡ set_of (has s)
masked s =
    is_set (cleaned s) (has s) (mask_lt s.lo 63) (mask_lt s.hi 18)
    (λ i h. low_bit s.lo 63 i h ∙ sym (has_lo s i h)) (λ i h. low_bit s.hi 18 i h ∙ sym (has_hi s i h))
  where
    low_bit : (x w i : ℕ) → i < w → bit i (bit_and x (2 ^ w - 1)) ≡ bit i x
    low_bit x w i h = ap (bit i) (and_mask x w) ∙ bit_mod i w x ∙ ap (λ (t : Bool). t && bit i x) (lt-ltb i w h)

pub has_on : (s : Bitboard) (n : ℕ) → on_board 9 n && has s n ≡ has s n
unfolding has
has_on s n = twice (on_board 9 n) (cond (leb n 63) (bit (n - 1) s.lo) (bit (n - 64) s.hi))
  where
    twice : (p q : Bool) → p && (p && q) ≡ p && q
    twice true q = refl
    twice false q = refl

pub has_masked : (s : Bitboard) → has (cleaned s) ≡ has s
has_masked s = λ i n. (ap (λ (r : Bitboard). has r n) (masked s) ∙ has-set_of (has s) n ∙ has_on s n) i

pub empty_words : record { lo = 0; hi = 0 } ≡ empty_s
unfolding empty_s
empty_words = is_set (record { lo = 0; hi = 0 }) (λ n. false) (omega arith) (omega arith) (λ i h. bit-of-zero i) (λ i h. bit-of-zero i)

pub has-empty_s : (n : ℕ) → has empty_s n ≡ false
unfolding empty_s
has-empty_s n = has-set_of (λ m. false) n ∙ and-false (on_board 9 n)

pub has-none : (n : ℕ) → has (record { lo = 0; hi = 0 }) n ≡ false
has-none n = ap (λ (r : Bitboard). has r n) empty_words ∙ has-empty_s n

-- ---- a set has no stray bit, and a clean one is determined by its members
pub clean-set_of : (f : ℕ → Bool) → clean (set_of f) ≡ true
unfolding clean set_of
clean-set_of f = rw (lt-ltb (word f 1 63) (2 ^ 63) (word_lt f 1 63), lt-ltb (word f 64 18) (2 ^ 18) (word_lt f 64 18))

pub clean-has : (s : Bitboard) → clean s ≡ true → set_of (has s) ≡ s
unfolding clean
clean-has s e =
    let p = both (ltb s.lo (2 ^ 63)) (ltb s.hi (2 ^ 18)) e in
    set_of-has s (ltb-true s.lo (2 ^ 63) p.0) (ltb-true s.hi (2 ^ 18) p.1)
