-- The words of a shifted set, for each of the four bodies and every distance.
use Rattle.std.proofs.Common.{◌≡◌, ℕ, Result, Ok, Err, IsErr, leb-true, ◌+◌, ◌-◌, ◌*◌, ◌/◌, ◌%◌, ◌^◌, ◌<◌, ◌≤◌, Bool, false, ◌&&◌, ◌||◌, ltb, leb, sym, ap, ◌∙◌, ap₂, ⊎_elim, arith, leb→le, le-ltb, lt-ltb, le-leb}
use mathlib.Core.Bool.{beq, and-true, and-false, or-false}
use lib.Bits.{bit_and, bit_or, mask_lt}
use borrow.Author.Tests.{lt-leb}
use Rattle.squares.specs.Bit.{odd, bit}
use Rattle.squares.specs.Board.{on_side, file_of, rank_of, square_at, file_step, rank_step, opposite, step}
use Rattle.squares.specs.Sets.{has, set_of, shift_s}
use Rattle.squares.specs.Answers.{SetValue, number_if, number_given, set_given, shift_answer}
use Rattle.squares.specs.declared.bad_number.BadNumber.{BadNumber}
use Rattle.squares.specs.declared.bitboard.Bitboard.{Bitboard}
use Rattle.squares.specs.declared.bitboard.Direction.{Direction}
use Rattle.squares.specs.declared.bitboard.Direction.TheVariants.{Down, Up, Left, Right}
use Rattle.squares.proofs.Bits.{bit-and, bit-or, bit_shl64, bit_shr, bit_high, bit-of-zero}
use Rattle.squares.proofs.Steps.{board_on, board-zero, side_on, side_low, side_high, at_on, at_off}
use Rattle.squares.proofs.Members.{has_lo, has_hi, has_off, has_masked, cleaned, by_words, le-or-lt}
use Rattle.squares.proofs.Unique.{told-good, set-passed}
use Rattle.squares.proofs.Tests.{all, all_at, beq_eq}

-- ---- the answer to a good and to a bad distance
shift-good : (dir : Direction) (d : ℕ) (s : Bitboard) → d ≤ 9 → record { number = 0; set = shift_s dir d s } ≡ shift_answer dir d s
unfolding shift_answer
shift-good dir d s h = rw (le-leb d 9 h)

-- what the distance says of it
module _ (d : ℕ) (r : Result ℕ BadNumber) (q : number_given r ≡ number_if (leb d 9) d) where
  pub shift_bad : (dir : Direction) (s : Bitboard) (t : Result Bitboard BadNumber) {e : BadNumber} → r ≡ Err e → IsErr t → set_given t ≡ shift_answer dir d s
  unfolding shift_answer
  shift_bad dir s t e h = set-passed _ _ r q _ t e h

  pub near : {x : ℕ} → r ≡ Ok x → (x ≤ 9) × (x ≡ d)
  near e = let t = told-good _ _ r q e in let l = leb-true d 9 t.0 in (omega (arith, t.1), t.1)

  -- the answer of the distance that is told
  pub moved : {x : ℕ} (dir : Direction) (s : Bitboard) {v : SetValue} → r ≡ Ok x → (x ≤ 9 → v ≡ shift_answer dir x s) → v ≡ shift_answer dir d s
  moved dir s e f = let n = near e in f n.0 ∙ ap (λ (k : ℕ). shift_answer dir k s) n.1

-- the stray bits make no difference
shifted : (dir : Direction) (d : ℕ) (s : Bitboard) {r : Bitboard} → d ≤ 9 → r ≡ shift_s dir d (cleaned s) → record { number = 0; set = r } ≡ shift_answer dir d s
unfolding shift_s
shifted dir d s h e =
    rw (e ∙ ap (λ (f : ℕ → Bool). set_of (λ n. f (step 9 (opposite dir) d n))) (has_masked s)) (shift-good dir d s h)

-- ---- steps on the board of nine, as sums of square numbers
at_nine : (f r : ℕ) → 1 ≤ f → f ≤ 9 → 1 ≤ r → r ≤ 9 → square_at 9 f r ≡ 9 * f - 9 + r
at_nine f r a b c d = at_on 9 f r (rw (side_on 9 f a b, side_on 9 r c d))

no-rank : (f r : ℕ) → 1 ≤ f → f ≤ 9 → on_side 9 r ≡ false → square_at 9 f r ≡ 0
no-rank f r a b e = at_off 9 f r (rw (side_on 9 f a b, e))

no-file : (f r : ℕ) → on_side 9 f ≡ false → square_at 9 f r ≡ 0
no-file f r e = at_off 9 f r (rw e)

module _ (d n : ℕ) (l : 1 ≤ n) (h : n ≤ 81) where
  step_up : d ≤ (n - 1) % 9 → step 9 Up d n ≡ n - d
  unfolding step file_step rank_step file_of rank_of
  step_up p = rw (board_on 9 n l h, at_nine ((n - 1) / 9 + 1) ((n - 1) % 9 + 1 - d) (omega arith) (omega arith) (omega arith) (omega arith)) (omega arith)

  step_up_off : (n - 1) % 9 < d → step 9 Up d n ≡ 0
  unfolding step file_step rank_step file_of rank_of
  step_up_off p = rw (board_on 9 n l h) (no-rank ((n - 1) / 9 + 1) ((n - 1) % 9 + 1 - d) (omega arith) (omega arith) (side_low 9 ((n - 1) % 9 + 1 - d) (omega arith)))

  step_down : (n - 1) % 9 + d < 9 → step 9 Down d n ≡ n + d
  unfolding step file_step rank_step file_of rank_of
  step_down p = rw (board_on 9 n l h, at_nine ((n - 1) / 9 + 1) ((n - 1) % 9 + 1 + d) (omega arith) (omega arith) (omega arith) (omega arith)) (omega arith)

  step_down_off : 9 ≤ (n - 1) % 9 + d → step 9 Down d n ≡ 0
  unfolding step file_step rank_step file_of rank_of
  step_down_off p = rw (board_on 9 n l h) (no-rank ((n - 1) / 9 + 1) ((n - 1) % 9 + 1 + d) (omega arith) (omega arith) (side_high 9 ((n - 1) % 9 + 1 + d) (omega arith) (omega arith)))

  step_left : n + 9 * d ≤ 81 → step 9 Left d n ≡ n + 9 * d
  unfolding step file_step rank_step file_of rank_of
  step_left p = rw (board_on 9 n l h, at_nine ((n - 1) / 9 + 1 + d) ((n - 1) % 9 + 1) (omega arith) (omega arith) (omega arith) (omega arith)) (omega arith)

  step_left_off : 81 < n + 9 * d → step 9 Left d n ≡ 0
  unfolding step file_step rank_step file_of rank_of
  step_left_off p = rw (board_on 9 n l h) (no-file ((n - 1) / 9 + 1 + d) ((n - 1) % 9 + 1) (side_high 9 ((n - 1) / 9 + 1 + d) (omega arith) (omega arith)))

  step_right : 9 * d < n → step 9 Right d n ≡ n - 9 * d
  unfolding step file_step rank_step file_of rank_of
  step_right p = rw (board_on 9 n l h, at_nine ((n - 1) / 9 + 1 - d) ((n - 1) % 9 + 1) (omega arith) (omega arith) (omega arith) (omega arith)) (omega arith)

  step_right_off : n ≤ 9 * d → step 9 Right d n ≡ 0
  unfolding step file_step rank_step file_of rank_of
  step_right_off p = rw (board_on 9 n l h) (no-file ((n - 1) / 9 + 1 - d) ((n - 1) % 9 + 1) (side_low 9 ((n - 1) / 9 + 1 - d) (omega arith)))

has-zero : (s : Bitboard) → has s 0 ≡ false
has-zero s = has_off s 0 (board-zero 9)

-- ---- the masks of the ranks, each by one test that is computed
abbrev pub down_mask : ℕ → ℕ
down_mask d = 0x8040_2010_0804_0200 - 0x8040_2010_0804_0200 / 2 ^ (9 - d)

abbrev pub up_mask : ℕ → ℕ
up_mask d = (0x40_2010_0804_0201 * 2 ^ (9 - d)) % 2 ^ 64 - 0x40_2010_0804_0201

abbrev down_right : ℕ → ℕ → Bool
down_right d i = beq (bit i (down_mask d)) (leb d (i % 9))

abbrev up_right : ℕ → ℕ → Bool
up_right d i = beq (bit i (up_mask d)) (ltb (i % 9 + d) 9)

down_mask_lem : (d i : ℕ) → d ≤ 9 → i < 63 → bit i (down_mask d) ≡ leb d (i % 9)
unfolding bit odd
down_mask_lem d i hd hi = beq_eq (bit i (down_mask d)) (leb d (i % 9)) (all_at (down_right d) 63 (all_at (λ e. all (down_right e) 63) 10 tt d (omega arith)) i hi)

up_mask_lem : (d i : ℕ) → d ≤ 9 → i < 63 → bit i (up_mask d) ≡ ltb (i % 9 + d) 9
unfolding bit odd
up_mask_lem d i hd hi = beq_eq (bit i (up_mask d)) (ltb (i % 9 + d) 9) (all_at (up_right d) 63 (all_at (λ e. all (up_right e) 63) 10 tt d (omega arith)) i hi)

pub up_mask_fits : (d : ℕ) → d ≤ 9 → 0x40_2010_0804_0201 ≤ (0x40_2010_0804_0201 * 2 ^ (9 - d)) % 2 ^ 64
up_mask_fits d h = leb→le _ _ (all_at (λ e. leb 0x40_2010_0804_0201 ((0x40_2010_0804_0201 * 2 ^ (9 - e)) % 2 ^ 64)) 10 tt d (omega arith))

-- ---- down and up: x holds the m files after the k first, and its bits move within their files
module _ (s : Bitboard) (k m x : ℕ) (fits : k + m ≤ 9) (reads : (i : ℕ) → i < 9 * m → has s (9 * k + 1 + i) ≡ bit i x) (d i : ℕ) (hd : d ≤ 9) (h : i < 9 * m) (hi : i < 63) where
  down_word : bit i (bit_and ((x * 2 ^ d) % 2 ^ 64) (down_mask d)) ≡ has s (step 9 Up d (9 * k + 1 + i))
  down_word =
      bit-and i ((x * 2 ^ d) % 2 ^ 64) (down_mask d) ∙ ap₂ (λ (p q : Bool). p && q) (bit_shl64 i d x (omega arith)) (down_mask_lem d i hd hi)
      ∙ ⊎_elim
      (λ (p : d ≤ i % 9).
      let e : 9 * k + 1 + i - d ≡ 9 * k + 1 + (i - d) = omega arith in
      rw (le-leb d (i % 9) p, le-leb d i (omega arith), step_up d (9 * k + 1 + i) (omega arith) (omega arith) (omega arith), e) (and-true (bit (i - d) x) ∙ sym (reads (i - d) (omega arith))))
      (λ (p : i % 9 < d). rw (lt-leb d (i % 9) p, step_up_off d (9 * k + 1 + i) (omega arith) (omega arith) (omega arith)) (and-false (leb d i && bit (i - d) x) ∙ sym (has-zero s)))
      (le-or-lt d (i % 9))

  up_word : bit i (bit_and (x / 2 ^ d) (up_mask d)) ≡ has s (step 9 Down d (9 * k + 1 + i))
  up_word =
      bit-and i (x / 2 ^ d) (up_mask d) ∙ ap₂ (λ (p q : Bool). p && q) (bit_shr i d x) (up_mask_lem d i hd hi)
      ∙ ⊎_elim
      (λ (p : 9 ≤ i % 9 + d). rw (le-ltb (i % 9 + d) 9 p, step_down_off d (9 * k + 1 + i) (omega arith) (omega arith) (omega arith)) (and-false (bit (i + d) x) ∙ sym (has-zero s)))
      (λ (p : i % 9 + d < 9).
      let e : 9 * k + 1 + i + d ≡ 9 * k + 1 + (i + d) = omega arith in
      rw (lt-ltb (i % 9 + d) 9 p, step_down d (9 * k + 1 + i) (omega arith) (omega arith) (omega arith), e) (and-true (bit (i + d) x) ∙ sym (reads (i + d) (omega arith))))
      (le-or-lt 9 (i % 9 + d))

pub down-answer : (s : Bitboard) (d : ℕ) {r : Bitboard} → d ≤ 9
    → r ≡ set_of (has (record { lo = bit_and ((s.lo * 2 ^ d) % 2 ^ 64) (down_mask d); hi = bit_and ((s.hi * 2 ^ d) % 2 ^ 64) (down_mask d) }))
    → record { number = 0; set = r } ≡ shift_answer Down d s
unfolding shift_s
down-answer s d hd e =
    rw (e
    ∙ by_words _ (λ n. has s (step 9 Up d n))
    (λ i h. down_word s 0 7 s.lo (omega arith) (has_lo s) d i hd h h)
    (λ i h. down_word s 7 2 s.hi (omega arith) (has_hi s) d i hd h (omega arith)))
    (shift-good Down d s hd)

pub up_answer : (s : Bitboard) (d : ℕ) {r : Bitboard} → d ≤ 9
    → r ≡ set_of (has (record { lo = bit_and (s.lo / 2 ^ d) (up_mask d); hi = bit_and (s.hi / 2 ^ d) (up_mask d) }))
    → record { number = 0; set = r } ≡ shift_answer Up d s
unfolding shift_s
up_answer s d hd e =
    rw (e
    ∙ by_words _ (λ n. has s (step 9 Down d n))
    (λ i h. up_word s 0 7 s.lo (omega arith) (has_lo s) d i hd h h)
    (λ i h. up_word s 7 2 s.hi (omega arith) (has_hi s) d i hd h (omega arith)))
    (shift-good Up d s hd)

-- ---- left and right, across the seam, of words with no stray bit
module _ (s : Bitboard) (d : ℕ) (hl : s.lo < 2 ^ 63) (hh : s.hi < 2 ^ 18) where
  from_right_lo : (i : ℕ) → i < 63 → leb (9 * d) i && bit (i - 9 * d) s.lo ≡ has s (step 9 Right d (1 + i))
  from_right_lo i h =
      ⊎_elim
      (λ (p : 9 * d ≤ i).
      let e : 1 + i - 9 * d ≡ 1 + (i - 9 * d) = omega arith in
      rw (step_right d (1 + i) (omega arith) (omega arith) (omega arith), e, le-leb (9 * d) i p) (sym (has_lo s (i - 9 * d) (omega arith))))
      (λ (p : i < 9 * d). rw (step_right_off d (1 + i) (omega arith) (omega arith) (omega arith), lt-leb (9 * d) i p) (sym (has-zero s)))
      (le-or-lt (9 * d) i)

  from_right_hi : (i : ℕ) → i < 18 → d ≤ 7 → (leb (9 * d) i && bit (i - 9 * d) s.hi) || bit (i + (63 - 9 * d)) s.lo ≡ has s (step 9 Right d (64 + i))
  from_right_hi i h k =
      ⊎_elim
      (λ (p : 9 * d ≤ i).
      let e : 64 + i - 9 * d ≡ 64 + (i - 9 * d) = omega arith in
      rw (step_right d (64 + i) (omega arith) (omega arith) (omega arith), e, le-leb (9 * d) i p, bit_high (i + (63 - 9 * d)) 63 hl (omega arith))
      (or-false _ ∙ sym (has_hi s (i - 9 * d) (omega arith))))
      (λ (p : i < 9 * d).
      let e : 64 + i - 9 * d ≡ 1 + (i + (63 - 9 * d)) = omega arith in
      rw (step_right d (64 + i) (omega arith) (omega arith) (omega arith), e, lt-leb (9 * d) i p) (sym (has_lo s (i + (63 - 9 * d)) (omega arith))))
      (le-or-lt (9 * d) i)

  left_words : d ≤ 7 → set_of (has (record { lo = (s.lo * 2 ^ (9 * d)) % 2 ^ 64; hi = bit_or ((s.hi * 2 ^ (9 * d)) % 2 ^ 64) (s.lo / 2 ^ (63 - 9 * d)) })) ≡ shift_s Left d s
  unfolding shift_s
  left_words k =
      by_words _ (λ n. has s (step 9 Right d n))
      (λ i h. bit_shl64 i (9 * d) s.lo (omega arith) ∙ from_right_lo i h)
      (λ i h. bit-or i ((s.hi * 2 ^ (9 * d)) % 2 ^ 64) (s.lo / 2 ^ (63 - 9 * d))
      ∙ ap₂ (λ (p q : Bool). p || q) (bit_shl64 i (9 * d) s.hi (omega arith)) (bit_shr i (63 - 9 * d) s.lo) ∙ from_right_hi i h k)

  from_far : (i : ℕ) → i < 18 → 7 < d → leb (9 * d - 63) i && bit (i - (9 * d - 63)) s.lo ≡ has s (step 9 Right d (64 + i))
  from_far i h k =
      ⊎_elim
      (λ (p : 9 * d - 63 ≤ i).
      let e : 64 + i - 9 * d ≡ 1 + (i - (9 * d - 63)) = omega arith in
      rw (step_right d (64 + i) (omega arith) (omega arith) (omega arith), e, le-leb (9 * d - 63) i p) (sym (has_lo s (i - (9 * d - 63)) (omega arith))))
      (λ (p : i < 9 * d - 63). rw (step_right_off d (64 + i) (omega arith) (omega arith) (omega arith), lt-leb (9 * d - 63) i p) (sym (has-zero s)))
      (le-or-lt (9 * d - 63) i)

  left_far : 7 < d → set_of (has (record { lo = 0; hi = (s.lo * 2 ^ (9 * d - 63)) % 2 ^ 64 })) ≡ shift_s Left d s
  unfolding shift_s
  left_far k =
      by_words _ (λ n. has s (step 9 Right d n))
      (λ i h. bit-of-zero i ∙ sym (ap (has s) (step_right_off d (1 + i) (omega arith) (omega arith) (omega arith)) ∙ has-zero s))
      (λ i h. bit_shl64 i (9 * d - 63) s.lo (omega arith) ∙ from_far i h k)

  -- the digit j of the second word, counted from the first word's start
  from_left_past : (n j : ℕ) → 1 ≤ n → n ≤ 81 → n + 9 * d ≡ 64 + j → bit j s.hi ≡ has s (step 9 Left d n)
  from_left_past n j l h e =
      ⊎_elim
      (λ (p : 18 ≤ j). rw (step_left_off d n l h (omega arith), bit_high j 18 hh p) (sym (has-zero s)))
      (λ (p : j < 18). rw (step_left d n l h (omega arith), e) (sym (has_hi s j p)))
      (le-or-lt 18 j)

  from_left_lo : (i : ℕ) → i < 63 → d ≤ 7 → bit (i + 9 * d) s.lo || (leb (63 - 9 * d) i && bit (i - (63 - 9 * d)) s.hi) ≡ has s (step 9 Left d (1 + i))
  from_left_lo i h k =
      ⊎_elim
      (λ (p : 63 - 9 * d ≤ i). rw (bit_high (i + 9 * d) 63 hl (omega arith), le-leb (63 - 9 * d) i p) (from_left_past (1 + i) (i - (63 - 9 * d)) (omega arith) (omega arith) (omega arith)))
      (λ (p : i < 63 - 9 * d).
      let e : 1 + i + 9 * d ≡ 1 + (i + 9 * d) = omega arith in
      rw (step_left d (1 + i) (omega arith) (omega arith) (omega arith), e, lt-leb (63 - 9 * d) i p) (or-false _ ∙ sym (has_lo s (i + 9 * d) (omega arith))))
      (le-or-lt (63 - 9 * d) i)

  right_words : d ≤ 7 → set_of (has (record { lo = bit_or (s.lo / 2 ^ (9 * d)) ((s.hi * 2 ^ (63 - 9 * d)) % 2 ^ 64); hi = s.hi / 2 ^ (9 * d) })) ≡ shift_s Right d s
  unfolding shift_s
  right_words k =
      by_words _ (λ n. has s (step 9 Left d n))
      (λ i h. bit-or i (s.lo / 2 ^ (9 * d)) ((s.hi * 2 ^ (63 - 9 * d)) % 2 ^ 64)
      ∙ ap₂ (λ (p q : Bool). p || q) (bit_shr i (9 * d) s.lo) (bit_shl64 i (63 - 9 * d) s.hi (omega arith)) ∙ from_left_lo i h k)
      (λ i h. bit_shr i (9 * d) s.hi ∙ from_left_past (64 + i) (i + 9 * d) (omega arith) (omega arith) (omega arith))

  right_far : 7 < d → set_of (has (record { lo = s.hi / 2 ^ (9 * d - 63); hi = 0 })) ≡ shift_s Right d s
  unfolding shift_s
  right_far k =
      by_words _ (λ n. has s (step 9 Left d n))
      (λ i h. bit_shr i (9 * d - 63) s.hi ∙ from_left_past (1 + i) (i + (9 * d - 63)) (omega arith) (omega arith) (omega arith))
      (λ i h. bit-of-zero i ∙ sym (ap (has s) (step_left_off d (64 + i) (omega arith) (omega arith) (omega arith)) ∙ has-zero s))

-- ---- their answers, of words with stray bits
module _ (t : Bitboard) (d : ℕ) where
  pub left_near : {r : Bitboard} → d ≤ 7
      → r ≡ set_of (has (record { lo = ((cleaned t).lo * 2 ^ (9 * d)) % 2 ^ 64; hi = bit_or (((cleaned t).hi * 2 ^ (9 * d)) % 2 ^ 64) ((cleaned t).lo / 2 ^ (63 - 9 * d)) }))
      → record { number = 0; set = r } ≡ shift_answer Left d t
  left_near h e = shifted Left d t (omega arith) (e ∙ left_words (cleaned t) d (mask_lt t.lo 63) (mask_lt t.hi 18) h)

  pub left_beyond : {r : Bitboard} → 7 < d → d ≤ 9 → r ≡ set_of (has (record { lo = 0; hi = ((cleaned t).lo * 2 ^ (9 * d - 63)) % 2 ^ 64 }))
      → record { number = 0; set = r } ≡ shift_answer Left d t
  left_beyond l h e = shifted Left d t h (e ∙ left_far (cleaned t) d (mask_lt t.lo 63) (mask_lt t.hi 18) l)

  pub right_near : {r : Bitboard} → d ≤ 7
      → r ≡ set_of (has (record { lo = bit_or ((cleaned t).lo / 2 ^ (9 * d)) (((cleaned t).hi * 2 ^ (63 - 9 * d)) % 2 ^ 64); hi = (cleaned t).hi / 2 ^ (9 * d) }))
      → record { number = 0; set = r } ≡ shift_answer Right d t
  right_near h e = shifted Right d t (omega arith) (e ∙ right_words (cleaned t) d (mask_lt t.lo 63) (mask_lt t.hi 18) h)

  pub right_beyond : {r : Bitboard} → 7 < d → d ≤ 9 → r ≡ set_of (has (record { lo = (cleaned t).hi / 2 ^ (9 * d - 63); hi = 0 }))
      → record { number = 0; set = r } ≡ shift_answer Right d t
  right_beyond l h e = shifted Right d t h (e ∙ right_far (cleaned t) d (mask_lt t.lo 63) (mask_lt t.hi 18) l)
