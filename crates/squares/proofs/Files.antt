-- One file's nine bits in a word, and back.
use Rattle.std.proofs.Common.{◌≡◌, ℕ, ◌+◌, ◌-◌, ◌*◌, ◌/◌, ◌%◌, ◌^◌, ◌<◌, ◌≤◌, Bool, false, ◌&&◌, eqb, ltb, ltb-true, sym, ap, ◌∙◌, subst, ⊎_elim, lt_of_lt_of_le, mod-lt, arith, pow_pos, pow_mono, shl_lt, shl_exact, lt-ltb, eq-eqb, ne_eqb, le-leb}
use Rattle.std.proofs.lemmas.Bool.{false_from_ne_true}
use borrow.Author.Tests.{lt-leb}
use Rattle.squares.specs.Bit.{bit, word}
use Rattle.squares.specs.Board.{on_side, file_of, rank_of}
use Rattle.squares.specs.Sets.{has, empty_s, file_s, pattern_of}
use Rattle.squares.specs.Answers.{from_file_answer, get_file_answer}
use Rattle.squares.specs.declared.bitboard.Bitboard.{Bitboard}
use Rattle.squares.proofs.Bits.{bit_shl, bit_shr, bit_mod, bit_high, bit-of-zero, bit_ext, word_lt, bit_word}
use Rattle.squares.proofs.Members.{has_lo, has_hi, is_set, le-or-lt}
use Rattle.squares.proofs.Steps.{both, side_on, side_range, eqb_same}

-- nine digits p, g files up
module _ (p g : ℕ) (hp : p < 512) (hg : g ≤ 6) where
  exact : (p * 2 ^ (9 * g)) % 2 ^ 64 ≡ p * 2 ^ (9 * g)
  exact = shl_exact 9 (9 * g) 64 hp (omega arith)

  file-lt : (k : ℕ) → 9 + 9 * g ≤ k → (p * 2 ^ (9 * g)) % 2 ^ 64 < 2 ^ k
  file-lt k h = subst (λ (x : ℕ). x < 2 ^ k) (sym exact) (lt_of_lt_of_le (shl_lt 9 (9 * g) hp) (pow_mono h))

  file-bit : (i : ℕ) → bit i ((p * 2 ^ (9 * g)) % 2 ^ 64) ≡ eqb (i / 9) g && bit (i % 9) p
  file-bit i =
      ap (bit i) exact ∙ bit_shl i (9 * g) p
      ∙ ⊎_elim
      (λ (a : 9 * g ≤ i).
      ⊎_elim
      (λ (b : 9 * g + 9 ≤ i). rw (le-leb (9 * g) i a, ne_eqb (i / 9) g (λ e. omega arith)) (bit_high (i - 9 * g) 9 hp (omega arith)))
      (λ (b : i < 9 * g + 9).
      let e : i % 9 ≡ i - 9 * g = omega arith in
      rw (le-leb (9 * g) i a, eq-eqb (i / 9) g (omega arith), e))
      (le-or-lt (9 * g + 9) i))
      (λ (a : i < 9 * g). rw (lt-leb (9 * g) i a, ne_eqb (i / 9) g (λ e. omega arith)))
      (le-or-lt (9 * g) i)

-- the rule of `file_s` at a square of either word
rule : (f p : ℕ) → ℕ → Bool
rule f p n = eqb (file_of 9 n) f && bit (rank_of 9 n - 1) p

rule_lo : (f p i : ℕ) → 1 ≤ f → rule f p (1 + i) ≡ eqb (i / 9) (f - 1) && bit (i % 9) p
unfolding rule file_of rank_of
rule_lo f p i h =
    let e : (1 + i - 1) % 9 + 1 - 1 ≡ i % 9 = omega arith in
    rw (e, eqb_same ((1 + i - 1) / 9 + 1) f (i / 9) (f - 1) (λ q. omega arith) (λ q. omega arith))

rule_hi : (f p i : ℕ) → 8 ≤ f → rule f p (64 + i) ≡ eqb (i / 9) (f - 8) && bit (i % 9) p
unfolding rule file_of rank_of
rule_hi f p i h =
    let e : (64 + i - 1) % 9 + 1 - 1 ≡ i % 9 = omega arith in
    rw (e, eqb_same ((64 + i - 1) / 9 + 1) f (i / 9) (f - 8) (λ q. omega arith) (λ q. omega arith))

other_lo : (f p i : ℕ) → 8 ≤ f → i < 63 → rule f p (1 + i) ≡ false
unfolding rule file_of
other_lo f p i h l = rw (ne_eqb ((1 + i - 1) / 9 + 1) f (λ q. omega arith))

other_hi : (f p i : ℕ) → f ≤ 7 → rule f p (64 + i) ≡ false
unfolding rule file_of
other_hi f p i h = rw (ne_eqb ((64 + i - 1) / 9 + 1) f (λ q. omega arith))

pub file_lo : (f p : ℕ) → 1 ≤ f → f ≤ 7 → p < 512 → record { lo = (p * 2 ^ (9 * (f - 1))) % 2 ^ 64; hi = 0 } ≡ file_s f p
unfolding file_s rule
file_lo f p l h hp =
    is_set (record { lo = (p * 2 ^ (9 * (f - 1))) % 2 ^ 64; hi = 0 }) (rule f p) (file-lt p (f - 1) hp (omega arith) 63 (omega arith)) (omega arith)
    (λ i k. file-bit p (f - 1) hp (omega arith) i ∙ sym (rule_lo f p i l)) (λ i k. bit-of-zero i ∙ sym (other_hi f p i h))

pub file_hi : (f p : ℕ) → 8 ≤ f → f ≤ 9 → p < 512 → record { lo = 0; hi = (p * 2 ^ (9 * (f - 8))) % 2 ^ 64 } ≡ file_s f p
unfolding file_s rule
file_hi f p l h hp =
    is_set (record { lo = 0; hi = (p * 2 ^ (9 * (f - 8))) % 2 ^ 64 }) (rule f p) (omega arith) (file-lt p (f - 8) hp (omega arith) 18 (omega arith))
    (λ i k. bit-of-zero i ∙ sym (other_lo f p i l k)) (λ i k. file-bit p (f - 8) hp (omega arith) i ∙ sym (rule_hi f p i l))

-- ---- the pattern of a file
low9 : (w k i : ℕ) → i < 9 → bit i (w / 2 ^ k % 2 ^ 9) ≡ bit (i + k) w
low9 w k i h = bit_mod i 9 (w / 2 ^ k) ∙ ap (λ (t : Bool). t && bit i (w / 2 ^ k)) (lt-ltb i 9 h) ∙ bit_shr i k w

pub pattern_lo : (s : Bitboard) (f : ℕ) → 1 ≤ f → f ≤ 7 → s.lo / 2 ^ (9 * (f - 1)) % 512 ≡ pattern_of s f
unfolding pattern_of
pattern_lo s f l h =
    bit_ext 9 (s.lo / 2 ^ (9 * (f - 1)) % 2 ^ 9) (word (has s) (9 * f - 8) 9) (mod-lt (s.lo / 2 ^ (9 * (f - 1))) (pow_pos 9)) (word_lt (has s) (9 * f - 8) 9)
    (λ i k.
    let e : 9 * f - 8 + i ≡ 1 + (i + 9 * (f - 1)) = omega arith in
    low9 s.lo (9 * (f - 1)) i k ∙ sym (bit_word (has s) i (9 * f - 8) 9 k ∙ ap (has s) e ∙ has_lo s (i + 9 * (f - 1)) (omega arith)))

pub pattern_hi : (s : Bitboard) (f : ℕ) → 8 ≤ f → f ≤ 9 → s.hi / 2 ^ (9 * (f - 8)) % 512 ≡ pattern_of s f
unfolding pattern_of
pattern_hi s f l h =
    bit_ext 9 (s.hi / 2 ^ (9 * (f - 8)) % 2 ^ 9) (word (has s) (9 * f - 8) 9) (mod-lt (s.hi / 2 ^ (9 * (f - 8))) (pow_pos 9)) (word_lt (has s) (9 * f - 8) 9)
    (λ i k.
    let e : 9 * f - 8 + i ≡ 64 + (i + 9 * (f - 8)) = omega arith in
    low9 s.hi (9 * (f - 8)) i k ∙ sym (bit_word (has s) i (9 * f - 8) 9 k ∙ ap (has s) e ∙ has_hi s (i + 9 * (f - 8)) (omega arith)))

-- ---- answers
pub file-good : (f p : ℕ) {r : Bitboard} → 1 ≤ f → f < 10 → p ≤ 511 → r ≡ file_s f p → record { number = 0; set = r } ≡ from_file_answer f p
unfolding from_file_answer
file-good f p l h hp e = rw (e, side_on 9 f l (omega arith), lt-ltb p 512 (omega arith))

pub file_bad : (f p : ℕ) → (1 ≤ f → f ≤ 9 → p ≤ 511 → ⊥) → record { number = 2; set = empty_s } ≡ from_file_answer f p
unfolding from_file_answer
file_bad f p bad =
    rw (false_from_ne_true _ (λ e.
    let t = both (on_side 9 f) (ltb p 512) e in
    let r = side_range 9 f t.0 in
    let l = ltb-true p 512 t.1 in
    bad r.0 r.1 (omega arith)))

pub pattern_good : (s : Bitboard) (f : ℕ) {r : ℕ} → 1 ≤ f → f < 10 → r ≡ pattern_of s f → record { number = 0; value = r } ≡ get_file_answer s f
unfolding get_file_answer
pattern_good s f l h e = rw (e, side_on 9 f l (omega arith))

pub pattern_bad : (s : Bitboard) (f : ℕ) → on_side 9 f ≡ false → record { number = 2; value = 0 } ≡ get_file_answer s f
unfolding get_file_answer
pattern_bad s f e = rw e
