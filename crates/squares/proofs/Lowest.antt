-- The lowest bit of a word, by `trailing_zeros`; `x & (x - 1)` takes just that bit away. So pop gives the smallest square
-- and the rest.
use Rattle.std.proofs.Common.{◌≡◌, ℕ, zero, suc, ◌+◌, ◌-◌, ◌/◌, ◌%◌, ◌^◌, ◌<◌, ◌≤◌, Bool, true, false, not, ◌&&◌, eqb, sym, ap, ◌∙◌, subst, ap₂, ⊎_elim, lt_of_le_of_lt, mod-lt, add_comm, pow-suc, one-add, arith, ne_eqb}
use mathlib.Core.Bool.{and-true, and_self, false≢true}
use lib.Dec.{eqb-suc-zero, eqb-suc-suc}
use lib.Bits.{bit_and, bit_or, and_le_l, and_le_r, or_add_and, mask_lt}
use lib.Count.{count_trailing_zeros, under}
use Rattle.squares.specs.Bit.{odd, bit}
use Rattle.squares.specs.Sets.{has, set_of, is_empty, size, count_of, first_of, smallest, without_s, empty_s}
use Rattle.squares.specs.Answers.{pop_answer}
use Rattle.squares.specs.declared.bitboard.Bitboard.{Bitboard}
use Rattle.squares.proofs.Bits.{bin, bit-zero, bit-suc, bit-of-zero, bit-and, bit_high}
use Rattle.squares.proofs.Steps.{board-zero, eqb_same}
use Rattle.squares.proofs.Members.{has_lo, has_hi, has_off, has-none, has_masked, is_set, le-or-lt, set_of_cong, cleaned}
use Rattle.squares.proofs.Least.{First, smallest-none, empty-none, empty-some, pop_at}

trailing_odd : (k x : ℕ) → x % 2 ≡ 1 → count_trailing_zeros (suc k) x ≡ 0
unfolding count_trailing_zeros
trailing_odd k x e = ap (λ (d : ℕ). under d (count_trailing_zeros k (x / 2))) e

trailing_even : (k x : ℕ) → x % 2 ≡ 0 → count_trailing_zeros (suc k) x ≡ suc (count_trailing_zeros k (x / 2))
unfolding count_trailing_zeros
trailing_even k x e = ap (λ (d : ℕ). under d (count_trailing_zeros k (x / 2))) e

bit-odd : (x : ℕ) → x % 2 ≡ 1 → bit 0 x ≡ true
unfolding odd
bit-odd x e = bit-zero x ∙ ap (λ (d : ℕ). eqb d 1) e

bit_even : (x : ℕ) → x % 2 ≡ 0 → bit 0 x ≡ false
unfolding odd
bit_even x e = bit-zero x ∙ ap (λ (d : ℕ). eqb d 1) e

-- t is the place of the lowest bit of x, among k
pub record Lowest (k x t : ℕ) : Type 0 where
  pub within : t < k
  pub set : bit t x ≡ true
  pub below : (j : ℕ) → j < t → bit j x ≡ false

pub lowest : (k x : ℕ) → 0 < x → x < 2 ^ k → Lowest k x (count_trailing_zeros k x)
lowest zero x p h = absurd (omega arith)
lowest (suc k) x p h =
    ⊎_elim
    (λ (e : x % 2 ≡ 0).
    let ih = lowest k (x / 2) (omega arith) (omega (arith, pow-suc 2 k)) in
    subst (Lowest (suc k) x) (sym (trailing_even k x e))
    (record { within = omega (arith, ih.within); set = bit-suc (count_trailing_zeros k (x / 2)) x ∙ ih.set; below = down x (count_trailing_zeros k (x / 2)) (bit_even x e) ih.below }))
    (λ (e : x % 2 ≡ 1). subst (Lowest (suc k) x) (sym (trailing_odd k x e)) (record { within = omega arith; set = bit-odd x e; below = λ j l. absurd (omega arith) }))
    (bin (x % 2) (mod-lt x (omega arith)))
  where
    down : (y t : ℕ) → bit 0 y ≡ false → ((j : ℕ) → j < t → bit j (y / 2) ≡ false) → (j : ℕ) → j < suc t → bit j y ≡ false
    down y t z b zero l = z
    down y t z b (suc j) l = bit-suc j y ∙ b j (omega arith)

clears_even : (k x i : ℕ) → 0 < x → ((j : ℕ) → x % 2 ≡ 0 → bit j (x / 2) && bit j (x / 2 - 1) ≡ bit j (x / 2) && not (eqb j (count_trailing_zeros k (x / 2))))
    → x % 2 ≡ 0 → bit i x && bit i (x - 1) ≡ bit i x && not (eqb i (count_trailing_zeros (suc k) x))
clears_even k x zero p ih e = rw (bit_even x e)
clears_even k x (suc j) p ih e =
    let q : (x - 1) / 2 ≡ x / 2 - 1 = omega arith in
    rw (trailing_even k x e, bit-suc j x, bit-suc j (x - 1), q, eqb-suc-suc) (ih j e)

clears_odd : (k x i : ℕ) → x % 2 ≡ 1 → bit i x && bit i (x - 1) ≡ bit i x && not (eqb i (count_trailing_zeros (suc k) x))
clears_odd k x zero e =
    let z : (x - 1) % 2 ≡ 0 = omega arith in
    rw (trailing_odd k x e, bit_even (x - 1) z)
clears_odd k x (suc j) e =
    let q : (x - 1) / 2 ≡ x / 2 = omega arith in
    rw (trailing_odd k x e, bit-suc j x, bit-suc j (x - 1), q, eqb-suc-zero) (and_self (bit j (x / 2)) ∙ sym (and-true (bit j (x / 2))))

-- `x & (x - 1)`: just the lowest bit goes
pub clears : (k x i : ℕ) → 0 < x → x < 2 ^ k → bit i x && bit i (x - 1) ≡ bit i x && not (eqb i (count_trailing_zeros k x))
clears zero x i p h = absurd (omega arith)
clears (suc k) x i p h =
    ⊎_elim
    (clears_even k x i p (λ j e. clears k (x / 2) j (omega arith) (omega (arith, pow-suc 2 k))))
    (clears_odd k x i) (bin (x % 2) (mod-lt x (omega arith)))

low-within : (k x t : ℕ) → Lowest 64 x t → x < 2 ^ k → t < k
low-within k x t l h = ⊎_elim (λ (p : k ≤ t). absurd (false≢true (sym (bit_high t k h p) ∙ l.set))) (λ (p : t < k). p) (le-or-lt k t)

-- ---- x is the word of the k squares from b on, and nothing below b is in the set
module _ (s : Bitboard) (b k x : ℕ) (lb : 1 ≤ b) (hb : b + k ≤ 82) (p : 0 < x) (hx : x < 2 ^ k) (h64 : x < 2 ^ 64)
    (reads : (i : ℕ) → i < k → has s (b + i) ≡ bit i x) (below : (m : ℕ) → m < b → has s m ≡ false) where
  word_first : First (has s) 1 81 (b + count_trailing_zeros 64 x)
  word_first =
      let t : ℕ = count_trailing_zeros 64 x in
      let l = lowest 64 x p h64 in
      let u = low-within k x t l hx in
      record {
        from = omega arith;
        to = omega arith;
        passes = reads t u ∙ l.set;
        least = λ m lo hi.
            ⊎_elim (λ (q : b ≤ m). let e : m ≡ b + (m - b) = omega arith in ap (has s) e ∙ reads (m - b) (omega arith) ∙ l.below (m - b) (omega arith))
            (below m) (le-or-lt b m);
      }

  rest_bit : (i : ℕ) → i < k → bit i (bit_and x (x - 1)) ≡ has s (b + i) && not (eqb (b + i) (b + count_trailing_zeros 64 x))
  rest_bit i h =
      bit-and i x (x - 1) ∙ clears 64 x i p h64
      ∙ ap₂ (λ (q r : Bool). q && not r) (sym (reads i h)) (eqb_same i (count_trailing_zeros 64 x) (b + i) (b + count_trailing_zeros 64 x) (λ e. omega arith) (λ e. omega arith))

has-zero : (s : Bitboard) (m : ℕ) → m < 1 → has s m ≡ false
has-zero s zero h = has_off s 0 (board-zero 9)
has-zero s (suc m) h = absurd (omega arith)

-- pop is a function of the members
pub pop_cong : (r s : Bitboard) → has r ≡ has s → pop_answer r ≡ pop_answer s
unfolding pop_answer is_empty size smallest without_s
pop_cong r s e =
    ap (λ (f : ℕ → Bool). record { number = 0; found = not (eqb (count_of f 1 81) 0); square = first_of f 1 81; set = set_of (λ m. f m && not (eqb m (first_of f 1 81))) }) e

-- one less, with wrap
abbrev less-one : ℕ → ℕ
less-one x = (x + 0xffff_ffff_ffff_ffff) % 2 ^ 64

module _ (x y : ℕ) where
  pub pop_lo : x < 2 ^ 63 → y < 2 ^ 18 → 0 < x
      → record { number = 0; found = true; square = count_trailing_zeros 64 x + 1; set = record { lo = bit_and x (less-one x); hi = y } } ≡ pop_answer (record { lo = x; hi = y })
  unfolding without_s
  pop_lo hx hy p =
      let s : Bitboard = record { lo = x; hi = y } in
      let t : ℕ = count_trailing_zeros 64 x in
      let v : less-one x ≡ x - 1 = omega arith in
      let h64 : x < 2 ^ 64 = omega arith in
      let f = word_first s 1 63 x (omega arith) (omega arith) p hx h64 (has_lo s) (has-zero s) in
      let u : t < 63 = low-within 63 x t (lowest 64 x p h64) hx in
      rw (v, add_comm t 1)
      (pop_at s (record { lo = bit_and x (x - 1); hi = y }) (1 + t) f
      (is_set (record { lo = bit_and x (x - 1); hi = y }) (λ m. has s m && not (eqb m (1 + t))) (lt_of_le_of_lt (and_le_l x (x - 1)) hx) hy
      (rest_bit s 1 63 x (omega arith) (omega arith) p hx h64 (has_lo s) (has-zero s))
      (λ i h. rw (has_hi s i h, ne_eqb (64 + i) (1 + t) (λ g. omega arith)) (sym (and-true (bit i y))))))

none-low : (y m : ℕ) → m < 64 → has (record { lo = 0; hi = y }) m ≡ false
none-low y zero h = has-zero (record { lo = 0; hi = y }) 0 (omega arith)
none-low y (suc m) h = ap (has (record { lo = 0; hi = y })) (sym (one-add m)) ∙ has_lo (record { lo = 0; hi = y }) m (omega arith) ∙ bit-of-zero m

module _ (y : ℕ) where
  pub pop_hi : y < 2 ^ 18 → 0 < y
      → record { number = 0; found = true; square = count_trailing_zeros 64 y + 64; set = record { lo = 0; hi = bit_and y (less-one y) } } ≡ pop_answer (record { lo = 0; hi = y })
  unfolding without_s
  pop_hi hy p =
      let s : Bitboard = record { lo = 0; hi = y } in
      let t : ℕ = count_trailing_zeros 64 y in
      let v : less-one y ≡ y - 1 = omega arith in
      let h64 : y < 2 ^ 64 = omega arith in
      let low : (m : ℕ) → m < 64 → has s m ≡ false = none-low y in
      let f = word_first s 64 18 y (omega arith) (omega arith) p hy h64 (has_hi s) low in
      rw (v, add_comm t 64)
      (pop_at s (record { lo = 0; hi = bit_and y (y - 1) }) (64 + t) f
      (is_set (record { lo = 0; hi = bit_and y (y - 1) }) (λ m. has s m && not (eqb m (64 + t))) (omega arith) (lt_of_le_of_lt (and_le_l y (y - 1)) hy)
      (λ i h. rw (bit-of-zero i, low (1 + i) (omega arith)))
      (rest_bit s 64 18 y (omega arith) (omega arith) p hy h64 (has_hi s) low)))

-- no member: nothing, and the empty set
pub pop-none : record { number = 0; found = false; square = 0; set = empty_s } ≡ pop_answer (record { lo = 0; hi = 0 })
unfolding pop_answer without_s empty_s
pop-none =
    let s : Bitboard = record { lo = 0; hi = 0 } in
    rw (smallest-none s has-none, empty-none s has-none)
    (ap (λ (r : Bitboard). record { number = 0; found = false; square = 0; set = r })
    (set_of_cong (λ m. false) (λ m. has s m && not (eqb m 0)) (λ m o. sym (ap (λ (t : Bool). t && not (eqb m 0)) (has-none m)))))

-- ---- the empty set, by words
empty_cong : (r s : Bitboard) → has r ≡ has s → is_empty r ≡ is_empty s
unfolding is_empty size
empty_cong r s e = ap (λ (f : ℕ → Bool). eqb (count_of f 1 81) 0) e

or_least : (x y : ℕ) → (x ≤ bit_or x y) × (y ≤ bit_or x y)
or_least x y = (omega (arith, or_add_and x y, and_le_r x y), omega (arith, or_add_and x y, and_le_l x y))

clean-empty : (x y : ℕ) → x < 2 ^ 63 → y < 2 ^ 18 → eqb (bit_or x y) 0 ≡ is_empty (record { lo = x; hi = y })
clean-empty zero zero hx hy = sym (empty-none (record { lo = 0; hi = 0 }) has-none)
clean-empty zero (suc y) hx hy =
    let s : Bitboard = record { lo = 0; hi = suc y } in
    let f = word_first s 64 18 (suc y) (omega arith) (omega arith) (omega arith) hy (omega arith) (has_hi s) (none-low (suc y)) in
    ne_eqb (bit_or 0 (suc y)) 0 (λ e. let g = or_least 0 (suc y) in omega arith) ∙ sym (empty-some s (64 + count_trailing_zeros 64 (suc y)) (omega arith) (omega (arith, f.to)) f.passes)
clean-empty (suc x) y hx hy =
    let s : Bitboard = record { lo = suc x; hi = y } in
    let f = word_first s 1 63 (suc x) (omega arith) (omega arith) (omega arith) hx (omega arith) (has_lo s) (has-zero s) in
    ne_eqb (bit_or (suc x) y) 0 (λ e. let g = or_least (suc x) y in omega arith) ∙ sym (empty-some s (1 + count_trailing_zeros 64 (suc x)) (omega arith) (omega (arith, f.to)) f.passes)

pub empty_by_words : (s : Bitboard) → eqb (bit_or (bit_and s.lo 0x7fff_ffff_ffff_ffff) (bit_and s.hi 0x3_ffff)) 0 ≡ is_empty s
empty_by_words s = clean-empty _ _ (mask_lt s.lo 63) (mask_lt s.hi 18) ∙ empty_cong (cleaned s) s (has_masked s)
