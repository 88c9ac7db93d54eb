-- The search in reading order, as two loops make it: at a rank, with so many files passed from file 9.
use mathlib.Core.Path.{◌≡◌, refl, ap, ◌∙◌}
use Prim.Native.Nat.{ℕ, zero, suc, ◌+◌, ◌-◌, ◌*◌, ◌/◌, ◌%◌, ◌≤◌, ◌<◌}
use mathlib.Core.Bool.{Bool, true, false, cond}
use native.Mathlib.Omega.{arith}
use native.Mathlib.Numerals.{add-one}
use native.Mathlib.Nat.{add-zero, add-suc, suc-add, le_of_suc-le-suc}
use Rattle.squares.proofs.Laws.{at_on, side_on}
use Rattle.position.specs.Sound.{reading_at, first_reading}

reading_sum : (j : ℕ) → j < 81 → reading_at j ≡ 9 * (9 - j % 9) - 9 + (j / 9 + 1)
unfolding reading_at
reading_sum j h =
    at_on 9 (9 - j % 9) (j / 9 + 1) (rw (side_on 9 (9 - j % 9) (omega arith) (omega arith), side_on 9 (j / 9 + 1) (omega arith) (omega arith)))

pub reading_range : (j : ℕ) → j < 81 → (1 ≤ reading_at j) × (reading_at j ≤ 81)
reading_range j h = rw (reading_sum j h) (omega arith)

-- every square is read
pub reading_all : (n : ℕ) → 1 ≤ n → n ≤ 81 → reading_at ((n - 1) % 9 * 9 + (8 - (n - 1) / 9)) ≡ n
reading_all n lo hi =
    let d : (n - 1) / 9 ≤ 8 = omega arith in
    let m : ((n - 1) % 9 * 9 + (8 - (n - 1) / 9)) % 9 ≡ 8 - (n - 1) / 9 = omega arith in
    let q : ((n - 1) % 9 * 9 + (8 - (n - 1) / 9)) / 9 ≡ (n - 1) % 9 = omega arith in
    reading_sum ((n - 1) % 9 * 9 + (8 - (n - 1) / 9)) (omega arith) ∙ rw (m, q) (omega arith)

module _ (f : ℕ → Bool) where
  first_step : (j : ℕ) → j < 81 → first_reading f j (81 - j) ≡ cond (f (reading_at j)) (reading_at j) (first_reading f (j + 1) (81 - (j + 1)))
  unfolding first_reading
  first_step j h =
      let e : 81 - j ≡ suc (81 - (j + 1)) = omega arith in
      rw (e, add-one)

  -- what is left to search: of a rank the files from this one down, and all later ranks
  unfoldable pub left : ℕ → ℕ → ℕ
  left rank file = first_reading f ((rank - 1) * 9 + (9 - file)) (81 - ((rank - 1) * 9 + (9 - file)))

  pub left_all : left 1 9 ≡ first_reading f 0 81
  unfolding left
  left_all = refl

  pub left_none : left 10 9 ≡ 0
  unfolding left first_reading
  left_none = refl

  pub left_line : (rank : ℕ) → 1 ≤ rank → left rank 0 ≡ left (rank + 1) 9
  unfolding left
  left_line rank h = ap (λ (j : ℕ). first_reading f j (81 - j)) (omega arith)

  module _ (rank file : ℕ) (lo : 1 ≤ rank) (hi : rank ≤ 9) (some : 1 ≤ file) (small : file ≤ 9) where
    at : reading_at ((rank - 1) * 9 + (9 - file)) ≡ 9 * file - 9 + rank
    at =
        let m : ((rank - 1) * 9 + (9 - file)) % 9 ≡ 9 - file = omega arith in
        let d : ((rank - 1) * 9 + (9 - file)) / 9 ≡ rank - 1 = omega arith in
        reading_sum ((rank - 1) * 9 + (9 - file)) (omega arith) ∙ rw (m, d) (omega arith)

    pub left_here : f (9 * file - 9 + rank) ≡ true → left rank file ≡ 9 * file - 9 + rank
    unfolding left
    left_here e = first_step ((rank - 1) * 9 + (9 - file)) (omega arith) ∙ rw (at, e)

    pub left_next : f (9 * file - 9 + rank) ≡ false → left rank file ≡ left rank (file - 1)
    unfolding left
    left_next e = first_step ((rank - 1) * 9 + (9 - file)) (omega arith) ∙ rw (at, e) (ap (λ (j : ℕ). first_reading f j (81 - j)) (omega arith))

  -- ---- a search that finds nothing, and one that has nothing to find
  pub first_none : (j k : ℕ) → j + k ≤ 81 → first_reading f j k ≡ 0 → (i : ℕ) → i < k → f (reading_at (j + i)) ≡ false
  unfolding first_reading
  first_none j zero b h i l = absurd (omega arith)
  first_none j (suc k) b h i l = by (f (reading_at j)) refl h i l (λ r i m. first_none (suc j) k (omega arith) r i m)
    where
      by : (t : Bool) → f (reading_at j) ≡ t → cond t (reading_at j) (first_reading f (suc j) k) ≡ 0 → (i : ℕ) → i < suc k
          → (first_reading f (suc j) k ≡ 0 → (i : ℕ) → i < k → f (reading_at (suc j + i)) ≡ false) → f (reading_at (j + i)) ≡ false
      by true e h i l r = let q = reading_range j (omega arith) in absurd (omega arith)
      by false e h zero l r = rw add-zero e
      by false e h (suc i) l r = rw add-suc (rw suc-add at (r h i (le_of_suc-le-suc l)))

  pub first_all : (j k : ℕ) → ((n : ℕ) → j ≤ n → n < j + k → f (reading_at n) ≡ false) → first_reading f j k ≡ 0
  unfolding first_reading
  first_all j zero h = refl
  first_all j (suc k) h = rw (h j (omega arith) (omega arith)) (first_all (suc j) k (λ n a b. h n (omega arith) (omega arith)))
