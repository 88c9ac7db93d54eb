-- The square of a king: what a right one says, what it is when a cell is stored, and after a whole move.
use mathlib.Core.Path.{◌≡◌, refl, sym, ap, ◌∙◌}
use mathlib.Core.Logic.{◌⊎◌, inl, inr, ⊎_elim}
use Prim.Native.Nat.{ℕ, zero, suc, ◌+◌, ◌-◌, ◌≤◌, ◌<◌}
use mathlib.Core.Bool.{Bool, true, false, ◌||◌, not, beq, cond}
use mathlib.Core.List.{List}
use native.Mathlib.Omega.{arith}
use native.Mathlib.Decide.{ℕ_discrete}
use lib.ListN.{length, set, length-set}
use lib.Dec.{eqb, ltb}
use lib.Arith.{lt_of_le-ne}
use borrow.Author.Tests.{eqb-true, eq-eqb, ne_eqb, ltb-false, le-ltb}
use Rattle.squares.specs.Sets.{first_of}
use Rattle.position.specs.Machine.{cell_at, king_square}
use Rattle.position.specs.Sound.{king_wrong}
use Rattle.position.specs.Plans.{king_after}
use Rattle.position.proofs.Stores.{cell_same, cell_other}
use Rattle.position.proofs.Agree.{or_false_both, any_each, any_all, beq_false, beq_same}

-- ---- the king `king` stands on q and nowhere else; on no square where q is 0
pub record KingIs (cells : List ℕ) (king q : ℕ) : Type 0 where
  pub high : q ≤ 81
  pub only : (n : ℕ) → 1 ≤ n → n ≤ 81 → eqb (cell_at cells n) king ≡ eqb q n

pub king_is : (cells : List ℕ) (king q : ℕ) → king_wrong cells king q ≡ false → KingIs cells king q
unfolding king_wrong
king_is cells king q h =
    let o = or_false_both (ltb 81 q) _ h in
    record {
      high = ltb-false 81 q o.0;
      only = λ n lo hi.
          let x : (n - 1) + 1 ≡ n = omega arith in
          rw x at (beq_false (eqb (cell_at cells (n - 1 + 1)) king) (eqb q (n - 1 + 1)) (any_each (λ j. not (beq (eqb (cell_at cells (j + 1)) king) (eqb q (j + 1)))) 81 (n - 1) o.1 (omega arith)));
    }

pub king_right : (cells : List ℕ) (king q : ℕ) → KingIs cells king q → king_wrong cells king q ≡ false
unfolding king_wrong
king_right cells king q k =
    rw (le-ltb 81 q k.high)
    (any_all (λ j. not (beq (eqb (cell_at cells (j + 1)) king) (eqb q (j + 1)))) 81 (λ j small. rw (k.only (j + 1) (omega arith) (omega arith)) (beq_same (eqb q (j + 1)))))

-- so it is the first such square
first_is : (f : ℕ → Bool) (q s k : ℕ) → ((n : ℕ) → s ≤ n → n < s + k → f n ≡ eqb q n) → (q < s → q ≡ 0) → q < s + k → first_of f s k ≡ q
unfolding first_of
first_is f q s zero h low high = sym (low (omega arith))
first_is f q s (suc k) h low high =
    by (ℕ_discrete q s) (h s (omega arith) (omega arith)) (λ d. first_is f q (suc s) k (λ n a b. h n (omega arith) (omega arith)) d (omega arith))
  where
    by : Dec (q ≡ s) → f s ≡ eqb q s → ((q < suc s → q ≡ 0) → first_of f (suc s) k ≡ q) → cond (f s) s (first_of f (suc s) k) ≡ q
    by (yes e) g r = rw (g, eq-eqb q s e) (sym e)
    by (no d) g r = rw (g, ne_eqb q s d) (r (λ l. low (lt_of_le-ne (omega arith) d)))

pub king_square_lem : (cells : List ℕ) (king q : ℕ) → KingIs cells king q → king_square cells king ≡ q
unfolding king_square
king_square_lem cells king q k =
    first_is (λ n. eqb (cell_at cells n) king) q 1 81 (λ n a b. k.only n a (omega arith)) (λ l. omega arith) (omega (arith, k.high))

-- ---- the cell of n becomes v: a king that is put there stood there before, or nowhere
module _ (cells : List ℕ) (king q n v : ℕ) (size : length cells ≡ 81) (lo : 1 ≤ n) (hi : n ≤ 81) (k : KingIs cells king q)
    (alone : v ≡ king → (q ≡ 0) ⊎ (q ≡ n)) where
  abbrev cells' : List ℕ
  cells' = set cells (n - 1) v

  same : cell_at cells' n ≡ v
  same = cell_same cells n v lo (omega arith)

  other : (m : ℕ) → 1 ≤ m → m ≤ 81 → (m ≡ n → ⊥) → eqb (cell_at cells' m) king ≡ eqb q m
  other m a b d = ap (λ (c : ℕ). eqb c king) (cell_other cells n m v lo a d) ∙ k.only m a b

  away : (m : ℕ) → 1 ≤ m → (m ≡ n → ⊥) → (q ≡ 0) ⊎ (q ≡ n) → eqb q m ≡ false
  away m a d = ⊎_elim (λ e. ne_eqb q m (λ z. omega arith)) (λ e. ne_eqb q m (λ z. d (sym z ∙ e)))

  pub king_store : KingIs cells' king (cond (eqb v king) n (cond (eqb (cell_at cells n) king) 0 q))
  king_store = by (ℕ_discrete v king) (ℕ_discrete (cell_at cells n) king)
    where
      by : Dec (v ≡ king) → Dec (cell_at cells n ≡ king) → KingIs cells' king (cond (eqb v king) n (cond (eqb (cell_at cells n) king) 0 q))
      by (yes e) w = rw (eq-eqb v king e) (record { high = hi; only = λ m a b. at m a b (ℕ_discrete m n) })
        where
          at : (m : ℕ) → 1 ≤ m → m ≤ 81 → Dec (m ≡ n) → eqb (cell_at cells' m) king ≡ eqb n m
          at m a b (yes z) = rw (z, same, eq-eqb v king e, eq-eqb n n refl)
          at m a b (no d) = other m a b d ∙ away m a d (alone e) ∙ sym (ne_eqb n m (λ z. d (sym z)))
      by (no d) (yes e) = rw (ne_eqb v king d, eq-eqb (cell_at cells n) king e) (record { high = omega arith; only = λ m a b. at m a b (ℕ_discrete m n) })
        where
          at : (m : ℕ) → 1 ≤ m → m ≤ 81 → Dec (m ≡ n) → eqb (cell_at cells' m) king ≡ eqb 0 m
          at m a b (yes z) = rw (ne_eqb 0 m (λ x. omega arith), z, same, ne_eqb v king d)
          at m a b (no x) =
              other m a b x ∙ away m a x (inr (eqb-true q n (sym (k.only n lo hi) ∙ eq-eqb (cell_at cells n) king e))) ∙ sym (ne_eqb 0 m (λ y. omega arith))
      by (no d) (no e) = rw (ne_eqb v king d, ne_eqb (cell_at cells n) king e) (record { high = k.high; only = λ m a b. at m a b (ℕ_discrete m n) })
        where
          at : (m : ℕ) → 1 ≤ m → m ≤ 81 → Dec (m ≡ n) → eqb (cell_at cells' m) king ≡ eqb q m
          at m a b (yes z) = rw (z, same, ne_eqb v king d) (sym (ne_eqb (cell_at cells n) king e) ∙ k.only n lo hi)
          at m a b (no x) = other m a b x

-- from is emptied and v is put on to: a king only where it left from
pub king_moves : (cells : List ℕ) (king q from to v : ℕ) → length cells ≡ 81 → (king ≡ 0 → ⊥) → 1 ≤ from → from ≤ 81 → 1 ≤ to → to ≤ 81
    → KingIs cells king q → (v ≡ king → cell_at cells from ≡ king)
    → KingIs (set (set cells (from - 1) 0) (to - 1) v) king (king_after king q (cell_at cells from) (cell_at (set cells (from - 1) 0) to) v to)
unfolding king_after
king_moves cells king q from to v size some lf hf lt ht k was =
    let first = rw (ne_eqb 0 king (λ z. some (sym z))) at (king_store cells king q from 0 size lf hf k (λ z. absurd (some (sym z)))) in
    let second = king_store (set cells (from - 1) 0) king (cond (eqb (cell_at cells from) king) 0 q) to v (length-set cells (from - 1) 0 ∙ size) lt ht first
    (λ e. inl (rw (eq-eqb (cell_at cells from) king (was e)))) in
    rw (joined (eqb v king) (eqb (cell_at cells from) king) (eqb (cell_at (set cells (from - 1) 0) to) king)) second
  where
    joined : (x y z : Bool) → cond x to (cond (y || z) 0 q) ≡ cond x to (cond z 0 (cond y 0 q))
    joined true y z = refl
    joined false true true = refl
    joined false true false = refl
    joined false false z = refl
