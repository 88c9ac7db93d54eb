-- The sets of the cells when one cell is stored: whatever the cell was and becomes.
use mathlib.Core.Path.{◌≡◌, refl, sym, ap, ap₂, ◌∙◌}
use mathlib.Core.Logic.{◌⊎◌, ⊎_elim}
use Prim.Native.Nat.{ℕ, zero, suc, ◌+◌, ◌-◌, ◌≤◌, ◌<◌}
use mathlib.Core.Bool.{Bool, true, false, not, ◌&&◌, beq, and-true, and-false}
use mathlib.Core.List.{List}
use native.Mathlib.Omega.{arith}
use native.Mathlib.Decide.{ℕ_discrete}
use lib.ListN.{length, get_or, set, length-set}
use lib.Seq.{get_or-set_same, get_or-set_other, set_out}
use lib.Dec.{eqb}
use borrow.Author.Tests.{eq-eqb, ne_eqb}
use Rattle.squares.specs.declared.bitboard.Bitboard.{Bitboard}
use Rattle.squares.specs.Sets.{set_of, empty_s, single_s, xor_s}
use Rattle.squares.proofs.Laws.{eqb_same, le-or-lt, set_of_cong, single_rule, xor_rules, board_range}
use Rattle.position.specs.Machine.{tab, cell_at, family}
use Rattle.position.specs.Plans.{toggled}
use Rattle.squares.proofs.Laws.{length-tab, get_d_tab, get_d_any, set-tab, tab-same}

-- ---- a cell that is stored, and the others
pub cell_same : (cells : List ℕ) (n v : ℕ) → 1 ≤ n → n ≤ length cells → cell_at (set cells (n - 1) v) n ≡ v
cell_same cells n v lo hi = get_or-set_same cells (n - 1) v 0 (omega arith)

pub cell_other : (cells : List ℕ) (n m v : ℕ) → 1 ≤ n → 1 ≤ m → (m ≡ n → ⊥) → cell_at (set cells (n - 1) v) m ≡ cell_at cells m
cell_other cells n m v ln lm d = get_or-set_other cells (n - 1) (m - 1) v 0 (λ z. d (omega arith))

-- ---- a list of sets, each given by a rule
abbrev ruled : (ℕ → ℕ → Bool) → ℕ → List Bitboard
ruled f count = tab (λ j. set_of (f j)) 1 count

-- one set of it toggled at n
toggle_ruled : (f : ℕ → ℕ → Bool) (count k n : ℕ)
    → toggled (ruled f count) k (single_s n) ≡ ruled (λ j m. not (beq (f j m) (eqb j k && eqb n m))) count
unfolding toggled
toggle_ruled f count k n = go (ℕ_discrete k 0) (le-or-lt k count)
  where
    g : ℕ → ℕ → Bool
    g j m = not (beq (f j m) (eqb j k && eqb n m))

    keeps : (t : Bool) → t ≡ not (beq t false)
    keeps true = refl
    keeps false = refl

    other : (j : ℕ) → (j ≡ k → ⊥) → set_of (f j) ≡ set_of (g j)
    other j d = set_of_cong (f j) (g j) (λ m o. keeps (f j m) ∙ ap (λ (t : Bool). not (beq (f j m) (t && eqb n m))) (sym (ne_eqb j k d)))

    same : set_of (λ m. not (beq (f k m) (eqb n m))) ≡ set_of (g k)
    same = set_of_cong (λ m. not (beq (f k m) (eqb n m))) (g k) (λ m o. ap (λ (t : Bool). not (beq (f k m) (t && eqb n m))) (sym (eq-eqb k k refl)))

    stored : 1 ≤ k → k ≤ count → xor_s (get_or (ruled f count) (k - 1) empty_s) (single_s n) ≡ set_of (g k)
    stored l h =
        let z : 1 + (k - 1) ≡ k = omega arith in
        ap₂ xor_s (get_d_tab (λ j. set_of (f j)) 1 count (k - 1) empty_s (omega arith) ∙ ap (λ (j : ℕ). set_of (f j)) z) (single_rule n)
        ∙ xor_rules (f k) (eqb n) ∙ same

    go : Dec (k ≡ 0) → (k ≤ count) ⊎ (count < k) → toggled (ruled f count) k (single_s n) ≡ ruled g count
    go (yes e) w =
        rw (eq-eqb k 0 e) (tab-same (λ j. set_of (f j)) (λ j. set_of (g j)) count (λ j a b. other j (λ q. omega arith)))
    go (no d) w =
        rw (ne_eqb k 0 d)
        (⊎_elim
        (λ (h : k ≤ count). set-tab (λ j. set_of (f j)) (λ j. set_of (g j)) count k _ (pos k d) h (stored (pos k d) h) (λ j a b q. other j q))
        (λ (h : count < k).
        set_out (ruled f count) (k - 1) _ (omega (arith, length-tab (λ j. set_of (f j)) 1 count))
        ∙ tab-same (λ j. set_of (f j)) (λ j. set_of (g j)) count (λ j a b. other j (λ q. omega arith))) w)
      where
        pos : (i : ℕ) → (i ≡ 0 → ⊥) → 1 ≤ i
        pos zero q = absurd (q refl)
        pos (suc i) q = omega arith

-- ---- the sets of the cells
module _ (mark : ℕ → ℕ) (count : ℕ) (cells : List ℕ) where
  -- the cell of n becomes v: n leaves the set of the old mark and joins that of the new
  module _ (n v : ℕ) (lo : 1 ≤ n) (hi : n ≤ length cells) where
    abbrev was : ℕ
    was = mark (cell_at cells n)

    abbrev flips : Bool → Bool → Bool
    flips a b = not (beq a b)

    twice : (a b : Bool) → flips (flips a a) b ≡ b
    twice true true = refl
    twice true false = refl
    twice false true = refl
    twice false false = refl

    none : (a : Bool) → flips (flips a false) false ≡ a
    none true = refl
    none false = refl

    swapped : (a b : ℕ) → eqb a b ≡ eqb b a
    swapped a b = eqb_same a b b a sym sym

    here : (j m : ℕ) → 1 ≤ m → Dec (m ≡ n)
        → flips (flips (eqb (mark (cell_at cells m)) j) (eqb j was && eqb n m)) (eqb j (mark v) && eqb n m) ≡ eqb (mark (cell_at (set cells (n - 1) v) m)) j
    here j m lm (yes e) =
        rw (e, eq-eqb n n refl, and-true (eqb j was), and-true (eqb j (mark v)), cell_same cells n v lo hi, swapped j was, swapped j (mark v)) (twice (eqb was j) (eqb (mark v) j))
    here j m lm (no d) =
        rw (ne_eqb n m (λ z. d (sym z)), and-false (eqb j was), and-false (eqb j (mark v)), cell_other cells n m v lo lm d) (none (eqb (mark (cell_at cells m)) j))

    pub store-family : toggled (toggled (family mark count cells) was (single_s n)) (mark v) (single_s n) ≡ family mark count (set cells (n - 1) v)
    unfolding family
    store-family =
        ap (λ (s : List Bitboard). toggled s (mark v) (single_s n)) (toggle_ruled (λ j m. eqb (mark (cell_at cells m)) j) count was n)
        ∙ toggle_ruled (λ j m. flips (eqb (mark (cell_at cells m)) j) (eqb j was && eqb n m)) count (mark v) n
        ∙ tab-same (λ j. set_of (λ m. flips (flips (eqb (mark (cell_at cells m)) j) (eqb j was && eqb n m)) (eqb j (mark v) && eqb n m)))
        (λ j. set_of (λ m. eqb (mark (cell_at (set cells (n - 1) v) m)) j)) count
        (λ j a b. set_of_cong (λ m. flips (flips (eqb (mark (cell_at cells m)) j) (eqb j was && eqb n m)) (eqb j (mark v) && eqb n m))
        (λ m. eqb (mark (cell_at (set cells (n - 1) v) m)) j) (λ m o. here j m (board_range 9 m o).0 (ℕ_discrete m n)))

-- ---- as the code toggles: a mark that has a set, and marks that have none
module _ (sets : List Bitboard) (k : ℕ) (one : Bitboard) where
  pub toggle_in : (d r : Bitboard) → 1 ≤ k → k ≤ length sets → r ≡ xor_s (get_or sets (k - 1) d) one → set sets (k - 1) r ≡ toggled sets k one
  unfolding toggled
  toggle_in d r l h e = rw (ne_eqb k 0 (λ z. omega arith), e, get_d_any sets (k - 1) d empty_s (omega arith))

  pub toggle-low : k < 1 → sets ≡ toggled sets k one
  unfolding toggled
  toggle-low h = rw (eq-eqb k 0 (omega arith))

  pub toggle-high : length sets < k → sets ≡ toggled sets k one
  unfolding toggled
  toggle-high h = rw (ne_eqb k 0 (λ z. omega arith)) (sym (set_out sets (k - 1) _ (omega arith)))

-- an empty cell's mark toggles nothing
toggle-none : (sets : List Bitboard) (one : Bitboard) → toggled sets 0 one ≡ sets
unfolding toggled
toggle-none sets one = refl

-- the sets of the marks after from, which held c, and to, which held t, were emptied and v was put on to
unfoldable pub sets_after : (ℕ → ℕ) → List Bitboard → ℕ → ℕ → ℕ → Bitboard → Bitboard → List Bitboard
sets_after mark sets c t v from to = toggled (toggled (toggled sets (mark c) from) (mark t) to) (mark v) to

-- a whole move: from is emptied, and v is put on to
pub move_family : (mark : ℕ → ℕ) → mark 0 ≡ 0 → (count : ℕ) (cells : List ℕ) (from to v : ℕ)
    → 1 ≤ from → from ≤ length cells → 1 ≤ to → to ≤ length cells
    → sets_after mark (family mark count cells) (cell_at cells from) (cell_at (set cells (from - 1) 0) to) v (single_s from) (single_s to)
    ≡ family mark count (set (set cells (from - 1) 0) (to - 1) v)
unfolding sets_after
move_family mark zero-mark count cells from to v lf hf lt ht =
    let one : toggled (family mark count cells) (mark (cell_at cells from)) (single_s from) ≡ family mark count (set cells (from - 1) 0) =
    sym (toggle-none _ (single_s from)) ∙ ap (λ (k : ℕ). toggled (toggled (family mark count cells) (mark (cell_at cells from)) (single_s from)) k (single_s from)) (sym zero-mark)
    ∙ store-family mark count cells from 0 lf hf in
    rw one (store-family mark count (set cells (from - 1) 0) to v lt (omega (arith, length-set cells (from - 1) 0)))
