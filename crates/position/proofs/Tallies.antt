-- How many of a kind stand on the board when a cell is stored, and how many are in the hands when one is taken or dropped.
use mathlib.Core.Path.{◌≡◌, refl, sym, ap, ◌∙◌}
use Prim.Native.Nat.{ℕ, ◌+◌, ◌-◌, ◌*◌, ◌≤◌, ◌<◌}
use mathlib.Core.List.{List}
use native.Mathlib.Omega.{arith}
use native.Mathlib.Decide.{ℕ_discrete}
use lib.ListN.{length, get_or, set}
use lib.Seq.{get_or-set_same, get_or-set_other}
use lib.Dec.{eqb}
use lib.Arith.{lt_of_le-ne}
use borrow.Author.Tests.{eq-eqb, ne_eqb}
use Rattle.squares.specs.Bit.{digit}
use Rattle.squares.specs.Kinds.{kind_row, kinds, hand_kind, kind_of}
use Rattle.squares.proofs.Laws.{count-change}
use Rattle.position.specs.Machine.{cell_at}
use Rattle.position.specs.Sound.{standing}
use Rattle.position.specs.Answers.{hand_at}
use Rattle.position.specs.Moves.{held, spent}
use Rattle.position.proofs.Stores.{cell_same, cell_other}
use Rattle.position.proofs.Pieces.{unkind}

-- the count of a kind when the cell of n becomes v
pub standing-store : (cells : List ℕ) (k n v : ℕ) → 1 ≤ n → n ≤ 81 → length cells ≡ 81
    → standing (set cells (n - 1) v) k + digit (eqb (unkind (cell_at cells n)) k) ≡ standing cells k + digit (eqb (unkind v) k)
unfolding standing
standing-store cells k n v lo hi size =
    rw (cell_same cells n v lo (omega arith))
    at (count-change (λ m. eqb (unkind (cell_at cells m)) k) (λ m. eqb (unkind (cell_at (set cells (n - 1) v) m)) k) 1 81 n lo (omega arith)
    (λ m a d. ap (λ (c : ℕ). eqb (unkind c) k) (cell_other cells n m v lo a d)))

-- an empty cell is of no kind
no_kind_lem : (j : ℕ) → digit (eqb 0 (j + 1)) ≡ 0
unfolding digit
no_kind_lem j = rw (ne_eqb 0 (j + 1) (λ z. omega arith))

pub empty-none : (j : ℕ) → digit (eqb (unkind 0) (j + 1)) ≡ 0
unfolding kind_row kinds kind_of
empty-none j = no_kind_lem j

-- ---- one more and one less in hand
inc_at : (l : List ℕ) (i j : ℕ) → i < length l → get_or (set l i (get_or l i 0 + 1)) j 0 ≡ get_or l j 0 + digit (eqb j i)
unfolding digit
inc_at l i j h = by (ℕ_discrete j i)
  where
    by : Dec (j ≡ i) → get_or (set l i (get_or l i 0 + 1)) j 0 ≡ get_or l j 0 + digit (eqb j i)
    by (yes z) = rw (z, eq-eqb i i refl) (get_or-set_same l i (get_or l i 0 + 1) 0 h)
    by (no d) = rw (ne_eqb j i d) (get_or-set_other l i j (get_or l i 0 + 1) 0 d ∙ omega arith)

dec_at : (l : List ℕ) (i j : ℕ) → i < length l → 1 ≤ get_or l i 0 → get_or (set l i (get_or l i 0 - 1)) j 0 + digit (eqb j i) ≡ get_or l j 0
unfolding digit
dec_at l i j h some = by (ℕ_discrete j i)
  where
    by : Dec (j ≡ i) → get_or (set l i (get_or l i 0 - 1)) j 0 + digit (eqb j i) ≡ get_or l j 0
    by (yes z) = rw (z, eq-eqb i i refl, get_or-set_same l i (get_or l i 0 - 1) 0 h) (omega arith)
    by (no d) = rw (ne_eqb j i d, get_or-set_other l i j (get_or l i 0 - 1) 0 d) (omega arith)

-- ---- a kind's place in the hands is Black's or White's
white : (side : ℕ) → 1 ≤ side → side ≤ 2 → (side ≡ 1 → ⊥) → side ≡ 2
white side l h d = let q : 1 < side = lt_of_le-ne l (λ z. d (sym z)) in omega arith

module _ (side t : ℕ) (ls : 1 ≤ side) (hs : side ≤ 2) (lt : 1 ≤ t) (ht : t ≤ 7) where
  pub hand_in : hand_at side t < 14
  unfolding hand_at
  hand_in = omega arith

  one_hand : (j : ℕ) → j < 7 → digit (eqb j (hand_at side t)) + digit (eqb (j + 7) (hand_at side t)) ≡ digit (eqb t (j + 1))
  unfolding hand_at digit
  one_hand j small = by (ℕ_discrete side 1) (ℕ_discrete t (j + 1))
    where
      by : Dec (side ≡ 1) → Dec (t ≡ j + 1)
          → digit (eqb j ((side - 1) * 7 + (t - 1))) + digit (eqb (j + 7) ((side - 1) * 7 + (t - 1))) ≡ digit (eqb t (j + 1))
      by (yes s) (yes e) =
          rw (eq-eqb t (j + 1) e, eq-eqb j ((side - 1) * 7 + (t - 1)) (omega arith), ne_eqb (j + 7) ((side - 1) * 7 + (t - 1)) (λ z. omega arith))
      by (yes s) (no e) =
          rw (ne_eqb t (j + 1) e, ne_eqb j ((side - 1) * 7 + (t - 1)) (λ z. e (omega arith)), ne_eqb (j + 7) ((side - 1) * 7 + (t - 1)) (λ z. omega arith))
      by (no s) (yes e) =
          let w : side ≡ 2 = white side ls hs s in
          rw (eq-eqb t (j + 1) e, ne_eqb j ((side - 1) * 7 + (t - 1)) (λ z. omega arith), eq-eqb (j + 7) ((side - 1) * 7 + (t - 1)) (omega arith))
      by (no s) (no e) =
          let w : side ≡ 2 = white side ls hs s in
          rw (ne_eqb t (j + 1) e, ne_eqb j ((side - 1) * 7 + (t - 1)) (λ z. omega arith), ne_eqb (j + 7) ((side - 1) * 7 + (t - 1)) (λ z. e (omega arith)))

-- ---- both hands together, when t is taken and when a piece is dropped
pub held-sum : (side t : ℕ) (hands : List ℕ) (j : ℕ) → 1 ≤ side → side ≤ 2 → length hands ≡ 14 → j < 7
    → hand_kind (kind_of t) ≡ unkind t → hand_kind (kind_of t) ≤ 7
    → get_or (held side t hands) j 0 + get_or (held side t hands) (j + 7) 0 ≡ (get_or hands j 0 + get_or hands (j + 7) 0) + digit (eqb (unkind t) (j + 1))
unfolding held
held-sum side t hands j ls hs size small same high = rw (← same) (by (ℕ_discrete (hand_kind (kind_of t)) 0))
  where
    by : Dec (hand_kind (kind_of t) ≡ 0) → get_or (held side t hands) j 0 + get_or (held side t hands) (j + 7) 0
        ≡ (get_or hands j 0 + get_or hands (j + 7) 0) + digit (eqb (hand_kind (kind_of t)) (j + 1))
    by (yes e) = rw (e, no_kind_lem j) (omega arith)
    by (no d) =
        let l : 1 ≤ hand_kind (kind_of t) = lt_of_le-ne {i = 0} (omega arith) (λ z. d (sym z)) in
        let i = hand_in side (hand_kind (kind_of t)) ls hs l high in
        rw (
          ne_eqb (hand_kind (kind_of t)) 0 d,
          inc_at hands (hand_at side (hand_kind (kind_of t))) j (omega arith),
          inc_at hands (hand_at side (hand_kind (kind_of t))) (j + 7) (omega arith),
        )
        (omega (arith, one_hand side (hand_kind (kind_of t)) ls hs l high j small))

pub spent-sum : (side piece : ℕ) (hands : List ℕ) (j : ℕ) → 1 ≤ side → side ≤ 2 → length hands ≡ 14 → j < 7
    → 1 ≤ kind_of piece → kind_of piece ≤ 7 → 1 ≤ get_or hands (hand_at side (kind_of piece)) 0
    → (get_or (spent side piece hands) j 0 + get_or (spent side piece hands) (j + 7) 0) + digit (eqb (kind_of piece) (j + 1)) ≡ get_or hands j 0 + get_or hands (j + 7) 0
unfolding spent
spent-sum side piece hands j ls hs size small lk hk some =
    let i = hand_in side (kind_of piece) ls hs lk hk in
    omega (
      arith,
      dec_at hands (hand_at side (kind_of piece)) j (omega arith) some,
      dec_at hands (hand_at side (kind_of piece)) (j + 7) (omega arith) some,
      one_hand side (kind_of piece) ls hs lk hk j small,
    )
