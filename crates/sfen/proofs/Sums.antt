-- Sums over lists, over numbers and over the ranks of a board: rank by rank and file by file is every square once.
use Prim.Native.Nat.{ℕ, zero, suc, ◌+◌, ◌-◌, ◌*◌, ◌≤◌, ◌<◌}
use native.Mathlib.Omega.{arith}
use native.Mathlib.Nat.{mul-suc, mul-zero, add-zero, add-suc}
use mathlib.Core.Path.{◌≡◌, refl, sym, ap, ◌∙◌}
use mathlib.Core.Bool.{Bool}
use mathlib.Core.List.{List, [], ◌∷◌, ◌++◌}
use lib.Dec.{lit≤}
use lib.ListN.{length, get_or, length-append}
use Rattle.squares.specs.Bit.{digit}
use Rattle.squares.specs.Board.{square_at}
use Rattle.squares.specs.Sets.{count_of}
use Rattle.squares.proofs.Laws.{side_on, at_on}
use Rattle.position.specs.Machine.{tab, cell_at}
use Rattle.sfen.specs.Text.{down, rank_cells, ranks}
use Rattle.sfen.proofs.Boards.{concat, length-rank}

abbrev pub total : (ℕ → ℕ) → List ℕ → ℕ
total f [] = 0
total f (c ∷ cs) = f c + total f cs

-- g 0 + .. + g (n - 1)
unfoldable pub sum_to : ℕ → (ℕ → ℕ) → ℕ
sum_to zero g = 0
sum_to (suc n) g = sum_to n g + g n

pub total_append : (f : ℕ → ℕ) (a b : List ℕ) → total f (a ++ b) ≡ total f a + total f b
total_append f [] b = omega arith
total_append f (x ∷ a) b = omega (arith, total_append f a b)

pub sum_same : (n : ℕ) (g h : ℕ → ℕ) → ((k : ℕ) → k < n → g k ≡ h k) → sum_to n g ≡ sum_to n h
unfolding sum_to
sum_same zero g h e = refl
sum_same (suc n) g h e = omega (arith, sum_same n g h (λ k l. e k (omega arith)), e n (omega arith))

pub sum_less : (n : ℕ) (g h : ℕ → ℕ) → ((k : ℕ) → k < n → g k ≤ h k) → sum_to n g ≤ sum_to n h
unfolding sum_to
sum_less zero g h e = lit≤ tt
sum_less (suc n) g h e = omega (arith, sum_less n g h (λ k l. e k (omega arith)), e n (omega arith))

sum_first : (n : ℕ) (g : ℕ → ℕ) → sum_to (suc n) g ≡ g 0 + sum_to n (λ k. g (suc k))
unfolding sum_to
sum_first zero g = omega arith
sum_first (suc n) g = omega (arith, sum_first n g)

pub sum_both : (n : ℕ) (g h : ℕ → ℕ) → sum_to n (λ k. g k + h k) ≡ sum_to n g + sum_to n h
unfolding sum_to
sum_both zero g h = refl
sum_both (suc n) g h = omega (arith, sum_both n g h)

sum-none : (n : ℕ) → sum_to n (λ k. 0) ≡ 0
unfolding sum_to
sum-none zero = refl
sum-none (suc n) = omega (arith, sum-none n)

sum_more : (m n : ℕ) (g : ℕ → ℕ) → sum_to (m + n) g ≡ sum_to m g + sum_to n (λ k. g (m + k))
unfolding sum_to
sum_more m zero g = rw (add-zero m) (omega arith)
sum_more m (suc n) g = rw (add-suc m n) (omega (arith, sum_more m n g))

sum-square : (n m : ℕ) (g : ℕ → ℕ) → sum_to n (λ r. sum_to m (λ f. g (n * f + r))) ≡ sum_to (n * m) g
unfolding sum_to
sum-square n zero g = rw (mul-zero n) (sum-none n)
sum-square n (suc m) g = sum_both n (λ r. sum_to m (λ f. g (n * f + r))) (λ r. g (n * m + r)) ∙ rw (sum-square n m g, mul-suc n m) (sym (sum_more (n * m) n g))

-- ---- counts are sums
pub count_sums : (f : ℕ → Bool) (i k : ℕ) → count_of f i k ≡ sum_to k (λ j. digit (f (i + j)))
unfolding count_of sum_to
count_sums f i zero = refl
count_sums f i (suc k) =
    let rest : sum_to k (λ j. digit (f (suc i + j))) ≡ sum_to k (λ j. digit (f (i + suc j))) =
    sum_same k (λ j. digit (f (suc i + j))) (λ j. digit (f (i + suc j))) (λ j h. ap (λ (n : ℕ). digit (f n)) (omega arith)) in
    let z : digit (f i) ≡ digit (f (i + 0)) = ap (λ (n : ℕ). digit (f n)) (sym (add-zero i)) in
    omega (arith, count_sums f (suc i) k, rest, z, sum_first k (λ j. digit (f (i + j))))

-- ---- the ranks of a board
total_down : (f g : ℕ → ℕ) (n : ℕ) → total f (down g n) ≡ sum_to n (λ k. f (g (suc k)))
unfolding sum_to down
total_down f g zero = refl
total_down f g (suc n) = omega (arith, total_down f g n)

place : (w k j : ℕ) → k < w → j < w → square_at w (suc k) (suc j) - 1 ≡ w * k + j
place w k j hk hj =
    rw (at_on w (suc k) (suc j) (rw (side_on w (suc k) (omega arith) (omega arith), side_on w (suc j) (omega arith) (omega arith)))) (omega (arith, mul-suc w k))

abbrev rank_sum : (ℕ → ℕ) → ℕ → List ℕ → ℕ → ℕ
rank_sum f w cells j = sum_to w (λ q. f (get_or cells (w * q + j) 0))

total_rank : (f : ℕ → ℕ) (w : ℕ) (cells : List ℕ) (j : ℕ) → j < w → total f (rank_cells w cells (suc j)) ≡ rank_sum f w cells j
unfolding rank_cells
total_rank f w cells j h =
    total_down f (λ q. cell_at cells (square_at w q (suc j))) w
    ∙ sum_same w (λ k. f (cell_at cells (square_at w (suc k) (suc j)))) (λ q. f (get_or cells (w * q + j) 0)) (λ k l. ap (λ (i : ℕ). f (get_or cells i 0)) (place w k j l h))

total_from : (f : ℕ → ℕ) (w : ℕ) (cells : List ℕ) (r k : ℕ) → r + k ≤ w → total f (concat (tab (rank_cells w cells) (suc r) k)) ≡ sum_to k (λ j. rank_sum f w cells (r + j))
unfolding sum_to tab
total_from f w cells r zero h = refl
total_from f w cells r (suc k) h =
    let rest : sum_to k (λ j. rank_sum f w cells (suc r + j)) ≡ sum_to k (λ j. rank_sum f w cells (r + suc j)) =
    sum_same k (λ j. rank_sum f w cells (suc r + j)) (λ j. rank_sum f w cells (r + suc j)) (λ j l. ap (rank_sum f w cells) (omega arith)) in
    let z : rank_sum f w cells r ≡ rank_sum f w cells (r + 0) = ap (rank_sum f w cells) (sym (add-zero r)) in
    omega (
      arith,
      total_append f (rank_cells w cells (suc r)) (concat (tab (rank_cells w cells) (suc (suc r)) k)),
      total_rank f w cells r (omega arith),
      total_from f w cells (suc r) k (omega arith),
      rest,
      z,
      sum_first k (λ j. rank_sum f w cells (r + j)),
    )

pub total_cells : (f : ℕ → ℕ) (w : ℕ) (cells : List ℕ) → total f (concat (ranks w cells)) ≡ sum_to (w * w) (λ i. f (get_or cells i 0))
unfolding ranks
total_cells f w cells =
    total_from f w cells 0 w (omega arith)
    ∙ sum_same w (λ j. rank_sum f w cells (0 + j)) (rank_sum f w cells) (λ j l. ap (rank_sum f w cells) (omega arith))
    ∙ sum-square w w (λ i. f (get_or cells i 0))

pub length-tab : (f : ℕ → List ℕ) (i k : ℕ) → length (tab f i k) ≡ k
unfolding tab
length-tab f i zero = refl
length-tab f i (suc k) = ap suc (length-tab f (suc i) k)

pub length_from : (w : ℕ) (cells : List ℕ) (r k : ℕ) → length (concat (tab (rank_cells w cells) r k)) ≡ w * k
unfolding tab
length_from w cells r zero = sym (mul-zero w)
length_from w cells r (suc k) =
    omega (arith, length-append (rank_cells w cells r) (concat (tab (rank_cells w cells) (suc r) k)), length-rank w cells r, length_from w cells (suc r) k, mul-suc w k)
