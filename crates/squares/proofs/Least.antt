-- The smallest square of a set, and the count without one of its squares.
use Rattle.std.proofs.Common.{◌≡◌, ℕ, zero, suc, ◌+◌, ◌<◌, ◌≤◌, Bool, true, false, cond, not, ◌&&◌, eqb, ◌⊎◌, sym, refl, ap, ◌∙◌, subst, inl, inr, ⊎_elim, true≢false, arith, eq-eqb, ne_eqb}
use mathlib.Core.Bool.{and-true, and_assoc}
use native.Mathlib.Decide.{ℕ_discrete}
use lib.Arith.{lt_of_le-ne}
use borrow.Author.Tests.{not-false}
use Rattle.squares.specs.Bit.{digit}
use Rattle.squares.specs.Board.{on_board}
use Rattle.squares.specs.Sets.{has, set_of, count_of, size, is_empty, first_of, smallest, without_s}
use Rattle.squares.specs.Answers.{PopValue, pop_answer}
use Rattle.squares.specs.declared.bitboard.Bitboard.{Bitboard}
use Rattle.squares.proofs.Steps.{board_range, decided}
use Rattle.squares.proofs.Members.{has-set_of, has_off, has_on, le-or-lt}
use Rattle.squares.proofs.Counts.{count_same}

-- ---- the first number that passes a test
pub record First (f : ℕ → Bool) (i k n : ℕ) : Type 0 where
  pub from : i ≤ n
  pub to : n < i + k
  pub passes : f n ≡ true
  pub least : (m : ℕ) → i ≤ m → m < n → f m ≡ false

first_of_lem : (f : ℕ → Bool) (i k : ℕ) → 1 ≤ i → (First f i k (first_of f i k)) ⊎ ((first_of f i k ≡ 0) × ((m : ℕ) → i ≤ m → m < i + k → f m ≡ false))
unfolding first_of
first_of_lem f i zero h = inr (refl, λ m l u. absurd (omega arith))
first_of_lem f i (suc k) h = go (f i) refl (first_of_lem f (suc i) k (omega arith))
  where
    below : f i ≡ false → {n : ℕ} → ((m : ℕ) → suc i ≤ m → m < n → f m ≡ false) → (m : ℕ) → i ≤ m → m < n → f m ≡ false
    below e g m l u = same (ℕ_discrete i m)
      where
        same : Dec (i ≡ m) → f m ≡ false
        same (yes q) = ap f (sym q) ∙ e
        same (no q) = g m (lt_of_le-ne l q) u

    go : (t : Bool) → f i ≡ t → (First f (suc i) k (first_of f (suc i) k)) ⊎ ((first_of f (suc i) k ≡ 0) × ((m : ℕ) → suc i ≤ m → m < suc i + k → f m ≡ false))
        → (First f i (suc k) (cond t i (first_of f (suc i) k))) ⊎ ((cond t i (first_of f (suc i) k) ≡ 0) × ((m : ℕ) → i ≤ m → m < i + suc k → f m ≡ false))
    go true e r = inl (record { from = omega arith; to = omega arith; passes = e; least = λ m l u. absurd (omega arith) })
    go false e (inl r) = inl (record { from = omega (arith, r.from); to = omega (arith, r.to); passes = r.passes; least = below e r.least })
    go false e (inr r) = inr (r.0, λ m l u. below e {n = i + suc k} (λ j a b. r.1 j a (omega arith)) m l u)

-- a first one is the only first one
first_unique : (f : ℕ → Bool) (i k m n : ℕ) → First f i k m → First f i k n → m ≡ n
first_unique f i k m n p q =
    ⊎_elim (λ (l : m ≤ n). ⊎_elim (λ (h : n ≤ m). omega arith) (λ (h : m < n). absurd (true≢false (sym p.passes ∙ q.least m p.from h))) (le-or-lt n m))
    (λ (h : n < m). absurd (true≢false (sym q.passes ∙ p.least n q.from h)))
    (le-or-lt m n)

-- ---- the smallest square
pub smallest_is : (s : Bitboard) → (First (has s) 1 81 (smallest s)) ⊎ ((smallest s ≡ 0) × ((m : ℕ) → has s m ≡ false))
unfolding smallest
smallest_is s = ⊎_elim (λ r. inl r) (λ r. inr (r.0, none r.1)) (first_of_lem (has s) 1 81 (omega arith))
  where
    none : ((m : ℕ) → 1 ≤ m → m < 1 + 81 → has s m ≡ false) → (m : ℕ) → has s m ≡ false
    none g m = ⊎_elim (λ (o : on_board 9 m ≡ true). let b = board_range 9 m o in g m b.0 (omega arith)) (has_off s m) (decided (on_board 9 m))

pub smallest_at : (s : Bitboard) (n : ℕ) → First (has s) 1 81 n → smallest s ≡ n
smallest_at s n p =
    ⊎_elim (λ q. first_unique (has s) 1 81 (smallest s) n q p) (λ z. absurd (true≢false (sym p.passes ∙ z.1 n))) (smallest_is s)

pub smallest-none : (s : Bitboard) → ((m : ℕ) → has s m ≡ false) → smallest s ≡ 0
smallest-none s z = ⊎_elim (λ q. absurd (true≢false (sym q.passes ∙ z (smallest s)))) (λ q. q.0) (smallest_is s)

-- ---- the count without one that passed
count_without : (f : ℕ → Bool) (i k n : ℕ) → i ≤ n → n < i + k → f n ≡ true → count_of (λ m. f m && not (eqb m n)) i k + 1 ≡ count_of f i k
unfolding count_of digit
count_without f i zero n l u p = absurd (omega arith)
count_without f i (suc k) n l u p = go (ℕ_discrete i n) (λ h. count_without f (suc i) k n h (omega arith) p)
  where
    same : i ≡ n → count_of (λ m. f m && not (eqb m n)) (suc i) k ≡ count_of f (suc i) k
    same e =
        count_same (λ m. f m && not (eqb m n)) f (suc i) (suc i) k
        (λ j h. ap (λ (t : Bool). f (suc i + j) && not t) (ne_eqb (suc i + j) n (λ q. omega arith)) ∙ and-true (f (suc i + j)))

    go : Dec (i ≡ n) → (suc i ≤ n → count_of (λ m. f m && not (eqb m n)) (suc i) k + 1 ≡ count_of f (suc i) k)
        → digit (f i && not (eqb i n)) + count_of (λ m. f m && not (eqb m n)) (suc i) k + 1 ≡ digit (f i) + count_of f (suc i) k
    go (yes e) ih =
        let q : f i ≡ true = ap f e ∙ p in
        rw (q, eq-eqb i n e, same e) (omega arith)
    go (no e) ih =
        let h = ih (lt_of_le-ne l e) in
        rw (ne_eqb i n e, and-true (f i)) (omega arith)

pub size_without : (s : Bitboard) (n : ℕ) → 1 ≤ n → n ≤ 81 → has s n ≡ true → size (without_s n s) + 1 ≡ size s
unfolding size without_s
size_without s n l h p =
    ap (λ (c : ℕ). c + 1)
    (count_same (has (set_of (λ m. has s m && not (eqb m n)))) (λ m. has s m && not (eqb m n)) 1 1 81
    (λ j u. has-set_of (λ m. has s m && not (eqb m n)) (1 + j) ∙ inside (1 + j)))
    ∙ count_without (has s) 1 81 n l (omega arith) p
  where
    inside : (m : ℕ) → on_board 9 m && (has s m && not (eqb m n)) ≡ has s m && not (eqb m n)
    inside m = sym (and_assoc (on_board 9 m) (has s m) (not (eqb m n))) ∙ ap (λ (t : Bool). t && not (eqb m n)) (has_on s m)

pub count_none : (f : ℕ → Bool) (i k : ℕ) → ((m : ℕ) → f m ≡ false) → count_of f i k ≡ 0
unfolding count_of digit
count_none f i zero h = refl
count_none f i (suc k) h = rw (h i) (ap (λ (c : ℕ). 0 + c) (count_none f (suc i) k h))

pub size_none : (s : Bitboard) → ((m : ℕ) → has s m ≡ false) → size s ≡ 0
unfolding size
size_none s h = count_none (has s) 1 81 h

digit-le : (t : Bool) → digit t ≤ 1
unfolding digit
digit-le true = omega arith
digit-le false = omega arith

count-le : (f : ℕ → Bool) (i k : ℕ) → count_of f i k ≤ k
unfolding count_of
count-le f i zero = omega arith
count-le f i (suc k) = omega (arith, count-le f (suc i) k, digit-le (f i))

pub size-le : (s : Bitboard) → size s ≤ 81
unfolding size
size-le s = count-le (has s) 1 81

-- ---- the empty set is the one with no square
pub empty-size : (s : Bitboard) → is_empty s ≡ eqb (size s) 0
unfolding is_empty
empty-size s = refl

pub empty-none : (s : Bitboard) → ((m : ℕ) → has s m ≡ false) → is_empty s ≡ true
unfolding is_empty
empty-none s z = eq-eqb (size s) 0 (size_none s z)

pub empty-some : (s : Bitboard) (n : ℕ) → 1 ≤ n → n ≤ 81 → has s n ≡ true → is_empty s ≡ false
unfolding is_empty
empty-some s n l h p = ne_eqb (size s) 0 (λ e. let q = size_without s n l h p in omega arith)

pub empty-has : (s : Bitboard) → is_empty s ≡ true → (m : ℕ) → has s m ≡ false
empty-has s e =
    ⊎_elim (λ (f : First (has s) 1 81 (smallest s)). absurd (true≢false (sym e ∙ empty-some s (smallest s) f.from (omega (arith, f.to)) f.passes)))
    (λ z. z.1) (smallest_is s)

-- ---- pop, by the smallest square
pub pop_at : (s r : Bitboard) (n : ℕ) → First (has s) 1 81 n → r ≡ without_s n s → record { number = 0; found = true; square = n; set = r } ≡ pop_answer s
unfolding pop_answer
pop_at s r n p e = rw (smallest_at s n p, empty-some s n p.from (omega (arith, p.to)) p.passes, e)

-- what each case of its answer says
pub record Popped (s : Bitboard) (n : ℕ) (r : Bitboard) : Type 0 where
  pub least : First (has s) 1 81 n
  pub rest : r ≡ without_s n s
  pub fewer : size r + 1 ≡ size s

pub pop-square : (s : Bitboard) (n : ℕ) (r : Bitboard) → record { number = 0; found = true; square = n; set = r } ≡ pop_answer s → Popped s n r
unfolding pop_answer
pop-square s n r e =
    let q : n ≡ smallest s = ap (λ (v : PopValue). v.square) e in
    let w : true ≡ not (is_empty s) = ap (λ (v : PopValue). v.found) e in
    let b : r ≡ without_s n s = ap (λ (v : PopValue). v.set) e ∙ ap (λ (m : ℕ). without_s m s) (sym q) in
    ⊎_elim
    (λ (f : First (has s) 1 81 (smallest s)).
    let g : First (has s) 1 81 n = subst (First (has s) 1 81) (sym q) f in
    record { least = g; rest = b; fewer = ap (λ (t : Bitboard). size t + 1) b ∙ size_without s n g.from (omega (arith, g.to)) g.passes })
    (λ z. absurd (true≢false (w ∙ ap not (empty-none s z.1))))
    (smallest_is s)

pub pop_nothing : (s r : Bitboard) → record { number = 0; found = false; square = 0; set = r } ≡ pop_answer s → (m : ℕ) → has s m ≡ false
unfolding pop_answer
pop_nothing s r e = empty-has s (not-false (is_empty s) (sym (ap (λ (v : PopValue). v.found) e)))
