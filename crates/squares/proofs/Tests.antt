-- A fact at each of some numbers, by one test that is computed.
use Rattle.std.proofs.Common.{◌≡◌, ℕ, zero, suc, ◌+◌, ◌<◌, ◌≤◌, Bool, true, false, ◌&&◌, T, eqb, sym, refl, subst, ap₂, ⊎_elim, le_of_suc-le-suc, eq-or-lt_of_le, arith, eqb→eq}
use mathlib.Core.Bool.{beq}
use Rattle.squares.specs.Answers.{NumberValue, FormValue}

and_l : (a b : Bool) → T (a && b) → T a
and_l true b t = tt
and_l false b t = t

and_r : (a b : Bool) → T (a && b) → T b
and_r true b t = t
and_r false b t = absurd t

abbrev pub all : (ℕ → Bool) → ℕ → Bool
all f zero = true
all f (suc k) = f k && all f k

pub all_at : (f : ℕ → Bool) (k : ℕ) → T (all f k) → (i : ℕ) → i < k → T (f i)
all_at f zero t i h = absurd (omega arith)
all_at f (suc k) t i h =
    ⊎_elim (λ (e : i ≡ k). subst (λ (j : ℕ). T (f j)) (sym e) (and_l (f k) (all f k) t))
    (λ (l : i < k). all_at f k (and_r (f k) (all f k) t) i l) (eq-or-lt_of_le (le_of_suc-le-suc h))

pub beq_eq : (a b : Bool) → T (beq a b) → a ≡ b
beq_eq true true t = refl
beq_eq true false t = absurd t
beq_eq false true t = absurd t
beq_eq false false t = refl

-- ---- the k numbers from a on
abbrev pub all_from : (ℕ → Bool) → ℕ → ℕ → Bool
all_from f a zero = true
all_from f a (suc k) = f a && all_from f (suc a) k

pub all_from_at : (f : ℕ → Bool) (a k : ℕ) → T (all_from f a k) → (n : ℕ) → a ≤ n → n < a + k → T (f n)
all_from_at f a zero t n l h = absurd (omega arith)
all_from_at f a (suc k) t n l h =
    ⊎_elim (λ (e : a ≡ n). subst (λ (j : ℕ). T (f j)) e (and_l (f a) (all_from f (suc a) k) t))
    (λ (q : a < n). all_from_at f (suc a) k (and_r (f a) (all_from f (suc a) k) t) n q (omega arith)) (eq-or-lt_of_le l)

-- ---- two rules for an answer that agree at each of those numbers
abbrev pub same_number : NumberValue → NumberValue → Bool
same_number u v = eqb u.number v.number && eqb u.value v.value

same_number_lem : (u v : NumberValue) → T (same_number u v) → u ≡ v
same_number_lem u v t =
    let n = eqb→eq u.number v.number (and_l (eqb u.number v.number) (eqb u.value v.value) t) in
    let w = eqb→eq u.value v.value (and_r (eqb u.number v.number) (eqb u.value v.value) t) in
    ap₂ (λ (x y : ℕ). record { number = x; value = y }) n w

abbrev pub same_form : FormValue → FormValue → Bool
same_form u v = eqb u.number v.number && (beq u.found v.found && eqb u.value v.value)

same-form : (u v : FormValue) → T (same_form u v) → u ≡ v
same-form u v t =
    let r = and_r (eqb u.number v.number) (beq u.found v.found && eqb u.value v.value) t in
    let n = eqb→eq u.number v.number (and_l (eqb u.number v.number) (beq u.found v.found && eqb u.value v.value) t) in
    let f = beq_eq u.found v.found (and_l (beq u.found v.found) (eqb u.value v.value) r) in
    let w = eqb→eq u.value v.value (and_r (beq u.found v.found) (eqb u.value v.value) r) in
    ap₂ (λ (x : ℕ) (q : Bool × ℕ). record { number = x; found = q.0; value = q.1 }) n (ap₂ (λ (y : Bool) (z : ℕ). (y, z)) f w)

pub rows_number : (f g : ℕ → NumberValue) (a k : ℕ) → T (all_from (λ n. same_number (f n) (g n)) a k) → (n : ℕ) → a ≤ n → n < a + k → f n ≡ g n
rows_number f g a k t n l h = same_number_lem (f n) (g n) (all_from_at (λ m. same_number (f m) (g m)) a k t n l h)

pub rows_form : (f g : ℕ → FormValue) (a k : ℕ) → T (all_from (λ n. same_form (f n) (g n)) a k) → (n : ℕ) → a ≤ n → n < a + k → f n ≡ g n
rows_form f g a k t n l h = same-form (f n) (g n) (all_from_at (λ m. same_form (f m) (g m)) a k t n l h)

pub rows_truth : (f g : ℕ → Bool) (a k : ℕ) → T (all_from (λ n. beq (f n) (g n)) a k) → (n : ℕ) → a ≤ n → n < a + k → f n ≡ g n
rows_truth f g a k t n l h = beq_eq (f n) (g n) (all_from_at (λ m. beq (f m) (g m)) a k t n l h)
