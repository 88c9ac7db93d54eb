-- "Each number is given exactly when its fact holds and no earlier one does", of any list of facts.
use mathlib.Core.Path.{◌≡◌, refl, sym}
use Prim.Native.Nat.{ℕ}
use mathlib.Core.Bool.{Bool, true, false, not, ◌&&◌, cond}
use mathlib.Core.List.{List, [], ◌∷◌}
use lib.Dec.{eqb}
use borrow.Author.Tests.{eqb-false, not-true}
use Rattle.squares.proofs.Laws.{both}
use Rattle.position.specs.Answers.{Fact, first_fact}

-- a fact with the number n holds, and none before it
pub data Given (n : ℕ) : List Fact → Type 0 where
  here : {f : Fact} {fs : List Fact} → f.number ≡ n → f.fact ≡ true → Given n (f ∷ fs)
  later : {f : Fact} {fs : List Fact} → f.fact ≡ false → Given n fs → Given n (f ∷ fs)

-- no fact holds
pub data None : List Fact → Type 0 where
  none : None []
  more : {f : Fact} {fs : List Fact} → f.fact ≡ false → None fs → None (f ∷ fs)

pub given_first : {n : ℕ} {fs : List Fact} → Given n fs → first_fact fs ≡ n
unfolding first_fact
given_first (here e t) = rw t e
given_first (later t r) = rw t (given_first r)

pub first_given : (n : ℕ) (fs : List Fact) → (n ≡ 0 → ⊥) → first_fact fs ≡ n → Given n fs
unfolding first_fact
first_given n [] d h = absurd (d (sym h))
first_given n (f ∷ fs) d h = by f.fact refl h (first_given n fs d)
  where
    by : (t : Bool) → f.fact ≡ t → cond t f.number (first_fact fs) ≡ n → (first_fact fs ≡ n → Given n fs) → Given n (f ∷ fs)
    by true e h r = here h e
    by false e h r = later e (r h)

pub none_first : {fs : List Fact} → None fs → first_fact fs ≡ 0
unfolding first_fact
none_first none = refl
none_first (more t r) = rw t (none_first r)

-- 0 is no fact's number
abbrev pub nonzero : List Fact → Bool
nonzero [] = true
nonzero (f ∷ fs) = not (eqb f.number 0) && nonzero fs

pub first_none : (fs : List Fact) → nonzero fs ≡ true → first_fact fs ≡ 0 → None fs
unfolding first_fact
first_none [] e h = none
first_none (f ∷ fs) e h = by f.fact refl h (first_none fs (both (not (eqb f.number 0)) (nonzero fs) e).1)
  where
    by : (t : Bool) → f.fact ≡ t → cond t f.number (first_fact fs) ≡ 0 → (first_fact fs ≡ 0 → None fs) → None (f ∷ fs)
    by true q h r = absurd (eqb-false f.number 0 (not-true _ (both (not (eqb f.number 0)) (nonzero fs) e).0) h)
    by false q h r = more q (r h)
