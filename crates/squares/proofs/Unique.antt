-- Any two results that a promise allows are equal: an answer is determined by document 01's number and values. (Where a
-- promise says `r ≡ definition` there is nothing to show.)
use Rattle.std.proofs.Common.{◌≡◌, ℕ, Bool, true, false, cond, Option, Some, None, Result, Ok, Err, IsErr, sym, refl, ap, ap₂, ◌∙◌, true≢false, arith}
use mathlib.Core.Bool.{false≢true}
use Rattle.squares.specs.Answers.{NumberValue, FormValue, PopValue, number_if, set_if, number_given, form_given, set_given, truth_given, pop_given, marks_given}
use Rattle.squares.specs.declared.bad_number.BadNumber.{BadNumber}
use Rattle.squares.specs.declared.bitboard.Bitboard.{Bitboard}
use Rattle.squares.specs.declared.marks.Marks.{Marks}

differ : ◌≡◌ {A = ℕ} 0 2 → ⊥
differ e = omega arith

-- what an answer says has 0 and the value, or 2
module _ {A V : Type 0} (given : Result A BadNumber → V) (number : V → ℕ) (value : V → A)
    (ok : (x : A) → number (given (Ok x)) ≡ 0) (bad : (e : BadNumber) → number (given (Err e)) ≡ 2)
    (back : (x : A) → value (given (Ok x)) ≡ x) where
  one_answer : (a b : Result A BadNumber) → given a ≡ given b → a ≡ b
  one_answer (Ok s) (Ok t) e = ap Ok (sym (back s) ∙ ap value e ∙ back t)
  one_answer (Ok s) (Err f) e = absurd (differ (sym (ok s) ∙ ap number e ∙ bad f))
  one_answer (Err f) (Ok t) e = absurd (differ (sym (ok t) ∙ ap number (sym e) ∙ bad f))
  one_answer (Err f) (Err g) e = refl

pub one_number : (a b : Result ℕ BadNumber) → number_given a ≡ number_given b → a ≡ b
one_number = one_answer number_given (λ v. v.number) (λ v. v.value) (λ x. refl) (λ e. refl) (λ x. refl)

abbrev form_back : FormValue → Option ℕ
form_back v = cond v.found (Some v.value) None

pub one_form : (a b : Result (Option ℕ) BadNumber) → form_given a ≡ form_given b → a ≡ b
one_form = one_answer form_given (λ v. v.number) form_back ok (λ e. refl) back
  where
    ok : (x : Option ℕ) → (form_given (Ok x)).number ≡ 0
    ok (Some v) = refl
    ok None = refl

    back : (x : Option ℕ) → form_back (form_given (Ok x)) ≡ x
    back (Some v) = refl
    back None = refl

pub one_set : (a b : Result Bitboard BadNumber) → set_given a ≡ set_given b → a ≡ b
one_set = one_answer set_given (λ v. v.number) (λ v. v.set) (λ x. refl) (λ e. refl) (λ x. refl)

pub one_truth : (a b : Result Bool BadNumber) → truth_given a ≡ truth_given b → a ≡ b
one_truth = one_answer truth_given (λ v. v.number) (λ v. v.truth) (λ x. refl) (λ e. refl) (λ x. refl)

pub one_marks : (a b : Result Marks BadNumber) → marks_given a ≡ marks_given b → a ≡ b
one_marks = one_answer marks_given (λ v. v.number) (λ v. record { players = v.players; kinds = v.kinds }) (λ x. refl) (λ e. refl) (λ x. refl)

-- there is one refusal
pub refused : {A : Type 0} (r : Result A BadNumber) → IsErr r → r ≡ Err (record {})
refused (Ok x) h = absurd (false≢true h)
refused (Err e) h = refl

-- ---- what a number told, or refused, says of the test that it passed, or not
module _ (good : Bool) (w : ℕ) (r : Result ℕ BadNumber) (q : number_given r ≡ number_if good w) where
  pub told-good : {x : ℕ} → r ≡ Ok x → (good ≡ true) × (x ≡ w)
  told-good e = at good (ap number_given (sym e) ∙ q)
    where
      at : {x : ℕ} (g : Bool) → number_given (Ok x) ≡ number_if g w → (g ≡ true) × (x ≡ w)
      at true p = (refl, ap (λ (v : NumberValue). v.value) p)
      at false p = absurd (differ (ap (λ (v : NumberValue). v.number) p))

  pub told-bad : {e : BadNumber} → r ≡ Err e → good ≡ false
  told-bad e = at good (ap number_given (sym e) ∙ q)
    where
      at : {e : BadNumber} (g : Bool) → number_given (Err e) ≡ number_if g w → g ≡ false
      at true p = absurd (differ (sym (ap (λ (v : NumberValue). v.number) p)))
      at false p = refl

  -- a set that passes its refusal on
  pub set-passed : (v : Bitboard) (s : Result Bitboard BadNumber) {e : BadNumber} → r ≡ Err e → IsErr s → set_given s ≡ set_if good v
  set-passed v s e h = ap set_given (refused s h) ∙ ap (λ (g : Bool). set_if g v) (sym (told-bad e))

pub one_pop : (a b : Option (ℕ × Bitboard)) → pop_given a ≡ pop_given b → a ≡ b
one_pop (Some p) (Some q) e = ap₂ (λ (n : ℕ) (s : Bitboard). Some (n, s)) (ap (λ (v : PopValue). v.square) e) (ap (λ (v : PopValue). v.set) e)
one_pop (Some p) None e = absurd (true≢false (ap (λ (v : PopValue). v.found) e))
one_pop None (Some q) e = absurd (false≢true (ap (λ (v : PopValue). v.found) e))
one_pop None None e = refl
