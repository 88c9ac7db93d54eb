-- A piece's promoted and unpromoted form are those of its kind, the colour kept: 16 is what White's number has more.
use Rattle.std.proofs.Common.{◌≡◌, ℕ, ◌+◌, ◌-◌, ◌%◌, ◌<◌, ◌≤◌, false, cond, T, Option, Result, eqb, leb, sym, ap, ◌∙◌, zero-le, mod-lt, arith, lit<, leb→le}
use Rattle.squares.specs.Kinds.{good_kind, kind_row, kinds, piece_of, colour_of, kind_of, good_piece, promoted_piece, unpromoted_piece}
use Rattle.squares.specs.Answers.{NumberValue, FormValue, number_given, form_given, promoted_answer, unpromoted_answer, promoted_piece_answer, unpromoted_piece_answer}
use Rattle.squares.specs.declared.bad_number.BadNumber.{BadNumber}
use Rattle.squares.proofs.Numbers.{piece-high}
use Rattle.squares.proofs.Tests.{all, all_at, rows_number, rows_form}

-- what is answered of a kind, as an answer of the piece c of that kind
abbrev form_of : ℕ → FormValue → FormValue
form_of c v = record { number = v.number; found = v.found; value = cond v.found (c - c % 16 + v.value) 0 }

abbrev number_of : ℕ → NumberValue → NumberValue
number_of c v = record { number = v.number; value = cond (eqb v.number 0) (c - c % 16 + v.value) 0 }

-- no kind is above 14, so a piece's number fits its byte
few : (f : ℕ → ℕ) → T (all (λ k. leb (f k) 14) 16) → (c v : ℕ) → c ≤ 31 → v ≡ f (c % 16) → c - c % 16 + v < 256
few f t c v h e = let l = leb→le (f (c % 16)) 14 (all_at (λ k. leb (f k) 14) 16 t (c % 16) (mod-lt c (lit< tt))) in omega (arith, e, l)

-- the kind's call told b
module _ (c : ℕ) {a b : Result (Option ℕ) BadNumber} (h : c ≤ 31) (e : a ≡ b) (q : form_given a ≡ promoted_answer (c % 16)) where
  told : form_given b ≡ promoted_answer (c % 16)
  told = ap form_given (sym e) ∙ q

  pub promoted-piece : form_of c (form_given b) ≡ promoted_piece_answer c
  unfolding promoted_piece_answer promoted_piece promoted_answer piece_of colour_of kind_row kinds good_piece kind_of good_kind
  promoted-piece = ap (form_of c) told ∙ rows_form (λ k. form_of k (promoted_answer (k % 16))) promoted_piece_answer 0 32 tt c zero-le (omega arith)

  pub promoted-fits : c - c % 16 + (form_given b).value < 256
  unfolding promoted_answer kind_row kinds good_kind
  promoted-fits = few (λ k. (promoted_answer k).value) tt c (form_given b).value h (ap (λ (x : FormValue). x.value) told)

pub promoted_bad : (c : ℕ) → 31 < c → record { number = 2; found = false; value = 0 } ≡ promoted_piece_answer c
unfolding promoted_piece_answer
promoted_bad c h = rw (piece-high c (omega arith))

module _ (c : ℕ) {a b : Result ℕ BadNumber} (h : c ≤ 31) (e : a ≡ b) (q : number_given a ≡ unpromoted_answer (c % 16)) where
  number_told : number_given b ≡ unpromoted_answer (c % 16)
  number_told = ap number_given (sym e) ∙ q

  pub unpromoted-piece : number_of c (number_given b) ≡ unpromoted_piece_answer c
  unfolding unpromoted_piece_answer unpromoted_piece unpromoted_answer piece_of colour_of kind_row kinds good_piece kind_of good_kind
  unpromoted-piece = ap (number_of c) number_told ∙ rows_number (λ k. number_of k (unpromoted_answer (k % 16))) unpromoted_piece_answer 0 32 tt c zero-le (omega arith)

  pub unpromoted-fits : c - c % 16 + (number_given b).value < 256
  unfolding unpromoted_answer kind_row kinds good_kind
  unpromoted-fits = few (λ k. (unpromoted_answer k).value) tt c (number_given b).value h (ap (λ (x : NumberValue). x.value) number_told)

pub unpromoted_bad : (c : ℕ) → 31 < c → record { number = 2; value = 0 } ≡ unpromoted_piece_answer c
unfolding unpromoted_piece_answer
unpromoted_bad c h = rw (piece-high c (omega arith))
