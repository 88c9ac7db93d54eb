-- Any two results that a promise allows are equal: an answer is determined by document 01's number, square and value.
use mathlib.Core.Path.{◌≡◌, refl, sym, ap, ◌∙◌}
use mathlib.Core.List.{List, [], ◌∷◌}
use Prim.Native.Nat.{ℕ, ◌-◌}
use Rattle.std.specs.Prelude.{Option, Result, Ok, Err, slice_index_or}
use Rattle.squares.specs.declared.bitboard.Bitboard.{Bitboard}
use Rattle.position.specs.declared.answers.Refusal.{Refusal}
use Rattle.position.specs.declared.answers.Refusal.TheVariants as Refused
use Rattle.position.specs.declared.answers.Told.{Told}
use Rattle.position.specs.declared.mv.Move.{Move}
use Rattle.position.specs.declared.position.Position.{Position}
use Rattle.position.specs.Answers.{done, told_of, told_given, told_set_given, told_number_given, told_ply_given, told_piece_given, told_king_given, told_last_given, answer_given}
use Rattle.position.proofs.Asking.{refusal_number}

-- the refusal of a number
refusals : ℕ → List Refusal
refusals square =
    Refused.NotSound square
    ∷ Refused.BadNumber
    ∷ Refused.NothingThere
    ∷ Refused.OtherSide
    ∷ Refused.NoPromotedForm
    ∷ Refused.OwnPiece
    ∷ Refused.TakesKing
    ∷ Refused.PromotedDrop
    ∷ Refused.Occupied
    ∷ Refused.NotInHand
    ∷ Refused.LastPly
    ∷ Refused.ShortBuffer
    ∷ Refused.EditNotSound
    ∷ []

back : Told → Refusal
back t = slice_index_or (refusals t.square) (t.number - 1) Refused.BadNumber

told_back : (r : Refusal) → back (told_of r) ≡ r
unfolding back refusals
told_back (Refused.NotSound n) = refl
told_back Refused.BadNumber = refl
told_back Refused.NothingThere = refl
told_back Refused.OtherSide = refl
told_back Refused.NoPromotedForm = refl
told_back Refused.OwnPiece = refl
told_back Refused.TakesKing = refl
told_back Refused.PromotedDrop = refl
told_back Refused.Occupied = refl
told_back Refused.NotInHand = refl
told_back Refused.LastPly = refl
told_back Refused.ShortBuffer = refl
told_back Refused.EditNotSound = refl

-- what an answer says has what is told, and its value
module _ {A V : Type 0} (given : Result A Refusal → V) (told : V → Told) (value : V → A)
    (ok : (x : A) → told (given (Ok x)) ≡ done) (bad : (r : Refusal) → told (given (Err r)) ≡ told_of r)
    (is : (x : A) → value (given (Ok x)) ≡ x) where
  pub one_answer : (a b : Result A Refusal) → given a ≡ given b → a ≡ b
  one_answer (Ok x) (Ok y) e = ap Ok (sym (is x) ∙ ap value e ∙ is y)
  one_answer (Ok x) (Err r) e = absurd (refusal_number r (ap (λ (t : Told). t.number) (sym (bad r) ∙ ap told (sym e) ∙ ok x)))
  one_answer (Err r) (Ok y) e = absurd (refusal_number r (ap (λ (t : Told). t.number) (sym (bad r) ∙ ap told e ∙ ok y)))
  one_answer (Err r) (Err s) e = ap Err (sym (told_back r) ∙ ap back (sym (bad r) ∙ ap told e ∙ bad s) ∙ told_back s)

pub one_told : (a b : Result (Unit {0}) Refusal) → told_given a ≡ told_given b → a ≡ b
one_told = one_answer told_given (λ v. v) (λ v. tt) (λ x. refl) (λ r. refl) (λ x. refl)

pub one_told_set : (a b : Result Bitboard Refusal) → told_set_given a ≡ told_set_given b → a ≡ b
one_told_set = one_answer told_set_given (λ v. v.told) (λ v. v.set) (λ x. refl) (λ r. refl) (λ x. refl)

pub one_told_number : (a b : Result ℕ Refusal) → told_number_given a ≡ told_number_given b → a ≡ b
one_told_number = one_answer told_number_given (λ v. v.told) (λ v. v.value) (λ x. refl) (λ r. refl) (λ x. refl)

pub one_told_ply : (a b : Result ℕ Refusal) → told_ply_given a ≡ told_ply_given b → a ≡ b
one_told_ply = one_answer told_ply_given (λ v. v.told) (λ v. v.ply) (λ x. refl) (λ r. refl) (λ x. refl)

pub one_told_piece : (a b : Result (Option ℕ) Refusal) → told_piece_given a ≡ told_piece_given b → a ≡ b
one_told_piece = one_answer told_piece_given (λ v. v.told) (λ v. v.stands) (λ x. refl) (λ r. refl) (λ x. refl)

pub one_told_king : (a b : Result (Option ℕ) Refusal) → told_king_given a ≡ told_king_given b → a ≡ b
one_told_king = one_answer told_king_given (λ v. v.told) (λ v. v.king) (λ x. refl) (λ r. refl) (λ x. refl)

pub one_told_last : (a b : Result (Option Move) Refusal) → told_last_given a ≡ told_last_given b → a ≡ b
one_told_last = one_answer told_last_given (λ v. v.told) (λ v. v.last) (λ x. refl) (λ r. refl) (λ x. refl)

pub one_position : (p : Position) (a b : Result Position Refusal) → answer_given p a ≡ answer_given p b → a ≡ b
one_position p = one_answer (answer_given p) (λ v. v.told) (λ v. v.position) (λ x. refl) (λ r. refl) (λ x. refl)
