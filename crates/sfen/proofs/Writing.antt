-- What the writer answers in each case: 1, then 12, then the text.
use Prim.Native.Nat.{ℕ, ◌≤◌, ◌<◌}
use mathlib.Core.Path.{◌≡◌, refl, sym, ap, ◌∙◌}
use mathlib.Core.Bool.{Bool, true, false, not, cond}
use mathlib.Core.List.{List, ◌++◌}
use lib.ListN.{length, drop}
use Rattle.std.specs.Prelude.{Result, Ok, Err}
use Rattle.squares.proofs.Laws.{le-or-lt}
use Rattle.position.specs.declared.answers.Refusal.TheVariants.{ShortBuffer}
use mathlib.Core.Logic.{◌⊎◌, inl, inr}
use borrow.Author.Tests.{lt-ltb, le-ltb}
use Rattle.position.specs.declared.position.Position.{Position}
use Rattle.position.specs.declared.answers.Told.{Told}
use Rattle.position.specs.declared.answers.Refusal.{Refusal}
use Rattle.position.specs.Sound.{sound}
use Rattle.position.specs.Answers.{done, told_of, first_fact, told_by, query_facts, told_query, soundness_told}
use Rattle.position.proofs.Laws.{refusal_number, passes_sound}
use Rattle.sfen.specs.Text.{position_text}
use Rattle.sfen.specs.Writes.{text_given, write_facts, text_answer, bytes_after}

unsound : (p : Position) (r : Refusal) → told_of r ≡ soundness_told p → sound p ≡ false
unfolding soundness_told told_query told_by query_facts first_fact
unsound p r e = go (sound p) (λ z. refusal_number r (ap (λ (x : Told). x.number) e ∙ z))
  where
    go : (s : Bool) → (◌≡◌ {A = ℕ} (cond (not s) 1 0) 0 → ⊥) → s ≡ false
    go true d = absurd (d refl)
    go false d = refl

-- an unsound position is refused by what the soundness test says
pub unsound_refused : (p : Position) (bytes : List ℕ) (r : Refusal) → told_of r ≡ soundness_told p
    → (text_given (Err r) ≡ text_answer p bytes) × (bytes ≡ bytes_after p bytes)
unfolding soundness_told told_query told_by query_facts first_fact write_facts text_answer bytes_after
unsound_refused p bytes r e = let s = unsound p r e in (rw (e, s), rw s)

pub sound_told : (p : Position) → done ≡ soundness_told p → sound p ≡ true
unfolding soundness_told
sound_told p e = passes_sound p false e

module _ (p : Position) (bytes : List ℕ) (s : sound p ≡ true) where
  pub short_refused : length bytes < length (position_text p)
      → (text_answer p bytes ≡ record { told = record { number = 12; square = 0 }; length = 0 }) × (bytes_after p bytes ≡ bytes)
  unfolding told_by first_fact write_facts text_answer bytes_after
  short_refused h = let t = lt-ltb _ _ h in (rw (s, t), rw (s, t))

  -- "the writer writes that text whenever it fits"
  pub fitting_written : length (position_text p) ≤ length bytes
      → (text_answer p bytes ≡ record { told = record { number = 0; square = 0 }; length = length (position_text p) })
      × (bytes_after p bytes ≡ position_text p ++ drop (length (position_text p)) bytes)
  unfolding told_by first_fact write_facts text_answer bytes_after
  fitting_written h = let t = le-ltb _ _ h in (rw (s, t), rw (s, t))

  -- the same as the code does it: a text is copied whole or not at all
  pub whole : (text after : List ℕ) (r : Result ℕ Refusal) → text ≡ position_text p
      → (length bytes < length text → (r ≡ Err ShortBuffer) × (after ≡ bytes))
      → (length text ≤ length bytes → (r ≡ Ok (length text)) × (after ≡ text ++ drop (length text) bytes))
      → (text_given r ≡ text_answer p bytes) × (after ≡ bytes_after p bytes)
  whole text after r t short fitting = go (le-or-lt (length text) (length bytes))
    where
      go : (length text ≤ length bytes) ⊎ (length bytes < length text) → (text_given r ≡ text_answer p bytes) × (after ≡ bytes_after p bytes)
      go (inl h) =
          let f = fitting h in
          let w = fitting_written (rw t at h) in
          (rw (f.0, t) (sym w.0), rw (f.1, t) (sym w.1))
      go (inr h) =
          let f = short h in
          let w = short_refused (rw t at h) in
          (rw f.0 (sym w.0), rw f.1 (sym w.1))
