-- What holds of the writer as it is defined: its numbers, and room that is always enough.
use Prim.Native.Nat.{ℕ, ◌≤◌}
use native.Mathlib.Omega.{arith}
use mathlib.Core.Path.{◌≡◌, refl, ap}
use mathlib.Core.Bool.{true}
use mathlib.Core.List.{List}
use lib.ListN.{length}
use borrow.Author.Tests.{ne_eqb}
use Rattle.position.specs.declared.position.Position.{Position}
use Rattle.position.specs.Sound.{sound}
use Rattle.position.specs.Answers.{first_fact, told_by}
use Rattle.position.proofs.Laws.{Sized, Given, None, given_first, first_given, none_first, first_none}
use Rattle.sfen.specs.Writes.{write_facts, text_answer, bytes_after}
use Rattle.sfen.specs.declared.write.TextAnswer.{TextAnswer}
use Rattle.sfen.proofs.Bound.{text_bound}
use Rattle.sfen.proofs.Writing.{fitting_written}

-- ---- each number exactly when its fact holds and no earlier one does
module _ (p : Position) (bytes : List ℕ) where
  pub write-given : (n : ℕ) → (n ≡ 0 → ⊥) → (text_answer p bytes).told.number ≡ n → Given n (write_facts p bytes)
  unfolding text_answer told_by
  write-given n d h = first_given n (write_facts p bytes) d h

  pub given-write : (n : ℕ) → Given n (write_facts p bytes) → (text_answer p bytes).told.number ≡ n
  unfolding text_answer told_by
  given-write n g = given_first g

  pub none-write : None (write_facts p bytes) → (text_answer p bytes).told.number ≡ 0
  unfolding text_answer told_by
  none-write n = none_first n

  pub write-none : (text_answer p bytes).told.number ≡ 0 → None (write_facts p bytes)
  unfolding text_answer told_by write_facts
  write-none h = first_none (write_facts p bytes) refl h

  -- a refused call has length 0 and changes no byte
  pub write_keeps : ((text_answer p bytes).told.number ≡ 0 → ⊥) → ((text_answer p bytes).length ≡ 0) × (bytes_after p bytes ≡ bytes)
  unfolding text_answer bytes_after told_by
  write_keeps d = (rw (ne_eqb (first_fact (write_facts p bytes)) 0 d), rw (ne_eqb (first_fact (write_facts p bytes)) 0 d))

-- ---- 136 bytes hold every sound position's text
pub always_fits : (p : Position) (bytes : List ℕ) → Sized p → sound p ≡ true → 136 ≤ length bytes → (text_answer p bytes).told.number ≡ 0
always_fits p bytes z s room =
    ap (λ (a : TextAnswer). a.told.number) (fitting_written p bytes s (omega (arith, text_bound p z s))).0
