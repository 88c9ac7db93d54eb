-- The last move of a lent position: its number says whether the position is sound, and its four numbers read back are what last_move
-- answers.
use Prim.Native.Nat.{ℕ}
use mathlib.Core.Path.{◌≡◌, refl, sym, ap, ◌∙◌}
use mathlib.Core.Bool.{Bool, true, false, not, cond}
use native.Mathlib.Omega.{arith}
use lib.Dec.{eqb}
use Rattle.position.specs.Sound.{sound}
use Rattle.position.specs.Machine.{no_move}
use Rattle.position.specs.Answers.{first_fact, told_by, query_facts, told_query, answered, soundness_told, last_move, last_answer}
use Rattle.position.specs.declared.position.Position.{Position}
use Rattle.position.specs.declared.answers.Told.{Told}
use Rattle.position.specs.declared.mv.MoveNumbers.{MoveNumbers}
use Rattle.std.specs.Prelude.{None}
use Rattle.firmware.specs.Shown.{last_shown}

done_sound : (b : Bool) → ◌≡◌ {A = ℕ} (cond (not b) 1 0) 0 → b ≡ true
done_sound true e = refl
done_sound false e = absurd (omega (arith, e))

refused_unsound : (b : Bool) → (◌≡◌ {A = ℕ} (cond (not b) 1 0) 0 → ⊥) → b ≡ false
refused_unsound true h = absurd (h refl)
refused_unsound false h = refl

module _ (p : Position) (t : Told) (e : t ≡ soundness_told p) where
  sound_told : t.number ≡ cond (not (sound p)) 1 0
  unfolding soundness_told told_query told_by query_facts first_fact
  sound_told = ap (λ (x : Told). x.number) e

  pub last-refused : (l : MoveNumbers) → l ≡ no_move → (t.number ≡ 0 → ⊥) → record { told = t; last = l } ≡ last_shown p
  unfolding last_shown
  last-refused l z h = rw (refused_unsound (sound p) (λ q. h (sound_told ∙ q)), ← e, z)

  pub last_done : t.number ≡ 0 → record { told = t; last = p.last } ≡ last_shown p
  unfolding last_shown
  last_done h = rw (done_sound (sound p) (sym sound_told ∙ h), ← e)

read_back : (b : Bool) (l : MoveNumbers) → last_move (cond b l no_move) ≡ cond (eqb (cond (not b) 1 0) 0) (last_move l) None
unfolding last_move
read_back true l = refl
read_back false l = refl

pub last_agrees : (p : Position) → ((last_shown p).told ≡ (last_answer p).told) × (last_move (last_shown p).last ≡ (last_answer p).last)
unfolding last_shown last_answer soundness_told answered query_facts first_fact
last_agrees p = (refl, read_back (sound p) p.last)
