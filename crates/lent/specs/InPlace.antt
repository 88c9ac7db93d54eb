-- What a call leaves that changes a lent position in place.
use Rattle.std.specs.Prelude.{ℕ, ◌≡◌}
use Rattle.position.specs.declared.position.Position.{Position}
use Rattle.position.specs.declared.answers.Told.{Told}
use Rattle.position.specs.Answers.{Answer}

-- a is the answer of the call by value on the position at entry. "The firmware lends its position and finds it changed in
-- place; that entry sits on top of the one by value"; "Every number but 0 hands back the position as given"
abbrev pub Leaves : Answer → Position → Told → Position → Type 0
Leaves a entry told exit = (told ≡ a.told) × (exit ≡ a.position) × ((◌≡◌ {A = ℕ} told.number 0 → ⊥) → exit ≡ entry)
