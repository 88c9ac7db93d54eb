-- What an entry that changes a lent position ensures, from the answer of the call by value.
use Prim.Native.Nat.{ℕ}
use mathlib.Core.Path.{◌≡◌, sym, ap, ◌∙◌}
use Rattle.std.specs.Prelude.{Ok, Err}
use Rattle.position.specs.declared.answers.Told.{Told}
use Rattle.position.specs.declared.answers.Refusal.{Refusal}
use Rattle.position.specs.Answers.{Answer, done, told_of, answer_given}
use Rattle.position.specs.declared.position.Position.{Position}
use Rattle.lent.specs.InPlace.{Leaves}

-- r is the answer, a its definition, which keeps the position h where it refuses
pub leaves : {a : Answer} {h : Position} (r : Answer) → r ≡ a → ((◌≡◌ {A = ℕ} a.told.number 0 → ⊥) → a.position ≡ h) → Leaves a h r.told r.position
leaves r e keeps =
    (ap (λ (s : Answer). s.told) e, ap (λ (s : Answer). s.position) e, λ refused. ap (λ (s : Answer). s.position) e ∙ keeps (λ z. refused (ap (λ (s : Answer). s.told.number) e ∙ z)))

-- the same of a call that is done, and of one that is refused
pub leaves_done : {a : Answer} {h : Position} (q : Position) → answer_given h (Ok q) ≡ a → Leaves a h done q
leaves_done {a = a} {h = h} q e = leaves (answer_given h (Ok q)) e (λ refused. absurd (refused (sym (ap (λ (s : Answer). s.told.number) e))))

pub leaves_refused : {a : Answer} {h : Position} (r : Refusal) → answer_given h (Err r) ≡ a → Leaves a h (told_of r) h
leaves_refused {a = a} {h = h} r e = leaves (answer_given h (Err r)) e (λ refused. sym (ap (λ (s : Answer). s.position) e))

-- any two results that the promise allows are equal
pub leaves_once : {a : Answer} {h : Position} (t t' : Told) (x x' : Position) → Leaves a h t x → Leaves a h t' x' → (t ≡ t') × (x ≡ x')
leaves_once t t' x x' l l' = (l.0 ∙ sym l'.0, l.1 ∙ sym l'.1)
