use mathlib.Core.Path.{sym, ap, ◌∙◌}
use Rattle.std.specs.Prelude.{unwrap_or}
use Rattle.squares.proofs.Laws.{form-or, held-value}
use Rattle.position.proofs.hand.hand_kind.Goals as goal

pub returns-in-Some : goal.returns-in-Some
returns-in-Some c = ap (λ h. unwrap_or h 0) (sym c.in-Some.is ∙ c.unwrap_or.ensures) ∙ rw (← c.kind_of.ensures) (form-or c.hand_kind.result ∙ held-value _ _ c.hand_kind.ensures)

pub returns-in-None : goal.returns-in-None
returns-in-None c = ap (λ h. unwrap_or h 0) (sym c.in-None.is ∙ c.unwrap_or.ensures) ∙ rw (← c.kind_of.ensures) (form-or c.hand_kind.result ∙ held-value _ _ c.hand_kind.ensures)
