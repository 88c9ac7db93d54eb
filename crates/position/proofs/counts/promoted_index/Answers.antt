use Rattle.std.specs.Prelude.{ℕ, Option, unwrap_or}
use mathlib.Core.Path.{refl, sym, ap, ◌∙◌}
use native.Mathlib.Omega.{arith}
use Rattle.squares.proofs.Laws.{form-or, form-found, promoted-value, promoted-some}
use Rattle.position.proofs.Elsewhere.{place-form, place_nothing}
use Rattle.position.proofs.counts.promoted_index.Goals as goal

pub overflow_sub-promoted : goal.overflow_sub-promoted
overflow_sub-promoted c =
    let e = sym (form-found _ (sym c.unwrap_or.ensures ∙ c.in-Some.is)) ∙ c.promote.ensures in
    omega (arith, promoted-value _ _ e, promoted-some _ _ e refl)

pub returns-in-Some : goal.returns-in-Some
returns-in-Some c = rw c.from.ensures (place-form c.args.j c.requires _ (sym (form-found _ (sym c.unwrap_or.ensures ∙ c.in-Some.is)) ∙ c.promote.ensures))

pub returns-in-None : goal.returns-in-None
returns-in-None c =
    place_nothing c.args.j c.requires _ c.promote.ensures (sym (form-or c.promote.result) ∙ ap (λ (o : Option ℕ). unwrap_or o 0) (sym c.unwrap_or.ensures ∙ c.in-None.is))
