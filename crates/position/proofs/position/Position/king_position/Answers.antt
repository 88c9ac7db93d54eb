use mathlib.Core.Path.{refl, ap, ◌∙◌}
use borrow.Author.Tests.{eq-eqb, ne_eqb, not-false}
use Rattle.std.specs.Prelude.{◌≡◌, cond, eqb, None}
use Rattle.position.specs.Answers.{done, told_king_given, king_at, king_answer}
use Rattle.position.proofs.Asking.{king, own_king, passes_good, passes_sound, query_refused, query_done}
use Rattle.position.proofs.position.Position.king_position.Goals as goal
use Rattle.position.proofs.position.Position.king_position.Goals.{then-color-eq-BLACK, else-color-eq-BLACK}

pub returns-in_err-checked : goal.returns-in_err-checked
unfolding king_answer
returns-in_err-checked c = query_refused told_king_given king None _ _ _ (λ r. refl) _ _ c.from_residual.ensures.1 (rw c.is_good.ensures at c.in_err-checked.ensures)

pub returns : goal.returns
unfolding king_answer
returns c =
    let query = rw c.is_good.ensures at c.in_ok-checked.ensures in
    let own : c.if-color-eq-BLACK.king_at ≡ cond (eqb c.args.color 1) c.args.self.bking c.args.self.wking = elim c.if-color-eq-BLACK.branch [
      | then-color-eq-BLACK w ↦ w.king_at-is ∙ rw (eq-eqb c.args.color 1 w.if-color-eq-BLACK.true)
      | else-color-eq-BLACK w ↦ w.king_at-is ∙ rw (ne_eqb c.args.color 1 w.if-color-eq-BLACK.false)
    ] in
    query_done told_king_given king None _ _ _ _ query
    (ap (king done) (c.king_at.ensures ∙ ap king_at (own ∙ own_king c.args.self c.args.color (passes_sound _ _ query) (not-false _ (passes_good _ _ query)))))
