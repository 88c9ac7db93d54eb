use mathlib.Core.Path.{refl, ap}
use Rattle.std.specs.Prelude.{None}
use Rattle.position.specs.Answers.{done, told_last_given, soundness_told, last_answer}
use Rattle.position.proofs.Asking.{last, query_refused, query_done}
use Rattle.position.proofs.position.Position.last_move.Goals as goal

pub returns-in_err-soundness : goal.returns-in_err-soundness
unfolding soundness_told last_answer
returns-in_err-soundness c = query_refused told_last_given last None _ _ _ (λ r. refl) _ _ c.from_residual.ensures.1 c.in_err-soundness.ensures

pub returns : goal.returns
unfolding soundness_told last_answer
returns c = query_done told_last_given last None _ _ _ _ c.in_ok-soundness.ensures (ap (last done) c.played.ensures)
