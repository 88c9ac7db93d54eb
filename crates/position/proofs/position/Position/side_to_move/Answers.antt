use mathlib.Core.Path.{refl}
use Rattle.position.specs.Answers.{told_number_given, soundness_told, side_answer}
use Rattle.position.proofs.Asking.{number, query_refused, query_done}
use Rattle.position.proofs.position.Position.side_to_move.Goals as goal

pub returns-in_err-soundness : goal.returns-in_err-soundness
unfolding soundness_told side_answer
returns-in_err-soundness c = query_refused told_number_given number 0 _ _ _ (λ r. refl) _ _ c.from_residual.ensures.1 c.in_err-soundness.ensures

pub returns : goal.returns
unfolding soundness_told side_answer
returns c = query_done told_number_given number 0 _ _ _ _ c.in_ok-soundness.ensures refl
