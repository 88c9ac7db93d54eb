use mathlib.Core.Path.{refl}
use Rattle.position.specs.Answers.{told_ply_given, soundness_told, ply_answer}
use Rattle.position.proofs.Asking.{ply, query_refused, query_done}
use Rattle.position.proofs.position.Position.ply.Goals as goal

pub returns-in_err-soundness : goal.returns-in_err-soundness
unfolding soundness_told ply_answer
returns-in_err-soundness c = query_refused told_ply_given ply 0 _ _ _ (λ r. refl) _ _ c.from_residual.ensures.1 c.in_err-soundness.ensures

pub returns : goal.returns
unfolding soundness_told ply_answer
returns c = query_done told_ply_given ply 0 _ _ _ _ c.in_ok-soundness.ensures refl
