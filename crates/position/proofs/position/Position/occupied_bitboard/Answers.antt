use mathlib.Core.Path.{refl, ap, ◌∙◌}
use Rattle.squares.specs.Sets.{empty_s}
use Rattle.position.specs.Answers.{done, told_set_given, set_answer, occupied_answer, soundness_told}
use Rattle.position.proofs.Sizes.{sized}
use Rattle.position.proofs.Asking.{squares, occupied_set, passes_sound, query_refused, query_done}
use Rattle.position.proofs.position.Position.occupied_bitboard.Goals as goal

pub returns-in_err-soundness : goal.returns-in_err-soundness
unfolding set_answer occupied_answer soundness_told
returns-in_err-soundness c = query_refused told_set_given squares empty_s _ _ _ (λ r. refl) _ _ c.from_residual.ensures.1 c.in_err-soundness.ensures

pub returns : goal.returns
unfolding set_answer occupied_answer soundness_told
returns c = query_done told_set_given squares empty_s _ _ _ _ c.in_ok-soundness.ensures (ap (squares done) (c.both_players.ensures ∙ occupied_set c.args.self (sized _ _ c.well_formed.0) (passes_sound _ _ c.in_ok-soundness.ensures)))
