use native.Mathlib.Omega.{arith}
use mathlib.Core.Path.{refl, ap, ◌∙◌}
use borrow.Author.Tests.{not-false}
use Rattle.squares.specs.Sets.{empty_s}
use Rattle.squares.proofs.Laws.{kind_range}
use Rattle.position.specs.Answers.{done, told_set_given, set_answer, kind_set_answer}
use Rattle.position.proofs.Sizes.{sized}
use Rattle.position.proofs.Asking.{squares, kind-set, passes_good, passes_sound, query_refused, query_done}
use Rattle.position.proofs.position.Position.piece_kind_bitboard.Goals as goal

pub returns-in_err-checked : goal.returns-in_err-checked
unfolding set_answer kind_set_answer
returns-in_err-checked c = query_refused told_set_given squares empty_s _ _ _ (λ r. refl) _ _ c.from_residual.ensures.1 (rw c.is_good.ensures at c.in_err-checked.ensures)

pub mark_set-requires : goal.mark_set-requires
mark_set-requires c = let r = kind_range _ (not-false _ (passes_good _ _ (rw c.is_good.ensures at c.in_ok-checked.ensures))) in (r.0, omega (arith, r.1, c.well_formed))

pub returns : goal.returns
unfolding set_answer kind_set_answer
returns c = query_done told_set_given squares empty_s _ _ _ _ (rw c.is_good.ensures at c.in_ok-checked.ensures) (ap (squares done) (c.mark_set.ensures ∙ kind-set c.args.self (sized _ _ c.well_formed.0) (passes_sound _ _ (rw c.is_good.ensures at c.in_ok-checked.ensures)) _ (not-false _ (passes_good _ _ (rw c.is_good.ensures at c.in_ok-checked.ensures)))))
