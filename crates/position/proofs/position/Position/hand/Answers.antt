use mathlib.Core.Path.{refl}
use borrow.Author.Tests.{not-false}
use Rattle.position.specs.Answers.{told_number_given, hand_answer}
use Rattle.position.proofs.Asking.{number, hand_range, passes_good, query_refused, query_done}
use Rattle.position.proofs.position.Position.hand.Goals as goal

pub returns-in_err-checked : goal.returns-in_err-checked
unfolding hand_answer
returns-in_err-checked c = query_refused told_number_given number 0 _ _ _ (λ r. refl) _ _ c.from_residual.ensures.1 (rw c.is_hand.ensures at c.in_err-checked.ensures)

pub index-requires : goal.index-requires
index-requires c = hand_range _ _ (not-false _ (passes_good _ _ (rw c.is_hand.ensures at c.in_ok-checked.ensures)))

pub returns : goal.returns
unfolding hand_answer
returns c = query_done told_number_given number 0 _ _ _ _ (rw c.is_hand.ensures at c.in_ok-checked.ensures) (rw c.index.ensures.0)
