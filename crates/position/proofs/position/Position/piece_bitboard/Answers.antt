use native.Mathlib.Omega.{arith}
use mathlib.Core.Path.{refl, ap, ◌∙◌}
use borrow.Author.Tests.{not-false}
use Rattle.squares.specs.Sets.{empty_s}
use Rattle.squares.proofs.Laws.{colour_range, piece_kind}
use Rattle.position.specs.Answers.{done, told_set_given, set_answer, piece_set_answer}
use Rattle.position.proofs.Sizes.{sized}
use Rattle.position.proofs.Asking.{squares, piece_colour, piece-set, passes_good, passes_sound, query_refused, query_done}
use Rattle.position.proofs.position.Position.piece_bitboard.Goals as goal

pub returns-in_err-checked : goal.returns-in_err-checked
unfolding set_answer piece_set_answer
returns-in_err-checked c = query_refused told_set_given squares empty_s _ _ _ (λ r. refl) _ _ c.from_residual.ensures.1 (rw c.is_good.ensures at c.in_err-checked.ensures)

pub mark_set-of_color-requires : goal.mark_set-of_color-requires
mark_set-of_color-requires c =
    let good = not-false _ (passes_good _ _ (rw c.is_good.ensures at c.in_ok-checked.ensures)) in
    let r = colour_range _ (piece_colour _ good) in
    rw c.color_of.ensures (r.0, omega (arith, r.1, c.well_formed))

pub mark_set-of_kind-requires : goal.mark_set-of_kind-requires
mark_set-of_kind-requires c =
    let r = piece_kind _ (not-false _ (passes_good _ _ (rw c.is_good.ensures at c.in_ok-checked.ensures))) in
    rw c.kind_of.ensures (r.0, omega (arith, r.1, c.well_formed))

pub returns : goal.returns
unfolding set_answer piece_set_answer
returns c =
    let query = rw c.is_good.ensures at c.in_ok-checked.ensures in
    query_done told_set_given squares empty_s _ _ _ _ query
    (ap (squares done) (c.and.ensures ∙ rw (c.mark_set-of_color.ensures, c.mark_set-of_kind.ensures, c.color_of.ensures, c.kind_of.ensures) (piece-set c.args.self (sized _ _ c.well_formed.0) (passes_sound _ _ query) _ (not-false _ (passes_good _ _ query)))))
