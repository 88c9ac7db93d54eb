use mathlib.Core.Path.{ap, ◌∙◌}
use native.Mathlib.Omega.{arith}
use borrow.Author.Tests.{not-false}
use Rattle.std.proofs.lemmas.Result.{err_from_is_err_and}
use Rattle.squares.specs.Board.{on_board}
use Rattle.squares.specs.Kinds.{good_cell}
use Rattle.squares.proofs.Laws.{both, board_range}
use Rattle.position.specs.Answers.{answer_given}
use Rattle.position.specs.Edits.{cell_edited}
use Rattle.position.proofs.Sizes.{sized}
use Rattle.position.proofs.Asking.{passes_good, passes_sound}
use Rattle.position.proofs.Editing.{edit_refused, edit_asked, cell-good}
use Rattle.position.proofs.position.Position.piece_set.Goals as goal

pub returns-in_err-checked : goal.returns-in_err-checked
unfolding cell_edited
returns-in_err-checked c =
    let i = err_from_is_err_and c.from_residual.result c.from_residual.ensures.1 in
    rw (i.1, i.2) (edit_refused _ _ _ _ (rw c.is_place.ensures at c.in_err-checked.ensures))

pub overflow_sub-square : goal.overflow_sub-square
overflow_sub-square c =
    (board_range 9 _ (both (on_board 9 _) (good_cell _) (not-false _ (passes_good _ _ (rw c.is_place.ensures at c.in_ok-checked.ensures)))).0).0

pub bounds-board-from : goal.bounds-board-from
bounds-board-from c =
    omega (arith, c.from.ensures, board_range 9 _ (both (on_board 9 _) (good_cell _) (not-false _ (passes_good _ _ (rw c.is_place.ensures at c.in_ok-checked.ensures)))).0)

pub returns : goal.returns
unfolding cell_edited
returns c =
    let e = rw c.is_place.ensures at c.in_ok-checked.ensures in
    let g = cell-good _ (sized _ _ c.well_formed.0) (passes_sound _ _ e) _ _ (passes_good _ _ e) in
    ap (answer_given c.args.self) c.if_sound.ensures ∙ edit_asked _ _ _ e _ (rw c.from.ensures at c.with_board.ensures g.1)
