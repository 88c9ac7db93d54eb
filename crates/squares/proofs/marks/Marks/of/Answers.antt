-- The invariant: the sets of the kinds passed are made.
use Rattle.std.proofs.Common.{sym, refl, ap, ◌∙◌}
use Rattle.squares.specs.Sets.{is_empty}
use Rattle.squares.proofs.Lists.{filled_none, filled_more, filled_all}
use Rattle.squares.proofs.Marking.{both_of, both_of_lem, black_pieces, white_pieces, side-gathered, marks-good, marks_bad, bad_told}
use Rattle.squares.proofs.marks.Marks.of.Goals as goal

pub returns-then-not-is_empty : goal.returns-then-not-is_empty
returns-then-not-is_empty c =
    let b = c.args.board.now in
    marks_bad b (sym (c.is_empty.ensures ∙ ap is_empty c.union-bad.ensures ∙ bad_told b _ _ _ _ c.by_cell-sets.ensures) ∙ c.if-not-is_empty.true)

pub loop-j-init : goal.loop-j-init
loop-j-init c = filled_none (both_of c.args.board.now) 14 _ refl

pub loop-j-preserved : goal.loop-j-preserved
loop-j-preserved c =
    let l = c.loop-j in
    let b = c.args.board.now in
    let sets = c.by_cell-sets.ensures in
    let t = c.loop-j-test.true in
    filled_more (both_of b) 14 l.j l.kind-items _ t l.invariant (both_of_lem b l.j _ _ t (black_pieces b _ sets) (white_pieces b _ sets) c.or.ensures)

pub returns : goal.returns
returns c =
    let b = c.args.board.now in
    let sets = c.by_cell-sets.ensures in
    marks-good b (sym (c.is_empty.ensures ∙ ap is_empty c.union-bad.ensures ∙ bad_told b _ _ _ _ sets) ∙ c.if-not-is_empty.false) _ _ _
    (c.union.ensures ∙ side-gathered b 0 (black_pieces b _ sets)) (c.union-2.ensures ∙ side-gathered b 16 (white_pieces b _ sets))
    (filled_all (both_of b) 14 c.loop-j.j _ c.loop-j-test.false c.loop-j.invariant)
