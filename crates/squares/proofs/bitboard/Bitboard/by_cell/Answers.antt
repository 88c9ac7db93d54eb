-- The invariant: the sets of the places passed are made.
use Rattle.std.proofs.Common.{refl, ◌∙◌}
use Rattle.squares.proofs.Lists.{filled_more, filled_all}
use Rattle.squares.proofs.ByCell.{low_words, high_words, placed_at, placed_all}
use Rattle.squares.proofs.bitboard.Bitboard.by_cell.Goals as goal

pub loop-k-preserved : goal.loop-k-preserved
loop-k-preserved c =
    let l = c.loop-k in
    let t = c.loop-k-test.true in
    let b = c.args.board.now in
    filled_more _ 32 l.k l.set-items _ t l.invariant
    (placed_at b l.k _ _ _ _ t (c.cell_words-low.ensures ∙ low_words b c.told-board) (c.cell_words-high.ensures ∙ high_words b c.told-board) refl refl)

pub returns : goal.returns
returns c = filled_all _ 32 c.loop-k.k _ c.loop-k-test.false c.loop-k.invariant ∙ placed_all c.args.board.now
