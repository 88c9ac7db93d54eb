-- The invariant: the words are those of the cells passed, and the bit is the next cell's.
use Rattle.std.proofs.Common.{refl, ◌∙◌, arith}
use Rattle.squares.specs.Sets.{tab}
use Rattle.squares.proofs.ByCell.{next_bit, words_none, words_all, words_room, words_more}
use Rattle.squares.proofs.by_cell.cell_words.Goals as goal

pub loop-cell-init : goal.loop-cell-init
unfolding tab
loop-cell-init c = (words_none c.args.cells.now, refl)

pub overflow_add-words : goal.overflow_add-words
overflow_add-words c =
    let l = c.loop-cell in
    rw l.invariant.1
    (record { fits = words_room c.args.cells.now l.cell-index c.place.result l.words l.invariant.0 c.place.ensures.1 (omega (arith, c.requires, c.loop-cell-test.true)) })

pub loop-cell-preserved : goal.loop-cell-preserved
loop-cell-preserved c =
    let l = c.loop-cell in (
      rw l.invariant.1 (words_more c.args.cells.now l.cell-index c.place.result l.words l.invariant.0 c.place.ensures.1 c.place.ensures.0),
      next_bit l.bit l.cell-index l.invariant.1 (omega (arith, c.requires, c.loop-cell-test.true)),
    )

pub returns : goal.returns
returns c = c.loop-cell.invariant.0 ∙ words_all c.args.cells.now c.loop-cell.cell-index (omega (arith, c.loop-cell.auto.cell-index-end, c.loop-cell-test.false))
