use mathlib.Core.Path.{◌≡◌, sym, ◌∙◌}
use Prim.Native.Nat.{ℕ, ◌≤◌}
use mathlib.Core.Bool.{true}
use native.Mathlib.Omega.{arith}
use Rattle.squares.specs.Kinds.{good_piece, colour_of, kind_of}
use Rattle.squares.proofs.Laws.{piece_kind}
use lib.ListN.{length}
use Rattle.position.proofs.Playing.{Coloured, colour_toggled, colour_same, kind-toggled, kind-same}
use Rattle.position.proofs.Pieces.{colour_in}
use Rattle.position.proofs.position.Position.toggle.Goals as goal
use Rattle.position.proofs.position.Position.toggle.Goals.{then-cell-ne0, else-cell-ne0}

-- the numbers that the calls tell of a cell that is a piece
colour : (r cell : ℕ) → r ≡ colour_of cell → (cell ≡ 0 → ⊥) → (1 ≤ r) × (r ≤ 2)
colour r cell call some = rw call (colour_in cell some)

kind : (r cell : ℕ) → r ≡ kind_of cell → good_piece cell ≡ true → (1 ≤ r) × (r ≤ 14)
kind r cell call good = rw call (piece_kind cell good)

pub overflow_sub-color_of : goal.overflow_sub-color_of
overflow_sub-color_of c =
    (colour _ _ c.color_of.ensures c.if-cell-ne0.true).0

pub bounds-self-at : goal.bounds-self-at
bounds-self-at c =
    omega (arith, (colour _ _ c.color_of.ensures c.if-cell-ne0.true).1)

pub bounds-self-at-then-cell-ne0 : goal.bounds-self-at-then-cell-ne0
bounds-self-at-then-cell-ne0 c =
    omega (arith, (colour _ _ c.color_of.ensures c.if-cell-ne0.true).1)

pub overflow_sub-kind_of : goal.overflow_sub-kind_of
overflow_sub-kind_of c =
    (kind _ _ c.kind_of.ensures (sym c.is_good.ensures ∙ c.if-is_good.true)).0

pub bounds-self-at-then-is_good : goal.bounds-self-at-then-is_good
bounds-self-at-then-is_good c =
    omega (arith, (kind _ _ c.kind_of.ensures (sym c.is_good.ensures ∙ c.if-is_good.true)).1)

pub bounds-self-at-then-is_good-2 : goal.bounds-self-at-then-is_good-2
bounds-self-at-then-is_good-2 c =
    omega (arith, (kind _ _ c.kind_of.ensures (sym c.is_good.ensures ∙ c.if-is_good.true)).1)

pub returns-then-is_good : goal.returns-then-is_good
returns-then-is_good c =
    let two : length c.args.self.now.players ≡ 2 = omega (arith, c.well_formed) in
    let fourteen : length c.args.self.now.kinds ≡ 14 = omega (arith, c.well_formed) in
    let good : good_piece c.args.cell ≡ true = sym c.is_good.ensures ∙ c.if-is_good.true in
    let toggled : Coloured c.args.self.now c.args.cell c.args.square c.if-cell-ne0.self = elim c.if-cell-ne0.branch [
      | then-cell-ne0 w ↦ w.self-is ∙ colour_toggled _ _ _ _ _ _ _ _ w.from-at.ensures two w.if-cell-ne0.true c.single-one.ensures w.color_of.ensures w.xor.ensures
      | else-cell-ne0 w ↦ w.self-is ∙ colour_same _ _ _ w.if-cell-ne0.false
    ] in
    kind-toggled _ _ _ _ _ _ _ _ _ c.from-at-then-is_good.ensures toggled fourteen good c.single-one.ensures c.kind_of.ensures c.xor-then-is_good.ensures

pub returns-else-is_good : goal.returns-else-is_good
returns-else-is_good c =
    let two : length c.args.self.now.players ≡ 2 = omega (arith, c.well_formed) in
    let fourteen : length c.args.self.now.kinds ≡ 14 = omega (arith, c.well_formed) in
    let toggled : Coloured c.args.self.now c.args.cell c.args.square c.if-cell-ne0.self = elim c.if-cell-ne0.branch [
      | then-cell-ne0 w ↦ w.self-is ∙ colour_toggled _ _ _ _ _ _ _ _ w.from-at.ensures two w.if-cell-ne0.true c.single-one.ensures w.color_of.ensures w.xor.ensures
      | else-cell-ne0 w ↦ w.self-is ∙ colour_same _ _ _ w.if-cell-ne0.false
    ] in
    kind-same _ _ _ _ toggled fourteen (sym c.is_good.ensures ∙ c.if-is_good.false)
