-- A move that no fact refuses: what the code makes is the position of the machine after it, and that machine is in order.
use mathlib.Core.Path.{◌≡◌, refl, sym, ap, ◌∙◌}
use Prim.Native.Nat.{ℕ, ◌+◌, ◌-◌, ◌≤◌, ◌<◌}
use mathlib.Core.Bool.{Bool, true, false, cond}
use mathlib.Core.List.{List}
use native.Mathlib.Omega.{arith}
use native.Mathlib.Decide.{ℕ_discrete}
use lib.ListN.{length, get_or, set, length-set}
use lib.Seq.{set-set}
use lib.Dec.{leb}
use borrow.Author.Tests.{eqb-false}
use Rattle.squares.specs.Board.{on_board}
use Rattle.squares.specs.Kinds.{kind_row, good_cell, kind_of}
use Rattle.squares.proofs.Laws.{board_on, board_range, cell-piece, piece-cell, cell-zero, colour_range, black_kind, white_kind, other_good}
use Rattle.position.specs.Machine.{Machine, machine, full, cell_at, king_square}
use Rattle.position.specs.Sound.{sound, standing, good_last}
use Rattle.position.specs.Moves.{arriving, held, spent, numbers_of, moved, dropped}
use Rattle.position.specs.declared.position.Position.{Position}
use Rattle.position.specs.declared.mv.Move.TheVariants.{Normal, Drop}
use Rattle.position.proofs.Stores.{cell_same, cell_other}
use Rattle.position.proofs.Kings.{KingIs, king_square_lem, king_moves}
use Rattle.position.proofs.InOrder.{InOrder, Sized, sound-full, sound_order}
use Rattle.position.proofs.Pieces.{Lands, arriving_lands, cell-held, plain_kind}
use Rattle.position.proofs.Carrying.{carried, carry-full}
use Rattle.position.proofs.Tallies.{standing-store, empty-none, held-sum, spent-sum}
use Rattle.position.proofs.Elsewhere.{ply-next}
use Rattle.position.proofs.Ladder.{CanMove, CanDrop, moves_apart}

-- the king stands where the first of its squares is
pub itself : (cells : List ℕ) (king q : ℕ) → KingIs cells king q → KingIs cells king (king_square cells king)
itself cells king q k = rw (king_square_lem cells king q k) k

-- good cells when one is stored
pub store-good : (cells : List ℕ) (n v : ℕ) → 1 ≤ n → n ≤ length cells → good_cell v ≡ true → ((m : ℕ) → on_board 9 m ≡ true → good_cell (cell_at cells m) ≡ true)
    → (m : ℕ) → on_board 9 m ≡ true → good_cell (cell_at (set cells (n - 1) v) m) ≡ true
store-good cells n v lo hi g all m o = by (ℕ_discrete m n)
  where
    by : Dec (m ≡ n) → good_cell (cell_at (set cells (n - 1) v) m) ≡ true
    by (yes e) = rw (e, cell_same cells n v lo hi) g
    by (no d) = rw (cell_other cells n m v lo (board_range 9 m o).0 d) (all m o)

flag_small : (promote : Bool) → leb (cond promote 1 0) 1 ≡ true
flag_small true = refl
flag_small false = refl

-- ---- a normal move
module _ (m : Machine) (from to : ℕ) (promote : Bool) (g : InOrder m) (size : length m.cells ≡ 81) (k : CanMove m from to promote) where
  abbrev c : ℕ
  c = cell_at m.cells from

  abbrev v : ℕ
  v = arriving promote c

  abbrev lifted : List ℕ
  lifted = set m.cells (from - 1) 0

  f_on : on_board 9 from ≡ true
  f_on = board_on 9 from k.start.low k.start.high

  t_on : on_board 9 to ≡ true
  t_on = board_on 9 to k.goal.low k.goal.high

  lands : Lands v c
  lands = arriving_lands promote c (cell-piece c (g.cells from f_on) k.piece) k.form

  one : length lifted ≡ 81
  one = length-set m.cells (from - 1) 0 ∙ size

  to_cell : cell_at lifted to ≡ cell_at m.cells to
  to_cell = cell_other m.cells from to 0 k.start.low k.goal.low (λ e. moves_apart m from to promote k (sym e))

  normal-full : carried (full m) from to v (held m.side (cell_at m.cells to) m.hands) (numbers_of (Normal from to promote)) ≡ full (moved m from to promote)
  unfolding moved
  normal-full = carry-full m from to v _ _ g size k.start.low k.start.high k.goal.low k.goal.high lands.black lands.white

  module _ (room : length m.hands ≡ 14) where
    normal-counts : (j : ℕ) → j < 7
        → standing (set lifted (to - 1) v) (j + 1)
        + (get_or (held m.side (cell_at m.cells to) m.hands) j 0 + get_or (held m.side (cell_at m.cells to) m.hands) (j + 7) 0) ≤ (kind_row (j + 1)).limit
    normal-counts j small =
        let s = colour_range m.side g.side in
        let h = cell-held (cell_at m.cells to) (g.cells to t_on) k.no_king in
        let first = standing-store m.cells (j + 1) from 0 k.start.low k.start.high size in
        let second = rw (to_cell, lands.kind) at (standing-store lifted (j + 1) to v k.goal.low k.goal.high one) in
        let sum = held-sum m.side (cell_at m.cells to) m.hands j s.0 s.1 room small h.kind h.high in
        omega (arith, first, second, sum, g.counts j small, empty-none j)

    pub moved_order : InOrder (moved m from to promote)
    unfolding moved good_last numbers_of
    moved_order =
        record {
          cells =
              store-good lifted to v k.goal.low (rw one k.goal.high) (piece-cell v lands.good)
              (store-good m.cells from 0 k.start.low (rw size k.start.high) cell-zero g.cells);
          black =
              itself _ 8 _ (king_moves m.cells 8 _ from to v size (eqb-false 8 0 refl) k.start.low k.start.high k.goal.low k.goal.high g.black lands.black);
          white =
              itself _ 24 _ (king_moves m.cells 24 _ from to v size (eqb-false 24 0 refl) k.start.low k.start.high k.goal.low k.goal.high g.white lands.white);
          counts = normal-counts;
          side = other_good m.side g.side;
          ply = ply-next m.ply g.ply k.early;
          last = rw (f_on, t_on, flag_small promote);
        }

-- ---- a drop: the square is emptied first, which it is
module _ (m : Machine) (piece to : ℕ) (g : InOrder m) (size : length m.cells ≡ 81) (k : CanDrop m piece to) where
  no_king : (king : ℕ) → kind_of king ≡ 8 → piece ≡ king → ⊥
  no_king king e z = let q : kind_of piece ≡ 8 = ap kind_of z ∙ e in omega (arith, k.kind_high)

  twice : set (set m.cells (to - 1) 0) (to - 1) piece ≡ set m.cells (to - 1) piece
  twice = set-set m.cells (to - 1) 0 piece

  drop-full : carried (full m) to to piece (spent m.side piece m.hands) (numbers_of (Drop piece to)) ≡ full (dropped m piece to)
  unfolding dropped
  drop-full =
      rw (← twice)
      (carry-full m to to piece _ _ g size k.goal.low k.goal.high k.goal.low k.goal.high
      (λ z. absurd (no_king 8 (black_kind 8 (omega arith)) z)) (λ z. absurd (no_king 24 (white_kind 24 (omega arith)) z)))

  module _ (room : length m.hands ≡ 14) where
    drop-counts : (j : ℕ) → j < 7
        → standing (set m.cells (to - 1) piece) (j + 1) + (get_or (spent m.side piece m.hands) j 0 + get_or (spent m.side piece m.hands) (j + 7) 0)
        ≤ (kind_row (j + 1)).limit
    drop-counts j small =
        let s = colour_range m.side g.side in
        let t = rw (k.empty, plain_kind piece k.good (omega (arith, k.kind_high))) at (standing-store m.cells (j + 1) to piece k.goal.low k.goal.high size) in
        let sum = spent-sum m.side piece m.hands j s.0 s.1 room small k.kind_low k.kind_high k.some in
        omega (arith, t, sum, g.counts j small, empty-none j)

    pub dropped_order : InOrder (dropped m piece to)
    unfolding dropped good_last numbers_of
    dropped_order =
        record {
          cells = store-good m.cells to piece k.goal.low (rw size k.goal.high) (piece-cell piece k.good) g.cells;
          black =
              itself _ 8 _ (rw twice at (king_moves m.cells 8 _ to to piece size (eqb-false 8 0 refl) k.goal.low k.goal.high k.goal.low k.goal.high g.black
              (λ z. absurd (no_king 8 (black_kind 8 (omega arith)) z))));
          white =
              itself _ 24 _ (rw twice at (king_moves m.cells 24 _ to to piece size (eqb-false 24 0 refl) k.goal.low k.goal.high k.goal.low k.goal.high g.white
              (λ z. absurd (no_king 24 (white_kind 24 (omega arith)) z))));
          counts = drop-counts;
          side = other_good m.side g.side;
          ply = ply-next m.ply g.ply k.early;
          last = rw (k.good, board_on 9 to k.goal.low k.goal.high);
        }

-- ---- the same of a sound position
module _ (p : Position) (s : Sized p) (h : sound p ≡ true) where
  pub normal_carried : (from to : ℕ) (promote : Bool) → CanMove (machine p) from to promote
      → carried p from to (arriving promote (cell_at p.board from)) (held p.side (cell_at p.board to) p.hands) (numbers_of (Normal from to promote))
      ≡ full (moved (machine p) from to promote)
  unfolding machine
  normal_carried from to promote k =
      ap (λ (q : Position). carried q from to (arriving promote (cell_at p.board from)) (held p.side (cell_at p.board to) p.hands) (numbers_of (Normal from to promote))) (sound-full p s h)
      ∙ normal-full (machine p) from to promote (sound_order p s h) s.board k

  pub drop_carried : (piece to : ℕ) → CanDrop (machine p) piece to
      → carried p to to piece (spent p.side piece p.hands) (numbers_of (Drop piece to)) ≡ full (dropped (machine p) piece to)
  unfolding machine
  drop_carried piece to k =
      ap (λ (q : Position). carried q to to piece (spent p.side piece p.hands) (numbers_of (Drop piece to))) (sound-full p s h)
      ∙ drop-full (machine p) piece to (sound_order p s h) s.board k
