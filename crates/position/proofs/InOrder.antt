-- A sound position is the position of a machine in order, and the position of a machine in order is sound.
use mathlib.Core.Path.{◌≡◌, refl, ◌∙◌}
use Prim.Native.Nat.{ℕ, ◌+◌, ◌≤◌, ◌<◌}
use mathlib.Core.Bool.{true, false, not}
use lib.ListN.{get_or}
use lib.Dec.{eqb}
use borrow.Author.Tests.{ltb-false, le-ltb, not-false, not-true}
use Rattle.squares.specs.Board.{on_board}
use Rattle.squares.specs.Kinds.{kind_row, good_colour, good_cell}
use Rattle.squares.proofs.Laws.{both, board_range, board_on}
use Rattle.position.specs.Machine.{Machine, machine, full, cell_at, king_square}
pub use Rattle.position.specs.Machine.{Sized}
use Rattle.position.specs.Sound.{any_below, stray_in, standing, over_limit, good_ply, good_last, first_fault, fault_elsewhere, sound}
use Rattle.position.specs.Inner.{Tidy}
use Rattle.position.specs.declared.position.Position.{Position}
use Rattle.position.proofs.Agree.{or_false_both, any_each, any_all}
use Rattle.position.proofs.Kings.{KingIs, king_is, king_right, king_square_lem}
use Rattle.position.proofs.Tidiness.{sound-tidy, tidy-sound, tidy_strays}

-- ---- a machine in order
pub record InOrder (m : Machine) : Type 0 where
  pub cells : (n : ℕ) → on_board 9 n ≡ true → good_cell (cell_at m.cells n) ≡ true
  pub black : KingIs m.cells 8 (king_square m.cells 8)
  pub white : KingIs m.cells 24 (king_square m.cells 24)
  pub counts : (j : ℕ) → j < 7
      → standing m.cells (j + 1) + (get_or m.hands j 0 + get_or m.hands (j + 7) 0) ≤ (kind_row (j + 1)).limit
  pub side : good_colour m.side ≡ true
  pub ply : good_ply m.ply ≡ true
  pub last : good_last m.last ≡ true

-- what no fault elsewhere says
record NoFault (p : Position) : Type 0 where
  black : KingIs p.board 8 p.bking
  white : KingIs p.board 24 p.wking
  counts : any_below (over_limit p) 7 ≡ false
  side : good_colour p.side ≡ true
  ply : good_ply p.ply ≡ true
  last : good_last p.last ≡ true

no_faults : (p : Position) → sound p ≡ true → NoFault p
unfolding sound fault_elsewhere
no_faults p h =
    let a = or_false_both (any_below (stray_in p.players) 2) _ (not-true (fault_elsewhere p) (both (eqb (first_fault p) 0) (not (fault_elsewhere p)) h).1) in
    let b = or_false_both (any_below (stray_in p.kinds) 14) _ a.1 in
    let e = or_false_both _ _ b.1 in
    let f = or_false_both _ _ e.1 in
    let g = or_false_both _ _ f.1 in
    let i = or_false_both _ _ g.1 in
    let j = or_false_both _ _ i.1 in
    record {
      black = king_is p.board 8 p.bking e.0;
      white = king_is p.board 24 p.wking f.0;
      counts = g.0;
      side = not-false _ i.0;
      ply = not-false _ j.0;
      last = not-false _ j.1;
    }

module _ (p : Position) (s : Sized p) (h : sound p ≡ true) where
  tidy : Tidy p
  tidy = sound-tidy p s h

  -- a sound position is the one of its machine
  pub sound-full : p ≡ full (machine p)
  unfolding full machine
  sound-full =
      let k = no_faults p h in
      rw (king_square_lem p.board 8 p.bking k.black, king_square_lem p.board 24 p.wking k.white, ← tidy.players, ← tidy.kinds)

  pub sound_order : InOrder (machine p)
  unfolding machine over_limit
  sound_order =
      let k = no_faults p h in
      record {
        cells = λ n o. let b = board_range 9 n o in tidy.cells n b.0 b.1;
        black = rw (king_square_lem p.board 8 p.bking k.black) k.black;
        white = rw (king_square_lem p.board 24 p.wking k.white) k.white;
        counts = λ j small. ltb-false _ _ (any_each (over_limit p) 7 j k.counts small);
        side = k.side;
        ply = k.ply;
        last = k.last;
      }

-- ---- and back
module _ (m : Machine) (g : InOrder m) where
  full-tidy : Tidy (full m)
  unfolding full
  full-tidy = record { cells = λ n lo hi. g.cells n (board_on 9 n lo hi); players = refl; kinds = refl }

  few : (j : ℕ) → j < 7 → over_limit (full m) j ≡ false
  unfolding over_limit full
  few j small = le-ltb _ _ (g.counts j small)

  pub order_sound : sound (full m) ≡ true
  unfolding fault_elsewhere full
  order_sound =
      let t = tidy_strays (full m) full-tidy in
      tidy-sound (full m) full-tidy
      ∙ rw (
        t.0,
        t.1,
        king_right m.cells 8 _ g.black,
        king_right m.cells 24 _ g.white,
        any_all (over_limit (full m)) 7 few,
        g.side,
        g.ply,
        g.last,
      )
