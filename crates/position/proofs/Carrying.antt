-- A move carried out on the position of a machine in order: what comes is the position of the machine after it.
use mathlib.Core.Path.{◌≡◌, refl}
use Prim.Native.Nat.{ℕ, ◌+◌, ◌-◌, ◌≤◌}
use mathlib.Core.List.{List}
use native.Mathlib.Omega.{arith}
use lib.ListN.{length, set}
use borrow.Author.Tests.{eqb-false}
use Rattle.squares.specs.Kinds.{other_colour, colour_of, kind_of}
use Rattle.squares.specs.Sets.{single_s}
use Rattle.squares.proofs.Laws.{empty_colour, black_kind}
use Rattle.position.specs.Machine.{Machine, full, cell_at, king_square}
use Rattle.position.specs.Plans.{king_after}
use Rattle.position.specs.declared.mv.MoveNumbers.{MoveNumbers}
use Rattle.position.specs.declared.position.Position.{Position}
use Rattle.position.proofs.Stores.{sets_after, move_family}
use Rattle.position.proofs.Kings.{king_square_lem, king_moves}
use Rattle.position.proofs.InOrder.{InOrder}

-- from is emptied and v is put on to
unfoldable pub carried : Position → ℕ → ℕ → ℕ → List ℕ → MoveNumbers → Position
carried p from to v hands last =
    let cells = set p.board (from - 1) 0 in
    let c = cell_at p.board from in
    let t = cell_at cells to in
    record {
      board = set cells (to - 1) v;
      hands = hands;
      bking = king_after 8 p.bking c t v to;
      wking = king_after 24 p.wking c t v to;
      side = other_colour p.side;
      last = last;
      ply = p.ply + 1;
      players = sets_after colour_of p.players c t v (single_s from) (single_s to);
      kinds = sets_after kind_of p.kinds c t v (single_s from) (single_s to);
    }

-- the position of a machine: its sets and king squares stay those of the cells
pub carry-full : (m : Machine) (from to v : ℕ) (hands : List ℕ) (last : MoveNumbers) → InOrder m → length m.cells ≡ 81
    → 1 ≤ from → from ≤ 81 → 1 ≤ to → to ≤ 81 → (v ≡ 8 → cell_at m.cells from ≡ 8) → (v ≡ 24 → cell_at m.cells from ≡ 24)
    → carried (full m) from to v hands last
    ≡ full (record { cells = set (set m.cells (from - 1) 0) (to - 1) v; hands = hands; side = other_colour m.side; last = last; ply = m.ply + 1 })
unfolding carried full
carry-full m from to v hands last g size lf hf lt ht black white =
    rw (
      king_square_lem _ 8 _ (king_moves m.cells 8 (king_square m.cells 8) from to v size (eqb-false 8 0 refl) lf hf lt ht g.black black),
      king_square_lem _ 24 _ (king_moves m.cells 24 (king_square m.cells 24) from to v size (eqb-false 24 0 refl) lf hf lt ht g.white white),
      move_family colour_of empty_colour 2 m.cells from to v lf (omega arith) lt (omega arith),
      move_family kind_of (black_kind 0 (omega arith)) 14 m.cells from to v lf (omega arith) lt (omega arith),
    )
