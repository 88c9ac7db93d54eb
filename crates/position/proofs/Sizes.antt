-- A value of the program's type is sized: what owning it tells of its arrays.
use native.Mathlib.Omega.{arith}
use mathlib.Core.List.{List}
use mir.Val.{Val}
use denote.Laws.{Is}
use lib.ListN.{length-map}
use Rattle.position.specs.Machine.{Sized}
use Rattle.position.specs.declared.position.Position.{Position}

pub sized : (p : Position) (v : List Val) → Is (Rattle.position.specs.contracts.position.Position.the_row) p v → Sized p
sized p v g =
    record {
      board = omega (arith, length-map p.board (denote.Struct.Field.u8-field).into, g);
      hands = omega (arith, length-map p.hands (denote.Struct.Field.u8-field).into, g);
      players = omega (arith, length-map p.players (Rattle.squares.specs.contracts.bitboard.Bitboard.the_type).to, g);
      kinds = omega (arith, length-map p.kinds (Rattle.squares.specs.contracts.bitboard.Bitboard.the_type).to, g);
    }
