-- The plain machine of cells and hands, and the position that goes with it.
use Rattle.std.specs.Prelude.{ℕ, ◌-◌, ◌≡◌, List, [], ◌∷◌, length, get_or, replicate, eqb}
use Rattle.squares.specs.Board.{file_of, rank_of}
use Rattle.squares.specs.Kinds.{colour_of, kind_of}
use Rattle.squares.specs.Sets.{first_of}
pub use Rattle.squares.specs.Sets.{cell_at}
unfoldable pub use Rattle.squares.specs.Sets.{tab, family}
use Rattle.position.specs.declared.mv.MoveNumbers.{MoveNumbers}
use Rattle.position.specs.declared.position.Position.{Position}

-- "Each king square names that colour's king, or none where none stands"
unfoldable pub king_square : List ℕ → ℕ → ℕ
king_square cells king = first_of (λ n. eqb (cell_at cells n) king) 1 81

-- "the plain machine over cells and hands"
pub record Machine : Type 0 where
  pub cells : List ℕ
  pub hands : List ℕ
  pub side : ℕ
  pub last : MoveNumbers
  pub ply : ℕ

-- a value of the program's type: its arrays have their lengths
pub record Sized (p : Position) : Type 0 where
  pub board : length p.board ≡ 81
  pub hands : length p.hands ≡ 14
  pub players : length p.players ≡ 2
  pub kinds : length p.kinds ≡ 14

-- a position without what follows from its cells
unfoldable pub machine : Position → Machine
machine p = record { cells = p.board; hands = p.hands; side = p.side; last = p.last; ply = p.ply }

-- the position of a machine: the sets and the king squares are those of its cells
unfoldable pub full : Machine → Position
full m =
    record {
      board = m.cells;
      hands = m.hands;
      bking = king_square m.cells 8;
      wking = king_square m.cells 24;
      side = m.side;
      last = m.last;
      ply = m.ply;
      players = family colour_of 2 m.cells;
      kinds = family kind_of 14 m.cells;
    }

-- "The last move is none", as it is stored
abbrev pub no_move : MoveNumbers
no_move = record { tag = 0; a = 0; b = 0; promote = 0 }

-- "the empty one has Black to move, ply 1"
unfoldable pub empty_position : Position
empty_position = full (record { cells = replicate 81 0; hands = replicate 14 0; side = 1; last = no_move; ply = 1 })

-- the start as a board is seen: rank 1 to rank 9, each from file 9 to file 1
unfoldable pub start_ranks : List (List ℕ)
start_ranks =
    (18 ∷ 19 ∷ 20 ∷ 21 ∷ 24 ∷ 21 ∷ 20 ∷ 19 ∷ 18 ∷ [])
    ∷ (0 ∷ 23 ∷ 0 ∷ 0 ∷ 0 ∷ 0 ∷ 0 ∷ 22 ∷ 0 ∷ [])
    ∷ replicate 9 17
    ∷ replicate 9 0
    ∷ replicate 9 0
    ∷ replicate 9 0
    ∷ replicate 9 1
    ∷ (0 ∷ 6 ∷ 0 ∷ 0 ∷ 0 ∷ 0 ∷ 0 ∷ 7 ∷ 0 ∷ [])
    ∷ (2 ∷ 3 ∷ 4 ∷ 5 ∷ 8 ∷ 5 ∷ 4 ∷ 3 ∷ 2 ∷ [])
    ∷ []

-- the same by the squares' numbers
unfoldable pub start_cells : List ℕ
start_cells = tab (λ n. get_or (get_or start_ranks (rank_of 9 n - 1) []) (9 - file_of 9 n) 0) 1 81

-- "Start and empty positions as in the source"
unfoldable pub start_position : Position
start_position = full (record { cells = start_cells; hands = replicate 14 0; side = 1; last = no_move; ply = 1 })
