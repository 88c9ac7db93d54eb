-- Document 01's marked examples, of the definitions: one table, one statement.
use Prim.Native.Nat.{ℕ}
use Prim.Native.Char.{code}
use Prim.Native.String.{String, [] as ε, ◌∷◌ as ◌▸◌}
use mathlib.Core.Path.{◌≡◌, refl, ap, ap₂}
use mathlib.Core.Bool.{true, false}
use mathlib.Core.List.{List, [], ◌∷◌, map}
use lib.ListN.{replicate, set}
use Rattle.squares.specs.Bit.{digit}
use Rattle.squares.specs.Board.{on_side, on_board, square_at, file_of, rank_of}
use Rattle.squares.specs.Kinds.{kind_row, kinds, good_colour, good_cell, good_piece, good_kind, hand_kind, other_colour, colour_of, kind_of, promoted_piece, piece_of}
use Rattle.squares.specs.Sets.{empty_s, not_s, count_of, size, flip_s, shift_s, all_good}
use Rattle.squares.specs.Answers.{pop_answer}
use Rattle.squares.specs.declared.bitboard.Direction.TheVariants.{Down, Up, Left, Right}
use Rattle.squares.proofs.Laws.{squares, marked-sets}
use Rattle.position.specs.declared.mv.Move.{Move}
use Rattle.position.specs.declared.mv.Move.TheVariants.{Normal, Drop}
use Rattle.position.specs.Machine.{Machine, machine, full, family, tab, no_move, start_ranks, start_cells, start_position}
use Rattle.position.specs.Sound.{any_below, king_wrong, standing, top_ply, good_ply, good_last, sound}
use Rattle.position.specs.Answers.{Answer, first_fact, hand_at}
use Rattle.position.specs.Moves.{bad_move, normal_facts, drop_facts, rule_facts, arriving, held, moved, next, move_played}
use Rattle.position.specs.Games.{plain_number, plain_next, plain_answer}
use Rattle.position.proofs.Laws.{Sized, plays_plain, machine-sound, start-sound}
use Rattle.sfen.specs.Text.{shogi, letter_of, kind_text, piece_text, run, rank_text, down, rank_cells, ranks, later_text, ranks_text, board_text, side_byte, decimal, number_text, count_text, hand_text, or_dash, hands_text, text, position_text}

-- the bytes of a text in ASCII
pub bytes : String → List ℕ
bytes ε = []
bytes (c ▸ s) = code c ∷ bytes s

-- a move from the start: the number answered, and the text of the position handed back
abbrev pub shown : Answer → ℕ × List ℕ
shown a = (a.told.number, position_text a.position)

abbrev pub from_start : Move → ℕ × List ℕ
from_start v = shown (move_played start_position v)

-- "no pieces on board, Black holds a rook and 2 pawns, White 10 pawns, White to move, ply 7"
pub pawns : Machine
pawns =
    record {
      cells = replicate 81 0;
      hands = set (set (set (replicate 14 0) (hand_at 1 7) 1) (hand_at 1 1) 2) (hand_at 2 1) 10;
      side = 2;
      last = no_move;
      ply = 7;
    }

pawns_sound : sound (full pawns) ≡ true
unfolding pawns hand_at all_good any_below king_wrong standing count_of digit good_cell good_piece good_kind kind_of kind_row kinds good_colour good_ply top_ply good_last
pawns_sound = machine-sound pawns 0 0 refl refl refl refl refl refl refl

-- 5E to 5D, 3C to 3D, 5I to 5H promoting, 5I to 5I, 5I to 5A, a black pawn dropped on 5G and on 5E
abbrev pub refusals : List Move
refusals = Normal 41 40 false ∷ Normal 21 22 false ∷ Normal 45 44 true ∷ Normal 45 45 false ∷ Normal 45 37 false ∷ Drop 1 43 ∷ Drop 1 41 ∷ []

-- ---- from the start the plain machine says the same, and it computes
start_sized : Sized start_position
unfolding start_position full start_cells family tab
start_sized = record { board = refl; hands = refl; players = refl; kinds = refl }

plain : (v : Move) → move_played start_position v ≡ plain_answer (machine start_position) v
plain v = plays_plain start_position start_sized start-sound v

numbers : (vs : List Move) → map (λ v. (move_played start_position v).told.number) vs ≡ map (λ v. (plain_answer (machine start_position) v).told.number) vs
numbers [] = refl
numbers (v ∷ vs) = ap₂ (λ (n : ℕ) (ns : List ℕ). n ∷ ns) (ap (λ (a : Answer). a.told.number) (plain v)) (numbers vs)

-- ---- the table. 1A 1, 2A 10, 2B 11, 2I 18, 3C 21, 3D 22, 5A 37, 5D 40, 5E 41, 5G 43, 5H 44, 5I 45, 7F 60, 7G 61, 7I 63,
-- 8A 64, 8H 71, 8I 72, 9A 73; a black pawn is 1
pub marked :
    -- M1
    (flip_s (squares (64 ∷ [])) ≡ squares (18 ∷ []))
    -- M2, M3
    × (shift_s Right 0 (squares (64 ∷ [])) ≡ squares (64 ∷ []))
    × (shift_s Right 1 (squares (73 ∷ [])) ≡ squares (64 ∷ []))
    × (size (shift_s Right 1 (squares (73 ∷ []))) ≡ 1)
    -- M4, M5
    × (shift_s Left 1 (squares (63 ∷ [])) ≡ squares (72 ∷ []))
    × (shift_s Left 8 (squares (1 ∷ 10 ∷ [])) ≡ squares (73 ∷ []))
    -- M6
    × (shift_s Down 1 (squares (45 ∷ [])) ≡ empty_s)
    × (shift_s Down 9 (not_s empty_s) ≡ empty_s)
    × (shift_s Up 9 (not_s empty_s) ≡ empty_s)
    × (shift_s Left 9 (not_s empty_s) ≡ empty_s)
    × (shift_s Right 9 (not_s empty_s) ≡ empty_s)
    -- M7
    × (pop_answer (squares (63 ∷ 64 ∷ [])) ≡ record { number = 0; found = true; square = 63; set = squares (64 ∷ []) })
    -- M8
    × (position_text start_position ≡ bytes "lnsgkgsnl/1r5b1/ppppppppp/9/9/9/PPPPPPPPP/1B5R1/LNSGKGSNL b - 1")
    -- M9
    × (from_start (Normal 61 60 false) ≡ (0, bytes "lnsgkgsnl/1r5b1/ppppppppp/9/9/2P6/PP1PPPPPP/1B5R1/LNSGKGSNL w - 2"))
    -- M10
    × (from_start (Normal 71 11 true) ≡ (0, bytes "lnsgkgsnl/1r5+B1/ppppppppp/9/9/9/PPPPPPPPP/7R1/LNSGKGSNL w B 2"))
    -- M11, and its position is sound
    × (sound (full pawns) ≡ true)
    × (position_text (full pawns) ≡ bytes "9/9/9/9/9/9/9/9/9 w R2P10p 7")
    -- M12
    × (map (λ v. (move_played start_position v).told.number) refusals ≡ 3 ∷ 4 ∷ 5 ∷ 6 ∷ 7 ∷ 9 ∷ 10 ∷ [])
unfolding top_ply digit on_side on_board square_at file_of rank_of bytes pawns position_text text shogi board_text ranks rank_cells down tab ranks_text later_text rank_text run piece_text kind_text letter_of kind_row kinds colour_of kind_of good_piece good_kind hand_kind other_colour promoted_piece piece_of side_byte decimal number_text count_text hand_text or_dash hands_text hand_at start_position start_cells start_ranks full machine plain_answer plain_number plain_next first_fact bad_move rule_facts normal_facts drop_facts next moved arriving held
marked = (
  marked-sets.0,
  marked-sets.1,
  marked-sets.2,
  marked-sets.3,
  marked-sets.4,
  marked-sets.5,
  marked-sets.6,
  marked-sets.7,
  marked-sets.8,
  marked-sets.9,
  marked-sets.10,
  marked-sets.11,
  refl,
  ap shown (plain (Normal 61 60 false)),
  ap shown (plain (Normal 71 11 true)),
  pawns_sound,
  refl,
  numbers refusals,
)
