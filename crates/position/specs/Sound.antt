-- "A sound position", and the square that the soundness test reports.
use Rattle.std.specs.Prelude.{ℕ, zero, suc, ◌+◌, ◌-◌, ◌/◌, ◌%◌, Bool, false, not, ◌&&◌, ◌||◌, cond, List, get_or, eqb, leb, ltb}
use Rattle.std.specs.Bool.{beq}
use Rattle.squares.specs.declared.bitboard.Bitboard.{Bitboard}
use Rattle.squares.specs.Board.{on_board, square_at}
use Rattle.squares.specs.Kinds.{kind_row, good_colour, good_cell, good_piece, colour_of, kind_of}
use Rattle.squares.specs.Sets.{has, clean, empty_s, count_of}
use Rattle.position.specs.Machine.{cell_at}
use Rattle.position.specs.declared.mv.MoveNumbers.{MoveNumbers}
use Rattle.position.specs.declared.position.Position.{Position}

-- some number below k passes the test f
unfoldable pub any_below : (ℕ → Bool) → ℕ → Bool
any_below f zero = false
any_below f (suc k) = f k || any_below f k

-- set j of the list, from 0, has square n and the mark of its cell is not j + 1, or the other way round
unfoldable pub disagrees : List Bitboard → ℕ → ℕ → ℕ → Bool
disagrees sets mark n j = not (beq (has (get_or sets j empty_s) n) (eqb mark (j + 1)))

-- "A cell is faulty if its value is bad or any of the sixteen sets disagrees with it there."
unfoldable pub faulty_at : Position → ℕ → Bool
faulty_at p n =
    let c = cell_at p.board n in
    not (good_cell c) || (any_below (disagrees p.players (colour_of c) n) 2 || any_below (disagrees p.kinds (kind_of c) n) 14)

-- "reading order: rank 1 from file 9 to file 1, then rank 2, and so on": square j, from 0
unfoldable pub reading_at : ℕ → ℕ
reading_at j = square_at 9 (9 - j % 9) (j / 9 + 1)

-- the first of the k squares from j on in reading order that passes, or 0
unfoldable pub first_reading : (ℕ → Bool) → ℕ → ℕ → ℕ
first_reading f j zero = 0
first_reading f j (suc k) = let rest = first_reading f (suc j) k in cond (f (reading_at j)) (reading_at j) rest

-- "The soundness test reports the first faulty cell in reading order"; "It reports square 0 where the fault lies elsewhere only"
unfoldable pub first_fault : Position → ℕ
first_fault p = first_reading (faulty_at p) 0 81

-- "with no stray bits"
unfoldable pub stray_in : List Bitboard → ℕ → Bool
stray_in sets j = not (clean (get_or sets j empty_s))

-- "Each king square names that colour's king, or none where none stands"; "at most one king for each colour"
unfoldable pub king_wrong : List ℕ → ℕ → ℕ → Bool
king_wrong cells king q = ltb 81 q || any_below (λ j. not (beq (eqb (cell_at cells (j + 1)) king) (eqb q (j + 1)))) 81

-- how many of kind k stand on the board, "promoted pieces counted with their unpromoted kind"
unfoldable pub standing : List ℕ → ℕ → ℕ
standing cells k = count_of (λ n. eqb (kind_row (kind_of (cell_at cells n))).unpromoted k) 1 81

-- "For each kind 1..7, board plus both hands is at most the full set": kind j + 1 is over it
unfoldable pub over_limit : Position → ℕ → Bool
over_limit p j = ltb (kind_row (j + 1)).limit (standing p.board (j + 1) + (get_or p.hands j 0 + get_or p.hands (j + 7) 0))

-- "The last move is none or has good numbers"
unfoldable pub good_last : MoveNumbers → Bool
good_last l =
    (eqb l.tag 0 && (eqb l.a 0 && (eqb l.b 0 && eqb l.promote 0)))
    || ((eqb l.tag 1 && (on_board 9 l.a && (on_board 9 l.b && leb l.promote 1)))
    || (eqb l.tag 2 && (good_piece l.a && (on_board 9 l.b && eqb l.promote 0))))

-- the last "Move number (ply)"
unfoldable pub top_ply : ℕ
top_ply = 65535

-- "Move number is 1..65535"
unfoldable pub good_ply : ℕ → Bool
good_ply n = leb 1 n && leb n top_ply

-- a fault that is no cell's: stray bits, king squares, counts, "The side to move is 1 or 2", ply, last move
unfoldable pub fault_elsewhere : Position → Bool
fault_elsewhere p =
    any_below (stray_in p.players) 2
    || (any_below (stray_in p.kinds) 14
    || (king_wrong p.board 8 p.bking
    || (king_wrong p.board 24 p.wking
    || (any_below (over_limit p) 7 || (not (good_colour p.side) || (not (good_ply p.ply) || not (good_last p.last)))))))

-- "A sound position"
unfoldable pub sound : Position → Bool
sound p = eqb (first_fault p) 0 && not (fault_elsewhere p)
