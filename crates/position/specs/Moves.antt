-- make_move: the facts that refuse a move, and the plain machine after it.
use Rattle.std.specs.Prelude.{ℕ, ◌+◌, ◌-◌, Bool, not, ◌&&◌, ◌||◌, cond, List, [], ◌∷◌, get_or, set, eqb, leb}
use Rattle.squares.specs.Board.{on_board}
use Rattle.squares.specs.Kinds.{good_piece, hand_kind, other_colour, colour_of, kind_of, promoted_piece}
use Rattle.position.specs.Machine.{Machine, machine, full, cell_at}
use Rattle.position.specs.Sound.{sound, top_ply}
use Rattle.position.specs.Answers.{Answer, Fact, gives, first_fact, told_by, hand_at}
use Rattle.position.specs.declared.position.Position.{Position}
use Rattle.position.specs.declared.mv.Move.{Move}
use Rattle.position.specs.declared.mv.Move.TheVariants.{Normal, Drop}
use Rattle.position.specs.declared.mv.MoveNumbers.{MoveNumbers}

-- "2: a number out of range"; "where a call asks for a piece, 0 gives number 2"
unfoldable pub bad_move : Move → Bool
bad_move (Normal from to promote) = not (on_board 9 from && on_board 9 to)
bad_move (Drop piece to) = not (good_piece piece && on_board 9 to)

-- "for a normal move 3, 4, 5, 6, 7, 11": of the piece c on the from square and the cell t of the to square
unfoldable pub normal_facts : ℕ → ℕ → Bool → ℕ → ℕ → List Fact
normal_facts c t promote side ply =
    gives 3 (eqb c 0)
    ∷ gives 4 (not (eqb (colour_of c) side))
    ∷ gives 5 (promote && eqb (promoted_piece c) 0)
    ∷ gives 6 (eqb (colour_of t) side)
    ∷ gives 7 (eqb (kind_of t) 8)
    ∷ gives 11 (eqb ply top_ply)
    ∷ []

-- "for a drop 4, 8, 9, 10, 11"; "10: that kind is not in hand (a king never is)": count is how many are in hand
unfoldable pub drop_facts : ℕ → ℕ → ℕ → ℕ → ℕ → List Fact
drop_facts piece t count side ply =
    gives 4 (not (eqb (colour_of piece) side))
    ∷ gives 8 (leb 9 (kind_of piece))
    ∷ gives 9 (not (eqb t 0))
    ∷ gives 10 (eqb (kind_of piece) 8 || eqb count 0)
    ∷ gives 11 (eqb ply top_ply)
    ∷ []

-- the facts of a move on the plain machine
unfoldable pub rule_facts : Machine → Move → List Fact
rule_facts m (Normal from to promote) = normal_facts (cell_at m.cells from) (cell_at m.cells to) promote m.side m.ply
rule_facts m (Drop piece to) = drop_facts piece (cell_at m.cells to) (get_or m.hands (hand_at m.side (kind_of piece)) 0) m.side m.ply

-- "Order: 2, then 1, then .."
unfoldable pub move_facts : Position → Move → List Fact
move_facts p m = gives 2 (bad_move m) ∷ gives 1 (not (sound p)) ∷ rule_facts (machine p) m

-- "the piece (promoted if asked)"
unfoldable pub arriving : Bool → ℕ → ℕ
arriving promote c = cond promote (promoted_piece c) c

-- "adds what it took, unpromoted, to the mover's hand": nothing where t is an empty cell, or a king
unfoldable pub held : ℕ → ℕ → List ℕ → List ℕ
held side t hands =
    let k = hand_kind (kind_of t) in
    let at = hand_at side k in
    cond (eqb k 0) hands (set hands at (get_or hands at 0 + 1))

-- "A drop takes one from the hand"
unfoldable pub spent : ℕ → ℕ → List ℕ → List ℕ
spent side piece hands = let at = hand_at side (kind_of piece) in set hands at (get_or hands at 0 - 1)

-- "record the move"
unfoldable pub numbers_of : Move → MoveNumbers
numbers_of (Normal from to promote) = record { tag = 1; a = from; b = to; promote = cond promote 1 0 }
numbers_of (Drop piece to) = record { tag = 2; a = piece; b = to; promote = 0 }

-- "a normal move empties from, puts the piece (promoted if asked) on to, and adds what it took, unpromoted, to the mover's
-- hand"; "Both record the move, switch sides and add 1 to ply"
unfoldable pub moved : Machine → ℕ → ℕ → Bool → Machine
moved m from to promote =
    record {
      cells = set (set m.cells (from - 1) 0) (to - 1) (arriving promote (cell_at m.cells from));
      hands = held m.side (cell_at m.cells to) m.hands;
      side = other_colour m.side;
      last = numbers_of (Normal from to promote);
      ply = m.ply + 1;
    }

-- "A drop takes one from the hand and places it."
unfoldable pub dropped : Machine → ℕ → ℕ → Machine
dropped m piece to =
    record {
      cells = set m.cells (to - 1) piece;
      hands = spent m.side piece m.hands;
      side = other_colour m.side;
      last = numbers_of (Drop piece to);
      ply = m.ply + 1;
    }

-- the plain machine after a move
unfoldable pub next : Machine → Move → Machine
next m (Normal from to promote) = moved m from to promote
next m (Drop piece to) = dropped m piece to

-- "make_move answers as the plain machine over cells and hands"; "Every number but 0 hands back the position as given"
unfoldable pub move_played : Position → Move → Answer
move_played p m =
    let facts = move_facts p m in
    record { told = told_by p facts; position = cond (eqb (first_fact facts) 0) (full (next (machine p) m)) p }
