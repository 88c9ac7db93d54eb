-- The edits: one cell, one hand count, side, ply; the facts that refuse one, and the plain machine after it.
use Rattle.std.specs.Prelude.{ℕ, ◌-◌, Bool, not, ◌&&◌, cond, List, [], ◌∷◌, set, eqb}
use Rattle.squares.specs.Board.{on_board}
use Rattle.squares.specs.Kinds.{good_colour, good_cell}
use Rattle.position.specs.Machine.{Machine, machine, full}
use Rattle.position.specs.Sound.{good_ply, sound}
use Rattle.position.specs.Answers.{Answer, Fact, gives, first_fact, told_by, hand_at, good_hand_kind}
use Rattle.position.specs.declared.position.Position.{Position}

-- "Order: 2, then 1, then .. for an edit 13"; "13: the edit would make the position unsound": m is the machine after it
unfoldable pub edit_facts : Bool → Position → Machine → List Fact
edit_facts bad p m = gives 2 bad ∷ gives 1 (not (sound p)) ∷ gives 13 (not (sound (full m))) ∷ []

-- "Every number but 0 hands back the position as given"; "the sets follow the cells", and so do the king squares
unfoldable pub edited : Bool → Position → Machine → Answer
edited bad p m =
    let facts = edit_facts bad p m in
    record { told = told_by p facts; position = cond (eqb (first_fact facts) 0) (full m) p }

-- the machine with other cells. "Edits leave the last move as it was."
unfoldable pub with_cells : Machine → List ℕ → Machine
with_cells m cells = record { cells = cells; hands = m.hands; side = m.side; last = m.last; ply = m.ply }

-- with other hands
unfoldable pub with_hands : Machine → List ℕ → Machine
with_hands m hands = record { cells = m.cells; hands = hands; side = m.side; last = m.last; ply = m.ply }

-- with another side to move
unfoldable pub with_side : Machine → ℕ → Machine
with_side m c = record { cells = m.cells; hands = m.hands; side = c; last = m.last; ply = m.ply }

-- with another move number
unfoldable pub with_ply : Machine → ℕ → Machine
with_ply m n = record { cells = m.cells; hands = m.hands; side = m.side; last = m.last; ply = n }

-- piece_set: "Edits: one cell". "2: a number out of range: square, .. cell"; the cell 0 is good: it empties the square
unfoldable pub cell_edited : Position → ℕ → ℕ → Answer
cell_edited p n c = edited (not (on_board 9 n && good_cell c)) p (with_cells (machine p) (set p.board (n - 1) c))

-- hand_set: "one hand count"; 2 for "colour", "hand kind"
unfoldable pub hand_edited : Position → ℕ → ℕ → ℕ → Answer
hand_edited p c k count = edited (not (good_colour c && good_hand_kind k)) p (with_hands (machine p) (set p.hands (hand_at c k) count))

-- side_to_move_set: "side"; 2 for "colour"
unfoldable pub side_edited : Position → ℕ → Answer
side_edited p c = edited (not (good_colour c)) p (with_side (machine p) c)

-- ply_set: "ply"; 2 for "ply 0": its place holds none above the last
unfoldable pub ply_edited : Position → ℕ → Answer
ply_edited p n = edited (not (good_ply n)) p (with_ply (machine p) n)
