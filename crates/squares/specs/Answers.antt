-- The answer of each call: document 01's number, and the values that go with it.
use Rattle.std.specs.Prelude.{ℕ, Bool, true, false, cond, not, ◌&&◌, List, replicate, ◌==◌, nat_le, nat_lt, Option, Some, None, Result, Ok, Err}
use Rattle.squares.specs.Board.{on_side, on_board, square_at, file_of, rank_of, flip_to}
use Rattle.squares.specs.Kinds.{kind_row, good_kind, hand_kind, good_colour, other_colour, good_piece, piece_of, kind_of, colour_of, promoted_piece, unpromoted_piece}
use Rattle.squares.specs.Sets.{has, empty_s, single_s, is_empty, file_s, pattern_of, smallest, without_s, shift_s, all_good, family}
use Rattle.squares.specs.declared.bad_number.BadNumber.{BadNumber}
use Rattle.squares.specs.declared.bitboard.Bitboard.{Bitboard}
use Rattle.squares.specs.declared.bitboard.Direction.{Direction}
use Rattle.squares.specs.declared.marks.Marks.{Marks}

-- ---- what an answer says: document 01's number, and what goes with it

-- a number or a square
pub record NumberValue : Type 0 where
  pub number : ℕ
  pub value : ℕ

-- a kind or a piece, or "nothing": `found` tells the two apart
pub record FormValue : Type 0 where
  pub number : ℕ
  pub found : Bool
  pub value : ℕ

-- a set
pub record SetValue : Type 0 where
  pub number : ℕ
  pub set : Bitboard

-- a yes or no
pub record TruthValue : Type 0 where
  pub number : ℕ
  pub truth : Bool

-- a square, or "nothing", and a set
pub record PopValue : Type 0 where
  pub number : ℕ
  pub found : Bool
  pub square : ℕ
  pub set : Bitboard

-- the colour sets and the kind sets
pub record MarksValue : Type 0 where
  pub number : ℕ
  pub players : List Bitboard
  pub kinds : List Bitboard

-- ---- 0 with the value where the numbers are good, else "2: a number out of range"

-- "A refused call carries .. 0 where a number or square"
abbrev pub number_if : Bool → ℕ → NumberValue
number_if true v = record { number = 0; value = v }
number_if false v = record { number = 2; value = 0 }

-- ".. and "nothing" where a piece or move"; a form of 0 is none
abbrev pub form_if : Bool → ℕ → FormValue
form_if true v = record { number = 0; found = not (v == 0); value = v }
form_if false v = record { number = 2; found = false; value = 0 }

-- "A refused call carries the empty set where it would give a set"
abbrev pub set_if : Bool → Bitboard → SetValue
set_if true s = record { number = 0; set = s }
set_if false s = record { number = 2; set = empty_s }

-- ".. false where a yes or no"
abbrev pub truth_if : Bool → Bool → TruthValue
truth_if true b = record { number = 0; truth = b }
truth_if false b = record { number = 2; truth = false }

-- ---- "If an answer is an enum, a definition gives this paper's number and values for each of its cases"

-- a number, a square or a file's pattern
abbrev pub number_given : Result ℕ BadNumber → NumberValue
number_given (Ok v) = record { number = 0; value = v }
number_given (Err e) = record { number = 2; value = 0 }

-- a kind or a piece, or nothing
abbrev pub form_given : Result (Option ℕ) BadNumber → FormValue
form_given (Ok (Some v)) = record { number = 0; found = true; value = v }
form_given (Ok None) = record { number = 0; found = false; value = 0 }
form_given (Err e) = record { number = 2; found = false; value = 0 }

-- a set
abbrev pub set_given : Result Bitboard BadNumber → SetValue
set_given (Ok s) = record { number = 0; set = s }
set_given (Err e) = record { number = 2; set = empty_s }

-- a yes or no
abbrev pub truth_given : Result Bool BadNumber → TruthValue
truth_given (Ok b) = record { number = 0; truth = b }
truth_given (Err e) = record { number = 2; truth = false }

-- what pop gives
abbrev pub pop_given : Option (ℕ × Bitboard) → PopValue
pop_given (Some p) = record { number = 0; found = true; square = p.0; set = p.1 }
pop_given None = record { number = 0; found = false; square = 0; set = empty_s }

-- the sets of a board; of a refused one each is empty
abbrev pub marks_given : Result Marks BadNumber → MarksValue
marks_given (Ok m) = record { number = 0; players = m.players; kinds = m.kinds }
marks_given (Err e) = record { number = 2; players = replicate 2 empty_s; kinds = replicate 14 empty_s }

-- ---- squares

-- Square::new: "Square number: nine times the file less nine, plus the rank"
unfoldable pub square_answer : ℕ → ℕ → NumberValue
square_answer f r = number_if (on_side 9 f && on_side 9 r) (square_at 9 f r)

-- Square::file: "File 1..9"
unfoldable pub file_answer : ℕ → NumberValue
file_answer n = number_if (on_board 9 n) (file_of 9 n)

-- Square::rank: "rank 1..9"
unfoldable pub rank_answer : ℕ → NumberValue
rank_answer n = number_if (on_board 9 n) (rank_of 9 n)

-- Square::flip: "n goes to 82 - n"
unfoldable pub flip_answer : ℕ → NumberValue
flip_answer n = number_if (on_board 9 n) (flip_to 9 n)

-- ---- colours, kinds and pieces

-- Color::flip: "Colours: Black 1, White 2"
unfoldable pub other_colour_answer : ℕ → NumberValue
other_colour_answer c = number_if (good_colour c) (other_colour c)

-- PieceKind::promote: "Gold, King and promoted kinds do not promote"
unfoldable pub promoted_answer : ℕ → FormValue
promoted_answer k = form_if (good_kind k) (kind_row k).promoted

-- PieceKind::unpromote: "their unpromoted kind"
unfoldable pub unpromoted_answer : ℕ → NumberValue
unpromoted_answer k = number_if (good_kind k) (kind_row k).unpromoted

-- PieceKind::limit: "Full set"
unfoldable pub limit_answer : ℕ → NumberValue
limit_answer k = number_if (good_kind k) (kind_row k).limit

-- PieceKind::letter: "Letters P L N S G B R K"
unfoldable pub letter_answer : ℕ → NumberValue
letter_answer k = number_if (good_kind k) (kind_row k).letter

-- PieceKind::hand_kind: "Hands hold kinds 1..7 only"
unfoldable pub hand_kind_answer : ℕ → FormValue
hand_kind_answer k = form_if (good_kind k) (hand_kind k)

-- Piece::new: "k for a black piece of kind k, 16 + k for a white one"
unfoldable pub piece_answer : ℕ → ℕ → NumberValue
piece_answer k c = number_if (good_kind k && good_colour c) (piece_of k c)

-- Piece::kind: its k
unfoldable pub kind_answer : ℕ → NumberValue
kind_answer c = number_if (good_piece c) (kind_of c)

-- Piece::color: its colour
unfoldable pub colour_answer : ℕ → NumberValue
colour_answer c = number_if (good_piece c) (colour_of c)

-- Piece::promote: as of kinds, the colour kept
unfoldable pub promoted_piece_answer : ℕ → FormValue
promoted_piece_answer c = form_if (good_piece c) (promoted_piece c)

-- Piece::unpromote: as of kinds, the colour kept
unfoldable pub unpromoted_piece_answer : ℕ → NumberValue
unpromoted_piece_answer c = number_if (good_piece c) (unpromoted_piece c)

-- ---- sets

-- Bitboard::single: "single"
unfoldable pub single_answer : ℕ → SetValue
single_answer n = set_if (on_board 9 n) (single_s n)

-- Bitboard::contains: "contains"
unfoldable pub contains_answer : Bitboard → ℕ → TruthValue
contains_answer s n = truth_if (on_board 9 n) (has s n)

-- Bitboard::from_file: "One file from a 9-bit pattern"; "Pattern 512 and up: 2"
unfoldable pub from_file_answer : ℕ → ℕ → SetValue
from_file_answer f p = set_if (on_side 9 f && nat_lt p 512) (file_s f p)

-- Bitboard::get_file: "and back"
unfoldable pub get_file_answer : Bitboard → ℕ → NumberValue
get_file_answer s f = number_if (on_side 9 f) (pattern_of s f)

-- Bitboard::pop: "on the empty set nothing and the empty set"
unfoldable pub pop_answer : Bitboard → PopValue
pop_answer s = record { number = 0; found = not (is_empty s); square = smallest s; set = without_s (smallest s) s }

-- Bitboard::shift: "Shifts by 0..9"; "10 and up: 2"
unfoldable pub shift_answer : Direction → ℕ → Bitboard → SetValue
shift_answer dir d s = set_if (nat_le d 9) (shift_s dir d s)

-- Marks::of: "Two colour sets and fourteen kind sets of squares"; of a bad cell 2, and every set is empty
unfoldable pub marks_answer : List ℕ → MarksValue
marks_answer cells =
    cond (all_good cells) (record { number = 0; players = family colour_of 2 cells; kinds = family kind_of 14 cells })
    (record { number = 2; players = replicate 2 empty_s; kinds = replicate 14 empty_s })
