-- The answers: a list of facts in document 01's order, and the first that holds.
use Rattle.std.specs.Prelude.{ℕ, ◌+◌, ◌-◌, ◌*◌, Bool, false, not, ◌&&◌, cond, List, [], ◌∷◌, get_or, eqb, leb, Option, Some, None, Result, Ok, Err}
use Rattle.squares.specs.Board.{on_board}
use Rattle.squares.specs.Kinds.{good_kind, good_colour, good_piece, colour_of, kind_of}
use Rattle.squares.specs.Sets.{set_of, empty_s}
use Rattle.squares.specs.declared.bitboard.Bitboard.{Bitboard}
use Rattle.position.specs.Machine.{cell_at, king_square}
use Rattle.position.specs.Sound.{first_fault, sound}
use Rattle.position.specs.declared.position.Position.{Position}
use Rattle.position.specs.declared.mv.Move.{Move}
use Rattle.position.specs.declared.mv.Move.TheVariants.{Normal, Drop}
use Rattle.position.specs.declared.mv.MoveNumbers.{MoveNumbers}
use Rattle.position.specs.declared.answers.Refusal.{Refusal}
use Rattle.position.specs.declared.answers.Refusal.TheVariants as Refused
use Rattle.position.specs.declared.answers.Told.{Told}
use Rattle.position.specs.declared.answers.ToldSet.{ToldSet}
use Rattle.position.specs.declared.answers.ToldNumber.{ToldNumber}
use Rattle.position.specs.declared.answers.ToldPly.{ToldPly}

-- ---- what an answer says: document 01's number, and what goes with it

-- what stands on a square, or "nothing"
pub record ToldPiece : Type 0 where
  pub told : Told
  pub stands : Option ℕ

-- a king's square, or "nothing"
pub record ToldKing : Type 0 where
  pub told : Told
  pub king : Option ℕ

-- the last move, or "nothing"
pub record ToldLast : Type 0 where
  pub told : Told
  pub last : Option Move

-- the position after a call that changes it
pub record Answer : Type 0 where
  pub position : Position
  pub told : Told

-- ---- "If an answer is an enum, a definition gives this paper's number and values for each of its cases"

-- 0: done
abbrev pub done : Told
done = record { number = 0; square = 0 }

-- the number of a refusal, and "the square that goes with 1"
abbrev pub told_of : Refusal → Told
told_of (Refused.NotSound n) = record { number = 1; square = n }
told_of Refused.BadNumber = record { number = 2; square = 0 }
told_of Refused.NothingThere = record { number = 3; square = 0 }
told_of Refused.OtherSide = record { number = 4; square = 0 }
told_of Refused.NoPromotedForm = record { number = 5; square = 0 }
told_of Refused.OwnPiece = record { number = 6; square = 0 }
told_of Refused.TakesKing = record { number = 7; square = 0 }
told_of Refused.PromotedDrop = record { number = 8; square = 0 }
told_of Refused.Occupied = record { number = 9; square = 0 }
told_of Refused.NotInHand = record { number = 10; square = 0 }
told_of Refused.LastPly = record { number = 11; square = 0 }
told_of Refused.ShortBuffer = record { number = 12; square = 0 }
told_of Refused.EditNotSound = record { number = 13; square = 0 }

-- of a call that gives nothing else
abbrev pub told_given : Result (Unit {0}) Refusal → Told
told_given (Ok v) = done
told_given (Err r) = told_of r

-- "A refused call carries the empty set where it would give a set"
abbrev pub told_set_given : Result Bitboard Refusal → ToldSet
told_set_given (Ok s) = record { told = done; set = s }
told_set_given (Err r) = record { told = told_of r; set = empty_s }

-- ".. 0 where a number or square"
abbrev pub told_number_given : Result ℕ Refusal → ToldNumber
told_number_given (Ok v) = record { told = done; value = v }
told_number_given (Err r) = record { told = told_of r; value = 0 }

-- the same of a move number
abbrev pub told_ply_given : Result ℕ Refusal → ToldPly
told_ply_given (Ok n) = record { told = done; ply = n }
told_ply_given (Err r) = record { told = told_of r; ply = 0 }

-- ".. and "nothing" where a piece or move"
abbrev pub told_piece_given : Result (Option ℕ) Refusal → ToldPiece
told_piece_given (Ok s) = record { told = done; stands = s }
told_piece_given (Err r) = record { told = told_of r; stands = None }

-- the same of a king's square
abbrev pub told_king_given : Result (Option ℕ) Refusal → ToldKing
told_king_given (Ok q) = record { told = done; king = q }
told_king_given (Err r) = record { told = told_of r; king = None }

-- the same of the last move
abbrev pub told_last_given : Result (Option Move) Refusal → ToldLast
told_last_given (Ok m) = record { told = done; last = m }
told_last_given (Err r) = record { told = told_of r; last = None }

-- "Every number but 0 hands back the position as given": p, of which the caller has kept a copy
abbrev pub answer_given : Position → Result Position Refusal → Answer
answer_given p (Ok q) = record { position = q; told = done }
answer_given p (Err r) = record { position = p; told = told_of r }

-- ---- the facts

-- an answer number and its fact
pub record Fact : Type 0 where
  pub number : ℕ
  pub fact : Bool

-- the number n is given for this fact
abbrev pub gives : ℕ → Bool → Fact
gives n test = record { number = n; fact = test }

-- "Each number is given exactly when its fact holds and no earlier one does"
unfoldable pub first_fact : List Fact → ℕ
first_fact [] = 0
first_fact (f ∷ fs) = cond f.fact f.number (first_fact fs)

-- the number, and "the square that goes with 1"
unfoldable pub told_by : Position → List Fact → Told
told_by p facts = record { number = first_fact facts; square = cond (eqb (first_fact facts) 1) (first_fault p) 0 }

-- "Order: 2, then 1": the facts of a query, whose numbers are bad or not
unfoldable pub query_facts : Bool → Position → List Fact
query_facts bad p = gives 2 bad ∷ gives 1 (not (sound p)) ∷ []

-- what a query tells beside its value
unfoldable pub told_query : Bool → Position → Told
told_query bad p = told_by p (query_facts bad p)

-- no number refuses
unfoldable pub answered : Bool → Position → Bool
answered bad p = eqb (first_fact (query_facts bad p)) 0

-- "an empty cell answers that nothing stands there, else the piece"
unfoldable pub stood : ℕ → Option ℕ
stood c = cond (eqb c 0) None (Some c)

-- piece_at: "Reading a square"
unfoldable pub piece_at_answer : Position → ℕ → ToldPiece
piece_at_answer p n =
    let bad = not (on_board 9 n) in
    record { told = told_query bad p; stands = cond (answered bad p) (stood (cell_at p.board n)) None }

-- a set of squares by what stands there; the empty set where the call is refused
unfoldable pub set_answer : Bool → (ℕ → Bool) → Position → ToldSet
set_answer bad test p = record { told = told_query bad p; set = cond (answered bad p) (set_of (λ n. test (cell_at p.board n))) empty_s }

-- player_bitboard: "Queries: colour sets"
unfoldable pub colour_set_answer : Position → ℕ → ToldSet
colour_set_answer p c = set_answer (not (good_colour c)) (λ x. eqb (colour_of x) c) p

-- piece_kind_bitboard: "kind sets"
unfoldable pub kind_set_answer : Position → ℕ → ToldSet
kind_set_answer p k = set_answer (not (good_kind k)) (λ x. eqb (kind_of x) k) p

-- piece_bitboard: "piece set"
unfoldable pub piece_set_answer : Position → ℕ → ToldSet
piece_set_answer p v = set_answer (not (good_piece v)) (λ x. eqb x v) p

-- occupied_bitboard: "occupied"
unfoldable pub occupied_answer : Position → ToldSet
occupied_answer p = set_answer false (λ x. not (eqb x 0)) p

-- vacant_bitboard: "vacant"
unfoldable pub vacant_answer : Position → ToldSet
vacant_answer p = set_answer false (λ x. eqb x 0) p

-- side_to_move: "side"
unfoldable pub side_answer : Position → ToldNumber
side_answer p = record { told = told_query false p; value = cond (answered false p) p.side 0 }

-- ply: "ply"
unfoldable pub ply_answer : Position → ToldPly
ply_answer p = record { told = told_query false p; ply = cond (answered false p) p.ply 0 }

-- where a colour's count of the kind k, 1 to 7, stands in the hands: Black's kinds, then White's
unfoldable pub hand_at : ℕ → ℕ → ℕ
hand_at colour k = (colour - 1) * 7 + (k - 1)

-- "Hands hold kinds 1..7 only"
unfoldable pub good_hand_kind : ℕ → Bool
good_hand_kind k = leb 1 k && leb k 7

-- hand: "hand count"
unfoldable pub hand_answer : Position → ℕ → ℕ → ToldNumber
hand_answer p c k =
    let bad = not (good_colour c && good_hand_kind k) in
    record { told = told_query bad p; value = cond (answered bad p) (get_or p.hands (hand_at c k) 0) 0 }

-- a king's square, or "nothing where there is none"
unfoldable pub king_at : ℕ → Option ℕ
king_at q = cond (eqb q 0) None (Some q)

-- king_position: "king square"; the king of a colour is 8 or 24
unfoldable pub king_answer : Position → ℕ → ToldKing
king_answer p c =
    let bad = not (good_colour c) in
    record { told = told_query bad p; king = cond (answered bad p) (king_at (king_square p.board (16 * c - 8))) None }

-- what a stored last move says, or "nothing where there is none"
unfoldable pub last_move : MoveNumbers → Option Move
last_move l =
    cond (eqb l.tag 1) (Some (Normal l.a l.b (eqb l.promote 1)))
    (cond (eqb l.tag 2) (Some (Drop l.a l.b)) None)

-- last_move: "last move"
unfoldable pub last_answer : Position → ToldLast
last_answer p = record { told = told_query false p; last = cond (answered false p) (last_move p.last) None }

-- soundness: "1: position not sound, with the square reported above"
unfoldable pub soundness_told : Position → Told
soundness_told p = told_query false p
