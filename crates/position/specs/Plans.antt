-- A move planned in numbers, and what the functions of a move promise one another. No public promise cites this file.
use Rattle.std.specs.Prelude.{ℕ, ◌+◌, ◌-◌, ◌≤◌, ◌<◌, ◌≡◌, Bool, true, false, ◌||◌, cond, List, get_or, set, eqb, Result, Ok, Err}
use Rattle.squares.specs.declared.bitboard.Bitboard.{Bitboard}
use Rattle.squares.specs.Kinds.{hand_kind, other_colour, colour_of, kind_of}
use Rattle.squares.specs.Sets.{empty_s, single_s, xor_s}
use Rattle.position.specs.Sound.{top_ply, sound}
use Rattle.position.specs.Answers.{answer_given, hand_at}
use Rattle.position.specs.Moves.{bad_move, arriving, numbers_of, move_played}
use Rattle.position.specs.Inner.{OnBoard}
use Rattle.position.specs.declared.position.Position.{Position}
use Rattle.position.specs.declared.answers.Refusal.{Refusal}
use Rattle.position.specs.declared.plan.Plan.{Plan}
use Rattle.position.specs.declared.mv.Move.{Move}
use Rattle.position.specs.declared.mv.Move.TheVariants.{Normal, Drop}

-- what the halves of make_move ask: neither 2 nor 1 refuses
pub record Ready (p : Position) (m : Move) : Type 0 where
  pub good : bad_move m ≡ false
  pub whole : sound p ≡ true

-- what putting the piece of a cell t into a hand asks
pub record RoomFor (hands : List ℕ) (side t : ℕ) : Type 0 where
  pub side_low : 1 ≤ side
  pub side_high : side ≤ 2
  pub few : (hand_kind (kind_of t) ≡ 0 → ⊥) → get_or hands (hand_at side (hand_kind (kind_of t))) 0 < 255

-- what taking a piece out of a hand asks
pub record Holds (hands : List ℕ) (side piece : ℕ) : Type 0 where
  pub side_low : 1 ≤ side
  pub side_high : side ≤ 2
  pub kind_low : 1 ≤ kind_of piece
  pub kind_high : kind_of piece ≤ 7
  pub some : 1 ≤ get_or hands (hand_at side (kind_of piece)) 0

-- the piece c leaves from; on to stood t
unfoldable pub normal_plan : ℕ → ℕ → Bool → ℕ → ℕ → List ℕ → Plan
normal_plan from to promote c t hands =
    record {
      from = from;
      to = to;
      left = c;
      taken = t;
      piece = arriving promote c;
      hands = hands;
      last = numbers_of (Normal from to promote);
    }

-- the piece comes to a square that is empty
unfoldable pub drop_plan : ℕ → ℕ → List ℕ → Plan
drop_plan piece to hands =
    record { from = to; to = to; left = 0; taken = 0; piece = piece; hands = hands; last = numbers_of (Drop piece to) }

-- the square of one leaves the set of the mark k, or joins it; the mark of an empty cell, 0, has no set
unfoldable pub toggled : List Bitboard → ℕ → Bitboard → List Bitboard
toggled sets k one = cond (eqb k 0) sets (set sets (k - 1) (xor_s (get_or sets (k - 1) empty_s) one))

-- the square of a king, which was `was`, after left and taken went from the board and arrived was put on to
unfoldable pub king_after : ℕ → ℕ → ℕ → ℕ → ℕ → ℕ → ℕ
king_after king was left taken arrived to = cond (eqb arrived king) to (cond (eqb left king || eqb taken king) 0 was)

-- the position with all that the plan changes but the sets
unfoldable pub stored_by : Position → Plan → Position
stored_by p plan =
    record {
      board = set (set p.board (plan.from - 1) 0) (plan.to - 1) plan.piece;
      hands = plan.hands;
      bking = king_after 8 p.bking plan.left plan.taken plan.piece plan.to;
      wking = king_after 24 p.wking plan.left plan.taken plan.piece plan.to;
      side = other_colour p.side;
      last = plan.last;
      ply = p.ply + 1;
      players = p.players;
      kinds = p.kinds;
    }

-- the position with other sets
abbrev pub with_sets : Position → List Bitboard → List Bitboard → Position
with_sets p players kinds =
    record {
      board = p.board;
      hands = p.hands;
      bking = p.bking;
      wking = p.wking;
      side = p.side;
      last = p.last;
      ply = p.ply;
      players = players;
      kinds = kinds;
    }

-- the square n leaves the sets of the cell x, or joins them
unfoldable pub toggled_at : Position → ℕ → ℕ → Position
toggled_at p x n = with_sets p (toggled p.players (colour_of x) (single_s n)) (toggled p.kinds (kind_of x) (single_s n))

-- the plan carried out
unfoldable pub played_by : Position → Plan → Position
played_by p plan =
    toggled_at (toggled_at (toggled_at (stored_by p plan) plan.left plan.from) plan.taken plan.to) plan.piece plan.to

-- what carrying a plan out asks
pub record Playable (p : Position) (plan : Plan) : Type 0 where
  pub at_from : OnBoard plan.from
  pub at_to : OnBoard plan.to
  pub side : p.side ≤ 2
  pub ply : p.ply < top_ply

-- a plan that does what make_move is to do
pub record MovePlan (p : Position) (m : Move) (plan : Plan) : Type 0 where
  pub fits : Playable p plan
  pub does : answer_given p (Ok (played_by p plan)) ≡ move_played p m

-- such a plan, or the refusal that make_move is to answer
abbrev pub Planned : Position → Move → Result Plan Refusal → Type 0
Planned p m (Ok plan) = MovePlan p m plan
Planned p m (Err r) = answer_given p (Err r) ≡ move_played p m
