-- A whole game: moves played one after the other, by the call and by the plain machine.
use Rattle.std.specs.Prelude.{ℕ, cond, List, [], ◌∷◌, eqb}
use Rattle.position.specs.Machine.{Machine, full}
use Rattle.position.specs.Answers.{Answer, gives, first_fact}
use Rattle.position.specs.Moves.{bad_move, rule_facts, next, move_played}
use Rattle.position.specs.declared.position.Position.{Position}
use Rattle.position.specs.declared.mv.Move.{Move}

-- each move on the position that the call before it handed back
unfoldable pub played_game : Position → List Move → List Answer
played_game p [] = []
played_game p (v ∷ vs) = let r = move_played p v in r ∷ played_game r.position vs

-- the plain machine refuses by the same facts, but for 1
unfoldable pub plain_number : Machine → Move → ℕ
plain_number m v = first_fact (gives 2 (bad_move v) ∷ rule_facts m v)

-- a refused move changes nothing
unfoldable pub plain_next : Machine → Move → Machine
plain_next m v = cond (eqb (plain_number m v) 0) (next m v) m

-- the number, and the position that goes with the machine
unfoldable pub plain_answer : Machine → Move → Answer
plain_answer m v = record { told = record { number = plain_number m v; square = 0 }; position = full (plain_next m v) }

-- each move on the machine that the move before it left
unfoldable pub plain_game : Machine → List Move → List Answer
plain_game m [] = []
plain_game m (v ∷ vs) = plain_answer m v ∷ plain_game (plain_next m v) vs
