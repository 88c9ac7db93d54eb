-- Document 01's marked examples of sets, of the definitions. The table of all twelve, in the topmost crate that has their words, cites
-- them.
use Rattle.std.proofs.Common.{◌≡◌, ℕ, Bool, true, false, ◌||◌, eqb, List, [], ◌∷◌, refl}
use Rattle.squares.specs.Bit.{odd, bit, digit, word}
use Rattle.squares.specs.Board.{on_side, on_board, square_at, file_of, rank_of, flip_to, file_step, rank_step, step}
use Rattle.squares.specs.Sets.{has, set_of, empty_s, not_s, count_of, size, is_empty, flip_s, first_of, smallest, without_s, shift_s}
use Rattle.squares.specs.Answers.{pop_answer}
use Rattle.squares.specs.declared.bitboard.Bitboard.{Bitboard}
use Rattle.squares.specs.declared.bitboard.Direction.TheVariants.{Down, Up, Left, Right}

-- the set of the listed squares
pub among : List ℕ → ℕ → Bool
among [] n = false
among (m ∷ ms) n = eqb n m || among ms n

pub squares : List ℕ → Bitboard
squares ms = set_of (among ms)

-- 1A 1, 2A 10, 2I 18, 5I 45, 7I 63, 8A 64, 8I 72, 9A 73
pub marked-sets :
    -- M1
    (flip_s (squares (64 ∷ [])) ≡ squares (18 ∷ []))
    -- M2, M3
    × (shift_s Right 0 (squares (64 ∷ [])) ≡ squares (64 ∷ []))
    × (shift_s Right 1 (squares (73 ∷ [])) ≡ squares (64 ∷ []))
    × (size (shift_s Right 1 (squares (73 ∷ []))) ≡ 1)
    -- M4, M5
    × (shift_s Left 1 (squares (63 ∷ [])) ≡ squares (72 ∷ []))
    × (shift_s Left 8 (squares (1 ∷ 10 ∷ [])) ≡ squares (73 ∷ []))
    -- M6
    × (shift_s Down 1 (squares (45 ∷ [])) ≡ empty_s)
    × (shift_s Down 9 (not_s empty_s) ≡ empty_s)
    × (shift_s Up 9 (not_s empty_s) ≡ empty_s)
    × (shift_s Left 9 (not_s empty_s) ≡ empty_s)
    × (shift_s Right 9 (not_s empty_s) ≡ empty_s)
    -- M7
    × (pop_answer (squares (63 ∷ 64 ∷ [])) ≡ record { number = 0; found = true; square = 63; set = squares (64 ∷ []) })
unfolding squares among set_of word digit has bit odd on_side on_board square_at file_of rank_of flip_to file_step rank_step step flip_s shift_s size count_of is_empty empty_s not_s pop_answer smallest first_of without_s
marked-sets = (refl, refl, refl, refl, refl, refl, refl, refl, refl, refl, refl, refl)
