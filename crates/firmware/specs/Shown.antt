-- The answers as C sees them, each from the answer of the call below: the same number, and the same values.
use Rattle.std.specs.Prelude.{ℕ, cond, Option, Some, None}
use Rattle.squares.specs.Answers.{NumberValue, FormValue, SetValue, TruthValue, PopValue}
use Rattle.position.specs.Machine.{no_move}
use Rattle.position.specs.Sound.{sound}
use Rattle.position.specs.Answers.{ToldPiece, ToldKing, soundness_told}
use Rattle.position.specs.declared.position.Position.{Position}
use Rattle.position.specs.declared.answers.ToldNumber.{ToldNumber}
use Rattle.firmware.specs.declared.answers.CNumber.{CNumber}
use Rattle.firmware.specs.declared.answers.CSet.{CSet}
use Rattle.firmware.specs.declared.answers.CTruth.{CTruth}
use Rattle.firmware.specs.declared.answers.CPattern.{CPattern}
use Rattle.firmware.specs.declared.answers.CPop.{CPop}
use Rattle.firmware.specs.declared.answers.CLast.{CLast}

-- ---- of calls on squares, kinds, pieces and sets

-- a number or a square
abbrev pub number_shown : NumberValue → CNumber
number_shown v = record { number = v.number; value = v.value }

-- a kind or a piece, or "nothing": kinds are 1 to 14, and a piece is "a good cell number other than 0", so that 0 says it
abbrev pub form_shown : FormValue → CNumber
form_shown v = record { number = v.number; value = v.value }

-- a set
abbrev pub set_shown : SetValue → CSet
set_shown v = record { number = v.number; set = v.set }

-- a yes or no
abbrev pub truth_shown : TruthValue → CTruth
truth_shown v = record { number = v.number; truth = v.truth }

-- a file's pattern
abbrev pub pattern_shown : NumberValue → CPattern
pattern_shown v = record { number = v.number; pattern = v.value }

-- a square is 1 to 81, so that 0 says "nothing"
abbrev pub pop_shown : PopValue → CPop
pop_shown v = record { square = v.square; set = v.set }

-- ---- of calls on positions

-- a piece is a cell "other than 0", so that 0 says "nothing"
abbrev pub piece_number : Option ℕ → ℕ
piece_number None = 0
piece_number (Some c) = c

-- the answer of piece_at
abbrev pub piece_shown : ToldPiece → ToldNumber
piece_shown a = record { told = a.told; value = piece_number a.stands }

-- a square is 1 to 81, so that 0 says "nothing"
abbrev pub king_number : Option ℕ → ℕ
king_number None = 0
king_number (Some n) = n

-- the answer of king_position
abbrev pub king_shown : ToldKing → ToldNumber
king_shown a = record { told = a.told; value = king_number a.king }

-- the answer of last_move: "last move (nothing where there is none)", in the four numbers that a position stores, of which zeros say
-- "nothing"
unfoldable pub last_shown : Position → CLast
last_shown p = record { told = soundness_told p; last = cond (sound p) p.last no_move }
