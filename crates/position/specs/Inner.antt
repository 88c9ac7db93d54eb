-- What the inner functions promise one another. No public promise cites this file.
use Rattle.std.specs.Prelude.{ℕ, ◌+◌, ◌-◌, ◌≤◌, ◌<◌, ◌≡◌, Bool, true, false, not, ◌&&◌, cond, List, length, get_or, eqb, leb, Result, Ok, Err}
use Rattle.squares.specs.declared.bitboard.Bitboard.{Bitboard}
use Rattle.squares.specs.Kinds.{kind_row, good_cell, colour_of, kind_of}
use Rattle.squares.specs.Sets.{clean, empty_s, or_s, size, smallest}
use Rattle.position.specs.Machine.{machine, full, cell_at, family}
use Rattle.position.specs.Sound.{sound}
use Rattle.position.specs.Answers.{Fact, first_fact}
use Rattle.position.specs.Edits.{with_cells}
use Rattle.position.specs.declared.position.Position.{Position}
use Rattle.position.specs.declared.answers.Told.{Told}
use Rattle.position.specs.declared.answers.Refusal.{Refusal}
use Rattle.position.specs.declared.answers.Refusal.TheVariants.{EditNotSound}

-- a square's number
pub record OnBoard (n : ℕ) : Type 0 where
  pub low : 1 ≤ n
  pub high : n ≤ 81

-- every cell may hold its value
abbrev pub AllGood : List ℕ → Type 0
AllGood cells = (n : ℕ) → 1 ≤ n → n ≤ 81 → good_cell (cell_at cells n) ≡ true

-- each set is without stray bits
abbrev pub AllClean : List Bitboard → Type 0
AllClean sets = (j : ℕ) → j < length sets → clean (get_or sets j empty_s) ≡ true

-- two lists of sets, compared
pub record Compared (a b : List Bitboard) (r : Bool) : Type 0 where
  pub same : r ≡ true → a ≡ b
  pub differ : r ≡ false → a ≡ b → ⊥

-- a position whose cells are good and whose sets are those of its cells
pub record Tidy (p : Position) : Type 0 where
  pub cells : AllGood p.board
  pub players : p.players ≡ family colour_of 2 p.board
  pub kinds : p.kinds ≡ family kind_of 14 p.board

-- r tells whether it is
pub record TidyTold (p : Position) (r : Bool) : Type 0 where
  pub yes : r ≡ true → Tidy p
  pub no : r ≡ false → Tidy p → ⊥

-- the squares of a king are not just q: none where q is 0
unfoldable pub king_off : Bitboard → ℕ → Bool
king_off s q = not (eqb (smallest s) q && leb (size s) 1)

-- where the set of kind j + 1's promoted form stands among the kind sets; its own where it has none
unfoldable pub promoted_at : ℕ → ℕ
promoted_at j = let k = (kind_row (j + 1)).promoted in cond (eqb k 0) j (k - 1)

-- how many of kind j + 1, promoted or not, the kind sets have
unfoldable pub sets_size : List Bitboard → ℕ → ℕ
sets_size kinds j = size (or_s (get_or kinds j empty_s) (get_or kinds (promoted_at j) empty_s))

-- the same as over_limit, by the kind sets
unfoldable pub over_by_sets : List Bitboard → List ℕ → ℕ → Bool
over_by_sets kinds hands j = not (leb (sets_size kinds j + (get_or hands j 0 + get_or hands (j + 7) 0)) (kind_row (j + 1)).limit)

-- the set of the mark k, from 1 on
unfoldable pub mark_set : List Bitboard → ℕ → Bitboard
mark_set sets k = get_or sets (k - 1) empty_s

-- what is told of the first of these facts, none of which has the number 1
abbrev pub told_first : List Fact → Told
told_first facts = record { number = first_fact facts; square = 0 }

-- r is p with these cells, if they are good
abbrev pub WithBoard : Position → List ℕ → Position → Type 0
WithBoard p cells r = AllGood cells → r ≡ full (with_cells (machine p) cells)

-- q as the answer of an edit: 13 where it is not sound
abbrev pub if_sound : Position → Result Position Refusal
if_sound q = cond (sound q) (Ok q) (Err EditNotSound)
