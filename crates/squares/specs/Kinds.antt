-- Colours, kinds, cells and pieces by number.
use Rattle.std.specs.Prelude.{ℕ, ◌+◌, ◌-◌, Bool, cond, ◌&&◌, ◌||◌, List, [], ◌∷◌, ◌==◌, nat_le, slice_index_or}

-- what document 01 says of a kind: its unpromoted and its promoted kind (0: none), how many a full set has "promoted
-- pieces counted with their unpromoted kind" (a king: "one for each colour"), and the byte of its letter
pub record Kind : Type 0 where
  pub unpromoted : ℕ
  pub promoted : ℕ
  pub limit : ℕ
  pub letter : ℕ

-- a row of the table below: unpromoted kind, promoted kind, limit, letter
abbrev kind : ℕ → ℕ → ℕ → ℕ → Kind
kind u p l b = record { unpromoted = u; promoted = p; limit = l; letter = b }

-- all 0 for a number that is no kind
abbrev no_kind : Kind
no_kind = kind 0 0 0 0

-- "1 Pawn, 2 Lance, 3 Knight, 4 Silver, 5 Gold, 6 Bishop, 7 Rook, 8 King, 9 to 12 promoted Pawn, Lance, Knight, Silver,
-- 13 promoted Bishop, 14 promoted Rook"; "Letters P L N S G B R K"
unfoldable pub kinds : List Kind
kinds =
    no_kind
    ∷ kind 1 9 18 80
    ∷ kind 2 10 4 76
    ∷ kind 3 11 4 78
    ∷ kind 4 12 4 83
    ∷ kind 5 0 4 71
    ∷ kind 6 13 2 66
    ∷ kind 7 14 2 82
    ∷ kind 8 0 1 75
    ∷ kind 1 0 18 80
    ∷ kind 2 0 4 76
    ∷ kind 3 0 4 78
    ∷ kind 4 0 4 83
    ∷ kind 6 0 2 66
    ∷ kind 7 0 2 82
    ∷ []

-- the row of a kind
unfoldable pub kind_row : ℕ → Kind
kind_row k = slice_index_or kinds k no_kind

-- "Kinds": 1 to 14
unfoldable pub good_kind : ℕ → Bool
good_kind k = nat_le 1 k && nat_le k 14

-- "Hands hold kinds 1..7 only": the kind as which a piece is held in hand, 0 for a king
unfoldable pub hand_kind : ℕ → ℕ
hand_kind k = let u = (kind_row k).unpromoted in cond (u == 8) 0 u

-- "Colours: Black 1, White 2"
unfoldable pub good_colour : ℕ → Bool
good_colour c = c == 1 || c == 2

-- of Black White, of White Black
unfoldable pub other_colour : ℕ → ℕ
other_colour c = 3 - c

-- "k for a black piece of kind k, 16 + k for a white one"
unfoldable pub piece_of : ℕ → ℕ → ℕ
piece_of k c = cond (c == 1) k (16 + k)

-- the colour of a piece; of the empty cell 0
unfoldable pub colour_of : ℕ → ℕ
colour_of c = cond (c == 0) 0 (cond (nat_le c 16) 1 2)

-- the kind of a piece; of the empty cell 0
unfoldable pub kind_of : ℕ → ℕ
kind_of c = cond (nat_le c 16) c (c - 16)

-- "A piece is written as a good cell number other than 0"
unfoldable pub good_piece : ℕ → Bool
good_piece c = good_kind (kind_of c)

-- "0 empty", or a piece: "All other values are bad."
unfoldable pub good_cell : ℕ → Bool
good_cell c = c == 0 || good_piece c

-- the promoted piece of the same colour, 0 for none: "Gold, King and promoted kinds do not promote"
unfoldable pub promoted_piece : ℕ → ℕ
promoted_piece c = let p = (kind_row (kind_of c)).promoted in cond (p == 0) 0 (piece_of p (colour_of c))

-- the unpromoted piece of the same colour
unfoldable pub unpromoted_piece : ℕ → ℕ
unpromoted_piece c = piece_of (kind_row (kind_of c)).unpromoted (colour_of c)
