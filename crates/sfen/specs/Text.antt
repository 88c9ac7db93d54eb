-- "The SFEN text": bytes as numbers. A text is told over the board's side and the kinds held in hand, so that one
-- definition serves boards of other sizes.
use Rattle.std.specs.Prelude.{ℕ, zero, suc, ◌+◌, ◌/◌, ◌%◌, cond, List, [], ◌∷◌, ◌++◌, get_or, eqb, ltb}
use Rattle.squares.specs.Board.{square_at}
use Rattle.squares.specs.Kinds.{kind_row, colour_of, kind_of}
use Rattle.position.specs.declared.position.Position.{Position}
use Rattle.position.specs.Machine.{tab, cell_at}
use Rattle.position.specs.Answers.{hand_at}

-- what of a game its text depends on: how many files and ranks, and the kinds held in hand in the text's order
pub record Game : Type 0 where
  pub width : ℕ
  pub held : List ℕ

-- "the order R B G S N L P"
unfoldable pub shogi : Game
shogi = record { width = 9; held = 7 ∷ 6 ∷ 5 ∷ 4 ∷ 3 ∷ 2 ∷ 1 ∷ [] }

-- "Letters P L N S G B R K, lower case for White": 32 above the capital
unfoldable pub letter_of : ℕ → ℕ → ℕ
letter_of colour k = cond (eqb colour 1) (kind_row k).letter ((kind_row k).letter + 32)

-- "`+` before a promoted piece": its unpromoted kind is another one
unfoldable pub kind_text : ℕ → ℕ → List ℕ
kind_text colour k = let b = letter_of colour k in cond (eqb (kind_row k).unpromoted k) (b ∷ []) (43 ∷ b ∷ [])

-- the same of a cell that is not empty
unfoldable pub piece_text : ℕ → List ℕ
piece_text c = kind_text (colour_of c) (kind_of c)

-- "a run of empty cells as one digit"
unfoldable pub run : ℕ → List ℕ
run zero = []
run (suc e) = (48 + suc e) ∷ []

-- the cells that are left of a rank, behind e empty ones that are not written yet
unfoldable pub rank_text : ℕ → List ℕ → List ℕ
rank_text e [] = run e
rank_text e (zero ∷ cs) = rank_text (suc e) cs
rank_text e (suc c ∷ cs) = run e ++ (piece_text (suc c) ++ rank_text 0 cs)

-- f n, f (n - 1), .., f 1
unfoldable pub down : (ℕ → ℕ) → ℕ → List ℕ
down f zero = []
down f (suc n) = f (suc n) ∷ down f n

-- "in each, files 9 to 1": the cells of rank r of a board of side w
unfoldable pub rank_cells : ℕ → List ℕ → ℕ → List ℕ
rank_cells w cells r = down (λ f. cell_at cells (square_at w f r)) w

-- "Ranks 1 to 9"
unfoldable pub ranks : ℕ → List ℕ → List (List ℕ)
ranks w cells = tab (rank_cells w cells) 1 w

-- "with `/` between": each rank but the first is behind one
unfoldable pub later_text : List (List ℕ) → List ℕ
later_text [] = []
later_text (r ∷ rs) = 47 ∷ (rank_text 0 r ++ later_text rs)

-- the first rank, and the others behind it
unfoldable pub ranks_text : List (List ℕ) → List ℕ
ranks_text [] = []
ranks_text (r ∷ rs) = rank_text 0 r ++ later_text rs

-- the board's part of the text
unfoldable pub board_text : Game → List ℕ → List ℕ
board_text game cells = ranks_text (ranks game.width cells)

-- "`b` or `w`"
unfoldable pub side_byte : ℕ → ℕ
side_byte s = cond (eqb s 1) 98 119

-- the last digits of n in decimal, at most so many
unfoldable pub decimal : ℕ → ℕ → List ℕ
decimal zero n = []
decimal (suc most) n = cond (ltb n 10) ((48 + n) ∷ []) (decimal most (n / 10) ++ (48 + n % 10) ∷ [])

-- "in decimal with no leading zero": n has no more than n + 1 digits
unfoldable pub number_text : ℕ → List ℕ
number_text n = decimal (suc n) n

-- "a count before the letter only above 1"
unfoldable pub count_text : ℕ → ℕ → List ℕ
count_text letter zero = []
count_text letter (suc zero) = letter ∷ []
count_text letter (suc (suc n)) = number_text (suc (suc n)) ++ letter ∷ []

-- a colour's hand: its count of each of the kinds
unfoldable pub hand_text : List ℕ → List ℕ → ℕ → List ℕ
hand_text [] hands colour = []
hand_text (k ∷ ks) hands colour = count_text (letter_of colour k) (get_or hands (hand_at colour k) 0) ++ hand_text ks hands colour

-- "`-` if both are empty"
unfoldable pub or_dash : List ℕ → List ℕ
or_dash [] = 45 ∷ []
or_dash (b ∷ bs) = b ∷ bs

-- "Hands: `-` if both are empty, else Black's then White's"
unfoldable pub hands_text : Game → List ℕ → List ℕ
hands_text game hands = or_dash (hand_text game.held hands 1 ++ hand_text game.held hands 2)

-- "Space, `b` or `w`, space, hands, space, ply"
unfoldable pub text : Game → List ℕ → ℕ → List ℕ → ℕ → List ℕ
text game cells side hands ply =
    board_text game cells ++ (32 ∷ side_byte side ∷ 32 ∷ (hands_text game hands ++ 32 ∷ number_text ply))

-- the text of a position: "as 01 defines it"
unfoldable pub position_text : Position → List ℕ
position_text p = text shogi p.board p.side p.hands p.ply
