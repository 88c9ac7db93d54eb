-- Squares, files, ranks and steps, on a board of any side w. Document 01's board has side 9.
use Rattle.std.specs.Prelude.{ℕ, ◌+◌, ◌-◌, ◌*◌, ◌/◌, ◌%◌, Bool, cond, ◌&&◌, nat_le}
use Rattle.squares.specs.declared.bitboard.Direction.{Direction}
use Rattle.squares.specs.declared.bitboard.Direction.TheVariants.{Down, Up, Left, Right}

-- "File 1..9, rank 1..9"
unfoldable pub on_side : ℕ → ℕ → Bool
on_side w k = nat_le 1 k && nat_le k w

-- a square's number: "So 1A is 1, .. 9I is 81"
unfoldable pub on_board : ℕ → ℕ → Bool
on_board w n = nat_le 1 n && nat_le n (w * w)

-- "Square number: nine times the file less nine, plus the rank"; 0 where there is no such file or rank
unfoldable pub square_at : ℕ → ℕ → ℕ → ℕ
square_at w f r = cond (on_side w f && on_side w r) (w * f - w + r) 0

-- the file of a square: what "Square number" makes a number of, taken back
unfoldable pub file_of : ℕ → ℕ → ℕ
file_of w n = (n - 1) / w + 1

-- the rank of a square, in the same way
unfoldable pub rank_of : ℕ → ℕ → ℕ
rank_of w n = (n - 1) % w + 1

-- "Flip: n goes to 82 - n"
unfoldable pub flip_to : ℕ → ℕ → ℕ
flip_to w n = w * w + 1 - n

-- the way back: down and up, left and right undo one another
abbrev pub opposite : Direction → Direction
opposite Down = Up
opposite Up = Down
opposite Left = Right
opposite Right = Left

-- "left adds to the file, right subtracts"
unfoldable pub file_step : Direction → ℕ → ℕ → ℕ
file_step Down d f = f
file_step Up d f = f
file_step Left d f = f + d
file_step Right d f = f - d

-- "down adds to the rank, up subtracts"
unfoldable pub rank_step : Direction → ℕ → ℕ → ℕ
rank_step Down d r = r + d
rank_step Up d r = r - d
rank_step Left d r = r
rank_step Right d r = r

-- the square d steps from n, or 0: "Squares leaving the board vanish"
unfoldable pub step : ℕ → Direction → ℕ → ℕ → ℕ
step w dir d n = cond (on_board w n) (square_at w (file_step dir d (file_of w n)) (rank_step dir d (rank_of w n))) 0
