-- Unique reading, over any game: a text tells the cells, the side, the counts in hand and the ply.
use Prim.Native.Nat.{ℕ, ◌≤◌, ◌<◌}
use native.Mathlib.Omega.{arith}
use mathlib.Core.Logic.{◌⊎◌, inl, inr, ⊎_elim}
use mathlib.Core.Path.{◌≡◌}
use mathlib.Core.Bool.{Bool, true, false, cond}
use mathlib.Core.List.{List, ◌∷◌, ◌++◌}
use lib.Dec.{lit<, lit≤, eqb}
use Rattle.squares.specs.Board.{on_board}
use Rattle.squares.specs.Kinds.{good_colour}
use Rattle.squares.proofs.Laws.{le-or-lt, colour_range}
use Rattle.position.specs.Machine.{cell_at}
use Rattle.sfen.specs.Text.{Game, board_text, side_byte, number_text, hands_text, text}
use Rattle.sfen.proofs.Cut.{Over, over_append, over_less, cut}
use Rattle.sfen.proofs.Boards.{GoodCells, board_over, board-same}
use Rattle.sfen.proofs.Counts.{Distinct, letters, counts, number_same, number_over, hands_over, hands-same}

-- a game whose texts can be read: a run of empty cells has one digit, and the kinds in hand have letters of their own
pub record Readable (game : Game) : Type 0 where
  pub small : game.width ≤ 9
  pub above : Over 57 (letters game.held)
  pub apart : Distinct (letters game.held)

-- what the text tells
pub record Same (game : Game) (cs ds : List ℕ) (s t : ℕ) (hs ks : List ℕ) (m n : ℕ) : Type 0 where
  pub cells : (sq : ℕ) → on_board game.width sq ≡ true → cell_at cs sq ≡ cell_at ds sq
  pub side : s ≡ t
  pub hands : counts game.held hs ≡ counts game.held ks
  pub ply : m ≡ n

colours : (s : ℕ) → 1 ≤ s → s ≤ 2 → (s ≡ 1) ⊎ (s ≡ 2)
colours s l h = ⊎_elim (λ (q : s ≤ 1). inl (omega arith)) (λ (q : 1 < s). inr (omega arith)) (le-or-lt s 1)

side_same : (s t : ℕ) → good_colour s ≡ true → good_colour t ≡ true → side_byte s ≡ side_byte t → s ≡ t
unfolding side_byte
side_same s t g h e =
    let a = colour_range s g in
    let b = colour_range t h in
    go (colours s a.0 a.1) (colours t b.0 b.1) e
  where
    go : (s ≡ 1) ⊎ (s ≡ 2) → (t ≡ 1) ⊎ (t ≡ 2) → ◌≡◌ {A = ℕ} (cond (eqb s 1) 98 119) (cond (eqb t 1) 98 119) → s ≡ t
    go (inl p) (inl q) e = cc
    go (inr p) (inr q) e = cc
    go (inl p) (inr q) e = absurd (omega (arith, rw (p, q) at e))
    go (inr p) (inl q) e = absurd (omega (arith, rw (p, q) at e))

side_over : (s : ℕ) → 32 < side_byte s
unfolding side_byte
side_over s = go (eqb s 1)
  where
    go : (b : Bool) → 32 < cond b 98 119
    go true = lit< tt
    go false = lit< tt

module _ (game : Game) (r : Readable game) where
  -- every byte is a space or above it: in particular there is no newline
  pub text_over : (cs : List ℕ) (s : ℕ) (hs : List ℕ) (m : ℕ) → GoodCells game.width cs → Over 31 (text game cs s hs m)
  unfolding text
  text_over cs s hs m g =
      over_append 31 (board_text game cs) _ (low (board_text game cs) (board_over game r.small cs g)) (
        lit< tt,
        (
          omega (arith, side_over s),
          (lit< tt, over_append 31 (hands_text game hs) _ (low (hands_text game hs) (hands_over game r.above hs)) (lit< tt, low (number_text m) (number_over m))),
        ),
      )
    where
      low : (bs : List ℕ) → Over 32 bs → Over 31 bs
      low bs = over_less 31 32 bs (lit≤ tt)

  pub text_same : (cs ds : List ℕ) (s t : ℕ) (hs ks : List ℕ) (m n : ℕ) → GoodCells game.width cs → GoodCells game.width ds → good_colour s ≡ true → good_colour t ≡ true
      → text game cs s hs m ≡ text game ds t ks n → Same game cs ds s t hs ks m n
  unfolding text
  text_same cs ds s t hs ks m n g h gs gt e =
      let a = cut 32 (board_text game cs) (board_text game ds) _ _ (board_over game r.small cs g) (board_over game r.small ds h) e in
      let b : side_byte s ≡ side_byte t = cc a.1 in
      let q : hands_text game hs ++ 32 ∷ number_text m ≡ hands_text game ks ++ 32 ∷ number_text n = cc a.1 in
      let c = cut 32 (hands_text game hs) (hands_text game ks) _ _ (hands_over game r.above hs) (hands_over game r.above ks) q in
      record {
        cells = board-same game r.small cs ds g h a.0;
        side = side_same s t gs gt b;
        hands = hands-same game r.above r.apart hs ks c.0;
        ply = number_same m n c.1;
      }
