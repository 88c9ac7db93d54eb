-- Demand 3: "Take any two lists of sound positions. Write each position's text as 01 defines it, with one newline byte after
-- each text, and join them. If both lists give the same bytes, they have the same length and agree place by place in board,
-- side, hands and move number."
use Prim.Native.Nat.{ℕ, zero, suc, ◌+◌, ◌-◌, ◌<◌}
use native.Mathlib.Omega.{arith}
use native.Mathlib.Nat.{le_of_suc-le-suc, not-suc-le-zero}
use mathlib.Core.Path.{◌≡◌, sym, ◌∙◌}
use mathlib.Core.Bool.{true}
use mathlib.Core.List.{List, [], ◌∷◌, ◌++◌}
use lib.Dec.{lit<, lit≤}
use lib.ListN.{length, get_or}
use lib.Seq.{ext_get_or}
use Rattle.squares.specs.Board.{on_board}
use Rattle.squares.specs.Kinds.{kinds, kind_row, good_colour}
use Rattle.squares.proofs.Laws.{board_on}
use Rattle.position.specs.declared.position.Position.{Position}
use Rattle.position.specs.Machine.{machine, cell_at}
use Rattle.position.specs.Sound.{sound}
use Rattle.position.specs.Answers.{hand_at}
use Rattle.position.proofs.Laws.{Sized, sound_order}
use Rattle.sfen.specs.Text.{shogi, letter_of, position_text}
use Rattle.sfen.specs.Lists.{joined, AllSound, Agree, AllAgree}
use Rattle.sfen.proofs.Cut.{Over, over_less, cut}
use Rattle.sfen.proofs.Boards.{GoodCells}
use Rattle.sfen.proofs.Counts.{counts}
use Rattle.sfen.proofs.Unique.{Readable, Same, text_over, text_same}

pub shogi_readable : Readable shogi
unfolding shogi letter_of kind_row kinds
shogi_readable =
    record {
      small = lit≤ tt;
      above = (lit< tt, (lit< tt, (lit< tt, (lit< tt, (lit< tt, (lit< tt, (lit< tt, (lit< tt, (lit< tt, (lit< tt, (lit< tt, (lit< tt, (lit< tt, (lit< tt, tt))))))))))))));
      apart = (tt, (tt, (tt, (tt, (tt, (tt, (tt, (tt, (tt, (tt, (tt, (tt, (tt, (tt, tt))))))))))))));
    }

-- ---- what a sound position has
module _ (p : Position) (z : Sized p) (s : sound p ≡ true) where
  good-cells : GoodCells shogi.width p.board
  unfolding machine shogi
  good-cells = (sound_order p z s).cells

  good-side : good_colour p.side ≡ true
  unfolding machine
  good-side = (sound_order p z s).side

  -- no byte of a sound position's text is a newline, or below the space
  pub position_over : Over 31 (position_text p)
  unfolding position_text
  position_over = text_over shogi shogi_readable p.board p.side p.hands p.ply good-cells

-- ---- 81 cells and 14 counts
cells_same : (cs ds : List ℕ) → length cs ≡ 81 → length ds ≡ 81 → ((n : ℕ) → on_board 9 n ≡ true → cell_at cs n ≡ cell_at ds n) → cs ≡ ds
cells_same cs ds p q e =
    ext_get_or 0 cs ds (p ∙ sym q) (λ i h.
    let m : i + 1 - 1 ≡ i = omega arith in
    rw m at (e (i + 1) (board_on 9 (i + 1) (omega arith) (omega arith))))

-- what holds of each number below n
abbrev Each : ℕ → (ℕ → Type 0) → Type 0
Each zero P = Unit {0}
Each (suc n) P = P 0 × Each n (λ k. P (suc k))

each : (n : ℕ) (P : ℕ → Type 0) → Each n P → (k : ℕ) → k < n → P k
each zero P e k h = absurd (not-suc-le-zero h)
each (suc n) P e zero h = e.0
each (suc n) P e (suc k) h = each n (λ k. P (suc k)) e.1 k (le_of_suc-le-suc h)

counts_same : (hs ks : List ℕ) → length hs ≡ 14 → length ks ≡ 14 → counts shogi.held hs ≡ counts shogi.held ks → hs ≡ ks
unfolding shogi hand_at
counts_same hs ks p q e =
    ext_get_or 0 hs ks (p ∙ sym q) (λ i h.
    each 14 (λ i. get_or hs i 0 ≡ get_or ks i 0)
    ((cc), ((cc), ((cc), ((cc), ((cc), ((cc), ((cc), ((cc), ((cc), ((cc), ((cc), ((cc), ((cc), ((cc), tt)))))))))))))) i (omega arith))

module _ (p q : Position) (zp : Sized p) (zq : Sized q) (sp : sound p ≡ true) (sq : sound q ≡ true) where
  texts_same : position_text p ≡ position_text q → Same shogi p.board q.board p.side q.side p.hands q.hands p.ply q.ply
  unfolding position_text
  texts_same e =
      text_same shogi shogi_readable p.board q.board p.side q.side p.hands q.hands p.ply q.ply
      (good-cells p zp sp) (good-cells q zq sq) (good-side p zp sp) (good-side q zq sq) e

  -- one text, one position
  pub one_text : position_text p ≡ position_text q → Agree p q
  unfolding shogi
  one_text e =
      let t = texts_same e in
      record {
        board = cells_same p.board q.board zp.board zq.board t.cells;
        side = t.side;
        hands = counts_same p.hands q.hands zp.hands zq.hands t.hands;
        ply = t.ply;
      }

never_empty : (a x : List ℕ) (b : ℕ) → a ++ b ∷ x ≡ [] → ⊥
never_empty [] x b e = let z : ◌≡◌ {A = ℕ} 0 1 = cc in omega arith
never_empty (c ∷ a) x b e = let z : ◌≡◌ {A = ℕ} 0 1 = cc in omega arith

-- ---- the theorem
pub demand3 : (ps qs : List Position) → AllSound ps → AllSound qs → joined ps ≡ joined qs → AllAgree ps qs
unfolding joined
demand3 [] [] s t e = tt
demand3 [] (q ∷ qs) s t e = never_empty (position_text q) (joined qs) 10 (sym e)
demand3 (p ∷ ps) [] s t e = never_empty (position_text p) (joined ps) 10 e
demand3 (p ∷ ps) (q ∷ qs) s t e =
    let a =
    cut 10 (position_text p) (position_text q) _ _ (over_less 10 31 (position_text p) (lit≤ tt) (position_over p s.0.0 s.0.1))
    (over_less 10 31 (position_text q) (lit≤ tt) (position_over q t.0.0 t.0.1)) e in
    (one_text p q s.0.0 t.0.0 s.0.1 t.0.1 a.0, demand3 ps qs s.1 t.1 a.1)
