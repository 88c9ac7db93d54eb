-- What the definitions of the text say case by case, as the code goes.
use Prim.Native.Nat.{ℕ, zero, suc, ◌+◌, ◌-◌, ◌*◌, ◌/◌, ◌%◌, ◌≤◌, ◌<◌}
use native.Mathlib.Omega.{arith}
use native.Mathlib.Decide.{dec_lt}
use native.Mathlib.Numerals.{add-one}
use native.Mathlib.Nat.{div-div-eq-div-mul}
use mathlib.Core.Path.{◌≡◌, refl, sym, ap, ◌∙◌}
use mathlib.Core.Bool.{Bool, true, false, not, cond, true≢false, false≢true}
use mathlib.Core.List.{List, [], ◌∷◌, ◌++◌, append_assoc, append-nil}
use lib.ListN.{length, get_or, length-append}
use lib.Dec.{eqb, ltb}
use borrow.Author.Tests.{lt-ltb, le-ltb}
use Rattle.squares.specs.Board.{square_at}
use Rattle.squares.specs.Kinds.{kind_row}
use Rattle.squares.proofs.Laws.{side_on, at_on, black_kind, white_kind, black_colour, white_colour}
use Rattle.position.specs.declared.position.Position.{Position}
use Rattle.position.specs.Machine.{tab, cell_at}
use Rattle.position.specs.Answers.{hand_at}
use Rattle.sfen.specs.Text.{shogi, letter_of, kind_text, piece_text, run, rank_text, down, rank_cells, ranks, later_text, ranks_text, board_text, side_byte, decimal, number_text, count_text, hand_text, or_dash, hands_text, text, position_text}
use Rattle.sfen.specs.Inner.{place}

-- ---- letters
pub kind_raised : (colour k : ℕ) → not (eqb (kind_row k).unpromoted k) ≡ true → kind_text colour k ≡ 43 ∷ letter_of colour k ∷ []
unfolding kind_text
kind_raised colour k = go (eqb (kind_row k).unpromoted k) (letter_of colour k)
  where
    go : (t : Bool) (b : ℕ) → not t ≡ true → cond t (b ∷ []) (43 ∷ b ∷ []) ≡ 43 ∷ b ∷ []
    go true b e = absurd (false≢true e)
    go false b e = refl

pub kind_plain : (colour k : ℕ) → not (eqb (kind_row k).unpromoted k) ≡ false → kind_text colour k ≡ letter_of colour k ∷ []
unfolding kind_text
kind_plain colour k = go (eqb (kind_row k).unpromoted k) (letter_of colour k)
  where
    go : (t : Bool) (b : ℕ) → not t ≡ false → cond t (b ∷ []) (43 ∷ b ∷ []) ≡ b ∷ []
    go true b e = refl
    go false b e = absurd (true≢false e)

pub piece_black : (c : ℕ) → 1 ≤ c → c ≤ 16 → piece_text c ≡ kind_text 1 c
unfolding piece_text
piece_black c l h = rw (black_colour c l h, black_kind c h)

pub piece_white : (c : ℕ) → 16 < c → piece_text c ≡ kind_text 2 (c - 16)
unfolding piece_text
piece_white c h = rw (white_colour c h, white_kind c h)

-- ---- ranks
pub run_none : (e : ℕ) → e ≡ 0 → run e ≡ []
unfolding run
run_none zero h = refl
run_none (suc e) h = absurd (omega arith)

pub run-some : (e : ℕ) → (e ≡ 0 → ⊥) → run e ≡ (48 + e) ∷ []
unfolding run
run-some zero h = absurd (h refl)
run-some (suc e) h = refl

rank-empty : (e c : ℕ) (cs : List ℕ) → c ≡ 0 → rank_text e (c ∷ cs) ≡ rank_text (suc e) cs
unfolding rank_text
rank-empty e zero cs h = refl
rank-empty e (suc c) cs h = absurd (omega arith)

rank-piece : (e c : ℕ) (cs : List ℕ) → (c ≡ 0 → ⊥) → rank_text e (c ∷ cs) ≡ run e ++ (piece_text c ++ rank_text 0 cs)
unfolding rank_text
rank-piece e zero cs h = absurd (h refl)
rank-piece e (suc c) cs h = refl

down_less : (f : ℕ → ℕ) (n : ℕ) → 0 < n → down f n ≡ f n ∷ down f (n - 1)
unfolding down
down_less f zero h = absurd (omega arith)
down_less f (suc n) h = let e : suc n - 1 ≡ n = omega arith in rw e

-- the cell of a file and a rank, as the code finds it
cell_at_lem : (cells : List ℕ) (file rank : ℕ) → 1 ≤ file → file ≤ 9 → 1 ≤ rank → rank ≤ 9
    → cell_at cells (square_at 9 file rank) ≡ get_or cells (9 * (file - 1) + rank - 1) 0
cell_at_lem cells file rank lf hf lr hr =
    let e : square_at 9 file rank - 1 ≡ 9 * (file - 1) + rank - 1 = rw (at_on 9 file rank (rw (side_on 9 file lf hf, side_on 9 rank lr hr))) (omega arith) in
    ap (λ (i : ℕ). get_or cells i 0) e

-- what is left of a rank, the files from `file` on, behind e empty cells
unfoldable pub rank_left : List ℕ → ℕ → ℕ → ℕ → List ℕ
rank_left cells rank e file = rank_text e (down (λ f. cell_at cells (square_at 9 f rank)) file)

pub left_all : (cells : List ℕ) (rank : ℕ) → rank_text 0 (rank_cells 9 cells rank) ≡ rank_left cells rank 0 9
unfolding rank_cells rank_left
left_all cells rank = refl

pub left_none : (cells : List ℕ) (rank e file : ℕ) → file ≡ 0 → rank_left cells rank e file ≡ run e
unfolding down rank_text rank_left
left_none cells rank e zero h = refl
left_none cells rank e (suc file) h = absurd (omega arith)

module _ (cells : List ℕ) (rank e file : ℕ) (lf : 1 ≤ file) (hf : file ≤ 9) (lr : 1 ≤ rank) (hr : rank ≤ 9) where
  pub left_empty : get_or cells (9 * (file - 1) + rank - 1) 0 ≡ 0 → rank_left cells rank e file ≡ rank_left cells rank (e + 1) (file - 1)
  unfolding rank_left
  left_empty z =
      rw (down_less (λ f. cell_at cells (square_at 9 f rank)) file lf, add-one)
      (rank-empty e (cell_at cells (square_at 9 file rank)) _ (cell_at_lem cells file rank lf hf lr hr ∙ z))

  pub left_piece : (get_or cells (9 * (file - 1) + rank - 1) 0 ≡ 0 → ⊥)
      → rank_left cells rank e file ≡ run e ++ (piece_text (get_or cells (9 * (file - 1) + rank - 1) 0) ++ rank_left cells rank 0 (file - 1))
  unfolding rank_left
  left_piece z =
      rw (down_less (λ f. cell_at cells (square_at 9 f rank)) file lf, ← cell_at_lem cells file rank lf hf lr hr)
      (rank-piece e (cell_at cells (square_at 9 file rank)) _ (λ q. z (sym (cell_at_lem cells file rank lf hf lr hr) ∙ q)))

-- ---- the board: the ranks from `rank` on, each behind a `/`
unfoldable pub ranks_left : List ℕ → ℕ → List ℕ
ranks_left cells rank = later_text (tab (rank_cells 9 cells) rank (10 - rank))

tab_less : (f : ℕ → List ℕ) (i k : ℕ) → 0 < k → tab f i k ≡ f i ∷ tab f (i + 1) (k - 1)
unfolding tab
tab_less f i zero h = absurd (omega arith)
tab_less f i (suc k) h = let e : suc k - 1 ≡ k = omega arith in rw (e, add-one)

pub board_first : (cells : List ℕ) → board_text shogi cells ≡ rank_text 0 (rank_cells 9 cells 1) ++ ranks_left cells 2
unfolding board_text shogi ranks ranks_text tab ranks_left
board_first cells = refl

pub ranks-none : (cells : List ℕ) (rank : ℕ) → 9 < rank → ranks_left cells rank ≡ []
unfolding later_text tab ranks_left
ranks-none cells rank h = let e : 10 - rank ≡ 0 = omega arith in rw e

pub ranks_less : (cells : List ℕ) (rank : ℕ) → rank ≤ 9
    → ranks_left cells rank ≡ (47 ∷ []) ++ (rank_text 0 (rank_cells 9 cells rank) ++ ranks_left cells (rank + 1))
unfolding later_text ranks_left
ranks_less cells rank h =
    let e : 10 - (rank + 1) ≡ 10 - rank - 1 = omega arith in
    rw (tab_less (rank_cells 9 cells) rank (10 - rank) (omega arith), e)

-- ---- numbers
decimal_most : (f g n : ℕ) → n < f → n < g → decimal f n ≡ decimal g n
unfolding decimal
decimal_most zero g n h k = absurd (omega arith)
decimal_most (suc f) zero n h k = absurd (omega arith)
decimal_most (suc f) (suc g) n h k = go (dec_lt n 10) (decimal_most f g (n / 10))
  where
    go : Dec (n < 10) → (n / 10 < f → n / 10 < g → decimal f (n / 10) ≡ decimal g (n / 10))
        → cond (ltb n 10) ((48 + n) ∷ []) (decimal f (n / 10) ++ (48 + n % 10) ∷ []) ≡ cond (ltb n 10) ((48 + n) ∷ []) (decimal g (n / 10) ++ (48 + n % 10) ∷ [])
    go (yes p) r = rw (lt-ltb n 10 p)
    go (no p) r = rw (le-ltb n 10 (omega arith)) (ap (λ (t : List ℕ). t ++ (48 + n % 10) ∷ []) (r (omega arith) (omega arith)))

number-low : (n : ℕ) → n < 10 → number_text n ≡ (48 + n) ∷ []
unfolding number_text decimal
number-low n h = rw (lt-ltb n 10 h)

number-high : (n : ℕ) → 10 ≤ n → number_text n ≡ number_text (n / 10) ++ (48 + n % 10) ∷ []
unfolding number_text decimal
number-high n h = rw (le-ltb n 10 h) (ap (λ (t : List ℕ). t ++ (48 + n % 10) ∷ []) (decimal_most n (suc (n / 10)) (n / 10) (omega arith) (omega arith)))

-- the digits above the place of unit
abbrev above : ℕ → ℕ → List ℕ
above unit n = cond (ltb n unit) [] (number_text (n / unit))

pub place_none : (unit n : ℕ) → n < unit → place unit n ≡ []
unfolding place
place_none unit n h = rw (lt-ltb n unit h)

pub place-some : (unit n : ℕ) → unit ≤ n → place unit n ≡ (48 + n / unit % 10) ∷ []
unfolding place
place-some unit n h = rw (le-ltb n unit h)

above_place : (u v n : ℕ) → u ≤ v → n / u / 10 ≡ n / v → (n < v → n / u < 10) → (v ≤ n → 10 ≤ n / u) → above u n ≡ above v n ++ place u n
above_place u v n uv d small large = go (dec_lt n u) (dec_lt n v)
  where
    go : Dec (n < u) → Dec (n < v) → above u n ≡ above v n ++ place u n
    go (yes p) q = rw (lt-ltb n u p, lt-ltb n v (omega arith), place_none u n p)
    go (no p) (yes q) =
        let l = small q in
        let e : n / u % 10 ≡ n / u = omega arith in
        rw (le-ltb n u (omega arith), lt-ltb n v q, place-some u n (omega arith), e) (number-low (n / u) l)
    go (no p) (no q) =
        rw (le-ltb n u (omega arith), le-ltb n v (omega arith), place-some u n (omega arith), ← d) (number-high (n / u) (large (omega arith)))

above_all : (n : ℕ) → number_text n ≡ above 10 n ++ (48 + n % 10) ∷ []
above_all n = go (dec_lt n 10)
  where
    go : Dec (n < 10) → number_text n ≡ above 10 n ++ (48 + n % 10) ∷ []
    go (yes p) = let e : n % 10 ≡ n = omega arith in rw (lt-ltb n 10 p, e) (number-low n p)
    go (no p) = rw (le-ltb n 10 (omega arith)) (number-high n (omega arith))

-- a number of at most five digits, place by place
pub number_places : (n : ℕ) → n < 100000
    → number_text n ≡ place 10000 n ++ (place 1000 n ++ (place 100 n ++ (place 10 n ++ (48 + n % 10) ∷ [])))
number_places n h =
    let e : above 100000 n ≡ [] = rw (lt-ltb n 100000 h) in
    rw (
      above_all n,
      above_place 10 100 n (omega arith) (div-div-eq-div-mul n 10 10) (λ l. omega arith) (λ l. omega arith),
      above_place 100 1000 n (omega arith) (div-div-eq-div-mul n 100 10) (λ l. omega arith) (λ l. omega arith),
      above_place 1000 10000 n (omega arith) (div-div-eq-div-mul n 1000 10) (λ l. omega arith) (λ l. omega arith),
      above_place 10000 100000 n (omega arith) (div-div-eq-div-mul n 10000 10) (λ l. omega arith) (λ l. omega arith),
      e,
    )
    (simp append_assoc)

-- ---- hands
pub count_none : (l n : ℕ) → n ≡ 0 → count_text l n ≡ []
unfolding count_text
count_none l zero h = refl
count_none l (suc n) h = absurd (omega arith)

pub count_one : (l n : ℕ) → n ≡ 1 → count_text l n ≡ l ∷ []
unfolding count_text
count_one l zero h = absurd (omega arith)
count_one l (suc zero) h = refl
count_one l (suc (suc n)) h = absurd (omega arith)

pub count_many : (l n : ℕ) → (n ≡ 0 → ⊥) → (n ≡ 1 → ⊥) → count_text l n ≡ number_text n ++ l ∷ []
unfolding count_text
count_many l zero h k = absurd (h refl)
count_many l (suc zero) h k = absurd (k refl)
count_many l (suc (suc n)) h k = refl

-- what is left of a hand, the kinds from `kind` on
unfoldable pub hand_left : List ℕ → ℕ → ℕ → List ℕ
hand_left hands colour kind = hand_text (down (λ k. k) kind) hands colour

pub hand_all : (hands : List ℕ) (colour : ℕ) → hand_text shogi.held hands colour ≡ hand_left hands colour 7
unfolding shogi down hand_left
hand_all hands colour = refl

pub hand-none : (hands : List ℕ) (colour kind : ℕ) → kind ≡ 0 → hand_left hands colour kind ≡ []
unfolding down hand_text hand_left
hand-none hands colour zero h = refl
hand-none hands colour (suc kind) h = absurd (omega arith)

pub hand_less : (hands : List ℕ) (colour kind : ℕ) → 0 < kind
    → hand_left hands colour kind ≡ count_text (letter_of colour kind) (get_or hands ((colour - 1) * 7 + (kind - 1)) 0) ++ hand_left hands colour (kind - 1)
unfolding hand_text hand_left hand_at
hand_less hands colour kind h = rw (down_less (λ k. k) kind h)

pub dash_none : (bs : List ℕ) → length bs ≡ 0 → or_dash bs ≡ bs ++ 45 ∷ []
unfolding or_dash
dash_none [] h = refl
dash_none (b ∷ bs) h = absurd (omega arith)

pub dash_some : (bs : List ℕ) → (length bs ≡ 0 → ⊥) → or_dash bs ≡ bs
unfolding or_dash
dash_some [] h = absurd (h refl)
dash_some (b ∷ bs) h = refl

pub dash_length : (bs : List ℕ) → length bs ≤ length (or_dash bs)
unfolding or_dash
dash_length [] = omega arith
dash_length (b ∷ bs) = omega arith

pub hands_both : (hands : List ℕ) → hands_text shogi hands ≡ or_dash (hand_text shogi.held hands 1 ++ hand_text shogi.held hands 2)
unfolding hands_text
hands_both hands = refl

-- ---- the text, part by part
pub text_parts : (p : Position) → position_text p
    ≡ board_text shogi p.board ++ ((32 ∷ []) ++ ((side_byte p.side ∷ []) ++ ((32 ∷ []) ++ (hands_text shogi p.hands ++ ((32 ∷ []) ++ number_text p.ply)))))
unfolding text position_text
text_parts p = refl

-- ---- what each file of src/ goes by
pub ruleset joins = (append_assoc, append-nil, length-append)

pub ruleset line_cases = (joins, place_none, place-some, number_places)

pub ruleset letters_cases = (joins, kind_raised, kind_plain, piece_black, piece_white)

pub ruleset board_cases = (joins, run_none, run-some, left_all, left_none, left_empty, left_piece, board_first, ranks-none, ranks_less)

pub ruleset hands_cases = (joins, count_none, count_one, count_many, hand_all, hand-none, hand_less, hands_both, dash_none, dash_some, dash_length)

pub ruleset text_cases = (joins, text_parts)
