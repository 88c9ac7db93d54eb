-- The way back from a board's text to its cells, on boards of side up to 9: two boards with one text are one board.
use Prim.Native.Nat.{ℕ, zero, suc, ◌+◌, ◌-◌, ◌≤◌, ◌<◌}
use native.Mathlib.Omega.{arith}
use native.Mathlib.Decide.{ℕ_discrete}
use native.Mathlib.Nat.{add-zero}
use mathlib.Core.Path.{◌≡◌, refl, sym, ap, ◌∙◌}
use mathlib.Core.Bool.{Bool, true, false, ◌&&◌, ◌||◌, not, cond, false≢true}
use mathlib.Core.Logic.{⊎_elim}
use mathlib.Core.List.{List, [], ◌∷◌, ◌++◌, append_assoc}
use lib.ListN.{length, get_or, replicate, take, drop}
use Rattle.std.proofs.lemmas.List.{take_at, drop_at}
use lib.Dec.{T, lit<, eqb, leb, ltb}
use borrow.Author.Tests.{ne_eqb, le-leb, lt-leb, ltb-true, eqb-true}
use Rattle.squares.specs.Board.{on_board, square_at, file_of, rank_of}
use Rattle.squares.specs.Kinds.{kinds, kind_row, good_kind, colour_of, kind_of, good_piece, good_cell, piece_of, promoted_piece}
use Rattle.squares.proofs.Laws.{all_at, le-or-lt, piece-high, cell-piece, side_range, side_on, file-side, rank-side, at_back, at_board}
use Rattle.position.specs.Machine.{tab, cell_at}
use Rattle.sfen.specs.Text.{Game, letter_of, kind_text, piece_text, run, rank_text, down, rank_cells, ranks, later_text, ranks_text, board_text}
use Rattle.sfen.proofs.Cut.{Over, over_append}

-- ---- a cell from its letter
abbrev kind_back : ℕ → ℕ
kind_back b = get_or (6 ∷ 0 ∷ 0 ∷ 0 ∷ 0 ∷ 5 ∷ 0 ∷ 0 ∷ 0 ∷ 8 ∷ 2 ∷ 0 ∷ 3 ∷ 0 ∷ 1 ∷ 0 ∷ 7 ∷ 4 ∷ []) (b - 66) 0

abbrev cell_back : ℕ → ℕ
cell_back b = cond (leb b 90) (kind_back b) (16 + kind_back (b - 32))

abbrev byte_of : ℕ → ℕ
byte_of c = letter_of (colour_of c) (kind_of c)

abbrev pub plain : ℕ → Bool
plain c = eqb (kind_row (kind_of c)).unpromoted (kind_of c)

abbrev cell_from : Bool → ℕ → ℕ
cell_from t b = cond t (cell_back b) (promoted_piece (cell_back b))

abbrev reads_back : ℕ → Bool
reads_back c = not (good_piece c) || (ltb 57 (byte_of c) && eqb (cell_from (plain c) (byte_of c)) c)

reads_back_lem : (c : ℕ) → c < 31 → T (reads_back c)
unfolding good_piece good_kind kind_of colour_of letter_of kind_row kinds promoted_piece piece_of
reads_back_lem c h = all_at reads_back 31 tt c h

below : (c : ℕ) → good_piece c ≡ true → c < 31
below c g = ⊎_elim (λ (h : 31 ≤ c). absurd (false≢true (sym (piece-high c h) ∙ g))) (λ (h : c < 31). h) (le-or-lt 31 c)

piece_back : (c : ℕ) → good_piece c ≡ true → (57 < byte_of c) × (cell_from (plain c) (byte_of c) ≡ c)
piece_back c g = go (good_piece c) (ltb 57 (byte_of c)) (eqb (cell_from (plain c) (byte_of c)) c) refl refl g (reads_back_lem c (below c g))
  where
    go : (t u v : Bool) → ltb 57 (byte_of c) ≡ u → eqb (cell_from (plain c) (byte_of c)) c ≡ v → t ≡ true → T (not t || (u && v))
        → (57 < byte_of c) × (cell_from (plain c) (byte_of c) ≡ c)
    go true true true p q e h = (ltb-true 57 (byte_of c) p, eqb-true _ c q)
    go true true false p q e h = absurd h
    go true false v p q e h = absurd h
    go false u v p q e h = absurd (false≢true e)

-- ---- the cells of a board's bytes
abbrev raise_first : List ℕ → List ℕ
raise_first [] = []
raise_first (c ∷ cs) = promoted_piece c ∷ cs

abbrev took : ℕ → List ℕ → List ℕ
took b r = cond (eqb b 47) r (cond (eqb b 43) (raise_first r) (cond (leb b 57) (replicate (b - 48) 0 ++ r) (cell_back b ∷ r)))

abbrev read_cells : List ℕ → List ℕ
read_cells [] = []
read_cells (b ∷ bs) = took b (read_cells bs)

took_letter : (b : ℕ) (r : List ℕ) → 57 < b → took b r ≡ cell_back b ∷ r
took_letter b r h = rw (ne_eqb b 47 (λ x. omega arith), ne_eqb b 43 (λ x. omega arith), lt-leb b 57 h)

read-piece : (c : ℕ) → good_piece c ≡ true → (rest : List ℕ) → read_cells (piece_text c ++ rest) ≡ c ∷ read_cells rest
unfolding piece_text kind_text
read-piece c g rest = let k = piece_back c g in go (plain c) (byte_of c) k.0 k.1
  where
    go : (t : Bool) (b : ℕ) → 57 < b → cell_from t b ≡ c → read_cells (cond t (b ∷ []) (43 ∷ b ∷ []) ++ rest) ≡ c ∷ read_cells rest
    go true b h e = took_letter b (read_cells rest) h ∙ ap {B = List ℕ} (λ x. x ∷ read_cells rest) e
    go false b h e = ap raise_first (took_letter b (read_cells rest) h) ∙ ap {B = List ℕ} (λ x. x ∷ read_cells rest) e

read-run : (e : ℕ) → e ≤ 9 → (rest : List ℕ) → read_cells (run e ++ rest) ≡ replicate e 0 ++ read_cells rest
unfolding run
read-run zero h rest = refl
read-run (suc e) h rest =
    let m : 48 + suc e - 48 ≡ suc e = omega arith in
    simp (ne_eqb (48 + suc e) 47 (λ x. omega arith), ne_eqb (48 + suc e) 43 (λ x. omega arith), le-leb (48 + suc e) 57 (omega arith), m)

replicate_more : (e : ℕ) (r : List ℕ) → replicate (suc e) 0 ++ r ≡ replicate e 0 ++ (0 ∷ r)
replicate_more zero r = refl
replicate_more (suc e) r = ap {B = List ℕ} (λ t. 0 ∷ t) (replicate_more e r)

abbrev Good : List ℕ → Type 0
Good [] = Unit {0}
Good (c ∷ cs) = (good_cell c ≡ true) × Good cs

stands : (c : ℕ) → good_cell (suc c) ≡ true → good_piece (suc c) ≡ true
stands c g = cell-piece (suc c) g (λ e. omega arith)

read-rank : (e : ℕ) (cs : List ℕ) → e + length cs ≤ 9 → Good cs → (rest : List ℕ) → read_cells (rank_text e cs ++ rest) ≡ replicate e 0 ++ (cs ++ read_cells rest)
unfolding rank_text
read-rank e [] h g rest = read-run e (omega arith) rest
read-rank e (zero ∷ cs) h g rest = read-rank (suc e) cs (omega arith) g.1 rest ∙ replicate_more e (cs ++ read_cells rest)
read-rank e (suc c ∷ cs) h g rest =
    simp append_assoc (read-run e (omega arith) _ ∙ rw (read-piece (suc c) (stands c g.0), read-rank 0 cs (omega arith) g.1 rest))

abbrev pub concat : List (List ℕ) → List ℕ
concat [] = []
concat (r ∷ rs) = r ++ concat rs

abbrev GoodRanks : List (List ℕ) → Type 0
GoodRanks [] = Unit {0}
GoodRanks (r ∷ rs) = ((length r ≤ 9) × Good r) × GoodRanks rs

read_later : (rs : List (List ℕ)) → GoodRanks rs → read_cells (later_text rs) ≡ concat rs
unfolding later_text
read_later [] g = refl
read_later (r ∷ rs) g = read-rank 0 r (omega arith) g.0.1 (later_text rs) ∙ ap (λ t. r ++ t) (read_later rs g.1)

read-ranks : (rs : List (List ℕ)) → GoodRanks rs → read_cells (ranks_text rs) ≡ concat rs
unfolding ranks_text
read-ranks [] g = refl
read-ranks (r ∷ rs) g = read-rank 0 r (omega arith) g.0.1 (later_text rs) ∙ ap (λ t. r ++ t) (read_later rs g.1)

-- ---- its bytes are above the space
over_piece : (c : ℕ) → good_piece c ≡ true → Over 32 (piece_text c)
unfolding piece_text kind_text
over_piece c g = go (plain c) (byte_of c) (piece_back c g).0
  where
    go : (t : Bool) (b : ℕ) → 57 < b → Over 32 (cond t (b ∷ []) (43 ∷ b ∷ []))
    go true b h = (omega arith, tt)
    go false b h = (lit< tt, (omega arith, tt))

over_run : (e : ℕ) → Over 32 (run e)
unfolding run
over_run zero = tt
over_run (suc e) = (omega arith, tt)

over_rank : (e : ℕ) (cs : List ℕ) → Good cs → Over 32 (rank_text e cs)
unfolding rank_text
over_rank e [] g = over_run e
over_rank e (zero ∷ cs) g = over_rank (suc e) cs g.1
over_rank e (suc c ∷ cs) g =
    over_append 32 (run e) _ (over_run e) (over_append 32 (piece_text (suc c)) _ (over_piece (suc c) (stands c g.0)) (over_rank 0 cs g.1))

over_later : (rs : List (List ℕ)) → GoodRanks rs → Over 32 (later_text rs)
unfolding later_text
over_later [] g = tt
over_later (r ∷ rs) g = (lit< tt, over_append 32 (rank_text 0 r) _ (over_rank 0 r g.0.1) (over_later rs g.1))

over_ranks : (rs : List (List ℕ)) → GoodRanks rs → Over 32 (ranks_text rs)
unfolding ranks_text
over_ranks [] g = tt
over_ranks (r ∷ rs) g = over_append 32 (rank_text 0 r) _ (over_rank 0 r g.0.1) (over_later rs g.1)

-- ---- a board of good cells has good ranks
abbrev pub GoodCells : ℕ → List ℕ → Type 0
GoodCells w cells = (n : ℕ) → on_board w n ≡ true → good_cell (cell_at cells n) ≡ true

pub length-down : (f : ℕ → ℕ) (n : ℕ) → length (down f n) ≡ n
unfolding down
length-down f zero = refl
length-down f (suc n) = ap suc (length-down f n)

good-down : (f : ℕ → ℕ) (n : ℕ) → ((k : ℕ) → 1 ≤ k → k ≤ n → good_cell (f k) ≡ true) → Good (down f n)
unfolding down
good-down f zero g = tt
good-down f (suc n) g = (g (suc n) (omega arith) (omega arith), good-down f n (λ k l h. g k l (omega arith)))

good-rank : (w : ℕ) (cells : List ℕ) (r : ℕ) → GoodCells w cells → 1 ≤ r → r ≤ w → Good (rank_cells w cells r)
unfolding rank_cells
good-rank w cells r g l h =
    good-down (λ f. cell_at cells (square_at w f r)) w
    (λ f lf hf. g (square_at w f r) (at_board w f r (rw (side_on w f lf hf, side_on w r l h))))

pub length-rank : (w : ℕ) (cells : List ℕ) (r : ℕ) → length (rank_cells w cells r) ≡ w
unfolding rank_cells
length-rank w cells r = length-down (λ f. cell_at cells (square_at w f r)) w

good_from : (w : ℕ) (cells : List ℕ) (r k : ℕ) → w ≤ 9 → GoodCells w cells → 1 ≤ r → r + k ≤ suc w → GoodRanks (tab (rank_cells w cells) r k)
unfolding tab
good_from w cells r zero s g l h = tt
good_from w cells r (suc k) s g l h =
    ((omega (arith, length-rank w cells r), good-rank w cells r g l (omega arith)), good_from w cells (suc r) k s g (omega arith) (omega arith))

good-ranks : (w : ℕ) (cells : List ℕ) → w ≤ 9 → GoodCells w cells → GoodRanks (ranks w cells)
unfolding ranks
good-ranks w cells s g = good_from w cells 1 w s g (omega arith) (omega arith)

-- ---- ranks that are equal one after the other have equal cells
halves : (a b x y : List ℕ) → length a ≡ length b → a ++ x ≡ b ++ y → (a ≡ b) × (x ≡ y)
halves a b x y l e = (
  sym (take_at a x (length a) refl) ∙ ap (take (length a)) e ∙ take_at b y (length a) (sym l),
  sym (drop_at a x (length a) refl) ∙ ap (drop (length a)) e ∙ drop_at b y (length a) (sym l),
)

le_below : (k n : ℕ) → k ≤ suc n → (k ≡ suc n → ⊥) → k ≤ n
le_below k n h q = omega (arith, q)

down-same : (f g : ℕ → ℕ) (n : ℕ) → down f n ≡ down g n → (k : ℕ) → 1 ≤ k → k ≤ n → f k ≡ g k
unfolding down
down-same f g zero e k l h = absurd (omega arith)
down-same f g (suc n) e k l h =
    let a : f (suc n) ≡ g (suc n) = cc in
    let t : down f n ≡ down g n = cc in
    go a (down-same f g n t) (ℕ_discrete k (suc n))
  where
    go : f (suc n) ≡ g (suc n) → ((k : ℕ) → 1 ≤ k → k ≤ n → f k ≡ g k) → Dec (k ≡ suc n) → f k ≡ g k
    go a t (yes q) = rw q a
    go a t (no q) = t k l (le_below k n h q)

ranks-same : (w : ℕ) (cs ds : List ℕ) (r k : ℕ) → concat (tab (rank_cells w cs) r k) ≡ concat (tab (rank_cells w ds) r k)
    → (j : ℕ) → j < k → rank_cells w cs (r + j) ≡ rank_cells w ds (r + j)
unfolding tab
ranks-same w cs ds r zero e j h = absurd (omega arith)
ranks-same w cs ds r (suc k) e zero h =
    rw (add-zero r) (halves (rank_cells w cs r) (rank_cells w ds r) _ _ (length-rank w cs r ∙ sym (length-rank w ds r)) e).0
ranks-same w cs ds r (suc k) e (suc j) h =
    let m : r + suc j ≡ suc r + j = omega arith in
    rw m (ranks-same w cs ds (suc r) k (halves (rank_cells w cs r) (rank_cells w ds r) _ _ (length-rank w cs r ∙ sym (length-rank w ds r)) e).1 j (omega arith))

rank_same : (w : ℕ) (cs ds : List ℕ) (r : ℕ) → rank_cells w cs r ≡ rank_cells w ds r → (f : ℕ) → 1 ≤ f → f ≤ w → cell_at cs (square_at w f r) ≡ cell_at ds (square_at w f r)
unfolding rank_cells
rank_same w cs ds r e f l h = down-same (λ f. cell_at cs (square_at w f r)) (λ f. cell_at ds (square_at w f r)) w e f l h

cells_same : (w : ℕ) (cs ds : List ℕ) → concat (ranks w cs) ≡ concat (ranks w ds) → (n : ℕ) → on_board w n ≡ true → cell_at cs n ≡ cell_at ds n
unfolding ranks
cells_same w cs ds e n o =
    let f = side_range w (file_of w n) (file-side w n o) in
    let r = side_range w (rank_of w n) (rank-side w n o) in
    let m : 1 + (rank_of w n - 1) ≡ rank_of w n = omega (arith, r.0) in
    let row : rank_cells w cs (rank_of w n) ≡ rank_cells w ds (rank_of w n) = rw m at (ranks-same w cs ds 1 w e (rank_of w n - 1) (omega (arith, r.0, r.1))) in
    rw (at_back w n o) at (rank_same w cs ds (rank_of w n) row (file_of w n) f.0 f.1)

-- ---- THE law of boards, on any side up to 9
module _ (game : Game) (small : game.width ≤ 9) where
  pub board_over : (cs : List ℕ) → GoodCells game.width cs → Over 32 (board_text game cs)
  unfolding board_text
  board_over cs g = over_ranks (ranks game.width cs) (good-ranks game.width cs small g)

  pub board-same : (cs ds : List ℕ) → GoodCells game.width cs → GoodCells game.width ds → board_text game cs ≡ board_text game ds
      → (n : ℕ) → on_board game.width n ≡ true → cell_at cs n ≡ cell_at ds n
  unfolding board_text
  board-same cs ds g h e =
      cells_same game.width cs ds
      (sym (read-ranks (ranks game.width cs) (good-ranks game.width cs small g)) ∙ ap read_cells e ∙ read-ranks (ranks game.width ds) (good-ranks game.width ds small h))
