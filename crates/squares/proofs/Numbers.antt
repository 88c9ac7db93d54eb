-- Which numbers are no kind, no colour and no piece, and what the table of kinds says of all kinds and all good cells at once. The
-- rest of what is said of kinds is read off their table, kind by kind.
use Rattle.std.proofs.Common.{◌≡◌, ℕ, zero, suc, ◌+◌, ◌-◌, ◌<◌, ◌≤◌, Bool, true, false, not, ◌&&◌, ◌||◌, T, eqb, leb, sym, refl, ap, ◌∙◌, ⊎_elim, true≢false, arith, leb→le, ne_eqb, eqb-true, le-leb}
use mathlib.Core.Bool.{beq, or-true, false≢true}
use lib.ListN.{get_or-eq_default}
use borrow.Author.Tests.{lt-leb}
use Rattle.squares.specs.Kinds.{Kind, kinds, kind_row, good_kind, hand_kind, good_colour, other_colour, colour_of, kind_of, good_piece, good_cell, promoted_piece}
use Rattle.squares.proofs.Steps.{in_range, decided}
use Rattle.squares.proofs.Members.{le-or-lt}
use Rattle.squares.proofs.Tests.{all_from, all_at, rows_truth}

pub kind-good : (k : ℕ) → 1 ≤ k → k < 15 → good_kind k ≡ true
unfolding good_kind
kind-good k l h = rw (le-leb 1 k l, le-leb k 14 (omega arith))

pub kind_low : (k : ℕ) → k < 1 → good_kind k ≡ false
unfolding good_kind
kind_low k h = rw (lt-leb 1 k h)

pub kind_high : (k : ℕ) → 15 ≤ k → good_kind k ≡ false
unfolding good_kind
kind_high k h = rw (le-leb 1 k (omega arith), lt-leb k 14 h)

pub colour_good : (c : ℕ) → 1 ≤ c → c < 3 → good_colour c ≡ true
unfolding good_colour
colour_good c l h = rows_truth good_colour (λ k. true) 1 2 tt c l h

pub colour_low : (c : ℕ) → c < 1 → good_colour c ≡ false
unfolding good_colour
colour_low c h = rw (ne_eqb c 1 (λ e. omega arith), ne_eqb c 2 (λ e. omega arith))

pub colour_high : (c : ℕ) → 3 ≤ c → good_colour c ≡ false
unfolding good_colour
colour_high c h = rw (ne_eqb c 1 (λ e. omega arith), ne_eqb c 2 (λ e. omega arith))

pub colour_none : (c : ℕ) → (c ≡ 1 → ⊥) → (c ≡ 2 → ⊥) → good_colour c ≡ false
unfolding good_colour
colour_none c f g = rw (ne_eqb c 1 f, ne_eqb c 2 g)

pub piece-low : (c : ℕ) → c < 1 → good_piece c ≡ false
unfolding good_piece kind_of
piece-low c h = rw (le-leb c 16 (omega arith)) (kind_low c h)

pub piece_gap : (c : ℕ) → 15 ≤ c → c < 17 → good_piece c ≡ false
unfolding good_piece kind_of
piece_gap c l h = rw (le-leb c 16 (omega arith)) (kind_high c l)

pub piece-high : (c : ℕ) → 31 ≤ c → good_piece c ≡ false
unfolding good_piece kind_of
piece-high c h = rw (lt-leb c 16 (omega arith)) (kind_high (c - 16) (omega arith))

-- a bad piece other than 0 is a bad cell
cell_bad : (c : ℕ) → 1 ≤ c → good_piece c ≡ false → false ≡ good_cell c
unfolding good_cell
cell_bad c l e = rw (ne_eqb c 0 (λ q. omega arith), e)

-- ---- what a piece's number says: Black's up to 16, White's above
pub cell-piece : (c : ℕ) → good_cell c ≡ true → (c ≡ 0 → ⊥) → good_piece c ≡ true
unfolding good_cell
cell-piece c g d = sym (ap (λ (t : Bool). t || good_piece c) (ne_eqb c 0 d)) ∙ g

pub cell-zero : good_cell 0 ≡ true
unfolding good_cell
cell-zero = refl

pub piece-cell : (c : ℕ) → good_piece c ≡ true → good_cell c ≡ true
unfolding good_cell
piece-cell c g = ap (λ (t : Bool). eqb c 0 || t) g ∙ or-true (eqb c 0)

pub kind_range : (k : ℕ) → good_kind k ≡ true → (1 ≤ k) × (k ≤ 14)
unfolding good_kind
kind_range k g = in_range 1 14 k g

pub colour_range : (c : ℕ) → good_colour c ≡ true → (1 ≤ c) × (c ≤ 2)
unfolding good_colour
colour_range c g = by (eqb c 1) refl (eqb c 2) refl g
  where
    by : (s : Bool) → eqb c 1 ≡ s → (t : Bool) → eqb c 2 ≡ t → s || t ≡ true → (1 ≤ c) × (c ≤ 2)
    by true e t f q = let z = eqb-true c 1 e in (omega arith, omega arith)
    by false e true f q = let z = eqb-true c 2 f in (omega arith, omega arith)
    by false e false f q = absurd (false≢true q)

pub black_kind : (c : ℕ) → c ≤ 16 → kind_of c ≡ c
unfolding kind_of
black_kind c h = rw (le-leb c 16 h)

pub white_kind : (c : ℕ) → 16 < c → kind_of c ≡ c - 16
unfolding kind_of
white_kind c h = rw (lt-leb c 16 h)

pub black_colour : (c : ℕ) → 1 ≤ c → c ≤ 16 → colour_of c ≡ 1
unfolding colour_of
black_colour c l h = rw (ne_eqb c 0 (λ e. omega arith), le-leb c 16 h)

pub white_colour : (c : ℕ) → 16 < c → colour_of c ≡ 2
unfolding colour_of
white_colour c h = rw (ne_eqb c 0 (λ e. omega arith), lt-leb c 16 h)

pub empty_colour : colour_of 0 ≡ 0
unfolding colour_of
empty_colour = refl

-- a piece's kind is a kind, and a piece is not 0
pub piece_kind : (c : ℕ) → good_piece c ≡ true → (1 ≤ kind_of c) × (kind_of c ≤ 14)
unfolding good_piece
piece_kind c g = kind_range (kind_of c) g

pub piece_low_bound : (c : ℕ) → good_piece c ≡ true → 1 ≤ c
piece_low_bound c g = ⊎_elim (λ (p : 1 ≤ c). p) (λ (p : c < 1). absurd (false≢true (sym (piece-low c p) ∙ g))) (le-or-lt 1 c)

pub piece_black : (c : ℕ) → 1 ≤ c → c < 15 → good_piece c ≡ true
unfolding good_piece
piece_black c l h = rw (black_kind c (omega arith)) (kind-good c l h)

pub piece_white : (c : ℕ) → 17 ≤ c → c < 31 → good_piece c ≡ true
unfolding good_piece
piece_white c l h = rw (white_kind c (omega arith)) (kind-good (c - 16) (omega arith) (omega arith))

-- ---- the rows of numbers that are no kinds
pub row_bad : (k : ℕ) → good_kind k ≡ false → ((kind_row k).unpromoted ≡ 0) × ((kind_row k).promoted ≡ 0) × ((kind_row k).limit ≡ 0) × ((kind_row k).letter ≡ 0)
unfolding kind_row kinds good_kind
row_bad zero e = (refl, refl, refl, refl)
row_bad (suc k) e =
    ⊎_elim (λ (h : suc k ≤ 14). absurd (false≢true (sym e ∙ kind-good (suc k) (omega arith) (omega arith))))
    (λ (h : 14 < suc k).
    let z : kind_row (suc k) ≡ kind_row 0 = get_or-eq_default kinds _ h in
    (ap (λ (x : Kind). x.unpromoted) z, ap (λ (x : Kind). x.promoted) z, ap (λ (x : Kind). x.limit) z, ap (λ (x : Kind). x.letter) z))
    (le-or-lt (suc k) 14)

small : (k : ℕ) → k < 15 → (kind_row k).promoted ≤ 14
unfolding kind_row kinds
small k h = leb→le _ _ (all_at (λ j. leb (kind_row j).promoted 14) 15 tt k h)

pub promoted-small : (k : ℕ) → (kind_row k).promoted ≤ 14
promoted-small k = ⊎_elim good (λ b. let z = (row_bad k b).1 in omega arith) (decided (good_kind k))
  where
    good : good_kind k ≡ true → (kind_row k).promoted ≤ 14
    good g = let r = kind_range k g in small k (omega arith)

letter-few : (k : ℕ) → k < 15 → (kind_row k).letter ≤ 83
unfolding kind_row kinds
letter-few k h = leb→le _ _ (all_at (λ j. leb (kind_row j).letter 83) 15 tt k h)

pub letter-small : (k : ℕ) → (kind_row k).letter ≤ 83
letter-small k = ⊎_elim good (λ b. let z = (row_bad k b).3 in omega arith) (decided (good_kind k))
  where
    good : good_kind k ≡ true → (kind_row k).letter ≤ 83
    good g = let r = kind_range k g in letter-few k (omega arith)

-- the bad cells: 15, 16, and from 31 on
pub bad_cells : (c : ℕ) → (eqb c 15 || eqb c 16) || leb 31 c ≡ not (good_cell c)
unfolding good_cell good_piece kind_of good_kind
bad_cells c =
    ⊎_elim (λ (l : c ≤ 30). rows_truth (λ c. (eqb c 15 || eqb c 16) || leb 31 c) (λ c. not (good_cell c)) 0 31 tt c (omega arith) (omega arith))
    (λ (l : 30 < c).
    ap (λ (t : Bool). (eqb c 15 || eqb c 16) || t) (le-leb 31 c (omega arith)) ∙ or-true (eqb c 15 || eqb c 16)
    ∙ ap not (cell_bad c (omega arith) (piece-high c (omega arith))))
    (le-or-lt c 30)

-- two tests that agree at each good cell, which is computed
pub good-cells : (f g : ℕ → Bool) → T (all_from (λ c. beq (good_cell c && f c) (good_cell c && g c)) 0 31) → (c : ℕ) → good_cell c ≡ true → f c ≡ g c
good-cells f g t c e =
    let at : good_cell c && f c ≡ good_cell c && g c =
    ⊎_elim (λ (l : c ≤ 30). rows_truth (λ c. good_cell c && f c) (λ c. good_cell c && g c) 0 31 t c (omega arith) (omega arith))
    (λ (l : 30 < c). absurd (false≢true (cell_bad c (omega arith) (piece-high c (omega arith)) ∙ e)))
    (le-or-lt c 30) in
    sym (ap (λ (x : Bool). x && f c) e) ∙ at ∙ ap (λ (x : Bool). x && g c) e

pub piece-small : (c : ℕ) → good_piece c ≡ true → c < 31
piece-small c g = ⊎_elim (λ (h : 31 ≤ c). absurd (true≢false (sym g ∙ piece-high c h))) (λ (h : c < 31). h) (le-or-lt 31 c)

-- ---- a piece by its colour and its kind
pub piece_by : (x v : ℕ) → good_cell x ≡ true → good_piece v ≡ true → eqb (colour_of x) (colour_of v) && eqb (kind_of x) (kind_of v) ≡ eqb x v
unfolding good_cell good_piece good_kind colour_of kind_of
piece_by x v g h =
    good-cells (λ x. eqb (colour_of x) (colour_of v) && eqb (kind_of x) (kind_of v)) (λ x. eqb x v)
    (all_at (λ v. all_from (λ x. beq (good_cell x && (eqb (colour_of x) (colour_of v) && eqb (kind_of x) (kind_of v))) (good_cell x && eqb x v)) 0 31) 31 tt v (piece-small v h)) x g

-- ---- the other colour
pub other_good : (c : ℕ) → good_colour c ≡ true → good_colour (other_colour c) ≡ true
unfolding good_colour other_colour
other_good c g = by (eqb c 1) (eqb c 2) refl refl g
  where
    by : (s t : Bool) → eqb c 1 ≡ s → eqb c 2 ≡ t → s || t ≡ true → eqb (3 - c) 1 || eqb (3 - c) 2 ≡ true
    by true t a b h = rw (eqb-true c 1 a)
    by false true a b h = rw (eqb-true c 2 b)
    by false false a b h = absurd (true≢false (sym h))

-- ---- a number that is no kind has no promoted form, and is not held
pub no-promoted : (c : ℕ) → good_piece c ≡ false → promoted_piece c ≡ 0
unfolding good_piece promoted_piece
no-promoted c g = rw (row_bad (kind_of c) g).1

pub no-held : (k : ℕ) → good_kind k ≡ false → hand_kind k ≡ 0
unfolding hand_kind
no-held k g = rw (row_bad k g).0

held-few : (k : ℕ) → k < 15 → hand_kind k ≤ 7
unfolding hand_kind kind_row kinds
held-few k h = leb→le _ _ (all_at (λ j. leb (hand_kind j) 7) 15 tt k h)

pub held_small : (k : ℕ) → hand_kind k ≤ 7
held_small k =
    ⊎_elim (λ (h : k ≤ 14). held-few k (omega arith)) (λ (h : 14 < k). omega (arith, no-held k (kind_high k h))) (le-or-lt k 14)

-- ---- how many of a hand kind a full set has
pub limit-small : (j : ℕ) → j < 7 → (kind_row (j + 1)).limit ≤ 18
unfolding kind_row kinds
limit-small j h = leb→le _ _ (all_at (λ i. leb (kind_row (i + 1)).limit 18) 7 tt j h)
