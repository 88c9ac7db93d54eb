-- The piece that arrives, and the kind as which a piece is held, at each of the good cells by one computed test.
use mathlib.Core.Path.{◌≡◌, refl}
use mathlib.Core.Logic.{⊎_elim}
use Prim.Native.Nat.{ℕ, zero, suc, ◌≤◌, ◌<◌}
use mathlib.Core.Bool.{Bool, true, false, not, ◌&&◌, ◌||◌, true≢false}
use native.Mathlib.Omega.{arith}
use lib.Dec.{eqb, leb}
use borrow.Author.Tests.{eqb-true, eqb-false, ne_eqb, leb-true, lt-leb, not-false, not-true}
use Rattle.squares.specs.Kinds.{kind_row, kinds, good_kind, hand_kind, piece_of, colour_of, kind_of, good_piece, good_cell, promoted_piece}
use Rattle.squares.proofs.Laws.{both, le-or-lt, black_colour, white_colour, piece-small, decided}
use Rattle.position.specs.Sound.{any_below}
use Rattle.position.specs.Moves.{arriving}
use Rattle.position.proofs.Agree.{any_each}

pub positive : (n : ℕ) → (n ≡ 0 → ⊥) → 1 ≤ n
positive zero d = absurd (d refl)
positive (suc n) d = omega arith

-- a cell that is not empty has a colour
pub colour_in : (x : ℕ) → (x ≡ 0 → ⊥) → (1 ≤ colour_of x) × (colour_of x ≤ 2)
colour_in x d =
    ⊎_elim (λ (h : x ≤ 16). let e = black_colour x (positive x d) h in (omega arith, omega arith))
    (λ (h : 16 < x). let e = white_colour x h in (omega arith, omega arith)) (le-or-lt x 16)

or_right : (a b : Bool) → a ≡ false → a || b ≡ true → b ≡ true
or_right true b e h = absurd (true≢false e)
or_right false b e h = h

abbrev pub unkind : ℕ → ℕ
unkind c = (kind_row (kind_of c)).unpromoted

-- ---- what promotes becomes a piece of the same unpromoted kind, and no king
pub record Lands (v c : ℕ) : Type 0 where
  pub good : good_piece v ≡ true
  pub kind : unkind v ≡ unkind c
  pub black : v ≡ 8 → c ≡ 8
  pub white : v ≡ 24 → c ≡ 24

unlike : ℕ → Bool
unlike c =
    let v = promoted_piece c in
    not (eqb v 0 || (good_piece v && (eqb (unkind v) (unkind c) && (not (eqb v 8) && not (eqb v 24)))))

unlike_none : any_below unlike 31 ≡ false
unfolding any_below unlike promoted_piece piece_of kind_row kinds good_piece good_kind colour_of kind_of
unlike_none = refl

promoted_lands : (c : ℕ) → c < 31 → (promoted_piece c ≡ 0 → ⊥) → Lands (promoted_piece c) c
unfolding unlike
promoted_lands c h d =
    let b = both _ _ (or_right _ _ (ne_eqb (promoted_piece c) 0 d) (not-false _ (any_each unlike 31 c unlike_none h))) in
    let e = both _ _ b.1 in
    let f = both _ _ e.1 in
    record {
      good = b.0;
      kind = eqb-true _ _ e.0;
      black = λ z. absurd (eqb-false (promoted_piece c) 8 (not-true _ f.0) z);
      white = λ z. absurd (eqb-false (promoted_piece c) 24 (not-true _ f.1) z);
    }

pub arriving_lands : (promote : Bool) (c : ℕ) → good_piece c ≡ true → promote && eqb (promoted_piece c) 0 ≡ false → Lands (arriving promote c) c
unfolding arriving
arriving_lands true c g h = promoted_lands c (piece-small c g) (eqb-false (promoted_piece c) 0 h)
arriving_lands false c g h = record { good = g; kind = refl; black = λ z. z; white = λ z. z }

-- ---- a piece that is no king is held as its unpromoted kind, one of 1 to 7; an empty cell as none
pub record Holds (t : ℕ) : Type 0 where
  pub kind : hand_kind (kind_of t) ≡ unkind t
  pub high : hand_kind (kind_of t) ≤ 7

unheld : ℕ → Bool
unheld t = not (eqb (kind_of t) 8 || (eqb (hand_kind (kind_of t)) (unkind t) && leb (hand_kind (kind_of t)) 7))

unheld_none : any_below unheld 31 ≡ false
unfolding any_below unheld hand_kind kind_row kinds kind_of
unheld_none = refl

pub cell-held : (t : ℕ) → good_cell t ≡ true → (kind_of t ≡ 8 → ⊥) → Holds t
unfolding unheld good_cell
cell-held t g d =
    let h : t < 31 = ⊎_elim (λ (e : eqb t 0 ≡ true). omega (arith, eqb-true t 0 e)) (λ (e : eqb t 0 ≡ false). piece-small t (rw e at g)) (decided (eqb t 0)) in
    let b = both _ _ (or_right _ _ (ne_eqb (kind_of t) 8 d) (not-false _ (any_each unheld 31 t unheld_none h))) in
    record { kind = eqb-true _ _ b.0; high = leb-true _ _ b.1 }

-- an unpromoted kind is its own
unpromoted_own : any_below (λ c. not (leb 9 (kind_of c) || eqb (unkind c) (kind_of c))) 31 ≡ false
unfolding any_below kind_row kinds kind_of
unpromoted_own = refl

pub plain_kind : (c : ℕ) → good_piece c ≡ true → kind_of c < 9 → unkind c ≡ kind_of c
plain_kind c g h =
    eqb-true _ _ (or_right _ _ (lt-leb 9 (kind_of c) h) (not-false _ (any_each (λ c. not (leb 9 (kind_of c) || eqb (unkind c) (kind_of c))) 31 c unpromoted_own (piece-small c g))))
