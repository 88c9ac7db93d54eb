-- Squares, files, ranks and steps on a board of any side: a square is its file and its rank, steps add up and go back,
-- and long steps leave the board.
use Rattle.std.proofs.Common.{◌≡◌, ℕ, zero, suc, ◌+◌, ◌-◌, ◌*◌, ◌/◌, ◌%◌, ◌<◌, ◌≤◌, Bool, true, false, cond, ◌&&◌, eqb, leb, ◌⊎◌, sym, refl, ap, ◌∙◌, ap₂, inl, inr, ⊎_elim, mod-lt, mul_comm, div-lt_iff_lt-mul, mul-suc, arith, eq-eqb, ne_eqb, le-leb, leb-true}
use mathlib.Core.Bool.{false≢true}
use Rattle.std.proofs.lemmas.Bool.{false_from_ne_true}
use native.Mathlib.Nat.{div-add-mod}
use native.Mathlib.Decide.{ℕ_discrete}
use lib.Arith.{digits_div, digits_mod, digits_lt}
use borrow.Author.Tests.{lt-leb}
use Rattle.squares.specs.Board.{on_side, on_board, square_at, file_of, rank_of, opposite, file_step, rank_step, step}
use Rattle.squares.specs.declared.bitboard.Direction.{Direction}
use Rattle.squares.specs.declared.bitboard.Direction.TheVariants.{Down, Up, Left, Right}

-- ---- tests of a range
pub both : (p q : Bool) → p && q ≡ true → (p ≡ true) × (q ≡ true)
both true q e = (refl, e)
both false q e = absurd (false≢true e)

pub decided : (t : Bool) → (t ≡ true) ⊎ (t ≡ false)
decided true = inl refl
decided false = inr refl

pub eqb_same : (a b c d : ℕ) → (a ≡ b → c ≡ d) → (c ≡ d → a ≡ b) → eqb a b ≡ eqb c d
eqb_same a b c d f g = go (ℕ_discrete a b)
  where
    go : Dec (a ≡ b) → eqb a b ≡ eqb c d
    go (yes e) = eq-eqb a b e ∙ sym (eq-eqb c d (f e))
    go (no h) = ne_eqb a b h ∙ sym (ne_eqb c d (λ e. h (g e)))

pub in_range : (a b n : ℕ) → leb a n && leb n b ≡ true → (a ≤ n) × (n ≤ b)
in_range a b n e =
    let p = both (leb a n) (leb n b) e in
    (leb-true a n p.0, leb-true n b p.1)

pub side_range : (w k : ℕ) → on_side w k ≡ true → (1 ≤ k) × (k ≤ w)
unfolding on_side
side_range w k e = in_range 1 w k e

pub side_on : (w k : ℕ) → 1 ≤ k → k ≤ w → on_side w k ≡ true
unfolding on_side
side_on w k l h = rw (le-leb 1 k l, le-leb k w h)

pub side_low : (w k : ℕ) → k < 1 → on_side w k ≡ false
unfolding on_side
side_low w k h = rw (lt-leb 1 k h)

pub side_high : (w k : ℕ) → 1 ≤ k → w < k → on_side w k ≡ false
unfolding on_side
side_high w k l h = rw (le-leb 1 k l, lt-leb k w h)

-- not both are good
pub sides_off : (w f r : ℕ) → (1 ≤ f → f ≤ w → 1 ≤ r → r ≤ w → ⊥) → on_side w f && on_side w r ≡ false
sides_off w f r bad =
    false_from_ne_true _ (λ e.
    let t = both (on_side w f) (on_side w r) e in
    let a = side_range w f t.0 in
    let b = side_range w r t.1 in
    bad a.0 a.1 b.0 b.1)

pub board_range : (w n : ℕ) → on_board w n ≡ true → (1 ≤ n) × (n ≤ w * w)
unfolding on_board
board_range w n e = in_range 1 (w * w) n e

pub board_on : (w n : ℕ) → 1 ≤ n → n ≤ w * w → on_board w n ≡ true
unfolding on_board
board_on w n l h = rw (le-leb 1 n l, le-leb n (w * w) h)

pub board-zero : (w : ℕ) → on_board w 0 ≡ false
unfolding on_board
board-zero w = refl

pub board-low : (w n : ℕ) → n < 1 → on_board w n ≡ false
unfolding on_board
board-low w n h = rw (lt-leb 1 n h)

pub board-high : (w n : ℕ) → 1 ≤ n → w * w < n → on_board w n ≡ false
unfolding on_board
board-high w n l h = rw (le-leb 1 n l, lt-leb n (w * w) h)

-- ---- a square is its file and its rank
wide : (w n : ℕ) → on_board w n ≡ true → 0 < w
wide zero n o = let b = board_range 0 n o in absurd (omega arith)
wide (suc w) n o = omega arith

pub file-side : (w n : ℕ) → on_board w n ≡ true → on_side w (file_of w n) ≡ true
unfolding file_of
file-side w n o =
    let b = board_range w n o in
    let q : (n - 1) / w < w = (div-lt_iff_lt-mul (wide w n o)).1 (omega arith) in
    side_on w ((n - 1) / w + 1) (omega arith) (omega arith)

pub rank-side : (w n : ℕ) → on_board w n ≡ true → on_side w (rank_of w n) ≡ true
unfolding rank_of
rank-side w n o =
    let r = mod-lt (n - 1) (wide w n o) in
    side_on w ((n - 1) % w + 1) (omega arith) (omega arith)

sum : (w n : ℕ) → 1 ≤ n → w * file_of w n - w + rank_of w n ≡ n
unfolding file_of rank_of
sum w n l = omega (arith, mul-suc w ((n - 1) / w), div-add-mod (n - 1) w)

pub at_back : (w n : ℕ) → on_board w n ≡ true → square_at w (file_of w n) (rank_of w n) ≡ n
unfolding square_at
at_back w n o = rw (file-side w n o, rank-side w n o) (sum w n (board_range w n o).0)

-- the square of a file and a rank, taken apart again: with f = g + 1 and r = q + 1 it is g * w + q + 1
placed : (w f r : ℕ) → 1 ≤ f → 1 ≤ r → w * f - w + r - 1 ≡ (f - 1) * w + (r - 1)
placed w zero r lf lr = absurd (omega arith)
placed w (suc g) r lf lr = let e : suc g - 1 ≡ g = omega arith in rw e (omega (arith, mul-suc w g, mul_comm g w))

module _ (w f r : ℕ) (g : on_side w f && on_side w r ≡ true) where
  good-file : on_side w f ≡ true
  good-file = (both (on_side w f) (on_side w r) g).0

  good-rank : on_side w r ≡ true
  good-rank = (both (on_side w f) (on_side w r) g).1

  pub at_on : square_at w f r ≡ w * f - w + r
  unfolding square_at
  at_on = rw g

  apart : square_at w f r - 1 ≡ (f - 1) * w + (r - 1)
  apart = ap (λ (n : ℕ). n - 1) at_on ∙ placed w f r (side_range w f good-file).0 (side_range w r good-rank).0

  pub at_board : on_board w (square_at w f r) ≡ true
  at_board =
      let a = side_range w f good-file in
      let b = side_range w r good-rank in
      let l : 1 ≤ square_at w f r = rw at_on (omega arith) in
      let h : (f - 1) * w + (r - 1) < w * w = digits_lt {q = f - 1} {m = w} {r = r - 1} {c = w} (omega arith) (omega arith) in
      board_on w (square_at w f r) l (omega (arith, apart))

  pub at_file : file_of w (square_at w f r) ≡ f
  unfolding file_of
  at_file =
      let a = side_range w f good-file in
      let b = side_range w r good-rank in
      let q : (square_at w f r - 1) / w ≡ f - 1 = ap (λ (n : ℕ). n / w) apart ∙ digits_div (f - 1) {m = w} {r = r - 1} (omega arith) in
      omega arith

  pub at_rank : rank_of w (square_at w f r) ≡ r
  unfolding rank_of
  at_rank =
      let b = side_range w r good-rank in
      let q : (square_at w f r - 1) % w ≡ r - 1 = ap (λ (n : ℕ). n % w) apart ∙ digits_mod (f - 1) {m = w} {r = r - 1} (omega arith) in
      omega arith

pub at_off : (w f r : ℕ) → on_side w f && on_side w r ≡ false → square_at w f r ≡ 0
unfolding square_at
at_off w f r g = rw g

-- ---- steps of a file and a rank
file_add : (dir : Direction) (a b f : ℕ) → file_step dir a (file_step dir b f) ≡ file_step dir (a + b) f
unfolding file_step
file_add Down a b f = refl
file_add Up a b f = refl
file_add Left a b f = omega arith
file_add Right a b f = omega arith

rank_add : (dir : Direction) (a b r : ℕ) → rank_step dir a (rank_step dir b r) ≡ rank_step dir (a + b) r
unfolding rank_step
rank_add Down a b r = omega arith
rank_add Up a b r = omega arith
rank_add Left a b r = refl
rank_add Right a b r = refl

file-none : (dir : Direction) (f : ℕ) → file_step dir 0 f ≡ f
unfolding file_step
file-none Down f = refl
file-none Up f = refl
file-none Left f = omega arith
file-none Right f = omega arith

rank-none : (dir : Direction) (r : ℕ) → rank_step dir 0 r ≡ r
unfolding rank_step
rank-none Down r = omega arith
rank-none Up r = omega arith
rank-none Left r = refl
rank-none Right r = refl

module _ (w : ℕ) where
  -- a step that lands on the board passes only squares of the board
  file_stays : (dir : Direction) (a b f : ℕ) → on_side w f ≡ true → on_side w (file_step dir (a + b) f) ≡ true → on_side w (file_step dir b f) ≡ true
  unfolding file_step
  file_stays Down a b f o e = o
  file_stays Up a b f o e = o
  file_stays Left a b f o e = let r = side_range w f o in let s = side_range w (f + (a + b)) e in side_on w (f + b) (omega arith) (omega arith)
  file_stays Right a b f o e = let r = side_range w f o in let s = side_range w (f - (a + b)) e in side_on w (f - b) (omega arith) (omega arith)

  rank_stays : (dir : Direction) (a b r : ℕ) → on_side w r ≡ true → on_side w (rank_step dir (a + b) r) ≡ true → on_side w (rank_step dir b r) ≡ true
  unfolding rank_step
  rank_stays Down a b r o e = let p = side_range w r o in let s = side_range w (r + (a + b)) e in side_on w (r + b) (omega arith) (omega arith)
  rank_stays Up a b r o e = let p = side_range w r o in let s = side_range w (r - (a + b)) e in side_on w (r - b) (omega arith) (omega arith)
  rank_stays Left a b r o e = o
  rank_stays Right a b r o e = o

  -- back where it came from
  file_back : (dir : Direction) (d f : ℕ) → on_side w (file_step dir d f) ≡ true → file_step (opposite dir) d (file_step dir d f) ≡ f
  unfolding file_step
  file_back Down d f e = refl
  file_back Up d f e = refl
  file_back Left d f e = omega arith
  file_back Right d f e = let s = side_range w (f - d) e in omega arith

  rank_back : (dir : Direction) (d r : ℕ) → on_side w (rank_step dir d r) ≡ true → rank_step (opposite dir) d (rank_step dir d r) ≡ r
  unfolding rank_step
  rank_back Down d r e = omega arith
  rank_back Up d r e = let s = side_range w (r - d) e in omega arith
  rank_back Left d r e = refl
  rank_back Right d r e = refl

  -- too far
  too_far : (dir : Direction) (d f r : ℕ) → w ≤ d → on_side w f ≡ true → on_side w r ≡ true → on_side w (file_step dir d f) && on_side w (rank_step dir d r) ≡ false
  unfolding file_step rank_step
  too_far Down d f r h a b = let p = side_range w r b in rw (a, side_high w (r + d) (omega arith) (omega arith))
  too_far Up d f r h a b = let p = side_range w r b in rw (a, side_low w (r - d) (omega arith))
  too_far Left d f r h a b = let p = side_range w f a in rw (side_high w (f + d) (omega arith) (omega arith))
  too_far Right d f r h a b = let p = side_range w f a in rw (side_low w (f - d) (omega arith))

-- ---- steps of a square, at every side, direction and distance
module _ (w : ℕ) (dir : Direction) where
  -- the d-th square is on the board
  lands : ℕ → ℕ → Bool
  lands d n = on_side w (file_step dir d (file_of w n)) && on_side w (rank_step dir d (rank_of w n))

  step_on : (d n : ℕ) → on_board w n ≡ true → step w dir d n ≡ square_at w (file_step dir d (file_of w n)) (rank_step dir d (rank_of w n))
  unfolding step
  step_on d n o = rw o

  pub step_off : (d n : ℕ) → on_board w n ≡ false → step w dir d n ≡ 0
  unfolding step
  step_off d n o = rw o

  step_leaves : (d n : ℕ) → on_board w n ≡ true → lands d n ≡ false → step w dir d n ≡ 0
  unfolding lands
  step_leaves d n o g = step_on d n o ∙ at_off w _ _ g

  pub step-zero : (d : ℕ) → step w dir d 0 ≡ 0
  step-zero d = step_off d 0 (board-zero w)

  pub step-none : (n : ℕ) → on_board w n ≡ true → step w dir 0 n ≡ n
  step-none n o = step_on 0 n o ∙ ap₂ (square_at w) (file-none dir (file_of w n)) (rank-none dir (rank_of w n)) ∙ at_back w n o

  pub step_long : (d n : ℕ) → w ≤ d → step w dir d n ≡ 0
  unfolding lands
  step_long d n h =
      ⊎_elim
      (λ (o : on_board w n ≡ true). step_leaves d n o (too_far w dir d (file_of w n) (rank_of w n) h (file-side w n o) (rank-side w n o)))
      (step_off d n)
      (decided (on_board w n))

  lands_before : (a b n : ℕ) → on_board w n ≡ true → lands (a + b) n ≡ true → lands b n ≡ true
  unfolding lands
  lands_before a b n o g =
      let p = both (on_side w (file_step dir (a + b) (file_of w n))) (on_side w (rank_step dir (a + b) (rank_of w n))) g in
      rw (file_stays w dir a b (file_of w n) (file-side w n o) p.0, rank_stays w dir a b (rank_of w n) (rank-side w n o) p.1)

  pub step_add : (a b n : ℕ) → step w dir a (step w dir b n) ≡ step w dir (a + b) n
  unfolding lands
  step_add a b n = ⊎_elim on off (decided (on_board w n))
    where
      off : on_board w n ≡ false → step w dir a (step w dir b n) ≡ step w dir (a + b) n
      off o = ap (step w dir a) (step_off b n o) ∙ step-zero a ∙ sym (step_off (a + b) n o)

      near : on_board w n ≡ true → lands b n ≡ true → step w dir a (step w dir b n) ≡ step w dir (a + b) n
      near o g =
          let f : ℕ = file_step dir b (file_of w n) in
          let r : ℕ = rank_step dir b (rank_of w n) in
          ap (step w dir a) (step_on b n o) ∙ step_on a (square_at w f r) (at_board w f r g)
          ∙ ap₂ (λ (x y : ℕ). square_at w (file_step dir a x) (rank_step dir a y)) (at_file w f r g) (at_rank w f r g)
          ∙ ap₂ (square_at w) (file_add dir a b (file_of w n)) (rank_add dir a b (rank_of w n)) ∙ sym (step_on (a + b) n o)

      far : on_board w n ≡ true → lands b n ≡ false → step w dir a (step w dir b n) ≡ step w dir (a + b) n
      far o g =
          ap (step w dir a) (step_leaves b n o g) ∙ step-zero a
          ∙ sym (⊎_elim (λ e. absurd (false≢true (sym g ∙ lands_before a b n o e))) (step_leaves (a + b) n o) (decided (lands (a + b) n)))

      on : on_board w n ≡ true → step w dir a (step w dir b n) ≡ step w dir (a + b) n
      on o = ⊎_elim (near o) (far o) (decided (lands b n))

  pub step_back : (d m n : ℕ) → on_board w m ≡ true → on_board w n ≡ true → step w dir d m ≡ n → step w (opposite dir) d n ≡ m
  unfolding lands step
  step_back d m n om on e = ⊎_elim near (λ g. absurd (false≢true (sym (board-zero w) ∙ ap (on_board w) (sym (step_leaves d m om g) ∙ e) ∙ on))) (decided (lands d m))
    where
      near : lands d m ≡ true → step w (opposite dir) d n ≡ m
      near g =
          let f : ℕ = file_step dir d (file_of w m) in
          let r : ℕ = rank_step dir d (rank_of w m) in
          let p = both (on_side w f) (on_side w r) g in
          let s : n ≡ square_at w f r = sym e ∙ step_on d m om in
          ap (λ (t : Bool). cond t (square_at w (file_step (opposite dir) d (file_of w n)) (rank_step (opposite dir) d (rank_of w n))) 0) on
          ∙ ap₂ (λ (x y : ℕ). square_at w (file_step (opposite dir) d x) (rank_step (opposite dir) d y)) (ap (file_of w) s ∙ at_file w f r g) (ap (rank_of w) s ∙ at_rank w f r g)
          ∙ ap₂ (square_at w) (file_back w dir d (file_of w m) p.0) (rank_back w dir d (rank_of w m) p.1) ∙ at_back w m om

module _ (w : ℕ) where
  step_start : (dir : Direction) (d a n : ℕ) → on_board w n ≡ true → step w dir d a ≡ n → on_board w a ≡ true
  step_start dir d a n o e =
      ⊎_elim (λ (p : on_board w a ≡ true). p)
      (λ (p : on_board w a ≡ false). absurd (false≢true (sym (board-zero w) ∙ ap (on_board w) (sym (step_off w dir d a p) ∙ e) ∙ o)))
      (decided (on_board w a))

  twice : (dir : Direction) → opposite (opposite dir) ≡ dir
  twice Down = refl
  twice Up = refl
  twice Left = refl
  twice Right = refl

  -- n is d steps from a exactly where a is the square d steps back from n
  pub step_iff : (dir : Direction) (d a n : ℕ) → on_board w n ≡ true
      → on_board w (step w (opposite dir) d n) && eqb a (step w (opposite dir) d n) ≡ eqb (step w dir d a) n
  step_iff dir d a n o = ⊎_elim on off (decided (on_board w (step w (opposite dir) d n)))
    where
      hit : step w dir d a ≡ n → a ≡ step w (opposite dir) d n
      hit e = sym (step_back w dir d a n (step_start dir d a n o e) o e)

      forth : on_board w (step w (opposite dir) d n) ≡ true → step w dir d (step w (opposite dir) d n) ≡ n
      forth q = ap (λ (e : Direction). step w e d (step w (opposite dir) d n)) (sym (twice dir)) ∙ step_back w (opposite dir) d n (step w (opposite dir) d n) o q refl

      on : on_board w (step w (opposite dir) d n) ≡ true → on_board w (step w (opposite dir) d n) && eqb a (step w (opposite dir) d n) ≡ eqb (step w dir d a) n
      on q = rw q (eqb_same a (step w (opposite dir) d n) (step w dir d a) n (λ e. ap (step w dir d) e ∙ forth q) hit)

      off : on_board w (step w (opposite dir) d n) ≡ false → on_board w (step w (opposite dir) d n) && eqb a (step w (opposite dir) d n) ≡ eqb (step w dir d a) n
      off q = rw q (sym (ne_eqb (step w dir d a) n (λ e. false≢true (sym q ∙ ap (on_board w) (sym (hit e)) ∙ step_start dir d a n o e))))
