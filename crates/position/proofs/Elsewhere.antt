-- The faults that are no cell's: kings, counts, the ply.
use mathlib.Core.Path.{◌≡◌, refl, sym, ap, ◌∙◌}
use Prim.Native.Nat.{ℕ, zero, suc, ◌+◌, ◌-◌, ◌≤◌, ◌<◌}
use mathlib.Core.Bool.{Bool, true, false, ◌&&◌, not}
use mathlib.Core.List.{List}
use native.Mathlib.Omega.{arith}
use lib.ListN.{get_or}
use lib.Dec.{eqb, leb}
use lib.Arith.{lt_of_le-ne}
use borrow.Author.Tests.{eq-eqb, ne_eqb, le-leb, lt-leb, leb-true}
use Rattle.squares.specs.declared.bitboard.Bitboard.{Bitboard}
use Rattle.squares.specs.Kinds.{kind_row}
use Rattle.squares.specs.Sets.{size, is_empty, smallest}
use Rattle.squares.specs.Answers.{FormValue, promoted_answer, pop_answer}
use Rattle.squares.proofs.Laws.{both, eqb_same, promoted-small, promoted-value, promoted-some, empty-size, pop-square, pop_nothing, smallest_at, smallest-none, size_none}
use Rattle.position.specs.Sound.{top_ply, good_ply}
use Rattle.position.specs.Inner.{king_off, promoted_at, sets_size, over_by_sets}

-- ---- the ply
pub ply_range : (n : ℕ) → good_ply n ≡ true → (1 ≤ n) × (n ≤ top_ply)
unfolding good_ply
ply_range n h = let b = both (leb 1 n) (leb n top_ply) h in (leb-true 1 n b.0, leb-true n top_ply b.1)

pub ply-good : (n : ℕ) → 1 ≤ n → n ≤ top_ply → good_ply n ≡ true
unfolding good_ply
ply-good n l h = rw (le-leb 1 n l, le-leb n top_ply h)

pub ply-next : (n : ℕ) → good_ply n ≡ true → (n ≡ top_ply → ⊥) → good_ply (n + 1) ≡ true
ply-next n h d = let below : n < top_ply = lt_of_le-ne (ply_range n h).1 d in ply-good (n + 1) (omega arith) (omega arith)

-- ---- a king's set, popped
one_more : (m : ℕ) → leb (m + 1) 1 ≡ eqb m 0
one_more zero = refl
one_more (suc m) = lt-leb (suc m + 1) 1 (omega arith) ∙ sym (ne_eqb (suc m) 0 (λ e. omega arith))

module _ (s : Bitboard) (q : ℕ) where
  pub king_found : (n : ℕ) (r : Bitboard) → record { number = 0; found = true; square = n; set = r } ≡ pop_answer s → n ≡ q → not (is_empty r) ≡ king_off s q
  unfolding king_off
  king_found n r e z =
      let p = pop-square s n r e in
      rw (eq-eqb (smallest s) q (smallest_at s n p.least ∙ z), ← p.fewer) (ap not (empty-size r ∙ sym (one_more (size r))))

  pub king_other : (n : ℕ) (r : Bitboard) → record { number = 0; found = true; square = n; set = r } ≡ pop_answer s → (n ≡ q → ⊥) → true ≡ king_off s q
  unfolding king_off
  king_other n r e d = let p = pop-square s n r e in rw (ne_eqb (smallest s) q (λ z. d (sym (smallest_at s n p.least) ∙ z)))

  pub king_nothing : (r : Bitboard) → record { number = 0; found = false; square = 0; set = r } ≡ pop_answer s → not (eqb q 0) ≡ king_off s q
  unfolding king_off
  king_nothing r e =
      let z = pop_nothing s r e in
      rw (smallest-none s z, size_none s z, eqb_same q 0 0 q sym sym) (and_yes (eqb 0 q))
    where
      and_yes : (t : Bool) → not t ≡ not (t && true)
      and_yes true = refl
      and_yes false = refl

-- ---- where a promoted kind's set stands
module _ (j : ℕ) (small : j < 7) where
  pub place_nothing : (x : FormValue) → x ≡ promoted_answer (j + 1) → x.value ≡ 0 → (j ≡ promoted_at j) × (j < 14)
  unfolding promoted_at
  place_nothing x e none = (rw (eq-eqb _ 0 (sym (promoted-value (j + 1) _ e) ∙ none)), omega arith)

  pub place-form : (v : ℕ) → record { number = 0; found = true; value = v } ≡ promoted_answer (j + 1) → (v - 1 ≡ promoted_at j) × (v - 1 < 14)
  unfolding promoted_at
  place-form v e =
      let z : v ≡ (kind_row (j + 1)).promoted = promoted-value (j + 1) _ e in
      let some = promoted-some (j + 1) _ e refl in
      (rw (← z) (rw (ne_eqb v 0 (λ q. omega arith))), omega (arith, promoted-small (j + 1)))

-- ---- the counts
module _ (kinds : List Bitboard) (hands : List ℕ) (j a h k l : ℕ) (ea : a ≡ sets_size kinds j) (eh : h ≡ get_or hands j 0) (ek : k ≡ get_or hands (j + 7) 0)
    (el : l ≡ (kind_row (j + 1)).limit) where
  sums : over_by_sets kinds hands j ≡ not (leb (a + (h + k)) l)
  unfolding over_by_sets
  sums = rw (ea, eh, ek, el)

  pub over_yes : l < a + (h + k) → over_by_sets kinds hands j ≡ true
  over_yes q = sums ∙ ap not (lt-leb (a + (h + k)) l q)

  pub over_no : a + (h + k) ≤ l → over_by_sets kinds hands j ≡ false
  over_no q = sums ∙ ap not (le-leb (a + (h + k)) l q)
