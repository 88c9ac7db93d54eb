-- A set that is compared with another: no stray bit, and the same members, is the same words as the other without its stray bits.
use Rattle.std.proofs.Common.{◌≡◌, ℕ, Bool, true, false, not, ◌&&◌, eqb, sym, refl, ap, ◌∙◌, ap₂, ⊎_elim, true≢false, eq-eqb, eqb-true}
use mathlib.Core.Bool.{beq, and-false}
use borrow.Author.Tests.{not-false}
use Rattle.squares.specs.Board.{on_board}
use Rattle.squares.specs.Sets.{has, set_of, clean, xor_s, is_empty, exactly}
use Rattle.squares.specs.declared.bitboard.Bitboard.{Bitboard}
use Rattle.squares.proofs.Steps.{both, decided}
use Rattle.squares.proofs.Members.{has-set_of, has_on, set_of_cong, clean-set_of, clean-has, cleaned, masked}
use Rattle.squares.proofs.Least.{empty-none, empty-has}

beq_self : (a : Bool) → beq a a ≡ true
beq_self true = refl
beq_self false = refl

beq_same : (a b : Bool) → beq a b ≡ true → a ≡ b
beq_same true true e = refl
beq_same true false e = absurd (true≢false (sym e))
beq_same false true e = absurd (true≢false (sym e))
beq_same false false e = refl

module _ (s t : Bitboard) where
  pub exactly-set : exactly s t ≡ true → s ≡ set_of (has t)
  unfolding exactly xor_s
  exactly-set e =
      let p = both (clean s) (is_empty (xor_s s t)) e in
      sym (clean-has s p.0)
      ∙ set_of_cong (has s) (has t) (λ n o.
      beq_same (has s n) (has t n)
      (not-false (beq (has s n) (has t n))
      (sym (has-set_of (λ m. not (beq (has s m) (has t m))) n ∙ ap (λ (b : Bool). b && not (beq (has s n) (has t n))) o) ∙ empty-has (xor_s s t) p.1 n)))

  pub set-exactly : s ≡ set_of (has t) → exactly s t ≡ true
  unfolding exactly xor_s
  set-exactly e =
      ap₂ (λ (a b : Bool). a && b) (ap clean e ∙ clean-set_of (has t))
      (empty-none (xor_s s t) (λ n.
      has-set_of (λ m. not (beq (has s m) (has t m))) n
      ∙ ap (λ (b : Bool). on_board 9 n && not (beq b (has t n))) (ap (λ (r : Bitboard). has r n) e ∙ has-set_of (has t) n ∙ has_on t n)
      ∙ ap (λ (b : Bool). on_board 9 n && not b) (beq_self (has t n)) ∙ and-false (on_board 9 n)))

  pub exactly-not : exactly s t ≡ false → s ≡ set_of (has t) → ⊥
  exactly-not f e = true≢false (sym (set-exactly e) ∙ f)

  -- where the other is clean, it is the other
  pub exactly-same : clean t ≡ true → exactly s t ≡ true → s ≡ t
  exactly-same c e = exactly-set e ∙ clean-has t c

  pub exactly_other : clean t ≡ true → exactly s t ≡ false → s ≡ t → ⊥
  exactly_other c f e = exactly-not f (e ∙ sym (clean-has t c))

  -- ---- by words
  pub exact_lo : s.lo ≡ (cleaned t).lo → eqb s.hi (cleaned t).hi ≡ exactly s t
  exact_lo l =
      ⊎_elim
      (λ (h : eqb s.hi (cleaned t).hi ≡ true).
      h ∙ sym (set-exactly (ap₂ (λ (x y : ℕ). record { lo = x; hi = y }) l (eqb-true s.hi (cleaned t).hi h) ∙ masked t)))
      (λ (h : eqb s.hi (cleaned t).hi ≡ false).
      ⊎_elim
      (λ (e : exactly s t ≡ true). absurd (true≢false (sym (eq-eqb s.hi (cleaned t).hi (ap (λ (r : Bitboard). r.hi) (exactly-set e ∙ sym (masked t)))) ∙ h)))
      (λ (e : exactly s t ≡ false). h ∙ sym e) (decided (exactly s t)))
      (decided (eqb s.hi (cleaned t).hi))

  pub exact_not_lo : (s.lo ≡ (cleaned t).lo → ⊥) → false ≡ exactly s t
  exact_not_lo d =
      ⊎_elim (λ (e : exactly s t ≡ true). absurd (d (ap (λ (r : Bitboard). r.lo) (exactly-set e ∙ sym (masked t))))) (λ (e : exactly s t ≡ false). sym e)
      (decided (exactly s t))
