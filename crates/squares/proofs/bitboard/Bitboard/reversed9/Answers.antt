-- The invariant: after i turns `rest` has lost its i lowest bits, and `turned` holds them, last first.
use Rattle.std.proofs.Common.{◌≡◌, ℕ, ◌+◌, ◌*◌, ◌/◌, ◌%◌, ◌<◌, ◌≤◌, sym, ap, ◌∙◌, ap₂, lt_of_lt_of_le, div-one, add-one, arith, pow_mono, shr-shr, rules}
use Rattle.squares.proofs.Bits.{reversed_to, reversed_none, reversed_more, reversed_nine, reversed_lt}
use Rattle.squares.proofs.bitboard.Bitboard.reversed9.Goals as goal

-- nine bits fit
small : (p i : ℕ) → i ≤ 9 → reversed_to p i < 512
small p i h = lt_of_lt_of_le (reversed_lt p i) (pow_mono {j = 9} h)

pub loop-i-init : goal.loop-i-init
loop-i-init c = (search rules, sym (div-one c.args.pattern), sym (reversed_none c.args.pattern))

pub overflow_mul-turned : goal.overflow_mul-turned
overflow_mul-turned c = let l = c.loop-i in omega (arith, l.invariant.2, small c.args.pattern l.i l.invariant.0)

pub overflow_add-turned : goal.overflow_add-turned
overflow_add-turned c = let l = c.loop-i in omega (arith, l.invariant.2, small c.args.pattern l.i l.invariant.0)

pub loop-i-preserved : goal.loop-i-preserved
loop-i-preserved c =
    let l = c.loop-i in
    let p : ℕ = c.args.pattern in (
      search rules,
      ap (λ (x : ℕ). x / 2) l.invariant.1 ∙ shr-shr p l.i 1,
      ap₂ (λ (a b : ℕ). 2 * a + b % 2) l.invariant.2 l.invariant.1 ∙ sym (reversed_more p l.i) ∙ ap (reversed_to p) (sym (add-one l.i)),
    )

pub returns : goal.returns
returns c =
    let l = c.loop-i in
    let p : ℕ = c.args.pattern in
    let e : l.i ≡ 9 = search rules in
    l.invariant.2 ∙ ap (reversed_to p) e ∙ reversed_nine p
