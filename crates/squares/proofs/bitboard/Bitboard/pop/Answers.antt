use Rattle.std.proofs.Common.{ℕ, sym, ap, ◌∙◌, ap₂, rules}
use lib.Bits.{bit_and, mask_lt}
use Rattle.squares.specs.Answers.{pop_answer}
use Rattle.squares.specs.declared.bitboard.Bitboard.{Bitboard}
use Rattle.squares.proofs.Members.{has_masked}
use Rattle.squares.proofs.Lowest.{pop_lo, pop_hi, pop-none, pop_cong}
use Rattle.squares.proofs.bitboard.Bitboard.pop.Goals as goal

pub returns-then-lo-ne0 : goal.returns-then-lo-ne0
returns-then-lo-ne0 c =
    let s : Bitboard = c.args.self in
    pop_lo (bit_and s.lo 0x7fff_ffff_ffff_ffff) (bit_and s.hi 0x3_ffff) (mask_lt s.lo 63) (mask_lt s.hi 18) (search rules) ∙ pop_cong _ s (has_masked s)

pub returns-then-hi-ne0 : goal.returns-then-hi-ne0
returns-then-hi-ne0 c =
    let s : Bitboard = c.args.self in
    let y : ℕ = bit_and s.hi 0x3_ffff in
    pop_hi y (mask_lt s.hi 18) (search rules)
    ∙ ap (λ (k : ℕ). pop_answer (record { lo = k; hi = y })) (sym c.if-lo-ne0.false) ∙ pop_cong _ s (has_masked s)

pub returns : goal.returns
returns c =
    let s : Bitboard = c.args.self in
    pop-none ∙ ap₂ (λ (j k : ℕ). pop_answer (record { lo = j; hi = k })) (sym c.if-lo-ne0.false) (sym c.if-hi-ne0.false) ∙ pop_cong _ s (has_masked s)
