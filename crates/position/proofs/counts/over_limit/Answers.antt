use Prim.Native.Nat.{ℕ, ◌<◌}
use mathlib.Core.Path.{◌≡◌, sym, ap, ap₂, ◌∙◌}
use native.Mathlib.Omega.{arith}
use mathlib.Core.List.{List}
use lib.ListN.{length, get_or}
use Rattle.squares.specs.declared.bitboard.Bitboard.{Bitboard}
use Rattle.squares.specs.Sets.{empty_s, or_s, size}
use Rattle.squares.proofs.Laws.{get_d_any}
use Rattle.position.specs.Inner.{promoted_at, sets_size}
use Rattle.position.proofs.Agree.{any_none, any_more, any_at}
use Rattle.position.proofs.Elsewhere.{over_yes, over_no}
use Rattle.position.proofs.counts.over_limit.Goals as goal

-- how many stand on the board of a kind, by its set and that of its promoted form at i
standing : (kinds : List Bitboard) (j i : ℕ) (d e s : Bitboard) (n r : ℕ) → length kinds ≡ 14 → j < 7 → (i ≡ promoted_at j) × (i < 14)
    → s ≡ or_s (get_or kinds j d) (get_or kinds i e) → n ≡ size s → r ≡ n → r ≡ sets_size kinds j
unfolding sets_size
standing kinds j i d e s n r len h there both count wide =
    wide ∙ count
    ∙ ap size (both
    ∙ ap₂ or_s (get_d_any kinds j _ empty_s (omega arith)) (get_d_any kinds i _ empty_s (omega (arith, there.1)) ∙ ap (λ (k : ℕ). get_or kinds k empty_s) there.0))

pub loop-j-init : goal.loop-j-init
loop-j-init c = (omega arith, any_none _)

pub promoted_index-requires : goal.promoted_index-requires
promoted_index-requires c = omega arith

pub returns-then-full_set-standing : goal.returns-then-full_set-standing
returns-then-full_set-standing c =
    let here = standing c.args.kinds.now c.loop-j.j c.promoted_index.result _ _ _ _ _ (omega arith) (omega arith) c.promoted_index.ensures c.or.ensures c.count.ensures c.from-standing.ensures in
    sym (any_at _ c.loop-j.j 7 (omega arith) (over_yes c.args.kinds.now c.args.hands.now c.loop-j.j _ _ _ _ here c.from.ensures c.from-in-loop-j.ensures c.full_set.ensures c.if-full_set-standing.true))

pub loop-j-preserved : goal.loop-j-preserved
loop-j-preserved c =
    let here = standing c.args.kinds.now c.loop-j.j c.promoted_index.result _ _ _ _ _ (omega arith) (omega arith) c.promoted_index.ensures c.or.ensures c.count.ensures c.from-standing.ensures in
    (omega arith, any_more _ _ c.loop-j.invariant.1 (over_no c.args.kinds.now c.args.hands.now c.loop-j.j _ _ _ _ here c.from.ensures c.from-in-loop-j.ensures c.full_set.ensures c.if-full_set-standing.false))

pub returns : goal.returns
returns c = let e : c.loop-j.j ≡ 7 = omega arith in sym (rw e at c.loop-j.invariant.1)
