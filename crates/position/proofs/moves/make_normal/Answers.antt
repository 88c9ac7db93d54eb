use mathlib.Core.Bool.{Bool}
use Rattle.position.specs.declared.position.Position.{Position}
use mathlib.Core.Path.{◌≡◌, sym, ap, ◌∙◌}
use Prim.Native.Nat.{ℕ}
use Rattle.position.specs.Machine.{machine, cell_at}
use Rattle.std.proofs.lemmas.Result.{err_from_is_err_and}
use Rattle.position.specs.Moves.{normal_facts, rule_facts, held, next}
use Rattle.position.specs.Inner.{told_first}
use Rattle.position.specs.Plans.{normal_plan}
use Rattle.position.specs.declared.answers.Refusal.TheVariants.{NothingThere}
use Rattle.position.specs.declared.answers.Told.{Told}
use Rattle.position.specs.declared.mv.Move.TheVariants.{Normal}
use native.Mathlib.Omega.{arith}
use Rattle.position.proofs.InOrder.{Sized}
use Rattle.position.proofs.Ladder.{moves_apart, normal_passes, rule_refuses, rule_passes}
use Rattle.position.proofs.Kept.{normal_carried}
use Rattle.position.proofs.Halves.{stood_nothing, stood-piece, held_nothing, normal_squares, empty-start, sound_room, normal-fits}
use Rattle.position.proofs.Playing.{plan-moves, normal_plays}
use Rattle.position.proofs.moves.make_normal.Goals as goal
use Rattle.position.proofs.moves.make_normal.Goals.{in-Some-stands_on, in_default-stands_on}

-- what the call that looks at the facts tells is of the rules
told : (p : Position) (from-square to-square : ℕ) (promoting : Bool) {piece target : ℕ} {t : Told}
    → piece ≡ cell_at p.board from-square → target ≡ cell_at p.board to-square
    → t ≡ told_first (normal_facts piece target promoting p.side p.ply) → t ≡ told_first (rule_facts (machine p) (Normal from-square to-square promoting))
unfolding rule_facts machine
told p from-square to-square promoting stands there call = rw (← there, ← stands) call

pub stands_on-requires : goal.stands_on-requires
stands_on-requires c = (normal_squares _ _ _ c.requires.good).0

pub returns-in_default : goal.returns-in_default
returns-in_default c = rule_refuses _ _ c.requires NothingThere (empty-start c.args.p.now _ _ _ (stood_nothing _ (sym c.stands_on.ensures ∙ c.in_default.is)))

pub cell-target-requires : goal.cell-target-requires
cell-target-requires c = (normal_squares _ _ _ c.requires.good).1

pub allow_normal-requires : goal.allow_normal-requires
allow_normal-requires c =
    let piece = stood-piece _ _ (sym c.stands_on.ensures ∙ c.in-Some.is) in
    λ z. piece.1 (sym piece.0 ∙ z)

pub returns-in_err-allow_normal : goal.returns-in_err-allow_normal
returns-in_err-allow_normal c =
    let piece = stood-piece _ _ (sym c.stands_on.ensures ∙ c.in-Some.is) in
    let i = err_from_is_err_and c.from_residual.result c.from_residual.ensures.1 in
    rw (i.1, i.2) (rule_refuses _ _ c.requires _ (told c.args.p.now c.args.from c.args.to c.args.promote piece.0 c.cell-target.ensures c.in_err-allow_normal.ensures))

pub stands_on-requires-2 : goal.stands_on-requires-2
stands_on-requires-2 c = (normal_squares _ _ _ c.requires.good).1

pub hold-more-requires : goal.hold-more-requires
hold-more-requires c =
    let size : Sized c.args.p.now = record { board = omega arith; hands = omega arith; players = omega arith; kinds = omega arith } in
    sound_room c.args.p.now size c.requires.whole _

pub returns : goal.returns
unfolding next machine
returns c =
    let size : Sized c.args.p.now = record { board = omega arith; hands = omega arith; players = omega arith; kinds = omega arith } in
    let piece = stood-piece _ _ (sym c.stands_on.ensures ∙ c.in-Some.is) in
    let none = sym (ap (λ (t : Told). t.number) (told c.args.p.now c.args.from c.args.to c.args.promote piece.0 c.cell-target.ensures c.in_ok-allow_normal.ensures)) in
    let can = normal_passes _ _ _ _ c.requires.good none in
    let hands-are : c.match-stands_on-2.hands ≡ held c.args.p.now.side (cell_at c.args.p.now.board c.args.to) c.args.p.now.hands = elim c.match-stands_on-2.branch [
      | in-Some-stands_on w ↦
          w.hands-is ∙ w.hold-more.ensures
          ∙ ap (λ (t : ℕ). held c.args.p.now.side t c.args.p.now.hands) (stood-piece _ _ (sym c.stands_on-2.ensures ∙ w.in-Some-stands_on.is)).0
      | in_default-stands_on w ↦ w.hands-is ∙ held_nothing _ _ _ (stood_nothing _ (sym c.stands_on-2.ensures ∙ w.in_default-stands_on.is))
    ] in
    let planned : c.normal_plan.result ≡ normal_plan c.args.from c.args.to c.args.promote (cell_at c.args.p.now.board c.args.from) (cell_at c.args.p.now.board c.args.to) (held c.args.p.now.side (cell_at c.args.p.now.board c.args.to) c.args.p.now.hands) = rw (← hands-are, ← piece.0, ← c.cell-target.ensures) c.normal_plan.ensures in
    plan-moves _ _ _ _ planned (normal-fits c.args.p.now size c.requires.whole _ _ _ _ _ _ can) (rule_passes _ _ c.requires _ none (normal_plays c.args.p.now size.board _ _ _ _ can.start can.goal (moves_apart _ _ _ _ can) ∙ normal_carried c.args.p.now size c.requires.whole _ _ _ can))
