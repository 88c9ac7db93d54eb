use Prim.Native.Nat.{ℕ}
use lib.ListN.{get_or}
use Rattle.squares.specs.Kinds.{kind_of}
use Rattle.position.specs.declared.position.Position.{Position}
use mathlib.Core.Path.{◌≡◌, sym, ap, ◌∙◌}
use Rattle.squares.proofs.Laws.{piece_kind}
use Rattle.position.specs.Machine.{machine, cell_at}
use Rattle.std.proofs.lemmas.Result.{err_from_is_err_and}
use Rattle.position.specs.declared.answers.Told.{Told}
use Rattle.position.specs.Inner.{told_first}
use Rattle.position.specs.Answers.{hand_at}
use Rattle.position.specs.Moves.{drop_facts, rule_facts, spent, next}
use Rattle.position.specs.Plans.{drop_plan}
use Rattle.position.specs.declared.mv.Move.TheVariants.{Drop}
use native.Mathlib.Omega.{arith}
use Rattle.position.proofs.InOrder.{Sized}
use Rattle.position.proofs.Ladder.{drop_passes, rule_refuses, rule_passes}
use Rattle.position.proofs.Kept.{drop_carried}
use Rattle.position.proofs.Halves.{drop-numbers, sound-side, drop-held, drop-fits}
use Rattle.position.proofs.Playing.{plan-moves, drop_plays}
use Rattle.position.proofs.moves.make_drop.Goals as goal

-- what the call that looks at the facts tells is of the rules
told : (p : Position) (piece to : ℕ) {target count : ℕ} {t : Told} → target ≡ cell_at p.board to → count ≡ get_or p.hands (hand_at p.side (kind_of piece)) 0
    → t ≡ told_first (drop_facts piece target count p.side p.ply) → t ≡ told_first (rule_facts (machine p) (Drop piece to))
unfolding rule_facts machine
told p piece to there number call = rw (← there, ← number) call

pub cell-target-requires : goal.cell-target-requires
cell-target-requires c = (drop-numbers _ _ c.requires.good).1

pub in_hand-count-requires : goal.in_hand-count-requires
in_hand-count-requires c =
    let size : Sized c.args.p.now = record { board = omega arith; hands = omega arith; players = omega arith; kinds = omega arith } in
    let w = sound-side c.args.p.now size c.requires.whole in (w.0, w.1, (piece_kind _ (drop-numbers _ _ c.requires.good).0).0)

pub returns-in_err-allow_drop : goal.returns-in_err-allow_drop
returns-in_err-allow_drop c =
    let i = err_from_is_err_and c.from_residual.result c.from_residual.ensures.1 in
    rw (i.1, i.2) (rule_refuses _ _ c.requires _ (told c.args.p.now c.args.piece c.args.to c.cell-target.ensures c.in_hand-count.ensures c.in_err-allow_drop.ensures))

pub spend-hands-requires : goal.spend-hands-requires
spend-hands-requires c =
    let size : Sized c.args.p.now = record { board = omega arith; hands = omega arith; players = omega arith; kinds = omega arith } in
    let none = sym (ap (λ (t : Told). t.number) (told c.args.p.now c.args.piece c.args.to c.cell-target.ensures c.in_hand-count.ensures c.in_ok-allow_drop.ensures)) in
    drop-held c.args.p.now size c.requires.whole _ _ (drop_passes _ _ _ c.requires.good none)

pub returns : goal.returns
unfolding next machine
returns c =
    let size : Sized c.args.p.now = record { board = omega arith; hands = omega arith; players = omega arith; kinds = omega arith } in
    let none = sym (ap (λ (t : Told). t.number) (told c.args.p.now c.args.piece c.args.to c.cell-target.ensures c.in_hand-count.ensures c.in_ok-allow_drop.ensures)) in
    let can = drop_passes _ _ _ c.requires.good none in
    let planned : c.drop_plan.result ≡ drop_plan c.args.piece c.args.to (spent c.args.p.now.side c.args.piece c.args.p.now.hands) = rw (← c.spend-hands.ensures) c.drop_plan.ensures in
    plan-moves _ _ _ _ planned (drop-fits c.args.p.now size c.requires.whole _ _ _ can) (rule_passes _ _ c.requires _ none (drop_plays c.args.p.now size.board _ _ _ can.goal can.empty ∙ drop_carried c.args.p.now size c.requires.whole _ _ can))
