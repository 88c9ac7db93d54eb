use mathlib.Core.Path.{◌≡◌, sym, ap, ◌∙◌}
use mathlib.Core.Bool.{not}
use Rattle.position.specs.Sound.{first_fault}
use native.Mathlib.Omega.{arith}
use Rattle.position.proofs.Tidiness.{tidy-fault, tidy-sound, told_sound, told_unsound, untidy_unsound}
use Rattle.position.proofs.sound.soundness.Goals as goal

pub returns-then-not-is_tidy : goal.returns-then-not-is_tidy
returns-then-not-is_tidy c =
    let p = c.args.p.now in
    rw c.first_fault.ensures (told_unsound p (untidy_unsound p (record { board = omega arith; hands = omega arith; players = omega arith; kinds = omega arith }) (c.is_tidy.ensures.no (c.if-not-is_tidy.true))))

pub fault_elsewhere-requires : goal.fault_elsewhere-requires
fault_elsewhere-requires c = c.is_tidy.ensures.yes (c.if-not-is_tidy.false)

pub returns-then-fault_elsewhere : goal.returns-then-fault_elsewhere
returns-then-fault_elsewhere c =
    let p = c.args.p.now in
    let t = c.is_tidy.ensures.yes (c.if-not-is_tidy.false) in
    let z : first_fault p ≡ 0 = tidy-fault p t in
    rw (← z) (told_unsound p (tidy-sound p t ∙ ap not (sym c.fault_elsewhere.ensures ∙ c.if-fault_elsewhere.true)))

pub returns : goal.returns
returns c =
    let p = c.args.p.now in
    let t = c.is_tidy.ensures.yes (c.if-not-is_tidy.false) in
    told_sound p (tidy-sound p t ∙ ap not (sym c.fault_elsewhere.ensures ∙ c.if-fault_elsewhere.false))
