use mathlib.Core.Path.{◌≡◌, sym, ◌∙◌}
use native.Mathlib.Omega.{arith}
use lib.ListN.{length}
use Rattle.position.proofs.Agree.{any_none, any_more, any_at, disagrees_is}
use Rattle.position.proofs.fault.marks_differ.Goals as goal

pub loop-j-init : goal.loop-j-init
loop-j-init c = any_none _

pub returns-then-unlike : goal.returns-then-unlike
returns-then-unlike c =
    let says = (rw c.from.ensures at c.unlike.ensures) ∙ disagrees_is c.args.sets.now c.args.mark c.args.n c.loop-j.j _ (omega arith) in
    sym (any_at _ c.loop-j.j _ (omega arith) (sym says ∙ c.if-unlike.true))

pub loop-j-preserved : goal.loop-j-preserved
loop-j-preserved c =
    let says = (rw c.from.ensures at c.unlike.ensures) ∙ disagrees_is c.args.sets.now c.args.mark c.args.n c.loop-j.j _ (omega arith) in
    any_more _ _ c.loop-j.invariant (sym says ∙ c.if-unlike.false)

pub returns : goal.returns
returns c = let e : c.loop-j.j ≡ length c.args.sets.now = omega arith in sym (rw e at c.loop-j.invariant)
