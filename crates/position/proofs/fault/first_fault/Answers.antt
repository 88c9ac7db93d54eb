-- What is left to search holds the first faulty square, until one is found.
use mathlib.Core.Path.{◌≡◌, refl, sym, ◌∙◌}
use native.Mathlib.Omega.{arith}
use Rattle.position.specs.Sound.{faulty_at, first_fault}
use Rattle.position.proofs.Reading.{left_all, left_none, left_line, left_here, left_next}
use Rattle.position.proofs.fault.first_fault.Goals as goal

pub search-init : goal.search-init
unfolding first_fault
search-init c = (omega arith, omega arith, refl, left_all (faulty_at c.args.p.now))

pub loop-file-init : goal.loop-file-init
loop-file-init c = let i = c.search.invariant in (i.0, omega arith, i.2, i.3)

pub faulty-requires : goal.faulty-requires
faulty-requires c = record { low = omega arith; high = omega arith }

pub loop-file-preserved : goal.loop-file-preserved
loop-file-preserved c =
    let i = c.loop-file.invariant in
    (i.0, i.1, i.2, sym (left_next _ _ _ i.0 i.1 c.loop-file-test.true c.loop-file.auto.file (sym c.faulty.ensures ∙ c.if-faulty.false)) ∙ i.3)

pub search-preserved : goal.search-preserved
search-preserved c =
    let i = c.loop-file.invariant in
    let e : c.loop-file.file ≡ 0 = omega arith in
    (omega arith, omega arith, i.2, sym (left_line _ _ i.0) ∙ (rw e at i.3))

pub returns-after-search : goal.returns-after-search
returns-after-search c =
    let i = c.search.invariant in
    let e : c.search.rank ≡ 10 = omega arith in
    i.2 ∙ sym (left_none _) ∙ (rw e at i.3)

pub returns-then-faulty : goal.returns-then-faulty
returns-then-faulty c =
    let i = c.loop-file.invariant in
    sym (left_here _ _ _ i.0 i.1 c.loop-file-test.true c.loop-file.auto.file (sym c.faulty.ensures ∙ c.if-faulty.true)) ∙ i.3
