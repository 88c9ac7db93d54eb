use Rattle.squares.proofs.Lists.{Filled}
use Rattle.squares.proofs.Marking.{both_of}
use Rattle.squares.proofs.marks.Marks.of.Given as goal

abbrev pub invariant-loop-j : goal.invariant-loop-j
invariant-loop-j l = Filled (both_of l.board) 14 l.j l.kind-items
