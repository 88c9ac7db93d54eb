use Rattle.std.proofs.Common.{◌≡◌, ◌++◌}
use Rattle.sfen.proofs.Cases.{ranks_left}
use Rattle.sfen.proofs.line.Line.put_board.Given as goal

abbrev pub invariant-loop-rank : goal.invariant-loop-rank
invariant-loop-rank l = l.self ++ ranks_left l.board l.rank ≡ l.initial.self ++ ranks_left l.board 2
