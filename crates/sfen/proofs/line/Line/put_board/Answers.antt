use Rattle.std.proofs.Common.{arith}
use Rattle.sfen.proofs.Cases.{joins, board_first, ranks_less}
use Rattle.sfen.proofs.line.Line.put_board.Goals as goal

pub put_rank-requires-in-loop-rank-clause-room : goal.put_rank-requires-in-loop-rank-clause-room
put_rank-requires-in-loop-rank-clause-room c = grind (arith, joins, board_first, ranks_less)
