use Rattle.std.proofs.Common.{◌≡◌, ◌+◌, ◌≤◌, ◌++◌}
use Rattle.sfen.specs.Text.{rank_text, rank_cells}
use Rattle.sfen.proofs.Cases.{rank_left}
use Rattle.sfen.proofs.line.Line.put_rank.Given as goal

abbrev pub invariant-loop-file : goal.invariant-loop-file
invariant-loop-file l =
    (l.empty + l.file ≤ 9) × (l.self ++ rank_left l.board l.rank l.empty l.file ≡ l.initial.self ++ rank_text 0 (rank_cells 9 l.board l.rank))
