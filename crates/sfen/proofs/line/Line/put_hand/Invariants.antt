use Rattle.std.proofs.Common.{◌≡◌, ◌++◌}
use Rattle.sfen.specs.Text.{shogi, hand_text}
use Rattle.sfen.proofs.Cases.{hand_left}
use Rattle.sfen.proofs.line.Line.put_hand.Given as goal

abbrev pub invariant-loop-kind : goal.invariant-loop-kind
invariant-loop-kind l = l.self ++ hand_left l.hands l.color l.kind ≡ l.initial.self ++ hand_text shogi.held l.hands l.color
