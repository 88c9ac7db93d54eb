use Prim.Native.Nat.{◌≤◌}
use Rattle.squares.proofs.Laws.{held_small}
use Rattle.position.proofs.Pieces.{positive}
use Rattle.position.proofs.hand.hold.Goals as goal

pub index-at-requires : goal.index-at-requires
index-at-requires c =
    let small : c.hand_kind-kind.result ≤ 7 = rw c.hand_kind-kind.ensures (held_small _) in
    (c.requires.side_low, c.requires.side_high, positive _ c.if-kind-eq0.false, small)
