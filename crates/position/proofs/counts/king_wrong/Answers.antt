use borrow.Author.Tests.{ne_eqb}
use Rattle.position.proofs.Elsewhere.{king_found, king_other, king_nothing}
use Rattle.position.proofs.counts.king_wrong.Goals as goal

pub returns-then-n-king : goal.returns-then-n-king
returns-then-n-king c = rw (ne_eqb c.in-Some.n c.args.king c.if-n-king.true) (king_other c.args.set c.args.king _ _ c.in-Some.ensures c.if-n-king.true)

pub returns-else-n-king : goal.returns-else-n-king
returns-else-n-king c = rw c.is_empty.ensures (king_found c.args.set c.args.king _ _ c.in-Some.ensures c.if-n-king.false)

pub returns-in-None : goal.returns-in-None
returns-in-None c = king_nothing c.args.set c.args.king _ c.in-None.ensures
