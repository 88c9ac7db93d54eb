use Rattle.std.proofs.Common.{ap, ◌∙◌}
use Rattle.squares.specs.Answers.{number_given}
use Rattle.squares.proofs.Unique.{refused}
use Rattle.squares.proofs.Pieces.{unpromoted-piece, unpromoted-fits, unpromoted_bad}
use Rattle.squares.proofs.piece.Piece.unpromote.Goals as goal

pub returns-then-piece-gt31 : goal.returns-then-piece-gt31
returns-then-piece-gt31 c = unpromoted_bad _ c.if-piece-gt31.true

pub returns-in_err-unpromote : goal.returns-in_err-unpromote
returns-in_err-unpromote c =
    ap number_given (refused _ c.from_residual.ensures.0) ∙ unpromoted-piece _ c.if-piece-gt31.false c.in_err-unpromote.was c.unpromote.ensures

pub overflow_add-result : goal.overflow_add-result
overflow_add-result c = record { fits = unpromoted-fits _ c.if-piece-gt31.false c.in_ok-unpromote.was c.unpromote.ensures }

pub returns : goal.returns
returns c = unpromoted-piece _ c.if-piece-gt31.false c.in_ok-unpromote.was c.unpromote.ensures
