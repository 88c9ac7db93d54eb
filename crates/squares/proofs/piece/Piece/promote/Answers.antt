use Rattle.std.proofs.Common.{Ok, ap, ◌∙◌}
use Rattle.squares.specs.Answers.{form_given}
use Rattle.squares.proofs.Unique.{refused}
use Rattle.squares.proofs.Pieces.{promoted-piece, promoted-fits, promoted_bad}
use Rattle.squares.proofs.piece.Piece.promote.Goals as goal

pub returns-then-piece-gt31 : goal.returns-then-piece-gt31
returns-then-piece-gt31 c = promoted_bad _ c.if-piece-gt31.true

pub returns-in_err-promoted : goal.returns-in_err-promoted
returns-in_err-promoted c =
    ap form_given (refused _ c.from_residual.ensures.0) ∙ promoted-piece _ c.if-piece-gt31.false c.in_err-promoted.was c.promote.ensures

pub overflow_add-result : goal.overflow_add-result
overflow_add-result c =
    record { fits = promoted-fits _ c.if-piece-gt31.false (c.in_ok-promoted.was ∙ ap Ok c.in-Some.is) c.promote.ensures }

pub returns-in-Some : goal.returns-in-Some
returns-in-Some c = promoted-piece _ c.if-piece-gt31.false (c.in_ok-promoted.was ∙ ap Ok c.in-Some.is) c.promote.ensures

pub returns-in-None : goal.returns-in-None
returns-in-None c = promoted-piece _ c.if-piece-gt31.false (c.in_ok-promoted.was ∙ ap Ok c.in-None.is) c.promote.ensures
