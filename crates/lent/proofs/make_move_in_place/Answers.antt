use Rattle.std.proofs.lemmas.Result.{err_from_is_err_and}
use Rattle.lent.proofs.Ends.{leaves_done, leaves_refused}
use Rattle.lent.proofs.make_move_in_place.Goals as goal

pub returns-in_err-p : goal.returns-in_err-p
returns-in_err-p c =
    let i = err_from_is_err_and c.from_residual.result c.from_residual.ensures.1 in
    rw (i.1, i.2) (leaves_refused _ c.in_err-p.ensures)

pub returns : goal.returns
returns c = leaves_done _ c.in_ok-p.ensures
