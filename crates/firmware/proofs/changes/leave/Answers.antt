use mathlib.Core.Path.{refl}
use Rattle.lent.proofs.Laws.{leaves_done, leaves_refused}
use Rattle.firmware.proofs.changes.leave.Goals as goal

pub returns-in-Ok : goal.returns-in-Ok
returns-in-Ok c = rw (c.from.ensures, c.in-Ok.is) (leaves_done c.in-Ok.next refl)

pub returns-in-Err : goal.returns-in-Err
returns-in-Err c = rw (c.from-in-Err.ensures, c.in-Err.is) (leaves_refused c.in-Err.refusal refl)
