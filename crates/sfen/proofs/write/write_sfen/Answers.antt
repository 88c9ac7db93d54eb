use Rattle.std.proofs.Common.{arith, rules}
use Rattle.std.proofs.lemmas.Result.{err_from_is_err_and}
use Rattle.position.proofs.Laws.{sized}
use Rattle.sfen.proofs.Bound.{text_bound}
use Rattle.sfen.proofs.Writing.{unsound_refused, sound_told, whole}
use Rattle.sfen.proofs.write.write_sfen.Goals as goal

pub returns-in_err-soundness : goal.returns-in_err-soundness
returns-in_err-soundness c =
    let i = err_from_is_err_and c.from_residual.result c.from_residual.ensures.1 in
    rw (i.1, i.2) (unsound_refused c.args.position c.args.out.now _ c.in_err-soundness.ensures)

pub put_position-requires : goal.put_position-requires
put_position-requires c =
    let sound = sound_told _ c.in_ok-soundness.ensures in
    rw c.new-line.ensures (omega (arith, text_bound c.args.position (sized _ _ c.well_formed.0) sound))

pub returns : goal.returns
returns c = whole c.args.position c.args.out.now (sound_told _ c.in_ok-soundness.ensures) _ _ _ (search rules) c.copy_whole.ensures.short c.copy_whole.ensures.fitting
