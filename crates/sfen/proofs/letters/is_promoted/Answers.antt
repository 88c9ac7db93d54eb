use Rattle.std.proofs.Common.{◌≡◌, ◌∙◌}
use Rattle.squares.specs.Kinds.{kind_row}
use Rattle.squares.proofs.Laws.{number-or, unpromoted-value}
use Rattle.sfen.proofs.letters.is_promoted.Goals as goal

pub returns : goal.returns
returns c =
    let k = c.args.kind in
    let is : c.unwrap_or.result ≡ (kind_row k).unpromoted = c.unwrap_or.ensures ∙ number-or c.unpromote.result ∙ unpromoted-value k _ c.unpromote.ensures in
    rw is
