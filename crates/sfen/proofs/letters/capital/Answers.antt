use Rattle.std.proofs.Common.{◌≡◌, ◌∙◌, arith}
use Rattle.squares.specs.Kinds.{kind_row}
use Rattle.squares.proofs.Laws.{number-or, letter-value, letter-small}
use Rattle.sfen.proofs.letters.capital.Goals as goal

pub returns : goal.returns
returns c =
    let k = c.args.kind in
    let is : c.unwrap_or.result ≡ (kind_row k).letter = c.unwrap_or.ensures ∙ number-or c.letter.result ∙ letter-value k _ c.letter.ensures in
    (is, omega (arith, is, letter-small k))
