use Rattle.squares.specs.Sets.{or_s}
use Rattle.squares.specs.Sets.{file_s}
use Rattle.squares.specs.Bit.{reversed9}
use Rattle.squares.specs.declared.bitboard.Bitboard.{Bitboard}
use Rattle.std.proofs.Common.{◌≡◌, ◌-◌, ap, ◌∙◌, ap₂, rules}
use Rattle.squares.proofs.Flips.{flipped, flipped_none, flipped_more, flipped_all, reversed_lt}
use Rattle.squares.proofs.bitboard.Bitboard.flip.Goals as goal

pub loop-file-init : goal.loop-file-init
loop-file-init c = (search rules, search rules, c.empty-turned.ensures ∙ flipped_none c.args.self)

pub file_set-requires : goal.file_set-requires
file_set-requires c = (search rules, search rules, rw c.reversed9-pattern.ensures (reversed_lt _))

pub loop-file-preserved : goal.loop-file-preserved
loop-file-preserved c =
    let l = c.loop-file in
    let s : Bitboard = c.args.self in (
      search rules,
      search rules,
      c.or-turned.ensures
          ∙ ap₂ or_s l.invariant.2 (c.file_set.ensures ∙ ap (file_s (10 - l.file)) (c.reversed9-pattern.ensures ∙ ap reversed9 c.file_pattern.ensures))
          ∙ flipped_more s l.file (search rules) (search rules),
    )

pub returns : goal.returns
returns c =
    let e : c.loop-file.file ≡ 10 = search rules in
    c.loop-file.invariant.2 ∙ ap (flipped c.args.self) e ∙ flipped_all c.args.self
