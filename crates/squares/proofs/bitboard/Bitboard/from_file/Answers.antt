use Rattle.std.proofs.Common.{arith}
use Rattle.squares.proofs.Files.{file-good, file_bad}
use Rattle.squares.proofs.bitboard.Bitboard.from_file.Goals as goal

pub returns-in-1-to-9-0-to-511 : goal.returns-in-1-to-9-0-to-511
returns-in-1-to-9-0-to-511 c = file-good c.args.file c.args.pattern (omega arith) (omega arith) (omega arith) c.file_set.ensures

pub returns-in_default : goal.returns-in_default
returns-in_default c = file_bad c.args.file c.args.pattern (λ a b d. omega arith)

pub returns-in_default-2 : goal.returns-in_default-2
returns-in_default-2 c = file_bad c.args.file c.args.pattern (λ a b d. omega arith)

pub returns-in_default-3 : goal.returns-in_default-3
returns-in_default-3 c = file_bad c.args.file c.args.pattern (λ a b d. omega arith)
