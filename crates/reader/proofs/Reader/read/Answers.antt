use Rattle.reader.specs.Answers.{ReadingFrom}
use Rattle.reader.proofs.Filling.{exit}
use Rattle.reader.proofs.Whole.{no_head}
use Rattle.reader.proofs.Reader.read.Goals as goal

pub returns-in_err-head : goal.returns-in_err-head
returns-in_err-head c =
    exit (ReadingFrom _ _) _ _ c.from_residual.ensures (no_head _ _ _ _ c.in_err-head.ensures)
