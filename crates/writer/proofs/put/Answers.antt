-- `writer::put` meets its contract. Assumes nothing.
use borrow.Author.Rules.{rules}
use Rattle.writer.proofs.Parts.{put_done, put_past, put-short}
use Rattle.writer.proofs.put.Goals as goal
use Rattle.writer.proofs.put.Goals.{then-out-at-via-then-out-at, then-out-at-via-else-out-at+then-out-at-2}

pub returns-then-out-at : goal.returns-then-out-at
returns-then-out-at c =
    elim c.then-out-at.branch [ then-out-at-via-then-out-at w ↦ search put_past | then-out-at-via-else-out-at+then-out-at-2 w ↦ search put-short ]

pub returns : goal.returns
returns c =
    put_done _ _ _ _ c.size-length.ensures c.if-out-at.false c.if-out-at-2.false _ (search rules)
