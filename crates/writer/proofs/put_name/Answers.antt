-- `writer::put_name` meets its contract. Assumes nothing.
use borrow.Author.Rules.{rules}
use native.Mathlib.Omega.{arith}
use Rattle.model.specs.Limits.{most_name}
use Rattle.writer.proofs.Taken.{may_same, took_same, may_first, may_then, took_both}
use Rattle.writer.proofs.Runs.{name_parts, take_few}
use Rattle.writer.proofs.put_name.Goals as goal

pub number-requires : goal.number-requires
number-requires g c =
    may_first g.met.S.Sink.laws _ _ (may_same g.met.S.Sink.laws (name_parts c.args.c.now.name c.args.c.now.namelength (search rules)) c.requires.may) (omega arith)

pub bytes-requires : goal.bytes-requires
bytes-requires g c =
    may_then g.met.S.Sink.laws _ _ (may_same g.met.S.Sink.laws (name_parts c.args.c.now.name c.args.c.now.namelength (search rules)) c.requires.may) c.number.ensures (omega (arith, take_few c.args.c.now.name c.args.c.now.namelength most_name c.requires.sound.name_most))

pub returns : goal.returns
returns g c =
    took_same g.met.S.Sink.laws (name_parts c.args.c.now.name c.args.c.now.namelength (search rules)) (took_both g.met.S.Sink.laws _ _ (may_same g.met.S.Sink.laws (name_parts c.args.c.now.name c.args.c.now.namelength (search rules)) c.requires.may) c.number.ensures c.bytes.ensures (omega (arith, take_few c.args.c.now.name c.args.c.now.namelength most_name c.requires.sound.name_most)))
