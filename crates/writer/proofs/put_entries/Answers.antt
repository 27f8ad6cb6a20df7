-- `writer::put_entries` meets its contract. Assumes nothing.
use Prim.Native.Nat.{◌*◌}
use mathlib.Core.Path.{sym, ap, ◌∙◌}
use borrow.Author.Rules.{rules}
use Rattle.number.specs.Number.{encode}
use Rattle.model.specs.Limits.{most_events}
use Rattle.writer.specs.Stages.{most_number, entry_at}
use Rattle.writer.proofs.Runs.{part_within, part_past, part_read}
use Rattle.writer.proofs.Taken.{may_same, took_same, none_taken, may_next, one_taken, all_taken}
use Rattle.writer.proofs.put_entries.Goals as goal

pub loop-e-init : goal.loop-e-init
loop-e-init g c =
    none_taken g.met.S.Sink.laws _ most_number

pub number-requires : goal.number-requires
unfolding entry_at
number-requires g c =
    let l = part_within c.args.c.now.writes (c.args.x * most_events) c.args.n c.loop-e.e-index (search rules) c.loop-e-test.true in
    may_same g.met.S.Sink.laws (ap encode (part_read _ _ _ _ l ∙ sym c.from.ensures)) (may_next g.met.S.Sink.laws _ most_number most_events c.requires.within.1 c.requires.may c.loop-e.invariant l)

pub loop-e-preserved : goal.loop-e-preserved
unfolding entry_at
loop-e-preserved g c =
    let l = part_within c.args.c.now.writes (c.args.x * most_events) c.args.n c.loop-e.e-index (search rules) c.loop-e-test.true in
    one_taken g.met.S.Sink.laws _ most_number most_events c.requires.within.1 c.requires.may c.loop-e.invariant l
    (took_same g.met.S.Sink.laws (ap encode (part_read _ _ _ _ l ∙ sym c.from.ensures)) c.number.ensures)

pub returns : goal.returns
unfolding entry_at
returns g c =
    let l = part_past c.args.c.now.writes (c.args.x * most_events) c.args.n c.loop-e.e-index (search rules) c.loop-e-test.false in
    all_taken g.met.S.Sink.laws _ most_number most_events c.requires.within.1 c.requires.may c.loop-e.invariant (search rules) l
