-- `writer::put_event` meets its contract. Assumes nothing.
use native.Mathlib.Omega.{arith}
use mathlib.Core.Path.{sym, ◌∙◌}
use Rattle.writer.proofs.Taken.{may_same, took_same, took_more, may_first, may_then, took_both}
use Rattle.writer.proofs.Runs.{event_front, event_bare, event_full}
use Rattle.writer.specs.Stages.{event_at}
use Rattle.writer.proofs.put_event.Goals as goal

pub put_two-requires : goal.put_two-requires
unfolding event_at
put_two-requires g c =
    may_first g.met.S.Sink.laws _ _ (may_same g.met.S.Sink.laws (event_front _ _ c.from.ensures c.from-2.ensures) c.requires.may) (omega arith)

pub put_two-requires-then-not-bare : goal.put_two-requires-then-not-bare
unfolding event_at
put_two-requires-then-not-bare g c =
    may_then g.met.S.Sink.laws _ _ (may_same g.met.S.Sink.laws (event_full _ _ c.from.ensures c.from-2.ensures _ c.from-then-not-bare.ensures (sym c.bare.ensures ∙ c.if-not-bare.true)) c.requires.may) c.put_two.ensures (omega arith)

pub returns-then-not-bare : goal.returns-then-not-bare
unfolding event_at
returns-then-not-bare g c =
    let e = event_full _ _ c.from.ensures c.from-2.ensures _ c.from-then-not-bare.ensures (sym c.bare.ensures ∙ c.if-not-bare.true) in
    took_same g.met.S.Sink.laws e (took_both g.met.S.Sink.laws _ _ (may_same g.met.S.Sink.laws e c.requires.may) c.put_two.ensures c.put_two-then-not-bare.ensures (omega arith))

pub returns-else-not-bare : goal.returns-else-not-bare
unfolding event_at
returns-else-not-bare g c =
    let e = event_bare _ _ c.from.ensures c.from-2.ensures (sym c.bare.ensures ∙ c.if-not-bare.false) in
    took_same g.met.S.Sink.laws e (took_more g.met.S.Sink.laws (omega arith) (may_same g.met.S.Sink.laws e c.requires.may) c.put_two.ensures)
