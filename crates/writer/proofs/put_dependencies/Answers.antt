-- `writer::put_dependencies` meets its contract. Assumes nothing.
use native.Mathlib.Omega.{arith}
use mathlib.Core.Path.{sym, ◌∙◌}
use Rattle.writer.proofs.Taken.{may_same, took_same, may_first, may_then, took_both}
use Rattle.writer.proofs.Runs.{stands, lacks}
use Rattle.writer.specs.Stages.{links_bytes}
use Rattle.writer.proofs.put_dependencies.Goals as goal

pub number-requires : goal.number-requires
unfolding links_bytes
number-requires g c =
    may_first g.met.S.Sink.laws _ _ (may_same g.met.S.Sink.laws (stands _ (sym c.is_second.ensures ∙ c.if-is_second.true)) c.requires.may) (omega arith)

pub put_links-requires-clause-may : goal.put_links-requires-clause-may
unfolding links_bytes
put_links-requires-clause-may g c =
    may_then g.met.S.Sink.laws _ _ (may_same g.met.S.Sink.laws (stands _ (sym c.is_second.ensures ∙ c.if-is_second.true)) c.requires.may) c.number.ensures (omega arith)

pub returns-then-is_second : goal.returns-then-is_second
unfolding links_bytes
returns-then-is_second g c =
    took_same g.met.S.Sink.laws (stands _ (sym c.is_second.ensures ∙ c.if-is_second.true)) (took_both g.met.S.Sink.laws _ _ (may_same g.met.S.Sink.laws (stands _ (sym c.is_second.ensures ∙ c.if-is_second.true)) c.requires.may) c.number.ensures c.put_links.ensures (omega arith))

pub returns-else-is_second : goal.returns-else-is_second
unfolding links_bytes
returns-else-is_second g c =
    took_same g.met.S.Sink.laws (lacks _ (sym c.is_second.ensures ∙ c.if-is_second.false)) (g.met.S.Sink.laws.none _ _)
