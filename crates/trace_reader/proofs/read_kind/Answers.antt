-- `trace_reader::read_kind` meets its contract. Assumes nothing.
use native.Mathlib.Omega.{arith}
use Rattle.reader.proofs.Forward.{gone, forward_within}
use borrow.Author.Tests.{leb-true}
use mathlib.Core.Path.{sym}
use Rattle.trace_reader.proofs.read_kind.Goals as goal

pub overflow_cast-number : goal.overflow_cast-number
overflow_cast-number c =
    let h = (gone (forward_within {s = c.args.bytes.now} 1 7) _ _ _ (sym c.in_ok-number.ensures)).holds in
    record { fits = omega (arith, h.0) }

pub unreachable-requires : goal.unreachable-requires
unreachable-requires c =
    let h = (gone (forward_within {s = c.args.bytes.now} 1 7) _ _ _ (sym c.in_ok-number.ensures)).holds in
    c.in-Err.ensures (leb-true 1 _ h.1) h.0
