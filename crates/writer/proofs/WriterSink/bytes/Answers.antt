-- `writer::WriterSink::bytes` meets its contract. Assumes nothing.
use mathlib.Core.Path.{refl}
use Rattle.writer.specs.SinksKeep.{splice-at}
use Rattle.writer.proofs.WriterSink.bytes.Goals as goal

pub returns : goal.returns
returns c =
    record { same = refl; at = refl; out = splice-at _ _ _ _ c.copy_from_slice.ensures.after }
