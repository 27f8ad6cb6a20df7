use native.Mathlib.Omega.{arith}
use Rattle.reader.proofs.Events.{fits_byte, few-threads, few-addresses}
use Rattle.reader.proofs.read_event.Goals as goal

pub overflow_cast-kind : goal.overflow_cast-kind
overflow_cast-kind c =
    fits_byte _ _ _ _ _ c.in_ok-kind.ensures (omega (arith, c.from-most_kind.ensures))

pub overflow_cast-thread : goal.overflow_cast-thread
overflow_cast-thread c =
    fits_byte _ _ _ _ _ c.in_ok-thread.ensures (few-threads _ _ c.args.head.in_range)

pub overflow_cast-event : goal.overflow_cast-event
overflow_cast-event c =
    fits_byte _ _ _ _ _ c.in_ok-address.ensures (few-addresses _ c.args.head.in_range.addresses_most)
