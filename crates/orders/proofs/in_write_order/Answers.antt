-- `orders::in_write_order` meets its contract. Assumes nothing.
use Prim.Native.Nat.{ℕ, ◌+◌, ◌-◌, ◌*◌, ◌≤◌, ◌<◌}
use native.Mathlib.Omega.{arith}
use mathlib.Core.Path.{◌≡◌, sym, ap, ◌∙◌}
use mathlib.Core.List.{List}
use lib.ListN.{length, get_or, length-drop}
use borrow.Rule.Slice.PartMut.{mid_of}
use Rattle.std.proofs.lemmas.List.{length-take-le, get_or-take, get_or-drop}
use Rattle.bits.specs.Bit.{bit}
use Rattle.model.specs.Limits.{most_events}
use Rattle.orders.proofs.Laws.{set_out, met, passed, goes_on, at_end}
use Rattle.orders.proofs.in_write_order.Goals as goal

-- the part of a list from a on that is n long
part_length : (xs : List ℕ) (a n : ℕ) → a + n ≤ length xs → length (mid_of a (a + n - a) xs) ≡ n
part_length xs a n h =
    let e : a + n - a ≡ n = omega arith in
    let d = length-drop a xs in
    ap (λ (m : ℕ). length (mid_of a m xs)) e ∙ length-take-le n _ (omega arith)

part_at : (xs : List ℕ) (a n i : ℕ) → i < n → get_or (mid_of a (a + n - a) xs) i 0 ≡ get_or xs (a + i) 0
part_at xs a n i h = get_or-take (a + n - a) _ i 0 (omega arith) ∙ get_or-drop a xs i 0

pub loop-store-init : goal.loop-store-init
loop-store-init c =
    set_out c.args.k c.args.set c.args.a c.args.count (λ j. get_or c.args.writes.now (c.args.x * most_events + j) 0)

pub returns-then-e-a : goal.returns-then-e-a
returns-then-e-a c =
    let s = c.args in
    let long = part_length s.writes.now (s.x * most_events) s.count (omega arith) in
    let more : c.loop-store.store-index < s.count = omega arith in
    let at = part_at s.writes.now (s.x * most_events) s.count c.loop-store.store-index more in
    met s.k s.set s.a s.count (λ j. get_or s.writes.now (s.x * most_events + j) 0) c.loop-store.invariant more
    (sym at ∙ sym c.from-e.ensures ∙ c.if-e-a.true)

pub returns-then-has : goal.returns-then-has
returns-then-has c =
    let s = c.args in
    let long = part_length s.writes.now (s.x * most_events) s.count (omega arith) in
    let more : c.loop-store.store-index < s.count = omega arith in
    let at = part_at s.writes.now (s.x * most_events) s.count c.loop-store.store-index more in
    passed s.k s.set s.a s.count (λ j. get_or s.writes.now (s.x * most_events + j) 0) c.loop-store.invariant more
    (λ h. c.if-e-a.false (c.from-e.ensures ∙ at ∙ h)) (c.requires.by_index c.loop-store.store-index more)
    (ap (bit s.set) (sym at ∙ sym c.from-e.ensures) ∙ sym c.has.ensures ∙ c.if-has.true)

pub loop-store-preserved : goal.loop-store-preserved
loop-store-preserved c =
    let s = c.args in
    let long = part_length s.writes.now (s.x * most_events) s.count (omega arith) in
    let more : c.loop-store.store-index < s.count = omega arith in
    let at = part_at s.writes.now (s.x * most_events) s.count c.loop-store.store-index more in
    goes_on s.k s.set s.a s.count (λ j. get_or s.writes.now (s.x * most_events + j) 0) c.loop-store.invariant more
    (λ h. c.if-e-a.false (c.from-e.ensures ∙ at ∙ h))
    (ap (bit s.set) (sym at ∙ sym c.from-e.ensures) ∙ sym c.has.ensures ∙ c.if-has.false)

pub returns : goal.returns
returns c =
    let s = c.args in
    let long = part_length s.writes.now (s.x * most_events) s.count (omega arith) in
    at_end s.k s.set s.a s.count (λ j. get_or s.writes.now (s.x * most_events + j) 0) c.loop-store.invariant (omega arith) c.any.ensures
