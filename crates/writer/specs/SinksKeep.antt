-- The two sinks keep the laws.
-- Assumes nothing.
use Prim.Native.Nat.{ℕ, ◌+◌, ◌-◌, ◌≤◌}
use native.Mathlib.Nat.{add-zero}
use native.Mathlib.Omega.{arith}
use mathlib.Core.Path.{◌≡◌, refl, sym, ap, ap₂, ◌∙◌}
use mathlib.Core.List.{List, [], append-nil, append_assoc}
use lib.ListN.{length, take, drop, length-append, take-append-drop}
use lib.Seq.{drop-drop}
use borrow.Rule.Slice.PartMut.{put_mid}
use Rattle.number.specs.Number.{splice}
use Rattle.number.proofs.Splice.{splice-length, splice-append}
use Rattle.writer.specs.Sinks.{SinkLaws, may_count, Counted, may_write, Wrote}

pub counter_laws : SinkLaws may_count Counted
counter_laws = record {
  none = λ s n. record { count = omega arith; few = omega arith };
  first = λ s n a v w l m. omega arith;
  then = λ s t n a b v w l m h. omega (arith, h.few);
  both = λ s t u n a b v w l m h i. record { count = omega (arith, length-append v w, h.count, i.count); few = omega (arith, h.few, i.few) };
}

splice-nothing : (s : List ℕ) (at : ℕ) → s ≡ splice s at []
unfolding splice
splice-nothing s at = rw (append-nil (take at s), add-zero at, take-append-drop at s)

-- as many bytes as xs, from at on
pub splice-at : (s : List ℕ) (at : ℕ) (xs ys : List ℕ) → ys ≡ xs → put_mid at (at + length xs - at) s ys ≡ splice s at xs
unfolding splice
splice-at s at xs ys e = let n : at + length xs - at ≡ length xs = omega arith in rw (e, n, drop-drop (length xs) at s) (sym (append_assoc (take at s) xs (drop (at + length xs) s)))

pub writer_laws : SinkLaws may_write Wrote
writer_laws = record {
  none = λ s n. record { same = refl; at = omega arith; out = splice-nothing s.out.now s.at };
  first = λ s n a v w l m. omega (arith, length-append v w);
  then = λ s t n a b v w l m h.
      let r : s.at + length v ≤ length s.out.now = omega (arith, length-append v w) in
      let e : length t.out.now ≡ length s.out.now = ap length h.out ∙ splice-length s.out.now s.at v r in
      omega (arith, length-append v w, h.at);
  both = λ s t u n a b v w l m h i. record {
    same = i.same ∙ h.same;
    at = omega (arith, length-append v w, h.at, i.at);
    out = i.out ∙ ap₂ (λ (l : List ℕ) (p : ℕ). splice l p w) h.out h.at ∙ splice-append s.out.now s.at v w m;
  };
}
