-- Two functions that agree below a number: what holds at each turn of a loop that looks for the first place in which they differ.
-- Assumes nothing.
use Prim.Native.Nat.{ℕ, ◌+◌, ◌≤◌, ◌<◌}
use native.Mathlib.Nat.{not-suc-le-zero}
use native.Mathlib.Omega.{arith}
use mathlib.Core.Path.{◌≡◌, refl, sym, ◌∙◌}
use mathlib.Core.Bool.{Bool, true, false, not, ◌&&◌, true≢false}
use borrow.Author.Count.{below_more}
use borrow.Author.Tests.{not-true}
use Rattle.finite.proofs.Tests.{and_l, and_r, and-true, and-false}
use Rattle.bits.specs.Bit.{bit}
use Rattle.std.proofs.Common.{Less, Equal, Greater}
use Rattle.compare.specs.Alone.{Alone}

pub record Agree {A : Type 0} (f g : ℕ → A) (n i : ℕ) : Type 0 where
  pub within : i ≤ n
  pub same : (j : ℕ) → j < i → f j ≡ g j

module _ {A : Type 0} {f g : ℕ → A} {n : ℕ} where
  pub begun : Agree f g n 0
  begun = record { within = omega arith; same = λ j l. absurd (not-suc-le-zero l) }

  module _ {i : ℕ} (h : Agree f g n i) where
    pub next : i < n → f i ≡ g i → Agree f g n (i + 1)
    next l e = record { within = omega arith; same = below_more (λ j. f j ≡ g j) i h.same e }

    pub agree_back : Agree g f n i
    agree_back = record { within = h.within; same = λ j l. sym (h.same j l) }

    pub agree_all : n ≤ i → (j : ℕ) → j < n → f j ≡ g j
    agree_all l j m = h.same j (omega arith)

-- ---- the events of two rows

-- the answer of a test that asks first for q, which says no
pub only_not : (p q x : Bool) → x ≡ q → x ≡ true → false ≡ (p && not q)
only_not p q x e h = sym (rw (← e, h) (and-false p))

pub only_if : (p q x y : Bool) → x ≡ q → x ≡ false → y ≡ p → y ≡ (p && not q)
only_if p q x y e h d = d ∙ sym (rw (← e, h) (and-true p))

-- neither passes alone
neither : (p q : Bool) → (p && not q) ≡ false → (q && not p) ≡ false → p ≡ q
neither true true h l = refl
neither true false h l = absurd (true≢false h)
neither false true h l = absurd (true≢false l)
neither false false h l = refl

module _ (k s t b : ℕ) (A : Agree (bit s) (bit t) k b) where
  module _ (l : b < k) where
    pub in_first : (x : Bool) → x ≡ (bit s b && not (bit t b)) → x ≡ true → Alone k s t Less
    in_first x e h =
        let h' : (bit s b && not (bit t b)) ≡ true = sym e ∙ h in
        record {
          none = λ z. absurd (cc);
          first = λ z. record { event = b; below = l; has = and_l _ _ h'; lacks = not-true _ (and_r (bit s b) _ h'); same = A.same };
          second = λ z. absurd (cc);
        }

    pub in_both : (x y : Bool) → x ≡ (bit s b && not (bit t b)) → x ≡ false → y ≡ (bit t b && not (bit s b)) → y ≡ false → Agree (bit s) (bit t) k (b + 1)
    in_both x y ex hx ey hy = next A l (neither (bit s b) (bit t b) (sym ex ∙ hx) (sym ey ∙ hy))

  pub in_neither : k ≤ b → Alone k s t Equal
  in_neither l = record { none = λ z. agree_all A l; first = λ z. absurd (cc); second = λ z. absurd (cc) }

pub in_second : (k s t b : ℕ) → Agree (bit s) (bit t) k b → b < k → (y : Bool) → y ≡ (bit t b && not (bit s b)) → y ≡ true → Alone k s t Greater
in_second k s t b A l y e h =
    record {
      none = λ z. absurd (cc);
      first = λ z. absurd (cc);
      second = λ z. (in_first k t s b (agree_back A) l y e h).first refl;
    }
