-- What decides between two fields: the first byte in which they differ, and not what both have in front of it.
-- Assumes nothing.
use Prim.Native.Nat.{ℕ, ◌<◌}
use mathlib.Core.Path.{◌≡◌, refl, ap}
use mathlib.Core.Bool.{true, false}
use mathlib.Core.List.{List, [], ◌∷◌, ◌++◌, append_assoc}
use Rattle.std.proofs.Common.{Ordering, Less, Equal, Greater}
use Rattle.classes.specs.Order.{at_most}
use Rattle.classes.proofs.Order.{at_most_cancel, byte-less, byte-greater}
use Rattle.compare.specs.Decided.{Decided}

-- the first byte in which they differ is less in a
pub record Lesser (a b : List ℕ) : Type 0 where
  pub front : List ℕ
  pub x : ℕ
  pub y : ℕ
  pub rest : List ℕ
  pub rest' : List ℕ
  pub first : a ≡ front ++ (x ∷ rest)
  pub second : b ≡ front ++ (y ∷ rest')
  pub less : x < y

pub lesser-first : (x y : ℕ) (a b : List ℕ) → x < y → Lesser (x ∷ a) (y ∷ b)
lesser-first x y a b l = record { front = []; x = x; y = y; rest = a; rest' = b; first = refl; second = refl; less = l }

pub lesser-behind : (c : List ℕ) {a b : List ℕ} → Lesser a b → Lesser (c ++ a) (c ++ b)
lesser-behind c L = record {
  front = c ++ L.front;
  x = L.x;
  y = L.y;
  rest = L.rest;
  rest' = L.rest';
  first = rw append_assoc (ap (λ (l : List ℕ). c ++ l) L.first);
  second = rw append_assoc (ap (λ (l : List ℕ). c ++ l) L.second);
  less = L.less;
}

module _ {a b : List ℕ} where
  pub decided_by : (r : Ordering) → (r ≡ Equal → a ≡ b) → (r ≡ Less → Lesser a b) → (r ≡ Greater → Lesser b a) → Decided a b r
  decided_by r h f g = record { equal = h; less = λ e. less (f e); greater = λ e. greater (g e) }
    where
      less : Lesser a b → (u v : List ℕ) → at_most (a ++ u) (b ++ v) ≡ true
      less L u v = rw (L.first, L.second) (simp (append_assoc, at_most_cancel) (byte-less L.x L.y _ _ L.less))

      greater : Lesser b a → (u v : List ℕ) → at_most (a ++ u) (b ++ v) ≡ false
      greater L u v = rw (L.first, L.second) (simp (append_assoc, at_most_cancel) (byte-greater L.y L.x _ _ L.less))

  pub decided_less : Lesser a b → Decided a b Less
  decided_less L = decided_by Less (λ e. absurd (cc)) (λ e. L) (λ e. absurd (cc))

  pub decided_greater : Lesser b a → Decided a b Greater
  decided_greater L = decided_by Greater (λ e. absurd (cc)) (λ e. absurd (cc)) (λ e. L)

  pub decided_equal : a ≡ b → Decided a b Equal
  decided_equal h = decided_by Equal (λ e. h) (λ e. absurd (cc)) (λ e. absurd (cc))

  -- behind what both have in front
  pub decided_behind : (c : List ℕ) (r : Ordering) → Decided a b r → Decided (c ++ a) (c ++ b) r
  decided_behind c r d = record {
    equal = λ e. ap (λ (l : List ℕ). c ++ l) (d.equal e);
    less = λ e u v. simp (append_assoc, at_most_cancel) (d.less e u v);
    greater = λ e u v. simp (append_assoc, at_most_cancel) (d.greater e u v);
  }

  -- what decides, decides whatever follows
  pub decided_before : (c d : List ℕ) (r : Ordering) → (r ≡ Equal → ⊥) → Decided a b r → Decided (a ++ c) (b ++ d) r
  decided_before c d r h D = record {
    equal = λ e. absurd (h e);
    less = λ e u v. simp append_assoc (D.less e (c ++ u) (d ++ v));
    greater = λ e u v. simp append_assoc (D.greater e (c ++ u) (d ++ v));
  }
