-- What is written field by field takes as many bytes as what is written so of other fields.
-- Assumes nothing.
use Prim.Native.Nat.{ℕ, zero, suc, ◌+◌}
use native.Mathlib.Nat.{add-zero, zero-add, add-suc, suc-add}
use native.Mathlib.Omega.{arith}
use mathlib.Core.Path.{◌≡◌, refl, sym, ap, ap₂, ◌∙◌}
use mathlib.Core.List.{List, ◌++◌}
use lib.ListN.{length, length-append}
use Rattle.finite.specs.Lists.{table, each}
use Rattle.permutation.proofs.Sums.{total}

-- as many bytes
pub record AsLong (a b : List ℕ) : Type 0 where
  pub long : length a ≡ length b

pub still : (a : List ℕ) → AsLong a a
still a = record { long = refl }

infixr 20 ◌then◌
pub ◌then◌ : {a a' b b' : List ℕ} → AsLong a a' → AsLong b b' → AsLong (a ++ b) (a' ++ b')
◌then◌ {a} {a'} {b} {b'} p q = record { long = length-append a b ∙ ap₂ ◌+◌ p.long q.long ∙ sym (length-append a' b') }

pub total_front : (j : ℕ) (g : ℕ → ℕ) → total (suc j) g ≡ g 0 + total j (λ y. g (suc y))
total_front zero g = refl
total_front (suc j) g = let e = total_front j g in omega arith

each-table : {A : Type 0} (enc : A → List ℕ) (i j : ℕ) (f : ℕ → A) → length (each enc (table i j f)) ≡ total j (λ y. length (enc (f (i + y))))
unfolding table each
each-table enc i zero f = refl
each-table enc i (suc j) f =
    length-append (enc (f i)) (each enc (table (suc i) j f)) ∙ ap (λ (z : ℕ). length (enc (f i)) + z) (each-table enc (suc i) j f)
    ∙ sym (total_front j (λ y. length (enc (f (i + y)))) ∙ simp (add-zero, add-suc, suc-add))

pub table-long : {A : Type 0} (enc : A → List ℕ) (j : ℕ) (f : ℕ → A) → length (each enc (table 0 j f)) ≡ total j (λ y. length (enc (f y)))
table-long enc j f = each-table enc 0 j f ∙ simp zero-add
