-- The turns of reading the initial values.
-- Assumes nothing.
use Prim.Native.Nat.{ℕ, ◌+◌, ◌≤◌, ◌<◌}
use mathlib.Core.Path.{◌≡◌, sym}
use mathlib.Core.List.{List}
use native.Mathlib.Omega.{arith}
use lib.ListN.{set, replicate, length-append}
use Rattle.number.specs.Number.{read_number}
use Rattle.number.specs.Reader.{stop, next, times, up_to}
use Rattle.model.specs.Limits.{most_addresses, most_value}
use Rattle.case.specs.Held.{pad}
use Rattle.reader.specs.Answers.{Padded}
use Rattle.case.proofs.Pad.{pad-set}
use Rattle.reader.proofs.Filling.{Filling, filling_begun, filling_stop, filling_next}

abbrev pub Initials : (s : List ℕ) (at m : ℕ) (array : List ℕ) (place x : ℕ) → Type 0
Initials s at m array place x = Filling (Padded most_addresses array) (λ _. up_to most_value) (times m (up_to most_value) s at) s m place x

module _ (s : List ℕ) (at m : ℕ) (array : List ℕ) where
  pub begun : array ≡ replicate most_addresses 0 → Initials s at m array at 0
  unfolding times pad
  begun z = filling_begun (Padded most_addresses array) (λ _. up_to most_value) s m at (record { stored = z; long = omega arith })

  module _ (p₀ x : ℕ) (h : Initials s at m array p₀ x) where
    pub refusal : x < m → (y p : ℕ) → stop y p ≡ read_number s p₀ most_value → times m (up_to most_value) s at ≡ stop y p
    unfolding up_to
    refusal l y p e = filling_stop _ _ _ _ _ _ _ h l y p (λ _ _ _. sym e)

    pub one_more : x < m → m ≤ most_addresses → (v p : ℕ) → next v p ≡ read_number s p₀ most_value → Initials s at m (set array x v) p (x + 1)
    unfolding up_to
    one_more l b v p e =
        filling_next _ _ _ _ _ _ _ h l v p (λ _ _ _. sym e) (Padded most_addresses (set array x v))
        (λ as' c t. record {
          stored = rw t.stored (pad-set most_addresses as' x v c (omega arith));
          long = simp length-append (omega (arith, c));
        })
