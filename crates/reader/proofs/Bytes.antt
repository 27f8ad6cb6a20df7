-- What the code's types tell: the bytes of a slice are below 256.
-- Assumes nothing.
use Prim.Native.Nat.{ℕ}
use mathlib.Core.List.{List}
use lib.ListN.{get_or}
use Rattle.number.specs.Number.{Bytes}
use Rattle.codec.proofs.Exact.{bytes_at}
use mir.Syntax.{w8}
use mir.Val.{Fits}

-- as the code has it of a slice
abbrev pub Octets : List ℕ → Type 0
Octets s = (i : ℕ) → Fits w8 (get_or s i 0)

pub slice_bytes : (s : List ℕ) → Octets s → Bytes s
slice_bytes s h = bytes_at s (λ i. (h i).fits)
