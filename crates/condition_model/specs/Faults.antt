-- What the theorems on faults speak of (02 (x)).
-- Assumes nothing.
use Rattle.std.specs.Prelude.{ℕ, ◌+◌, ◌≤◌, ◌≡◌, ◌⊎◌, false, List, ◌++◌, length, take, drop}
use Rattle.number.specs.Reader.{next}
use Rattle.condition_model.specs.Grammar.{most_depth, opening, equals, letter_e, letter_m, tilde, Condition, Spells, Ranges, FitsC}
use Rattle.condition_model.specs.Reader.{byte, skipped, digits, number}

-- the byte x stands directly before p
pub record Behind (x : ℕ) (s : List ℕ) (p : ℕ) : Type 0 where
  pub at : ℕ
  pub here : byte s at ≡ x
  pub place : p ≡ at + 1

-- `=` and spaces stand directly before p
pub record BehindEquals (s : List ℕ) (p : ℕ) : Type 0 where
  pub at : ℕ
  pub here : byte s at ≡ equals
  pub place : p ≡ skipped s (at + 1)

-- at p a number is due: behind `m`, behind `e`, or behind `=`
abbrev pub Due : List ℕ → (p : ℕ) → Type 0
Due s p = Behind letter_m s p ⊎ (Behind letter_e s p ⊎ BehindEquals s p)

-- v, at p, is no address behind `m`, no load behind `e`, or no value behind `=`
abbrev pub Wrong : Ranges → List ℕ → (p v : ℕ) → Type 0
Wrong w s p v =
    (Behind letter_m s p × (w.address v ≡ false)) ⊎ ((Behind letter_e s p × (w.load v ≡ false)) ⊎ (BehindEquals s p × (w.value v ≡ false)))

-- the number that stands at p is out of its range
pub record OutOfRange (w : Ranges) (s : List ℕ) (p : ℕ) : Type 0 where
  pub v : ℕ
  pub after : ℕ
  pub stands : number s p ≡ next v after
  pub wrong : Wrong w s p v

-- what the refusals of a text tell: 3 a number out of range, 22 a `~` or an opening bracket that is nested too deep
abbrev pub Told : Ranges → List ℕ → (x p : ℕ) → Type 0
Told w s x p = (x ≡ 21) ⊎ (((x ≡ 22) × ((byte s p ≡ tilde) ⊎ (byte s p ≡ opening))) ⊎ ((x ≡ 3) × OutOfRange w s p))

-- an `e` stands directly before p, and there is no load that it could name
pub record NoLoad (w : Ranges) (s : List ℕ) (p : ℕ) : Type 0 where
  pub behind : Behind letter_e s p
  pub none : (e : ℕ) → w.load e ≡ false

-- what stands before p is the beginning of a text that spells a condition within the limits: some bytes complete it, most at most
pub record Completed (w : Ranges) (s : List ℕ) (p most : ℕ) : Type 0 where
  pub inside : p ≤ length s
  pub rest : List ℕ
  pub short : length rest ≤ most
  pub condition : Condition
  pub spells : Spells (take p s ++ rest) condition
  pub fits : FitsC w most_depth condition

-- two texts are alike up to the byte at p and with it, or both end there
abbrev pub Alike : List ℕ → List ℕ → (p : ℕ) → Type 0
Alike s t p = (i : ℕ) → i ≤ p → byte s i ≡ byte t i

-- they are alike as far as a fault at p goes: where a number is due, through its digits and with what stands behind them
pub record AlikeAt (s t : List ℕ) (p : ℕ) : Type 0 where
  pub here : Alike s t p
  pub number : Due s p → Alike s t (p + length (digits (drop p s)))
