-- A record's numbers: groups of seven bits, lowest group first, shortest form.
use Rattle.std.specs.Prelude.{ℕ, zero, suc, ◌+◌, ◌-◌, ◌*◌, ◌/◌, ◌%◌, ◌<◌, List, [], ◌∷◌, ◌++◌, cond, length, take, drop, ltb}
use Rattle.finite.specs.Lists.{All}

-- each number of the list is a byte
abbrev pub Bytes : List ℕ → Type 0
Bytes s = All (λ b. b < 256) s

-- the most groups of a number
abbrev pub groups : ℕ
groups = 5

-- what a reader answers: a refusal and its place, or what it read and the next place
pub data Out (A : Type 0) : Type 0 where
  stop : (refusal place : ℕ) → Out A
  next : A → (place : ℕ) → Out A

-- what the groups say: a value and how many bytes it took; the bytes end; the form is wrong
pub data Raw : Type 0 where
  got : ℕ → ℕ → Raw
  short : Raw
  wrong : Raw

-- a number read behind groups of the value `low`, that took k bytes, at the scale of the next group
unfoldable pub after : ℕ → ℕ → ℕ → Raw → Raw
after low scale k (got v n) = got (low + v * scale) (k + n)
after low scale k short = short
after low scale k wrong = wrong

-- at most n groups, the last at least `least` (0 for the first group, 1 for any other)
unfoldable pub read_groups : ℕ → ℕ → List ℕ → Raw
read_groups zero least s = wrong
read_groups (suc n) least [] = short
read_groups (suc n) least (b ∷ s) =
    cond (ltb b 128) (cond (ltb b least) wrong (got b 1)) (after (b - 128) 128 1 (read_groups n 1 s))

unfoldable pub finish : ℕ → ℕ → Raw → Out ℕ
finish at limit (got v n) = cond (ltb limit v) (stop 3 at) (next v (at + n))
finish at limit short = stop 1 at
finish at limit wrong = stop 2 at

unfoldable pub read_number : List ℕ → ℕ → ℕ → Out ℕ
read_number s at limit = finish at limit (read_groups groups 0 (drop at s))

-- v in groups, by as much fuel as v; `rest` is bound so that computing it ends with the groups, and not with the fuel
unfoldable pub encode_by : ℕ → ℕ → List ℕ
encode_by zero v = v ∷ []
encode_by (suc n) v = cond (ltb v 128) (v ∷ []) (let rest = encode_by n (v / 128) in (128 + v % 128) ∷ rest)

unfoldable pub encode : ℕ → List ℕ
encode v = encode_by v v

-- the bytes that a number takes
abbrev pub size : ℕ → ℕ
size v = length (encode v)

-- the most bytes that a number of 32 bits takes
abbrev pub widest : ℕ
widest = 5

-- the list s with xs from at on
unfoldable pub splice : List ℕ → ℕ → List ℕ → List ℕ
splice s at xs = take at s ++ xs ++ drop (at + length xs) s
