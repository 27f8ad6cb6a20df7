-- Conditions (02 (x)): the grammar as data, which texts spell a condition, and which conditions keep the limits.
-- Assumes nothing.
use Rattle.std.specs.Prelude.{ℕ, zero, suc, ◌+◌, ◌/◌, ◌%◌, ◌≤◌, ◌≡◌, Bool, true, cond, List, [], ◌∷◌, ◌++◌, ltb, length, replicate}

-- 02 (x): "Up to 512 bytes"
abbrev pub most_text : ℕ
most_text = 512

-- 02 (x): "nested up to 16 deep counting `~` and brackets"
abbrev pub most_depth : ℕ
most_depth = 16

mutual
  -- 02 (x): "A condition is terms joined by `\/`"
  pub data Condition : Type 0 where
    a_term : Term → Condition
    or_else : Term → Condition → Condition

  -- 02 (x): "a term is factors joined by `/\`"
  pub data Term : Type 0 where
    a_factor : Factor → Term
    and_also : Factor → Term → Term

  -- 02 (x): "a factor is `~` and a factor, a bracketed condition, or an equation"
  pub data Factor : Type 0 where
    negation : Factor → Factor
    bracketed : Condition → Factor
    -- "m is final memory": of address a
    memory_is : (a v : ℕ) → Factor
    -- "e a load's event number"
    load_is : (e v : ℕ) → Factor

-- the bytes of a text
abbrev pub space : ℕ
space = 32

abbrev pub opening : ℕ
opening = 40

abbrev pub closing : ℕ
closing = 41

abbrev pub slash : ℕ
slash = 47

abbrev pub zero_digit : ℕ
zero_digit = 48

abbrev pub equals : ℕ
equals = 61

abbrev pub backslash : ℕ
backslash = 92

abbrev pub letter_e : ℕ
letter_e = 101

abbrev pub letter_m : ℕ
letter_m = 109

abbrev pub tilde : ℕ
tilde = 126

-- 02 (x): "Numbers are decimal with no needless leading zero": the digits of v, by as much fuel as v; `front` is bound so that computing it ends with
-- the digits, and not with the fuel
unfoldable pub decimal_by : ℕ → ℕ → List ℕ
decimal_by zero v = (zero_digit + v) ∷ []
decimal_by (suc n) v = cond (ltb v 10) ((zero_digit + v) ∷ []) (let front = decimal_by n (v / 10) in front ++ ((zero_digit + v % 10) ∷ []))

unfoldable pub decimal : ℕ → List ℕ
decimal v = decimal_by v v

-- an equation's tokens: 02 (x): "`m0` or `e2` is one token"
abbrev pub equation : (letter n v : ℕ) → List (List ℕ)
equation letter n v = (letter ∷ decimal n) ∷ (equals ∷ []) ∷ decimal v ∷ []

-- the tokens of a condition, of a term and of a factor, from left to right
unfoldable mutual
  pub tokens_c : Condition → List (List ℕ)
  tokens_c (a_term t) = tokens_t t
  tokens_c (or_else t c) = tokens_t t ++ ((backslash ∷ slash ∷ []) ∷ tokens_c c)

  pub tokens_t : Term → List (List ℕ)
  tokens_t (a_factor f) = tokens_f f
  tokens_t (and_also f t) = tokens_f f ++ ((slash ∷ backslash ∷ []) ∷ tokens_t t)

  pub tokens_f : Factor → List (List ℕ)
  tokens_f (negation f) = (tilde ∷ []) ∷ tokens_f f
  tokens_f (bracketed c) = (opening ∷ []) ∷ (tokens_c c ++ ((closing ∷ []) ∷ []))
  tokens_f (memory_is a v) = equation letter_m a v
  tokens_f (load_is e v) = equation letter_e e v

abbrev pub spaces : ℕ → List ℕ
spaces g = replicate g space

-- the bytes are the tokens, each with any number of spaces behind it
abbrev pub Padded : List (List ℕ) → List ℕ → Type 0
Padded [] s = s ≡ []
Padded (t ∷ ts) s = (g : ℕ) × (r : List ℕ) × (s ≡ t ++ (spaces g ++ r)) × Padded ts r

-- the text spells the condition: 02 (x): "spaces may stand before, between and after tokens"
pub record Spells (s : List ℕ) (c : Condition) : Type 0 where
  pub before : ℕ
  pub rest : List ℕ
  pub text : s ≡ spaces before ++ rest
  pub tokens : Padded (tokens_c c) rest

-- which numbers may stand behind `m`, behind `e` and as a value
pub record Ranges : Type 0 where
  pub address : ℕ → Bool
  pub load : ℕ → Bool
  pub value : ℕ → Bool

-- any numbers: the grammar alone
abbrev pub free : Ranges
free = record { address = λ v. true; load = λ v. true; value = λ v. true }

-- nested up to n deep, and every number in its range
unfoldable mutual
  pub FitsC : Ranges → (n : ℕ) → Condition → Type 0
  FitsC w n (a_term t) = FitsT w n t
  FitsC w n (or_else t c) = FitsT w n t × FitsC w n c

  pub FitsT : Ranges → (n : ℕ) → Term → Type 0
  FitsT w n (a_factor f) = FitsF w n f
  FitsT w n (and_also f t) = FitsF w n f × FitsT w n t

  pub FitsF : Ranges → (n : ℕ) → Factor → Type 0
  FitsF w zero (negation f) = ⊥
  FitsF w (suc n) (negation f) = FitsF w n f
  FitsF w zero (bracketed c) = ⊥
  FitsF w (suc n) (bracketed c) = FitsC w n c
  FitsF w n (memory_is a v) = (w.address a ≡ true) × (w.value v ≡ true)
  FitsF w n (load_is e v) = (w.load e ≡ true) × (w.value v ≡ true)

-- the text spells the condition and keeps the limits
pub record Accepted (w : Ranges) (s : List ℕ) (c : Condition) : Type 0 where
  pub short : length s ≤ most_text
  pub spells : Spells s c
  pub fits : FitsC w most_depth c
