-- The reader of a text (02 (x)): the condition that it spells, or its leftmost fault. Readers are those of records: they answer what they read and the
-- place behind it, or a refusal and its place. Each begins where a token begins and goes on to where the next one does, past the spaces.
-- Assumes nothing.
use Rattle.std.specs.Prelude.{ℕ, zero, suc, ◌+◌, ◌*◌, ◌-◌, Bool, true, false, ◌&&◌, cond, List, [], ◌∷◌, ltb, leb, eqb, length, get_or, drop}
use Rattle.number.specs.Reader.{Out, stop, next, Reader, give, ◌>>=◌, unless}
use Rattle.condition_model.specs.Grammar.{most_text, most_depth, Condition, Condition.a_term, Condition.or_else, Term, Term.a_factor, Term.and_also, Factor, Factor.negation, Factor.bracketed, Factor.memory_is, Factor.load_is, space, opening, closing, slash, zero_digit, equals, backslash, letter_e, letter_m, tilde, Ranges}

infixr 10 ◌>>◌
-- one reader, and then another that does not ask what the first read
abbrev pub ◌>>◌ : {A B : Type 0} → Reader A → Reader B → Reader B
◌>>◌ r k = r >>= λ _. k

-- what stands at a place: a byte, or 256, which is none, at the text's end
abbrev pub byte : List ℕ → ℕ → ℕ
byte s i = get_or s i 256

-- whether the byte x stands at a place
abbrev pub is : (x : ℕ) → List ℕ → ℕ → Bool
is x s at = eqb (byte s at) x

-- the bytes before the first that does not pass the test
unfoldable pub front : (ℕ → Bool) → List ℕ → List ℕ
front test [] = []
front test (b ∷ s) = cond (test b) (b ∷ front test s) []

-- whether a byte is a space
abbrev pub is_space : ℕ → Bool
is_space b = eqb b space

-- the place behind the spaces that stand at one
unfoldable pub skipped : List ℕ → ℕ → ℕ
skipped s at = at + length (front is_space (drop at s))

-- past the spaces
abbrev pub skip : Reader (Unit {0})
skip s at = next tt (skipped s at)

-- past a byte that was looked at
abbrev pub pass : Reader (Unit {0})
pass s at = next tt (at + 1)

-- the byte x; "anything outside the grammar is 21", at "the first byte that can't stand there, or the text's end"
unfoldable pub sign : (x : ℕ) → Reader (Unit {0})
sign x s at = cond (is x s at) (next tt (at + 1)) (stop 21 at)

-- whether a byte is a digit
abbrev pub is_digit : ℕ → Bool
is_digit b = leb zero_digit b && ltb b (zero_digit + 10)

-- the digits that the bytes begin with
abbrev pub digits : List ℕ → List ℕ
digits s = front is_digit s

-- the value of v with the digits behind it
unfoldable pub value_by : ℕ → List ℕ → ℕ
value_by v [] = v
value_by v (b ∷ ds) = value_by (v * 10 + (b - zero_digit)) ds

-- no digits, or a needless zero in front: "a needless zero's too, always as 21"
unfoldable pub unfit : List ℕ → Bool
unfit [] = true
unfit (b ∷ []) = false
unfit (b ∷ d ∷ ds) = eqb b zero_digit

-- the number that the digits at a place are
unfoldable pub number_of : List ℕ → (at : ℕ) → Out ℕ
number_of ds at = cond (unfit ds) (stop 21 at) (next (value_by 0 ds) (at + length ds))

-- the number that stands at a place: its digits are as many as stand there
unfoldable pub number : Reader ℕ
number s at = number_of (digits (drop at s)) at

-- a number that passes the test: "a number out of range or an e that is no load is 3", at its first digit
abbrev pub number_in : (ℕ → Bool) → Reader ℕ
number_in test = unless 3 test number

-- a letter, which was looked at, and its number; no space stands between them
unfoldable pub label : (ℕ → Bool) → Reader ℕ
label test = do
  pass
  n ← number_in test
  skip
  give n

-- `=` and a value
unfoldable pub valued : (ℕ → Bool) → Reader ℕ
valued test = do
  sign equals
  skip
  v ← number_in test
  skip
  give v

-- an equation whose letter was looked at
unfoldable pub equation_by : (ℕ → Bool) → (ℕ → Bool) → (ℕ → ℕ → Factor) → Reader Factor
equation_by test values make = do
  n ← label test
  v ← valued values
  give (make n v)

-- the first reader where the test passes, else the second
abbrev pub choose : {A : Type 0} → Bool → Reader A → Reader A → Reader A
choose true r else = r
choose false r else = else

-- the first reader where the byte x stands, else the second
abbrev pub if_byte : {A : Type 0} → (x : ℕ) → Reader A → Reader A → Reader A
if_byte x r else s at = choose (is x s at) r else s at

-- an equation, with `m` or with `e`
unfoldable pub equation_at : Ranges → Reader Factor
equation_at w =
    if_byte letter_m (equation_by w.address w.value memory_is) (if_byte letter_e (equation_by w.load w.value load_is) (λ s at. stop 21 at))

-- `~` or an opening bracket, which was looked at, and what stands one level down, where n levels are left; "17 is 22"
abbrev pub nested : {A : Type 0} → (n : ℕ) → (ℕ → Reader A) → Reader A
nested zero inner s at = stop 22 at
nested (suc n) inner s at = (pass >> (skip >> inner n)) s at

-- behind a sign's first byte, which was looked at: its second byte and what follows
abbrev pub behind_sign : {B : Type 0} → (y : ℕ) → (B → B) → Reader B → Reader B
behind_sign y make rest = do
  pass
  sign y
  skip
  b ← rest
  give (make b)

-- operands joined by the sign of the bytes x and y: one, and as many as follow
abbrev pub joined : {A B : Type 0} → (x y : ℕ) → (A → B) → (A → B → B) → Reader A → Reader B → Reader B
joined x y one more operand rest = do
  a ← operand
  if_byte x (behind_sign y (more a) rest) (give (one a))

-- a bracketed condition, behind its opening bracket
abbrev pub closed : Reader Condition → Reader Factor
closed condition = do
  c ← condition
  sign closing
  skip
  give (bracketed c)

-- a negated factor, behind its `~`
abbrev pub negated : Reader Factor → Reader Factor
negated factor = do
  f ← factor
  give (negation f)

-- 02 (x): "A condition is terms joined by `\/`; a term is factors joined by `/\`; a factor is `~` and a factor, a bracketed condition, or an equation",
-- where n levels of nesting are left. The first number is fuel: three for each byte are enough
unfoldable mutual
  pub condition_by : (fuel : ℕ) → Ranges → (n : ℕ) → Reader Condition
  condition_by zero w n s at = stop 21 at
  condition_by (suc f) w n s at = joined backslash slash a_term or_else (λ s at. term_by f w n s at) (λ s at. condition_by f w n s at) s at

  pub term_by : (fuel : ℕ) → Ranges → (n : ℕ) → Reader Term
  term_by zero w n s at = stop 21 at
  term_by (suc f) w n s at = joined slash backslash a_factor and_also (λ s at. factor_by f w n s at) (λ s at. term_by f w n s at) s at

  pub factor_by : (fuel : ℕ) → Ranges → (n : ℕ) → Reader Factor
  factor_by zero w n s at = stop 21 at
  factor_by (suc f) w n s at =
      if_byte tilde (nested n (λ i. negated (λ s at. factor_by f w i s at)))
      (if_byte opening (nested n (λ i. closed (λ s at. condition_by f w i s at))) (equation_at w)) s at

-- nothing follows
unfoldable pub end : Reader (Unit {0})
end s at = cond (eqb at (length s)) (next tt at) (stop 21 at)

-- a whole text of any length, where n levels may be nested
unfoldable pub whole_by : (fuel : ℕ) → Ranges → (n : ℕ) → Reader Condition
whole_by f w n = do
  skip
  c ← condition_by f w n
  end
  give c

-- enough fuel for the longest text
abbrev pub enough : ℕ
enough = 3 * most_text + 3

-- a text: 02 (x): "Up to 512 bytes (more is 3 at 512, before other text faults)"
unfoldable pub read_text : Ranges → List ℕ → Out Condition
read_text w s = choose (ltb most_text (length s)) (λ s at. stop 3 most_text) (whole_by enough w most_depth) s 0
