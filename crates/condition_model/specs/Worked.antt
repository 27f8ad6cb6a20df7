-- Worked texts, of a case with two addresses, whose finals are 1 and 2, and two loads, 2 of 0 and 10 of 4,294,967,295. Theorem `worked_texts`.
-- Assumes nothing.
use Rattle.std.specs.Prelude.{ℕ, zero, suc, ◌+◌, Bool, true, false, ◌&&◌, ◌||◌, List, [], ◌∷◌, eqb, ltb, leb}
use Prim.Native.Char.{code}
use Prim.Native.String.{String, len, char_at, ◌++◌}
use Rattle.std.specs.Bool.{beq}
use Rattle.number.specs.Reader.{Out, stop, next}
use Rattle.model.specs.Limits.{most_value}
use Rattle.condition_model.specs.Grammar.{Condition, Condition.a_term, Condition.or_else, Term, Term.a_factor, Term.and_also, Factor, Factor.negation, Factor.bracketed, Factor.memory_is, Factor.load_is, Ranges}
use Rattle.condition_model.specs.Reader.{read_text}
use Rattle.condition_model.specs.Truth.{truth_c}

pub data Row : Type 0 where
  -- the condition that is read
  is : Condition → (text : String) → Row
  -- it is read, and holds or not
  holds : Bool → (text : String) → Row
  refused : (number place : ℕ) (text : String) → Row

-- the text's bytes
unfoldable pub bytes_from : String → (i n : ℕ) → List ℕ
bytes_from t i zero = []
bytes_from t i (suc n) = code (char_at t i) ∷ bytes_from t (i + 1) n

unfoldable pub bytes : String → List ℕ
bytes t = bytes_from t 0 (len t)

unfoldable pub times : ℕ → String → String
times zero t = ""
times (suc n) t = t ++ times n t

unfoldable mutual
  pub same_c : Condition → Condition → Bool
  same_c (a_term t) (a_term u) = same_t t u
  same_c (a_term t) (or_else u d) = false
  same_c (or_else t c) (a_term u) = false
  same_c (or_else t c) (or_else u d) = same_t t u && same_c c d

  pub same_t : Term → Term → Bool
  same_t (a_factor f) (a_factor g) = same_f f g
  same_t (a_factor f) (and_also g u) = false
  same_t (and_also f t) (a_factor g) = false
  same_t (and_also f t) (and_also g u) = same_f f g && same_t t u

  pub same_f : Factor → Factor → Bool
  same_f (negation f) (negation g) = same_f f g
  same_f (bracketed c) (bracketed d) = same_c c d
  same_f (memory_is a v) (memory_is b u) = eqb a b && eqb v u
  same_f (load_is a v) (load_is b u) = eqb a b && eqb v u
  same_f (negation f) (bracketed d) = false
  same_f (negation f) (memory_is b u) = false
  same_f (negation f) (load_is b u) = false
  same_f (bracketed c) (negation g) = false
  same_f (bracketed c) (memory_is b u) = false
  same_f (bracketed c) (load_is b u) = false
  same_f (memory_is a v) (negation g) = false
  same_f (memory_is a v) (bracketed d) = false
  same_f (memory_is a v) (load_is b u) = false
  same_f (load_is a v) (negation g) = false
  same_f (load_is a v) (bracketed d) = false
  same_f (load_is a v) (memory_is b u) = false

abbrev pub w : Ranges
w = record { address = λ a. ltb a 2; load = λ e. eqb e 2 || eqb e 10; value = λ v. leb v most_value }

abbrev pub final_at : ℕ → ℕ
final_at a = a + 1

unfoldable pub loaded_at : ℕ → ℕ
loaded_at zero = 0
loaded_at (suc zero) = 0
loaded_at (suc (suc zero)) = 0
loaded_at (suc (suc (suc e))) = most_value

unfoldable pub read_as : Condition → Out Condition → Bool
read_as c (next d p) = same_c c d
read_as c (stop x p) = false

unfoldable pub read_true : Bool → Out Condition → Bool
read_true b (next c p) = beq b (truth_c final_at loaded_at c)
read_true b (stop x p) = false

unfoldable pub refused_at : (number place : ℕ) → Out Condition → Bool
refused_at number place (next c p) = false
refused_at number place (stop x p) = eqb x number && eqb p place

unfoldable pub row_holds : Row → Bool
row_holds (is c t) = read_as c (read_text w (bytes t))
row_holds (holds b t) = read_true b (read_text w (bytes t))
row_holds (refused number place t) = refused_at number place (read_text w (bytes t))

unfoldable pub worked : List Row → Bool
worked [] = true
worked (x ∷ xs) = row_holds x && worked xs

-- each production, and the condition that is read
unfoldable pub productions : List Row
productions =
    is (a_term (a_factor (memory_is 0 1))) "m0=1"
    ∷ is (a_term (a_factor (load_is 2 0))) "e2=0"
    ∷ is (a_term (a_factor (load_is 10 7))) "e10=7"
    ∷ is (a_term (a_factor (negation (memory_is 0 1)))) "~m0=1"
    ∷ is (a_term (a_factor (bracketed (a_term (a_factor (memory_is 0 1)))))) "(m0=1)"
    ∷ is (a_term (and_also (memory_is 0 1) (a_factor (memory_is 1 2)))) "m0=1/\\m1=2"
    ∷ is (or_else (a_factor (memory_is 0 1)) (a_term (a_factor (memory_is 1 2)))) "m0=1\\/m1=2"
    -- `/\` binds tighter than `\/`
    ∷ is (or_else (a_factor (memory_is 0 1)) (a_term (and_also (memory_is 0 0) (a_factor (memory_is 1 3))))) "m0=1\\/m0=0/\\m1=3"
    ∷ is (or_else (and_also (memory_is 0 1) (a_factor (memory_is 0 0))) (a_term (a_factor (memory_is 1 3)))) "m0=1/\\m0=0\\/m1=3"
    ∷ is (a_term (and_also (bracketed (or_else (a_factor (memory_is 0 1)) (a_term (a_factor (memory_is 0 0))))) (a_factor (memory_is 1 3)))) "(m0=1\\/m0=0)/\\m1=3"
    -- several
    ∷ is (or_else (a_factor (memory_is 0 1)) (or_else (a_factor (memory_is 0 2)) (a_term (a_factor (memory_is 0 3))))) "m0=1\\/m0=2\\/m0=3"
    ∷ is (a_term (and_also (memory_is 0 1) (and_also (memory_is 0 2) (a_factor (memory_is 0 3))))) "m0=1/\\m0=2/\\m0=3"
    -- `~` has one factor
    ∷ is (a_term (and_also (negation (memory_is 0 1)) (a_factor (memory_is 1 2)))) "~m0=1/\\m1=2"
    ∷ is (or_else (a_factor (negation (memory_is 0 1))) (a_term (a_factor (memory_is 1 2)))) "~m0=1\\/m1=2"
    ∷ is (a_term (a_factor (negation (bracketed (a_term (and_also (memory_is 0 1) (a_factor (memory_is 1 2)))))))) "~(m0=1/\\m1=2)"
    ∷ is (a_term (a_factor (negation (negation (memory_is 0 1))))) "~~m0=1"
    ∷ is (a_term (a_factor (bracketed (a_term (a_factor (bracketed (a_term (a_factor (memory_is 0 1))))))))) "((m0=1))"
    ∷ is (a_term (a_factor (negation (bracketed (a_term (a_factor (negation (bracketed (a_term (a_factor (load_is 2 0))))))))))) "~(~(e2=0))"
    -- the paper's
    ∷ is (a_term (and_also (memory_is 0 1) (a_factor (negation (bracketed (or_else (a_factor (load_is 2 0)) (a_term (a_factor (memory_is 1 3))))))))) "m0=1 /\\ ~(e2=0 \\/ m1=3)"
    ∷ []

-- spaces before, between and after tokens
unfoldable pub spaced : List Row
spaced =
    is (a_term (a_factor (memory_is 0 1))) "  m0 = 1  "
    ∷ is (a_term (a_factor (memory_is 0 1))) "m0= 1"
    ∷ is (a_term (a_factor (memory_is 0 1))) "m0 =1"
    ∷ is (a_term (a_factor (bracketed (a_term (a_factor (memory_is 0 1)))))) " ( m0=1 ) "
    ∷ is (a_term (a_factor (negation (memory_is 0 1)))) "~ m0=1"
    ∷ is (a_term (a_factor (negation (negation (memory_is 0 1))))) "~  ~ m0=1"
    ∷ is (a_term (and_also (memory_is 0 1) (a_factor (memory_is 1 2)))) "m0=1 /\\ m1=2"
    ∷ is (or_else (a_factor (memory_is 0 1)) (a_term (a_factor (memory_is 1 2)))) "m0=1 \\/m1=2"
    ∷ is (a_term (and_also (memory_is 0 1) (a_factor (memory_is 1 2)))) "m0=1   /\\   m1=2"
    ∷ is (or_else (a_factor (bracketed (a_term (and_also (memory_is 0 1) (a_factor (negation (load_is 2 1))))))) (a_term (a_factor (memory_is 1 0)))) "  (  m0  =  1  /\\  ~  e2  =  1  )  \\/  m1  =  0  "
    ∷ []

-- when a condition holds
unfoldable pub truths : List Row
truths =
    holds true "m0=1"
    ∷ holds false "m0=2"
    ∷ holds false "~m0=1"
    ∷ holds true "~m0=2"
    ∷ holds true "m0=1/\\m0=1"
    ∷ holds false "m0=1/\\m0=2"
    ∷ holds false "m0=2/\\m0=1"
    ∷ holds false "m0=2/\\m0=2"
    ∷ holds true "m0=1\\/m0=1"
    ∷ holds true "m0=1\\/m0=2"
    ∷ holds true "m0=2\\/m0=1"
    ∷ holds false "m0=2\\/m0=2"
    ∷ holds true "e2=0"
    ∷ holds false "e2=1"
    ∷ holds true "e10=4294967295"
    ∷ holds false "e10=4294967294"
    ∷ holds true "m1=2"
    ∷ holds false "m1=1"
    ∷ holds true "m0=1\\/m0=0/\\m0=0"
    ∷ holds false "(m0=1\\/m0=0)/\\m0=0"
    ∷ holds true "~m0=2/\\m1=2"
    ∷ holds false "~m0=2/\\m1=1"
    ∷ holds true "~(m0=2/\\m1=1)"
    ∷ holds false "~m0=1\\/m1=1"
    ∷ holds true "~(m0=2/\\m1=2)"
    ∷ holds true "~m0=1\\/m1=2"
    ∷ holds false "m0=1 /\\ ~(e2=0 \\/ m1=3)"
    ∷ holds true "m0=1 /\\ ~(e2=1 \\/ m1=3)"
    ∷ []

-- a text cut at each place
unfoldable pub cut_texts : List Row
cut_texts =
    refused 21 0 ""
    ∷ refused 21 1 "~"
    ∷ refused 21 2 "~("
    ∷ refused 21 3 "~(m"
    ∷ refused 21 4 "~(m0"
    ∷ refused 21 5 "~(m0="
    ∷ refused 21 6 "~(m0=1"
    ∷ refused 21 7 "~(m0=1 "
    ∷ refused 21 8 "~(m0=1 /"
    ∷ refused 21 9 "~(m0=1 /\\"
    ∷ refused 21 10 "~(m0=1 /\\ "
    ∷ refused 21 11 "~(m0=1 /\\ e"
    ∷ refused 21 12 "~(m0=1 /\\ e2"
    ∷ refused 21 13 "~(m0=1 /\\ e2="
    ∷ refused 21 14 "~(m0=1 /\\ e2=0"
    ∷ holds false "~(m0=1 /\\ e2=0)"
    ∷ refused 21 16 "~(m0=1 /\\ e2=0)\\"
    ∷ refused 21 17 "~(m0=1 /\\ e2=0)\\/"
    ∷ refused 21 18 "~(m0=1 /\\ e2=0)\\/m"
    ∷ refused 21 19 "~(m0=1 /\\ e2=0)\\/m1"
    ∷ refused 21 20 "~(m0=1 /\\ e2=0)\\/m1="
    ∷ holds true "~(m0=1 /\\ e2=0)\\/m1=2"
    ∷ []

-- a byte that can't stand there, at each place: instead of one, before one, and where one is missing
unfoldable pub wrong_bytes : List Row
wrong_bytes =
    refused 21 0 "x(m0=1 /\\ e2=0)\\/m1=2"
    ∷ refused 21 1 "~xm0=1 /\\ e2=0)\\/m1=2"
    ∷ refused 21 2 "~(x0=1 /\\ e2=0)\\/m1=2"
    ∷ refused 21 3 "~(mx=1 /\\ e2=0)\\/m1=2"
    ∷ refused 21 4 "~(m0x1 /\\ e2=0)\\/m1=2"
    ∷ refused 21 5 "~(m0=x /\\ e2=0)\\/m1=2"
    ∷ refused 21 6 "~(m0=1x/\\ e2=0)\\/m1=2"
    ∷ refused 21 7 "~(m0=1 x\\ e2=0)\\/m1=2"
    ∷ refused 21 8 "~(m0=1 /x e2=0)\\/m1=2"
    ∷ refused 21 9 "~(m0=1 /\\xe2=0)\\/m1=2"
    ∷ refused 21 10 "~(m0=1 /\\ x2=0)\\/m1=2"
    ∷ refused 21 11 "~(m0=1 /\\ ex=0)\\/m1=2"
    ∷ refused 21 12 "~(m0=1 /\\ e2x0)\\/m1=2"
    ∷ refused 21 13 "~(m0=1 /\\ e2=x)\\/m1=2"
    ∷ refused 21 14 "~(m0=1 /\\ e2=0x\\/m1=2"
    ∷ refused 21 15 "~(m0=1 /\\ e2=0)x/m1=2"
    ∷ refused 21 16 "~(m0=1 /\\ e2=0)\\xm1=2"
    ∷ refused 21 17 "~(m0=1 /\\ e2=0)\\/x1=2"
    ∷ refused 21 18 "~(m0=1 /\\ e2=0)\\/mx=2"
    ∷ refused 21 19 "~(m0=1 /\\ e2=0)\\/m1x2"
    ∷ refused 21 20 "~(m0=1 /\\ e2=0)\\/m1=x"
    ∷ refused 21 0 "x~(m0=1 /\\ e2=0)\\/m1=2"
    ∷ refused 21 1 "~x(m0=1 /\\ e2=0)\\/m1=2"
    ∷ refused 21 2 "~(xm0=1 /\\ e2=0)\\/m1=2"
    ∷ refused 21 3 "~(mx0=1 /\\ e2=0)\\/m1=2"
    ∷ refused 21 4 "~(m0x=1 /\\ e2=0)\\/m1=2"
    ∷ refused 21 5 "~(m0=x1 /\\ e2=0)\\/m1=2"
    ∷ refused 21 6 "~(m0=1x /\\ e2=0)\\/m1=2"
    ∷ refused 21 7 "~(m0=1 x/\\ e2=0)\\/m1=2"
    ∷ refused 21 8 "~(m0=1 /x\\ e2=0)\\/m1=2"
    ∷ refused 21 9 "~(m0=1 /\\x e2=0)\\/m1=2"
    ∷ refused 21 10 "~(m0=1 /\\ xe2=0)\\/m1=2"
    ∷ refused 21 11 "~(m0=1 /\\ ex2=0)\\/m1=2"
    ∷ refused 21 12 "~(m0=1 /\\ e2x=0)\\/m1=2"
    ∷ refused 21 13 "~(m0=1 /\\ e2=x0)\\/m1=2"
    ∷ refused 21 14 "~(m0=1 /\\ e2=0x)\\/m1=2"
    ∷ refused 21 15 "~(m0=1 /\\ e2=0)x\\/m1=2"
    ∷ refused 21 16 "~(m0=1 /\\ e2=0)\\x/m1=2"
    ∷ refused 21 17 "~(m0=1 /\\ e2=0)\\/xm1=2"
    ∷ refused 21 18 "~(m0=1 /\\ e2=0)\\/mx1=2"
    ∷ refused 21 19 "~(m0=1 /\\ e2=0)\\/m1x=2"
    ∷ refused 21 20 "~(m0=1 /\\ e2=0)\\/m1=x2"
    ∷ refused 21 21 "~(m0=1 /\\ e2=0)\\/m1=2x"
    ∷ holds true "(m0=1 /\\ e2=0)\\/m1=2"
    ∷ refused 21 13 "~m0=1 /\\ e2=0)\\/m1=2"
    ∷ refused 21 2 "~(0=1 /\\ e2=0)\\/m1=2"
    ∷ refused 21 3 "~(m=1 /\\ e2=0)\\/m1=2"
    ∷ refused 21 3 "~(m01 /\\ e2=0)\\/m1=2"
    ∷ refused 21 6 "~(m0= /\\ e2=0)\\/m1=2"
    ∷ holds true "~(m0=1/\\ e2=0)\\/m1=2"
    ∷ refused 21 8 "~(m0=1 \\ e2=0)\\/m1=2"
    ∷ refused 21 8 "~(m0=1 / e2=0)\\/m1=2"
    ∷ holds true "~(m0=1 /\\e2=0)\\/m1=2"
    ∷ refused 21 10 "~(m0=1 /\\ 2=0)\\/m1=2"
    ∷ refused 21 11 "~(m0=1 /\\ e=0)\\/m1=2"
    ∷ refused 3 11 "~(m0=1 /\\ e20)\\/m1=2"
    ∷ refused 21 13 "~(m0=1 /\\ e2=)\\/m1=2"
    ∷ refused 21 20 "~(m0=1 /\\ e2=0\\/m1=2"
    ∷ refused 21 16 "~(m0=1 /\\ e2=0)/m1=2"
    ∷ refused 21 16 "~(m0=1 /\\ e2=0)\\m1=2"
    ∷ refused 21 17 "~(m0=1 /\\ e2=0)\\/1=2"
    ∷ refused 21 18 "~(m0=1 /\\ e2=0)\\/m=2"
    ∷ refused 3 18 "~(m0=1 /\\ e2=0)\\/m12"
    ∷ refused 21 20 "~(m0=1 /\\ e2=0)\\/m1="
    ∷ []

-- outside the grammar
unfoldable pub outside : List Row
outside =
    refused 21 0 ""
    ∷ refused 21 3 "   "
    ∷ refused 21 4 "m0=1\n"
    ∷ refused 21 0 "\nm0=1"
    ∷ refused 21 2 "m0\t=1"
    ∷ refused 21 1 "m"
    ∷ refused 21 1 "e"
    ∷ refused 21 1 "m 0=1"
    ∷ refused 21 1 "e 2=0"
    ∷ refused 21 2 "m0"
    ∷ refused 21 3 "m0 "
    ∷ refused 21 3 "m0="
    ∷ refused 21 4 "m0= "
    ∷ refused 21 3 "m0 1"
    ∷ refused 21 3 "m0==1"
    ∷ refused 21 1 "m=1"
    ∷ refused 21 0 "=1"
    ∷ refused 21 0 "0=m0"
    ∷ refused 21 5 "m0=1 2"
    ∷ refused 21 4 "m0=1m1=2"
    ∷ refused 21 4 "m0=1e2=0"
    ∷ refused 21 4 "m0=1=1"
    ∷ refused 21 0 "M0=1"
    ∷ refused 21 0 "x0=1"
    ∷ refused 21 1 "m-1=0"
    ∷ refused 21 1 "m+0=1"
    ∷ refused 21 3 "m0=-1"
    ∷ refused 21 3 "m0=+1"
    ∷ refused 21 4 "m0=1.0"
    ∷ refused 21 4 "m0=0x1"
    ∷ refused 21 0 ")"
    ∷ refused 21 1 "()"
    ∷ refused 21 2 "( )"
    ∷ refused 21 5 "(m0=1"
    ∷ refused 21 7 "(m0=1  "
    ∷ refused 21 6 "(m0=1))"
    ∷ refused 21 4 "m0=1)"
    ∷ refused 21 1 "~"
    ∷ refused 21 2 "~ "
    ∷ refused 21 1 "~)"
    ∷ refused 21 5 "m0=1 ~m1=2"
    ∷ refused 21 4 "m0=1(m1=2)"
    ∷ refused 21 6 "(m0=1)m1=2"
    ∷ refused 21 6 "(m0=1)(m1=2)"
    ∷ refused 21 2 "m0~=1"
    ∷ refused 21 3 "m0=~1"
    ∷ refused 21 3 "m0=(1)"
    ∷ refused 21 3 "(m0)=1"
    ∷ refused 21 3 "m0=m1"
    ∷ refused 21 6 "m0=1\\/"
    ∷ refused 21 6 "m0=1/\\"
    ∷ refused 21 7 "m0=1\\/ "
    ∷ refused 21 0 "\\/m0=1"
    ∷ refused 21 0 "/\\m0=1"
    ∷ refused 21 6 "m0=1\\//\\m0=1"
    ∷ refused 21 6 "m0=1/\\\\/m0=1"
    ∷ refused 21 6 "m0=1\\/\\/m0=1"
    ∷ refused 21 6 "m0=1/\\)"
    ∷ refused 21 7 "(m0=1/\\)"
    ∷ []

-- `/\` and `\/` cut in half
unfoldable pub half_signs : List Row
half_signs =
    refused 21 5 "m0=1/"
    ∷ refused 21 5 "m0=1\\"
    ∷ refused 21 6 "m0=1 /"
    ∷ refused 21 6 "m0=1 \\"
    ∷ refused 21 5 "m0=1/m1=2"
    ∷ refused 21 5 "m0=1\\m1=2"
    ∷ refused 21 5 "m0=1//"
    ∷ refused 21 5 "m0=1\\\\"
    ∷ refused 21 5 "m0=1/ \\m1=2"
    ∷ refused 21 5 "m0=1\\ /m1=2"
    ∷ refused 21 6 "m0=1/\\\\m1=2"
    ∷ refused 21 6 "m0=1\\//m1=2"
    ∷ refused 21 6 "(m0=1/)"
    ∷ refused 21 6 "(m0=1\\)"
    ∷ refused 21 0 "/"
    ∷ refused 21 0 "\\"
    ∷ refused 21 6 "m0=1\\//"
    ∷ refused 21 6 "m0=1/\\/m1=2"
    ∷ []

-- numbers at each limit, and those that a narrower number would take for another
unfoldable pub numbers : List Row
numbers =
    holds false "m0=0"
    ∷ holds false "m1=0"
    ∷ refused 3 1 "m2=0"
    ∷ refused 3 1 "m3=0"
    ∷ refused 3 1 "m4=0"
    ∷ refused 3 1 "m10=0"
    ∷ refused 3 1 "m4294967295=0"
    ∷ refused 3 1 "m4294967296=0"
    ∷ refused 3 1 "m18446744073709551616=0"
    ∷ refused 3 1 "m18446744073709551617=0"
    ∷ refused 3 1 "e0=0"
    ∷ refused 3 1 "e1=0"
    ∷ holds true "e2=0"
    ∷ refused 3 1 "e3=0"
    ∷ refused 3 1 "e9=0"
    ∷ holds false "e10=0"
    ∷ refused 3 1 "e11=0"
    ∷ refused 3 1 "e63=0"
    ∷ refused 3 1 "e64=0"
    ∷ refused 3 1 "e100=0"
    ∷ refused 3 1 "e4294967298=0"
    ∷ refused 3 1 "e18446744073709551618=0"
    ∷ holds true "m0=1"
    ∷ holds false "m0=9"
    ∷ holds false "m0=10"
    ∷ holds false "m0=65535"
    ∷ holds false "m0=65536"
    ∷ holds false "m0=4294967294"
    ∷ holds false "m0=4294967295"
    ∷ refused 3 3 "m0=4294967296"
    ∷ refused 3 3 "m0=4294967297"
    ∷ refused 3 3 "m0=4294967305"
    ∷ refused 3 3 "m0=42949672950"
    ∷ refused 3 3 "m0=18446744073709551615"
    ∷ refused 3 3 "m0=18446744073709551616"
    ∷ refused 3 3 "m0=18446744073709551617"
    ∷ refused 3 3 "m0=99999999999999999999999999"
    ∷ holds true "e10=4294967295"
    ∷ refused 3 4 "e10=4294967296"
    ∷ []

-- needless zeros are 21 whatever the number is
unfoldable pub needless_zeros : List Row
needless_zeros =
    refused 21 1 "m00=1"
    ∷ refused 21 1 "m01=1"
    ∷ refused 21 1 "m02=1"
    ∷ refused 21 1 "m09=1"
    ∷ refused 21 1 "e02=0"
    ∷ refused 21 1 "e010=0"
    ∷ refused 21 1 "e00=0"
    ∷ refused 21 3 "m0=00"
    ∷ refused 21 3 "m0=01"
    ∷ refused 21 3 "m0=000"
    ∷ refused 21 3 "m0=04294967295"
    ∷ refused 21 3 "m0=04294967296"
    ∷ refused 21 5 "m0=0 1"
    ∷ refused 21 3 "m0=00 "
    ∷ refused 21 1 "m00"
    ∷ refused 21 1 "e02"
    ∷ refused 21 3 "m0=01x"
    ∷ refused 21 1 "m01x"
    ∷ []

-- the leftmost of several faults
unfoldable pub leftmosts : List Row
leftmosts =
    refused 3 1 "m5=x"
    ∷ refused 3 1 "m5"
    ∷ refused 3 1 "m5x"
    ∷ refused 3 1 "e9x"
    ∷ refused 3 3 "m0=4294967296x"
    ∷ refused 21 0 "x m5=0"
    ∷ refused 21 5 "m0=1 x m5=0"
    ∷ refused 21 5 "m0=1 m5=0"
    ∷ refused 3 1 "m5=01"
    ∷ refused 21 3 "m0=01 m5"
    ∷ refused 3 1 "e0=01"
    ∷ refused 3 2 "(m5"
    ∷ refused 21 1 "~x"
    ∷ refused 21 3 "m0=x\\/m5=0"
    ∷ refused 3 1 "m5=0\\/x"
    ∷ refused 3 7 "m0=1\\/e0=1/\\x"
    ∷ refused 21 1 "m00=4294967296"
    ∷ refused 21 2 "m0/=1"
    ∷ refused 21 5 "m0=1/e0=1"
    ∷ []

-- 512 bytes and more
unfoldable pub lengths : List Row
lengths =
    holds true (times 508 " " ++ "m0=1")
    ∷ holds true ("m0=1" ++ times 508 " ")
    ∷ refused 3 512 (times 509 " " ++ "m0=1")
    ∷ refused 3 512 ("m0=1" ++ times 509 " ")
    ∷ refused 21 512 (times 512 " ")
    ∷ refused 3 512 (times 513 " ")
    ∷ refused 21 0 (times 512 "x")
    ∷ refused 3 512 (times 513 "x")
    ∷ refused 3 512 (times 600 "~")
    ∷ refused 22 16 (times 512 "~")
    ∷ refused 3 512 ("x" ++ times 512 " ")
    ∷ holds true (times 84 "m0=1\\/" ++ "m0=1" ++ times 4 " ")
    ∷ refused 21 512 (times 85 "m0=2\\/" ++ "m0")
    ∷ refused 21 510 (times 85 "m0=2\\/" ++ "x")
    ∷ refused 3 511 (times 85 "m0=2\\/" ++ "m5")
    ∷ refused 21 512 (times 85 "m0=1/\\" ++ "m0")
    ∷ refused 3 512 (times 85 "m0=1\\/" ++ "m0=1")
    ∷ refused 3 3 ("m0=" ++ times 509 "9")
    ∷ refused 21 3 ("m0=" ++ times 509 "0")
    ∷ refused 3 512 ("m0=" ++ times 510 "9")
    ∷ refused 3 1 ("m" ++ times 511 "9")
    ∷ refused 3 1 ("e1" ++ times 510 "0")
    ∷ []

-- 16 deep and 17
unfoldable pub depths : List Row
depths =
    holds true (times 16 "~" ++ "m0=1")
    ∷ refused 22 16 (times 17 "~" ++ "m0=1")
    ∷ refused 22 16 (times 17 "~")
    ∷ holds true (times 16 "(" ++ "m0=1" ++ times 16 ")")
    ∷ refused 22 16 (times 17 "(" ++ "m0=1" ++ times 17 ")")
    ∷ holds true (times 8 "~(" ++ "m0=1" ++ times 8 ")")
    ∷ holds true (times 8 "(~" ++ "m0=1" ++ times 8 ")")
    ∷ refused 22 16 (times 8 "~(" ++ "~m0=1" ++ times 8 ")")
    ∷ refused 22 16 (times 8 "(~" ++ "(m0=1)" ++ times 8 ")")
    ∷ holds true (times 16 "~ " ++ "m0=1")
    ∷ refused 22 32 (times 17 "~ " ++ "m0=1")
    -- siblings are as deep as each is
    ∷ holds false (times 16 "(" ++ "m0=1" ++ times 16 ")" ++ "/\\" ++ times 16 "~" ++ "m0=2")
    ∷ refused 22 24 (times 16 "(" ++ "m0=1 \\/ ~m0=1" ++ times 16 ")")
    ∷ refused 22 54 (times 16 "(" ++ "m0=1" ++ times 16 ")" ++ "\\/" ++ times 17 "~")
    ∷ holds true (times 15 "(" ++ "m0=1\\/~m0=1/\\(m1=2)" ++ times 15 ")")
    -- 22 is no earlier and no later than its byte
    ∷ refused 21 16 (times 16 "(" ++ "x(")
    ∷ refused 22 16 (times 16 "(" ++ "(x")
    ∷ refused 3 17 (times 16 "(" ++ "m5(")
    ∷ refused 21 0 ("x" ++ times 17 "~")
    ∷ refused 22 16 (times 17 "~" ++ "x")
    ∷ []
