-- What a verdict means, and what rules 11 and 17 say as propositions.
-- Assumes nothing.
use Prim.Native.Nat.{ℕ, zero, suc, ◌+◌, ◌-◌, ◌≤◌, ◌<◌}
use native.Mathlib.Nat.{sub_self}
use native.Mathlib.Omega.{arith}
use native.Mathlib.Decide.{dec_lt}
use mathlib.Core.Path.{◌≡◌, refl, sym, ◌∙◌, subst}
use mathlib.Core.Bool.{Bool, true, false, not, true≢false}
use mathlib.Core.Logic.{◌↔◌}
use mathlib.Core.List.{List, [], ◌∷◌}
use lib.Dec.{T, lit<}
use lib.ListN.{length, get_or}
use Rattle.finite.proofs.Tests.{all-iff, and-iff, imp-iff}
use Rattle.model.specs.Case.{Case}
use Rattle.model.specs.Rules.{first_rule, last_rule, Model, or_else, before, is_barrier, applicable, of, everywhere, rule11, rule12, rule13, rule14, rule15, rule16, rule17, rule18, verdict}

-- ---- the rules by their numbers

abbrev pub rules_of : Case → Model → List Bool
rules_of c w = rule11 c ∷ rule12 c ∷ rule13 c ∷ rule14 c ∷ rule15 c w ∷ rule16 c w ∷ rule17 c ∷ rule18 c ∷ []

-- of the tests, numbered from v on: the one of number u; past the last all pass
abbrev pub numbered : ℕ → List Bool → ℕ → Bool
numbered v bs u = get_or bs (u - v) true

-- the rule of that number holds
abbrev pub rule_of : Case → Model → ℕ → Bool
rule_of c w = numbered first_rule (rules_of c w)

-- v is the lowest number from lo to hi whose test fails
pub record Lowest (passes : ℕ → Bool) (lo hi v : ℕ) : Type 0 where
  pub least : lo ≤ v
  pub most : v ≤ hi
  pub broken : passes v ≡ false
  pub lower : (u : ℕ) → lo ≤ u → u < v → passes u ≡ true

-- ---- tests in a row

-- the number of the first that fails, or 0
abbrev lowest : ℕ → List Bool → ℕ
lowest v [] = 0
lowest v (b ∷ bs) = or_else b v (lowest (suc v) bs)

here : (v : ℕ) (b : Bool) (bs : List Bool) → numbered v (b ∷ bs) v ≡ b
here v b bs = rw (sub_self v)

there : (v : ℕ) (b : Bool) (bs : List Bool) (u : ℕ) → v < u → numbered v (b ∷ bs) u ≡ numbered (suc v) bs u
there v b bs u l = let e : u - v ≡ suc (u - suc v) = omega arith in rw e

-- of the first, or of a later one
from : (v : ℕ) (b : Bool) (bs : List Bool) → b ≡ true → (u : ℕ) → v ≤ u → (v < u → numbered (suc v) bs u ≡ true) → numbered v (b ∷ bs) u ≡ true
from v b bs e u l f = go (dec_lt v u)
  where
    go : Dec (v < u) → numbered v (b ∷ bs) u ≡ true
    go (yes x) = there v b bs u x ∙ f x
    go (no x) = let s : v ≡ u = omega arith in subst (λ (z : ℕ). numbered v (b ∷ bs) z ≡ true) s (here v b bs ∙ e)

-- what the first failing number says: none, or that one is the lowest
abbrev Says : ℕ → List Bool → ℕ → Type 0
Says v bs zero = (u : ℕ) → v ≤ u → numbered v bs u ≡ true
Says v bs (suc x) = Lowest (numbered v bs) v (v + length bs - 1) (suc x)

says_later : (v : ℕ) (bs : List Bool) (x : ℕ) → Says (suc v) bs x → Says v (true ∷ bs) x
says_later v bs zero S = λ u l. from v true bs refl u l (λ x. S u x)
says_later v bs (suc x) S =
    let lo : suc v ≤ suc x = S.least in
    let hi : suc x ≤ suc v + length bs - 1 = S.most in
    record {
      least = omega arith;
      most = omega arith;
      broken = there v true bs (suc x) lo ∙ S.broken;
      lower = λ u l h. from v true bs refl u l (λ y. S.lower u y h);
    }

says : (v : ℕ) (bs : List Bool) → 0 < v → Says v bs (lowest v bs)
says v [] l = λ u h. refl
says zero (b ∷ bs) l = absurd (omega arith)
says (suc v) (true ∷ bs) l = says_later (suc v) bs (lowest (suc (suc v)) bs) (says (suc (suc v)) bs (omega arith))
says (suc v) (false ∷ bs) l =
    record { least = omega arith; most = omega arith; broken = here (suc v) false bs; lower = λ u a b. absurd (omega arith) }

-- and nothing else says so
no_other : (v : ℕ) (bs : List Bool) (x : ℕ) → Says v bs x → ((u : ℕ) → v ≤ u → u ≤ v + length bs - 1 → numbered v bs u ≡ true) → x ≡ 0
no_other v bs zero S f = refl
no_other v bs (suc x) S f = absurd (true≢false (sym (f (suc x) S.least S.most) ∙ S.broken))

same_lowest : (v : ℕ) (bs : List Bool) (x y : ℕ) → Says v bs x → Lowest (numbered v bs) v (v + length bs - 1) y → x ≡ y
same_lowest v bs zero y S L = absurd (true≢false (sym (S y L.least) ∙ L.broken))
same_lowest v bs (suc x) y S L = go (dec_lt (suc x) y) (dec_lt y (suc x))
  where
    go : Dec (suc x < y) → Dec (y < suc x) → suc x ≡ y
    go (yes a) b = absurd (true≢false (sym (L.lower (suc x) S.least a) ∙ S.broken))
    go (no a) (yes b) = absurd (true≢false (sym (S.lower y L.least b) ∙ L.broken))
    go (no a) (no b) = omega arith

-- ---- the verdict

-- 0 exactly when every rule holds; any other number exactly when it is the lowest that is broken
pub record VerdictMeans (c : Case) (w : Model) : Type 0 where
  pub accepted : (verdict c w ≡ 0) ↔ ((v : ℕ) → first_rule ≤ v → v ≤ last_rule → rule_of c w v ≡ true)
  pub broken : (v : ℕ) → 0 < v → (verdict c w ≡ v) ↔ Lowest (rule_of c w) first_rule last_rule v

pub verdict_meaning : (c : Case) (w : Model) → VerdictMeans c w
unfolding verdict
verdict_meaning c w = record {
  accepted = (λ e v l h. subst (Says first_rule (rules_of c w)) e said v l, no_other first_rule (rules_of c w) (verdict c w) said);
  broken = λ v l. (λ e. low v l (subst (Says first_rule (rules_of c w)) e said), same_lowest first_rule (rules_of c w) (verdict c w) v said);
}
  where
    said : Says first_rule (rules_of c w) (verdict c w)
    said = says first_rule (rules_of c w) (lit< tt)

    low : (v : ℕ) → 0 < v → Says first_rule (rules_of c w) v → Lowest (rule_of c w) first_rule last_rule v
    low zero l S = absurd (omega arith)
    low (suc v) l S = S

-- ---- rules as propositions

pub rule11-says : (c : Case) → T (rule11 c) ↔ ((p : ℕ) → p < c.n → (a : ℕ) → a < c.k
    → T (not (before c p a a)) × ((b : ℕ) → b < c.k → T (before c p a b) → (d : ℕ) → d < c.k → T (before c p b d) → T (before c p a d)))
unfolding rule11
rule11-says c = (λ t. simp (all-iff, and-iff, imp-iff) at t, λ h. simp (all-iff, and-iff, imp-iff) h)

pub rule17-says : (c : Case) → T (rule17 c) ↔ ((p : ℕ) → p < c.n → (f : ℕ) → f < c.k → T (is_barrier c f) × T (of c p f)
    → (e : ℕ) → e < c.k → T (before c p e f) → (g : ℕ) → g < c.k → (T (of c p g) × T (before c p f g)) × T (applicable c f e g)
    → (q : ℕ) → q < c.n → T (before c q e g))
unfolding rule17 everywhere
rule17-says c = (λ t. simp (all-iff, and-iff, imp-iff) at t, λ h. simp (all-iff, and-iff, imp-iff) h)
