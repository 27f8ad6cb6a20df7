-- The tally of a log is what its list of verdicts gives, and its counts add up.
-- Assumes nothing.
use Prim.Native.Nat.{ℕ, zero, suc, ◌+◌, ◌-◌, ◌≤◌, ◌<◌}
use native.Mathlib.Omega.{arith}
use native.Mathlib.Nat.{zero-add}
use native.Mathlib.Decide.{dec_lt, ℕ_discrete}
use mathlib.Core.Path.{◌≡◌, refl, sym, ap, ◌∙◌, subst}
use mathlib.Core.Bool.{Bool, true, false, cond}
use mathlib.Core.List.{List, [], ◌∷◌, ◌++◌, append_assoc, append-nil}
use lib.Dec.{eqb, leb, ltb}
use lib.ListN.{length, get_or, set, take, drop, length-append, length-set}
use lib.Seq.{ext_get_or, get_or-set_same, get_or-set_other}
use borrow.Author.Tests.{eqb-true, leb-true, lt-ltb, le-ltb, le-leb, lt-leb, eq-eqb, ne_eqb}
use Rattle.finite.specs.Tests.{tick}
use Rattle.finite.specs.Lists.{table, every}
use Rattle.finite.proofs.Tests.{and_l, and_r, and_i, or_e, tick-le}
use Rattle.finite.proofs.Lists.{one_longer, table_at, table-length, table_same}
use Rattle.number.specs.Reader.{Out, stop, next}
use Rattle.model.specs.Case.{Case}
use Rattle.model.specs.Rules.{first_rule, last_rule, Model, PPCs, or_else, rule11, rule12, rule13, rule14, rule15, rule16, rule17, rule18, verdict}
use Rattle.model.specs.Record.{read}
use Rattle.model.specs.Limits.{between}
use Rattle.tally.specs.declared.Tally.{Tally}
use Rattle.tally.specs.Tally.{most_count, rules, is_verdict, occurs, tally_of, zeros, count_of, grown, may_grow}
use Rattle.log_model.specs.Log.{Ending, count_full, Log, by_reading, log_by, log_from, tallied, summary}
use Rattle.log_model.specs.Claim.{sum, Balanced, counted}

-- ---- verdicts are 0 and 11 to 18

lower : (b : Bool) (x y : ℕ) → is_verdict x ≡ true → is_verdict y ≡ true → is_verdict (or_else b x y) ≡ true
lower true x y p q = q
lower false x y p q = p

pub verdict_good : (c : Case) (w : Model) → is_verdict (verdict c w) ≡ true
unfolding verdict
verdict_good c w =
    lower (rule11 c) 11 _ refl (lower (rule12 c) 12 _ refl (lower (rule13 c) 13 _ refl (lower (rule14 c) 14 _ refl
    (lower (rule15 c w) 15 _ refl (lower (rule16 c w) 16 _ refl (lower (rule17 c) 17 _ refl (lower (rule18 c) 18 0 refl refl)))))))

good_by : (j place : ℕ) (s : List ℕ) → every is_verdict (log_by j place s).verdicts ≡ true
unfolding log_by every
good_by zero place s = refl
good_by (suc j) place [] = refl
good_by (suc j) place (b ∷ s) = go (λ i. good_by j (place + i) (drop i (b ∷ s))) (read (b ∷ s))
  where
    go : ((i : ℕ) → every is_verdict (log_by j (place + i) (drop i (b ∷ s))).verdicts ≡ true) → (o : Out Case)
        → every is_verdict (by_reading place (λ i. log_by j (place + i) (drop i (b ∷ s))) o).verdicts ≡ true
    go ih (stop x p) = refl
    go ih (next c i) = and_i (is_verdict (verdict c PPCs)) _ (verdict_good c PPCs) (ih i)

pub verdicts_good : (place : ℕ) (s : List ℕ) → every is_verdict (log_from place s).verdicts ≡ true
unfolding log_from
verdicts_good place s = good_by (length s) place s

-- a verdict is 0 or one of the rules' numbers
data Verdict : ℕ → Type 0 where
  accepts : Verdict 0
  breaks : {v : ℕ} → first_rule ≤ suc v → suc v - first_rule < rules → Verdict (suc v)

verdict_of : (v : ℕ) → is_verdict v ≡ true → Verdict v
verdict_of zero h = accepts
verdict_of (suc v) h = or_e (eqb (suc v) 0) (between first_rule last_rule (suc v)) (λ z. absurd (omega (arith, eqb-true (suc v) 0 z))) rule h
  where
    rule : between first_rule last_rule (suc v) ≡ true → Verdict (suc v)
    rule b =
        let lo : first_rule ≤ suc v = leb-true first_rule (suc v) (and_l (leb first_rule (suc v)) (leb (suc v) last_rule) b) in
        let hi : suc v ≤ last_rule = leb-true (suc v) last_rule (and_r (leb first_rule (suc v)) (leb (suc v) last_rule) b) in
        breaks lo (omega arith)

-- ---- accepted and rule counts add up to the records

sum-set : (l : List ℕ) (i : ℕ) → i < length l → sum (set l i (get_or l i 0 + 1)) ≡ sum l + 1
sum-set [] i h = absurd (omega arith)
sum-set (x ∷ l) zero h = omega arith
sum-set (x ∷ l) (suc i) h = let ih = sum-set l i (omega arith) in omega arith

pub balanced-grown : (t : Tally) (v : ℕ) → is_verdict v ≡ true → Balanced t → Balanced (grown t v)
unfolding grown
balanced-grown t v h B = go v (verdict_of v h)
  where
    go : (v : ℕ) → Verdict v → Balanced (grown t v)
    go zero accepts = record { adds = omega (arith, B.adds); each = B.each }
    go (suc v) (breaks lo hi) = record {
      adds = let s = sum-set t.broken (suc v - first_rule) (omega (arith, B.each)) in omega (arith, B.adds);
      each = length-set t.broken (suc v - first_rule) _ ∙ B.each;
    }

balanced-tallied : (t : Tally) (vs : List ℕ) (e : Ending) → every is_verdict vs ≡ true → Balanced t → Balanced (tallied t vs e).tally
unfolding tallied every
balanced-tallied t [] e h B = B
balanced-tallied t (v ∷ vs) e h B =
    go (may_grow t v) (balanced-tallied (grown t v) vs e (and_r (is_verdict v) (every is_verdict vs) h) (balanced-grown t v (and_l (is_verdict v) (every is_verdict vs) h) B))
  where
    go : (y : Bool) → Balanced (tallied (grown t v) vs e).tally → Balanced (cond y (tallied (grown t v) vs e) (record { tally = t; ending = count_full })).tally
    go true C = C
    go false C = B

-- 02 (iii): "accepted and rule counts must add up to the records it took in": of a log whose tally begins so
pub adds_up : (t : Tally) (s : List ℕ) → Balanced t → Balanced (summary t s).tally
unfolding summary
adds_up t s B = balanced-tallied t (log_from 0 s).verdicts (log_from 0 s).ending (verdicts_good 0 s) B

-- and at zeros it does
pub zeros-balanced : Balanced zeros
zeros-balanced = record { adds = refl; each = refl }

-- ---- the tally of the list of verdicts

occurs-append : (u : ℕ) (us vs : List ℕ) → occurs u (us ++ vs) ≡ occurs u us + occurs u vs
unfolding occurs
occurs-append u [] vs = omega arith
occurs-append u (x ∷ us) vs = omega (arith, occurs-append u us vs)

occurs_most : (u : ℕ) (us : List ℕ) → occurs u us ≤ length us
unfolding occurs
occurs_most u [] = omega arith
occurs_most u (x ∷ us) = omega (arith, tick-le (eqb x u), occurs_most u us)

occurs-last : (u : ℕ) (us : List ℕ) (v : ℕ) → occurs u (us ++ (v ∷ [])) ≡ occurs u us + tick (eqb v u)
unfolding occurs
occurs-last u us v = occurs-append u us (v ∷ []) ∙ (omega arith)

-- one entry of a table is one more
table-set : (i j : ℕ) (f g : ℕ → ℕ) (k : ℕ) → k < j → ((x : ℕ) → (x ≡ k → ⊥) → f (i + x) ≡ g (i + x)) → f (i + k) + 1 ≡ g (i + k)
    → set (table i j f) k (get_or (table i j f) k 0 + 1) ≡ table i j g
table-set i j f g k l other here =
    ext_get_or 0 (set (table i j f) k (get_or (table i j f) k 0 + 1)) (table i j g)
    (length-set (table i j f) k _ ∙ table-length i j f ∙ sym (table-length i j g)) at_each
  where
    at_each : (x : ℕ) → x < length (set (table i j f) k (get_or (table i j f) k 0 + 1)) → get_or (set (table i j f) k (get_or (table i j f) k 0 + 1)) x 0 ≡ get_or (table i j g) x 0
    at_each x h =
        let inside : x < j = subst (λ (z : ℕ). x < z) (length-set (table i j f) k _ ∙ table-length i j f) h in
        one inside (ℕ_discrete x k)
      where
        one : x < j → Dec (x ≡ k) → get_or (set (table i j f) k (get_or (table i j f) k 0 + 1)) x 0 ≡ get_or (table i j g) x 0
        one inside (yes e) =
            rw e (get_or-set_same (table i j f) k (get_or (table i j f) k 0 + 1) 0 (rw (table-length i j f) l)
            ∙ ap (λ (z : ℕ). z + 1) (table_at i j f k 0 l) ∙ here ∙ sym (table_at i j g k 0 l))
        one inside (no n) =
            get_or-set_other (table i j f) k x (get_or (table i j f) k 0 + 1) 0 n ∙ table_at i j f x 0 inside ∙ other x n ∙ sym (table_at i j g x 0 inside)

last_other : (u : ℕ) (us : List ℕ) (v : ℕ) → (v ≡ u → ⊥) → occurs u us ≡ occurs u (us ++ (v ∷ []))
last_other u us v n = sym (occurs-last u us v ∙ rw (ne_eqb v u n) (omega arith))

last_here : (u : ℕ) (us : List ℕ) (v : ℕ) → v ≡ u → occurs u us + 1 ≡ occurs u (us ++ (v ∷ []))
last_here u us v e = sym (occurs-last u us v ∙ rw (eq-eqb v u e))

grown-last : (us : List ℕ) (v : ℕ) → Verdict v → grown (tally_of us) v ≡ tally_of (us ++ (v ∷ []))
unfolding grown tally_of
grown-last us zero accepts =
    let size : length us + 1 ≡ length (us ++ (0 ∷ [])) = sym (length-append us (0 ∷ [])) in
    let same : table first_rule rules (λ u. occurs u us) ≡ table first_rule rules (λ u. occurs u (us ++ (0 ∷ []))) = table_same first_rule rules _ _ (λ y a b. last_other y us 0 (λ z. omega arith)) in
    λ i. record { records = size i; accepted = last_here 0 us 0 refl i; broken = same i }
grown-last us (suc v) (breaks lo hi) =
    let size : length us + 1 ≡ length (us ++ (suc v ∷ [])) = sym (length-append us (suc v ∷ [])) in
    let e : first_rule + (suc v - first_rule) ≡ suc v = omega arith in
    let put = table-set first_rule rules (λ u. occurs u us) (λ u. occurs u (us ++ (suc v ∷ []))) (suc v - first_rule) hi
    (λ x n. last_other (first_rule + x) us (suc v) (λ z. n (omega arith)))
    (last_here (first_rule + (suc v - first_rule)) us (suc v) (sym e)) in
    λ i. record { records = size i; accepted = last_other 0 us (suc v) (λ z. omega arith) i; broken = put i }

count_most : (us : List ℕ) (v : ℕ) → Verdict v → count_of (tally_of us) v ≤ length us
unfolding tally_of
count_most us zero accepts = occurs_most 0 us
count_most us (suc v) (breaks lo hi) = rw (table_at first_rule rules (λ u. occurs u us) (suc v - first_rule) 0 hi) (occurs_most (first_rule + (suc v - first_rule)) us)

may-grow : (us : List ℕ) (v : ℕ) → Verdict v → length us < most_count → may_grow (tally_of us) v ≡ true
unfolding may_grow tally_of
may-grow us v W l =
    and_i (ltb (length us) most_count) (ltb (count_of (tally_of us) v) most_count) (lt-ltb (length us) most_count l)
    (lt-ltb (count_of (tally_of us) v) most_count (omega (arith, count_most us v W)))

may_not : (us : List ℕ) (v : ℕ) → most_count ≤ length us → may_grow (tally_of us) v ≡ false
unfolding may_grow tally_of
may_not us v l = rw (le-ltb (length us) most_count l)

-- all the verdicts, or as many as can be counted
tallied_of : (us vs : List ℕ) (e : Ending) → every is_verdict vs ≡ true → length us ≤ most_count
    → tallied (tally_of us) vs e
    ≡ cond (leb (length us + length vs) most_count) (record { tally = tally_of (us ++ vs); ending = e }) (record { tally = tally_of (us ++ take (most_count - length us) vs); ending = count_full })
unfolding tallied every
tallied_of us [] e h l = rw (le-leb (length us + 0) most_count (omega arith), append-nil us)
tallied_of us (v ∷ vs) e h l = go (dec_lt (length us) most_count)
    (tallied_of (us ++ (v ∷ [])) vs e (and_r (is_verdict v) (every is_verdict vs) h))
  where
    W : Verdict v
    W = verdict_of v (and_l (is_verdict v) (every is_verdict vs) h)

    size : length (us ++ (v ∷ [])) ≡ suc (length us)
    size = one_longer us v

    go : Dec (length us < most_count)
        → (length (us ++ (v ∷ [])) ≤ most_count → tallied (tally_of (us ++ (v ∷ []))) vs e
        ≡ cond (leb (length (us ++ (v ∷ [])) + length vs) most_count) (record { tally = tally_of (us ++ (v ∷ []) ++ vs); ending = e }) (record { tally = tally_of (us ++ (v ∷ []) ++ take (most_count - length (us ++ (v ∷ []))) vs); ending = count_full }))
        → cond (may_grow (tally_of us) v) (tallied (grown (tally_of us) v) vs e) (record { tally = tally_of us; ending = count_full })
        ≡ cond (leb (length us + suc (length vs)) most_count) (record { tally = tally_of (us ++ (v ∷ vs)); ending = e }) (record { tally = tally_of (us ++ take (most_count - length us) (v ∷ vs)); ending = count_full })
    go (yes x) ih =
        let sums : suc (length us) + length vs ≡ length us + suc (length vs) = omega arith in
        let left : most_count - length us ≡ suc (most_count - suc (length us)) = omega arith in
        rw (may-grow us v W x, grown-last us v W, left) (ih (omega (arith, size)) ∙ rw (size, sums, append_assoc us (v ∷ []) vs, append_assoc us (v ∷ []) (take (most_count - suc (length us)) vs)))
    go (no x) ih =
        let none : most_count - length us ≡ 0 = omega arith in
        let over : leb (length us + suc (length vs)) most_count ≡ false = lt-leb (length us + suc (length vs)) most_count (omega arith) in
        rw (may_not us v (omega arith), over, none, append-nil us)

-- 02 (iii): "Begun at zeros, the tally must equal what the whole log's list of verdicts gives"
pub tally_is : (s : List ℕ) → summary zeros s ≡ counted (log_from 0 s)
unfolding summary
tally_is s =
    let start : tally_of [] ≡ zeros = unfold tally_of table occurs in refl in
    rw (← start) (tallied_of [] (log_from 0 s).verdicts (log_from 0 s).ending (verdicts_good 0 s) (omega arith) ∙ shorter (log_from 0 s))
  where
    shorter : (l : Log)
        → cond (leb (0 + length l.verdicts) most_count) (record { tally = tally_of l.verdicts; ending = l.ending }) (record { tally = tally_of (take (most_count - 0) l.verdicts); ending = count_full })
        ≡ counted l
    shorter l = rw zero-add
