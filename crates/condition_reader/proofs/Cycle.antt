-- Laws of the readers that call each other: how the answer of one follows from the answers of those it calls.
-- Assumes nothing.
use Prim.Native.Nat.{ℕ, zero, suc, ◌+◌, ◌*◌, ◌-◌, ◌≤◌, ◌<◌}
use native.Mathlib.Nat.{not-suc-le-zero}
use native.Mathlib.Omega.{arith}
use mathlib.Core.Path.{◌≡◌, refl, sym, ap, ◌∙◌, subst}
use mathlib.Core.Bool.{Bool, true, false, ◌&&◌, ◌||◌, not}
use mathlib.Core.List.{List}
use lib.ListN.{length}
use borrow.Author.Tests.{eq-eqb, ne_eqb, le-ltb, lt-ltb}
use Rattle.std.specs.Result.{IsErr, IsErrAnd}
use Rattle.std.proofs.Common.{Result}
use Rattle.condition_reader.specs.declared.TextRefusal.{TextRefusal}
use Rattle.number.specs.Reader.{Out, stop, next, Reader, give, onward}
use Rattle.condition_model.specs.Grammar.{Condition, Condition.a_term, Condition.or_else, Term.a_factor, Term.and_also, Factor, Factor.bracketed, Factor.negation, most_text, most_depth, opening, closing, slash, backslash, tilde}
use Rattle.condition_model.specs.Reader.{is, skipped, sign, choose, if_byte, equation_at, nested, behind_sign, closed, negated, condition_by, term_by, factor_by, end, whole_by, enough, read_text}
use Rattle.condition_model.specs.Truth.{truth_c, truth_t, truth_f}
use Rattle.condition_model.proofs.Progress.{Within, skip-within, condition-within, term_within, factor_within}
use Rattle.condition_reader.specs.Told.{refused, told, map_out, value_in, held_ranges, sign_at, closed_by, Phrase, Phrase.disjunction, Phrase.conjunction, Phrase.single, truth_by, rank, ReadAs}
use Rattle.condition_reader.proofs.Places.{stands_inside}
use Rattle.condition_reader.proofs.Passing.{told-err}
use Rattle.condition_reader.proofs.Signs.{sign_at_within}

-- fuel that is enough is a successor
above : (P : ℕ → Type 0) (n : ℕ) → ((g : ℕ) → n ≤ g → P (suc g)) → (f : ℕ) → n + 1 ≤ f → P f
above P n h zero l = absurd (not-suc-le-zero {n = n} (omega arith))
above P n h (suc g) l = h g (omega arith)

-- ---- operands joined by a sign

-- behind an operand whose truth is b: the sign's next operand, or the end
abbrev after : (op : Bool → Bool → Bool) → (rest : ℕ → Out Bool) → Bool → (more : Bool) → ℕ → Out Bool
after op rest b true q = map_out (op b) (rest q)
after op rest b false q = next b q

abbrev joined_truth : (op : Bool → Bool → Bool) (x y : ℕ) (s : List ℕ) (rest : ℕ → Out Bool) → Out Bool → Out Bool
joined_truth op x y s rest o = onward (λ b p. onward (after op rest b) (sign_at x y s p)) o

module _ {A B : Type 0} (x y : ℕ) (one : A → B) (more : A → B → B) (op : Bool → Bool → Bool) (truth_a : A → Bool) (truth_b : B → Bool)
    (alone : (a : A) → truth_b (one a) ≡ truth_a a) (along : (a : A) (b : B) → truth_b (more a b) ≡ op (truth_a a) (truth_b b)) (rest : Reader B) (s : List ℕ) where
  abbrev truths : ℕ → Out Bool
  truths q = map_out truth_b (rest s q)

  rest-truth : (a : A) (o : Out B) → map_out truth_b (onward (λ b p. next (more a b) p) o) ≡ map_out (op (truth_a a)) (map_out truth_b o)
  rest-truth a (stop x p) = refl
  rest-truth a (next b p) = ap (λ (t : Bool). next t p) (along a b)

  behind-truth : (a : A) (o : Out (Unit {0}))
      → map_out truth_b (onward (λ _ q. onward (λ b p. next (more a b) p) (rest s (skipped s q))) o) ≡ onward (after op truths (truth_a a)) (onward (λ _ q. next true (skipped s q)) o)
  behind-truth a (stop x p) = refl
  behind-truth a (next u q) = rest-truth a (rest s (skipped s q))

  sign-truth : (a : A) (p : ℕ) → map_out truth_b (if_byte x (behind_sign y (more a) rest) (give (one a)) s p) ≡ onward (after op truths (truth_a a)) (sign_at x y s p)
  unfolding sign_at
  sign-truth a p = go (is x s p)
    where
      go : (t : Bool) → map_out truth_b (choose t (behind_sign y (more a) rest) (give (one a)) s p)
          ≡ onward (after op truths (truth_a a)) (choose t (λ s p. onward (λ _ q. next true (skipped s q)) (sign y s (p + 1))) (give false) s p)
      go true = behind-truth a (sign y s (p + 1))
      go false = ap (λ (t : Bool). next t p) (alone a)

  joined-truth : (o : Out A) → map_out truth_b (onward (λ a p. if_byte x (behind_sign y (more a) rest) (give (one a)) s p) o) ≡ joined_truth op x y s truths (map_out truth_a o)
  joined-truth (stop x p) = refl
  joined-truth (next a p) = sign-truth a p

-- the operands of each kind that has some, the bytes of its sign, and what joins their truths
abbrev Joins : Phrase → Type 0
Joins disjunction = Unit {0}
Joins conjunction = Unit {0}
Joins single = ⊥

abbrev operands : Phrase → Phrase
operands disjunction = conjunction
operands conjunction = single
operands single = single

abbrev first_byte : Phrase → ℕ
first_byte disjunction = backslash
first_byte conjunction = slash
first_byte single = slash

abbrev second-byte : Phrase → ℕ
second-byte disjunction = slash
second-byte conjunction = backslash
second-byte single = backslash

ranks : (k : Phrase) → Joins k → rank k ≡ rank (operands k) + 1
ranks disjunction j = refl
ranks conjunction j = refl
ranks single j = absurd j

second-small : (k : Phrase) → second-byte k < 256
second-small disjunction = omega arith
second-small conjunction = omega arith
second-small single = omega arith

abbrev join : Phrase → Bool → Bool → Bool
join disjunction = ◌||◌
join conjunction = ◌&&◌
join single = ◌&&◌

module _ (finals kinds values s : List ℕ) (n : ℕ) where
  -- one turn of fuel
  turn : (k : Phrase) → Joins k → (g at : ℕ) → truth_by k finals kinds values (suc g) n s at
      ≡ joined_truth (join k) (first_byte k) (second-byte k) s (λ q. truth_by k finals kinds values g n s q) (truth_by (operands k) finals kinds values g n s at)
  unfolding condition_by truth_c
  turn disjunction j g at =
      joined-truth backslash slash a_term or_else ◌||◌ (truth_t (value_in finals) (value_in values)) (truth_c (value_in finals) (value_in values)) (λ a. refl) (λ a b. refl)
      (λ s at. condition_by g (held_ranges finals kinds) n s at) s (term_by g (held_ranges finals kinds) n s at)
  turn conjunction j g at =
      joined-truth slash backslash a_factor and_also ◌&&◌ (truth_f (value_in finals) (value_in values)) (truth_t (value_in finals) (value_in values)) (λ a. refl) (λ a b. refl)
      (λ s at. term_by g (held_ranges finals kinds) n s at) s (factor_by g (held_ranges finals kinds) n s at)
  turn single j g at = absurd j

  -- a truth that was read ends within the text
  mapped_within : {A : Type 0} (truth : A → Bool) (lo : ℕ) (o : Out A) → Within lo (length s) o → Within lo (length s) (map_out truth o)
  mapped_within truth lo (stop x p) h = tt
  mapped_within truth lo (next a p) h = h

  truth-within : (k : Phrase) (f at : ℕ) → Within (at + 1) (length s) (truth_by k finals kinds values f n s at)
  truth-within disjunction f at = mapped_within (truth_c (value_in finals) (value_in values)) (at + 1) (condition_by f (held_ranges finals kinds) n s at) (condition-within s (held_ranges finals kinds) f n at)
  truth-within conjunction f at = mapped_within (truth_t (value_in finals) (value_in values)) (at + 1) (term_by f (held_ranges finals kinds) n s at) (term_within s (held_ranges finals kinds) f n at)
  truth-within single f at = mapped_within (truth_f (value_in finals) (value_in values)) (at + 1) (factor_by f (held_ranges finals kinds) n s at) (factor_within s (held_ranges finals kinds) f n at)

  pub read_within : (k : Phrase) (at : ℕ) (r : Out Bool) → ReadAs k finals kinds values n s at r → Within (at + 1) (length s) r
  read_within k at r h = subst (λ (o : Out Bool). Within (at + 1) (length s) o) (sym (h.same (3 * (length s - at) + rank k) (omega arith))) (truth-within k (3 * (length s - at) + rank k) at)

-- behind an operand and a sign
module _ (k : Phrase) (finals kinds values s : List ℕ) (n at : ℕ) (b : Bool) (p : ℕ) (h : ReadAs k finals kinds values n s at (next b p))
    (x y : ℕ) (l : y < 256) (q : ℕ) (z : next true q ≡ sign_at x y s p) where
  join_on : (at < q) × (q ≤ length s)
  join_on =
      let f : Within (at + 1) (length s) (next b p) = read_within finals kinds values s n k at (next b p) h in
      let i : Within p (length s) (next true q) = subst (λ (o : Out Bool). Within p (length s) o) (sym z) (sign_at_within s x y p l f.1) in
      (omega (arith, f.0, i.0), i.1)

  -- the measure of the next call
  pub join_falls : (m t : ℕ) → 3 * (length s - at) + m ≡ t → 3 * (length s - q) + m < t
  join_falls m t d = omega (arith, join_on)

module _ (k : Phrase) (j : Joins k) (finals kinds values s : List ℕ) (n at : ℕ) (first : Out Bool) (h : ReadAs (operands k) finals kinds values n s at first) where
  step : (r : Out Bool)
      → ((g : ℕ) → 3 * (length s - at) + rank (operands k) ≤ g
      → r ≡ joined_truth (join k) (first_byte k) (second-byte k) s (λ q. truth_by k finals kinds values g n s q) first)
      → ReadAs k finals kinds values n s at r
  step r d = record {
    same = λ f l. above (λ f. r ≡ truth_by k finals kinds values f n s at) (3 * (length s - at) + rank (operands k))
        (λ g l. d g l ∙ ap (joined_truth (join k) (first_byte k) (second-byte k) s (λ q. truth_by k finals kinds values g n s q)) (h.same g l) ∙ sym (turn finals kinds values s n k j g at)) f
        (omega (arith, ranks k j));
  }

  pub join_refused : (x p : ℕ) → first ≡ stop x p → ReadAs k finals kinds values n s at (stop x p)
  join_refused x p e = step (stop x p) (λ g l. rw e)

  module _ (b : Bool) (p : ℕ) (e : first ≡ next b p) where
    pub join_alone : next false p ≡ sign_at (first_byte k) (second-byte k) s p → ReadAs k finals kinds values n s at (next b p)
    join_alone z = step (next b p) (λ g l. rw (e, ← z))

    pub join_broken : (x q : ℕ) → stop x q ≡ sign_at (first_byte k) (second-byte k) s p → ReadAs k finals kinds values n s at (stop x q)
    join_broken x q z = step (stop x q) (λ g l. rw (e, ← z))

    pub join_more : (q : ℕ) (rest o : Out Bool) → next true q ≡ sign_at (first_byte k) (second-byte k) s p → ReadAs k finals kinds values n s q rest → o ≡ map_out (join k b) rest
        → ReadAs k finals kinds values n s at o
    join_more q rest o z r c =
        let w = join_on (operands k) finals kinds values s n at b p (subst (λ (o : Out Bool). ReadAs (operands k) finals kinds values n s at o) e h) (first_byte k) (second-byte k) (second-small k) q z in
        step o (λ g l. c ∙ rw (e, ← z) (ap (map_out (join k b)) (r.same g (omega (arith, w, ranks k j)))))

-- what `?` passes on
pub passed_on : (k : Phrase) (finals kinds values s : List ℕ) (n at : ℕ) (r : Result (Bool × ℕ) TextRefusal) (e : TextRefusal) → IsErr r × IsErrAnd r (λ x. x ≡ e)
    → ReadAs k finals kinds values n s at (refused e) → ReadAs k finals kinds values n s at (told r)
passed_on k finals kinds values s n at r e h g = subst (λ (o : Out Bool). ReadAs k finals kinds values n s at o) (sym (told-err r e h)) g

-- ---- a factor

nested_down : {A : Type 0} (n m : ℕ) (inner : ℕ → Reader A) (s : List ℕ) (at : ℕ) → n ≡ suc m → nested n inner s at ≡ inner m s (skipped s (at + 1))
nested_down n m inner s at e = rw e

negated-truth : (finals loaded : ℕ → ℕ) (o : Out Factor) → map_out not (map_out (truth_f finals loaded) o) ≡ map_out (truth_f finals loaded) (onward (λ f p. next (negation f) p) o)
unfolding truth_f
negated-truth finals loaded (stop x p) = refl
negated-truth finals loaded (next f p) = refl

closed-truth : (finals loaded : ℕ → ℕ) (s : List ℕ) (o : Out Condition)
    → closed_by s (map_out (truth_c finals loaded) o) ≡ map_out (truth_f finals loaded) (onward (λ c p. onward (λ _ p. next (bracketed c) (skipped s p)) (sign closing s p)) o)
unfolding truth_f closed_by
closed-truth finals loaded s (stop x p) = refl
closed-truth finals loaded s (next c p) = go (sign closing s p)
  where
    go : (o : Out (Unit {0})) → onward (λ _ p. next (truth_c finals loaded c) (skipped s p)) o ≡ map_out (truth_f finals loaded) (onward (λ _ p. next (bracketed c) (skipped s p)) o)
    go (stop x p) = refl
    go (next u p) = refl

module _ (finals kinds values s : List ℕ) (n at : ℕ) where
  factor_step : (r : Out Bool)
      → ((g : ℕ) → 3 * (length s - at) ≤ g → r ≡ map_out (truth_f (value_in finals) (value_in values))
      (if_byte tilde (nested n (λ i. negated (λ s at. factor_by g (held_ranges finals kinds) i s at)))
      (if_byte opening (nested n (λ i. closed (λ s at. condition_by g (held_ranges finals kinds) i s at))) (equation_at (held_ranges finals kinds))) s at))
      → ReadAs single finals kinds values n s at r
  unfolding condition_by
  factor_step r h = record { same = λ f l. above (λ f. r ≡ truth_by single finals kinds values f n s at) (3 * (length s - at)) h f l }

  pub factor_equation : (o : Out Bool) → is tilde s at ≡ false → is opening s at ≡ false → o ≡ map_out (truth_f (value_in finals) (value_in values)) (equation_at (held_ranges finals kinds) s at)
      → ReadAs single finals kinds values n s at o
  factor_equation o x y c = factor_step o (λ g l. c ∙ rw (x, y))

  pub factor_deep_not : is tilde s at ≡ true → n ≡ 0 → ReadAs single finals kinds values n s at (stop 22 at)
  factor_deep_not x d = factor_step (stop 22 at) (λ g l. rw (x, d))

  pub factor_deep_bracket : is tilde s at ≡ false → is opening s at ≡ true → n ≡ 0 → ReadAs single finals kinds values n s at (stop 22 at)
  factor_deep_bracket x y d = factor_step (stop 22 at) (λ g l. rw (x, y, d))

  module _ (q : ℕ) (v : q ≡ skipped s (at + 1)) where
    on_byte : (x : ℕ) → x < 256 → is x s at ≡ true → (at < q) × (q ≤ length s)
    on_byte x l h = omega (arith, skip-within s (at + 1) (at + 1) (omega arith) (omega (arith, stands_inside s at x l h)))

    -- the measure of the next call
    pub factor_falls : (x m t : ℕ) → is x s at ≡ true → x < 256 → m ≤ 2 → 3 * (length s - at) + 0 ≡ t → 3 * (length s - q) + m < t
    factor_falls x m t h l i d = omega (arith, on_byte x l h)

    module _ (inner o : Out Bool) (d : n ≡ 0 → ⊥) where
      pub factor_not : is tilde s at ≡ true → ReadAs single finals kinds values (n - 1) s q inner → o ≡ map_out not inner → ReadAs single finals kinds values n s at o
      factor_not x r c =
          let m : n ≡ suc (n - 1) = omega arith in
          factor_step o (λ g l. c ∙ ap (map_out not) (r.same g (omega (arith, on_byte tilde (omega arith) x)))
          ∙ negated-truth (value_in finals) (value_in values) (factor_by g (held_ranges finals kinds) (n - 1) s q)
          ∙ rw (x, nested_down n (n - 1) (λ i. negated (λ s at. factor_by g (held_ranges finals kinds) i s at)) s at m, ← v))

      pub factor_bracket : is tilde s at ≡ false → is opening s at ≡ true → ReadAs disjunction finals kinds values (n - 1) s q inner → o ≡ closed_by s inner → ReadAs single finals kinds values n s at o
      factor_bracket x y r c =
          let m : n ≡ suc (n - 1) = omega arith in
          factor_step o (λ g l. c ∙ ap (closed_by s) (r.same g (omega (arith, on_byte opening (omega arith) y)))
          ∙ closed-truth (value_in finals) (value_in values) s (condition_by g (held_ranges finals kinds) (n - 1) s q)
          ∙ rw (x, y, nested_down n (n - 1) (λ i. closed (λ s at. condition_by g (held_ranges finals kinds) i s at)) s at m, ← v))

-- what was read in a bracket, and its end
pub closed_refused : (s : List ℕ) (x p : ℕ) → stop x p ≡ closed_by s (stop x p)
unfolding closed_by
closed_refused s x p = refl

module _ (s : List ℕ) (t : Bool) (p : ℕ) where
  pub closed_open : (x q : ℕ) → stop x q ≡ sign closing s p → stop x q ≡ closed_by s (next t p)
  unfolding closed_by
  closed_open x q z = rw (← z)

  pub closed_shut : (e q : ℕ) → next tt e ≡ sign closing s p → q ≡ skipped s e → next t q ≡ closed_by s (next t p)
  unfolding closed_by
  closed_shut e q z l = rw (← z, l)

-- ---- a whole text

ended-truth : (truth : Condition → Bool) (s : List ℕ) (o : Out Condition)
    → map_out truth (onward (λ c p. onward (λ _ p. next c p) (end s p)) o) ≡ onward (λ b p. onward (λ _ p. next b p) (end s p)) (map_out truth o)
ended-truth truth s (stop x p) = refl
ended-truth truth s (next c p) = go (end s p)
  where
    go : (o : Out (Unit {0})) → map_out truth (onward (λ _ p. next c p) o) ≡ onward (λ _ p. next (truth c) p) o
    go (stop x p) = refl
    go (next u p) = refl

module _ (finals kinds values s : List ℕ) where
  abbrev Given : Out Bool → Type 0
  Given o = o ≡ map_out (truth_c (value_in finals) (value_in values)) (read_text (held_ranges finals kinds) s)

  pub text-long : most_text < length s → Given (stop 3 most_text)
  unfolding read_text
  text-long h = rw (lt-ltb most_text (length s) h)

  module _ (at : ℕ) (r : Out Bool) (h : length s ≤ most_text) (a : at ≡ skipped s 0) (k : ReadAs disjunction finals kinds values most_depth s at r) where
    text_read : Given (onward (λ b p. onward (λ _ p. next b p) (end s p)) r)
    unfolding read_text whole_by
    text_read = rw (le-ltb most_text (length s) h, k.same enough (omega arith), ← a) (sym (ended-truth (truth_c (value_in finals) (value_in values)) s (condition_by enough (held_ranges finals kinds) most_depth s at)))

    pub text-refused : (x p : ℕ) → r ≡ stop x p → Given (stop x p)
    text-refused x p e = rw e at text_read

    pub text-whole : (b : Bool) (p : ℕ) → r ≡ next b p → p ≡ length s → Given (next b p)
    unfolding end
    text-whole b p e z = rw (e, eq-eqb p (length s) z) at text_read

    pub text-more : (b : Bool) (p : ℕ) → r ≡ next b p → (p ≡ length s → ⊥) → Given (stop 21 p)
    unfolding end
    text-more b p e z = rw (e, ne_eqb p (length s) z) at text_read
