-- The turns of reading the steps.
-- Assumes nothing.
use Prim.Native.Nat.{ℕ, ◌+◌, ◌≤◌, ◌<◌}
use mathlib.Core.Path.{◌≡◌, refl, sym, ap, ◌∙◌}
use mathlib.Core.List.{List, [], ◌∷◌, ◌++◌}
use native.Mathlib.Omega.{arith}
use lib.Dec.{eqb}
use lib.ListN.{length, set, length-append}
use mir.Syntax.{w64}
use mir.Val.{Fits}
use Rattle.finite.specs.Tests.{tick}
use Rattle.number.specs.Reader.{stop, next, turns}
use Rattle.number.proofs.Turns.{turns-long}
use Rattle.storage_model.specs.Limits.{most_steps}
use Rattle.storage_model.specs.Trace.{Step, accept_write, accept_barrier, propagate_write, propagate_barrier, commit, respond, acknowledge, writes_of, barriers_of, writes_in, barriers_in}
use Rattle.storage_model.specs.Layout.{step, next_step}
use Rattle.case.proofs.Pad.{pad-next}
use Rattle.reader.specs.Answers.{Done}
use Rattle.reader.proofs.Filling.{Filling, filling_begun, filling_all, filling_stop, filling_next, done-map}
use Rattle.trace_reader.specs.Held.{kind_of, first_of, second_of, value_of}
use Rattle.trace_reader.specs.Kinds.{number_of}
use Rattle.trace_reader.specs.Fields.{kind_in, model_step, Exact, Steps}
use Rattle.trace_reader.specs.declared.Step as code

-- how many writes and barriers one more step gives
writes_by_kind : (x : Step) → writes_of x ≡ tick (eqb (kind_of x) 1)
writes_by_kind (accept_write t a v) = refl
writes_by_kind (accept_barrier t c) = refl
writes_by_kind (propagate_write w t) = refl
writes_by_kind (propagate_barrier b t) = refl
writes_by_kind (commit x y) = refl
writes_by_kind (respond t a v) = refl
writes_by_kind (acknowledge b) = refl

barriers_by_kind : (x : Step) → barriers_of x ≡ tick (eqb (kind_of x) 2)
barriers_by_kind (accept_write t a v) = refl
barriers_by_kind (accept_barrier t c) = refl
barriers_by_kind (propagate_write w t) = refl
barriers_by_kind (propagate_barrier b t) = refl
barriers_by_kind (commit x y) = refl
barriers_by_kind (respond t a v) = refl
barriers_by_kind (acknowledge b) = refl

writes_more : (xs : List Step) (x : Step) → writes_in (xs ++ (x ∷ [])) ≡ writes_in xs + tick (eqb (kind_of x) 1)
unfolding writes_in
writes_more [] x = omega (arith, writes_by_kind x)
writes_more (y ∷ xs) x = omega (arith, writes_more xs x)

barriers-more : (xs : List Step) (x : Step) → barriers_in (xs ++ (x ∷ [])) ≡ barriers_in xs + tick (eqb (kind_of x) 2)
unfolding barriers_in
barriers-more [] x = omega (arith, barriers_by_kind x)
barriers-more (y ∷ xs) x = omega (arith, barriers-more xs x)

-- the number of its kind
kind_number : (x : Step) → number_of (kind_in x) ≡ kind_of x
kind_number (accept_write t a v) = refl
kind_number (accept_barrier t c) = refl
kind_number (propagate_write w t) = refl
kind_number (propagate_barrier b t) = refl
kind_number (commit x y) = refl
kind_number (respond t a v) = refl
kind_number (acknowledge b) = refl

-- those read stand in the arrays, and the counts are of their writes and barriers
pub record Listed (ks fs gs vs : List ℕ) (w b : ℕ) (xs : List Step) : Type 0 where
  pub steps : Steps ks fs gs vs xs
  pub writes : w ≡ writes_in xs
  pub barriers : b ≡ barriers_in xs
  pub writes-few : w ≤ length xs
  pub barriers-few : b ≤ length xs

-- one more step
module _ (ks fs gs vs : List ℕ) (w b i : ℕ) (xs : List Step) (v : code.Step) (k x y : ℕ) where
  abbrev a : Step
  a = model_step v

  listed_more : Listed ks fs gs vs w b xs → length xs ≡ i → i < most_steps → Exact v → k ≡ number_of v.kind
      → x ≡ tick (eqb (number_of v.kind) 1) → x ≤ 1 → y ≡ tick (eqb (number_of v.kind) 2) → y ≤ 1
      → Listed (set ks i k) (set fs i v.first) (set gs i v.second) (set vs i v.value) (w + x) (b + y) (xs ++ (a ∷ []))
  listed_more t c j h ek ex lx ey ly =
      let n : number_of v.kind ≡ kind_of a = ap (λ (u : code.Step). number_of u.kind) h ∙ kind_number a in
      let first : v.first ≡ first_of a = ap (λ (u : code.Step). u.first) h in
      let second : v.second ≡ second_of a = ap (λ (u : code.Step). u.second) h in
      let value : v.value ≡ value_of a = ap (λ (u : code.Step). u.value) h in
      record {
        steps = record {
          kind = ap (λ (q : ℕ). set ks i q) (ek ∙ n) ∙ ap (λ (l : List ℕ). set l i (kind_of a)) t.steps.kind ∙ pad-next kind_of most_steps xs a i c j;
          first = ap (λ (q : ℕ). set fs i q) first ∙ ap (λ (l : List ℕ). set l i (first_of a)) t.steps.first ∙ pad-next first_of most_steps xs a i c j;
          second = ap (λ (q : ℕ). set gs i q) second ∙ ap (λ (l : List ℕ). set l i (second_of a)) t.steps.second ∙ pad-next second_of most_steps xs a i c j;
          value = ap (λ (q : ℕ). set vs i q) value ∙ ap (λ (l : List ℕ). set l i (value_of a)) t.steps.value ∙ pad-next value_of most_steps xs a i c j;
        };
        writes = omega (arith, writes_more xs a, ex, ap (λ (q : ℕ). tick (eqb q 1)) n, t.writes);
        barriers = omega (arith, barriers-more xs a, ey, ap (λ (q : ℕ). tick (eqb q 2)) n, t.barriers);
        writes-few = simp length-append (omega (arith, t.writes-few));
        barriers-few = simp length-append (omega (arith, t.barriers-few));
      }

module _ (s : List ℕ) (at n m total : ℕ) where
  -- of all steps i are read
  abbrev pub StepsFilled : (ks fs gs vs : List ℕ) (place w b i : ℕ) → Type 0
  StepsFilled ks fs gs vs place w b i =
      Filling (Listed ks fs gs vs w b) (λ before. step n m (writes_in before) (barriers_in before)) (turns total (next_step n m) [] s at) s total place i

  module _ (ks fs gs vs : List ℕ) where
    pub begun : Steps ks fs gs vs [] → StepsFilled ks fs gs vs at 0 0 0
    unfolding writes_in barriers_in
    begun h =
        filling_begun (Listed ks fs gs vs 0 0) (λ before. step n m (writes_in before) (barriers_in before)) s total at
        (record { steps = h; writes = refl; barriers = refl; writes-few = omega arith; barriers-few = omega arith })

    module _ (p₀ w b i : ℕ) (h : StepsFilled ks fs gs vs p₀ w b i) where
      pub all_read : total ≤ i → Done (Steps ks fs gs vs) (turns total (next_step n m) [] s at) p₀
      all_read l =
          done-map (Listed ks fs gs vs w b) (Steps ks fs gs vs) (λ xs t. t.steps) (turns total (next_step n m) [] s at) p₀ (filling_all _ _ _ _ _ _ _ h l)

      pub writes_most : total ≤ most_steps → w ≤ most_steps
      writes_most k = omega (arith, h.stored.writes-few, h.count, h.few)

      pub barriers_most : total ≤ most_steps → b ≤ most_steps
      barriers_most k = omega (arith, h.stored.barriers-few, h.count, h.few)

      pub one-fits : total ≤ most_steps → (x : ℕ) → x ≤ 1 → Fits w64 (w + x)
      one-fits k x l = record { fits = omega (arith, writes_most k) }

      pub other_fits : total ≤ most_steps → (x : ℕ) → x ≤ 1 → Fits w64 (b + x)
      other_fits k x l = record { fits = omega (arith, barriers_most k) }

      module _ (l : i < total) where
        -- the step that is read here, by the steps before it
        here : (xs : List Step) → Listed ks fs gs vs w b xs → step n m (writes_in xs) (barriers_in xs) s p₀ ≡ step n m w b s p₀
        here xs t = rw (← t.writes, ← t.barriers)

        pub refusal : (x p : ℕ) → stop x p ≡ step n m w b s p₀ → turns total (next_step n m) [] s at ≡ stop x p
        refusal x p g = filling_stop _ _ _ _ _ _ _ h l x p (λ xs c t. here xs t ∙ sym g)

        pub one_more : total ≤ most_steps → (v : code.Step) (p : ℕ) → next (model_step v) p ≡ step n m w b s p₀ → Exact v
            → {k : ℕ} → k ≡ number_of v.kind
            → {x : ℕ} → (x ≡ tick (eqb (number_of v.kind) 1)) × (x ≤ 1) → {y : ℕ} → (y ≡ tick (eqb (number_of v.kind) 2)) × (y ≤ 1)
            → StepsFilled (set ks i k) (set fs i v.first) (set gs i v.second) (set vs i v.value) p (w + x) (b + y) (i + 1)
        one_more few v p g e {k} ek {x} ex {y} ey =
            let j : i < most_steps = omega arith in
            filling_next _ _ _ _ _ _ _ h l (model_step v) p (λ xs c t. here xs t ∙ sym g)
            (Listed (set ks i k) (set fs i v.first) (set gs i v.second) (set vs i v.value) (w + x) (b + y))
            (λ xs c t. listed_more ks fs gs vs w b i xs v k x y t c j e ek ex.0 ex.1 ey.0 ey.1)

-- as many steps are read as there are turns
pub steps-long : (s : List ℕ) (n m i at : ℕ) (xs : List Step) (p : ℕ) → turns i (next_step n m) [] s at ≡ next xs p → length xs ≡ i
steps-long s n m i at xs p e = omega (arith, turns-long (λ before. step n m (writes_in before) (barriers_in before)) s i [] at xs p e)
