-- Judging the records of some bytes, one after the other: what a step comes to, and the loop's invariant.
-- Assumes nothing.
use Rattle.std.proofs.Common.{◌≡◌, ℕ, zero, suc, ◌+◌, ◌-◌, ◌^◌, ◌<◌, ◌≤◌, Bool, true, false, cond, eqb, List, ◌++◌, length, take, drop, sym, refl, ap, ◌∙◌, subst, ⊎_elim, true≢false, append_assoc, le_refl, arith, length-drop, length-take-le, take-add, drop_at, ne_eqb}
use Rattle.finite.proofs.All.{all_drop}
use Rattle.number.specs.Number.{Bytes}
use Rattle.number.specs.Reader.{Out, stop, next}
use Rattle.model.specs.Case.{Case}
use Rattle.model.specs.Rules.{PPCs, verdict}
use Rattle.model.specs.Record.{read}
use Rattle.laws.proofs.Exact.{refused-within}
use Rattle.laws.proofs.ExactCase.{refused as refused-law}
use Rattle.laws.proofs.ExtentCase.{accepted}
use Rattle.reader.proofs.Bytes.{Octets, slice_bytes}
use Rattle.tally.specs.declared.Tally.{Tally}
use Rattle.tally.specs.Tally.{is_verdict, grown, may_grow, adding}
use Rattle.log_model.specs.Pieces.{Stop, refused, full, Run, on_reading, run_by, run_from, run}
use Rattle.log_model.proofs.Counts.{verdict_good}
use Rattle.log_model.proofs.RunLaws.{Further, further as behind, run-stop, run-next}
use Rattle.log_pieces.specs.Shown.{Told, Step, Turn, judged_of, begun, stop_at, step_of, next_turn, run_of, number_of, place_of, step_shown}

-- a refusal of bytes is none of the numbers that judging gives, and not 6
record NoVerdict (x : ℕ) : Type 0 where
  other : is_verdict x ≡ false
  not_full : eqb x 6 ≡ false

no-verdict : (s : List ℕ) → Bytes s → (x p : ℕ) → read s ≡ stop x p → NoVerdict x
no-verdict s b x p e = ⊎_elim (λ m. small x m.least m.most) (λ u. rw u.number (record { other = refl; not_full = refl })) (refused-law s b x p e)
  where
    small : (x : ℕ) → 1 ≤ x → x ≤ 4 → NoVerdict x
    small zero lo hi = absurd (omega arith)
    small (suc zero) lo hi = record { other = refl; not_full = refl }
    small (suc (suc zero)) lo hi = record { other = refl; not_full = refl }
    small (suc (suc (suc zero))) lo hi = record { other = refl; not_full = refl }
    small (suc (suc (suc (suc zero)))) lo hi = record { other = refl; not_full = refl }
    small (suc (suc (suc (suc (suc x))))) lo hi = absurd (omega arith)

-- ---- one record

-- from m on, judging comes to the run w: where it stops, the step and the tally are what shows that
pub record Going (s : List ℕ) (w : Run) (m : Turn) : Type 0 where
  pub inside : m.step.judged ≤ length s
  pub ends : m.step.going ≡ true → m.step.number ≡ 1
  goes : m.step.going ≡ true → run_from m.step.judged s m.tally ≡ w
  pub stops : m.step.going ≡ false → (m.step ≡ step_shown w) × (m.tally ≡ w.tally)

-- whatever follows the bytes before at, judging comes there with the tally t', from t
pub record Front (s : List ℕ) (t : Tally) (at : ℕ) (t' : Tally) : Type 0 where
  pub comes : (u : List ℕ) → run (take at s ++ u) t ≡ run_from at (take at s ++ u) t'

-- a record further
front-next : (s : List ℕ) (t : Tally) (at : ℕ) (t' : Tally) → at ≤ length s → (c : Case) (i : ℕ) → read (drop at s) ≡ next c i → may_grow t' (verdict c PPCs) ≡ true
    → Front s t at t' → Front s t (at + i) (grown t' (verdict c PPCs))
front-next s t at t' inside c i e g F = record { comes = λ u. rw (split u) (F.comes (take i (drop at s) ++ u) ∙ run-next at (take at s ++ (take i (drop at s) ++ u)) t' c i (there u) ∙ rw g) }
  where
    split : (u : List ℕ) → take (at + i) s ++ u ≡ take at s ++ (take i (drop at s) ++ u)
    split u = ap (λ (z : List ℕ). z ++ u) (take-add at i s) ∙ append_assoc (take at s) (take i (drop at s)) u

    there : (u : List ℕ) → read (drop at (take at s ++ (take i (drop at s) ++ u))) ≡ next c i
    there u = ap read (drop_at (take at s) (take i (drop at s) ++ u) at (length-take-le at s inside)) ∙ (accepted (drop at s) c i e).front u

-- from the place at with the tally t it has come to m, further on where it still goes
record Onward (s : List ℕ) (at : ℕ) (t : Tally) (m : Turn) : Type 0 where
  on : Going s (run_from at s t) m
  from : at ≤ m.step.judged
  further : m.step.going ≡ true → at < m.step.judged
  front : m.step.going ≡ true → (t₀ : Tally) → Front s t₀ at t → Front s t₀ m.step.judged m.tally

module _ (s : List ℕ) (b : Octets s) where
  bytes : (at : ℕ) → Bytes (drop at s)
  bytes at = all_drop _ at s (slice_bytes s b)

  module _ (f : Step) (inside : f.judged ≤ length s) where
    abbrev j : Told
    j = judged_of (read (drop f.judged s))

    -- no place and no length is past the bytes
    within : (f.judged + j.place ≤ length s) × (f.judged + j.length ≤ length s)
    unfolding judged_of
    within = go (read (drop f.judged s)) refl
      where
        go : (o : Out Case) → read (drop f.judged s) ≡ o → (f.judged + (judged_of o).place ≤ length s) × (f.judged + (judged_of o).length ≤ length s)
        go (stop x p) r = let h : p ≤ length s - f.judged = rw length-drop at (refused-within (refused-law _ (bytes f.judged) x p r)) in (omega arith, omega arith)
        go (next c i) r = (omega arith, (behind s f.judged c i r).inside)

    pub fits : length s < 2 ^ 64 → (f.judged + j.place < 2 ^ 64) × (f.judged + j.length < 2 ^ 64)
    fits h = (omega (arith, within.0), omega (arith, within.1))

    module _ (t : Tally) where
      halted : (why : Stop) → run_from f.judged s t ≡ record { judged = f.judged; tally = t; why = why }
          → Onward s f.judged t (record { step = stop_at f.judged (number_of why) (place_of why); tally = t })
      halted why e = record {
        on = record { inside = inside; ends = λ z. absurd (true≢false (sym z)); goes = λ z. absurd (true≢false (sym z)); stops = λ _. (sym (ap step_shown e), sym (ap (λ (w : Run). w.tally) e)) };
        from = le_refl f.judged;
        further = λ z. absurd (true≢false (sym z));
        front = λ z. absurd (true≢false (sym z));
      }

      -- what is read is added as `adding` says, and the step behind it goes on as judging does
      goes_on : Onward s f.judged t (next_turn s f t)
      unfolding next_turn judged_of step_of adding
      goes_on = go (read (drop f.judged s)) refl
        where
          go : (o : Out Case) → read (drop f.judged s) ≡ o → Onward s f.judged t (next_turn s f t)
          go (stop x p) q = rw (q, (no-verdict _ (bytes f.judged) x p q).other) (halted (refused x (f.judged + p)) (run-stop f.judged s t x p q))
          go (next c i) q = one (may_grow t (verdict c PPCs)) refl
            where
              F : Further s f.judged i
              F = behind s f.judged c i q

              some : eqb i 0 ≡ false
              some = ne_eqb i 0 (λ z. omega (arith, F.some))

              one : (y : Bool) → may_grow t (verdict c PPCs) ≡ y → Onward s f.judged t (next_turn s f t)
              one true g = rw (q, verdict_good c PPCs, g, some) (record {
                on = record { inside = F.inside; ends = λ _. refl; goes = λ _. sym (run-next f.judged s t c i q ∙ rw g); stops = λ z. absurd (true≢false z) };
                from = omega arith;
                further = λ _. omega (arith, F.some);
                front = λ _ t₀ h. front-next s t₀ f.judged t inside c i q g h;
              })
              one false g = rw (q, verdict_good c PPCs, g, some) (halted full (run-next f.judged s t c i q ∙ rw g))

-- ---- the loop

-- the bytes left, and one more while it goes on
abbrev pub left : List ℕ → Step → ℕ
left s f = length s - f.judged + cond f.going 1 0

nearer : (s : List ℕ) (f g : Step) → f.going ≡ true → g.judged ≤ length s → f.judged ≤ g.judged → (g.going ≡ true → f.judged < g.judged)
    → left s g < left s f
nearer s f g e inside from further = rw e (go g.going refl)
  where
    go : (y : Bool) → g.going ≡ y → length s - g.judged + cond y 1 0 < length s - f.judged + 1
    go true h = omega (arith, further h)
    go false h = omega arith

pub first : (s : List ℕ) (t : Tally) → Going s (run s t) (record { step = begun; tally = t })
first s t = record { inside = omega arith; ends = λ _. refl; goes = λ _. refl; stops = λ z. absurd (true≢false z) }

module _ (s : List ℕ) (b : Octets s) (w : Run) (m : Turn) (G : Going s w m) (g : m.step.going ≡ true) where
  abbrev n : Turn
  n = next_turn s m.step m.tally

  abbrev O : Onward s m.step.judged m.tally n
  O = goes_on s b m.step G.inside m.tally

  pub onward : Going s w n
  onward = subst (λ (v : Run). Going s v n) (G.goes g) O.on

  pub front_on : (t₀ : Tally) → Front s t₀ m.step.judged m.tally → n.step.going ≡ true → Front s t₀ n.step.judged n.tally
  front_on t₀ h z = O.front z t₀ h

  pub less : left s n.step < left s m.step
  less = nearer s m.step n.step g O.on.inside O.from O.further

-- ---- where it stops

-- a step that shows where judging stopped tells all of it
record Shows (r : Run) : Type 0 where
  all : run_of (step_shown r) r.tally ≡ r

shows_by : (s : List ℕ) → Octets s → (i at : ℕ) (t : Tally) → Shows (run_by i at s t)
unfolding run_of run_by
shows_by s b zero at t = record { all = refl }
shows_by s b (suc i) at t = go (shows_by s b i) (read (drop at s)) refl
  where
    go : ((k : ℕ) (t' : Tally) → Shows (run_by i k s t')) → (o : Out Case) → read (drop at s) ≡ o → Shows (on_reading at t (λ k t'. run_by i k s t') o)
    go ih (stop x p) q = record { all = rw (no-verdict _ (bytes s b at) x p q).not_full }
    go ih (next c k) q = one (may_grow t (verdict c PPCs)) (ih (at + k) (grown t (verdict c PPCs)))
      where
        one : (y : Bool) → Shows (run_by i (at + k) s (grown t (verdict c PPCs))) → Shows (cond y (run_by i (at + k) s (grown t (verdict c PPCs))) (record { judged = at; tally = t; why = full }))
        one true h = h
        one false h = record { all = refl }

pub shows : (s : List ℕ) → Octets s → (t : Tally) → run_of (step_shown (run s t)) (run s t).tally ≡ run s t
unfolding run_from
shows s b t = (shows_by s b (length s - 0) 0 t).all
