-- What the comparison of two records answers, by what reading them told.
-- Assumes nothing.
use Prim.Native.Nat.{ℕ, ◌≤◌}
use native.Mathlib.Omega.{arith}
use mathlib.Core.Path.{◌≡◌, refl, sym, ap, ap₂, ◌∙◌}
use mathlib.Core.Bool.{Bool, true, false, cond}
use mathlib.Core.List.{List}
use lib.ListN.{length, take}
use lib.Seq.{length-take-le}
use borrow.Author.Tests.{eq-eqb, ne_eqb}
use Rattle.std.proofs.Common.{Ok, Err}
use Rattle.number.specs.declared.Refusal.{Refusal}
use Rattle.number.specs.Reader.{Out, stop, next}
use Rattle.model.specs.Case.{Case}
use Rattle.model.specs.Record.{read}
use Rattle.number.specs.Number.{Bytes}
use Rattle.reader.specs.declared.Reading.{Reading}
use Rattle.reader.specs.Answers.{ReadingOf}
use Rattle.reader.proofs.Bytes.{Octets, slice_bytes}
use Rattle.reader.proofs.Found.{read_within}
use Rattle.classes.specs.Order.{at_most}
use Rattle.classes.specs.Representative.{Choice as Chosen, choice_read, choice, chosen, lesser}
use Rattle.representatives.specs.declared.Choice.{Choice}
use Rattle.representatives.specs.Shown.{choice_shown}

module _ (s t : List ℕ) where
  pub first_missed : (e : Refusal) → ReadingOf (read s) (Err e) → ◌≡◌ {A = Choice} (record { which = 0; length = 0 }) (choice_shown (choice s t))
  unfolding choice
  first_missed e h = sym (ap (λ (o : Out Case). choice_shown (choice_read s t o (read t))) h)

  module _ (r : Reading) (f : ReadingOf (read s) (Ok r)) where
    pub second_missed : (e : Refusal) → ReadingOf (read t) (Err e) → ◌≡◌ {A = Choice} (record { which = 0; length = 0 }) (choice_shown (choice s t))
    unfolding choice
    second_missed e h = sym (ap₂ (λ (o p : Out Case). choice_shown (choice_read s t o p)) f.is_read h)

    module _ (r' : Reading) (g : ReadingOf (read t) (Ok r')) (x : Bool) (m : x ≡ at_most (take r.length s) (take r'.length t)) where
      both : choice s t ≡ cond x (record { which = 1; length = r.length }) (record { which = 2; length = r'.length })
      unfolding choice
      both =
          ap₂ (choice_read s t) f.is_read g.is_read
          ∙ ap (λ (y : Bool). cond {A = Chosen} y (record { which = 1; length = r.length }) (record { which = 2; length = r'.length })) (sym m)

      pub chose_first : x ≡ true → ◌≡◌ {A = Choice} (record { which = 1; length = r.length }) (choice_shown (choice s t))
      chose_first h = sym (ap choice_shown (both ∙ rw h))

      pub chose_second : x ≡ false → ◌≡◌ {A = Choice} (record { which = 2; length = r'.length }) (choice_shown (choice s t))
      chose_second h = sym (ap choice_shown (both ∙ rw h))

-- a part that lies within its bytes has the length that it is asked for
taken : (s : List ℕ) (i : ℕ) → i ≤ length s → i ≡ length (take i s)
taken s i l = sym (length-take-le i s l)

pub record_within : (s : List ℕ) → Octets s → (r : Reading) → ReadingOf (read s) (Ok r) → r.length ≡ length (take r.length s)
record_within s b r f = taken s r.length (read_within s (slice_bytes s b) f.c r.length f.is_read)

-- ---- the part

-- what is chosen lies within its bytes
record Within (s t : List ℕ) (x : Chosen) : Type 0 where
  first : x.which ≡ 1 → x.length ≤ length s
  second : (x.which ≡ 1 → ⊥) → x.length ≤ length t

choice-within : (s t : List ℕ) → Bytes s → Bytes t → Within s t (choice s t)
unfolding choice
choice-within s t b b' = go (read s) (read t) refl refl
  where
    go : (o p : Out Case) → read s ≡ o → read t ≡ p → Within s t (choice_read s t o p)
    go (stop x y) p e g = record { first = λ z. omega arith; second = λ z. omega arith }
    go (next c i) (stop x y) e g = record { first = λ z. omega arith; second = λ z. omega arith }
    go (next c i) (next d j) e g = by (at_most (take i s) (take j t))
      where
        by : (y : Bool) → Within s t (cond y (record { which = 1; length = i }) (record { which = 2; length = j }))
        by true = record { first = λ z. read_within s b c i e; second = λ z. absurd (z refl) }
        by false = record { first = λ z. absurd (omega arith); second = λ z. read_within t b' d j g }

module _ (s t : List ℕ) (b : Octets s) (b' : Octets t) (x : Choice) (e : x ≡ choice_shown (choice s t)) where
  W : Within s t (choice s t)
  W = choice-within s t (slice_bytes s b) (slice_bytes t b')

  long : x.length ≡ (choice s t).length
  long = ap (λ (y : Choice). y.length) e

  named : x.which ≡ (choice s t).which
  named = ap (λ (y : Choice). y.which) e

  pub first-within : x.which ≡ 1 → x.length ≡ length (take x.length s)
  first-within h = taken s x.length (rw long (W.first (sym named ∙ h)))

  pub second-within : (x.which ≡ 1 → ⊥) → x.length ≡ length (take x.length t)
  second-within h = taken t x.length (rw long (W.second (λ z. h (named ∙ z))))

module _ (s t : List ℕ) (x : Choice) (e : x ≡ choice_shown (choice s t)) where
  is_first : (y : Chosen) → x ≡ choice_shown y → x.which ≡ 1 → take x.length s ≡ chosen s t y
  unfolding chosen
  is_first y e h =
      let n : y.which ≡ 1 = ap (λ (c : Choice). c.which) (sym e) ∙ h in
      let l : x.length ≡ y.length = ap (λ (c : Choice). c.length) e in
      rw (eq-eqb y.which 1 n, l)

  is_second : (y : Chosen) → x ≡ choice_shown y → (x.which ≡ 1 → ⊥) → take x.length t ≡ chosen s t y
  unfolding chosen
  is_second y e h =
      let n : y.which ≡ x.which = ap (λ (c : Choice). c.which) (sym e) in
      let l : x.length ≡ y.length = ap (λ (c : Choice). c.length) e in
      rw (ne_eqb y.which 1 (λ z. h (sym n ∙ z)), l)

  pub first_is : x.which ≡ 1 → take x.length s ≡ lesser s t
  unfolding lesser
  first_is = is_first (choice s t) e

  pub second_is : (x.which ≡ 1 → ⊥) → take x.length t ≡ lesser s t
  unfolding lesser
  second_is = is_second (choice s t) e
