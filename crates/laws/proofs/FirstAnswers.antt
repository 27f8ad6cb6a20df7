-- Judging and renumbering answer as before edition 2, for all bytes that do not state it.
-- Each definition stands in its text before that, over the ones of FirstEdition, with `first` before its name.
-- Assumes nothing.
use Prim.Native.Nat.{ℕ, zero, suc, ◌+◌}
use native.Mathlib.Omega.{arith}
use mathlib.Core.Path.{◌≡◌, refl, ap, ◌∙◌}
use mathlib.Core.Bool.{Bool, true, false, cond}
use mathlib.Core.List.{List, append_assoc}
use lib.Dec.{T, lit<}
use lib.ListN.{length, drop}
use borrow.Author.Tests.{eqb-false}
use Rattle.finite.proofs.Tests.{and_l, and_r, true-T}
use Rattle.permutation.specs.Permutation.{fits}
use Rattle.number.specs.Number.{encode, Bytes}
use Rattle.number.specs.Reader.{Out, stop, next, up_to}
use Rattle.codec.proofs.ReadsAs.{reads_up_to}
use Rattle.model.specs.Limits.{most_edition, second}
use Rattle.model.specs.Case.{Case}
use Rattle.model.specs.Rules.{Model}
use Rattle.model.specs.Record.{read}
use Rattle.model.specs.Written.{record_of}
use Rattle.model.specs.Renumber.{renumber, fitting}
use Rattle.model.specs.Answers.{Answer, refusal, Stored, put, put_out, judgement, judge_out, under_model, judge, renumber_out, renumber_record}
use Rattle.model.specs.Fits.{Fits}
use Rattle.laws.proofs.ExactCase.{Readable, readable}
use Rattle.laws.proofs.Refits.{refits}
use Rattle.laws.proofs.FirstEdition.{first_verdict, first_read, first_record_of, first_renumber, judges_as_before, writes_as_before, renumbers_as_before, record_as_before}

-- ---- what was: judging

abbrev pub first_judge_out : Model → Out Case → Answer
first_judge_out w (stop x p) = refusal x p
first_judge_out w (next c i) = judgement c i (first_verdict c w)

abbrev pub first_judge : (model : ℕ) → List ℕ → Answer
first_judge model s = under_model model (λ w. first_judge_out w (first_read s)) (refusal 7 0)

-- ---- what was: renumbering into a buffer

abbrev pub first_renumber_out : (q r : ℕ) → Out Case → Out Case
first_renumber_out q r (stop x p) = stop x p
first_renumber_out q r (next c i) =
    cond (fitting q r c) (next (first_renumber q r c) (length (first_record_of (first_renumber q r c)))) (stop 5 0)

abbrev pub first_put_out : Out Case → List ℕ → ℕ → Stored
first_put_out (stop x p) buffer at = record { answer = refusal x p; buffer = buffer }
first_put_out (next c i) buffer at = put (first_record_of c) buffer at

abbrev pub first_renumber_record : (q r : ℕ) → List ℕ → List ℕ → ℕ → Stored
first_renumber_record q r s buffer at = first_put_out (first_renumber_out q r (first_read s)) buffer at

-- ---- they are the same

module _ (c : Case) (F : Fits c) (one : c.edition ≡ 1) (q r : ℕ) where
  -- a renumbered case's record
  record-of : fitting q r c ≡ true → record_of (renumber q r c) ≡ first_record_of (first_renumber q r c)
  unfolding fitting
  record-of f =
      let fq : T (fits q c.n) = true-T (and_l (fits q c.n) (fits r c.m) f) in
      let fr : T (fits r c.m) = true-T (and_r (fits q c.n) (fits r c.m) f) in
      writes_as_before (renumber q r c) (refits q r c F fq fr) (unfold renumber in one)
      ∙ ap first_record_of (renumbers_as_before c F one q r)

  put_as_before : (i : ℕ) (buffer : List ℕ) (at : ℕ) → put_out (renumber_out q r (next c i)) buffer at ≡ first_put_out (first_renumber_out q r (next c i)) buffer at
  put_as_before i buffer at = go (fitting q r c) refl
    where
      go : (x : Bool) → fitting q r c ≡ x
          → put_out (cond x (next (renumber q r c) (length (record_of (renumber q r c)))) (stop 5 0)) buffer at
          ≡ first_put_out (cond x (next (first_renumber q r c) (length (first_record_of (first_renumber q r c)))) (stop 5 0)) buffer at
      go true f = ap (λ (w : List ℕ). put w buffer at) (record-of f)
      go false f = refl

module _ (s : List ℕ) (b : Bytes s) (first : (e p : ℕ) → up_to most_edition s 0 ≡ next e p → second e ≡ false) where
  -- the case that is read is of edition 1
  edition-one : (c : Case) (i : ℕ) → Readable s c i → c.edition ≡ 1
  unfolding record_of
  edition-one c i R =
      let F : Fits c = R.fits in
      let stated : up_to most_edition s 0 ≡ next c.edition (0 + length (encode c.edition)) =
      (reads_up_to most_edition c.edition F.edition_most (lit< tt)).run s 0 _ (omega arith) (R.whole ∙ append_assoc (encode c.edition) _ (drop i s)) in
      let not-two = eqb-false c.edition most_edition (first c.edition _ stated) in
      omega (arith, not-two, F.edition_least, F.edition_most)

  judged : (w : Model) (o : Out Case) → read s ≡ o → judge_out w o ≡ first_judge_out w o
  judged w (stop x p) e = refl
  judged w (next c i) e =
      let R : Readable s c i = readable s b c i e in
      ap (judgement c i) (judges_as_before c R.fits (edition-one c i R) w)

  pub answers_as_before : (model : ℕ) → judge model s ≡ first_judge model s
  unfolding judge
  answers_as_before zero = judged _ (read s) refl ∙ ap (first_judge_out _) (record_as_before s first)
  answers_as_before (suc zero) = judged _ (read s) refl ∙ ap (first_judge_out _) (record_as_before s first)
  answers_as_before (suc (suc x)) = refl

  renumbered : (q r : ℕ) (buffer : List ℕ) (at : ℕ) (o : Out Case) → read s ≡ o
      → put_out (renumber_out q r o) buffer at ≡ first_put_out (first_renumber_out q r o) buffer at
  renumbered q r buffer at (stop x p) e = refl
  renumbered q r buffer at (next c i) e =
      let R : Readable s c i = readable s b c i e in
      put_as_before c R.fits (edition-one c i R) q r i buffer at

  pub stores_as_before : (q r : ℕ) (buffer : List ℕ) (at : ℕ) → renumber_record q r s buffer at ≡ first_renumber_record q r s buffer at
  unfolding renumber_record
  stores_as_before q r buffer at =
      renumbered q r buffer at (read s) refl
      ∙ ap (λ (o : Out Case). first_put_out (first_renumber_out q r o) buffer at) (record_as_before s first)
