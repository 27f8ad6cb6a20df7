-- After a repair that was not cut, the room behind the last finished frame is used again.
-- Assumes nothing.
use Prim.Native.Nat.{ℕ, zero, suc, ◌+◌, ◌≤◌}
use native.Mathlib.Omega.{arith}
use mathlib.Core.Path.{◌≡◌, refl, sym, ap, ◌∙◌}
use mathlib.Core.Bool.{Bool, true, false, cond}
use mathlib.Core.List.{List, ◌++◌}
use mathlib.Core.Logic.{⊎_elim}
use lib.Dec.{leb}
use lib.ListN.{length, take, drop, take-append-drop}
use lib.Seq.{drop_at, take_all, length-take-le}
use Rattle.finite.specs.Lists.{every}
use Rattle.number.specs.Number.{Bytes}
use Rattle.number.specs.Reader.{Out, stop, next}
use Rattle.model.specs.Case.{Case}
use Rattle.model.specs.Record.{read}
use Rattle.model.specs.Answers.{Stored}
use Rattle.laws.proofs.Exact.{Refused}
use Rattle.laws.proofs.ExactCase.{refused}
use Rattle.area_model.specs.Area.{is_unused, found, Store, after_stores, appending, store_some, refuse, append_at, append, repairing, repair}
use Rattle.area_model.specs.Claim.{blank, Faultless}
use Rattle.area_model.proofs.Stores.{stores-clearing}
use Rattle.area_model.proofs.Survival.{end-within, repair_is, repair_stays, step-repair}

pub blank-unused : (n : ℕ) → every is_unused (blank n) ≡ true
unfolding every
blank-unused zero = refl
blank-unused (suc n) = blank-unused n

-- a record is refused by other numbers than 8
not_8 : (s : List ℕ) (x p : ℕ) → Refused s x p → (x ≡ 8 → ⊥)
not_8 s x p R e = ⊎_elim (λ m. absurd (omega (arith, m.most))) (λ u. absurd (omega (arith, u.number))) R

done_or_6 : (m : ℕ) (y : Bool) (a : List ℕ) (xs : List Store) → (cond y (store_some m xs a) (refuse 6 0 a)).answer.number ≡ 8 → ⊥
unfolding store_some
done_or_6 m true a xs z = absurd (omega arith)
done_or_6 m false a xs z = absurd (omega arith)

module _ (area : List ℕ) (sound : Faultless area) (n : ℕ) (whole : length (repairing area) ≤ n) where
  abbrev end : ℕ
  end = (found area).end

  front_length : length (take end area) ≡ end
  front_length = length-take-le end area (end-within area sound)

  -- 02 (v): "A repair fills everything behind the last finished frame with `FF`"; the bytes before stay
  pub repair-whole : (repair area n).buffer ≡ take end area ++ blank (length (drop end area))
  unfolding store_some
  repair-whole =
      ap (λ (s : Stored). s.buffer) (repair_is area sound n) ∙ ap (after_stores area) (take_all n (repairing area) whole)
      ∙ ap (λ (a : List ℕ). after_stores a (repairing area)) (sym (take-append-drop end area)) ∙ stores-clearing (take end area) (drop end area) end front_length

  free : every is_unused (drop end (repair area n).buffer) ≡ true
  free = rw (repair-whole, drop_at (take end area) (blank (length (drop end area))) end front_length) (blank-unused (length (drop end area)))

  -- "The next append may use that room again": a record that can be read is stored wherever it has room in the area; 8 can't come
  pub room_again : (bytes : List ℕ) (c : Case) (i m : ℕ) → read bytes ≡ next c i
      → append (repair area n).buffer bytes m
      ≡ cond (leb (end + 1 + length (take i bytes)) (length area)) (store_some m (appending end (take i bytes)) (repair area n).buffer) (refuse 6 0 (repair area n).buffer)
  unfolding append append_at
  room_again bytes c i m e = rw (repair_stays area sound n, sound, e, (step-repair area sound n).long, free)

  refused_is : (bytes : List ℕ) (m x p : ℕ) → read bytes ≡ stop x p → (append (repair area n).buffer bytes m).answer.number ≡ x
  unfolding append
  refused_is bytes m x p e = rw (repair_stays area sound n, sound, e)

  -- whatever bytes are to be appended
  pub never_unrepaired : (bytes : List ℕ) → Bytes bytes → (m : ℕ) → (append (repair area n).buffer bytes m).answer.number ≡ 8 → ⊥
  never_unrepaired bytes b m = go (read bytes) refl
    where
      go : (o : Out Case) → read bytes ≡ o → (append (repair area n).buffer bytes m).answer.number ≡ 8 → ⊥
      go (stop x p) e z = not_8 bytes x p (refused bytes b x p e) (sym (refused_is bytes m x p e) ∙ z)
      go (next c i) e z =
          done_or_6 m (leb (end + 1 + length (take i bytes)) (length area)) (repair area n).buffer (appending end (take i bytes))
          (sym (ap (λ (s : Stored). s.answer.number) (room_again bytes c i m e)) ∙ z)
