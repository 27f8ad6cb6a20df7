-- The loop of a repair, and each way through the functions of a repair.
-- Assumes nothing.
use Prim.Native.Nat.{ℕ, suc, ◌+◌, ◌-◌, ◌≤◌, ◌<◌}
use native.Mathlib.Omega.{arith}
use native.Mathlib.Numerals.{add-one}
use mathlib.Core.Path.{◌≡◌, refl, sym, ap, ◌∙◌}
use mathlib.Core.Bool.{Bool, true, false, not}
use mathlib.Core.List.{List, [], ◌∷◌}
use lib.ListN.{length, get_or, take, drop, set, length-set, drop_of_length-le}
use lib.Seq.{take-nil, drop-cons, set-get_or, drop-set-lt}
use borrow.Author.Tests.{eqb-true, eq-eqb, ne_eqb}
use Rattle.finite.specs.Tests.{tick}
use Rattle.model.specs.Answers.{done}
use Rattle.std.proofs.Common.{Ok, Err}
use Rattle.answers.specs.declared.Refused.{Refused}
use Rattle.answers.specs.Shown.{shown}
use Rattle.area_model.specs.Area.{unused, is_unused, found, Store, after_stores, clearing, store_some, repairing, repair}
use Rattle.area_model.proofs.Stores.{stores_one}
use Rattle.area.specs.Shown.{EndOf, stores_given, Answered, Made, Cleared}
use Rattle.area.proofs.Told.{faultless, faulty}

-- ---- the ways through `clear_byte`

module _ (s : List ℕ) (at : ℕ) where
  pub was_unused : get_or s at 0 ≡ unused → Cleared s at 0 s
  was_unused e = record { area = sym (ap (set s at) (sym e) ∙ set-get_or s at 0); count = rw (eq-eqb (get_or s at 0) unused e) }

  pub was_used : (get_or s at 0 ≡ unused → ⊥) → Cleared s at 1 (set s at unused)
  was_used n = record { area = refl; count = rw (ne_eqb (get_or s at 0) unused n) }

pub cleared_few : (s : List ℕ) (at k : ℕ) (now : List ℕ) → Cleared s at k now → k ≤ 1
cleared_few s at k now C = go (is_unused (get_or s at 0)) C.count
  where
    go : (y : Bool) → k ≡ tick (not y) → k ≤ 1
    go true e = omega arith
    go false e = omega arith

-- ---- the loop of `clear`

-- what is left to store from i on makes the whole
pub record Clearing (area₀ : List ℕ) (from allowed : ℕ) (area : List ℕ) (i made : ℕ) : Type 0 where
  pub few : made ≤ allowed
  pub long : length area ≡ length area₀
  pub count : made + length (take (allowed - made) (clearing i (drop i area))) ≡ length (take allowed (clearing from (drop from area₀)))
  pub same : after_stores area (take (allowed - made) (clearing i (drop i area))) ≡ after_stores area₀ (take allowed (clearing from (drop from area₀)))

pub begun : (area : List ℕ) (from allowed : ℕ) → Clearing area from allowed area from 0
begun area from allowed =
    let e : allowed - 0 ≡ allowed = omega arith in
    record { few = omega arith; long = refl; count = rw e (omega arith); same = rw e }

module _ (area₀ : List ℕ) (from allowed : ℕ) (area : List ℕ) (i made : ℕ) (S : Clearing area₀ from allowed area i made) where
  pub stops : allowed ≤ made → Made (store_some allowed (clearing from (drop from area₀)) area₀) made area
  unfolding store_some after_stores
  stops l =
      let none : allowed - made ≡ 0 = omega arith in
      record { count = sym (omega arith) ∙ (rw none at S.count); area = rw none at S.same }

  pub ends : length area ≤ i → Made (store_some allowed (clearing from (drop from area₀)) area₀) made area
  unfolding store_some after_stores clearing
  ends l =
      let none : drop i area ≡ [] = drop_of_length-le area l in
      let nil : take (allowed - made) (clearing i (drop i area)) ≡ [] = rw none (take-nil (allowed - made)) in
      record { count = sym (omega arith) ∙ (rw nil at S.count); area = rw nil at S.same }

  -- the first so many of the stores behind this byte
  abbrev behind : ℕ → List Store
  behind n = take n (clearing (suc i) (drop (suc i) area))

  here_unused : i < length area → is_unused (get_or area i 0) ≡ true → (n : ℕ) → take n (clearing i (drop i area)) ≡ behind n
  unfolding clearing
  here_unused l e n = rw (drop-cons area i 0 l, e)

  here_used : i < length area → is_unused (get_or area i 0) ≡ false → (n : ℕ) → take (suc n) (clearing i (drop i area)) ≡ record { at = i; byte = unused } ∷ behind n
  unfolding clearing
  here_used l e n = rw (drop-cons area i 0 l, e)

  pub one_more : i < length area → made < allowed → (k : ℕ) (now : List ℕ) → Cleared area i k now → Clearing area₀ from allowed now (i + 1) (made + k)
  one_more l m k now C = go (is_unused (get_or area i 0)) refl
    where
      go : (y : Bool) → is_unused (get_or area i 0) ≡ y → Clearing area₀ from allowed now (i + 1) (made + k)
      go true e =
          let none : k ≡ 0 = C.count ∙ rw e in
          let sum : made + k ≡ made = omega arith in
          let stays : now ≡ area = C.area ∙ ap (set area i) (sym (eqb-true (get_or area i 0) unused e)) ∙ set-get_or area i 0 in
          let rest : take (allowed - made) (clearing i (drop i area)) ≡ behind (allowed - made) = here_unused l e (allowed - made) in
          rw (stays, sum, add-one) (record { few = S.few; long = S.long; count = rw rest at S.count; same = rw rest at S.same })
      go false e =
          let one : k ≡ 1 = C.count ∙ rw e in
          let sum : made + k ≡ made + 1 = omega arith in
          let left : allowed - made ≡ suc (allowed - (made + 1)) = omega arith in
          let rest : take (allowed - made) (clearing i (drop i area)) ≡ record { at = i; byte = unused } ∷ behind (allowed - (made + 1)) = rw left (here_used l e (allowed - (made + 1))) in
          let further : drop (suc i) (set area i unused) ≡ drop (suc i) area = drop-set-lt (suc i) area i unused (omega arith) in
          let count : made + suc (length (behind (allowed - (made + 1)))) ≡ length (take allowed (clearing from (drop from area₀))) = rw rest at S.count in
          let same : after_stores (set area i unused) (behind (allowed - (made + 1))) ≡ after_stores area₀ (take allowed (clearing from (drop from area₀))) =
          sym (ap (after_stores area) rest ∙ stores_one (record { at = i; byte = unused }) (behind (allowed - (made + 1))) area) ∙ S.same in
          rw (C.area, sum, add-one i)
          (record { few = omega arith; long = length-set area i unused ∙ S.long; count = rw further (omega arith); same = rw further same })

-- ---- the ways through `repair_log`

module _ (area : List ℕ) (allowed : ℕ) where
  pub repaired : (end : ℕ) → EndOf (found area) (Ok end) → (stores : ℕ) (now : List ℕ) → Made (store_some allowed (clearing end (drop end area)) area) stores now
      → Answered (repair area allowed) (stores_given (Ok stores)) now
  unfolding repair store_some
  repaired end E stores now D =
      rw (faultless area end E (store_some allowed (repairing area) area), ← E.end_is) (record { answer = ap (λ (k : ℕ). shown (done k)) D.count; area = D.area })

  pub not_repaired : (e : Refused) → EndOf (found area) (Err e) → Answered (repair area allowed) (stores_given (Err e)) area
  unfolding repair
  not_repaired e h = faulty area e h (store_some allowed (repairing area) area)
