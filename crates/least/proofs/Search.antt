-- The best permutation of a struct's threads, and of its addresses; both give the representative.
-- Assumes nothing.
use Prim.Native.Nat.{ℕ, ◌+◌, ◌≤◌, ◌<◌}
use native.Mathlib.Nat.{le_antisymm}
use native.Mathlib.Omega.{arith}
use mathlib.Core.Path.{◌≡◌, refl, sym, ap, ap₂, ◌∙◌, subst}
use mathlib.Core.Bool.{Bool, true, false, cond, false≢true}
use mathlib.Core.List.{List, [], ◌++◌}
use lib.ListN.{get_or}
use Rattle.finite.specs.Lists.{table, each}
use Rattle.finite.proofs.Tests.{T_true, true-T, and_i, is_false}
use Rattle.finite.proofs.Lists.{table_get}
use Rattle.number.specs.Number.{encode}
use Rattle.permutation.specs.Permutation.{permutations, image, inverse, fits}
use Rattle.permutation.proofs.Laws.{fits_identity, fits_image, fits-inverse}
use Rattle.model.specs.Case.{bare}
use Rattle.model.specs.Written.{record_of, order_bytes}
use Rattle.model.specs.Fault.{fault}
use Rattle.model.specs.Renumber.{moved, renumber, fitting}
use Rattle.case.specs.declared.Case.{Case as Held}
use Rattle.case.specs.Held.{event_of, events_of, case_of, held}
use Rattle.case.proofs.Shape.{fits-case}
use Rattle.writer.specs.Stages.{run}
use Rattle.writer.proofs.Parts.{run-same, each-run}
use Rattle.relabel.specs.Orders.{order}
use Rattle.classes.specs.Order.{at_most}
use Rattle.classes.specs.Representative.{representative}
use Rattle.classes.specs.Search.{Best, BestThreads, BestAddresses}
use Rattle.classes.proofs.Order.{at_most_trans}
use Rattle.classes.proofs.Decide.{thread_byte, thread_bytes, orders_bytes, address_byte, initial_bytes, address_bytes, threads_decide}
use Rattle.classes.proofs.Search.{best_first, best_kept, best_taken, best_by, best_two, addresses_alone}
use Rattle.least.specs.Chosen.{Chosen}
use Rattle.least.specs.Parts.{thread_at, order_at, threads_part, initial_at, address_at, addresses_part}

-- ---- the search

-- of the permutations below i, best is the one that is chosen
pub record Tried (part : ℕ → List ℕ) (n best i : ℕ) : Type 0 where
  pub within : i ≤ permutations
  pub chosen : Chosen part n i best

module _ (part : ℕ → List ℕ) (n : ℕ) where
  pub one_tried : Tried part n 0 1
  one_tried = record {
    within = omega arith;
    chosen = record { best = best_first (λ q. fits q n) part (T_true {b = fits 0 n} (fits_identity n)); first = λ p l f. absurd (omega arith) };
  }

  module _ (best i : ℕ) (T : Tried part n best i) where
    pub tried_kept : i < permutations → (fits i n ≡ true → at_most (part best) (part i) ≡ true) → Tried part n best (i + 1)
    tried_kept l h = record { within = omega arith; chosen = record { best = best_kept (λ q. fits q n) part i best T.chosen.best h; first = T.chosen.first } }

    pub tried_taken : i < permutations → fits i n ≡ true → at_most (part best) (part i) ≡ false → Tried part n i (i + 1)
    tried_taken l f g = record {
      within = omega arith;
      chosen = record {
        best = best_taken (λ q. fits q n) part i best T.chosen.best f g;
        first = λ p k h. is_false (λ e. false≢true (sym g ∙ at_most_trans (part best) (part p) (part i) (T.chosen.best.least p k h) e));
      };
    }

    pub tried_all : permutations ≤ i → Chosen part n permutations best
    tried_all l = subst (λ (j : ℕ). Chosen part n j best) (le_antisymm T.within l) T.chosen

-- ---- the parts of a struct are those of its case

-- a list by labels, moved, one behind the other
moved-run :
    {A : Type 0} (enc : A → List ℕ) (q j : ℕ) → fits q j ≡ true → (d : A) (f : ℕ → A)
    → each enc (moved q j d (table 0 j f)) ≡ run (λ y. enc (f (image (inverse q) y))) j
unfolding moved
moved-run enc q j h d f =
    each-run enc (λ y. get_or (table 0 j f) (image (inverse q) y) d) j
    ∙ run-same j _ _ (λ y l. ap enc (table_get j f (image (inverse q) y) d (fits_image (inverse q) j (fits-inverse q j (true-T h)) y l)))

module _ (q kind thread address value : ℕ) where
  thread_field : thread_byte q (event_of kind thread address value) ≡ encode (image q thread)
  unfolding event_of
  thread_field = go (bare kind)
    where
      go : (b : Bool) → thread_byte q (cond b (record { kind = kind; thread = thread; address = 0; value = 0 }) (record { kind = kind; thread = thread; address = address; value = value })) ≡ encode (image q thread)
      go true = refl
      go false = refl

  address_field : address_byte q (event_of kind thread address value) ≡ cond (bare kind) [] (encode (image q address))
  unfolding event_of
  address_field = go (bare kind) refl
    where
      go :
          (b : Bool) → bare kind ≡ b
          → address_byte q (cond b (record { kind = kind; thread = thread; address = 0; value = 0 }) (record { kind = kind; thread = thread; address = address; value = value }))
          ≡ cond (bare kind) [] (encode (image q address))
      go true e = rw e
      go false e = refl

module _ (c : Held) where
  threads-part : (q : ℕ) → fits q c.threads ≡ true → thread_bytes (case_of c) q ++ orders_bytes (case_of c) q ≡ threads_part c.thread c.rows c.threads c.events q
  unfolding case_of events_of threads_part thread_at order_at
  threads-part q h =
      ap₂ (λ (x y : List ℕ). x ++ y)
      (each-run (thread_byte q) (λ e. event_of (get_or c.kind e 0) (get_or c.thread e 0) (get_or c.address e 0) (get_or c.value e 0)) c.events
      ∙ run-same c.events _ _ (λ e l. thread_field q (get_or c.kind e 0) (get_or c.thread e 0) (get_or c.address e 0) (get_or c.value e 0)))
      (moved-run (order_bytes c.events) q c.threads h [] (order c.events c.rows))

  addresses-part : (r : ℕ) → fits r c.addresses ≡ true → initial_bytes (case_of c) r ++ address_bytes (case_of c) r ≡ addresses_part c.initial c.kind c.address c.addresses c.events r
  unfolding case_of events_of addresses_part initial_at address_at
  addresses-part r h =
      ap₂ (λ (x y : List ℕ). x ++ y)
      (moved-run encode r c.addresses h 0 (λ x. get_or c.initial x 0))
      (each-run (address_byte r) (λ e. event_of (get_or c.kind e 0) (get_or c.thread e 0) (get_or c.address e 0) (get_or c.value e 0)) c.events
      ∙ run-same c.events _ _ (λ e l. address_field r (get_or c.kind e 0) (get_or c.thread e 0) (get_or c.address e 0) (get_or c.value e 0)))

  module _ (good : fault (case_of c) ≡ 0) where
    pub best_threads_is :
        (q : ℕ) → Best (λ q. fits q c.threads) (threads_part c.thread c.rows c.threads c.events) permutations q → BestThreads (case_of c) q
    unfolding case_of
    best_threads_is q =
        best_by _ _ (λ q. record_of (renumber q 0 (case_of c))) permutations q
        (λ p h p' h'. threads_decide (case_of c) (fits-case c good) p p' 0 (true-T h) (true-T h') ∙ ap₂ at_most (threads-part p h) (threads-part p' h'))

    pub best_addresses_is :
        (r : ℕ) → Best (λ r. fits r c.addresses) (addresses_part c.initial c.kind c.address c.addresses c.events) permutations r
        → BestAddresses (case_of c) r
    unfolding case_of
    best_addresses_is r =
        best_by _ _ (λ r. record_of (renumber 0 r (case_of c))) permutations r
        (λ p h p' h'. addresses_alone (case_of c) (fits-case c good) p p' (true-T h) (true-T h') 0 ∙ ap₂ at_most (addresses-part p h) (addresses-part p' h'))

    module _ (q r : ℕ) (B : BestThreads (case_of c) q) (A : BestAddresses (case_of c) r) where
      pub both_fit : fitting q r (case_of c) ≡ true
      unfolding fitting
      both_fit = and_i (fits q (case_of c).n) (fits r (case_of c).m) B.passes A.passes

      pub both_best : (d : Held) → d ≡ held (renumber q r (case_of c)) → d ≡ held (representative (case_of c))
      both_best d e = e ∙ ap held (best_two (case_of c) (fits-case c good) q r B A)
