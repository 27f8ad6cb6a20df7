-- Laws of `fault` and its parts: what no fault says, and each part over a table.
-- Assumes nothing.
use Prim.Native.Nat.{ℕ, zero, suc, ◌+◌, ◌<◌}
use native.Mathlib.Nat.{add-zero, not-suc-le-zero, le_of_suc-le-suc}
use native.Mathlib.Omega.{arith}
use mathlib.Core.Path.{◌≡◌, refl}
use mathlib.Core.Bool.{Bool, true, false, not, ◌&&◌, ◌||◌}
use mathlib.Core.List.{List, [], ◌∷◌, ◌++◌}
use lib.Dec.{leb, ltb}
use lib.ListN.{length, get_or}
use borrow.Author.Tests.{ltb-true}
use Rattle.finite.specs.Tests.{all}
use Rattle.finite.specs.Lists.{table, every}
use Rattle.finite.proofs.Tests.{iff, and_l, and_r, and_i, all_get, all_make}
use Rattle.model.specs.Limits.{most_value}
use Rattle.model.specs.Case.{Dependency, most_kind, bare}
use Rattle.model.specs.Rules.{or_else}
use Rattle.model.specs.Record.{dependency_rank, member}
use Rattle.model.specs.Fault.{event_good, first_fault, dependency_within, dependency_fault, write_fault, writes_fault}
use Rattle.case.specs.Held.{event_of}
use Rattle.case.proofs.Events.{event_by}

-- no fault: the test passed, and the rest has none
pub else_none : (t : Bool) (x y : ℕ) → or_else t (suc x) y ≡ 0 → (t ≡ true) × (y ≡ 0)
else_none true x y h = (refl, h)
else_none false x y h = absurd (omega arith)

pub first-none : (x y : ℕ) → first_fault x y ≡ 0 → (x ≡ 0) × (y ≡ 0)
first-none zero y h = (refl, h)
first-none (suc x) y h = absurd (omega arith)

-- every element of a table
module _ {A : Type 0} (f : A → Bool) where
  pub every_at : (i j : ℕ) (g : ℕ → A) → every f (table i j g) ≡ true → (y : ℕ) → y < j → f (g (i + y)) ≡ true
  unfolding every table
  every_at i zero g h y l = absurd (not-suc-le-zero l)
  every_at i (suc j) g h zero l = rw (add-zero i) (and_l (f (g i)) (every f (table (suc i) j g)) h)
  every_at i (suc j) g h (suc y) l =
      let s : i + suc y ≡ suc i + y = omega arith in
      rw s (every_at (suc i) j g (and_r (f (g i)) (every f (table (suc i) j g)) h) y (le_of_suc-le-suc l))

  every_make : (i j : ℕ) (g : ℕ → A) → ((y : ℕ) → y < j → f (g (i + y)) ≡ true) → every f (table i j g) ≡ true
  unfolding every table
  every_make i zero g h = refl
  every_make i (suc j) g h =
      and_i (f (g i)) (every f (table (suc i) j g)) (rw (add-zero i) at (h 0 (omega arith)))
      (every_make (suc i) j g (λ y l. let s : i + suc y ≡ suc i + y = omega arith in rw s at (h (suc y) (omega arith))))

  pub every-table : (j : ℕ) (g : ℕ → A) → every f (table 0 j g) ≡ all j (λ y. f (g y))
  every-table j g =
      iff
      (λ h. all_make j (λ y. f (g y)) (λ y l. let s : 0 + y ≡ y = omega arith in rw s at (every_at 0 j g h y l)))
      (λ h. every_make 0 j g (λ y l. let s : 0 + y ≡ y = omega arith in rw s (all_get j (λ y. f (g y)) h y l)))

-- an event by its numbers
pub event-good : (edition n m k t a v : ℕ)
    → event_good edition n m (event_of k t a v) ≡ (leb k (most_kind edition) && ltb t n && (bare k || (ltb a m && leb v most_value)))
unfolding event_good
event-good edition n m k t a v = event_by (λ e. event_good edition n m e ≡ (leb k (most_kind edition) && ltb t n && (bare k || (ltb a m && leb v most_value)))) k t a v (λ h. rw h) (λ h. refl)

-- dependencies without fault are among the events
pub links_none : (k : ℕ) (good : Dependency → Bool) (least : ℕ) (ds : List Dependency) → dependency_fault k good least ds ≡ 0
    → (d : Dependency) (i : ℕ) → i < length ds → dependency_within k (get_or ds i d) ≡ true
unfolding dependency_fault
links_none k good least [] h d i l = absurd (not-suc-le-zero l)
links_none k good least (x ∷ ds) h d zero l = (else_none (dependency_within k x) 2 _ h).0
links_none k good least (x ∷ ds) h d (suc i) l =
    links_none k good (dependency_rank k x + 1) ds
    (else_none (leb least (dependency_rank k x) && good x) 3 _ (else_none (dependency_within k x) 2 _ h).1).1 d i (le_of_suc-le-suc l)

-- a write order without fault lists events
pub write-none : (k : ℕ) (mine : ℕ → Bool) (before w : List ℕ) → write_fault k mine before w ≡ 0 → (i : ℕ) → i < length w → get_or w i 0 < k
unfolding write_fault
write-none k mine before [] h i l = absurd (not-suc-le-zero l)
write-none k mine before (e ∷ w) h zero l = ltb-true e k (else_none (ltb e k) 2 _ h).0
write-none k mine before (e ∷ w) h (suc i) l =
    write-none k mine (before ++ (e ∷ [])) w (else_none (mine e && not (member e before)) 3 _ (else_none (ltb e k) 2 _ h).1).1 i (le_of_suc-le-suc l)

pub writes-none : (k : ℕ) (mine : ℕ → ℕ → Bool) (x : ℕ) (ws : List (List ℕ)) → writes_fault k mine x ws ≡ 0
    → (i : ℕ) → i < length ws → write_fault k (mine (x + i)) [] (get_or ws i []) ≡ 0
unfolding writes_fault
writes-none k mine x [] h i l = absurd (not-suc-le-zero l)
writes-none k mine x (w ∷ ws) h zero l = rw (add-zero x) (first-none (write_fault k (mine x) [] w) _ h).0
writes-none k mine x (w ∷ ws) h (suc i) l =
    let s : x + suc i ≡ suc x + i = omega arith in
    rw s (writes-none k mine (suc x) ws (first-none (write_fault k (mine x) [] w) _ h).1 i (le_of_suc-le-suc l))
