-- The refusal of a case that is handed without bytes: 01: "3 or 4 as the reader would for the first bad field"; then 02 (xi)'s 23; 0 if there
-- is none.
-- Orders are taken as sets, so that no pair is out of turn or out of range.
-- Assumes nothing.
use Rattle.std.specs.Prelude.{ℕ, zero, suc, ◌+◌, Bool, not, ◌&&◌, ◌||◌, List, [], ◌∷◌, ◌++◌, leb, ltb, length}
use Rattle.finite.specs.Lists.{every}
use Rattle.model.specs.Limits.{between, least_edition, most_edition, most_threads, most_addresses, most_events, most_dependencies, most_value, most_name}
use Rattle.model.specs.Case.{Case, Event, Dependency, most_kind, bare, most_class, printable}
use Rattle.model.specs.Rules.{or_else}
use Rattle.model.specs.Record.{dependency_good, dependency_rank, member, store_to}

unfoldable pub event_good : (edition n m : ℕ) → Event → Bool
event_good edition n m e =
    leb e.kind (most_kind edition) && ltb e.thread n && (bare e.kind || (ltb e.address m && leb e.value most_value))

-- the first fault that is not 0
abbrev pub first_fault : ℕ → ℕ → ℕ
first_fault zero y = y
first_fault (suc x) y = suc x

-- class, from and to are in their ranges
abbrev pub dependency_within : (k : ℕ) → Dependency → Bool
dependency_within k d = leb d.class most_class && ltb d.from k && ltb d.to k

-- of dependencies, the first of which has to have rank least or above
unfoldable pub dependency_fault : (k : ℕ) (good : Dependency → Bool) (least : ℕ) → List Dependency → ℕ
dependency_fault k good least [] = 0
dependency_fault k good least (d ∷ ds) =
    or_else (dependency_within k d) 3
    (or_else (leb least (dependency_rank k d) && good d) 4 (dependency_fault k good (dependency_rank k d + 1) ds))

-- of a write order, behind those listed before: mine are the stores to its address
unfoldable pub write_fault : (k : ℕ) (mine : ℕ → Bool) → List ℕ → List ℕ → ℕ
write_fault k mine before [] = 0
write_fault k mine before (e ∷ w) =
    or_else (ltb e k) 3 (or_else (mine e && not (member e before)) 4 (write_fault k mine (before ++ (e ∷ [])) w))

-- of the write orders of the addresses from x on
unfoldable pub writes_fault : (k : ℕ) (mine : ℕ → ℕ → Bool) → (x : ℕ) → List (List ℕ) → ℕ
writes_fault k mine x [] = 0
writes_fault k mine x (w ∷ ws) = first_fault (write_fault k (mine x) [] w) (writes_fault k mine (suc x) ws)

-- of a name: 02 (xi): 23 "after its record's 1 to 4"
unfoldable pub name_fault : List ℕ → ℕ
name_fault bs = or_else (leb (length bs) most_name) 3 (or_else (every printable bs) 23 0)

unfoldable pub fault : Case → ℕ
fault c =
    or_else (between least_edition most_edition c.edition) 3
    (or_else (between 1 most_threads c.n) 3
    (or_else (between 1 most_addresses c.m) 3
    (or_else (every (λ v. leb v most_value) c.initials) 3
    (or_else (leb c.k most_events) 3
    (or_else (every (event_good c.edition c.n c.m) c.events) 3
    (or_else (leb (length c.dependencies) most_dependencies) 3
    (first_fault (dependency_fault c.k (dependency_good c.events) 0 c.dependencies)
    (first_fault (writes_fault c.k (store_to c.events) 0 c.writes)
    (name_fault c.name)))))))))
