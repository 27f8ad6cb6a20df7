-- Cases that keep the limits of 01, "What a case may hold", and of the layout: those that a record gives (theorem `readable-iff` of
-- `laws`), and those that are handed without fault (`faultless`, `fits_of`).
-- Assumes nothing.
use Rattle.std.specs.Prelude.{ℕ, ◌≤◌, ◌<◌, ◌^◌, ◌≡◌, Bool, true, false, not, cond, ◌&&◌, List, [], ◌∷◌, ◌++◌, eqb, leb, length}
use Rattle.finite.specs.Tests.{count}
use Rattle.finite.specs.Lists.{every, All, AllFrom}
use Rattle.number.specs.Number.{groups}
use Rattle.model.specs.Limits.{least_edition, most_edition, second, most_threads, most_addresses, most_events, most_dependencies, most_value, most_name}
use Rattle.model.specs.Case.{Case, Event, Dependency, most_kind, bare, most_class, printable}
use Rattle.model.specs.Record.{dependency_good, dependency_rank, least_after, member, store_to}

-- an event's numbers are in their ranges; a bare one's address and value hold 0
pub record EventFits (edition n m : ℕ) (e : Event) : Type 0 where
  pub kind : e.kind ≤ most_kind edition
  pub thread : e.thread < n
  pub address : bare e.kind ≡ false → e.address < m
  pub value : bare e.kind ≡ false → e.value ≤ most_value
  pub no_address : bare e.kind ≡ true → e.address ≡ 0
  pub no_value : bare e.kind ≡ true → e.value ≡ 0

-- class, from and to are in their ranges
pub record DependencyFits (k : ℕ) (d : Dependency) : Type 0 where
  pub class : d.class ≤ most_class
  pub from : d.from < k
  pub to : d.to < k

-- each is good, and of higher rank than those before it
abbrev pub DependenciesFit : (k : ℕ) (good : Dependency → Bool) → List Dependency → List Dependency → Type 0
DependenciesFit k good before [] = Unit {0}
DependenciesFit k good before (d ∷ ds) =
    DependencyFits k d × ((leb (least_after k before) (dependency_rank k d) && good d) ≡ true) × DependenciesFit k good (before ++ (d ∷ [])) ds

-- w lists stores of mine, none of them listed before
abbrev pub WriteFits : (k : ℕ) (mine : ℕ → Bool) → List ℕ → List ℕ → Type 0
WriteFits k mine before [] = Unit {0}
WriteFits k mine before (e ∷ w) = (e < k) × ((mine e && not (member e before)) ≡ true) × WriteFits k mine (before ++ (e ∷ [])) w

-- each write order lists all the stores to its address
abbrev pub WritesFit : (k : ℕ) (mine : ℕ → ℕ → Bool) → List (List ℕ) → List (List ℕ) → Type 0
WritesFit k mine before [] = Unit {0}
WritesFit k mine before (w ∷ ws) =
    (length w ≡ count k (mine (length before))) × WriteFits k (mine (length before)) [] w × WritesFit k mine (before ++ (w ∷ [])) ws

-- an order's rows: one for each of k events, with no bit past the last
abbrev pub RowsFit : (k : ℕ) → List ℕ → Type 0
RowsFit k rows = (length rows ≡ k) × All (λ r. r < 2 ^ k) rows

-- a case keeps the limits, and its lists are as long as its counts say
pub record Fits (c : Case) : Type 0 where
  pub edition_least : least_edition ≤ c.edition
  pub edition_most : c.edition ≤ most_edition
  pub n_least : 1 ≤ c.n
  pub n_most : c.n ≤ most_threads
  pub m_least : 1 ≤ c.m
  pub m_most : c.m ≤ most_addresses
  pub k_most : c.k ≤ most_events
  pub m : c.m ≡ length c.initials
  pub initials : All (λ v. v ≤ most_value) c.initials
  pub k : c.k ≡ length c.events
  pub events : All (EventFits c.edition c.n c.m) c.events
  pub no_dependencies : second c.edition ≡ false → c.dependencies ≡ []
  pub dependencies_most : length c.dependencies ≤ most_dependencies
  pub dependencies : DependenciesFit c.k (dependency_good c.events) [] c.dependencies
  pub m' : c.m ≡ length c.writes
  pub writes : WritesFit c.k (store_to c.events) [] c.writes
  pub n : c.n ≡ length c.orders
  pub orders : All (RowsFit c.k) c.orders
  pub name : length c.name ≤ most_name
  pub name_printable : every printable c.name ≡ true

-- what every struct has, with or without fault (theorem `shaped` of `case`): the lists are as long as the counts say, edition 1 has no
-- dependencies, a bare event's address and value hold 0, and rows have no bit past the last event
pub record Shaped (c : Case) : Type 0 where
  pub m : c.m ≡ length c.initials
  pub k : c.k ≡ length c.events
  pub no_address : All (λ e. bare e.kind ≡ true → e.address ≡ 0) c.events
  pub no_value : All (λ e. bare e.kind ≡ true → e.value ≡ 0) c.events
  pub no_dependencies : second c.edition ≡ false → c.dependencies ≡ []
  pub m' : c.m ≡ length c.writes
  pub writes : AllFrom (λ x w. length w ≡ count c.k (store_to c.events x)) 0 c.writes
  pub n : c.n ≡ length c.orders
  pub orders : All (RowsFit c.k) c.orders

-- P holds of every number that the record of a case has, but for those of the thread orders, which are taken as sets
pub record Numbers (P : ℕ → Type 0) (c : Case) : Type 0 where
  pub edition : P c.edition
  pub n : P c.n
  pub m : P c.m
  pub initials : All P c.initials
  pub k : P c.k
  pub events : All (λ e. P e.kind × P e.thread × P e.address × P e.value) c.events
  pub dependencies_count : P (length c.dependencies)
  pub dependencies : All (λ d. P d.class × P d.from × P d.to) c.dependencies
  pub writes : All (All P) c.writes
  pub name_count : P (length c.name)

-- the layout can state the case: no number has more groups than there may be
abbrev pub Stated : Case → Type 0
Stated c = Numbers (λ v. v < 128 ^ groups) c

-- the fault of a case whose record is refused with x: a number of too many groups, which reading refuses with 2, is one outside its
-- range, 3, where there are no bytes
abbrev pub as_fault : ℕ → ℕ
as_fault x = cond (eqb x 2) 3 x
