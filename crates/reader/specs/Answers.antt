-- What the code's answers say, in the model's terms.
-- Assumes nothing.
use Rattle.std.specs.Prelude.{ℕ, ◌-◌, ◌+◌, ◌*◌, ◌≤◌, ◌<◌, ◌≡◌, Bool, ◌&&◌, List, map, length, get_or, set, eqb, ltb, leb, Result, Ok, Err}
use Rattle.number.specs.Reader.{Out, stop, next, Reader, give, ◌>>=◌, turns, refused}
use Rattle.number.specs.declared.Refusal.{Refusal}
use Rattle.model.specs.Limits.{most_threads, most_addresses, most_events, most_dependencies, most_name}
use Rattle.model.specs.Case.{Case, Event, Dependency}
use Rattle.model.specs.Record.{Pair, Rows, Head, Listing, Rest, no_pairs, next_pair}
use Rattle.model.specs.Answers.{Part}
use Rattle.case.specs.Held.{held, pad, rows_of}
use Rattle.reader.specs.declared.Event as an_event
use Rattle.reader.specs.declared.Pair as a_pair
use Rattle.reader.specs.declared.front.Head as a_head
pub use Rattle.reader.specs.Counts.{Counts}
use Rattle.reader.specs.declared.Reading.{Reading}
use Rattle.reader.specs.declared.NamePart.{NamePart}

-- the case that was read, with all room beyond its counts zero, and its length
pub record Read (o : Out Case) (r : Reading) : Type 0 where
  pub c : Case
  pub is_read : o ≡ next c r.length
  pub holds : r.case ≡ held c

-- 01: what reading answers, with the number and the place of a refusal
abbrev pub ReadingOf : Out Case → Result Reading Refusal → Type 0
ReadingOf o (Ok r) = Read o r
ReadingOf o (Err e) = o ≡ refused e

-- the length of a record that starts at a place is counted from there
unfoldable pub counted_from : ℕ → Out Case → Out Case
counted_from at (stop x p) = stop x p
counted_from at (next c i) = next c (i - at)

abbrev pub ReadingFrom : ℕ → Out Case → Result Reading Refusal → Type 0
ReadingFrom at o r = ReadingOf (counted_from at o) r

abbrev pub part_of : Part → NamePart
part_of p = record { at = p.at; length = p.length }

-- What is read without being stored
-- what it is in the model's terms
abbrev pub model_event : an_event.Event → Event
model_event e = record { kind = e.kind; thread = e.thread; address = e.address; value = e.value }

abbrev pub model_pair : a_pair.Pair → Pair
model_pair q = record { a = q.a; b = q.b }

abbrev pub model_head : a_head.Head → Head
model_head h = record { edition = h.edition; n = h.threads; m = h.addresses }

-- the rows of an order, behind the count of its pairs
unfoldable pub pairs : (k i : ℕ) → Reader (List ℕ)
pairs k i = do
  o ← turns i (next_pair k) (no_pairs k)
  give o.rows

-- an order so far, where row a is the number row and its next pair may name low or above
abbrev pub in_row : (k a low row : ℕ) → List ℕ → Rows
in_row k a low row rows = record { least = a * k + low; rows = set rows a row }

-- how many pairs of two bytes are taken at a time
abbrev pub at_once : ℕ
at_once = 8

-- whether a pair is left, and the two bytes at a place are one of row a whose second event is low or above
unfoldable pub follows_at : (s : List ℕ) (at a low left : ℕ) → Bool
follows_at s at a low left = ltb 0 left && (eqb (get_or s at 0) a && leb low (get_or s (at + 1) 0))

-- A run of pairs of row a: the pairs left from a place on, read behind low and row, are those left' from at' on, read behind low' and row'
pub record Ran (s : List ℕ) (k a at low row left at' low' row' left' : ℕ) : Type 0 where
  pub within : (a < k) × (k ≤ most_events)
  pub inside : low' ≤ k
  pub fewer : left' ≤ left
  pub same : (rows : List ℕ) → a < length rows
      → turns left (next_pair k) (in_row k a low row rows) s at ≡ turns left' (next_pair k) (in_row k a low' row' rows) s at'

-- of most pairs that rise left' are not taken: the others are a run for every k that is above them, whatever pairs come behind the most
pub record Rose (s : List ℕ) (a at low row most at' low' row' left' : ℕ) : Type 0 where
  pub fewer : left' ≤ most
  pub up : low ≤ low'
  pub place : at' ≡ at + (most - left') * 2
  pub ran : (k more : ℕ) → (a < k) × (k ≤ most_events) → low' ≤ k → Ran s k a at low row (most + more) at' low' row' (left' + more)

-- what was read up to the place p, and how it is stored
pub record Done {A : Type 0} (Stored : A → Type 0) (o : Out A) (p : ℕ) : Type 0 where
  pub what : A
  pub is : o ≡ next what p
  pub stored : Stored what

-- A reader that stores what it reads: the place or the refusal is the model's, and what is stored is as Stored says
abbrev pub Stores : {A : Type 0} → (A → Type 0) → Out A → Result ℕ Refusal → Type 0
Stores Stored o (Ok p) = Done Stored o p
Stores Stored o (Err e) = o ≡ refused e

-- the same where the answer has a count too
pub record Counted {A : Type 0} (number : A → ℕ) (Stored : A → Type 0) (o : Out A) (k p : ℕ) : Type 0 where
  pub what : A
  pub is : o ≡ next what p
  pub number_is : k ≡ number what
  pub stored : Stored what

abbrev pub StoresCounted : {A : Type 0} → (A → ℕ) → (A → Type 0) → Out A → Result (ℕ × ℕ) Refusal → Type 0
StoresCounted number Stored o (Ok r) = Counted number Stored o r.0 r.1
StoresCounted number Stored o (Err e) = o ≡ refused e

-- a list in an array of n places
pub record Padded (n : ℕ) (array xs : List ℕ) : Type 0 where
  pub stored : array ≡ pad n xs
  pub long : length xs ≤ n

-- lists one behind the other, each at as many places as there may be events
pub record Tabled (n : ℕ) (array : List ℕ) (rs : List (List ℕ)) : Type 0 where
  pub stored : array ≡ pad n (rows_of most_events rs)
  pub long : length (rows_of most_events rs) ≡ length rs * most_events

-- the events in four arrays
pub record Events (kinds threads addresses values : List ℕ) (es : List Event) : Type 0 where
  pub kind : kinds ≡ pad most_events (map (λ e. e.kind) es)
  pub thread : threads ≡ pad most_events (map (λ e. e.thread) es)
  pub address : addresses ≡ pad most_events (map (λ e. e.address) es)
  pub value : values ≡ pad most_events (map (λ e. e.value) es)

-- the dependencies in three arrays
pub record Links (classes froms tos : List ℕ) (ds : List Dependency) : Type 0 where
  pub class : classes ≡ pad most_dependencies (map (λ d. d.class) ds)
  pub from : froms ≡ pad most_dependencies (map (λ d. d.from) ds)
  pub to : tos ≡ pad most_dependencies (map (λ d. d.to) ds)

pub record ListingStored (initial ks ts as' vs : List ℕ) (l : Listing) : Type 0 where
  pub initials : Padded most_addresses initial l.initials
  pub events : Events ks ts as' vs l.events
  pub few : l.k ≤ most_events

pub record RestStored (ws rows bs : List ℕ) (t : Rest) : Type 0 where
  pub writes : Tabled (most_addresses * most_events) ws t.writes
  pub orders : Tabled (most_threads * most_events) rows t.orders
  pub name : Padded most_name bs t.name
