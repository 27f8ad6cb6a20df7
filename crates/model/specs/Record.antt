-- The record, byte by byte: what reading it answers (01, "The record, byte by byte").
-- Assumes nothing.
use Rattle.std.specs.Prelude.{ℕ, suc, ◌+◌, ◌*◌, ◌^◌, Bool, false, not, cond, ◌&&◌, ◌||◌, List, [], ◌∷◌, map, eqb, leb, ltb, length, get_or, take, drop, set, replicate}
use Rattle.std.specs.Int.Bits.{bit_or}
use Rattle.finite.specs.Tests.{count}
use Rattle.finite.specs.Lists.{every}
use Rattle.number.specs.Reader.{Out, stop, next, Reader, give, ◌>>=◌, unless, turns, another, times, up_to, within, below, under}
use Rattle.model.specs.Limits.{least_edition, most_edition, second, most_threads, most_addresses, most_events, most_dependencies, most_value, most_name}
use Rattle.model.specs.Case.{Case, Event, Dependency, no_event, load, store, most_kind, bare, by_address, most_class, printable}
use Rattle.model.specs.Rules.{last_of}

-- kind, thread, and unless the kind is bare, address and value
unfoldable pub event : (edition n m : ℕ) → Reader Event
event edition n m = do
  kind ← up_to (most_kind edition)
  thread ← below n
  cond (bare kind) (give (record { kind = kind; thread = thread; address = 0; value = 0 })) (do
    address ← below m
    value ← up_to most_value
    give (record { kind = kind; thread = thread; address = address; value = value }))

-- class, from, to
unfoldable pub dependency : ℕ → Reader Dependency
dependency k = do
  class ← up_to most_class
  from ← under k
  to ← under k
  give (record { class = class; from = from; to = to })

-- 02 (vi): "From must be a load listed earlier in the same thread, to a load or store; data and control must end in a store"
unfoldable pub dependency_good : List Event → Dependency → Bool
dependency_good es d =
    eqb (get_or es d.from no_event).kind load && ltb d.from d.to
    && eqb (get_or es d.from no_event).thread (get_or es d.to no_event).thread
    && not (bare (get_or es d.to no_event).kind)
    && (eqb d.class by_address || eqb (get_or es d.to no_event).kind store)

-- 02 (vi): "strictly rising by from, to, class": by this rank
abbrev pub dependency_rank : ℕ → Dependency → ℕ
dependency_rank k d = (d.from * k + d.to) * (most_class + 1) + d.class

-- the least rank that the next one may have
unfoldable pub least_after : ℕ → List Dependency → ℕ
least_after k ds = last_of 0 (map (λ d. dependency_rank k d + 1) ds)

-- 02 (vi): "else 4 at the class, once all three are read"
unfoldable pub rising_dependency : (k least : ℕ) (good : Dependency → Bool) → Reader Dependency
rising_dependency k least good = unless 4 (λ d. leb least (dependency_rank k d) && good d) (dependency k)

-- i of them, each behind those read before
unfoldable pub rising_dependencies : (k : ℕ) (good : Dependency → Bool) (i : ℕ) → Reader (List Dependency)
rising_dependencies k good i = turns i (λ before. another (rising_dependency k (least_after k before) good) before) []

-- 02 (vi): "Edition 2 adds, after the events, a count up to 96 of dependencies"
unfoldable pub dependencies : (edition k : ℕ) (good : Dependency → Bool) → Reader (List Dependency)
dependencies edition k good = cond (second edition) (up_to most_dependencies >>= rising_dependencies k good) (give [])

unfoldable pub member : ℕ → List ℕ → Bool
member x [] = false
member x (y ∷ ys) = eqb x y || member x ys

-- event e is a store to x
unfoldable pub store_to : List Event → (x e : ℕ) → Bool
store_to es x e = eqb (get_or es e no_event).kind store && eqb (get_or es e no_event).address x

-- the number of an event below k that is one of mine and not listed before; else 4
unfoldable pub unlisted : (k : ℕ) (mine listed : ℕ → Bool) → Reader ℕ
unlisted k mine listed = unless 4 (λ e. mine e && not (listed e)) (below k)

-- as many of them as there are: 01: "each store exactly once (no count is written)"
unfoldable pub write_order : (k : ℕ) (mine : ℕ → Bool) → Reader (List ℕ)
write_order k mine = turns (count k mine) (λ before. another (unlisted k mine (λ e. member e before)) before) []

-- one more address's write order: mine x are the stores to x
abbrev pub next_write_order : (k : ℕ) (mine : ℕ → ℕ → Bool) → List (List ℕ) → Reader (List (List ℕ))
next_write_order k mine ws = another (write_order k (mine (length ws))) ws

-- a before b
pub record Pair : Type 0 where
  pub a : ℕ
  pub b : ℕ

unfoldable pub pair : ℕ → Reader Pair
pair k = do
  a ← below k
  b ← below k
  give (record { a = a; b = b })

-- 01: "Pairs rise strictly, by a and then by b": by this rank
abbrev pub rank : ℕ → Pair → ℕ
rank k p = p.a * k + p.b

-- a pair of rank least or above; else 4
unfoldable pub rising_pair : (k least : ℕ) → Reader Pair
rising_pair k least = unless 4 (λ p. leb least (rank k p)) (pair k)

-- an order so far: the least rank that its next pair may have, and by event a the number whose bit b says that a comes before b
pub record Rows : Type 0 where
  pub least : ℕ
  pub rows : List ℕ

abbrev pub no_pairs : ℕ → Rows
no_pairs k = record { least = 0; rows = replicate k 0 }

abbrev pub with_pair : ℕ → Rows → Pair → Rows
with_pair k o p = record { least = rank k p + 1; rows = set o.rows p.a (bit_or (get_or o.rows p.a 0) (2 ^ p.b)) }

unfoldable pub next_pair : ℕ → Rows → Reader Rows
next_pair k o = do
  p ← rising_pair k o.least
  give (with_pair k o p)

-- 01: "a count from 0 to k·k, then that many pairs"
unfoldable pub order : ℕ → Reader (List ℕ)
order k = do
  i ← up_to (k * k)
  o ← turns i (next_pair k) (no_pairs k)
  give o.rows

-- i bytes as they are; 1 at their first where they end
unfoldable pub bytes : ℕ → Reader (List ℕ)
bytes i s at = cond (leb (at + i) (length s)) (next (take i (drop at s)) (at + i)) (stop 1 at)

-- how many bytes stand before the first that is not printable
unfoldable pub printable_front : List ℕ → ℕ
printable_front [] = 0
printable_front (b ∷ bs) = cond (printable b) (suc (printable_front bs)) 0

-- 02 (xi): "otherwise 23 at the first bad byte": of bytes that were read from at on
abbrev pub printed : (at : ℕ) → Out (List ℕ) → Out (List ℕ)
printed at (stop x p) = stop x p
printed at (next bs p) = cond (every printable bs) (next bs p) (stop 23 (at + printable_front bs))

-- i bytes that are printable: 02 (xi): 23 stands "after its record's 1 to 4"
unfoldable pub text : ℕ → Reader (List ℕ)
text i s at = printed at (bytes i s at)

pub record Head : Type 0 where
  pub edition : ℕ
  pub n : ℕ
  pub m : ℕ

-- 01, field 1: edition, n, m
unfoldable pub head : Reader Head
head = do
  edition ← within least_edition most_edition
  n ← within 1 most_threads
  m ← within 1 most_addresses
  give (record { edition = edition; n = n; m = m })

pub record Listing : Type 0 where
  pub initials : List ℕ
  pub k : ℕ
  pub events : List Event

-- 01, fields 1 and 2: m initial values; k, then k events in listing order
unfoldable pub listing : (edition n m : ℕ) → Reader Listing
listing edition n m = do
  initials ← times m (up_to most_value)
  k ← up_to most_events
  es ← times k (event edition n m)
  give (record { initials = initials; k = k; events = es })

pub record Rest : Type 0 where
  pub writes : List (List ℕ)
  pub orders : List (List ℕ)
  pub name : List ℕ

-- 01, fields 3 to 5: for each address its write order, for each thread its order, the name's length and its bytes
unfoldable pub rest : (n m k : ℕ) (mine : ℕ → ℕ → Bool) → Reader Rest
rest n m k mine = do
  writes ← turns m (next_write_order k mine) []
  orders ← times n (order k)
  i ← up_to most_name
  name ← text i
  give (record { writes = writes; orders = orders; name = name })

unfoldable pub case : Reader Case
case = do
  h ← head
  l ← listing h.edition h.n h.m
  ds ← dependencies h.edition l.k (dependency_good l.events)
  t ← rest h.n h.m l.k (store_to l.events)
  give (record {
    edition = h.edition;
    n = h.n;
    m = h.m;
    k = l.k;
    initials = l.initials;
    events = l.events;
    dependencies = ds;
    writes = t.writes;
    orders = t.orders;
    name = t.name;
  })

-- 01: bytes are readable when reading them answers 0. The case and the record's length, or the refusal and its place
unfoldable pub read : List ℕ → Out Case
read s = case s 0
