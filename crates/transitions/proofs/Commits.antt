-- What committing one write before another comes to in the struct: the rows with its edges, its conditions, and the state behind it.
-- Assumes nothing.
use Prim.Native.Nat.{ℕ, ◌+◌, ◌≤◌, ◌<◌}
use native.Mathlib.Nat.{le_antisymm}
use native.Mathlib.Omega.{arith}
use native.Mathlib.Decide.{ℕ_discrete}
use mathlib.Core.Path.{◌≡◌, refl, sym, ap, ap₂, ◌∙◌, subst}
use mathlib.Core.Bool.{Bool, true, false, not, ◌&&◌, ◌||◌}
use mathlib.Core.List.{List}
use lib.Dec.{eqb, ltb}
use lib.Bits.{bit_or}
use lib.ListN.{get_or, length, set, length-set}
use lib.Seq.{get_or-set_same, get_or-set_other}
use borrow.Author.Tests.{lt-ltb, eq-eqb, ne_eqb}
use Rattle.std.specs.Prelude.{Ok}
use Rattle.finite.proofs.Tests.{and_l, and-false, some-within}
use Rattle.bits.specs.Bit.{bit}
use Rattle.bits.proofs.Bits.{bit-or}
use Rattle.model.specs.Rules.{or_else}
use Rattle.rows.specs.Sets.{Set}
use Rattle.storage_model.specs.Limits.{most_writes, most_barriers}
use Rattle.storage_model.specs.Trace.{commit}
use Rattle.storage_model.specs.Relation.{Relation, related, acyclic}
use Rattle.storage_model.specs.Subsystem.{State, Event, write, barrier, precedes, events, separated, writes_seen, barriers_seen, committed, to_one_address, unrelated, acyclic_with, failing, effect}
use Rattle.storage_laws.proofs.Listed.{precedes_members}
use Rattle.storage_laws.proofs.Relations.{closure-within, acyclic-same}
use Rattle.storage_laws.proofs.Coherence.{committed_at}
use Rattle.storage.specs.Held.{event_of, list_at, edge_in, rows_held, state_of, held, Good}
use Rattle.storage.specs.declared.Storage.{Storage as Held}
use Rattle.storage.proofs.Events.{write_of}
use Rattle.storage.proofs.Stores.{before-table, rows-edge}
use Rattle.storage.proofs.Means.{writes-of, writes-few, writer_of, writer-within, address-of, events-of, coherent_of, before-size, before_past}
use Rattle.propagated.specs.Lists.{separated_in}
use Rattle.coherence.specs.Rows.{Committed}
use Rattle.transitions.proofs.Ranges.{write_low}
use Rattle.transitions.proofs.Taken.{taken}
use Rattle.transitions.specs.Steps.{Separated, Took}

-- ---- whether two writes are unrelated

-- the test of `unrelated`, by the rows
abbrev pub apart : (before : List ℕ) (x y : ℕ) → Bool
apart before x y = not (edge_in before x y) && not (edge_in before y x)

module _ (before : List ℕ) (x y : ℕ) where
  -- x is before y
  pub is_before : {t : Bool} → t ≡ bit (get_or before y 0) x → t ≡ true → not t ≡ apart before x y
  unfolding edge_in
  is_before e h = ap not h ∙ sym (ap (λ z. not z && not (bit (get_or before x 0) y)) (sym e ∙ h))

  -- x is not before y; whether y is before x, u says
  pub not-before : {t u : Bool} → t ≡ bit (get_or before y 0) x → t ≡ false → u ≡ bit (get_or before x 0) y → not u ≡ apart before x y
  unfolding edge_in
  not-before e h g = ap not g ∙ sym (ap (λ z. not z && not (bit (get_or before x 0) y)) (sym e ∙ h))

-- ---- the rows with the new edges

-- a test that passes below k only
below_only : (a k : ℕ) (t : Bool) → (t ≡ true → a < k) → t ≡ (ltb a k && t)
below_only a k true f = sym (ap (λ z. z && true) (lt-ltb a k (f refl)))
below_only a k false f = sym (and-false (ltb a k))

committed-within : (s : State) (x y a b : ℕ) → related (committed s x y) a b ≡ true → a < writes_seen s
unfolding committed
committed-within s x y a b h = (closure-within (writes_seen s) _ a b h).0

-- they are the rows of the state's order with them
pub rows-committed : (c : Held) → Good c → (x y : ℕ) {r : List ℕ} → x < c.writes → y < c.writes → Committed x y c.before r c.writes
    → r ≡ rows_held c.writes (committed (state_of c) x y)
rows-committed c G x y {r} lx ly C =
    before-table c.writes new r (C.size ∙ before-size c G) (writes-few c G)
    (λ a b l. C.done a b l ∙ sym (edges a b) ∙ below_only a c.writes (related new a b) (within a b))
    (λ b l. C.rest b l ∙ before_past c G b l)
  where
    new : Relation
    new = committed (state_of c) x y

    edges : (a b : ℕ) → related new a b ≡ (edge_in c.before a b || ((eqb a x || edge_in c.before a x) && (eqb b y || edge_in c.before y b)))
    edges a b =
        committed_at (state_of c) G.sound x y a b (rw (writes-of c) lx) (rw (writes-of c) ly)
        ∙ rw (coherent_of c G a b, coherent_of c G a x, coherent_of c G y b)

    within : (a b : ℕ) → related new a b ≡ true → a < c.writes
    within a b h = rw (writes-of c) at (committed-within (state_of c) x y a b h)

-- ---- the writes that a barrier separates

-- the loop of `with_separated`
pub record Separates (c : Held) (old new : List ℕ) (i : ℕ) : Type 0 where
  pub within : i ≤ c.writes
  pub most : c.writes ≤ most_writes
  pub room : length old ≡ most_writes
  pub rows : Separated c old new i

pub separates_begun : (c : Held) → Good c → (old : List ℕ) → length old ≡ most_writes → Separates c old old 0
separates_begun c G old room = record {
  within = omega arith;
  most = writes-few c G;
  room = room;
  rows = record { size = refl; done = λ a b _ l. absurd (omega arith); rest = λ b l. refl };
}

pub separates_all : {c : Held} {old new : List ℕ} {i : ℕ} → Separates c old new i → c.writes ≤ i → Separated c old new c.writes
separates_all {c} {old} {new} h g = subst (λ (m : ℕ). Separated c old new m) (le_antisymm h.within g) h.rows

module _ (c : Held) (G : Good c) where
  -- the list of b's thread says what the state does: the barriers in it were accepted
  separated_of : (a b : ℕ) → a < c.writes → b < c.writes
      → separated_in (list_at c.listed c.events (get_or c.writer b 0)) (event_of a) (event_of b) ≡ separated (state_of c) a b
  unfolding separated separated_in
  separated_of a b la lb =
      rw (write_of a (write_low G la), write_of b (write_low G lb), writer_of c b lb, ← events-of c t (writer-within c G b lb))
      (some-within (barriers_seen (state_of c)) most_barriers (λ z. precedes (write a) (barrier z) l && precedes (barrier z) (write b) l) G.within.few_barriers
      (λ z h. (G.sound.lists t).barriers z (precedes_members (write a) (barrier z) l (and_l _ _ h)).1))
    where
      t : ℕ
      t = get_or c.writer b 0

      l : List Event
      l = events (state_of c) t

  -- one more row
  pub separates_one : {old new : List ℕ} {i r : ℕ} → Separates c old new i → i < c.writes
      → Set r (λ e. separated_in (list_at c.listed c.events (get_or c.writer i 0)) (event_of e) (event_of i))
      → Separates c old (set new i (bit_or (get_or new i 0) r)) (i + 1)
  unfolding edge_in
  separates_one {old} {new} {i} {r} h l s = record {
    within = omega arith;
    most = h.most;
    room = h.room;
    rows = record {
      size = length-set new i v ∙ h.rows.size;
      done = λ a b la lb. here_or_before a b la lb (ℕ_discrete b i);
      rest = λ b lb. get_or-set_other new i b v 0 (λ q. omega (arith, q)) ∙ h.rows.rest b (omega arith);
    };
  }
    where
      v : ℕ
      v = bit_or (get_or new i 0) r

      Done : (a b : ℕ) → Type 0
      Done a b = bit (get_or (set new i v) b 0) a ≡ (bit (get_or old b 0) a || separated (state_of c) a b)

      here : (a : ℕ) → a < c.writes → Done a i
      here a la =
          ap (λ (z : ℕ). bit z a) (get_or-set_same new i v 0 (omega (arith, h.rows.size, h.room, h.most, l)))
          ∙ bit-or (get_or new i 0) r a
          ∙ ap₂ ◌||◌ (ap (λ (z : ℕ). bit z a) (h.rows.rest i (omega arith))) (s.has a ∙ separated_of a i la l)

      here_or_before : (a b : ℕ) → a < c.writes → b < i + 1 → Dec (b ≡ i) → Done a b
      here_or_before a b la lb (yes q) = subst (λ (j : ℕ). Done a j) (sym q) (here a la)
      here_or_before a b la lb (no d) = ap (λ (z : ℕ). bit z a) (get_or-set_other new i b v 0 d) ∙ (unfold edge_in in h.rows.done a b la (omega arith))

  -- no cycle in the rows is no cycle in the state
  pub rows-acyclic : (co : Relation) {old new : List ℕ} {t : Bool} → old ≡ rows_held c.writes co → Separated c old new c.writes
      → t ≡ acyclic c.writes (edge_in new) → t ≡ acyclic_with (state_of c) co
  unfolding acyclic_with
  rows-acyclic co {new = new} e S h = h ∙ acyclic-same c.writes (edge_in new) joined same_edges ∙ ap (λ (k : ℕ). acyclic k joined) (sym (writes-of c))
    where
      joined : ℕ → ℕ → Bool
      joined a b = related co a b || separated (state_of c) a b

      same_edges : (a b : ℕ) → a < c.writes → b < c.writes → edge_in new a b ≡ joined a b
      same_edges a b la lb =
          S.done a b la lb
          ∙ ap (λ (z : Bool). z || separated (state_of c) a b) (ap (λ (r : List ℕ). edge_in r a b) e ∙ rows-edge c.writes co a b la lb)

-- ---- the first condition that fails

-- by the three tests
fails_by : (s : State) (x y : ℕ) {a u k : Bool} → to_one_address s x y ≡ a → unrelated s x y ≡ u → acyclic_with s (committed s x y) ≡ k
    → or_else a 1 (or_else u 2 (or_else k 3 0)) ≡ failing s (commit x y)
unfolding failing
fails_by s x y e f g = rw (e, f, g)

module _ (c : Held) (G : Good c) (x y : ℕ) (lx : x < c.writes) (ly : y < c.writes) where
  one-address : to_one_address (state_of c) x y ≡ eqb (get_or c.address x 0) (get_or c.address y 0)
  unfolding to_one_address
  one-address = rw (address-of c x lx, address-of c y ly)

  apart_of : unrelated (state_of c) x y ≡ apart c.before x y
  unfolding unrelated
  apart_of = rw (coherent_of c G x y, coherent_of c G y x)

  -- two addresses
  pub two_addresses : (get_or c.address x 0 ≡ get_or c.address y 0 → ⊥) → 1 ≡ failing (state_of c) (commit x y)
  two_addresses d = fails_by (state_of c) x y (one-address ∙ ne_eqb _ _ d) refl refl

  module _ (e : get_or c.address x 0 ≡ get_or c.address y 0) {u : Bool} (f : u ≡ apart c.before x y) where
    to_one : to_one_address (state_of c) x y ≡ true
    to_one = one-address ∙ eq-eqb (get_or c.address x 0) (get_or c.address y 0) e

    -- already related by coherence
    pub related_already : u ≡ false → 2 ≡ failing (state_of c) (commit x y)
    related_already h = fails_by (state_of c) x y to_one (apart_of ∙ sym f ∙ h) refl

    -- a cycle
    pub makes_cycle : {k : Bool} → u ≡ true → k ≡ acyclic_with (state_of c) (committed (state_of c) x y) → k ≡ false → 3 ≡ failing (state_of c) (commit x y)
    makes_cycle {k} h g i = fails_by (state_of c) x y to_one (apart_of ∙ sym f ∙ h) (sym g ∙ i)

    -- none
    pub none-fails : {k : Bool} → u ≡ true → k ≡ acyclic_with (state_of c) (committed (state_of c) x y) → k ≡ true → 0 ≡ failing (state_of c) (commit x y)
    none-fails {k} h g i = fails_by (state_of c) x y to_one (apart_of ∙ sym f ∙ h) (sym g ∙ i)

-- ---- the state behind the step

-- the struct with other rows
abbrev pub with_rows : Held → List ℕ → Held
with_rows c rows = record {
  threads = c.threads;
  addresses = c.addresses;
  initial = c.initial;
  writes = c.writes;
  writer = c.writer;
  address = c.address;
  value = c.value;
  before = rows;
  barriers = c.barriers;
  owner = c.owner;
  class = c.class;
  unacknowledged = c.unacknowledged;
  listed = c.listed;
  events = c.events;
}

rows-effect : (c : Held) → Good c → (x y : ℕ) → with_rows c (rows_held c.writes (committed (state_of c) x y)) ≡ held (effect (state_of c) (commit x y))
unfolding held effect
rows-effect c G x y = ap₂ with_rows G.same (ap (λ (k : ℕ). rows_held k (committed (state_of c) x y)) (sym (writes-of c)))

-- the rows with the new edges are all that the step changes
pub took_commit : (c : Held) → Good c → (x y : ℕ) {rows : List ℕ} → rows ≡ rows_held c.writes (committed (state_of c) x y)
    → 0 ≡ failing (state_of c) (commit x y) → Took c (commit x y) (Ok (with_rows c rows))
took_commit c G x y e h = taken c (commit x y) h (ap (with_rows c) e ∙ rows-effect c G x y)
