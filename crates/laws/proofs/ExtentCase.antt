-- How far the reader of a record looks, and what further bytes don't change: an acceptance, a refusal other than 1.
-- Assumes nothing.
use Prim.Native.Nat.{ℕ, zero, suc, ◌+◌, ◌-◌, ◌*◌, ◌≤◌, ◌<◌}
use native.Mathlib.Nat.{mul-le-mul, mul-le-mul_right, add-mul, le_refl, le_trans}
use native.Mathlib.Omega.{arith}
use mathlib.Core.Path.{◌≡◌, refl, ap, ◌∙◌}
use mathlib.Core.Bool.{Bool, true, false, cond}
use mathlib.Core.List.{List, [], ◌++◌}
use lib.Dec.{lit≤}
use lib.ListN.{length, take, drop}
use Rattle.finite.specs.Tests.{count}
use Rattle.finite.specs.Lists.{every}
use Rattle.number.specs.Number.{read_groups, read_number, finish, encode, encode_by}
use Rattle.number.specs.Reader.{Out, stop, next, give, ◌>>=◌, turns, another, up_to, within, unless, below}
use Rattle.codec.proofs.Extent.{split_all, Extent, Any, Looks, Taken, further, extent_give, extent_then, extent_bind, extent_wider, extent_last, extent_unless, extent_turns, extent_turns_most, extent_another, extent_further, extent_times, extent_up_to, extent_within, extent_most, extent_below, extent_under, extent_part}
use Rattle.model.specs.Limits.{least_edition, most_edition, second, most_threads, most_addresses, most_events, most_dependencies, most_value, most_name}
use Rattle.model.specs.Case.{Case, Event, Dependency, most_kind, bare, most_class, printable}
use Rattle.model.specs.Bound.{size, most_event_bytes, most_order_bytes, most_dependency_bytes, most_link_bytes, most_bytes}
use Rattle.model.specs.Record.{event, Head, head, listing, dependency, dependency_good, rising_dependency, rising_dependencies, least_after, dependencies, store_to, member, unlisted, write_order, next_write_order, Rows, pair, rising_pair, next_pair, no_pairs, order, bytes, printable_front, printed, text, rest, case, read}
use Rattle.laws.proofs.Parts.{kinds_most}
use Rattle.laws.proofs.Bound.{stores, stores_most}

-- ---- the parts of a record

extent_event : (edition n m : ℕ) → n ≤ most_threads → m ≤ most_addresses → Extent further (event edition n m) most_event_bytes Any
unfolding event most_event_bytes
extent_event edition n m hn hm =
    extent_bind (extent_most (most_kind edition) (most_kind most_edition) (le_trans (kinds_most edition) (unfold most_kind in lit≤ tt))) (λ kind _.
    extent_bind (extent_below n (most_threads - 1) (omega arith)) (λ thread _. go kind thread (bare kind)))
  where
    go : (kind thread : ℕ) (x : Bool)
        → Extent {A = Event} further (cond x (give (record { kind = kind; thread = thread; address = 0; value = 0 }))
        (below m >>= λ a. up_to most_value >>= λ v. give (record { kind = kind; thread = thread; address = a; value = v })))
        (size (most_addresses - 1) + size most_value) Any
    go kind thread true = extent_wider _ (extent_give _ tt) (omega arith)
    go kind thread false = extent_bind (extent_below m (most_addresses - 1) (omega arith)) (λ a _. extent_last _ (extent_up_to most_value) (λ _ _. tt))

-- a number of an event is read up to k, so that one may be looked at as far as the greatest k
abbrev most_dependency_looked : ℕ
most_dependency_looked = size most_class + (size most_events + size most_events)

extent_dependency : (k : ℕ) → k ≤ most_events → Extent further (dependency k) most_dependency_looked Any
unfolding dependency
extent_dependency k l =
    extent_bind (extent_up_to most_class) (λ class _.
    extent_bind (extent_under k most_events l) (λ from _. extent_last _ (extent_under k most_events l) (λ _ _. tt)))

abbrev most_dependencies_looked : ℕ
most_dependencies_looked = size most_dependencies + most_dependencies * most_dependency_looked

-- dependencies of either edition
extent_dependencies : (edition k : ℕ) (good : Dependency → Bool) → k ≤ most_events → Extent further (dependencies edition k good) most_dependencies_looked Any
unfolding dependencies rising_dependency rising_dependencies
extent_dependencies edition k good l = go (second edition)
  where
    step : (before : List Dependency) → Extent further (another (rising_dependency k (least_after k before) good) before) most_dependency_looked Any
    step before = extent_further (extent_unless 4 _ (lit≤ tt) (extent_dependency k l)) before

    some : (i : ℕ) → i ≤ most_dependencies → Extent further (rising_dependencies k good i) (most_dependencies * most_dependency_looked) Any
    some i h = extent_turns_most step i most_dependencies h []

    go : (x : Bool) → Extent further (cond x (up_to most_dependencies >>= rising_dependencies k good) (give [])) most_dependencies_looked Any
    go true = extent_bind (extent_up_to most_dependencies) some
    go false = extent_wider _ (extent_give [] tt) (omega arith)

extent_pair : (k : ℕ) → k ≤ most_events → Extent further (pair k) (size (most_events - 1) + size (most_events - 1)) Any
unfolding pair
extent_pair k l =
    extent_bind (extent_below k (most_events - 1) (omega arith)) (λ a _. extent_last _ (extent_below k (most_events - 1) (omega arith)) (λ _ _. tt))

extent_order : (k : ℕ) → k ≤ most_events → Extent further (order k) most_order_bytes Any
unfolding order most_order_bytes next_pair rising_pair
extent_order k l =
    let square : k * k ≤ most_events * most_events = mul-le-mul l l in
    extent_bind (extent_most (k * k) (most_events * most_events) square) (λ i h.
    extent_last _ (extent_turns_most step i (most_events * most_events) (le_trans h square) (no_pairs k)) (λ _ _. tt))
  where
    step : (o : Rows) → Extent further (next_pair k o) (size (most_events - 1) + size (most_events - 1)) Any
    step o = extent_last _ (extent_unless 4 _ (lit≤ tt) (extent_pair k l)) (λ _ _. tt)

-- ---- write orders: all of them together list no event twice

extent_write : (k : ℕ) (mine : ℕ → Bool) → k ≤ most_events → Extent further (write_order k mine) (count k mine * size (most_events - 1)) Any
unfolding write_order unlisted
extent_write k mine l = extent_turns step (count k mine) []
  where
    step : (before : List ℕ) → Extent further (another (unlisted k mine (λ e. member e before)) before) (size (most_events - 1)) Any
    step before = extent_further (extent_unless 4 _ (lit≤ tt) (extent_below k (most_events - 1) (omega arith))) before

-- of i addresses, behind those of the addresses x before
extent_writes_from : (es : List Event) (k : ℕ) → k ≤ most_events → (i x : ℕ) (ws : List (List ℕ)) → length ws ≡ x
    → Extent further (turns i (next_write_order k (store_to es)) ws) (stores es x i k * size (most_events - 1)) Any
unfolding turns
extent_writes_from es k l zero x ws e = extent_wider _ (extent_give ws tt) (omega arith)
extent_writes_from es k l (suc i) x ws e =
    extent_wider _
    (extent_bind (extent_another (extent_write k (store_to es (length ws)) l) ws) (λ vs h. extent_writes_from es k l i (suc x) vs (h ∙ ap suc e)))
    (rw (e, add-mul) (le_refl _))

extent_writes : (es : List Event) (k m : ℕ) → k ≤ most_events → Extent further (turns m (next_write_order k (store_to es)) []) (most_events * size (most_events - 1)) Any
extent_writes es k m l =
    extent_wider _ (extent_writes_from es k l m 0 [] refl) (mul-le-mul_right (size (most_events - 1)) (omega (arith, stores_most es 0 m k)))

-- ---- the name

extent_text : (i : ℕ) → Extent 0 (text i) i Any
unfolding text
extent_text i = record { run = λ s at l. go s at (bytes i s at) (extent_bytes.run s at l) }
  where
    extent_bytes : Extent 0 (bytes i) i Any
    extent_bytes = extent_part (bytes i) i (λ s at. unfold bytes in refl)

    go : (s : List ℕ) (at : ℕ) (o : Out (List ℕ)) → Looks (bytes i) i (i + 0) Any s at o → Looks (text i) i (i + 0) Any s at (printed at o)
    go s at (stop x p) S = record { least = S.least; end = S.end; stays = λ n t. ap (printed at) (S.stays n t) }
    go s at (next w p) T = by (every printable w) refl
      where
        by : (y : Bool) → every printable w ≡ y → Looks (text i) i (i + 0) Any s at (cond y (next w p) (stop 23 (at + printable_front w)))
        by true e = record { from = T.from; inside = T.inside; most = T.most; front = λ t. ap (printed at) (T.front t) ∙ rw e; fits = tt }
        by false e = record {
          least = lit≤ tt;
          end = λ h. omega arith;
          stays = λ n t. ap (printed at) (ap (λ (z : List ℕ). bytes i z at) (split_all p s t) ∙ T.front (drop p s ++ t)) ∙ rw e;
        }

-- ---- the record

abbrev HeadSmall : Head → Type 0
HeadSmall h = (h.n ≤ most_threads) × (h.m ≤ most_addresses)

extent_head : Extent further head (size most_edition + (size most_threads + size most_addresses)) HeadSmall
unfolding head
extent_head =
    extent_bind (extent_within least_edition most_edition) (λ e _.
    extent_bind (extent_within 1 most_threads) (λ n hn.
    extent_last _ (extent_within 1 most_addresses) (λ m hm. (hn, hm))))

abbrev most_listing_bytes : ℕ
most_listing_bytes = most_addresses * size most_value + (size most_events + most_events * most_event_bytes)

extent_listing : (edition n m : ℕ) → n ≤ most_threads → m ≤ most_addresses → Extent further (listing edition n m) most_listing_bytes (λ l. l.k ≤ most_events)
unfolding listing
extent_listing edition n m hn hm =
    extent_bind (extent_times (extent_up_to most_value) m most_addresses hm) (λ initials _.
    extent_bind (extent_up_to most_events) (λ k hk.
    extent_last _ (extent_times (extent_event edition n m hn hm) k most_events hk) (λ es _. hk)))

abbrev most_rest_bytes : ℕ
most_rest_bytes = most_events * size (most_events - 1) + (most_threads * most_order_bytes + (size most_name + most_name))

-- the bytes of a name are more than the further groups of a number: a record that ends early is no longer than one
extent_rest : (es : List Event) (n m k : ℕ) → n ≤ most_threads → k ≤ most_events → Extent 0 (rest n m k (store_to es)) most_rest_bytes Any
unfolding rest
extent_rest es n m k hn hk =
    extent_then (omega arith) (extent_writes es k m hk) (λ ws _.
    extent_then (omega arith) (extent_times (extent_order k hk) n most_threads hn) (λ os _.
    extent_then (omega arith) (extent_up_to most_name) (λ i hi.
    extent_last _ (extent_wider most_name (extent_text i) hi) (λ _ _. tt))))

-- the most bytes that the reader of a record looks at: where it has both the most dependencies and a store for every event
abbrev most_looked : ℕ
most_looked = size most_edition + (size most_threads + size most_addresses) + (most_listing_bytes + (most_dependencies_looked + most_rest_bytes))

extent_case : Extent 0 case most_looked Any
unfolding case
extent_case =
    extent_then (omega arith) extent_head (λ h H.
    extent_then (omega arith) (extent_listing h.edition h.n h.m H.0 H.1) (λ l L.
    extent_then (omega arith) (extent_dependencies h.edition l.k (dependency_good l.events) L) (λ ds _.
    extent_last _ (extent_rest l.events h.n h.m l.k H.0 L) (λ _ _. tt))))

-- which no record has; it is one byte more than the longest record takes
looked_most : most_looked ≤ most_bytes most_edition + 1
unfolding most_bytes most_link_bytes most_event_bytes most_order_bytes most_dependency_bytes most_kind encode encode_by
looked_most = lit≤ tt

-- ---- what reading says

looks : (s : List ℕ) (o : Out Case) → read s ≡ o → Looks case most_looked (most_looked + 0) Any s 0 o
unfolding read
looks s o e = rw e at (extent_case.run s 0 (omega arith))

-- a refusal has a number
pub refusal-least : (s : List ℕ) (x p : ℕ) → read s ≡ stop x p → 1 ≤ x
refusal-least s x p e = (looks s (stop x p) e).least

-- a refusal other than 1 stays when further bytes follow
pub refusal_stays : (s : List ℕ) (x p : ℕ) → read s ≡ stop x p → (x ≡ 1 → ⊥) → (t : List ℕ) → read (s ++ t) ≡ stop x p
unfolding read
refusal_stays s x p e n t = (looks s (stop x p) e).stays n t

-- bytes that end inside a record are no more than the longest record has
pub ends_near : (s : List ℕ) (p : ℕ) → read s ≡ stop 1 p → length s ≤ most_bytes most_edition
ends_near s p e = omega (arith, (looks s (stop 1 p) e).end refl, looked_most)

pub read_none : read [] ≡ stop 1 0
unfolding read case head within unless up_to read_number read_groups finish
read_none = refl

-- nothing is no record
no_record : (i : ℕ) (s : List ℕ) (c : Case) → read (take i s ++ []) ≡ next c i → 0 < i
no_record zero s c e = let z : ◌≡◌ {A = ℕ} 0 1 = clash read_none e in absurd (omega arith)
  where
    clash : read [] ≡ stop 1 0 → read [] ≡ next c 0 → ◌≡◌ {A = ℕ} 0 1
    clash p q = cc
no_record (suc i) s c e = omega arith

-- a record has some bytes, lies within those that were read, and is read whatever lies behind it; of any numbers, bytes or not, it takes
-- no more than the reader looks at (of bytes: `most_bytes`)
pub record Accepted (s : List ℕ) (c : Case) (i : ℕ) : Type 0 where
  pub some : 0 < i
  pub inside : i ≤ length s
  pub most : i ≤ most_bytes most_edition + 1
  pub front : (t : List ℕ) → read (take i s ++ t) ≡ next c i

pub accepted : (s : List ℕ) (c : Case) (i : ℕ) → read s ≡ next c i → Accepted s c i
unfolding read
accepted s c i e =
    let T : Taken case most_looked Any s 0 c i = looks s (next c i) e in
    record { some = no_record i s c (T.front []); inside = T.inside; most = omega (arith, T.most, looked_most); front = T.front }

-- acceptance stays when further bytes follow
pub acceptance_stays : (s : List ℕ) (c : Case) (i : ℕ) → read s ≡ next c i → (t : List ℕ) → read (s ++ t) ≡ next c i
acceptance_stays s c i e t = ap read (split_all i s t) ∙ (accepted s c i e).front (drop i s ++ t)
