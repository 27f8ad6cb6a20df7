-- 01: "cases that differ only there are the same case": in spare room, or in a bare event's address and value.
-- Assumes nothing.
use Prim.Native.Nat.{ℕ, ◌+◌, ◌*◌, ◌%◌, ◌^◌, ◌<◌}
use native.Mathlib.Omega.{arith}
use mathlib.Core.Path.{◌≡◌, refl, ap, ap₂, ◌∙◌}
use mathlib.Core.Bool.{Bool, true, false, cond}
use mathlib.Core.List.{List}
use lib.ListN.{get_or}
use Rattle.finite.specs.Tests.{count}
use Rattle.finite.specs.Lists.{table}
use Rattle.finite.proofs.Lists.{table_same}
use Rattle.bits.specs.Bit.{bit}
use Rattle.model.specs.Limits.{most_events}
use Rattle.model.specs.Case.{Event, bare}
use Rattle.model.specs.Record.{store_to}
use Rattle.case.specs.declared.Case.{Case as Held}
use Rattle.case.specs.Held.{event_of, events_of, link_count, links_of, case_of}
use Rattle.case.proofs.Masks.{left_same}

-- the counts are equal, and what they count
pub record Same (c d : Held) : Type 0 where
  pub edition : c.edition ≡ d.edition
  pub threads : c.threads ≡ d.threads
  pub addresses : c.addresses ≡ d.addresses
  pub events : c.events ≡ d.events
  pub namelength : c.namelength ≡ d.namelength
  pub initial : (x : ℕ) → x < c.addresses → get_or c.initial x 0 ≡ get_or d.initial x 0
  pub kind : (e : ℕ) → e < c.events → get_or c.kind e 0 ≡ get_or d.kind e 0
  pub thread : (e : ℕ) → e < c.events → get_or c.thread e 0 ≡ get_or d.thread e 0
  pub address : (e : ℕ) → e < c.events → bare (get_or c.kind e 0) ≡ false → get_or c.address e 0 ≡ get_or d.address e 0
  pub value : (e : ℕ) → e < c.events → bare (get_or c.kind e 0) ≡ false → get_or c.value e 0 ≡ get_or d.value e 0
  pub links : link_count c.edition c.dependencies ≡ link_count d.edition d.dependencies
  pub class : (i : ℕ) → i < link_count c.edition c.dependencies → get_or c.class i 0 ≡ get_or d.class i 0
  pub from : (i : ℕ) → i < link_count c.edition c.dependencies → get_or c.from i 0 ≡ get_or d.from i 0
  pub to : (i : ℕ) → i < link_count c.edition c.dependencies → get_or c.to i 0 ≡ get_or d.to i 0
  pub writes : (x i : ℕ) → x < c.addresses → i < count c.events (store_to (case_of c).events x)
      → get_or c.writes (x * most_events + i) 0 ≡ get_or d.writes (x * most_events + i) 0
  pub rows : (p a b : ℕ) → p < c.threads → a < c.events → b < c.events
      → bit (get_or c.rows (p * most_events + a) 0) b ≡ bit (get_or d.rows (p * most_events + a) 0) b
  pub name : (i : ℕ) → i < c.namelength → get_or c.name i 0 ≡ get_or d.name i 0

-- tables of equal lengths with equal elements
tables : {A : Type 0} (n m : ℕ) (f g : ℕ → A) → n ≡ m → ((i : ℕ) → i < n → f i ≡ g i) → table 0 n f ≡ table 0 m g
tables n m f g e h = table_same 0 n f g (λ i a b. h i (omega arith)) ∙ ap (λ (j : ℕ). table 0 j g) e

event-same : (k t a v k' t' a' v' : ℕ) → k ≡ k' → t ≡ t' → (bare k ≡ false → a ≡ a') → (bare k ≡ false → v ≡ v') → event_of k t a v ≡ event_of k' t' a' v'
unfolding event_of
event-same k t a v k' t' a' v' ek et ea ev = rw (← ek, ← et) (by (bare k) ea ev)
  where
    by : (b : Bool) → (b ≡ false → a ≡ a') → (b ≡ false → v ≡ v')
        → ◌≡◌ {A = Event} (cond b (record { kind = k; thread = t; address = 0; value = 0 }) (record { kind = k; thread = t; address = a; value = v }))
        (cond b (record { kind = k; thread = t; address = 0; value = 0 }) (record { kind = k; thread = t; address = a'; value = v' }))
    by true f g = refl
    by false f g = rw (f refl, g refl)

module _ (c d : Held) (S : Same c d) where
  events-same : (case_of c).events ≡ (case_of d).events
  unfolding case_of events_of
  events-same =
      tables c.events d.events _ _ S.events
      (λ e h. event-same _ _ _ _ _ _ _ _ (S.kind e h) (S.thread e h) (S.address e h) (S.value e h))

  stores_same : (x : ℕ) → count c.events (store_to (case_of c).events x) ≡ count d.events (store_to (case_of d).events x)
  stores_same x = ap₂ (λ (k : ℕ) (es : List Event). count k (store_to es x)) S.events events-same

  links_same : (case_of c).dependencies ≡ (case_of d).dependencies
  unfolding case_of links_of
  links_same =
      tables _ _ _ _ S.links (λ i h j. record { class = S.class i h j; from = S.from i h j; to = S.to i h j })

  initials-same : (case_of c).initials ≡ (case_of d).initials
  unfolding case_of
  initials-same = tables c.addresses d.addresses _ _ S.addresses S.initial

  writes-same : (case_of c).writes ≡ (case_of d).writes
  unfolding case_of
  writes-same =
      tables c.addresses d.addresses _ _ S.addresses (λ x h. tables _ _ _ _ (stores_same x) (λ i l. S.writes x i h l))

  orders-same : (case_of c).orders ≡ (case_of d).orders
  unfolding case_of
  orders-same =
      tables c.threads d.threads _ _ S.threads
      (λ p h. tables c.events d.events _ _ S.events
      (λ a l. left_same c.events _ _ (λ b m. S.rows p a b h l m) ∙ ap (λ (k : ℕ). get_or d.rows (p * most_events + a) 0 % 2 ^ k) S.events))

  name-same : (case_of c).name ≡ (case_of d).name
  unfolding case_of
  name-same = tables c.namelength d.namelength _ _ S.namelength S.name

  pub same_case : case_of c ≡ case_of d
  unfolding case_of
  same_case = λ i. record {
    edition = S.edition i;
    n = S.threads i;
    m = S.addresses i;
    k = S.events i;
    initials = initials-same i;
    events = events-same i;
    dependencies = links_same i;
    writes = writes-same i;
    orders = orders-same i;
    name = name-same i;
  }
