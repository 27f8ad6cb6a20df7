-- The case that a struct means, by the struct's arrays: its stores, its write orders and its fault.
-- Assumes nothing.
use Prim.Native.Nat.{ℕ, suc, ◌+◌, ◌*◌, ◌≤◌, ◌<◌}
use mathlib.Core.Path.{◌≡◌, refl, sym, ap, ap₂, ◌∙◌}
use mathlib.Core.Bool.{Bool, true, false, not, ◌&&◌, false≢true}
use mathlib.Core.List.{List, [], ◌∷◌, ◌++◌}
use lib.Dec.{eqb, leb, ltb}
use lib.ListN.{length, get_or}
use borrow.Author.Tests.{eqb-true, ltb-true, le-leb, lt-leb}
use Rattle.finite.specs.Tests.{all, count}
use Rattle.finite.specs.Lists.{table}
use Rattle.finite.proofs.Tests.{is_false, count_same}
use Rattle.finite.proofs.Lists.{table_get, table_same, table-length}
use Rattle.model.specs.Limits.{between, least_edition, most_edition, most_threads, most_addresses, most_events, most_dependencies, most_value, most_name}
use Rattle.model.specs.Case.{Event, Dependency, no_event, store, bare, printable}
use Rattle.model.specs.Rules.{or_else}
use Rattle.model.specs.Record.{member, store_to}
use Rattle.model.specs.Fault.{event_good, first_fault, dependency_fault, write_fault, writes_fault, name_fault, fault}
use Rattle.model.proofs.Faultless.{else_first}
use Rattle.case.specs.declared.Case.{Case as Held}
use Rattle.case.specs.Held.{event_of, events_of, link_count, links_of, good_at, links_fault, case_of}
use Rattle.case.specs.Stores.{store_at, writes_at}
use Rattle.case.proofs.Events.{event_by}
use Rattle.case.proofs.Faults.{every-table}
use Rattle.case.proofs.Links.{goods_same}
use Rattle.case.proofs.WriteOrders.{first-fault}

-- ---- stores
bare_no_store : (k : ℕ) → bare k ≡ true → eqb k store ≡ false
bare_no_store k h = is_false (λ e. false≢true (sym (ap bare (eqb-true k store e)) ∙ h))

event-store : (k t a v x : ℕ) → (eqb (event_of k t a v).kind store && eqb (event_of k t a v).address x) ≡ (eqb k store && eqb a x)
event-store k t a v x = event_by (λ e. (eqb e.kind store && eqb e.address x) ≡ (eqb k store && eqb a x)) k t a v (λ h. rw (bare_no_store k h)) (λ h. refl)

pub store_same : (k : ℕ) (ks ts as' vs : List ℕ) (x e : ℕ) → e < k → store_to (events_of k ks ts as' vs) x e ≡ store_at ks as' x e
unfolding store_to events_of store_at
store_same k ks ts as' vs x e h =
    ap (λ (v : Event). eqb v.kind store && eqb v.address x) (table_get k (λ e. event_of (get_or ks e 0) (get_or ts e 0) (get_or as' e 0) (get_or vs e 0)) e no_event h)
    ∙ event-store (get_or ks e 0) (get_or ts e 0) (get_or as' e 0) (get_or vs e 0) x

pub stores_same : (k : ℕ) (ks ts as' vs : List ℕ) (x : ℕ) → count k (store_to (events_of k ks ts as' vs) x) ≡ count k (store_at ks as' x)
stores_same k ks ts as' vs x = count_same k _ _ (λ e h. store_same k ks ts as' vs x e h)

-- ---- write orders
pub writes-of : (c : Held) → (case_of c).writes ≡ table 0 c.addresses (writes_at c.kind c.address c.writes c.events)
unfolding case_of writes_at
writes-of c =
    table_same 0 c.addresses _ _
    (λ x l h. ap (λ (n : ℕ). table 0 n (λ i. get_or c.writes (x * most_events + i) 0)) (stores_same c.events c.kind c.thread c.address c.value x))

-- the fault asks of events only
write-fault-same : (k : ℕ) (mine mine' : ℕ → Bool) → ((e : ℕ) → e < k → mine e ≡ mine' e)
    → (before w : List ℕ) → write_fault k mine before w ≡ write_fault k mine' before w
unfolding write_fault
write-fault-same k mine mine' f before [] = refl
write-fault-same k mine mine' f before (e ∷ w) =
    by (ltb e k) (λ t. f e (ltb-true e k t)) (write-fault-same k mine mine' f (before ++ (e ∷ [])) w)
  where
    by : (b : Bool) → (b ≡ true → mine e ≡ mine' e) → {x y : ℕ} → x ≡ y
        → or_else b 3 (or_else (mine e && not (member e before)) 4 x) ≡ or_else b 3 (or_else (mine' e && not (member e before)) 4 y)
    by true g h = ap₂ (λ (b : Bool) (z : ℕ). or_else (b && not (member e before)) 4 z) (g refl) h
    by false g h = refl

writes-fault-same : (k : ℕ) (mine mine' : ℕ → ℕ → Bool) → ((x e : ℕ) → e < k → mine x e ≡ mine' x e)
    → (x : ℕ) (ws : List (List ℕ)) → writes_fault k mine x ws ≡ writes_fault k mine' x ws
unfolding writes_fault
writes-fault-same k mine mine' f x [] = refl
writes-fault-same k mine mine' f x (w ∷ ws) =
    ap₂ first_fault (write-fault-same k (mine x) (mine' x) (λ e h. f x e h) [] w) (writes-fault-same k mine mine' f (suc x) ws)

-- ---- the fault
else_and : (a b d : Bool) (x y : ℕ) → or_else a x (or_else b x (or_else d x y)) ≡ or_else (a && (b && d)) x y
else_and true true d x y = refl
else_and true false d x y = refl
else_and false b d x y = refl

module _ (c : Held) where
  abbrev head : Bool
  head = between least_edition most_edition c.edition && (between 1 most_threads c.threads && between 1 most_addresses c.addresses)

  abbrev initials : Bool
  initials = all c.addresses (λ x. leb (get_or c.initial x 0) most_value)

  abbrev listing : Bool
  listing = all c.events (λ e. event_good c.edition c.threads c.addresses (event_of (get_or c.kind e 0) (get_or c.thread e 0) (get_or c.address e 0) (get_or c.value e 0)))

  abbrev count_links : ℕ
  count_links = link_count c.edition c.dependencies

  abbrev links : ℕ
  links = dependency_fault c.events (good_at c.events c.kind c.thread) 0 (links_of count_links c.class c.from c.to)

  abbrev orders : ℕ
  orders = writes_fault c.events (store_at c.kind c.address) 0 (table 0 c.addresses (writes_at c.kind c.address c.writes c.events))

  abbrev name : ℕ
  name = name_fault (table 0 c.namelength (λ i. get_or c.name i 0))

  links_long : length (links_of count_links c.class c.from c.to) ≡ count_links
  unfolding links_of
  links_long = table-length 0 count_links _

  fault_by : fault (case_of c)
      ≡ or_else head 3 (or_else initials 3 (or_else (leb c.events most_events) 3 (or_else listing 3
      (or_else (leb count_links most_dependencies) 3 (first_fault links (first_fault orders name))))))
  unfolding fault case_of events_of
  fault_by =
      else_and (between least_edition most_edition c.edition) (between 1 most_threads c.threads) (between 1 most_addresses c.addresses) 3 _
      ∙ ap (or_else head 3) (
      ap₂ (λ (b : Bool) (y : ℕ). or_else b 3 y) (every-table (λ v. leb v most_value) c.addresses _) (
      ap (or_else (leb c.events most_events) 3) (
      ap₂ (λ (b : Bool) (y : ℕ). or_else b 3 y) (every-table (event_good c.edition c.threads c.addresses) c.events _) (
      ap₂ (λ (b : ℕ) (y : ℕ). or_else (leb b most_dependencies) 3 y) links_long (
      ap₂ first_fault
      (ap (λ (good : Dependency → Bool). dependency_fault c.events good 0 (links_of count_links c.class c.from c.to))
      (sym (goods_same c.events c.kind c.thread c.address c.value)))
      (ap (λ (x : ℕ). first_fault x name)
      (writes-fault-same c.events _ (store_at c.kind c.address) (λ x e h. store_same c.events c.kind c.thread c.address c.value x e h) 0 (case_of c).writes
      ∙ ap (writes_fault c.events (store_at c.kind c.address) 0) (writes-of c))))))))

  -- the ways through `fault`
  module _ (h : Bool) (eh : h ≡ head) where
    pub bad_head : h ≡ false → 3 ≡ fault (case_of c)
    bad_head th = rw (fault_by, ← eh, th)

    module _ (th : h ≡ true) (i : Bool) (ei : i ≡ initials) where
      pub bad_initial : i ≡ false → 3 ≡ fault (case_of c)
      bad_initial ti = rw (fault_by, ← eh, th, ← ei, ti)

      module _ (ti : i ≡ true) where
        pub many_events : most_events < c.events → 3 ≡ fault (case_of c)
        many_events k = rw (fault_by, ← eh, th, ← ei, ti, lt-leb c.events most_events k)

        module _ (k : c.events ≤ most_events) (l : Bool) (el : l ≡ listing) where
          pub bad_listing : l ≡ false → 3 ≡ fault (case_of c)
          bad_listing tl = rw (fault_by, ← eh, th, ← ei, ti, le-leb c.events most_events k, ← el, tl)

          module _ (tl : l ≡ true) (v : ℕ) (ev : v ≡ links_fault c) where
            from_orders : fault (case_of c) ≡ first_fault v (first_fault orders name)
            unfolding links_fault
            from_orders =
                rw (fault_by, ← eh, th, ← ei, ti, le-leb c.events most_events k, ← el, tl, ev)
                (else_first (leb count_links most_dependencies) links _)

            pub bad_links : (v ≡ 0 → ⊥) → v ≡ fault (case_of c)
            bad_links n = sym (from_orders ∙ first-fault v _ n)

            module _ (zv : v ≡ 0) (w : ℕ) (ew : w ≡ orders) where
              from_writes : fault (case_of c) ≡ first_fault w name
              from_writes = rw (from_orders, zv, ← ew)

              pub bad_writes : (w ≡ 0 → ⊥) → w ≡ fault (case_of c)
              bad_writes n = sym (from_writes ∙ first-fault w _ n)

              pub that_name : w ≡ 0 → (x : ℕ) → x ≡ name → x ≡ fault (case_of c)
              that_name z x e = rw (from_writes, z) e

-- the ways through the fault of a struct's dependencies
module _ (c : Held) (j : ℕ) (ej : j ≡ link_count c.edition c.dependencies) where
  pub many_links : most_dependencies < j → 3 ≡ links_fault c
  unfolding links_fault
  many_links m = rw (← ej, lt-leb j most_dependencies m)

  pub those_links : j ≤ most_dependencies → (v : ℕ)
      → v ≡ dependency_fault c.events (good_at c.events c.kind c.thread) 0 (links_of j c.class c.from c.to) → v ≡ links_fault c
  unfolding links_fault
  those_links m v e = rw (← ej, le-leb j most_dependencies m) e

-- the ways through the fault of a name of j bytes, by each byte
module _ (j : ℕ) (byte : ℕ → ℕ) where
  pub long-name : most_name < j → 3 ≡ name_fault (table 0 j byte)
  unfolding name_fault
  long-name l = rw (table-length 0 j byte, lt-leb j most_name l)

  module _ (l : j ≤ most_name) (t : Bool) (e : t ≡ all j (λ i. printable (byte i))) where
    short-name : name_fault (table 0 j byte) ≡ or_else t 23 0
    unfolding name_fault
    short-name = rw (table-length 0 j byte, le-leb j most_name l, every-table printable j byte, e)

    pub bad-name : t ≡ false → 23 ≡ name_fault (table 0 j byte)
    bad-name n = rw (short-name, n)

    pub good_name : t ≡ true → 0 ≡ name_fault (table 0 j byte)
    good_name n = rw (short-name, n)
