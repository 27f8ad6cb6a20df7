-- Dependencies by the arrays of a struct: the ways through their tests, the turns of their loop, and what they mean.
-- Assumes nothing.
use Prim.Native.Nat.{ℕ, ◌+◌, ◌-◌, ◌*◌, ◌≤◌, ◌<◌}
use native.Mathlib.Nat.{mul-le-mul}
use native.Mathlib.Omega.{arith}
use native.Mathlib.Decide.{dec_lt}
use mathlib.Core.Path.{◌≡◌, refl, sym, ap, ◌∙◌, fun_ext}
use mathlib.Core.Bool.{Bool, true, false, not, ◌&&◌, ◌||◌}
use mathlib.Core.List.{List, [], ◌∷◌}
use lib.Dec.{eqb, leb, ltb}
use lib.ListN.{length, get_or, get_or-eq_default}
use borrow.Author.Tests.{leb-true, ltb-true}
use mir.Syntax.{w64}
use mir.Val.{Fits}
use Rattle.finite.specs.Lists.{table}
use Rattle.finite.proofs.Tests.{and_l, and_r}
use Rattle.finite.proofs.Lists.{table_get, table_past, table-length, table_turn, table-end}
use Rattle.model.specs.Limits.{most_events}
use Rattle.model.specs.Case.{Event, Dependency, no_event, load, store, bare, by_address, most_class}
use Rattle.model.specs.Rules.{or_else}
use Rattle.model.specs.Record.{dependency_good, dependency_rank}
use Rattle.model.specs.Fault.{dependency_within, dependency_fault}
use Rattle.number.specs.declared.Fault.{Fault}
use Rattle.number.specs.Reader.{number_of}
use Rattle.case.specs.declared.Link.{Link}
use Rattle.case.specs.Held.{event_of, events_of, link, link_of, Among, links_of, good_at}
use Rattle.case.proofs.Numbers.{some-number}
use Rattle.case.proofs.Events.{event_by}

-- ---- kinds and threads of events
module _ (k : ℕ) (ks ts as' vs : List ℕ) (e : ℕ) where
  pub kind_at : e < k → (get_or (events_of k ks ts as' vs) e no_event).kind ≡ get_or ks e 0
  unfolding events_of
  kind_at h =
      ap (λ (v : Event). v.kind) (table_get k (λ e. event_of (get_or ks e 0) (get_or ts e 0) (get_or as' e 0) (get_or vs e 0)) e no_event h)
      ∙ event_by (λ v. v.kind ≡ get_or ks e 0) _ _ _ _ (λ b. refl) (λ b. refl)

  pub thread-at : e < k → (get_or (events_of k ks ts as' vs) e no_event).thread ≡ get_or ts e 0
  unfolding events_of
  thread-at h =
      ap (λ (v : Event). v.thread) (table_get k (λ e. event_of (get_or ks e 0) (get_or ts e 0) (get_or as' e 0) (get_or vs e 0)) e no_event h)
      ∙ event_by (λ v. v.thread ≡ get_or ts e 0) _ _ _ _ (λ b. refl) (λ b. refl)

-- ---- the rank of a dependency
pub rank_most : (k x a b : ℕ) → k ≤ most_events → x ≤ most_class → a < k → b < k
    → dependency_rank k (link x a b) < (most_events * most_events + most_events) * (most_class + 1) + most_class
rank_most k x a b h hx ha hb =
    let l : a ≤ most_events = omega arith in
    let p : a * k ≤ most_events * most_events = mul-le-mul l h in
    omega arith

-- what is good by kinds and threads is good by the events that have them
module _ (k : ℕ) (ks ts : List ℕ) (es : List Event) (size : length es ≡ k)
    (kinds : (e : ℕ) → e < k → (get_or es e no_event).kind ≡ get_or ks e 0) (threads : (e : ℕ) → e < k → (get_or es e no_event).thread ≡ get_or ts e 0) where
  -- neither list has an event from k on
  same_field : (f : Event → ℕ) (e : ℕ) → (e < k → f (get_or (events_of k ks ts [] []) e no_event) ≡ f (get_or es e no_event))
      → f (get_or (events_of k ks ts [] []) e no_event) ≡ f (get_or es e no_event)
  unfolding events_of
  same_field f e g = by (dec_lt e k)
    where
      by : Dec (e < k) → f (get_or (events_of k ks ts [] []) e no_event) ≡ f (get_or es e no_event)
      by (yes h) = g h
      by (no h) = ap f (table_past 0 k _ e no_event (omega arith) ∙ sym (get_or-eq_default es no_event (omega arith)))

  same_kind : (e : ℕ) → (get_or (events_of k ks ts [] []) e no_event).kind ≡ (get_or es e no_event).kind
  same_kind e = same_field (λ v. v.kind) e (λ h. kind_at k ks ts [] [] e h ∙ sym (kinds e h))

  same-thread : (e : ℕ) → (get_or (events_of k ks ts [] []) e no_event).thread ≡ (get_or es e no_event).thread
  same-thread e = same_field (λ v. v.thread) e (λ h. thread-at k ks ts [] [] e h ∙ sym (threads e h))

  pub goods_of : good_at k ks ts ≡ dependency_good es
  unfolding good_at dependency_good
  goods_of = fun_ext (λ d. rw (same_kind d.from, same-thread d.from, same_kind d.to, same-thread d.to))

pub goods_same : (k : ℕ) (ks ts as' vs : List ℕ) → good_at k ks ts ≡ dependency_good (events_of k ks ts as' vs)
goods_same k ks ts as' vs =
    goods_of k ks ts (events_of k ks ts as' vs) (unfold events_of in table-length 0 k _) (λ e h. kind_at k ks ts as' vs e h) (λ e h. thread-at k ks ts as' vs e h)

-- ---- whether a dependency is good
module _ (k : ℕ) (ks ts : List ℕ) (x a b : ℕ) (ha : a < k) (hb : b < k) where
  pub good_by : good_at k ks ts (link x a b)
      ≡ (eqb (get_or ks a 0) load && ltb a b && eqb (get_or ts a 0) (get_or ts b 0) && not (bare (get_or ks b 0)) && (eqb x by_address || eqb (get_or ks b 0) store))
  unfolding good_at dependency_good
  good_by = rw (kind_at k ks ts [] [] a ha, thread-at k ks ts [] [] a ha, kind_at k ks ts [] [] b hb, thread-at k ks ts [] [] b hb)

-- in its ranges
pub among : (k : ℕ) (l : Link) → dependency_within k (link_of l) ≡ true → Among k l
among k l t =
    let both = and_l (leb l.class most_class && ltb l.from k) (ltb l.to k) t in
    record {
      class = leb-true l.class most_class (and_l (leb l.class most_class) (ltb l.from k) both);
      from = ltb-true l.from k (and_r (leb l.class most_class) (ltb l.from k) both);
      to = ltb-true l.to k (and_r (leb l.class most_class && ltb l.from k) (ltb l.to k) t);
    }

-- ---- the fault of one
module _ (k : ℕ) (good : Dependency → Bool) (least : ℕ) (d : Dependency) (t : Bool) (et : t ≡ dependency_within k d) where
  pub out_of_range : t ≡ false → 3 ≡ dependency_fault k good least (d ∷ [])
  unfolding dependency_fault
  out_of_range n = rw (← et, n)

  module _ (n : t ≡ true) (f : Bool) (ef : f ≡ (leb least (dependency_rank k d) && good d)) where
    pub unfit : f ≡ false → 4 ≡ dependency_fault k good least (d ∷ [])
    unfolding dependency_fault
    unfit m = rw (← et, n, ← ef, m)

    pub fit : f ≡ true → 0 ≡ dependency_fault k good least (d ∷ [])
    unfolding dependency_fault
    fit m = rw (← et, n, ← ef, m)

-- the fault of the first is that of all, and where it has none, the others tell
first_of : (t g : Bool) (rest : ℕ) → (or_else t 3 (or_else g 4 0) ≡ 0 → ⊥) → or_else t 3 (or_else g 4 rest) ≡ or_else t 3 (or_else g 4 0)
first_of true true rest n = absurd (n refl)
first_of true false rest n = refl
first_of false g rest n = refl

others : (t g : Bool) (rest : ℕ) → or_else t 3 (or_else g 4 0) ≡ 0 → (t ≡ true) × (or_else t 3 (or_else g 4 rest) ≡ rest)
others true true rest e = (refl, refl)
others true false rest e = absurd (omega arith)
others false g rest e = absurd (omega arith)

-- ---- the first fault of all: those below i have none
module _ (k : ℕ) (good : Dependency → Bool) (xs as' bs : List ℕ) (n : ℕ) where
  abbrev link_at : ℕ → Dependency
  link_at j = link (get_or xs j 0) (get_or as' j 0) (get_or bs j 0)

  pub record Linking (least i : ℕ) : Type 0 where
    pub within : i ≤ n
    pub same : dependency_fault k good least (table i (n - i) link_at) ≡ dependency_fault k good 0 (links_of n xs as' bs)

  pub linking_begun : Linking 0 0
  unfolding links_of
  linking_begun = record { within = omega arith; same = let z : n - 0 ≡ n = omega arith in rw z }

  module _ (least i : ℕ) (L : Linking least i) where
    pub linking_done : n ≤ i → 0 ≡ dependency_fault k good 0 (links_of n xs as' bs)
    unfolding dependency_fault
    linking_done h = sym (ap (dependency_fault k good least) (table-end i n link_at h)) ∙ L.same

    module _ (h : i < n) (l : Link) (el : l ≡ record { class = get_or xs i 0; from = get_or as' i 0; to = get_or bs i 0 }) where
      -- the fault of those behind
      abbrev rest : ℕ
      rest = dependency_fault k good (dependency_rank k (link_of l) + 1) (table (i + 1) (n - (i + 1)) link_at)

      abbrev follows : Bool
      follows = leb least (dependency_rank k (link_of l)) && good (link_of l)

      here : or_else (dependency_within k (link_of l)) 3 (or_else follows 4 rest) ≡ dependency_fault k good 0 (links_of n xs as' bs)
      unfolding dependency_fault
      here = rw el (ap (dependency_fault k good least) (sym (table_turn i n link_at h)) ∙ L.same)

      pub linking_found : (f : Fault) → number_of f ≡ dependency_fault k good least (link_of l ∷ []) → number_of f ≡ dependency_fault k good 0 (links_of n xs as' bs)
      unfolding dependency_fault
      linking_found f ef = ef ∙ sym (first_of (dependency_within k (link_of l)) follows rest (λ z. some-number f (ef ∙ z))) ∙ here

      module _ (none : 0 ≡ dependency_fault k good least (link_of l ∷ [])) where
        passes : (dependency_within k (link_of l) ≡ true) × (rest ≡ dependency_fault k good 0 (links_of n xs as' bs))
        unfolding dependency_fault
        passes = let o = others (dependency_within k (link_of l)) follows rest (sym none) in (o.0, sym o.1 ∙ here)

        pub linking_among : Among k l
        linking_among = among k l passes.0

        module _ (q : ℕ) (eq : q ≡ dependency_rank k (link_of l)) where
          pub linking_fits : k ≤ most_events → Fits w64 (q + 1)
          linking_fits m =
              let a = linking_among in
              record { fits = omega (arith, rank_most k l.class l.from l.to m a.class a.from a.to) }

          pub linking_next : Linking (q + 1) (i + 1)
          linking_next = record { within = omega arith; same = rw eq passes.1 }
