-- The ways through reading a record, and where its name stands.
-- Assumes nothing.
use Prim.Native.Nat.{ℕ, ◌+◌, ◌-◌, ◌≤◌, ◌<◌}
use mathlib.Core.Path.{◌≡◌, refl, sym, ◌∙◌}
use mathlib.Core.Logic.{⊎_elim}
use mathlib.Core.List.{List, []}
use native.Mathlib.Omega.{arith}
use lib.ListN.{length, take, drop, replicate, get_or-eq_default}
use Rattle.std.specs.Prelude.{Result}
use Rattle.number.specs.Reader.{Out, stop, next}
use Rattle.number.specs.declared.Refusal.{Refusal}
use Rattle.number.proofs.Encoding.{lt_or_ge}
use Rattle.model.specs.Limits.{most_events}
use Rattle.model.specs.Case.{Case, Event, no_event}
use Rattle.model.specs.Record.{dependency_good, dependencies, store_to, head, listing, rest, case, read}
use Rattle.model.specs.Answers.{name_part, name as name_of}
use Rattle.case.specs.Held.{pad, good_at, held}
use Rattle.case.proofs.Links.{goods_of}
use Rattle.case.proofs.Pad.{field_past}
use Rattle.case.proofs.HeldBack.{in_fields}
use Rattle.case.specs.Stores.{store_at}
use Rattle.reader.specs.Answers.{Events, Links, model_head, Counted, ListingStored, RestStored, Read, ReadingOf, ReadingFrom, counted_from, part_of}
use Rattle.reader.specs.declared.front.Head as code
use Rattle.reader.specs.declared.Reading.{Reading}
use Rattle.reader.specs.declared.NamePart.{NamePart}
use Rattle.reader.proofs.Forward.{AtEnd, Outcome, gone, forward_head, forward_listing, forward_dependencies, forward_rest, forward_case}

pub no_events : Events (replicate most_events 0) (replicate most_events 0) (replicate most_events 0) (replicate most_events 0) []
unfolding pad
no_events = record { kind = refl; thread = refl; address = refl; value = refl }

-- the arrays tell the stores
same_store : (ks ts as' vs : List ℕ) (es : List Event) → Events ks ts as' vs es → (x e : ℕ) → store_at ks as' x e ≡ store_to es x e
unfolding store_at store_to
same_store ks ts as' vs es h x e =
    ⊎_elim
    (λ (l : e < length es). rw (h.kind, h.address, in_fields most_events (λ a. a.kind) no_event es e l, in_fields most_events (λ a. a.address) no_event es e l))
    (λ (l : length es ≤ e). rw (h.kind, field_past (λ a. a.kind) most_events es e l, get_or-eq_default es no_event l))
    (lt_or_ge e (length es))

same-stores : (ks ts as' vs : List ℕ) (es : List Event) → Events ks ts as' vs es → store_at ks as' ≡ store_to es
same-stores ks ts as' vs es h = λ i x e. same_store ks ts as' vs es h x e i

-- and which dependencies are good
same_goods : (k : ℕ) (ks ts as' vs : List ℕ) (es : List Event) → Events ks ts as' vs es → length es ≡ k → good_at k ks ts ≡ dependency_good es
same_goods k ks ts as' vs es h size =
    goods_of k ks ts es size
    (λ e l. sym (rw h.kind (in_fields most_events (λ a. a.kind) no_event es e (omega arith)))) (λ e l. sym (rw h.thread (in_fields most_events (λ a. a.thread) no_event es e (omega arith))))

-- a refusal is the same from any place on
pub refused_from : (at : ℕ) (o : Out Case) (x p : ℕ) → o ≡ stop x p → counted_from at o ≡ stop x p
unfolding counted_from
refused_from at o x p e = rw e

pub no_head : (s : List ℕ) (at x p : ℕ) → stop x p ≡ head s at → counted_from at (case s at) ≡ stop x p
unfolding case
no_head s at x p e = refused_from at _ x p (rw (← e))

-- behind the head
module _ (s : List ℕ) (start : ℕ) (hd : code.Head) (at : ℕ) (e₁ : head s start ≡ next (model_head hd) at) where
  pub no_listing : (x p : ℕ) → listing hd.edition hd.threads hd.addresses s at ≡ stop x p → counted_from start (case s start) ≡ stop x p
  unfolding case
  no_listing x p g = refused_from start _ x p (rw (e₁, g))

  module _ (k p₂ : ℕ) (initial ks ts as' vs : List ℕ) (d₂ : Counted (λ l. l.k) (ListingStored initial ks ts as' vs) (listing hd.edition hd.threads hd.addresses s at) k p₂) where
    pub listing-few : k ≤ most_events
    listing-few = omega (arith, d₂.number_is, d₂.stored.few)

    events-long : length d₂.what.events ≡ k
    events-long = (gone (forward_listing hd.edition hd.threads hd.addresses) at d₂.what p₂ d₂.is).holds ∙ sym d₂.number_is

    links_as : dependencies hd.edition k (good_at k ks ts) ≡ dependencies hd.edition d₂.what.k (dependency_good d₂.what.events)
    links_as = rw (← d₂.number_is, ← same_goods k ks ts as' vs d₂.what.events d₂.stored.events events-long)

    rest_as : rest hd.threads hd.addresses k (store_at ks as') ≡ rest hd.threads hd.addresses d₂.what.k (store_to d₂.what.events)
    rest_as = rw (← d₂.number_is, ← same-stores ks ts as' vs d₂.what.events d₂.stored.events)

    pub no_links : (x p : ℕ) → dependencies hd.edition k (good_at k ks ts) s p₂ ≡ stop x p → counted_from start (case s start) ≡ stop x p
    unfolding case
    no_links x p g = let h = rw links_as at g in refused_from start _ x p (rw (e₁, d₂.is, h))

    module _ (j p₄ : ℕ) (xs bs cs : List ℕ) (d₄ : Counted (λ ds. length ds) (Links xs bs cs) (dependencies hd.edition k (good_at k ks ts) s p₂) j p₄) where
      links_is : dependencies hd.edition d₂.what.k (dependency_good d₂.what.events) s p₂ ≡ next d₄.what p₄
      links_is = rw links_as at d₄.is

      pub no_rest : (x p : ℕ) → rest hd.threads hd.addresses k (store_at ks as') s p₄ ≡ stop x p → counted_from start (case s start) ≡ stop x p
      unfolding case
      no_rest x p g = let h = rw rest_as at g in refused_from start _ x p (rw (e₁, d₂.is, links_is, h))

      module _ (i p₃ : ℕ) (ws rows name : List ℕ)
          (d₃ : Counted (λ t. length t.name) (RestStored ws rows name) (rest hd.threads hd.addresses k (store_at ks as') s p₄) i p₃) where
        rest_is : rest hd.threads hd.addresses d₂.what.k (store_to d₂.what.events) s p₄ ≡ next d₃.what p₃
        rest_is = rw rest_as at d₃.is

        pub ends_behind : start ≤ p₃
        ends_behind =
            let a = gone forward_head start (model_head hd) at e₁ in
            let b = gone (forward_listing hd.edition hd.threads hd.addresses) at d₂.what p₂ d₂.is in
            let l = gone (forward_dependencies hd.edition d₂.what.k (dependency_good d₂.what.events)) p₂ d₄.what p₄ links_is in
            let c = gone (forward_rest hd.threads hd.addresses d₂.what.k (store_to d₂.what.events)) p₄ d₃.what p₃ rest_is in
            omega (arith, a.on, b.on, l.on, c.on)

        pub whole : Read (counted_from start (case s start)) (record {
          length = p₃ - start;
          case = record {
            edition = hd.edition;
            threads = hd.threads;
            addresses = hd.addresses;
            events = k;
            initial = initial;
            kind = ks;
            thread = ts;
            address = as';
            value = vs;
            dependencies = j;
            class = xs;
            from = bs;
            to = cs;
            writes = ws;
            rows = rows;
            name = name;
            namelength = i;
          };
        })
        unfolding case counted_from held
        whole = record {
          c = record {
            edition = hd.edition;
            n = hd.threads;
            m = hd.addresses;
            k = d₂.what.k;
            initials = d₂.what.initials;
            events = d₂.what.events;
            dependencies = d₄.what;
            writes = d₃.what.writes;
            orders = d₃.what.orders;
            name = d₃.what.name;
          };
          is_read = rw (e₁, d₂.is, links_is, rest_is);
          holds = λ y. record {
            edition = hd.edition;
            threads = hd.threads;
            addresses = hd.addresses;
            events = d₂.number_is y;
            initial = d₂.stored.initials.stored y;
            kind = d₂.stored.events.kind y;
            thread = d₂.stored.events.thread y;
            address = d₂.stored.events.address y;
            value = d₂.stored.events.value y;
            dependencies = d₄.number_is y;
            class = d₄.stored.class y;
            from = d₄.stored.from y;
            to = d₄.stored.to y;
            writes = d₃.stored.writes.stored y;
            rows = d₃.stored.orders.stored y;
            name = d₃.stored.name.stored y;
            namelength = d₃.number_is y;
          };
        }

-- from the start
counted_start : (o : Out Case) → counted_from 0 o ≡ o
unfolding counted_from
counted_start (stop x p) = refl
counted_start (next c i) = let z : i - 0 ≡ i = omega arith in rw z

pub from_start : (s : List ℕ) (r : Result Reading Refusal) → ReadingFrom 0 (case s 0) r → ReadingOf (read s) r
unfolding read
from_start s r h = rw (counted_start (case s 0)) at h

-- a reading's name is within the record, and where the model has it
module _ (s : List ℕ) (r : Reading) (h : Read (read s) r) where
  pub name_in_record : r.case.namelength ≤ r.length
  unfolding read held
  name_in_record = rw h.holds (gone forward_case 0 h.c r.length h.is_read).holds.long

  pub name-part_is : ◌≡◌ {A = NamePart} (record { at = r.length - r.case.namelength; length = r.case.namelength }) (part_of (name_part (read s)))
  unfolding held
  name-part_is = rw (h.is_read, h.holds)

-- the part's bounds
part_in_of : (s : List ℕ) (o : Out Case) → Outcome (λ c p. AtEnd s c.name p) 0 o → (name_part o).at + (name_part o).length ≤ length s
part_in_of s (stop x p) h = omega arith
part_in_of s (next c i) h = omega (arith, h.holds.long, h.holds.within)

module _ (s : List ℕ) (p : NamePart) (e : p ≡ part_of (name_part (read s))) where
  pub part_in : p.at + p.length ≤ length s
  unfolding read
  part_in = rw e (part_in_of s (case s 0) (forward_case.from 0))

  pub part-name : take (p.at + p.length - p.at) (drop p.at s) ≡ name_of s
  unfolding name_of
  part-name = let z : p.at + p.length - p.at ≡ p.length = omega arith in rw (z, e)

-- 01: the name is handed back as the record's own bytes, and these are the case's name
pub name_is : (s : List ℕ) (c : Case) (i : ℕ) → read s ≡ next c i → name_of s ≡ c.name
unfolding name_of read
name_is s c i e = rw e (gone forward_case 0 c i e).holds.bytes
