-- The rules' tests by a struct's rows and sets are the rules of the case that it means.
-- Assumes nothing.
use Prim.Native.Nat.{ℕ, ◌+◌, ◌*◌, ◌≤◌, ◌<◌}
use native.Mathlib.Nat.{lt_of_lt_of_le}
use native.Mathlib.Omega.{arith}
use mathlib.Core.Path.{◌≡◌, refl, sym, ap, ap₂, ◌∙◌, subst}
use mathlib.Core.Bool.{Bool, true, false, not, ◌&&◌, ◌||◌}
use mathlib.Core.List.{List, []}
use lib.Dec.{eqb, ltb}
use lib.ListN.{get_or}
use lib.Bits.{bit_or}
use borrow.Author.Tests.{lt-ltb, not-true, not-false}
use Rattle.finite.specs.Tests.{count, ◌⇒◌}
use Rattle.finite.proofs.Tests.{and_l, and_r, count_same, all_same, some_same, eqb_sym}
use Rattle.finite.proofs.Lists.{table_get}
use Rattle.bits.specs.Bit.{bit}
use Rattle.bits.proofs.Bits.{bit-or}
use Rattle.model.specs.Limits.{most_threads, most_addresses, most_events, most_dependencies}
use Rattle.model.specs.Case.{bare, load, store, sync}
use Rattle.model.specs.Record.{store_to}
use Rattle.model.specs.Rules.{Model, PPCw, PPCs, first, kind, thread, address, value, initial, is_load, is_store, is_barrier, of, one_address, applicable, store_for, before, everywhere, written, paired, seen, reads_from, judged, or_else, rule11, rule12, rule13, rule14, rule15, rule16, rule17, rule18, verdict}
use Rattle.case.specs.declared.Case.{Case as Held}
use Rattle.case.specs.Held.{link_count, case_of}
use Rattle.case.specs.Sound.{Sound}
use Rattle.rows.specs.Sets.{Set, Sets, order_in, set_in, store_in, depends_in}
use Rattle.rows.specs.May.{pairs, must_read, may11, may12, may13, may14, may15, may16, may17, may18}
use Rattle.orders.specs.Parts.{writes_in, written_in}
use Rattle.values.specs.Parts.{equal_in, thread_in}
use Rattle.columns.specs.Columns.{Columns}
use Rattle.by_columns.specs.Parts.{WithColumns, Shared, applies_in, read_in}
use Rattle.rules.specs.declared.EventSets.{EventSets}
use Rattle.rules.specs.declared.Model.{Model as Given}
use Rattle.rules.specs.declared.Model.TheVariants.{Ppcw, Ppcs}
use Rattle.rules.specs.declared.Rule.{Rule}
use Rattle.rules.specs.declared.Rule.TheVariants.{StrictOrder, OwnOrder, ProgramOrder, Coherence, EarlierStore, LatestStore, Barrier, CumulativeBarrier}
use Rattle.rules.specs.Models.{model_of}
use Rattle.rules.specs.Broken.{rule_number}
use Rattle.rules.specs.Verdict.{Agrees, InRange, Sorted, Seen, Judged, shared_in, seen_in, judged_in, fresh_in, order_verdict, value_verdict, barrier_verdict, order_broken, value_broken, barrier_broken}
use Rattle.rules.proofs.Means.{thread-in, address_in, value-in, initial_in, before_in, load_in, store-in, sync_in, barrier_in, of_in, depends-in, load_full, store-full, full-kind, twice_not, not-not}

-- under a test
under : (x x' : Bool) {y y' : Bool} → x ≡ x' → (x' ≡ true → y ≡ y') → (x ⇒ y) ≡ (x' ⇒ y')
under x x' {y} {y'} h f = ap (λ t. t ⇒ y) h ∙ go x' f
  where
    go : (b : Bool) → (b ≡ true → y ≡ y') → (b ⇒ y) ≡ (b ⇒ y')
    go true f = f refl
    go false f = refl

-- of any struct, whatever lies in its spare room
module _ (c : Held) where
  pub same11 : may11 c.threads c.events (order_in c.rows) (order_in c.rows) ≡ rule11 (case_of c)
  unfolding may11 rule11 case_of
  same11 =
      let o = before_in c in
      all_same c.threads _ _ (λ p lp. all_same c.events _ _ (λ a la.
      ap₂ (λ x y. not x && y) (o p lp a la a la)
      (all_same c.events _ _ (λ b lb. ap₂ (λ x y. x ⇒ y) (o p lp a la b lb)
      (all_same c.events _ _ (λ d ld. ap₂ (λ x y. x ⇒ y) (o p lp b lb d ld) (o p lp a la d ld)))))))

module _ (c : Held) (g : EventSets) (sound : Sound c) (agree : Agrees (case_of c) g) where
  pub same12 : may12 c.threads c.events (set_in g.own) (order_in c.rows) ≡ rule12 (case_of c)
  unfolding may12 rule12 case_of
  same12 =
      let o = before_in c in
      let own = agree.own in
      all_same c.threads _ _ (λ p lp. all_same c.events _ _ (λ a la.
      ap₂ (λ x y. x ⇒ y) (own p lp a la)
      (all_same c.events _ _ (λ b lb. ap₂ (λ x y. (x && not (eqb a b)) ⇒ y) (own p lp b lb)
      (ap₂ (λ x y. x || y) (o p lp a la b lb) (o p lp b lb a la))))))

  pub same13 : may13 c.threads c.events (set_in g.own) (bit g.barriers) (set_in g.partners) (set_in g.dependents) (order_in c.rows) ≡ rule13 (case_of c)
  unfolding may13 rule13 case_of
  same13 =
      let o = before_in c in
      let own = agree.own in
      let barrier = agree.barrier in
      all_same c.threads _ _ (λ p lp. all_same c.events _ _ (λ b lb.
      ap₂ (λ x y. x ⇒ y) (own p lp b lb)
      (all_same b _ _ (λ a lab.
      let la : a < c.events = omega arith in
      ap₂ (λ x y. x ⇒ y)
      (ap₂ (λ x y. x && y) (own p lp a la)
      (ap₂ (λ x y. x || y) (ap₂ (λ x y. x || y) (ap₂ (λ x y. x || y) (barrier a la) (barrier b lb)) (agree.partner a la b lb)) (agree.dependent a la b lb)))
      (o p lp a la b lb)))))

  pub store-for : (l : ℕ) → l < c.events → (s : ℕ) → s < c.events → store_in g.stores g.partners l s ≡ store_for (case_of c) l s
  unfolding store_for case_of
  store-for l ll s ls = ap₂ (λ x y. x && y) (agree.store s ls) (agree.partner l ll s ls)

  -- a store's address
  store-kind : (a : ℕ) → a < c.events → is_store (case_of c) a ≡ true → bare (get_or c.kind a 0) ≡ false
  store-kind a l h = store-full (get_or c.kind a 0) (sym (store-in c a l) ∙ h)

  load-kind : (a : ℕ) → a < c.events → is_load (case_of c) a ≡ true → bare (get_or c.kind a 0) ≡ false
  load-kind a l h = load_full (get_or c.kind a 0) (sym (load_in c a l) ∙ h)

  no-barrier : (a : ℕ) → a < c.events → bare (get_or c.kind a 0) ≡ false → is_barrier (case_of c) a ≡ false
  no-barrier a l h = barrier_in c a l ∙ h

  -- the stores to the address of store a
  stores_to : (a : ℕ) → a < c.events → is_store (case_of c) a ≡ true → (e : ℕ) → e < c.events
      → store_in g.stores g.partners a e ≡ store_to (case_of c).events (address (case_of c) a) e
  unfolding store_for one_address store_to is_store kind address
  stores_to a la h e le = store-for a la e le ∙ plain (is_store (case_of c) e) refl
    where
      plain : (b : Bool) → is_store (case_of c) e ≡ b → store_for (case_of c) a e ≡ store_to (case_of c).events (address (case_of c) a) e
      plain true s =
          ap₂ (λ x y. is_store (case_of c) e && (not x && not y && eqb (address (case_of c) a) (address (case_of c) e)))
          (no-barrier a la (store-kind a la h)) (no-barrier e le (store-kind e le s))
          ∙ ap (λ x. is_store (case_of c) e && x) (eqb_sym (address (case_of c) a) (address (case_of c) e))
      plain false s =
          ap (λ x. x && (not (is_barrier (case_of c) a) && not (is_barrier (case_of c) e) && eqb (address (case_of c) a) (address (case_of c) e))) s
          ∙ ap (λ x. x && eqb (address (case_of c) e) (address (case_of c) a)) (sym s)

  -- the write order of its address
  pub written-in : (a : ℕ) → a < c.events → is_store (case_of c) a ≡ true → (b : ℕ)
      → written_in c.events g.stores g.partners c.address c.writes a b ≡ written (case_of c) a b
  unfolding written case_of
  written-in a la h b =
      let x : address (case_of c) a ≡ get_or c.address a 0 = address_in c a la (store-kind a la h) in
      let here = sound.address a la (store-kind a la h) in
      ap (first a b)
      (ap (λ (i : ℕ). writes_in c.writes (get_or c.address a 0) i)
      (count_same c.events _ _ (stores_to a la h) ∙ ap (λ (y : ℕ). count c.events (store_to (case_of c).events y)) x)
      ∙ sym (table_get c.addresses (λ y. writes_in c.writes y (count c.events (store_to (case_of c).events y))) (get_or c.address a 0) [] here)
      ∙ ap (λ (y : ℕ). get_or (case_of c).writes y []) (sym x))

  pub same14 : may14 c.threads c.events (bit g.stores) (store_in g.stores g.partners) (written_in c.events g.stores g.partners c.address c.writes) (order_in c.rows)
      ≡ rule14 (case_of c)
  unfolding may14 rule14 case_of
  same14 =
      let o = before_in c in
      all_same c.threads _ _ (λ p lp. all_same c.events _ _ (λ a la.
      under _ _ (agree.store a la) (λ h.
      all_same c.events _ _ (λ b lb.
      ap₂ (λ x y. x ⇒ y) (ap₂ (λ x y. x && y) (store-for a la b lb) (o p lp a la b lb)) (written-in a la h b)))))

  -- what 14's test requires
  pub store-address : (a : ℕ) → a < c.events → bit g.stores a ≡ true → get_or c.address a 0 < most_addresses
  unfolding case_of
  store-address a la h =
      lt_of_lt_of_le (sound.address a la (store-kind a la (sym (agree.store a la) ∙ h))) sound.addresses_most

  pub store-written : (a : ℕ) → a < c.events → bit g.stores a ≡ true → (i : ℕ) → i < count c.events (store_in g.stores g.partners a)
      → get_or c.writes (get_or c.address a 0 * most_events + i) 0 < c.events
  unfolding case_of
  store-written a la h i l =
      let s : is_store (case_of c) a ≡ true = sym (agree.store a la) ∙ h in
      sound.written (get_or c.address a 0) (sound.address a la (store-kind a la s)) i
      (subst (λ (j : ℕ). i < j) (count_same c.events _ _ (stores_to a la s) ∙ ap (λ (y : ℕ). count c.events (store_to (case_of c).events y)) (address_in c a la (store-kind a la s))) l)

  -- ---- 15 and 16

  pub load-address : (a : ℕ) → a < c.events → bit g.loads a ≡ true → get_or c.address a 0 < most_addresses
  unfolding case_of
  load-address a la h =
      lt_of_lt_of_le (sound.address a la (load-kind a la (sym (agree.load a la) ∙ h))) sound.addresses_most

  paired_in : (p : ℕ) → p < c.threads → (e : ℕ) → e < c.events → pairs c.events (order_in c.rows) p e ≡ paired (case_of c) p e
  unfolding pairs paired case_of
  paired_in p lp e le =
      some_same c.events _ _ (λ x lx. ap₂ (λ s t. s || t) (before_in c p lp e le x lx) (before_in c p lp x lx e le))

  pub seen-in : {those : List ℕ} → Sets c.threads those (seen_in c.events c.rows g.own) → Seen (case_of c) those
  unfolding seen case_of
  seen-in v = record {
    is = λ p lp e le.
        v.has p lp e ∙ ap₂ (λ s t. (s && pairs c.events (order_in c.rows) p e) || t) (lt-ltb e c.events le) (agree.own p lp e le)
        ∙ ap (λ s. s || of (case_of c) p e) (paired_in p lp e le);
  }

  pub judged-in : {those judge : List ℕ} (model : Given) → Seen (case_of c) those
      → Sets c.threads judge (judged_in model g.loads g.own those) → Judged (case_of c) (model_of model) judge
  unfolding judged case_of
  judged-in {those} model v j = record { is = λ p lp l ll. j.has p lp l ∙ by p lp l ll model }
    where
      by : (p : ℕ) → p < c.threads → (l : ℕ) → l < c.events → (w : Given) → judged_in w g.loads g.own those p l ≡ judged (case_of c) (model_of w) p l
      by p lp l ll Ppcw = ap₂ (λ s t. s && t) (agree.load l ll) (agree.own p lp l ll)
      by p lp l ll Ppcs = ap₂ (λ s t. s && t) (agree.load l ll) (v.is p lp l ll)

  judged-load : (w : Model) (p l : ℕ) → judged (case_of c) w p l ≡ true → is_load (case_of c) l ≡ true
  unfolding judged
  judged-load PPCw p l h = and_l (is_load (case_of c) l) (of (case_of c) p l) h
  judged-load PPCs p l h = and_l (is_load (case_of c) l) (seen (case_of c) p l) h

  module _ {judge : List ℕ} (w : Model) (j : Judged (case_of c) w judge) where
    module _ {fresh : ℕ} (f : Set fresh (λ l. ltb l c.events && fresh_in g.loads c.value c.address c.initial l)) where
      fresh-in : (l : ℕ) → l < c.events → is_load (case_of c) l ≡ true → bit fresh l ≡ eqb (value (case_of c) l) (initial (case_of c) (address (case_of c) l))
      unfolding case_of
      fresh-in l ll h =
          let full = load-kind l ll h in
          f.has l
          ∙ ap₂ (λ s t. s && (t && eqb (get_or c.value l 0) (get_or c.initial (get_or c.address l 0) 0))) (lt-ltb l c.events ll) (agree.load l ll ∙ h)
          ∙ ap₂ (λ (x y : ℕ). eqb x y) (sym (value-in c l ll full))
          (sym (initial_in c (get_or c.address l 0) (sound.address l ll full)) ∙ ap (initial (case_of c)) (sym (address_in c l ll full)))

      pub same15 : may15 c.threads c.events (set_in judge) (bit fresh) (store_in g.stores g.partners) (order_in c.rows) ≡ rule15 (case_of c) w
      unfolding may15 rule15 case_of
      same15 =
          all_same c.threads _ _ (λ p lp. all_same c.events _ _ (λ l ll.
          under _ _ (j.is p lp l ll) (λ h.
          ap₂ (λ s t. s || t) (fresh-in l ll (judged-load w p l h))
          (some_same c.events _ _ (λ s ls. ap₂ (λ x y. x && y) (store-for l ll s ls) (before_in c p lp s ls l ll))))))

    equal-in : (l : ℕ) → l < c.events → is_load (case_of c) l ≡ true → (s : ℕ) → s < c.events → is_store (case_of c) s ≡ true
        → equal_in c.value l s ≡ eqb (value (case_of c) l) (value (case_of c) s)
    equal-in l ll hl s ls hs = ap₂ (λ (x y : ℕ). eqb x y) (sym (value-in c l ll (load-kind l ll hl))) (sym (value-in c s ls (store-kind s ls hs)))

    stored : (l s : ℕ) → store_for (case_of c) l s ≡ true → is_store (case_of c) s ≡ true
    unfolding store_for
    stored l s h = and_l (is_store (case_of c) s) (one_address (case_of c) l s) h

    pub same16 : {those : List ℕ} → Seen (case_of c) those
        → may16 c.threads c.events (set_in judge) (set_in those) (store_in g.stores g.partners) (equal_in c.value) (order_in c.rows) ≡ rule16 (case_of c) w
    unfolding may16 rule16 case_of
    same16 v =
        let o = before_in c in
        all_same c.threads _ _ (λ p lp. all_same c.events _ _ (λ l ll.
        under _ _ (j.is p lp l ll) (λ h. all_same c.events _ _ (λ s ls.
        under _ _ (ap₂ (λ x y. x && y) (store-for l ll s ls) (v.is p lp s ls)) (λ t.
        ap₂ (λ x y. x || y)
        (ap₂ (λ x y. x || y)
        (some_same c.events _ _ (λ x lx.
        ap₂ (λ u w. u && w) (ap₂ (λ u w. u && not (eqb x s) && w) (store-for l ll x lx) (o p lp s ls x lx)) (o p lp x lx l ll)))
        (equal-in l ll (judged-load w p l h) s ls (stored l s (and_l (store_for (case_of c) l s) (seen (case_of c) p s) t))))
        (o p lp l ll s ls))))))

  -- ---- 17 and 18

  applicable-in : (f : ℕ) → f < c.events → (e : ℕ) → e < c.events → (h : ℕ) → h < c.events
      → applies_in g.barriers g.syncs g.stores g.loads f e h ≡ applicable (case_of c) f e h
  unfolding applicable case_of
  applicable-in f lf e le h lh =
      ap₂ (λ x y. x || y) (agree.sync f lf)
      (ap₂ (λ x y. x && not y) (ap₂ (λ x y. not x && not y) (agree.barrier e le) (agree.barrier h lh)) (ap₂ (λ x y. x && y) (agree.store e le) (agree.load h lh)))

  pub same17 : may17 c.threads c.events (set_in g.own) (bit g.barriers) (applies_in g.barriers g.syncs g.stores g.loads) (order_in c.rows) (order_in c.rows) ≡ rule17 (case_of c)
  unfolding may17 rule17 everywhere case_of
  same17 =
      let o = before_in c in
      all_same c.threads _ _ (λ p lp. all_same c.events _ _ (λ f lf.
      ap₂ (λ x y. x ⇒ y) (ap₂ (λ x y. x && y) (agree.barrier f lf) (agree.own p lp f lf))
      (all_same c.events _ _ (λ e le. ap₂ (λ x y. x ⇒ y) (o p lp e le f lf)
      (all_same c.events _ _ (λ h lh. ap₂ (λ x y. x ⇒ y) (ap₂ (λ x y. x && y) (ap₂ (λ x y. x && y) (agree.own p lp h lh) (o p lp f lf h lh)) (applicable-in f lf e le h lh))
      (all_same c.threads _ _ (λ q lq. o q lq e le h lh))))))))

  -- the order of an event's thread
  at_thread : (l : ℕ) → l < c.events → (a : ℕ) → a < c.events → (b : ℕ) → b < c.events
      → order_in c.rows (thread_in c.thread l) a b ≡ before (case_of c) (thread (case_of c) l) a b
  at_thread l ll a la b lb =
      before_in c (get_or c.thread l 0) (sound.thread l ll) a la b lb ∙ ap (λ (t : ℕ). before (case_of c) t a b) (sym (thread-in c l ll))

  pub thread_most : (l : ℕ) → l < c.events → get_or c.thread l 0 < most_threads
  thread_most l ll = lt_of_lt_of_le (sound.thread l ll) sound.threads_most

  must_read_in : (l : ℕ) → l < c.events → (s : ℕ) → s < c.events
      → must_read c.events (bit g.loads) (store_in g.stores g.partners) (thread_in c.thread) (order_in c.rows) (order_in c.rows) l s ≡ reads_from (case_of c) l s
  unfolding must_read reads_from case_of
  must_read_in l ll s ls =
      let o = at_thread l ll in
      ap₂ (λ x y. x && y)
      (ap₂ (λ x y. x && y) (ap₂ (λ x y. x && y) (agree.load l ll) (store-for l ll s ls)) (o s ls l ll))
      (all_same c.events _ _ (λ x lx.
      ap₂ (λ u w. u ⇒ w) (ap₂ (λ u w. u && not (eqb x s) && w) (store-for l ll x lx) (o x lx l ll)) (o x lx s ls)))

  pub same18 : may18 c.threads c.events (set_in g.own) (bit g.barriers) (applies_in g.barriers g.syncs g.stores g.loads) (bit g.stores) (read_in c.events g.loads g.stores g.partners c.thread c.rows) (thread_in c.thread) (order_in c.rows) (order_in c.rows)
      ≡ rule18 (case_of c)
  unfolding may18 rule18 everywhere case_of
  same18 =
      let o = before_in c in
      all_same c.threads _ _ (λ p lp. all_same c.events _ _ (λ f lf.
      ap₂ (λ x y. x ⇒ y) (ap₂ (λ x y. x && y) (agree.barrier f lf) (agree.own p lp f lf))
      (all_same c.events _ _ (λ s ls.
      ap₂ (λ x y. x ⇒ y) (ap₂ (λ x y. x && y) (ap₂ (λ x y. x && y) (agree.store s ls) (agree.own p lp s ls)) (o p lp f lf s ls))
      (all_same c.events _ _ (λ l ll.
      ap₂ (λ x y. x ⇒ y) (must_read_in l ll s ls)
      (all_same c.events _ _ (λ h lh. ap₂ (λ x y. x ⇒ y) (at_thread l ll l ll h lh)
      (all_same c.events _ _ (λ e le. ap₂ (λ x y. x ⇒ y) (ap₂ (λ x y. x && y) (o p lp e le f lf) (applicable-in f lf e le h lh))
      (all_same c.threads _ _ (λ q lq. o q lq e le h lh))))))))))))

  -- what the tests require
  pub shared : Shared c.threads c.events g.partners c.thread
  unfolding one_address case_of
  shared = record {
    same = λ a la b lb. agree.partner a la b lb ∙ turn (not (is_barrier (case_of c) a)) (not (is_barrier (case_of c) b)) (eqb_sym (address (case_of c) a) (address (case_of c) b)) ∙ sym (agree.partner b lb a la);
    thread = sound.thread;
  }
    where
      turn : (x y : Bool) {z w : Bool} → z ≡ w → (x && y && z) ≡ (y && x && w)
      turn true true h = h
      turn true false h = refl
      turn false true h = refl
      turn false false h = refl

  -- the verdict's parts, by rows and sets
  pub order_is : order_broken c.threads c.events g.own g.barriers g.stores g.partners g.dependents c.address c.writes c.rows ≡ order_verdict (case_of c)
  unfolding order_verdict
  order_is = rw (same11 c, same12, same13, same14) refl

  pub value_is : {judge those : List ℕ} {fresh : ℕ} (w : Model) → Judged (case_of c) w judge → Seen (case_of c) those
      → Set fresh (λ l. ltb l c.events && fresh_in g.loads c.value c.address c.initial l)
      → value_broken c.threads c.events judge those fresh g.stores g.partners c.value c.rows ≡ value_verdict (case_of c) w
  unfolding value_verdict
  value_is w j v f = rw (same15 w j f, same16 w j v) refl

  pub barrier_is : barrier_broken c.threads c.events g.own g.barriers g.syncs g.stores g.loads g.partners c.thread c.rows ≡ barrier_verdict (case_of c)
  unfolding barrier_verdict
  barrier_is = rw (same17, same18) refl

-- the columns are those of the case's rows
pub turned : {c : Held} {columns : List ℕ} → Sound c → Columns c.threads c.events c.rows columns → WithColumns c.threads c.events c.rows columns
turned sound t = record { threads = sound.threads_most; events = sound.events_most; turned = t }

-- a load comes after the store from which it must read, in its thread's order
pub read_later : (k loads stores : ℕ) (partners threads rows : List ℕ) (l s : ℕ) → read_in k loads stores partners threads rows l s ≡ true → order_in rows (thread_in threads l) s l ≡ true
unfolding must_read
read_later k loads stores partners threads rows l s h =
    and_r (bit loads l && store_in stores partners l s) (order_in rows (thread_in threads l) s l)
    (and_l (bit loads l && store_in stores partners l s && order_in rows (thread_in threads l) s l) _ h)

-- where no rule from 11 to 14 is broken, 11 holds
pub no_order : (c : Held) → order_verdict (case_of c) ≡ 0 → may11 c.threads c.events (order_in c.rows) (order_in c.rows) ≡ true
unfolding order_verdict
no_order c h = same11 c ∙ go (rule11 (case_of c)) _ h
  where
    go : (x : Bool) (rest : ℕ) → or_else x 11 rest ≡ 0 → x ≡ true
    go true rest h = refl
    go false rest h = absurd (omega arith)

-- ---- the verdict, rule by rule

-- the first of some rules, by what its test x says
module _ {x a : Bool} (e : x ≡ a) (i rest : ℕ) where
  pub stops : not x ≡ true → i ≡ or_else a i rest
  stops t = ap (λ b. or_else b i rest) (sym (sym e ∙ not-true x t))

  pub goes_on : not x ≡ false → {r : ℕ} → r ≡ rest → r ≡ or_else a i rest
  goes_on t h = h ∙ ap (λ b. or_else b i rest) (sym (sym e ∙ not-false x t))

-- a rule's number is not that of none
pub no_zero : (r : Rule) → rule_number r ≡ 0 → ⊥
no_zero StrictOrder h = absurd (omega arith)
no_zero OwnOrder h = absurd (omega arith)
no_zero ProgramOrder h = absurd (omega arith)
no_zero Coherence h = absurd (omega arith)
no_zero EarlierStore h = absurd (omega arith)
no_zero LatestStore h = absurd (omega arith)
no_zero Barrier h = absurd (omega arith)
no_zero CumulativeBarrier h = absurd (omega arith)

-- two rules that hold
pub none-broken : (i j : ℕ) {a b : Bool} → a ≡ true → b ≡ true → 0 ≡ or_else a i (or_else b j 0)
none-broken i j h g = sym (ap₂ (λ x y. or_else x i (or_else y j 0)) h g)

-- the verdict by its three parts
module _ (c : Held) (w : Model) where
  abbrev from15 : ℕ
  from15 =
      or_else (rule15 (case_of c) w) 15 (or_else (rule16 (case_of c) w) 16 (or_else (rule17 (case_of c)) 17 (or_else (rule18 (case_of c)) 18 0)))

  pub by_order : (order_verdict (case_of c) ≡ 0 → ⊥) → order_verdict (case_of c) ≡ verdict (case_of c) w
  unfolding order_verdict verdict
  by_order h = go (rule11 (case_of c)) (rule12 (case_of c)) (rule13 (case_of c)) (rule14 (case_of c)) from15 h
    where
      go : (x y z t : Bool) (rest : ℕ) → (or_else x 11 (or_else y 12 (or_else z 13 (or_else t 14 0))) ≡ 0 → ⊥)
          → or_else x 11 (or_else y 12 (or_else z 13 (or_else t 14 0))) ≡ or_else x 11 (or_else y 12 (or_else z 13 (or_else t 14 rest)))
      go false y z t rest h = refl
      go true false z t rest h = refl
      go true true false t rest h = refl
      go true true true false rest h = refl
      go true true true true rest h = absurd (h refl)

  past_order : order_verdict (case_of c) ≡ 0 → from15 ≡ verdict (case_of c) w
  unfolding order_verdict verdict
  past_order h = go (rule11 (case_of c)) (rule12 (case_of c)) (rule13 (case_of c)) (rule14 (case_of c)) h
    where
      go : (x y z t : Bool) {rest : ℕ} → or_else x 11 (or_else y 12 (or_else z 13 (or_else t 14 0))) ≡ 0
          → rest ≡ or_else x 11 (or_else y 12 (or_else z 13 (or_else t 14 rest)))
      go false y z t h = absurd (omega arith)
      go true false z t h = absurd (omega arith)
      go true true false t h = absurd (omega arith)
      go true true true false h = absurd (omega arith)
      go true true true true h = refl

  pub by_value : order_verdict (case_of c) ≡ 0 → (value_verdict (case_of c) w ≡ 0 → ⊥) → value_verdict (case_of c) w ≡ verdict (case_of c) w
  unfolding value_verdict
  by_value o h = go (rule15 (case_of c) w) (rule16 (case_of c) w) (or_else (rule17 (case_of c)) 17 (or_else (rule18 (case_of c)) 18 0)) h ∙ past_order o
    where
      go : (x y : Bool) (rest : ℕ) → (or_else x 15 (or_else y 16 0) ≡ 0 → ⊥) → or_else x 15 (or_else y 16 0) ≡ or_else x 15 (or_else y 16 rest)
      go false y rest h = refl
      go true false rest h = refl
      go true true rest h = absurd (h refl)

  pub by_barrier : order_verdict (case_of c) ≡ 0 → value_verdict (case_of c) w ≡ 0 → barrier_verdict (case_of c) ≡ verdict (case_of c) w
  unfolding value_verdict barrier_verdict
  by_barrier o h = go (rule15 (case_of c) w) (rule16 (case_of c) w) h ∙ past_order o
    where
      go : (x y : Bool) {rest : ℕ} → or_else x 15 (or_else y 16 0) ≡ 0 → rest ≡ or_else x 15 (or_else y 16 rest)
      go false y h = absurd (omega arith)
      go true false h = absurd (omega arith)
      go true true h = refl

-- ---- the sets of a case's events

-- what a set's events share, by address
pub shares : (k set : ℕ) (addresses : List ℕ) {those r : List ℕ} → ((e : ℕ) → e < k → bit set e ≡ true → get_or addresses e 0 < most_addresses)
    → Sets most_addresses those (λ x e. bit set e && (ltb e k && eqb (get_or addresses e 0) x))
    → Sets k r (λ e i. bit set e && set_in those (get_or addresses e 0) i) → Sets k r (shared_in k set addresses)
shares k set addresses {those} within t r = record { has = λ a la b. r.has a la b ∙ by a la b (bit set a) refl }
  where
    by : (a : ℕ) → a < k → (b : ℕ) (x : Bool) → bit set a ≡ x → (x && set_in those (get_or addresses a 0) b) ≡ (x && (bit set b && (ltb b k && eqb (get_or addresses b 0) (get_or addresses a 0))))
    by a la b true h = t.has (get_or addresses a 0) (within a la h) b
    by a la b false h = refl

-- what a load or store has for an address
pub accessed : {k : ℕ} (kinds : List ℕ) {l s : ℕ} {P : ℕ → Type 0} → Set l (λ e. ltb e k && eqb (get_or kinds e 0) load) → Set s (λ e. ltb e k && eqb (get_or kinds e 0) store)
    → ((e : ℕ) → e < k → (eqb (get_or kinds e 0) load || eqb (get_or kinds e 0) store) ≡ true → P e) → (e : ℕ) → e < k → bit (bit_or l s) e ≡ true → P e
accessed {k} kinds {l} {s} loads stores f e le h =
    f e le (ap₂ (λ x y. x || y) (ap (λ t. t && eqb (get_or kinds e 0) load) (sym (lt-ltb e k le)) ∙ sym (loads.has e)) (ap (λ t. t && eqb (get_or kinds e 0) store) (sym (lt-ltb e k le)) ∙ sym (stores.has e)) ∙ sym (bit-or l s e) ∙ h)

-- below k, said once
pub once : (l x : Bool) {t : Bool} → t ≡ l → (t && (l && x)) ≡ (l && x)
once true x h = ap (λ b. b && x) h
once false x h = ap (λ b. b && false) h

module _ (c : Held) (sound : Sound c) where
  pub in_range : {links : ℕ} → links ≡ link_count c.edition c.dependencies → InRange c.events links c.kind c.address c.from c.to
  in_range {links} h = record {
    events = sound.events_most;
    address = λ e le t. lt_of_lt_of_le (sound.address e le (not-not _ (bare (get_or c.kind e 0)) (full-kind c.edition (get_or c.kind e 0) (sound.kind e le)) t)) sound.addresses_most;
    most = subst (λ (i : ℕ). i ≤ most_dependencies) (sym h) sound.links_most;
    from = λ j l. lt_of_lt_of_le (sound.from j (subst (λ (i : ℕ). j < i) h l)) sound.events_most;
    to = λ j l. lt_of_lt_of_le (sound.to j (subst (λ (i : ℕ). j < i) h l)) sound.events_most;
  }

module _ (c : Held) (sound : Sound c) {links : ℕ} {g : EventSets} (h : links ≡ link_count c.edition c.dependencies) (sorted : Sorted c.events links c.kind c.thread c.address c.from c.to g) where
  -- an event below k
  here : (e : ℕ) → e < c.events → (x : Bool) → (ltb e c.events && x) ≡ x
  here e le x = ap (λ t. t && x) (lt-ltb e c.events le)

  access_in : (e : ℕ) → e < c.events → bit (bit_or g.loads g.stores) e ≡ not (bare (get_or c.kind e 0))
  access_in e le =
      bit-or g.loads g.stores e
      ∙ ap₂ (λ x y. x || y) (sorted.loads.has e ∙ here e le (eqb (get_or c.kind e 0) load)) (sorted.stores.has e ∙ here e le (eqb (get_or c.kind e 0) store))
      ∙ full-kind c.edition (get_or c.kind e 0) (sound.kind e le)

  access-full : (e : ℕ) → e < c.events → bit (bit_or g.loads g.stores) e ≡ true → bare (get_or c.kind e 0) ≡ false
  access-full e le h = not-not (bit (bit_or g.loads g.stores) e) (bare (get_or c.kind e 0)) (access_in e le) h

  -- events of the set that use one address
  one-address : (a : ℕ) → a < c.events → (b : ℕ) → b < c.events → shared_in c.events (bit_or g.loads g.stores) c.address a b ≡ one_address (case_of c) a b
  unfolding one_address
  one-address a la b lb =
      by (bit (bit_or g.loads g.stores) a) (bit (bit_or g.loads g.stores) b) refl refl
      ∙ sym (ap₂ (λ x y. not x && not y && eqb (address (case_of c) a) (address (case_of c) b)) (barrier_in c a la) (barrier_in c b lb))
    where
      same : Bool
      same = eqb (address (case_of c) a) (address (case_of c) b)

      by : (x y : Bool) → bit (bit_or g.loads g.stores) a ≡ x → bit (bit_or g.loads g.stores) b ≡ y
          → (x && (y && (ltb b c.events && eqb (get_or c.address b 0) (get_or c.address a 0)))) ≡ (not (bare (get_or c.kind a 0)) && not (bare (get_or c.kind b 0)) && same)
      by true true x y =
          here b lb (eqb (get_or c.address b 0) (get_or c.address a 0))
          ∙ eqb_sym (get_or c.address b 0) (get_or c.address a 0)
          ∙ ap₂ (λ (i j : ℕ). eqb i j) (sym (address_in c a la (access-full a la x))) (sym (address_in c b lb (access-full b lb y)))
          ∙ ap₂ (λ u v. u && v && same) (sym x ∙ access_in a la) (sym y ∙ access_in b lb)
      by true false x y = ap₂ (λ u v. u && v && same) (sym x ∙ access_in a la) (sym y ∙ access_in b lb)
      by false z x y = ap (λ u. u && not (bare (get_or c.kind b 0)) && same) (sym x ∙ access_in a la)

  pub agrees : Agrees (case_of c) g
  unfolding case_of
  agrees = record {
    own = λ x lx e le. sorted.own.has x (lt_of_lt_of_le lx sound.threads_most) e ∙ here e le (eqb (get_or c.thread e 0) x) ∙ sym (of_in c x e le);
    load = λ e le. sorted.loads.has e ∙ here e le (eqb (get_or c.kind e 0) load) ∙ sym (load_in c e le);
    store = λ e le. sorted.stores.has e ∙ here e le (eqb (get_or c.kind e 0) store) ∙ sym (store-in c e le);
    barrier = λ e le.
        sorted.barriers.has e ∙ ap₂ (λ x y. x && not y) (lt-ltb e c.events le) (access_in e le) ∙ twice_not (bare (get_or c.kind e 0)) ∙ sym (barrier_in c e le);
    sync = λ e le. sorted.syncs.has e ∙ here e le (eqb (get_or c.kind e 0) sync) ∙ sym (sync_in c e le);
    partner = λ x lx y ly. sorted.partners.has x lx y ∙ one-address x lx y ly;
    dependent = λ x lx y ly. sorted.dependents.has x (lt_of_lt_of_le lx sound.events_most) y ∙ ap (λ (i : ℕ). depends_in c.from c.to i x y) h ∙ sym (depends-in c x y);
  }
