-- The final memory by a struct's arrays is that of the case that it means.
-- Assumes nothing.
use Prim.Native.Nat.{ℕ, zero, suc, ◌+◌, ◌-◌, ◌*◌, ◌≤◌, ◌<◌}
use native.Mathlib.Nat.{lt_of_lt_of_le}
use native.Mathlib.Omega.{arith}
use native.Mathlib.Decide.{ℕ_discrete}
use mathlib.Core.Path.{◌≡◌, refl, sym, ap, ◌∙◌, subst}
use mathlib.Core.Bool.{Bool, true, false, cond, ◌&&◌}
use mathlib.Core.List.{List, [], map}
use lib.Dec.{eqb, ltb, eqb-suc-zero}
use lib.ListN.{length, get_or, set, length-set}
use lib.Seq.{get_or-set_same, get_or-set_other}
use borrow.Author.Tests.{ltb-true, lt-ltb}
use Rattle.finite.specs.Tests.{count}
use Rattle.finite.specs.Lists.{table}
use Rattle.finite.proofs.Tests.{count_same}
use Rattle.finite.proofs.Lists.{table_get, table_same, as_table}
use Rattle.bits.specs.Bit.{bit}
use Rattle.model.specs.Limits.{most_events}
use Rattle.model.specs.Case.{Event, bare, store}
use Rattle.model.specs.Record.{store_to}
use Rattle.model.specs.Rules.{last_of, value, initial, address, is_store, kind, final}
use Rattle.case.specs.declared.Case.{Case as Held}
use Rattle.case.specs.Held.{event_of, case_of}
use Rattle.case.specs.Sound.{Sound}
use Rattle.rows.specs.Sets.{Set}
use Rattle.orders.specs.Parts.{writes_in}
use Rattle.rules.specs.Finals.{stored_in, value_in, last_in, final_in}
use Rattle.rules.proofs.Means.{event_in, address_in, initial_in, store-in, store-full}

pub cond_yes : {A : Type 0} (b : Bool) (x y : A) → b ≡ true → x ≡ cond b x y
cond_yes b x y h = ap (λ t. cond t x y) (sym h)

pub cond_no : {A : Type 0} (b : Bool) (x y : A) → b ≡ false → y ≡ cond b x y
cond_no b x y h = ap (λ t. cond t x y) (sym h)

pub pred_lt : (i : ℕ) → (i ≡ 0 → ⊥) → i - 1 < i
pred_lt zero h = absurd (h refl)
pred_lt (suc i) h = omega arith

-- the stores below k
pub stored_here : (k stores : ℕ) (addresses : List ℕ) (x : ℕ)
    → count k (λ e. bit stores e && (ltb e k && eqb (get_or addresses e 0) x)) ≡ count k (stored_in stores addresses x)
stored_here k stores addresses x =
    count_same k (λ e. bit stores e && (ltb e k && eqb (get_or addresses e 0) x)) (stored_in stores addresses x)
    (λ e l. ap (λ t. bit stores e && (t && eqb (get_or addresses e 0) x)) (lt-ltb e k l))

last-of : (f g : ℕ → ℕ) (d i j : ℕ) → last_of d (map f (table i (suc j) g)) ≡ f (g (i + j))
unfolding last_of table
last-of f g d i zero = let e : i ≡ i + 0 = omega arith in ap (λ (m : ℕ). f (g m)) e
last-of f g d i (suc j) = let e : suc i + j ≡ i + suc j = omega arith in last-of f g (f (g i)) (suc i) j ∙ ap (λ (m : ℕ). f (g m)) e

event-value : (k t a v : ℕ) → (event_of k t a v).value ≡ cond (bare k) 0 v
unfolding event_of
event-value k t a v = go (bare k)
  where
    of : Event → ℕ
    of e = e.value

    go : (b : Bool) → of (cond b (record { kind = k; thread = t; address = 0; value = 0 }) (record { kind = k; thread = t; address = a; value = v })) ≡ cond b 0 v
    go true = refl
    go false = refl

module _ (c : Held) (sound : Sound c) where
  value_any : (e : ℕ) → e < c.events → value_in c.kind c.value e ≡ value (case_of c) e
  unfolding value
  value_any e l =
      sym (ap (λ (x : Event). x.value) (event_in c e l) ∙ event-value (get_or c.kind e 0) (get_or c.thread e 0) (get_or c.address e 0) (get_or c.value e 0))

  -- the last of i stores
  last-in : (x : ℕ) → x < c.addresses → (i : ℕ) → ((j : ℕ) → j < i → get_or c.writes (x * most_events + j) 0 < c.events)
      → last_in c.kind c.value c.writes c.initial x i ≡ last_of (initial (case_of c) x) (map (value (case_of c)) (writes_in c.writes x i))
  unfolding last_of table
  last-in x lx zero h = sym (initial_in c x lx)
  last-in x lx (suc j) h =
      let e : suc j - 1 ≡ j = omega arith in
      let z : 0 + j ≡ j = omega arith in
      let g : ℕ → ℕ = λ m. get_or c.writes (x * most_events + m) 0 in
      sym (cond_no (eqb (suc j) 0) (get_or c.initial x 0) (value_in c.kind c.value (g (suc j - 1))) (eqb-suc-zero j))
      ∙ ap (λ (m : ℕ). value_in c.kind c.value (g m)) e
      ∙ value_any (g j) (h j (omega arith))
      ∙ sym (last-of (value (case_of c)) g (initial (case_of c) x) 0 j ∙ ap (λ (m : ℕ). value (case_of c) (g m)) z)

  module _ {stores : ℕ} (s : Set stores (λ e. ltb e c.events && eqb (get_or c.kind e 0) store)) where
    stored-in : (x e : ℕ) → e < c.events → stored_in stores c.address x e ≡ store_to (case_of c).events x e
    unfolding store_to is_store kind address
    stored-in x e l =
        ap (λ t. t && eqb (get_or c.address e 0) x) (s.has e ∙ ap (λ t. t && eqb (get_or c.kind e 0) store) (lt-ltb e c.events l) ∙ sym (store-in c e l))
        ∙ go (is_store (case_of c) e) refl
      where
        go : (b : Bool) → is_store (case_of c) e ≡ b → (is_store (case_of c) e && eqb (get_or c.address e 0) x) ≡ (is_store (case_of c) e && eqb (address (case_of c) e) x)
        go true h = ap (λ (y : ℕ). is_store (case_of c) e && eqb y x) (sym (address_in c e l (store-full (get_or c.kind e 0) (sym (store-in c e l) ∙ h))))
        go false h = ap (λ t. t && eqb (get_or c.address e 0) x) h ∙ ap (λ t. t && eqb (address (case_of c) e) x) (sym h)

    stores-count : (x : ℕ) → count c.events (stored_in stores c.address x) ≡ count c.events (store_to (case_of c).events x)
    stores-count x = count_same c.events (stored_in stores c.address x) (store_to (case_of c).events x) (stored-in x)

    listed : (x : ℕ) → x < c.addresses → (j : ℕ) → j < count c.events (stored_in stores c.address x) → get_or c.writes (x * most_events + j) 0 < c.events
    listed x lx j l = sound.written x lx j (subst (λ (i : ℕ). j < i) (stores-count x) l)

    pub listed_most : (x : ℕ) → x < c.addresses → (j : ℕ) → j < count c.events (stored_in stores c.address x) → get_or c.writes (x * most_events + j) 0 < most_events
    listed_most x lx j l = lt_of_lt_of_le (listed x lx j l) sound.events_most

    pub final-in : (x : ℕ) → final_in c.addresses c.events stores c.kind c.address c.value c.writes c.initial x ≡ final (case_of c) x
    unfolding final case_of
    final-in x = go (ltb x c.addresses) refl
      where
        i : ℕ
        i = count c.events (stored_in stores c.address x)

        go : (b : Bool) → ltb x c.addresses ≡ b
            → cond (ltb x c.addresses) (last_in c.kind c.value c.writes c.initial x i) 0
            ≡ cond (ltb x c.addresses) (last_of (initial (case_of c) x) (map (value (case_of c)) (get_or (case_of c).writes x []))) 0
        go true h =
            let lx : x < c.addresses = ltb-true x c.addresses h in
            ap (λ (y : ℕ). cond (ltb x c.addresses) y 0)
            (last-in x lx i (listed x lx)
            ∙ ap (λ (ws : List ℕ). last_of (initial (case_of c) x) (map (value (case_of c)) ws))
            (ap (writes_in c.writes x) (stores-count x)
            ∙ sym (table_get c.addresses (λ y. writes_in c.writes y (count c.events (store_to (case_of c).events y))) x [] lx)))
        go false h = sym (cond_no (ltb x c.addresses) _ 0 h) ∙ cond_no (ltb x c.addresses) _ 0 h

-- a loop that fills a list with the values of g
pub record FilledBy (n : ℕ) (g : ℕ → ℕ) (i : ℕ) (out : List ℕ) : Type 0 where
  pub within : i ≤ n
  pub room : length out ≡ n
  pub fill : (y : ℕ) → y < i → get_or out y 0 ≡ g y

module _ {n : ℕ} {g : ℕ → ℕ} where
  pub fill_none : {out : List ℕ} → length out ≡ n → FilledBy n g 0 out
  fill_none h = record { within = omega arith; room = h; fill = λ y l. absurd (omega arith) }

  pub fill_next : {i v : ℕ} {out : List ℕ} → FilledBy n g i out → i < n → v ≡ g i → FilledBy n g (i + 1) (set out i v)
  fill_next {i} {v} {out} h l e = record {
    within = omega arith;
    room = length-set out i v ∙ h.room;
    fill = λ y ly. here_or_before y ly (ℕ_discrete y i);
  }
    where
      here_or_before : (y : ℕ) → y < i + 1 → Dec (y ≡ i) → get_or (set out i v) y 0 ≡ g y
      here_or_before y ly (yes same) =
          subst (λ (j : ℕ). get_or (set out i v) j 0 ≡ g j) (sym same) (get_or-set_same out i v 0 (omega (arith, h.room)) ∙ e)
      here_or_before y ly (no other) = get_or-set_other out i y v 0 other ∙ h.fill y (omega arith)

  pub fill_all : {i : ℕ} {out : List ℕ} → FilledBy n g i out → n ≤ i → out ≡ table 0 n g
  fill_all {i} {out} h l =
      as_table out 0 n h.room ∙ table_same 0 n (λ y. get_or out y 0) g (λ y a b. h.fill y (omega (arith, h.within)))
