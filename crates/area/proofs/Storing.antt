-- Each way through the function that stores one byte of a frame, and the loop over it.
-- Assumes nothing.
use Prim.Native.Nat.{ℕ, zero, suc, ◌+◌, ◌≤◌, ◌<◌}
use native.Mathlib.Nat.{le_antisymm}
use native.Mathlib.Decide.{dec_lt}
use native.Mathlib.Omega.{arith}
use mathlib.Core.Path.{◌≡◌, refl, sym, ap, ◌∙◌, subst}
use Rattle.std.proofs.Common.{min}
use mathlib.Core.List.{List, [], ◌∷◌}
use lib.ListN.{length, get_or, take, drop, set, get_or-append}
use lib.Seq.{drop-cons, get_or_at, get_or-take, take-add, take_all, length-take-le}
use Rattle.area_model.specs.Area.{finished_flag, Store, after_stores, storing, flagging, appending, store_some}
use Rattle.area_model.proofs.Stores.{stores-append, stores-length, storing-length, appending-length}
use Rattle.area.specs.Shown.{Made}

-- in the place of a store that there isn't
abbrev no_store : Store
no_store = record { at = 0; byte = 0 }

get_d_storing : (place : ℕ) (w : List ℕ) (i : ℕ) → i < length w → get_or (storing place w) i no_store ≡ record { at = place + i; byte = get_or w i 0 }
unfolding storing
get_d_storing place [] i l = absurd (omega arith)
get_d_storing place (b ∷ w) zero l = ap (λ (k : ℕ). record { at = k; byte = b }) (omega arith)
get_d_storing place (b ∷ w) (suc i) l = get_d_storing (suc place) w i (omega arith) ∙ ap (λ (k : ℕ). record { at = k; byte = get_or w i 0 }) (omega arith)

-- one of the stores xs
one_of : (area : List ℕ) (xs : List Store) (i : ℕ) (x : Store) → i < length xs → get_or xs i no_store ≡ x
    → set area x.at x.byte ≡ after_stores area (take 1 (drop i xs))
unfolding after_stores
one_of area xs i x l e = sym (rw (drop-cons xs i no_store l, e))

module _ (area : List ℕ) (end : ℕ) (bytes : List ℕ) (size : ℕ) (fits : size ≤ length bytes) where
  abbrev w : List ℕ
  w = take size bytes

  long : length w ≡ size
  long = length-take-le size bytes fits

  stores-count : length (appending end w) ≡ size + 1
  stores-count = appending-length end w ∙ omega (arith, long)

  -- ---- the ways through `store_next`

  pub byte-stored : (made : ℕ) → made < size → set area (end + 1 + made) (get_or bytes made 0) ≡ after_stores area (take 1 (drop made (appending end (take size bytes))))
  byte-stored made l =
      let is : get_or (appending end w) made no_store ≡ record { at = suc end + made; byte = get_or w made 0 } =
      unfold appending in
      get_or-append (storing (suc end) w) (flagging end) no_store made (omega (arith, storing-length (suc end) w, long)) ∙ get_d_storing (suc end) w made (omega (arith, long)) in
      let place : end + 1 + made ≡ suc end + made = omega arith in
      rw (place, ← (get_or-take size bytes made 0 l)) (one_of area (appending end w) made _ (omega (arith, stores-count)) is)

  pub flag-stored : (made : ℕ) → made ≤ size → size ≤ made → set area end 0 ≡ after_stores area (take 1 (drop made (appending end (take size bytes))))
  flag-stored made l m =
      let is : get_or (appending end w) made no_store ≡ record { at = end; byte = finished_flag } =
      unfold appending in get_or_at (storing (suc end) w) (record { at = end; byte = finished_flag }) [] no_store made (storing-length (suc end) w ∙ omega (arith, long)) in
      one_of area (appending end w) made _ (omega (arith, stores-count)) is

-- ---- the loop of `store_frame`

-- after as many turns the area is as after as many of the stores xs, one for each byte of a record and one for its flag
pub record Storing (area₀ : List ℕ) (xs : List Store) (size allowed : ℕ) (area : List ℕ) (made : ℕ) : Type 0 where
  pub count : length xs ≡ size + 1
  pub few : made ≤ allowed
  pub most : made ≤ size + 1
  pub long : length area ≡ length area₀
  pub same : area ≡ after_stores area₀ (take made xs)

pub begun : (area : List ℕ) (end : ℕ) (bytes : List ℕ) (size allowed : ℕ) → size ≤ length bytes → Storing area (appending end (take size bytes)) size allowed area 0
unfolding after_stores
begun area end bytes size allowed fits = record { count = stores-count area end bytes size fits; few = omega arith; most = omega arith; long = refl; same = refl }

module _ (area₀ : List ℕ) (xs : List Store) (size allowed : ℕ) (area : List ℕ) (made : ℕ) (S : Storing area₀ xs size allowed area made) where
  pub one_more : made ≤ size → made < allowed → (now : List ℕ) → now ≡ after_stores area (take 1 (drop made xs)) → Storing area₀ xs size allowed now (made + 1)
  one_more l m now e =
      let same : now ≡ after_stores area₀ (take (made + 1) xs) =
      e ∙ ap (λ (a : List ℕ). after_stores a (take 1 (drop made xs))) S.same
      ∙ sym (ap (after_stores area₀) (take-add made 1 xs) ∙ stores-append (take made xs) (take 1 (drop made xs)) area₀) in
      record { count = S.count; few = omega arith; most = omega arith; long = ap length same ∙ stores-length (take (made + 1) xs) area₀; same = same }

  -- no more stores are allowed, or there are no more
  made_all : take allowed xs ≡ take made xs → Made (store_some allowed xs area₀) made area
  unfolding store_some
  made_all e = record {
    count = sym (ap length e ∙ length-take-le made xs (omega (arith, S.most, S.count)));
    area = S.same ∙ ap (after_stores area₀) (sym e);
  }

  pub cut_short : allowed ≤ made → Made (store_some allowed xs area₀) made area
  cut_short l = let e : allowed ≡ made = omega (arith, S.few) in made_all (rw e)

  pub all-stored : size < made → Made (store_some allowed xs area₀) made area
  all-stored l =
      let all : length xs ≤ made = omega (arith, S.count) in
      made_all (take_all allowed xs (omega (arith, S.few)) ∙ sym (take_all made xs all))

  -- as many stores are made as are allowed, or as there are
  pub all_made : (stores : ℕ) → stores ≡ min allowed (size + 1) → stores ≤ made → made ≤ stores → Made (store_some allowed xs area₀) stores area
  all_made stores e l m = subst (λ (n : ℕ). Made (store_some allowed xs area₀) n area) (le_antisymm m l) (by (dec_lt size made))
    where
      by : Dec (size < made) → Made (store_some allowed xs area₀) made area
      by (yes h) = all-stored h
      by (no h) = cut_short (omega arith)
