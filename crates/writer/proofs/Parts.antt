-- A struct's record by stages: what each stage's bytes are in the record of the case that the struct means.
-- Assumes nothing.
use Prim.Native.Nat.{ℕ, zero, suc, ◌+◌, ◌-◌, ◌*◌, ◌%◌, ◌^◌, ◌≤◌, ◌<◌}
use native.Mathlib.Nat.{zero-add, add-zero}
use native.Mathlib.Omega.{arith}
use mathlib.Core.Path.{◌≡◌, refl, sym, ap, ap₂, ◌∙◌}
use mathlib.Core.Bool.{Bool, true, false, cond}
use mathlib.Core.List.{List, [], ◌∷◌, ◌++◌, append-nil, append_assoc}
use lib.ListN.{length, get_or, length-append}
use borrow.Author.Tests.{le-leb, lt-leb}
use Rattle.finite.specs.Tests.{count, tick}
use Rattle.finite.specs.Lists.{table, each}
use Rattle.finite.proofs.Tests.{count_same}
use Rattle.finite.proofs.Lists.{table-length, table-snoc, each_append}
use Rattle.bits.specs.Bit.{bit}
use Rattle.bits.proofs.Bits.{bit_left}
use Rattle.number.specs.Number.{encode, splice}
use Rattle.model.specs.Limits.{second, most_events}
use Rattle.model.specs.Case.{Dependency}
use Rattle.model.specs.Record.{Pair}
use Rattle.model.specs.Written.{event_bytes, dependency_bytes, dependencies_bytes, pair_bytes, row_pairs, rows_pairs, order_bytes, record_of}
use Rattle.model.specs.Answers.{put}
use Rattle.case.specs.declared.Case.{Case as Held}
use Rattle.case.specs.Held.{events_of, link_count, link, links_of, case_of}
use Rattle.case.specs.Stores.{store_at, writes_at}
use Rattle.case.proofs.Means.{writes-of}
use Rattle.writer.specs.Stages.{run, sum, initial_at, event_at, listing_bytes, link_at, links_bytes, entry_at, writes_of, bit_bytes, row_at, pairs_at, pairs, order_at, byte_at, name_bytes, rest_bytes}
use Rattle.writer.specs.Stored.{stored_of}
use Rattle.std.specs.Prelude.{Ok, Err}

-- ---- runs and tables
pub run-same : (n : ℕ) (g h : ℕ → List ℕ) → ((i : ℕ) → i < n → g i ≡ h i) → run g n ≡ run h n
unfolding run
run-same zero g h f = refl
run-same (suc n) g h f = ap₂ (λ (x y : List ℕ). x ++ y) (run-same n g h (λ i l. f i (omega arith))) (f n (omega arith))

sum_same : (n : ℕ) (g h : ℕ → ℕ) → ((i : ℕ) → i < n → g i ≡ h i) → sum g n ≡ sum h n
unfolding sum
sum_same zero g h f = refl
sum_same (suc n) g h f = ap₂ (λ (x y : ℕ). x + y) (sum_same n g h (λ i l. f i (omega arith))) (f n (omega arith))

pub each-run : {A : Type 0} (g : A → List ℕ) (f : ℕ → A) (n : ℕ) → each g (table 0 n f) ≡ run (λ i. g (f i)) n
unfolding run table each
each-run g f zero = refl
each-run g f (suc n) =
    ap (each g) (table-snoc 0 n f) ∙ each_append g (table 0 n f) (f (0 + n) ∷ [])
    ∙ ap₂ (λ (x y : List ℕ). x ++ y) (each-run g f n) (append-nil (g (f (0 + n))) ∙ ap (λ (i : ℕ). g (f i)) (zero-add n))

table-run : (f : ℕ → ℕ) (n : ℕ) → table 0 n f ≡ run (λ i. f i ∷ []) n
unfolding run table
table-run f zero = refl
table-run f (suc n) = table-snoc 0 n f ∙ ap₂ (λ (x : List ℕ) (i : ℕ). x ++ (f i ∷ [])) (table-run f n) (zero-add n)

-- ---- the pairs of a row
abbrev one : (a row b : ℕ) → List Pair
one a row b = cond (bit row b) (record { a = a; b = b } ∷ []) []

row_snoc : (a row b i : ℕ) → row_pairs a row b (suc i) ≡ row_pairs a row b i ++ one a row (b + i)
unfolding row_pairs
row_snoc a row b zero = rw (add-zero b)
row_snoc a row b (suc i) =
    let e : b + suc i ≡ suc b + i = omega arith in
    rw e (by (bit row b) _ (row_pairs a row (suc b) i) (one a row (suc b + i)) (row_snoc a row (suc b) i))
  where
    by : (t : Bool) (x y z : List Pair) → x ≡ y ++ z
        → cond t (record { a = a; b = b } ∷ x) x ≡ cond t (record { a = a; b = b } ∷ y) y ++ z
    by true x y z h = ap (λ (l : List Pair). record { a = a; b = b } ∷ l) h
    by false x y z h = h

one-bytes : (a row b : ℕ) → each pair_bytes (one a row b) ≡ bit_bytes row a b
unfolding bit_bytes pair_bytes each
one-bytes a row b = by (bit row b)
  where
    by : (t : Bool) → each pair_bytes (cond t (record { a = a; b = b } ∷ []) []) ≡ cond t (encode a ++ encode b) []
    by true = append-nil (encode a ++ encode b)
    by false = refl

one-long : (a row b : ℕ) → length (one a row b) ≡ tick (bit row b)
one-long a row b = by (bit row b)
  where
    by : (t : Bool) → length {A = Pair} (cond t (record { a = a; b = b } ∷ []) []) ≡ tick t
    by true = refl
    by false = refl

row_bytes : (a row i : ℕ) → each pair_bytes (row_pairs a row 0 i) ≡ run (bit_bytes row a) i
unfolding run row_pairs each
row_bytes a row zero = refl
row_bytes a row (suc i) =
    ap (each pair_bytes) (row_snoc a row 0 i) ∙ each_append pair_bytes (row_pairs a row 0 i) (one a row (0 + i))
    ∙ ap₂ (λ (x y : List ℕ). x ++ y) (row_bytes a row i) (one-bytes a row (0 + i) ∙ ap (bit_bytes row a) (zero-add i))

row_long : (a row i : ℕ) → length (row_pairs a row 0 i) ≡ count i (bit row)
unfolding count row_pairs
row_long a row zero = refl
row_long a row (suc i) =
    ap length (row_snoc a row 0 i) ∙ length-append (row_pairs a row 0 i) (one a row (0 + i))
    ∙ ap₂ (λ (x y : ℕ). x + y) (row_long a row i) (one-long a row (0 + i) ∙ ap (λ (b : ℕ). tick (bit row b)) (zero-add i))

-- ---- the pairs of the rows
rows_snoc : (k a : ℕ) (rs : List ℕ) (r : ℕ) → rows_pairs k a (rs ++ (r ∷ [])) ≡ rows_pairs k a rs ++ row_pairs (a + length rs) r 0 k
unfolding rows_pairs
rows_snoc k a [] r = rw (add-zero a) (append-nil (row_pairs a r 0 k))
rows_snoc k a (x ∷ rs) r =
    let e : a + suc (length rs) ≡ suc a + length rs = omega arith in
    rw e (ap (λ (l : List Pair). row_pairs a x 0 k ++ l) (rows_snoc k (suc a) rs r) ∙ sym (append_assoc (row_pairs a x 0 k) (rows_pairs k (suc a) rs) (row_pairs (suc a + length rs) r 0 k)))

module _ (k : ℕ) (f : ℕ → ℕ) where
  last-rows : (j : ℕ) → rows_pairs k 0 (table 0 (suc j) f) ≡ rows_pairs k 0 (table 0 j f) ++ row_pairs j (f j) 0 k
  last-rows j =
      ap (rows_pairs k 0) (table-snoc 0 j f) ∙ rows_snoc k 0 (table 0 j f) (f (0 + j))
      ∙ ap₂ (λ (x y : ℕ). rows_pairs k 0 (table 0 j f) ++ row_pairs x (f y) 0 k) (zero-add (length (table 0 j f)) ∙ table-length 0 j f) (zero-add j)

  rows-bytes : (j : ℕ) → each pair_bytes (rows_pairs k 0 (table 0 j f)) ≡ run (λ a. run (bit_bytes (f a) a) k) j
  unfolding run table rows_pairs each
  rows-bytes zero = refl
  rows-bytes (suc j) =
      ap (each pair_bytes) (last-rows j) ∙ each_append pair_bytes (rows_pairs k 0 (table 0 j f)) (row_pairs j (f j) 0 k)
      ∙ ap₂ (λ (x y : List ℕ). x ++ y) (rows-bytes j) (row_bytes j (f j) k)

  rows_long : (j : ℕ) → length (rows_pairs k 0 (table 0 j f)) ≡ sum (λ a. count k (bit (f a))) j
  unfolding sum table rows_pairs
  rows_long zero = refl
  rows_long (suc j) =
      ap length (last-rows j) ∙ length-append (rows_pairs k 0 (table 0 j f)) (row_pairs j (f j) 0 k)
      ∙ ap₂ (λ (x y : ℕ). x + y) (rows_long j) (row_long j (f j) k)

bits_left : (r k a : ℕ) → run (bit_bytes (r % 2 ^ k) a) k ≡ run (bit_bytes r a) k
unfolding bit_bytes
bits_left r k a = run-same k _ _ (λ b h. ap (λ (t : Bool). cond t (encode a ++ encode b) []) (bit_left r k b h))

module _ (rows : List ℕ) (k p : ℕ) where
  pub order-long : length (rows_pairs k 0 (table 0 k (λ a. get_or rows (p * most_events + a) 0 % 2 ^ k))) ≡ pairs rows p k
  unfolding pairs pairs_at
  order-long =
      rows_long k (λ a. get_or rows (p * most_events + a) 0 % 2 ^ k) k
      ∙ sum_same k _ _ (λ a l. count_same k _ _ (λ b h. bit_left (get_or rows (p * most_events + a) 0) k b h))

  order-bytes : order_bytes k (table 0 k (λ a. get_or rows (p * most_events + a) 0 % 2 ^ k)) ≡ order_at rows k p
  unfolding order_bytes order_at row_at
  order-bytes =
      ap₂ (λ (i : ℕ) (l : List ℕ). encode i ++ l) order-long
      (rows-bytes k (λ a. get_or rows (p * most_events + a) 0 % 2 ^ k) k ∙ run-same k _ _ (λ a l. bits_left (get_or rows (p * most_events + a) 0) k a))

-- ---- the record
module _ (c : Held) where
  abbrev pub front : List ℕ
  front = encode c.edition ++ (encode c.threads ++ encode c.addresses)

  abbrev pub listing : List ℕ
  listing = listing_bytes c.initial c.kind c.thread c.address c.value c.addresses c.events

  abbrev pub rest : List ℕ
  rest = rest_bytes c.kind c.address c.writes c.rows c.name c.threads c.addresses c.events c.namelength

  initials_are : each encode (case_of c).initials ≡ run (initial_at c.initial) c.addresses
  unfolding case_of initial_at
  initials_are = each-run encode (λ x. get_or c.initial x 0) c.addresses

  events_are : each event_bytes (case_of c).events ≡ run (event_at c.kind c.thread c.address c.value) c.events
  unfolding case_of events_of event_at
  events_are = each-run event_bytes _ c.events

  writes_are : each (each encode) (case_of c).writes ≡ run (writes_of c.kind c.address c.writes c.events) c.addresses
  unfolding writes_of writes_at entry_at
  writes_are =
      ap (each (each encode)) (writes-of c) ∙ each-run (each encode) _ c.addresses
      ∙ run-same c.addresses _ _ (λ x l. each-run encode _ (count c.events (store_at c.kind c.address x)))

  orders_are : each (order_bytes c.events) (case_of c).orders ≡ run (order_at c.rows c.events) c.threads
  unfolding case_of
  orders_are =
      each-run (order_bytes c.events) _ c.threads ∙ run-same c.threads _ _ (λ p l. order-bytes c.rows c.events p)

  name_is : (case_of c).name ≡ run (byte_at c.name) c.namelength
  unfolding case_of byte_at
  name_is = table-run (λ i. get_or c.name i 0) c.namelength

  name-long : length (case_of c).name ≡ c.namelength
  unfolding case_of
  name-long = table-length 0 c.namelength _

  -- i is how many dependencies there are
  module _ (i : ℕ) (e : i ≡ link_count c.edition c.dependencies) where
    abbrev pub links : List ℕ
    links = links_bytes c.edition c.class c.from c.to i

    links_are : dependencies_bytes c.edition (case_of c).dependencies ≡ links
    unfolding case_of dependencies_bytes links_of links_bytes link_at
    links_are =
        let f : ℕ → Dependency = λ j. link (get_or c.class j 0) (get_or c.from j 0) (get_or c.to j 0) in
        rw (← e, table-length 0 i f) (ap (λ (l : List ℕ). cond (second c.edition) (encode i ++ l) []) (each-run dependency_bytes f i))

    pub record_by : record_of (case_of c) ≡ front ++ (listing ++ (links ++ rest))
    unfolding record_of case_of listing_bytes rest_bytes name_bytes
    record_by = rw (initials_are, events_are, links_are, writes_are, orders_are, name-long, name_is) (simp append_assoc)

-- ---- a record put in a lent buffer
module _ (w s : List ℕ) (at n : ℕ) (e : n ≡ length w) where
  pub put_done : at ≤ length s → n ≤ length s - at → (t : List ℕ) → t ≡ splice s at w → stored_of (Ok n) t ≡ put w s at
  unfolding stored_of put
  put_done a l t h = let g : length w ≤ length s - at = omega arith in rw (le-leb at (length s) a, le-leb (length w) (length s - at) g, e, h)

  pub put_past : length s < at → stored_of (Err (record {})) s ≡ put w s at
  unfolding stored_of put
  put_past l = rw (lt-leb at (length s) l)

  pub put-short : at ≤ length s → length s - at < n → stored_of (Err (record {})) s ≡ put w s at
  unfolding stored_of put
  put-short a l = let g : length s - at < length w = omega arith in rw (le-leb at (length s) a, lt-leb (length w) (length s - at) g)
