-- The arrays after a step's stores.
-- Assumes nothing.
use Prim.Native.Nat.{ℕ, zero, suc, ◌+◌, ◌*◌, ◌≤◌, ◌<◌}
use native.Mathlib.Nat.{zero-add, zero-mul, suc-add, not-suc-le-zero, le_of_suc-le-suc}
use native.Mathlib.Omega.{arith}
use native.Mathlib.Decide.{dec_lt}
use mathlib.Core.Path.{◌≡◌, refl, sym, ap, ap₂, ◌∙◌}
use mathlib.Core.Bool.{Bool, false, ◌&&◌}
use mathlib.Core.List.{List, [], ◌∷◌, ◌++◌, map}
use lib.Dec.{ltb}
use lib.ListN.{length, get_or, set, length-append, length-map, get_or-map}
use lib.Seq.{set-append_left, ext_get_or}
use borrow.Author.Tests.{lt-ltb}
use Rattle.finite.specs.Lists.{table}
use Rattle.finite.proofs.Lists.{table_get, table-length, table_same, table-snoc}
use Rattle.bits.specs.Bit.{bit}
use Rattle.model.specs.Limits.{most_threads}
use Rattle.storage_model.specs.Limits.{most_writes, most_listed}
use Rattle.storage_model.specs.Relation.{Relation, related}
use Rattle.storage_model.specs.Subsystem.{Event, appended}
use Rattle.case.specs.Held.{pad, rows_of}
use Rattle.case.proofs.Pad.{length-pad, pad_get, pad-set, pad-put, pad_past, map_snoc, map-set, field_put, rows-length}
use Rattle.storage.specs.Held.{edge_in, entry_of, set_of, rows_held}
use Rattle.storage.proofs.Sets.{set-bit, set_bits, set_same, set_more}

-- ---- a thread's list with one event more

-- its length
pub listed-append : (ls : List (List Event)) (t : ℕ) (e : Event) → t < length ls
    → set (pad most_threads (map length ls)) t (length (get_or ls t []) + 1) ≡ pad most_threads (map length (appended ls t e))
listed-append ls t e h =
    ap (set (pad most_threads (map length ls)) t) (sym (length-append (get_or ls t []) (e ∷ []))) ∙ field_put length most_threads ls t (get_or ls t [] ++ (e ∷ [])) h

set-behind : (xs ys : List ℕ) (j v : ℕ) → set (xs ++ ys) (length xs + j) v ≡ xs ++ set ys j v
set-behind [] ys j v = ap (λ (i : ℕ). set ys i v) (zero-add j)
set-behind (x ∷ xs) ys j v = ap (λ (i : ℕ). set (x ∷ (xs ++ ys)) i v) (suc-add (length xs) j) ∙ ap (λ (l : List ℕ). x ∷ l) (set-behind xs ys j v)

-- what is stored behind row t is the row's next
rows-set : (n : ℕ) (rs : List (List ℕ)) (t v : ℕ) → t < length rs → ((y : ℕ) → y < length rs → length (get_or rs y []) ≤ n) → length (get_or rs t []) < n
    → set (rows_of n rs) (t * n + length (get_or rs t [])) v ≡ rows_of n (set rs t (get_or rs t [] ++ (v ∷ [])))
unfolding rows_of
rows-set n [] t v h b l = absurd (not-suc-le-zero h)
rows-set n (r ∷ rs) zero v h b l =
    let e : 0 * n + length r ≡ length r = rw (zero-mul n) (zero-add (length r)) in
    let m : length (pad n r) ≡ n = length-pad n r (b 0 (omega arith)) in
    rw (e, set-append_left (pad n r) (rows_of n rs) (length r) v (rw m l), pad-set n r (length r) v refl l)
rows-set n (r ∷ rs) (suc t) v h b l =
    let m : length (pad n r) ≡ n = length-pad n r (b 0 (omega arith)) in
    let far : suc t * n + length (get_or rs t []) ≡ length (pad n r) + (t * n + length (get_or rs t [])) = rw m (omega arith) in
    ap (λ (i : ℕ). set (pad n r ++ rows_of n rs) i v) far
    ∙ set-behind (pad n r) (rows_of n rs) (t * n + length (get_or rs t [])) v
    ∙ ap (λ (x : List ℕ). pad n r ++ x) (rows-set n rs t v (le_of_suc-le-suc h) (λ y a. b (suc y) (omega arith)) l)

-- the numbers of a list's events
pub entries_at : (ls : List (List Event)) (y : ℕ) → get_or (map (map entry_of) ls) y [] ≡ map entry_of (get_or ls y [])
entries_at ls y = get_or-map (map entry_of) ls y []

pub entries-length : (ls : List (List Event)) (y : ℕ) → length (get_or (map (map entry_of) ls) y []) ≡ length (get_or ls y [])
entries-length ls y = ap length (entries_at ls y) ∙ length-map (get_or ls y []) entry_of

-- they have room where the lists do
pub entries-short : (ls : List (List Event)) → ((y : ℕ) → y < length ls → length (get_or ls y []) ≤ most_listed)
    → (y : ℕ) → y < length (map (map entry_of) ls) → length (get_or (map (map entry_of) ls) y []) ≤ most_listed
entries-short ls b y m = rw (entries-length ls y) (b y (rw (length-map ls (map entry_of)) at m))

-- its entries
pub events-append : (ls : List (List Event)) (t : ℕ) (e : Event) → t < length ls → ((y : ℕ) → y < length ls → length (get_or ls y []) ≤ most_listed)
    → length (get_or ls t []) < most_listed
    → set (pad (most_threads * most_listed) (rows_of most_listed (map (map entry_of) ls))) (t * most_listed + length (get_or ls t [])) (entry_of e)
    ≡ pad (most_threads * most_listed) (rows_of most_listed (map (map entry_of) (appended ls t e)))
events-append ls t e h b l =
    ap (λ (i : ℕ). set (pad (most_threads * most_listed) (rows_of most_listed rows)) (t * most_listed + i) (entry_of e)) (sym (size t))
    ∙ pad-put (most_threads * most_listed) (rows_of most_listed rows) (t * most_listed + length (get_or rows t [])) (entry_of e) inside
    ∙ ap (pad (most_threads * most_listed)) (rows-set most_listed rows t (entry_of e) in_range short (rw (size t) l) ∙ ap (rows_of most_listed) (sym moved))
  where
    rows : List (List ℕ)
    rows = map (map entry_of) ls

    size : (y : ℕ) → length (get_or rows y []) ≡ length (get_or ls y [])
    size y = entries-length ls y

    in_range : t < length rows
    in_range = rw (length-map ls (map entry_of)) h

    short : (y : ℕ) → y < length rows → length (get_or rows y []) ≤ most_listed
    short = entries-short ls b

    inside : t * most_listed + length (get_or rows t []) < length (rows_of most_listed rows)
    inside = rw (rows-length most_listed rows short, size t, length-map ls (map entry_of)) (omega (arith, h, l))

    moved : map (map entry_of) (appended ls t e) ≡ set rows t (get_or rows t [] ++ (entry_of e ∷ []))
    moved =
        map-set (map entry_of) ls t (get_or ls t [] ++ (e ∷ []))
        ∙ ap (set rows t) (map_snoc entry_of (get_or ls t []) e ∙ ap (λ (r : List ℕ). r ++ (entry_of e ∷ [])) (sym (entries_at ls t)))

-- ---- the rows of coherence

module _ (k : ℕ) (co : Relation) where
  abbrev made : List ℕ
  made = table 0 k (λ b. set_of k (λ a. related co a b))

  long : length made ≡ k
  long = table-length 0 k _

  -- a row for each write that there may be
  pub rows-size : k ≤ most_writes → length (rows_held k co) ≡ most_writes
  unfolding rows_held
  rows-size h = length-pad most_writes made (rw long h)

  -- the row of one of the k writes
  pub rows_at : (b : ℕ) → b < k → get_or (rows_held k co) b 0 ≡ set_of k (λ a. related co a b)
  unfolding rows_held
  rows_at b l = pad_get most_writes made b (rw long l) ∙ table_get k (λ b. set_of k (λ a. related co a b)) b 0 l

  -- the others are empty
  pub rows_past : (b : ℕ) → k ≤ b → get_or (rows_held k co) b 0 ≡ 0
  unfolding rows_held
  rows_past b l = pad_past most_writes made b (rw long l)

  -- what they hold
  pub rows-edge : (a b : ℕ) → a < k → b < k → edge_in (rows_held k co) a b ≡ related co a b
  unfolding edge_in
  rows-edge a b la lb =
      ap (λ (r : ℕ). bit r a) (rows_at b lb) ∙ set-bit k (λ a. related co a b) a ∙ ap (λ (t : Bool). t && related co a b) (lt-ltb a k la)

  -- rows are known by their bits
  pub before-table : (rows : List ℕ) → length rows ≡ most_writes → k ≤ most_writes
      → ((a b : ℕ) → b < k → edge_in rows a b ≡ (ltb a k && related co a b)) → ((b : ℕ) → k ≤ b → get_or rows b 0 ≡ 0) → rows ≡ rows_held k co
  unfolding edge_in
  before-table rows size most bits none = ext_get_or 0 rows (rows_held k co) (size ∙ sym (rows-size most)) (λ b h. at b (dec_lt b k))
    where
      at : (b : ℕ) → Dec (b < k) → get_or rows b 0 ≡ get_or (rows_held k co) b 0
      at b (yes l) = set_bits k (λ a. related co a b) (get_or rows b 0) (λ a. bits a b l) ∙ sym (rows_at b l)
      at b (no d) = none b (omega arith) ∙ sym (rows_past b (omega arith))

-- a new write's row, where the new write is before none
pub before_more : (k : ℕ) (co co' : Relation) (row : ℕ) → k < most_writes → ((a b : ℕ) → a < k → b < k → related co' a b ≡ related co a b)
    → ((b : ℕ) → related co' k b ≡ false) → ((a : ℕ) → bit row a ≡ (ltb a k && related co' a k))
    → set (rows_held k co) k row ≡ rows_held (suc k) co'
unfolding rows_held
before_more k co co' row h agree none bits = pad-set most_writes (made k co) k row (long k co) h ∙ ap (pad most_writes) (sym grown)
  where
    grown : made (suc k) co' ≡ made k co ++ (row ∷ [])
    grown =
        table-snoc 0 k _
        ∙ ap₂ (λ (l : List ℕ) (r : ℕ). l ++ (r ∷ []))
        (table_same 0 k _ _ (λ b z l. set_more k (λ a. related co' a b) (none b) ∙ set_same k _ _ (λ a m. agree a b m (omega arith))))
        (ap (λ (b : ℕ). set_of (suc k) (λ a. related co' a b)) (zero-add k) ∙ set_more k (λ a. related co' a k) (none k) ∙ sym (set_bits k (λ a. related co' a k) row bits))
