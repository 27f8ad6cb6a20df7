-- A case that keeps the limits keeps them with other labels, and its record keeps its length.
-- Assumes nothing.
use Prim.Native.Nat.{ℕ, ◌≤◌, ◌<◌}
use native.Mathlib.Nat.{zero-add}
use native.Mathlib.Omega.{arith}
use mathlib.Core.Path.{◌≡◌, refl, sym, ap, ◌∙◌, subst, fun_ext}
use mathlib.Core.Bool.{Bool, true, false, cond, ◌&&◌}
use mathlib.Core.List.{List, [], ◌∷◌, ◌++◌, map}
use lib.Dec.{T, eqb}
use lib.ListN.{length, get_or, length-map}
use borrow.Author.Tests.{eqb-true}
use Rattle.finite.specs.Tests.{count}
use Rattle.finite.specs.Lists.{table, each, All}
use Rattle.finite.proofs.Lists.{table-length, as_table}
use Rattle.finite.proofs.All.{all_at, all-table, from_at, from_table, all_mapped}
use Rattle.number.specs.Number.{encode}
use Rattle.number.proofs.Encoding.{encode_low}
use Rattle.permutation.specs.Permutation.{labels, image, inverse, fits}
use Rattle.permutation.proofs.Laws.{image_inverse, image_eqb, fits_below, fits_image, fits-inverse}
use Rattle.permutation.proofs.Sums.{total_image}
use Rattle.codec.proofs.AsLong.{AsLong, still, ◌then◌, table-long}
use Rattle.model.specs.Case.{Case, Event, no_event, store, bare}
use Rattle.model.specs.Record.{dependency_good, store_to}
use Rattle.model.specs.Written.{event_bytes, dependencies_bytes, order_bytes, record_of}
use Rattle.model.specs.Renumber.{moved, relabel, renumber}
use Rattle.model.specs.Fits.{EventFits, WriteFits, WritesFit, Fits}
use Rattle.model.proofs.WriteOrders.{writes_from, from_writes}
use Rattle.laws.proofs.Renumbered.{event-at}

module _ {A : Type 0} (P : A → Type 0) where
  all_moved : (q j : ℕ) → T (fits q j) → (d : A) (l : List A) → j ≡ length l → All P l → All P (moved q j d l)
  unfolding moved
  all_moved q j f d l e h =
      all-table P 0 j _
      (λ y m. all_at P l h (image (inverse q) y) d (subst (λ (i : ℕ). image (inverse q) y < i) e (fits_image (inverse q) j (fits-inverse q j f) y (rw zero-add at m))))

moved_length : {A : Type 0} (q j : ℕ) (d : A) (l : List A) → j ≡ length (moved q j d l)
unfolding moved
moved_length q j d l = sym (table-length 0 j _)

-- what is written of a list takes as many bytes as what is written of it moved
pub moved-long :
    {A : Type 0} (enc : A → List ℕ) (q j : ℕ) → T (fits q j) → (d : A) (l : List A) → j ≡ length l → AsLong (each enc (moved q j d l)) (each enc l)
unfolding moved
moved-long {A} enc q j f d l e = record {
  long =
      table-long enc j (λ y. get_or l (image (inverse q) y) d)
      ∙ total_image (inverse q) j (fits-inverse q j f) (λ y. length (enc (get_or l y d)))
      ∙ sym (ap (λ (l : List A). length (each enc l)) (as_table l d j (sym e)) ∙ table-long enc j (λ y. get_or l y d));
}

-- labels take one byte each
pub label-long : (v w : ℕ) → v < labels → w < labels → AsLong (encode v) (encode w)
label-long v w h l = record { long = rw (encode_low v (omega arith), encode_low w (omega arith)) }

module _ (q r n m : ℕ) (fq : T (fits q n)) (fr : T (fits r m)) where
  event-fits : (edition : ℕ) (e : Event) → EventFits edition n m e → EventFits edition n m (relabel q r e)
  unfolding relabel
  event-fits edition e f = record {
    kind = f.kind;
    thread = fits_image q n fq e.thread f.thread;
    address = λ h. rw h (fits_image r m fr e.address (f.address h));
    value = f.value;
    no_address = λ h. rw h (f.no_address h);
    no_value = f.no_value;
  }

  -- a store to the address to which y moves back
  store-moved : (y : ℕ) (e : Event) → (eqb e.kind store && eqb (relabel q r e).address y) ≡ (eqb e.kind store && eqb e.address (image (inverse r) y))
  unfolding relabel
  store-moved y e = go (eqb e.kind store) refl
    where
      go :
          (b : Bool) → eqb e.kind store ≡ b
          → (b && eqb (cond (bare e.kind) e.address (image r e.address)) y) ≡ (b && eqb e.address (image (inverse r) y))
      go false p = refl
      go true p =
          let is_store : bare e.kind ≡ false = ap bare (eqb-true e.kind store p) in
          rw is_store
          (ap (eqb (image r e.address)) (sym (image_inverse r (fits_below r m fr) y))
          ∙ image_eqb r (fits_below r m fr) e.address (image (inverse r) y))

  stores-moved : (es : List Event) (y : ℕ) → store_to (map (relabel q r) es) y ≡ store_to es (image (inverse r) y)
  unfolding store_to
  stores-moved es y = fun_ext (λ e. rw (event-at q r es e) (unfold relabel in store-moved y (get_or es e no_event)))

  -- a dependency is as good as before
  goods_moved : (es : List Event) → dependency_good (map (relabel q r) es) ≡ dependency_good es
  unfolding dependency_good
  goods_moved es =
      fun_ext (λ d. rw (event-at q r es d.from, event-at q r es d.to) (unfold relabel in
      simp (image_eqb q (fits_below q n fq))))

  module _ (hn : n ≤ labels) (hm : m ≤ labels) where
    -- an event takes as many bytes as before
    event-long : (edition : ℕ) (e : Event) → EventFits edition n m e → AsLong (event_bytes (relabel q r e)) (event_bytes e)
    unfolding event_bytes relabel
    event-long edition e f =
        still (encode e.kind)
        then label-long (image q e.thread) e.thread (omega (arith, fits_image q n fq e.thread f.thread)) (omega (arith, f.thread))
        then go (bare e.kind) refl
      where
        go :
            (b : Bool) → bare e.kind ≡ b
            → AsLong (cond b [] (encode (cond b e.address (image r e.address)) ++ encode e.value)) (cond b [] (encode e.address ++ encode e.value))
        go true p = still []
        go false p =
            label-long (image r e.address) e.address (omega (arith, fits_image r m fr e.address (f.address p))) (omega (arith, f.address p))
            then still (encode e.value)

    events-long : (edition : ℕ) (es : List Event) → All (EventFits edition n m) es → AsLong (each event_bytes (map (relabel q r) es)) (each event_bytes es)
    unfolding each
    events-long edition [] h = still []
    events-long edition (e ∷ es) h = event-long edition e h.0 then events-long edition es h.1

module _ (q r : ℕ) (c : Case) (F : Fits c) (fq : T (fits q c.n)) (fr : T (fits r c.m)) where
  -- a write order that lists the stores mine
  abbrev Whole : (ℕ → Bool) → List ℕ → Type 0
  Whole mine w = (length w ≡ count c.k mine) × WriteFits c.k mine [] w

  writes_fit : WritesFit c.k (store_to (map (relabel q r) c.events)) [] (moved r c.m [] c.writes)
  unfolding moved
  writes_fit =
      let now : ℕ → ℕ → Bool = store_to (map (relabel q r) c.events) in
      let placed : ℕ → List ℕ = λ y. get_or c.writes (image (inverse r) y) [] in
      from_writes c.k now [] (table 0 c.m placed)
      (from_table (λ y w. Whole (now y) w) 0 c.m placed
      (λ y l.
      let x : ℕ = image (inverse r) y in
      let h : x < c.m = fits_image (inverse r) c.m (fits-inverse r c.m fr) y (rw zero-add at l) in
      let old =
      from_at (λ x w. Whole (store_to c.events x) w) 0 c.writes (writes_from c.k (store_to c.events) [] c.writes F.writes) x []
      (subst (λ (i : ℕ). x < i) F.m' h) in
      let same : Whole (store_to c.events x) (get_or c.writes x []) = rw zero-add at old in
      subst (λ (mine : ℕ → Bool). Whole mine (get_or c.writes x [])) (sym (stores-moved q r c.n c.m fq fr c.events y)) same))

  pub refits : Fits (renumber q r c)
  unfolding renumber
  refits = record {
    edition_least = F.edition_least;
    edition_most = F.edition_most;
    n_least = F.n_least;
    n_most = F.n_most;
    m_least = F.m_least;
    m_most = F.m_most;
    k_most = F.k_most;
    m = moved_length r c.m 0 c.initials;
    initials = all_moved _ r c.m fr 0 c.initials F.m F.initials;
    k = F.k ∙ sym (length-map c.events _);
    events = all_mapped _ _ _ (event-fits q r c.n c.m fq fr c.edition) c.events F.events;
    no_dependencies = F.no_dependencies;
    dependencies_most = F.dependencies_most;
    dependencies = rw (goods_moved q r c.n c.m fq fr c.events) F.dependencies;
    m' = moved_length r c.m [] c.writes;
    writes = writes_fit;
    n = moved_length q c.n [] c.orders;
    orders = all_moved _ q c.n fq [] c.orders F.n F.orders;
    name = F.name;
    name_printable = F.name_printable;
  }

  as_long : AsLong (record_of (renumber q r c)) (record_of c)
  unfolding record_of renumber
  as_long =
      still (encode c.edition) then still (encode c.n) then still (encode c.m)
      then moved-long encode r c.m fr 0 c.initials F.m
      then still (encode c.k)
      then events-long q r c.n c.m fq fr F.n_most F.m_most c.edition c.events F.events
      then still (dependencies_bytes c.edition c.dependencies)
      then moved-long (each encode) r c.m fr [] c.writes F.m'
      then moved-long (order_bytes c.k) q c.n fq [] c.orders F.n
      then still (encode (length c.name) ++ c.name)

  pub same_length : length (record_of (renumber q r c)) ≡ length (record_of c)
  same_length = as_long.long
