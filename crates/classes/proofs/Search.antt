-- The best permutation of threads and the best one of addresses give the representative; what decides between two permutations of
-- addresses; one more permutation tried.
-- Assumes nothing.
use Prim.Native.Nat.{ℕ, ◌+◌, ◌<◌}
use native.Mathlib.Nat.{zero-add}
use native.Mathlib.Omega.{arith}
use mathlib.Core.Path.{◌≡◌, refl, sym, ap, ap₂, ◌∙◌, subst}
use mathlib.Core.Bool.{Bool, true, false, cond, ◌&&◌, true≢false}
use mathlib.Core.List.{List, [], ◌∷◌, ◌++◌, append_assoc}
use lib.Dec.{T, eqb}
use lib.ListN.{length, get_or, drop}
use lib.Seq.{drop_at}
use borrow.Author.Count.{below_more}
use borrow.Author.Tests.{eqb-true}
use Rattle.finite.specs.Tests.{count}
use Rattle.finite.specs.Lists.{each, All}
use Rattle.finite.proofs.Tests.{T_true, true-T, and_l, and_r}
use Rattle.finite.proofs.Lists.{table_same}
use Rattle.finite.proofs.All.{all_at, from_at}
use Rattle.number.specs.Number.{encode}
use Rattle.number.proofs.Encoding.{encode_low}
use Rattle.permutation.specs.Permutation.{labels, image, inverse, fits}
use Rattle.permutation.proofs.Laws.{fits_below, fits_image, fits-inverse, image_inverse, inverse_image}
use Rattle.codec.proofs.AsLong.{AsLong, still, ◌then◌}
use Rattle.model.specs.Case.{Case, Event, no_event, store, bare}
use Rattle.model.specs.Record.{store_to}
use Rattle.model.specs.Written.{record_of}
use Rattle.model.specs.Renumber.{moved, renumber}
use Rattle.model.specs.Fits.{EventFits, WriteFits, Fits}
use Rattle.model.proofs.WriteOrders.{writes_from}
use Rattle.laws.proofs.ExactCase.{record_injective}
use Rattle.classes.specs.Order.{at_most}
use Rattle.classes.specs.Representative.{representative, Renumbering}
use Rattle.classes.specs.Search.{Best, BestThreads, BestAddresses}
use Rattle.classes.proofs.Order.{at_most_same, at_most_trans, at_most_both, at_most_other, front_decides}
use Rattle.classes.proofs.Representative.{renumbering-fits, representative_is, representative-least, representative-fits}
use Rattle.classes.proofs.Decide.{address_byte, initial_bytes, address_bytes, writes_bytes, labels-long, moved_both, threads_apart, addresses_apart, addresses_decide}

-- ---- the numbers below i, and i

module _ (test : ℕ → Bool) (bytes : ℕ → List ℕ) where
  pub best_first : test 0 ≡ true → Best test bytes 1 0
  best_first t = record {
    passes = t;
    least = λ p h _. let z : 0 ≡ p = omega arith in subst (λ (x : ℕ). at_most (bytes 0) (bytes x) ≡ true) z (at_most_same (bytes 0));
  }

  module _ (i q : ℕ) (B : Best test bytes i q) where
    -- where q gives at most what i does, if i passes the test
    pub best_kept : (test i ≡ true → at_most (bytes q) (bytes i) ≡ true) → Best test bytes (i + 1) q
    best_kept h = record { passes = B.passes; least = below_more (λ p. test p ≡ true → at_most (bytes q) (bytes p) ≡ true) i B.least h }

    pub best_taken : test i ≡ true → at_most (bytes q) (bytes i) ≡ false → Best test bytes (i + 1) i
    best_taken t h = record {
      passes = t;
      least =
          below_more (λ p. test p ≡ true → at_most (bytes i) (bytes p) ≡ true) i
          (λ p l u. at_most_trans (bytes i) (bytes q) (bytes p) (at_most_other (bytes q) (bytes i) h) (B.least p l u)) (λ u. at_most_same (bytes i));
    }

-- what decides as the bytes do gives the same best
pub best_by :
    (test : ℕ → Bool) (part bytes : ℕ → List ℕ) (i q : ℕ)
    → ((p : ℕ) → test p ≡ true → (p' : ℕ) → test p' ≡ true → at_most (bytes p) (bytes p') ≡ at_most (part p) (part p'))
    → Best test part i q → Best test bytes i q
best_by test part bytes i q h B = record { passes = B.passes; least = λ p l t. h q B.passes p t ∙ B.least p l t }

-- ---- both best permutations

module _ (c : Case) (F : Fits c) where
  -- a renumbering that is at most each is the representative
  least_is : (d : Case) → Renumbering c d → ((e : Case) → Renumbering c e → at_most (record_of d) (record_of e) ≡ true) → d ≡ representative c
  least_is d R h =
      record_injective d (representative c) (renumbering-fits c d F R) (representative-fits c F)
      (at_most_both (record_of d) (record_of (representative c)) (h (representative c) (representative_is c F)) (representative-least c F d R))

  -- 24 and 24 comparisons instead of 576
  pub best_two : (q r : ℕ) → BestThreads c q → BestAddresses c r → renumber q r c ≡ representative c
  best_two q r B A =
      least_is (renumber q r c) (record { q = q; r = r; threads = t; addresses = u; is = refl }) (λ e R. subst (λ (x : Case). at_most (record_of (renumber q r c)) (record_of x) ≡ true) (sym R.is) (none-less R))
    where
      t : T (fits q c.n)
      t = true-T B.passes

      u : T (fits r c.m)
      u = true-T A.passes

      none-less : {e : Case} (R : Renumbering c e) → at_most (record_of (renumber q r c)) (record_of (renumber R.q R.r c)) ≡ true
      none-less R =
          at_most_trans _ (record_of (renumber q R.r c)) _
          (addresses_apart c F q 0 r R.r u R.addresses ∙ A.least R.r (fits_below R.r c.m R.addresses) (T_true {b = fits R.r c.m} R.addresses))
          (threads_apart c F q R.q R.r 0 t R.threads ∙ B.least R.q (fits_below R.q c.n R.threads) (T_true {b = fits R.q c.n} R.threads))

-- ---- equal address fields make equal write orders

module _ (c : Case) (F : Fits c) (r r' : ℕ) (fr : T (fits r c.m)) (fr' : T (fits r' c.m)) where
  -- r and r' send the event's address to one label
  abbrev Same : Event → Type 0
  Same e = bare e.kind ≡ false → image r e.address ≡ image r' e.address

  first-same : (x y : ℕ) (u v : List ℕ) → x < labels → y < labels → encode x ++ u ≡ encode y ++ v → (x ≡ y) × (u ≡ v)
  first-same x y u v h l e =
      let z : (x ∷ u) ≡ (y ∷ v) = sym (ap (λ (w : List ℕ). w ++ u) (encode_low x (omega arith))) ∙ e ∙ ap (λ (w : List ℕ). w ++ v) (encode_low y (omega arith)) in
      (ap (λ (w : List ℕ). get_or w 0 0) z, ap (λ (w : List ℕ). drop 1 w) z)

  events-same : (es : List Event) → All (EventFits c.edition c.n c.m) es → each (address_byte r) es ≡ each (address_byte r') es → All Same es
  unfolding each
  events-same [] h e = tt
  events-same (x ∷ es) h e = go (bare x.kind) refl e (events-same es h.1)
    where
      below-labels : (s : ℕ) → T (fits s c.m) → bare x.kind ≡ false → image s x.address < labels
      below-labels s f b = let hm = F.m_most in omega (arith, fits_image s c.m f x.address (h.0.address b))

      go :
          (b : Bool) → bare x.kind ≡ b
          → cond b [] (encode (image r x.address)) ++ each (address_byte r) es ≡ cond b [] (encode (image r' x.address)) ++ each (address_byte r') es
          → (each (address_byte r) es ≡ each (address_byte r') es → All Same es) → Same x × All Same es
      go true b e rest = (λ n. absurd (true≢false (sym b ∙ n)), rest e)
      go false b e rest =
          let both = first-same (image r x.address) (image r' x.address) _ _ (below-labels r fr b) (below-labels r' fr' b) e in
          (λ _. both.0, rest both.1)

  module _ (same : All Same c.events) where
    -- an address that has a store
    stored_same : (x e : ℕ) (w : List ℕ) → x < c.m → get_or c.writes x [] ≡ e ∷ w → image r x ≡ image r' x
    unfolding store_to
    stored_same x e w h g =
        let here : WriteFits c.k (store_to c.events x) [] (e ∷ w) =
        subst (WriteFits c.k (store_to c.events x) []) g
        (rw zero-add at (from_at (λ x w. (length w ≡ count c.k (store_to c.events x)) × WriteFits c.k (store_to c.events x) [] w) 0 c.writes
        (writes_from c.k (store_to c.events) [] c.writes F.writes) x [] (subst (λ (i : ℕ). x < i) F.m' h))).1 in
        let event : Event = get_or c.events e no_event in
        let mine = and_l (eqb event.kind store && eqb event.address x) _ here.1 in
        let kind : event.kind ≡ store = eqb-true _ _ (and_l (eqb event.kind store) _ mine) in
        let address : event.address ≡ x = eqb-true _ _ (and_r (eqb event.kind store) _ mine) in
        let at-event : Same event = all_at Same c.events same e no_event (subst (λ (i : ℕ). e < i) F.k here.0) in
        subst (λ (y : ℕ). image r y ≡ image r' y) address (at-event (ap bare kind))

    -- the write order that moves to label y
    label_same : (y : ℕ) → y < c.m → get_or c.writes (image (inverse r) y) [] ≡ get_or c.writes (image (inverse r') y) []
    label_same y h = go (get_or c.writes a []) (get_or c.writes b []) refl refl
      where
        a : ℕ
        a = image (inverse r) y

        b : ℕ
        b = image (inverse r') y

        from_first : image r a ≡ image r' a → a ≡ b
        from_first e =
            sym (inverse_image r' (fits_below r' c.m fr') a) ∙ ap (image (inverse r')) (sym e ∙ image_inverse r (fits_below r c.m fr) y)

        from_second : image r b ≡ image r' b → a ≡ b
        from_second e =
            ap (image (inverse r)) (sym (e ∙ image_inverse r' (fits_below r' c.m fr') y)) ∙ inverse_image r (fits_below r c.m fr) b

        go : (v w : List ℕ) → get_or c.writes a [] ≡ v → get_or c.writes b [] ≡ w → get_or c.writes a [] ≡ get_or c.writes b []
        go [] [] g l = g ∙ sym l
        go (e ∷ v) w g l =
            ap (λ (x : ℕ). get_or c.writes x []) (from_first (stored_same a e v (fits_image (inverse r) c.m (fits-inverse r c.m fr) y h) g))
        go [] (e ∷ w) g l =
            ap (λ (x : ℕ). get_or c.writes x []) (from_second (stored_same b e w (fits_image (inverse r') c.m (fits-inverse r' c.m fr') y h) l))

  same_writes : address_bytes c r ≡ address_bytes c r' → writes_bytes c r ≡ writes_bytes c r'
  unfolding moved
  same_writes e =
      let same : All Same c.events = events-same c.events F.events e in
      ap (each (each encode)) (table_same 0 c.m _ _ (λ y _ h. label_same same y (rw zero-add at h)))

  addresses-long : (es : List Event) → All (EventFits c.edition c.n c.m) es → AsLong (each (address_byte r) es) (each (address_byte r') es)
  unfolding each
  addresses-long [] h = still []
  addresses-long (e ∷ es) h = go (bare e.kind) refl then addresses-long es h.1
    where
      go : (b : Bool) → bare e.kind ≡ b → AsLong (cond b [] (encode (image r e.address))) (cond b [] (encode (image r' e.address)))
      go true p = still []
      go false p = record { long = labels-long r r' c.m F.m_most fr fr' e.address (h.0.address p) }

  -- between two permutations of addresses the initial values and the address fields decide alone
  pub addresses_alone :
      (q : ℕ)
      → at_most (record_of (renumber q r c)) (record_of (renumber q r' c)) ≡ at_most (initial_bytes c r ++ address_bytes c r) (initial_bytes c r' ++ address_bytes c r')
  addresses_alone q =
      let first : AsLong (initial_bytes c r) (initial_bytes c r') = record { long = moved_both encode r r' c.m fr fr' 0 c.initials F.m } in
      let both : AsLong (initial_bytes c r ++ address_bytes c r) (initial_bytes c r' ++ address_bytes c r') = first then addresses-long c.events F.events in
      addresses_decide c F q r r' fr fr'
      ∙ sym (ap₂ at_most (append_assoc (initial_bytes c r) (address_bytes c r) (writes_bytes c r)) (append_assoc (initial_bytes c r') (address_bytes c r') (writes_bytes c r')))
      ∙ front_decides (initial_bytes c r ++ address_bytes c r) (initial_bytes c r' ++ address_bytes c r') (writes_bytes c r) (writes_bytes c r') both.long
      (λ e.
      same_writes
      (sym (drop_at (initial_bytes c r) (address_bytes c r) (length (initial_bytes c r)) refl)
      ∙ ap (drop (length (initial_bytes c r))) e
      ∙ drop_at (initial_bytes c r') (address_bytes c r') (length (initial_bytes c r)) (sym first.long)))
