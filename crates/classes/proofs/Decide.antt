-- Which fields decide between two renumberings: of threads, the thread fields and then the thread orders; of addresses, the initial values,
-- the address fields and then the write orders. So no record has to be written to find the least, and threads and addresses are
-- looked at one after the other.
-- Assumes nothing.
use Prim.Native.Nat.{ℕ, ◌≤◌, ◌<◌}
use native.Mathlib.Omega.{arith}
use mathlib.Core.Path.{◌≡◌, refl, sym, ap, ap₂, ◌∙◌}
use mathlib.Core.Bool.{Bool, true, false, cond}
use mathlib.Core.List.{List, [], ◌∷◌, ◌++◌, append_assoc, append-nil, map}
use lib.Dec.{T, eqb, ltb}
use lib.ListN.{length}
use Rattle.finite.specs.Lists.{each, All}
use Rattle.number.specs.Number.{encode}
use Rattle.permutation.specs.Permutation.{labels, image, fits}
use Rattle.permutation.proofs.Laws.{fits_image}
use Rattle.model.specs.Case.{Case, Event, bare}
use Rattle.model.specs.Written.{event_bytes, dependencies_bytes, order_bytes, record_of}
use Rattle.model.specs.Renumber.{moved, relabel, renumber}
use Rattle.model.specs.Fits.{EventFits, Fits}
use Rattle.laws.proofs.Refits.{label-long, moved-long}
use Rattle.classes.specs.Order.{at_most}
use Rattle.classes.proofs.Order.{at_most_cancel}

-- comparing a with b is as comparing x with y, and so it stays whatever follows that compares alike
record Decides (a b x y : List ℕ) : Type 0 where
  run : (u v u' v' : List ℕ) → at_most u v ≡ at_most u' v' → at_most (a ++ u) (b ++ v) ≡ at_most (x ++ u') (y ++ v')

-- nothing decides yet
nothing : Decides [] [] [] []
nothing = record { run = λ u v u' v' h. h }

-- bytes of one length decide as themselves
same-front :
    (a b : List ℕ) → length a ≡ length b → (u v u' v' : List ℕ) → at_most u v ≡ at_most u' v' → at_most (a ++ u) (b ++ v) ≡ at_most (a ++ u') (b ++ v')
unfolding at_most
same-front [] [] e u v u' v' h = h
same-front [] (y ∷ b) e u v u' v' h = absurd (omega arith)
same-front (x ∷ a) [] e u v u' v' h = absurd (omega arith)
same-front (x ∷ a) (y ∷ b) e u v u' v' h = ap (λ (t : Bool). cond (eqb x y) t (ltb x y)) (same-front a b (omega arith) u v u' v' h)

itself : (a b : List ℕ) → length a ≡ length b → Decides a b a b
itself a b e = record { run = same-front a b e }

infixr 20 ◌then◌
◌then◌ : {a b x y a' b' x' y' : List ℕ} → Decides a b x y → Decides a' b' x' y' → Decides (a ++ a') (b ++ b') (x ++ x') (y ++ y')
◌then◌ {a} {b} {x} {y} {a'} {b'} {x'} {y'} p q = record {
  run = λ u v u' v' h.
      ap₂ at_most (append_assoc a a' u) (append_assoc b b' v)
      ∙ p.run (a' ++ u) (b' ++ v) (x' ++ u') (y' ++ v') (q.run u v u' v' h)
      ∙ sym (ap₂ at_most (append_assoc x x' u') (append_assoc y y' v'));
}

-- what both have in front, or behind, does not decide
front : (t : List ℕ) {a b x y : List ℕ} → Decides a b x y → Decides (t ++ a) (t ++ b) x y
front t {a} {b} {x} {y} p = record {
  run = λ u v u' v' h. ap₂ at_most (append_assoc t a u) (append_assoc t b v) ∙ at_most_cancel t (a ++ u) (b ++ v) ∙ p.run u v u' v' h;
}

behind : (t : List ℕ) {a b x y : List ℕ} → Decides a b x y → Decides (a ++ t) (b ++ t) x y
behind t {a} {b} {x} {y} p = record {
  run = λ u v u' v' h. ap₂ at_most (append_assoc a t u) (append_assoc b t v) ∙ p.run (t ++ u) (t ++ v) u' v' (at_most_cancel t u v ∙ h);
}

decided : (a b x y : List ℕ) → Decides a b x y → at_most a b ≡ at_most x y
decided a b x y p =
    ap₂ at_most (sym (append-nil a)) (sym (append-nil b)) ∙ p.run [] [] [] [] refl ∙ ap₂ at_most (append-nil x) (append-nil y)

-- labels below n, moved by permutations that fit, take one byte each
pub labels-long :
    (q q' n : ℕ) → n ≤ labels → T (fits q n) → T (fits q' n) → (x : ℕ) → x < n → length (encode (image q x)) ≡ length (encode (image q' x))
labels-long q q' n hn f f' x h =
    (label-long (image q x) (image q' x) (omega (arith, fits_image q n f x h)) (omega (arith, fits_image q' n f' x h))).long

-- a list by labels, moved by permutations that fit, takes as many bytes
pub moved_both :
    {A : Type 0} (enc : A → List ℕ) (q q' j : ℕ) → T (fits q j) → T (fits q' j) → (d : A) (l : List A) → j ≡ length l
    → length (each enc (moved q j d l)) ≡ length (each enc (moved q' j d l))
moved_both enc q q' j f f' d l e = (moved-long enc q j f d l e).long ∙ sym (moved-long enc q' j f' d l e).long

abbrev pub thread_byte : ℕ → Event → List ℕ
thread_byte q e = encode (image q e.thread)

abbrev pub address_byte : ℕ → Event → List ℕ
address_byte r e = cond (bare e.kind) [] (encode (image r e.address))

-- what decides: of threads
module _ (c : Case) where
  abbrev pub thread_bytes : ℕ → List ℕ
  thread_bytes q = each (thread_byte q) c.events

  abbrev pub orders_bytes : ℕ → List ℕ
  orders_bytes q = each (order_bytes c.k) (moved q c.n [] c.orders)

  -- of addresses
  abbrev pub initial_bytes : ℕ → List ℕ
  initial_bytes r = each encode (moved r c.m 0 c.initials)

  abbrev pub address_bytes : ℕ → List ℕ
  address_bytes r = each (address_byte r) c.events

  abbrev pub writes_bytes : ℕ → List ℕ
  writes_bytes r = each (each encode) (moved r c.m [] c.writes)

module _ (c : Case) (F : Fits c) where
  -- ---- threads

  module _ (q q' r : ℕ) (fq : T (fits q c.n)) (fq' : T (fits q' c.n)) where
    events-threads :
        (es : List Event) → All (EventFits c.edition c.n c.m) es
        → Decides (each event_bytes (map (relabel q r) es)) (each event_bytes (map (relabel q' r) es))
        (each (thread_byte q) es) (each (thread_byte q') es)
    unfolding each event_bytes relabel
    events-threads [] h = nothing
    events-threads (e ∷ es) h =
        front (encode e.kind) (behind _ (itself (encode (image q e.thread)) (encode (image q' e.thread))
        (labels-long q q' c.n F.n_most fq fq' e.thread h.0.thread)))
        then events-threads es h.1

    record_threads :
        Decides (record_of (renumber q r c)) (record_of (renumber q' r c)) (thread_bytes c q ++ orders_bytes c q) (thread_bytes c q' ++ orders_bytes c q')
    unfolding record_of renumber
    record_threads =
        front (encode c.edition) (front (encode c.n) (front (encode c.m)
        (front (each encode (moved r c.m 0 c.initials)) (front (encode c.k)
        (events-threads c.events F.events
        then front (dependencies_bytes c.edition c.dependencies) (front (each (each encode) (moved r c.m [] c.writes))
        (behind (encode (length c.name) ++ c.name)
        (itself (orders_bytes c q) (orders_bytes c q') (moved_both (order_bytes c.k) q q' c.n fq fq' [] c.orders F.n)))))))))

    pub threads_decide :
        at_most (record_of (renumber q r c)) (record_of (renumber q' r c)) ≡ at_most (thread_bytes c q ++ orders_bytes c q) (thread_bytes c q' ++ orders_bytes c q')
    threads_decide = decided _ _ _ _ record_threads

  -- which of two permutations of threads gives less does not depend on that of addresses
  pub threads_apart :
      (q q' r r' : ℕ) → T (fits q c.n) → T (fits q' c.n)
      → at_most (record_of (renumber q r c)) (record_of (renumber q' r c)) ≡ at_most (record_of (renumber q r' c)) (record_of (renumber q' r' c))
  threads_apart q q' r r' f f' = threads_decide q q' r f f' ∙ sym (threads_decide q q' r' f f')

  -- ---- addresses

  module _ (q r r' : ℕ) (fr : T (fits r c.m)) (fr' : T (fits r' c.m)) where
    event-addresses :
        (e : Event) → EventFits c.edition c.n c.m e
        → Decides (event_bytes (relabel q r e)) (event_bytes (relabel q r' e)) (address_byte r e) (address_byte r' e)
    unfolding event_bytes relabel
    event-addresses e f = front (encode e.kind) (front (encode (image q e.thread)) (go (bare e.kind) refl))
      where
        go :
            (b : Bool) → bare e.kind ≡ b
            → Decides (cond b [] (encode (cond b e.address (image r e.address)) ++ encode e.value))
            (cond b [] (encode (cond b e.address (image r' e.address)) ++ encode e.value))
            (cond b [] (encode (image r e.address))) (cond b [] (encode (image r' e.address)))
        go true p = nothing
        go false p =
            behind (encode e.value) (itself (encode (image r e.address)) (encode (image r' e.address))
            (labels-long r r' c.m F.m_most fr fr' e.address (f.address p)))

    events-addresses :
        (es : List Event) → All (EventFits c.edition c.n c.m) es
        → Decides (each event_bytes (map (relabel q r) es)) (each event_bytes (map (relabel q r') es)) (each (address_byte r) es) (each (address_byte r') es)
    unfolding each
    events-addresses [] h = nothing
    events-addresses (e ∷ es) h = event-addresses e h.0 then events-addresses es h.1

    record_addresses :
        Decides (record_of (renumber q r c)) (record_of (renumber q r' c))
        (initial_bytes c r ++ (address_bytes c r ++ writes_bytes c r)) (initial_bytes c r' ++ (address_bytes c r' ++ writes_bytes c r'))
    unfolding record_of renumber
    record_addresses =
        front (encode c.edition) (front (encode c.n) (front (encode c.m)
        (itself (initial_bytes c r) (initial_bytes c r') (moved_both encode r r' c.m fr fr' 0 c.initials F.m)
        then front (encode c.k) (events-addresses c.events F.events
        then front (dependencies_bytes c.edition c.dependencies)
        (behind _ (itself (writes_bytes c r) (writes_bytes c r') (moved_both (each encode) r r' c.m fr fr' [] c.writes F.m')))))))

    pub addresses_decide :
        at_most (record_of (renumber q r c)) (record_of (renumber q r' c))
        ≡ at_most (initial_bytes c r ++ (address_bytes c r ++ writes_bytes c r)) (initial_bytes c r' ++ (address_bytes c r' ++ writes_bytes c r'))
    addresses_decide = decided _ _ _ _ record_addresses

  -- which of two permutations of addresses gives less does not depend on that of threads
  pub addresses_apart :
      (q q' r r' : ℕ) → T (fits r c.m) → T (fits r' c.m)
      → at_most (record_of (renumber q r c)) (record_of (renumber q r' c)) ≡ at_most (record_of (renumber q' r c)) (record_of (renumber q' r' c))
  addresses_apart q q' r r' f f' = addresses_decide q r r' f f' ∙ sym (addresses_decide q' r r' f f')
