-- Renumbering twice is renumbering by the composites; the identity leaves a case.
-- Assumes nothing.
use Prim.Native.Nat.{ℕ, ◌<◌}
use native.Mathlib.Nat.{zero-add}
use mathlib.Core.Path.{◌≡◌, refl, sym, ap, ap₂, ◌∙◌}
use mathlib.Core.Bool.{Bool, true, false, cond}
use mathlib.Core.List.{List, [], ◌∷◌, map}
use lib.Dec.{T}
use lib.ListN.{length, get_or}
use Rattle.finite.proofs.Lists.{table_get, table_same, as_table}
use Rattle.permutation.specs.Permutation.{permutations, image, inverse, composite, fits}
use Rattle.permutation.proofs.Laws.{image_identity, inverse_identity, composite_image, inverse-composite, fits_below, fits_image, fits-inverse}
use Rattle.model.specs.Case.{Case, Event, bare}
use Rattle.model.specs.Renumber.{moved, relabel, renumber}
use Rattle.model.specs.Fits.{Fits}

map_twice : {A B C : Type 0} (f : A → B) (g : B → C) (h : A → C) → ((a : A) → g (f a) ≡ h a) → (l : List A) → map g (map f l) ≡ map h l
map_twice f g h e [] = refl
map_twice f g h e (a ∷ l) = ap₂ ◌∷◌ (e a) (map_twice f g h e l)

map-none : {A : Type 0} (f : A → A) → ((a : A) → f a ≡ a) → (l : List A) → map f l ≡ l
map-none f e [] = refl
map-none f e (a ∷ l) = ap₂ ◌∷◌ (e a) (map-none f e l)

-- first by q, then by r
moved_twice :
    {A : Type 0} (q r j : ℕ) → T (fits q j) → T (fits r j) → (d : A) (l : List A) → moved r j d (moved q j d l) ≡ moved (composite q r) j d l
unfolding moved
moved_twice q r j f g d l =
    table_same 0 j _ _
    (λ y m h.
    table_get j (λ x. get_or l (image (inverse q) x) d) (image (inverse r) y) d (fits_image (inverse r) j (fits-inverse r j g) y (rw zero-add at h))
    ∙ ap (λ (x : ℕ). get_or l x d) (inverse-composite q r (fits_below q j f) (fits_below r j g) y))

moved_none : {A : Type 0} (j : ℕ) (d : A) (l : List A) → j ≡ length l → moved 0 j d l ≡ l
unfolding moved
moved_none j d l e =
    table_same 0 j _ _ (λ y m h. ap (λ (x : ℕ). get_or l x d) (inverse_identity y)) ∙ sym (as_table l d j (sym e))

module _ (q r q' r' : ℕ) (hq : q < permutations) (hr : r < permutations) (hq' : q' < permutations) (hr' : r' < permutations) where
  relabel_twice : (e : Event) → relabel q' r' (relabel q r e) ≡ relabel (composite q q') (composite r r') e
  unfolding relabel
  relabel_twice e =
      λ i. record {
        kind = e.kind;
        thread = sym (composite_image q q' hq hq' e.thread) i;
        address = go (bare e.kind) i;
        value = e.value;
      }
    where
      go :
          (b : Bool)
          → cond b (cond b e.address (image r e.address)) (image r' (cond b e.address (image r e.address)))
          ≡ cond b e.address (image (composite r r') e.address)
      go true = refl
      go false = sym (composite_image r r' hr hr' e.address)

relabel-none : (e : Event) → relabel 0 0 e ≡ e
unfolding relabel
relabel-none e =
    λ i. record { kind = e.kind; thread = image_identity e.thread i; address = go (bare e.kind) i; value = e.value }
  where
    go : (b : Bool) → cond b e.address (image 0 e.address) ≡ e.address
    go true = refl
    go false = image_identity e.address

pub renumber_identity : (c : Case) → Fits c → renumber 0 0 c ≡ c
unfolding renumber
renumber_identity c F =
    let initials = moved_none c.m 0 c.initials F.m in
    let events = map-none (relabel 0 0) relabel-none c.events in
    let writes = moved_none c.m [] c.writes F.m' in
    let orders = moved_none c.n [] c.orders F.n in
    λ i. record {
      edition = c.edition;
      n = c.n;
      m = c.m;
      k = c.k;
      initials = initials i;
      events = events i;
      dependencies = c.dependencies;
      writes = writes i;
      orders = orders i;
      name = c.name;
    }

pub renumber-composite :
    (q r q' r' : ℕ) (c : Case) → T (fits q c.n) → T (fits r c.m) → T (fits q' c.n) → T (fits r' c.m)
    → renumber q' r' (renumber q r c) ≡ renumber (composite q q') (composite r r') c
unfolding renumber
renumber-composite q r q' r' c fq fr fq' fr' =
    let twice =
    relabel_twice q r q' r' (fits_below q c.n fq) (fits_below r c.m fr) (fits_below q' c.n fq') (fits_below r' c.m fr') in
    let initials = moved_twice r r' c.m fr fr' 0 c.initials in
    let events = map_twice (relabel q r) (relabel q' r') (relabel (composite q q') (composite r r')) twice c.events in
    let writes = moved_twice r r' c.m fr fr' [] c.writes in
    let orders = moved_twice q q' c.n fq fq' [] c.orders in
    λ i. record {
      edition = c.edition;
      n = c.n;
      m = c.m;
      k = c.k;
      initials = initials i;
      events = events i;
      dependencies = c.dependencies;
      writes = writes i;
      orders = orders i;
      name = c.name;
    }
