-- Renumbering a case keeps its verdict and moves its finals.
-- Assumes nothing.
use Prim.Native.Nat.{ℕ, ◌≤◌, ◌<◌}
use native.Mathlib.Nat.{zero-add, le_refl}
use native.Mathlib.Omega.{arith}
use native.Mathlib.Decide.{dec_lt}
use mathlib.Core.Path.{◌≡◌, refl, sym, ap, ◌∙◌, subst, fun_ext}
use mathlib.Core.Bool.{false}
use mathlib.Core.List.{List, [], map}
use lib.Dec.{T}
use lib.ListN.{length, get_or, get_or-map, get_or-eq_default}
use Rattle.finite.specs.Lists.{table}
use Rattle.finite.proofs.Lists.{table_get, table_past, table_same}
use Rattle.permutation.specs.Permutation.{labels, permutations, image, inverse, fits}
use Rattle.permutation.proofs.Laws.{image_far, image_label, inverse_image, image_inverse, fits_below, fits_image, fits-inverse, fits-ltb}
use Rattle.model.specs.Limits.{most_threads, most_addresses}
use Rattle.model.specs.Case.{Case, Event, no_event, sync}
use Rattle.model.specs.Rules.{Model, kind, thread, address, value, initial, is_barrier, before, written, verdict, final, finals}
use Rattle.model.specs.Renumber.{moved, relabel, renumber}
use Rattle.model.specs.Fits.{Fits}
use Rattle.laws.proofs.Renamed.{Renamed, same-verdict}

module _ (q j : ℕ) (f : T (fits q j)) where
  -- a label from j on stays there
  image_past : (x : ℕ) → j ≤ x → j ≤ image q x
  image_past x h = by (dec_lt (image q x) j)
    where
      by : Dec (image q x < j) → j ≤ image q x
      by (yes l) =
          let b = fits_image (inverse q) j (fits-inverse q j f) (image q x) l in
          let e = inverse_image q (fits_below q j f) x in
          omega arith
      by (no d) = omega arith

  -- what stood at x stands at the label to which q sends x
  pub moved_at : {A : Type 0} (d : A) (l : List A) → length l ≡ j → (x : ℕ) → get_or (moved q j d l) (image q x) d ≡ get_or l x d
  unfolding moved
  moved_at {A} d l e x = by (dec_lt x j)
    where
      by : Dec (x < j) → get_or (table 0 j (λ y. get_or l (image (inverse q) y) d)) (image q x) d ≡ get_or l x d
      by (yes h) =
          table_get j (λ y. get_or l (image (inverse q) y) d) (image q x) d (fits_image q j f x h)
          ∙ ap (λ (y : ℕ). get_or l y d) (inverse_image q (fits_below q j f) x)
      by (no h) =
          table_past 0 j (λ y. get_or l (image (inverse q) y) d) (image q x) d (image_past x (omega arith))
          ∙ sym (get_or-eq_default l d (omega arith))

-- a table of values at labels, moved
pub moved-table :
    (r : ℕ) → r < permutations → (f g : ℕ → ℕ) → ((x : ℕ) → f (image r x) ≡ g x) → (d : ℕ) → table 0 labels f ≡ moved r labels d (table 0 labels g)
unfolding moved
moved-table r h f g e d =
    table_same 0 labels f (λ y. get_or (table 0 labels g) (image (inverse r) y) d)
    (λ y l u.
    ap f (sym (image_inverse r h y)) ∙ e (image (inverse r) y)
    ∙ sym (table_get labels g (image (inverse r) y) d (image_label (inverse r) y (rw zero-add at u))))

-- what stands past the last event stays
past : (q r : ℕ) → relabel q r no_event ≡ no_event
unfolding relabel
past q r = λ i. record { kind = sync; thread = image_far q most_threads (le_refl most_threads) i; address = 0; value = 0 }

pub event-at : (q r : ℕ) (es : List Event) (e : ℕ) → get_or (map (relabel q r) es) e no_event ≡ relabel q r (get_or es e no_event)
event-at q r es e =
    subst (λ (z : Event). get_or (map (relabel q r) es) e z ≡ relabel q r (get_or es e no_event)) (past q r) (get_or-map (relabel q r) es e no_event)

module _ (q r : ℕ) (c : Case) (F : Fits c) (fq : T (fits q c.n)) (fr : T (fits r c.m)) where
  address-at : (e : ℕ) → is_barrier c e ≡ false → address (renumber q r c) e ≡ image r (address c e)
  unfolding renumber address relabel is_barrier kind
  address-at e h = ap (λ (z : Event). z.address) (event-at q r c.events e) ∙ simp h

  writes_at : (x : ℕ) → get_or (renumber q r c).writes (image r x) [] ≡ get_or c.writes x []
  unfolding renumber
  writes_at = moved_at r c.m fr [] c.writes (sym F.m')

  renamed : Renamed q r c (renumber q r c)
  unfolding renumber
  renamed = record {
    n = refl;
    k = refl;
    kinds = λ e. unfold kind relabel in ap (λ (z : Event). z.kind) (event-at q r c.events e);
    threads = λ e. unfold thread relabel in ap (λ (z : Event). z.thread) (event-at q r c.events e);
    addresses = address-at;
    values = λ e. unfold value relabel in ap (λ (z : Event). z.value) (event-at q r c.events e);
    dependencies = refl;
    initials = λ x. unfold initial in moved_at r c.m fr 0 c.initials (sym F.m) x;
    orders = λ p a b. unfold before in rw (moved_at q c.n fq [] c.orders (sym F.n) p);
    writes = λ a b h. unfold written in rw (address-at a h, writes_at (address c a));
  }

  -- the verdict stays
  pub verdict_stays : (w : Model) → verdict (renumber q r c) w ≡ verdict c w
  verdict_stays = same-verdict q r c (renumber q r c) fq fr renamed

  pub final_moves : (x : ℕ) → final (renumber q r c) (image r x) ≡ final c x
  unfolding final
  final_moves x =
      let values : value (renumber q r c) ≡ value c = fun_ext renamed.values in
      let m : (renumber q r c).m ≡ c.m = unfold renumber in refl in
      simp (m, fits-ltb r c.m fr, renamed.initials, values, writes_at)

  pub finals_move : finals (renumber q r c) ≡ moved r most_addresses 0 (finals c)
  unfolding finals
  finals_move = moved-table r (fits_below r c.m fr) (final (renumber q r c)) (final c) final_moves 0
