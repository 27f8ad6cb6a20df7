-- Fields compared one after the other: the first in which the two differ decides.
-- Assumes nothing.
use Prim.Native.Nat.{ℕ, zero, suc, ◌+◌, ◌<◌}
use native.Mathlib.Decide.{dec_lt}
use native.Mathlib.Numerals.{add-one}
use native.Mathlib.Omega.{arith}
use mathlib.Core.Path.{◌≡◌, refl, sym, ap, ◌∙◌, subst}
use mathlib.Core.Bool.{Bool, true, false, cond}
use mathlib.Core.List.{List, [], ◌++◌, append_assoc, append-nil}
use lib.ListN.{get_or}
use Rattle.number.specs.Number.{encode}
use Rattle.permutation.specs.Permutation.{labels, image, inverse}
use Rattle.permutation.proofs.Laws.{image_label}
use Rattle.model.specs.Written.{order_bytes}
use Rattle.relabel.specs.Orders.{order}
use Rattle.writer.specs.Stages.{run}
use Rattle.writer.proofs.Runs.{run_more}
use Rattle.writer.proofs.Parts.{run-same}
use Rattle.std.proofs.Common.{Ordering, Less, Equal, Greater}
use Rattle.std.specs.Ordering.{MatchOrdering}
use Rattle.compare.specs.Decided.{Decided}
use Rattle.least.specs.Fields.{DiffersAt, FirstDiffers}
use Rattle.least.specs.Parts.{order_at, initial_at}
use Rattle.compare.proofs.Decisions.{decided_equal, decided_behind, decided_before}

-- numbers that are others
pub of_numbers : (v w a b : ℕ) (d : Ordering) → v ≡ a → w ≡ b → Decided (encode v) (encode w) d → Decided (encode a) (encode b) d
of_numbers v w a b d e g D = rw (sym e, sym g) D

-- a field that an event of a bare kind lacks
pub bare_field : (b t : Bool) (u v : List ℕ) → b ≡ t → b ≡ true → Decided (cond t [] u) (cond t [] v) Equal
bare_field b t u v e h = rw (sym e ∙ h) (decided_equal refl)

pub labelled_field : (b t : Bool) (u v : List ℕ) (d : Ordering) → b ≡ t → b ≡ false → Decided u v d → Decided (cond t [] u) (cond t [] v) d
labelled_field b t u v d e h D = rw (sym e ∙ h) D

-- the label whose values move to y is one of the labels
pub source_is : (q y i x : ℕ) → i ≡ inverse q → x ≡ image i y → x ≡ image (inverse q) y
source_is q y i x e g = g ∙ ap (λ (j : ℕ). image j y) e

pub source_below : (y i x : ℕ) → y < labels → x ≡ image i y → x < labels
source_below y i x h g = rw g (image_label i y h)

pub initial_field : (is : List ℕ) (r s y a b : ℕ) (d : Ordering) → a ≡ image (inverse r) y → b ≡ image (inverse s) y → Decided (encode (get_or is a 0)) (encode (get_or is b 0)) d
    → Decided (initial_at is r y) (initial_at is s y) d
unfolding initial_at
initial_field is r s y a b d e g D = rw (sym e, sym g) D

pub order_field :
    (rows : List ℕ) (k q p y a b : ℕ) (d : Ordering) → a ≡ image (inverse q) y → b ≡ image (inverse p) y
    → Decided (order_bytes k (order k rows a)) (order_bytes k (order k rows b)) d → Decided (order_at rows k q y) (order_at rows k p y) d
unfolding order_at
order_field rows k q p y a b d e g D = rw (sym e, sym g) D

-- ---- two parts

-- the second part decides where the first doesn't; `Second` tells how it compares
module _ (a b u v : List ℕ) {d r : Ordering} (D : Decided a b d) {Second : Type 0} (S : Second → Decided u v r) where
  pub two_parts : MatchOrdering d (r ≡ Less) Second (r ≡ Greater) → Decided (a ++ u) (b ++ v) r
  two_parts m = by d refl m
    where
      first : (o : Ordering) → d ≡ o → (o ≡ Equal → ⊥) → r ≡ o → Decided (a ++ u) (b ++ v) r
      first o e z m = subst (λ (o : Ordering). Decided (a ++ u) (b ++ v) o) (e ∙ sym m) (decided_before u v d (λ h. z (sym e ∙ h)) D)

      by : (o : Ordering) → d ≡ o → MatchOrdering o (r ≡ Less) Second (r ≡ Greater) → Decided (a ++ u) (b ++ v) r
      by Less e m = first Less e (λ z. absurd (cc)) m
      by Equal e m = subst (λ (x : List ℕ). Decided (a ++ u) (x ++ v) r) (D.equal e) (decided_behind a r (S m))
      by Greater e m = first Greater e (λ z. absurd (cc)) m

-- ---- n fields

-- n fields are the first i, the next, and the rest
record Split (f : ℕ → List ℕ) (n i : ℕ) : Type 0 where
  rest : List ℕ
  whole : run f n ≡ run f (i + 1) ++ rest

split : (f : ℕ → List ℕ) (n i : ℕ) → i < n → Split f n i
unfolding run
split f zero i l = absurd (omega arith)
split f (suc n) i l = by (dec_lt i n) (split f n i)
  where
    by : Dec (i < n) → (i < n → Split f n i) → Split f (suc n) i
    by (yes h) ih =
        let S : Split f n i = ih h in
        record { rest = S.rest ++ f n; whole = ap (λ (l : List ℕ). l ++ f n) S.whole ∙ append_assoc (run f (i + 1)) S.rest (f n) }
    by (no h) ih =
        let e : i ≡ n = omega arith in
        record { rest = []; whole = sym (append-nil (run f (i + 1)) ∙ ap (run f) (add-one i ∙ ap suc e)) }

-- the first i of n fields are equal and the next one differs, so it decides
differs : (f g : ℕ → List ℕ) (n i : ℕ) → i < n → ((j : ℕ) → j < i → f j ≡ g j) → (d : Ordering) → (d ≡ Equal → ⊥) → Decided (f i) (g i) d → Decided (run f n) (run g n) d
differs f g n i l same d h D =
    let F : Split f n i = split f n i l in
    let G : Split g n i = split g n i l in
    let here : Decided (run g i ++ f i) (run g i ++ g i) d = decided_behind (run g i) d D in
    rw (F.whole, G.whole, run_more f i, run_more g i, run-same i f g same) (decided_before F.rest G.rest d h here)

-- where `Tells i r` tells what r says of the fields i
module _ (f g : ℕ → List ℕ) (n : ℕ) {Tells : ℕ → Ordering → Type 0} (h : (i : ℕ) (r : Ordering) → i < n → Tells i r → Decided (f i) (g i) r) where
  at : (r : Ordering) → (r ≡ Equal → ⊥) → DiffersAt Tells n r → Decided (run f n) (run g n) r
  at r z D = differs f g n D.field D.below (λ j l. (h j Equal (omega (arith, D.below)) (D.before j l)).equal refl) r z (h D.field r D.below D.here)

  pub of_fields : (r : Ordering) → FirstDiffers Tells n r → Decided (run f n) (run g n) r
  of_fields Equal F = decided_equal (run-same n f g (λ i l. (h i Equal l (F.equal refl i l)).equal refl))
  of_fields Less F = at Less (λ z. absurd (cc)) (F.differs (λ z. absurd (cc)))
  of_fields Greater F = at Greater (λ z. absurd (cc)) (F.differs (λ z. absurd (cc)))
