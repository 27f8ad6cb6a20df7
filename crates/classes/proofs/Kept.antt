-- The renumberings of a list of calls never leave the class of the record that it starts from.
-- Assumes nothing.
use Prim.Native.Nat.{ℕ}
use mathlib.Core.Path.{◌≡◌, refl, sym, subst}
use mathlib.Core.Bool.{Bool, true, false, cond, ◌&&◌}
use mathlib.Core.List.{List, [], ◌∷◌}
use lib.Dec.{T}
use lib.ListN.{take}
use Rattle.finite.specs.Lists.{All}
use Rattle.number.specs.Number.{Bytes}
use Rattle.number.specs.Reader.{stop, next}
use Rattle.permutation.specs.Permutation.{fits}
use Rattle.permutation.proofs.Laws.{fits_identity, fits-composite}
use Rattle.model.specs.Case.{Case}
use Rattle.model.specs.Record.{read}
use Rattle.model.specs.Answers.{answer_of, renumber_case, room}
use Rattle.model.specs.Fits.{Fits}
use Rattle.model.specs.Calls.{Call, judging, renumbering, judging_case, renumbering_case, renumbered_case, Composed, start, compose, entered, composed_after, ruled, promised, promises, Claim}
use Rattle.laws.proofs.ExactCase.{readable}
use Rattle.laws.proofs.Claim.{claim}
use Rattle.classes.specs.Representative.{Renumbering}
use Rattle.classes.specs.Kept.{InClass, ClassKept}
use Rattle.classes.proofs.Representative.{renumbering-fits, same-representative}

module _ (c : Case) (size : ℕ) where
  -- the composed permutations fit the case
  record Fit (b : Composed) : Type 0 where
    threads : T (fits b.T c.n)
    addresses : T (fits b.A c.m)

  fit_then : (b : Composed) (q r : ℕ) → Fit b → T (fits q c.n) → T (fits r c.m) → Fit (compose b q r)
  fit_then b q r f t u = record {
    threads = fits-composite b.T q c.n f.threads t;
    addresses = fits-composite b.A r c.m f.addresses u;
  }

  fit_entered : (b : Composed) → Fit b → (x : Call) → Fit (entered c.n c.m size b x)
  fit_entered b f (judging model behind) = f
  fit_entered b f (judging_case model) = f
  fit_entered b f (renumbering_case q r) = f
  fit_entered b f (renumbering q r behind buffer at) = go (fits q c.n) (fits r c.m) (room size buffer at) (fit_then b q r f)
    where
      go : (t u v : Bool) → (T t → T u → Fit (compose b q r)) → Fit (cond (t && u && v) (compose b q r) b)
      go true true true g = g tt tt
      go true true false g = f
      go true false v g = f
      go false u v g = f

  fit_after : (b : Composed) → Fit b → (xs : List Call) → Fit (composed_after c.n c.m size b xs)
  unfolding composed_after
  fit_after b f [] = f
  fit_after b f (x ∷ xs) = fit_after (entered c.n c.m size b x) (fit_entered b f x) xs

  ruled_is : (b : Composed) → Fit b → Renumbering c (ruled c b)
  ruled_is b f = record { q = b.T; r = b.A; threads = f.threads; addresses = f.addresses; is = refl }

  promised_in : (s : List ℕ) (b : Composed) → Fit b → (x : Call) → InClass c (promised s c size b x)
  promised_in s b f (judging model behind) = tt
  promised_in s b f (renumbering q r behind buffer at) = tt
  promised_in s b f (judging_case model) = tt
  promised_in s b f (renumbering_case q r) = go (fits q c.n) (fits r c.m) (λ t u. ruled_is (compose b q r) (fit_then b q r f t u))
    where
      go :
          (t u : Bool) → (T t → T u → Renumbering c (ruled c (compose b q r)))
          → InClass c (renumbered_case (answer_of (renumber_case q r c)) (cond (t && u) (next (ruled c (compose b q r)) size) (stop 5 0)))
      go true true g = g tt tt
      go true false g = tt
      go false u g = tt

  promises_in : (s : List ℕ) (b : Composed) → Fit b → (xs : List Call) → All (InClass c) (promises s c size b xs)
  unfolding promises
  promises_in s b f [] = tt
  promises_in s b f (x ∷ xs) = (promised_in s b f x, promises_in s (entered c.n c.m size b x) (fit_entered b f x) xs)

-- of every list of calls
pub class-kept : (bytes : List ℕ) → Bytes bytes → (c : Case) (size : ℕ) → read bytes ≡ next c size → (xs : List Call) → ClassKept bytes c size xs
class-kept bytes h c size e xs =
    let F : Fits c = (readable bytes h c size e).fits in
    let all : Claim bytes c size xs = claim bytes h c size e xs in
    let first : Fit c size start = record { threads = fits_identity c.n; addresses = fits_identity c.m } in
    let b : Composed = composed_after c.n c.m size start xs in
    let R : Renumbering c (ruled c b) = ruled_is c size b (fit_after c size start first xs) in
    record {
      last = ruled c b;
      lasts = all.lasts;
      renumbering = R;
      same = sym (same-representative c (ruled c b) F (renumbering-fits c (ruled c b) F R) R);
      cases = subst (All (InClass c)) (sym all.gives) (promises_in c size (take size bytes) start first xs);
    }
