-- A case whose threads and addresses are renumbered has the same verdict.
-- Assumes nothing.
use Prim.Native.Nat.{ℕ}
use mathlib.Core.Path.{◌≡◌, refl, sym, ap, ◌∙◌}
use mathlib.Core.Bool.{Bool, true, false, not, ◌&&◌}
use lib.Dec.{T, eqb, eqb→eq}
use Rattle.finite.specs.Tests.{all}
use Rattle.finite.proofs.Tests.{and_left, imp_cong, all_same}
use Rattle.permutation.specs.Permutation.{image, fits}
use Rattle.permutation.proofs.Laws.{all_image, image_eqb, fits_below}
use Rattle.model.specs.Case.{Case, load, store, bare}
use Rattle.model.specs.Rules.{Model, PPCw, PPCs, kind, thread, address, value, initial, is_load, is_store, is_sync, is_barrier, of, one_address, depends, applicable, store_for, before, everywhere, written, paired, seen, reads_from, judged}
use Rattle.model.specs.Rules.{rule11, rule12, rule13, rule14, rule15, rule16, rule17, rule18, verdict}

-- events of a kind that is not bare are no barriers
load_no_barrier : (c : Case) (e : ℕ) → T (is_load c e) → is_barrier c e ≡ false
unfolding is_load is_barrier
load_no_barrier c e t = ap bare (eqb→eq (kind c e) load t)

store_no_barrier : (c : Case) (e : ℕ) → T (is_store c e) → is_barrier c e ≡ false
unfolding is_store is_barrier
store_no_barrier c e t = ap bare (eqb→eq (kind c e) store t)

-- d is c with its threads renumbered by q and its addresses by r
pub record Renamed (q r : ℕ) (c d : Case) : Type 0 where
  pub n : d.n ≡ c.n
  pub k : d.k ≡ c.k
  pub kinds : (e : ℕ) → kind d e ≡ kind c e
  pub threads : (e : ℕ) → thread d e ≡ image q (thread c e)
  pub addresses : (e : ℕ) → is_barrier c e ≡ false → address d e ≡ image r (address c e)
  pub values : (e : ℕ) → value d e ≡ value c e
  pub dependencies : d.dependencies ≡ c.dependencies
  pub initials : (x : ℕ) → initial d (image r x) ≡ initial c x
  pub orders : (p a b : ℕ) → before d (image q p) a b ≡ before c p a b
  pub writes : (a b : ℕ) → is_barrier c a ≡ false → written d a b ≡ written c a b

module _ (q r : ℕ) (c d : Case) (fq : T (fits q c.n)) (fr : T (fits r c.m)) (R : Renamed q r c d) where
  -- a test of every thread is one of every thread's image
  moved_all : (f : ℕ → Bool) → all c.n f ≡ all c.n (λ p. f (image q p))
  moved_all f = sym (all_image q c.n fq f)

  same_address : (x y : ℕ) → eqb (image r x) (image r y) ≡ eqb x y
  same_address = image_eqb r (fits_below r c.m fr)

  loads : (e : ℕ) → is_load d e ≡ is_load c e
  unfolding is_load
  loads e = rw (R.kinds e)

  stores : (e : ℕ) → is_store d e ≡ is_store c e
  unfolding is_store
  stores e = rw (R.kinds e)

  barriers : (e : ℕ) → is_barrier d e ≡ is_barrier c e
  unfolding is_barrier
  barriers e = rw (R.kinds e)

  ofs : (p e : ℕ) → of d (image q p) e ≡ of c p e
  unfolding of
  ofs p e = rw (R.threads e) (image_eqb q (fits_below q c.n fq) (thread c e) p)

  one-address : (a b : ℕ) → one_address d a b ≡ one_address c a b
  unfolding one_address
  one-address a b = simp (barriers) (go (is_barrier c a) (is_barrier c b) refl refl)
    where
      go :
          (x y : Bool) → is_barrier c a ≡ x → is_barrier c b ≡ y
          → (not x && not y && eqb (address d a) (address d b)) ≡ (not x && not y && eqb (address c a) (address c b))
      go true y e f = refl
      go false true e f = refl
      go false false e f = simp (R.addresses a e, R.addresses b f, same_address)

  dependents : (a b : ℕ) → depends d a b ≡ depends c a b
  unfolding depends
  dependents a b = rw R.dependencies

  syncs : (e : ℕ) → is_sync d e ≡ is_sync c e
  unfolding is_sync
  syncs e = rw (R.kinds e)

  applies : (f e g : ℕ) → applicable d f e g ≡ applicable c f e g
  unfolding applicable
  applies f e g = simp (syncs, barriers, stores, loads)

  stores_for : (l s : ℕ) → store_for d l s ≡ store_for c l s
  unfolding store_for
  stores_for l s = simp (stores, one-address)

  everywheres : (a b : ℕ) → everywhere d a b ≡ everywhere c a b
  unfolding everywhere
  everywheres a b = simp R.n (moved_all (λ p. before d p a b) ∙ simp R.orders)

  paireds : (p e : ℕ) → paired d (image q p) e ≡ paired c p e
  unfolding paired
  paireds p e = simp (R.k, R.orders)

  seens : (p e : ℕ) → seen d (image q p) e ≡ seen c p e
  unfolding seen
  seens p e = simp (paireds, ofs)

  reads : (l s : ℕ) → reads_from d l s ≡ reads_from c l s
  unfolding reads_from
  reads l s = simp (loads, stores_for, R.threads, R.orders, R.k)

  eleven : rule11 d ≡ rule11 c
  unfolding rule11
  eleven = simp R.n (moved_all _ ∙ simp (R.orders, R.k))

  twelve : rule12 d ≡ rule12 c
  unfolding rule12
  twelve = simp R.n (moved_all _ ∙ simp (R.orders, R.k, ofs))

  thirteen : rule13 d ≡ rule13 c
  unfolding rule13
  thirteen = simp R.n (moved_all _ ∙ simp (R.orders, R.k, ofs, barriers, one-address, dependents))

  fourteen : rule14 d ≡ rule14 c
  unfolding rule14
  fourteen =
      simp R.n
      (moved_all _ ∙ simp (R.orders, R.k, stores, stores_for)
      (all_same c.n _ _ (λ p _. all_same c.k _ _ (λ a _. imp_cong (is_store c a) _ _
      (λ t. let w : (b : ℕ) → written d a b ≡ written c a b = λ b. R.writes a b (store_no_barrier c a t) in simp w)))))

  judgeds : (w : Model) (p l : ℕ) → judged d w (image q p) l ≡ judged c w p l
  unfolding judged
  judgeds PPCw p l = simp (loads, ofs)
  judgeds PPCs p l = simp (loads, seens)

  judged_no_barrier : (w : Model) (p l : ℕ) → T (judged c w p l) → is_barrier c l ≡ false
  unfolding judged
  judged_no_barrier PPCw p l t = load_no_barrier c l (and_left (is_load c l) (of c p l) t)
  judged_no_barrier PPCs p l t = load_no_barrier c l (and_left (is_load c l) (seen c p l) t)

  fifteen : (w : Model) → rule15 d w ≡ rule15 c w
  unfolding rule15
  fifteen w =
      simp R.n
      (moved_all _ ∙ simp (R.orders, R.k, judgeds, stores_for, R.values)
      (all_same c.n _ _ (λ p _. all_same c.k _ _ (λ l _. imp_cong (judged c w p l) _ _
      (λ t. simp (R.addresses l (judged_no_barrier w p l t), R.initials))))))

  sixteen : (w : Model) → rule16 d w ≡ rule16 c w
  unfolding rule16
  sixteen w = simp R.n (moved_all _ ∙ simp (R.orders, R.k, judgeds, seens, stores_for, R.values))

  seventeen : rule17 d ≡ rule17 c
  unfolding rule17
  seventeen = simp R.n (moved_all _ ∙ simp (R.orders, R.k, ofs, barriers, applies, everywheres))

  eighteen : rule18 d ≡ rule18 c
  unfolding rule18
  eighteen = simp R.n (moved_all _ ∙ simp (R.orders, R.k, ofs, barriers, applies, stores, R.threads, reads, everywheres))

  pub same-verdict : (w : Model) → verdict d w ≡ verdict c w
  unfolding verdict
  same-verdict w = simp (eleven, twelve, thirteen, fourteen, fifteen w, sixteen w, seventeen, eighteen)
