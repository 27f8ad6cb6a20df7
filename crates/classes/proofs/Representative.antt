-- The representative is one of the renumberings and none is less; records of one class, and no others, have one representative.
-- Assumes nothing.
use Prim.Native.Nat.{ℕ, zero, suc, ◌+◌, ◌≤◌, ◌<◌}
use native.Mathlib.Decide.{dec_lt}
use native.Mathlib.Omega.{arith}
use mathlib.Core.Path.{◌≡◌, refl, sym, ap, ap₂, ◌∙◌, subst}
use mathlib.Core.Bool.{Bool, true, false, cond, ◌&&◌}
use mathlib.Core.Logic.{◌↔◌}
use mathlib.Core.List.{List, [], ◌∷◌, ◌++◌}
use lib.Dec.{T}
use lib.ListN.{length, take, length-append}
use Rattle.finite.specs.Lists.{table, each, All}
use Rattle.finite.proofs.Tests.{T_true, T_and, and_left, and_right}
use Rattle.finite.proofs.All.{all_append, all-front, all_back}
use Rattle.number.specs.Number.{Bytes}
use Rattle.number.specs.Reader.{Out, stop, next}
use Rattle.permutation.specs.Permutation.{permutations, inverse, composite, fits}
use Rattle.permutation.proofs.Laws.{fits_identity, fits-inverse, fits-composite, fits_below}
use Rattle.model.specs.Case.{Case}
use Rattle.model.specs.Record.{read}
use Rattle.model.specs.Limits.{most_addresses}
use Rattle.model.specs.Rules.{Model, verdict, finals}
use Rattle.model.specs.Written.{record_of}
use Rattle.model.specs.Fault.{fault}
use Rattle.model.specs.Renumber.{moved, renumber, fitting}
use Rattle.model.specs.Answers.{put, put_out, faultless, handed, judge, judge_case}
use Rattle.model.specs.Calls.{Composed, moved_answer}
use Rattle.model.specs.Fits.{Fits}
use Rattle.model.proofs.Faultless.{handed_on}
use Rattle.laws.proofs.ReadBack.{read_back}
use Rattle.laws.proofs.ExactCase.{readable, record_injective}
use Rattle.laws.proofs.Composition.{renumber_identity, renumber-composite}
use Rattle.laws.proofs.Inverse.{renumber-inverse}
use Rattle.laws.proofs.Refits.{refits, same_length}
use Rattle.laws.proofs.Renumbered.{verdict_stays, finals_move}
use Rattle.laws.proofs.Claim.{read_alone, Fitting, judging-gives, judging-case, front}
use Rattle.classes.specs.Order.{at_most}
use Rattle.classes.specs.Representative.{below, renumberings, lesser_case, least_of, representative, Renumbering, representative_out, representative_record, representative_case, choice_read, choice, chosen, lesser}
use Rattle.classes.proofs.Order.{at_most_same, at_most_trans, at_most_both, at_most_other}

-- ---- lists

module _ {B : Type 0} (P : B → Type 0) (f : ℕ → List B) where
  -- what f gives for the numbers from i on
  all-each : (i j : ℕ) → ((x : ℕ) → All P (f x)) → All P (each f (table i j (λ x. x)))
  unfolding each table
  all-each i zero h = tt
  all-each i (suc j) h = all_append P (f i) _ (h i) (all-each (suc i) j h)

  each_at : (i j x : ℕ) → i ≤ x → x < i + j → All P (each f (table i j (λ x. x))) → All P (f x)
  unfolding each table
  each_at i zero x l h a = absurd (omega arith)
  each_at i (suc j) x l h a = by (dec_lt i x) (each_at (suc i) j x)
    where
      by :
          Dec (i < x) → (suc i ≤ x → x < suc i + j → All P (each f (table (suc i) j (λ x. x))) → All P (f x)) → All P (f x)
      by (yes m) ih = ih m (omega arith) (all_back P (f i) _ a)
      by (no n) ih = let e : i ≡ x = omega arith in subst (λ (y : ℕ). All P (f y)) e (all-front P (f i) _ a)

-- ---- the least of some cases

module _ (P : Case → Type 0) where
  lesser-holds : (c d : Case) → P c → P d → P (lesser_case c d)
  lesser-holds c d p q = go (at_most (record_of c) (record_of d))
    where
      go : (b : Bool) → P (cond b c d)
      go true = p
      go false = q

  least-holds : (c : Case) (ds : List Case) → P c → All P ds → P (least_of c ds)
  unfolding least_of
  least-holds c [] p h = p
  least-holds c (d ∷ ds) p h = least-holds (lesser_case c d) ds (lesser-holds c d p h.0) h.1

-- c's record is at most d's
abbrev AtMost : Case → Case → Type 0
AtMost c d = at_most (record_of c) (record_of d) ≡ true

case-first : (c d : Case) → AtMost (lesser_case c d) c
case-first c d = go (at_most (record_of c) (record_of d)) refl
  where
    go : (b : Bool) → at_most (record_of c) (record_of d) ≡ b → AtMost (cond b c d) c
    go true e = at_most_same (record_of c)
    go false e = at_most_other (record_of c) (record_of d) e

case-second : (c d : Case) → AtMost (lesser_case c d) d
case-second c d = go (at_most (record_of c) (record_of d)) refl
  where
    go : (b : Bool) → at_most (record_of c) (record_of d) ≡ b → AtMost (cond b c d) d
    go true e = e
    go false e = at_most_same (record_of d)

least_first : (c : Case) (ds : List Case) → AtMost (least_of c ds) c
unfolding least_of
least_first c [] = at_most_same (record_of c)
least_first c (d ∷ ds) = at_most_trans _ _ _ (least_first (lesser_case c d) ds) (case-first c d)

least-rest : (c : Case) (ds : List Case) → All (AtMost (least_of c ds)) ds
unfolding least_of
least-rest c [] = tt
least-rest c (d ∷ ds) = (at_most_trans _ _ _ (least_first (lesser_case c d) ds) (case-second c d), least-rest (lesser_case c d) ds)

-- ---- renumberings

module _ (c : Case) where
  one-pair : (q r : ℕ) → All (Renumbering c) (cond (fitting q r c) (renumber q r c ∷ []) [])
  unfolding fitting
  one-pair q r = go (fits q c.n && fits r c.m) refl
    where
      go : (b : Bool) → (fits q c.n && fits r c.m) ≡ b → All (Renumbering c) (cond b (renumber q r c ∷ []) [])
      go true e =
          let t : T (fits q c.n && fits r c.m) = subst (λ (b : Bool). T b) (sym e) tt in
          (record { q = q; r = r; threads = and_left (fits q c.n) (fits r c.m) t; addresses = and_right (fits q c.n) (fits r c.m) t; is = refl }, tt)
      go false e = tt

  all-renumberings : All (Renumbering c) (renumberings c)
  unfolding renumberings
  all-renumberings =
      all-each (Renumbering c) (λ q. each (λ r. cond (fitting q r c) (renumber q r c ∷ []) []) (below permutations)) 0 permutations
      (λ q. all-each (Renumbering c) (λ r. cond (fitting q r c) (renumber q r c ∷ []) []) 0 permutations (λ r. one-pair q r))

  -- what holds of each of them holds of each renumbering
  renumbering-among : (P : Case → Type 0) → All P (renumberings c) → (d : Case) → Renumbering c d → P d
  unfolding renumberings fitting
  renumbering-among P h d R =
      let q : ℕ = R.q in
      let r : ℕ = R.r in
      let fit : (fits q c.n && fits r c.m) ≡ true = T_true (T_and (fits q c.n) (fits r c.m) R.threads R.addresses) in
      let by-q =
      each_at P (λ q. each (λ r. cond (fitting q r c) (renumber q r c ∷ []) []) (below permutations)) 0 permutations q (omega arith) (fits_below q c.n R.threads) h in
      let by-r = each_at P (λ r. cond (fitting q r c) (renumber q r c ∷ []) []) 0 permutations r (omega arith) (fits_below r c.m R.addresses) by-q in
      let here : All P (cond true (renumber q r c ∷ []) []) = subst (λ (b : Bool). All P (cond b (renumber q r c ∷ []) [])) fit by-r in
      subst P (sym R.is) here.0

renumbering_itself : (c : Case) → Fits c → Renumbering c c
renumbering_itself c F = record { q = 0; r = 0; threads = fits_identity c.n; addresses = fits_identity c.m; is = sym (renumber_identity c F) }

pub renumbering-fits : (c d : Case) → Fits c → Renumbering c d → Fits d
renumbering-fits c d F R = subst Fits (sym R.is) (refits R.q R.r c F R.threads R.addresses)

pub renumbering_back : (c d : Case) → Fits c → Renumbering c d → Renumbering d c
renumbering_back c d F R =
    subst (λ (x : Case). Renumbering x c) (sym R.is)
    (record {
      q = inverse R.q;
      r = inverse R.r;
      threads = unfold renumber in fits-inverse R.q c.n R.threads;
      addresses = unfold renumber in fits-inverse R.r c.m R.addresses;
      is = sym (renumber-inverse R.q R.r c F R.threads R.addresses);
    })

module _ (c : Case) (q r : ℕ) (fq : T (fits q c.n)) (fr : T (fits r c.m)) where
  renumbering-more : (e : Case) → Renumbering (renumber q r c) e → Renumbering c e
  unfolding renumber
  renumbering-more e S = record {
    q = composite q S.q;
    r = composite r S.r;
    threads = fits-composite q S.q c.n fq S.threads;
    addresses = fits-composite r S.r c.m fr S.addresses;
    is = S.is ∙ renumber-composite q r S.q S.r c fq fr S.threads S.addresses;
  }

pub renumbering-then : (c d e : Case) → Renumbering c d → Renumbering d e → Renumbering c e
renumbering-then c d e R S =
    renumbering-more c R.q R.r R.threads R.addresses e (subst (λ (x : Case). Renumbering x e) R.is S)

-- ---- the representative

module _ (c : Case) (F : Fits c) where
  -- it is one of the renumberings
  pub representative_is : Renumbering c (representative c)
  unfolding representative
  representative_is = least-holds (Renumbering c) c (renumberings c) (renumbering_itself c F) (all-renumberings c)

  -- and none is less
  pub representative-least : (d : Case) → Renumbering c d → at_most (record_of (representative c)) (record_of d) ≡ true
  unfolding representative
  representative-least = renumbering-among c (AtMost (least_of c (renumberings c))) (least-rest c (renumberings c))

  pub representative-fits : Fits (representative c)
  representative-fits = renumbering-fits c (representative c) F representative_is

  pub representative-length : length (record_of (representative c)) ≡ length (record_of c)
  representative-length =
      let R : Renumbering c (representative c) = representative_is in
      ap (λ (d : Case). length (record_of d)) R.is ∙ same_length R.q R.r c F R.threads R.addresses

module _ (c d : Case) (F : Fits c) (G : Fits d) where
  -- a renumbering has the same representative
  pub same-representative : Renumbering c d → representative c ≡ representative d
  same-representative R =
      record_injective (representative c) (representative d) (representative-fits c F) (representative-fits d G)
      (at_most_both (record_of (representative c)) (record_of (representative d))
      (representative-least c F (representative d) (renumbering-then c d (representative d) R (representative_is d G)))
      (representative-least d G (representative c) (renumbering-then d c (representative c) (renumbering_back c d F R) (representative_is c F))))

  to_renumbering : record_of (representative c) ≡ record_of (representative d) → Renumbering c d
  to_renumbering e =
      let same : representative c ≡ representative d =
      record_injective (representative c) (representative d) (representative-fits c F) (representative-fits d G) e in
      renumbering-then c (representative c) d (representative_is c F)
      (subst (λ (x : Case). Renumbering x d) (sym same) (renumbering_back d (representative d) G (representative_is d G)))

  -- 02 (vii): "Two readable records have one representative exactly when one is a renumbering of the other"
  pub one-representative : (record_of (representative c) ≡ record_of (representative d)) ↔ Renumbering c d
  one-representative = (to_renumbering, λ R. ap record_of (same-representative R))

-- "Taking it twice changes nothing"
pub representative_twice : (c : Case) → Fits c → representative (representative c) ≡ representative c
representative_twice c F = sym (same-representative c (representative c) F (representative-fits c F) (representative_is c F))

-- ---- judged

module _ (c : Case) (F : Fits c) where
  -- how the representative comes from the case
  abbrev pub by : Renumbering c (representative c)
  by = representative_is c F

  pub representative-verdict : (w : Model) → verdict (representative c) w ≡ verdict c w
  representative-verdict w =
      ap (λ (d : Case). verdict d w) by.is ∙ verdict_stays by.q by.r c F by.threads by.addresses w

  -- the finals are the case's, each at its address's new label
  pub representative-finals : finals (representative c) ≡ moved by.r most_addresses 0 (finals c)
  representative-finals = ap finals by.is ∙ finals_move by.q by.r c F by.threads by.addresses

  abbrev composed : Composed
  composed = record { T = by.q; A = by.r }

  composed-fits : Fitting c F composed
  unfolding Fitting
  composed-fits = (by.threads, by.addresses)

  -- the whole answer of judging its record, whatever lies behind, is the record's with the finals moved; so it is of cases
  pub judged-alike :
      (model : ℕ) (behind : List ℕ)
      → judge model (record_of (representative c) ++ behind) ≡ moved_answer by.r (judge model (record_of c ++ behind))
  judged-alike model behind = ap (λ (d : Case). judge model (record_of d ++ behind)) by.is ∙ judging-gives c F composed composed-fits model behind

  pub judged-alike-case : (model : ℕ) → judge_case model (representative c) ≡ moved_answer by.r (judge_case model c)
  judged-alike-case model = ap (judge_case model) by.is ∙ judging-case c F composed composed-fits model

-- ---- the same in bytes

module _ (s : List ℕ) (h : Bytes s) (c : Case) (i : ℕ) (e : read s ≡ next c i) where
  kept : Fits c
  kept = (readable s h c i e).fits

  -- what the call answers and leaves in the buffer: 0 and the record's own length, or 6
  pub represents : (buffer : List ℕ) (at : ℕ) → representative_record s buffer at ≡ put (record_of (representative c)) buffer at
  unfolding representative_record
  represents buffer at = ap (λ (o : Out Case). put_out (representative_out o) buffer at) e

  pub as_long : length (record_of (representative c)) ≡ i
  as_long = representative-length c kept ∙ sym (readable s h c i e).length

  -- the call on what it wrote, whatever lies behind, writes the same
  pub represents_twice :
      (behind buffer : List ℕ) (at : ℕ)
      → representative_record (record_of (representative c) ++ behind) buffer at ≡ put (record_of (representative c)) buffer at
  unfolding representative_record
  represents_twice behind buffer at =
      ap (λ (o : Out Case). put_out (representative_out o) buffer at) (read_back (representative c) (representative-fits c kept) behind)
      ∙ ap (λ (d : Case). put (record_of d) buffer at) (representative_twice c kept)

-- of a case handed without bytes: its fault with place 0, or its representative and the length of its own record
pub represents_case : (c : Case) → Fits c → representative_case c ≡ next (representative c) (length (record_of c))
unfolding representative_case
represents_case c F = ap representative_out (handed_on c F) ∙ ap (next (representative c)) (representative-length c F)

pub faulty_case : (c : Case) (x : ℕ) → fault c ≡ suc x → representative_case c ≡ stop (suc x) 0
unfolding representative_case handed
faulty_case c x e = ap (λ (y : ℕ). representative_out (faultless y (next c (length (record_of c))))) e

-- "Two readable records have one representative exactly when one is a renumbering of the other"
pub one_name :
    (s : List ℕ) → Bytes s → (c : Case) (i : ℕ) → read s ≡ next c i → (t : List ℕ) → Bytes t → (d : Case) (j : ℕ) → read t ≡ next d j
    → (record_of (representative c) ≡ record_of (representative d)) ↔ Renumbering c d
one_name s h c i e t l d j g = one-representative c d (kept s h c i e) (kept t l d j g)

-- and where it is, its bytes are what the renumbering rule writes
pub renumbering-bytes :
    (t : List ℕ) → Bytes t → (c d : Case) (j : ℕ) → read t ≡ next d j → (R : Renumbering c d) → take j t ≡ record_of (renumber R.q R.r c)
renumbering-bytes t l c d j g R = front t d j (readable t l d j g) ∙ ap record_of R.is

-- ---- the comparison of two records

abbrev read_length : Out Case → ℕ
read_length (stop x p) = 0
read_length (next c i) = i

-- no record is the front of another: that one ends before a byte differs never decides
pub no_front : (c d : Case) → Fits c → Fits d → (t : List ℕ) → record_of d ≡ record_of c ++ t → length t ≡ 0
no_front c d F G t e =
    let same : length (record_of d) ≡ length (record_of c) = ap read_length (sym (read_alone d G) ∙ ap read e ∙ read_back c F t) in
    omega (arith, same, ap length e, length-append (record_of c) t)

module _ (s t : List ℕ) (c d : Case) (i j : ℕ) (e : read s ≡ next c i) (g : read t ≡ next d j) where
  -- it is one of the two records, and at most either
  pub lesser_of : lesser s t ≡ cond (at_most (take i s) (take j t)) (take i s) (take j t)
  unfolding lesser choice chosen
  lesser_of = ap₂ (λ (o p : Out Case). chosen s t (choice_read s t o p)) e g ∙ go (at_most (take i s) (take j t))
    where
      go : (b : Bool) → chosen s t (cond b (record { which = 1; length = i }) (record { which = 2; length = j })) ≡ cond b (take i s) (take j t)
      go true = refl
      go false = refl

  pub lesser-first : at_most (lesser s t) (take i s) ≡ true
  lesser-first = rw lesser_of (go (at_most (take i s) (take j t)) refl)
    where
      go : (b : Bool) → at_most (take i s) (take j t) ≡ b → at_most (cond b (take i s) (take j t)) (take i s) ≡ true
      go true p = at_most_same (take i s)
      go false p = at_most_other (take i s) (take j t) p

  pub lesser-second : at_most (lesser s t) (take j t) ≡ true
  lesser-second = rw lesser_of (go (at_most (take i s) (take j t)) refl)
    where
      go : (b : Bool) → at_most (take i s) (take j t) ≡ b → at_most (cond b (take i s) (take j t)) (take j t) ≡ true
      go true p = p
      go false p = at_most_same (take j t)
