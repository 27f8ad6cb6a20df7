-- Labels don't matter to conditions: a renumbered case gives the condition with its addresses moved the answer that the case gives the condition.
-- Assumes nothing.
use Prim.Native.Nat.{ℕ, zero, suc, ◌+◌, ◌≤◌}
use native.Mathlib.Omega.{arith}
use mathlib.Core.Path.{◌≡◌, refl, sym, ap, ap₂, ◌∙◌, subst}
use mathlib.Core.Bool.{true, not, ◌&&◌, ◌||◌}
use mathlib.Core.List.{List, [], ◌∷◌, ◌++◌}
use lib.Dec.{T, eqb}
use lib.ListN.{length, take, drop, length-append}
use borrow.Author.Tests.{ltb-true}
use Rattle.number.specs.Number.{Bytes}
use Rattle.number.specs.Reader.{next}
use Rattle.permutation.specs.Permutation.{image, fits}
use Rattle.permutation.proofs.Laws.{image_identity, fits_image, fits-ltb}
use Rattle.model.specs.Case.{Case, Event, load}
use Rattle.model.specs.Rules.{kind, value, is_load, final}
use Rattle.model.specs.Record.{read}
use Rattle.model.specs.Written.{record_of}
use Rattle.model.specs.Renumber.{relabel, renumber}
use Rattle.model.specs.Answers.{Answer, judge, judge_case}
use Rattle.model.specs.Fits.{Fits}
use Rattle.model.specs.Calls.{entered, Call, judging, renumbering, judging_case, renumbering_case, record_after, Composed, start, composed_after, moved_answer, ruled}
use Rattle.model.proofs.Faultless.{handed_on}
use Rattle.laws.proofs.ReadBack.{read_back}
use Rattle.laws.proofs.ExactCase.{Readable, readable}
use Rattle.laws.proofs.Renumbered.{event-at, final_moves}
use Rattle.laws.proofs.Refits.{refits}
use Rattle.laws.proofs.Claim.{Fitting, judging-gives, judging-case, entered-fits, start_fits, claim}
use Rattle.condition_model.specs.Grammar.{most_text, most_depth, Condition, Condition.a_term, Condition.or_else, Term, Term.a_factor, Term.and_also, Factor, Factor.negation, Factor.bracketed, Factor.memory_is, Factor.load_is, equals, letter_e, decimal, equation, spaces, tokens_c, tokens_t, tokens_f, Padded, Spells, Ranges, FitsC, FitsT, FitsF, Accepted}
use Rattle.condition_model.specs.Reader.{read_text}
use Rattle.condition_model.specs.Truth.{truth_c, truth_t, truth_f, truth, ranges, moved_c, moved_t, moved_f}
use Rattle.condition_model.specs.Answers.{ConditionAnswer, without, by_text, condition, condition_case, moved_condition}
use Rattle.condition_model.proofs.Decimal.{decimal_low}
use Rattle.condition_model.proofs.Text.{accepted}
use Rattle.condition_model.proofs.Cases.{own_first, own-first-case, by-text, by_text-case}

-- ---- truth and limits, by what holds of addresses and loads

-- only the finals of addresses and the values of loads have a say, and addresses may be moved
module _ (r : ℕ) (w : Ranges) (finals finals' loaded loaded' : ℕ → ℕ) (at_address : (a : ℕ) → w.address a ≡ true → finals' (image r a) ≡ finals a)
    (at_load : (e : ℕ) → w.load e ≡ true → loaded' e ≡ loaded e) where
  mutual
    unfolding truth_c moved_c FitsC

    pub truth_moves_C : (n : ℕ) (c : Condition) → FitsC w n c → truth_c finals' loaded' (moved_c r c) ≡ truth_c finals loaded c
    truth_moves_C n (a_term t) F = truth_moves_T n t F
    truth_moves_C n (or_else t c) F = ap₂ ◌||◌ (truth_moves_T n t F.0) (truth_moves_C n c F.1)

    truth_moves_T : (n : ℕ) (t : Term) → FitsT w n t → truth_t finals' loaded' (moved_t r t) ≡ truth_t finals loaded t
    truth_moves_T n (a_factor f) F = truth_moves_F n f F
    truth_moves_T n (and_also f t) F = ap₂ ◌&&◌ (truth_moves_F n f F.0) (truth_moves_T n t F.1)

    truth_moves_F : (n : ℕ) (f : Factor) → FitsF w n f → truth_f finals' loaded' (moved_f r f) ≡ truth_f finals loaded f
    truth_moves_F zero (negation f) F = absurd F
    truth_moves_F (suc n) (negation f) F = ap not (truth_moves_F n f F)
    truth_moves_F zero (bracketed c) F = absurd F
    truth_moves_F (suc n) (bracketed c) F = truth_moves_C n c F
    truth_moves_F n (memory_is a v) F = ap (λ (x : ℕ). eqb x v) (at_address a F.0)
    truth_moves_F n (load_is e v) F = ap (λ (x : ℕ). eqb x v) (at_load e F.0)

-- the permutation 0 moves nothing
mutual
  unfolding moved_c

  unmoved_C : (c : Condition) → moved_c 0 c ≡ c
  unmoved_C (a_term t) = ap a_term (unmoved_T t)
  unmoved_C (or_else t c) = ap₂ or_else (unmoved_T t) (unmoved_C c)

  unmoved_T : (t : Term) → moved_t 0 t ≡ t
  unmoved_T (a_factor f) = ap a_factor (unmoved_F f)
  unmoved_T (and_also f t) = ap₂ and_also (unmoved_F f) (unmoved_T t)

  unmoved_F : (f : Factor) → moved_f 0 f ≡ f
  unmoved_F (negation f) = ap negation (unmoved_F f)
  unmoved_F (bracketed c) = ap bracketed (unmoved_C c)
  unmoved_F (memory_is a v) = ap (λ (x : ℕ). memory_is x v) (image_identity a)
  unmoved_F (load_is e v) = refl

pub truth-same : (w : Ranges) (finals finals' loaded loaded' : ℕ → ℕ) → ((a : ℕ) → w.address a ≡ true → finals' a ≡ finals a) → ((e : ℕ) → w.load e ≡ true → loaded' e ≡ loaded e)
    → (n : ℕ) (c : Condition) → FitsC w n c → truth_c finals' loaded' c ≡ truth_c finals loaded c
truth-same w finals finals' loaded loaded' f g n c F =
    ap (truth_c finals' loaded') (sym (unmoved_C c))
    ∙ truth_moves_C 0 w finals finals' loaded loaded' (λ a h. ap finals' (image_identity a) ∙ f a h) g n c F

module _ (r : ℕ) (w w' : Ranges) (address : (a : ℕ) → w'.address (image r a) ≡ w.address a) (loads : (e : ℕ) → w'.load e ≡ w.load e) (values : (v : ℕ) → w'.value v ≡ w.value v) where
  mutual
    unfolding FitsC moved_c

    fits_moves_C : (n : ℕ) (c : Condition) → FitsC w n c → FitsC w' n (moved_c r c)
    fits_moves_C n (a_term t) F = fits_moves_T n t F
    fits_moves_C n (or_else t c) F = (fits_moves_T n t F.0, fits_moves_C n c F.1)

    fits_moves_T : (n : ℕ) (t : Term) → FitsT w n t → FitsT w' n (moved_t r t)
    fits_moves_T n (a_factor f) F = fits_moves_F n f F
    fits_moves_T n (and_also f t) F = (fits_moves_F n f F.0, fits_moves_T n t F.1)

    fits_moves_F : (n : ℕ) (f : Factor) → FitsF w n f → FitsF w' n (moved_f r f)
    fits_moves_F zero (negation f) F = F
    fits_moves_F (suc n) (negation f) F = fits_moves_F n f F
    fits_moves_F zero (bracketed c) F = F
    fits_moves_F (suc n) (bracketed c) F = fits_moves_C n c F
    fits_moves_F n (memory_is a v) F = (address a ∙ F.0, values v ∙ F.1)
    fits_moves_F n (load_is e v) F = (loads e ∙ F.0, values v ∙ F.1)

-- ---- a renumbered case

module _ (q r : ℕ) (c : Case) (F : Fits c) (fq : T (fits q c.n)) (fr : T (fits r c.m)) where
  pub truth_moves : (n : ℕ) (t : Condition) → FitsC (ranges c) n t → truth (renumber q r c) (moved_c r t) ≡ truth c t
  truth_moves n t =
      truth_moves_C r (ranges c) (final c) (final (renumber q r c)) (value c) (value (renumber q r c)) (λ a h. final_moves q r c F fq fr a)
      (λ e h. unfold renumber value relabel in ap (λ (z : Event). z.value) (event-at q r c.events e)) n t

  fits_moves : (t : Condition) → FitsC (ranges c) most_depth t → FitsC (ranges (renumber q r c)) most_depth (moved_c r t)
  fits_moves t =
      fits_moves_C r (ranges c) (ranges (renumber q r c)) (λ a. unfold ranges renumber in fits-ltb r c.m fr a)
      (λ e. unfold ranges renumber is_load kind relabel in ap (λ (z : Event). eqb z.kind load) (event-at q r c.events e)) (λ v. unfold ranges in refl) most_depth t

  pub accepted_moves : (s s' : List ℕ) (t : Condition) → Accepted (ranges c) s t → length s' ≤ most_text → Spells s' (moved_c r t) → Accepted (ranges (renumber q r c)) s' (moved_c r t)
  accepted_moves s s' t A l S = record { short = l; spells = S; fits = fits_moves t A.fits }

-- ---- the text of a moved condition

-- as many tokens, each as long as the other
abbrev AsLong : List (List ℕ) → List (List ℕ) → Type 0
AsLong [] [] = Unit {0}
AsLong [] (u ∷ us) = ⊥
AsLong (t ∷ ts) [] = ⊥
AsLong (t ∷ ts) (u ∷ us) = (length t ≡ length u) × AsLong ts us

as_long-same : (ts : List (List ℕ)) → AsLong ts ts
as_long-same [] = tt
as_long-same (t ∷ ts) = (refl, as_long-same ts)

as_long-then : (ts us ts' us' : List (List ℕ)) → AsLong ts us → AsLong ts' us' → AsLong (ts ++ ts') (us ++ us')
as_long-then [] [] ts' us' P Q = Q
as_long-then [] (u ∷ us) ts' us' P Q = absurd P
as_long-then (t ∷ ts) [] ts' us' P Q = absurd P
as_long-then (t ∷ ts) (u ∷ us) ts' us' P Q = (P.0, as_long-then ts us ts' us' P.1 Q)

-- the same spaces behind the other tokens
padded_alike : (ts us : List (List ℕ)) (bs : List ℕ) → AsLong ts us → Padded ts bs → (cs : List ℕ) × (length cs ≡ length bs) × Padded us cs
padded_alike [] [] bs A P = (bs, refl, P)
padded_alike [] (u ∷ us) bs A P = absurd A
padded_alike (t ∷ ts) [] bs A P = absurd A
padded_alike (t ∷ ts) (u ∷ us) bs A (g, r, e, P) =
    let (cs, l, Q) = padded_alike ts us r A.1 P in
    (u ++ (spaces g ++ cs), simp length-append (rw (e, length-append, length-append, A.0, l) refl), (g, cs, refl, Q))

-- addresses of one digit move to such
module _ (r : ℕ) (w : Ranges) (short : (a : ℕ) → w.address a ≡ true → length (decimal (image r a)) ≡ length (decimal a)) where
  mutual
    unfolding tokens_c moved_c FitsC

    as_long_C : (n : ℕ) (c : Condition) → FitsC w n c → AsLong (tokens_c c) (tokens_c (moved_c r c))
    as_long_C n (a_term t) F = as_long-T n t F
    as_long_C n (or_else t c) F = as_long-then (tokens_t t) (tokens_t (moved_t r t)) _ _ (as_long-T n t F.0) (refl, as_long_C n c F.1)

    as_long-T : (n : ℕ) (t : Term) → FitsT w n t → AsLong (tokens_t t) (tokens_t (moved_t r t))
    as_long-T n (a_factor f) F = as_long_F n f F
    as_long-T n (and_also f t) F = as_long-then (tokens_f f) (tokens_f (moved_f r f)) _ _ (as_long_F n f F.0) (refl, as_long-T n t F.1)

    as_long_F : (n : ℕ) (f : Factor) → FitsF w n f → AsLong (tokens_f f) (tokens_f (moved_f r f))
    as_long_F zero (negation f) F = absurd F
    as_long_F (suc n) (negation f) F = (refl, as_long_F n f F)
    as_long_F zero (bracketed c) F = absurd F
    as_long_F (suc n) (bracketed c) F = (refl, as_long-then (tokens_c c) (tokens_c (moved_c r c)) _ _ (as_long_C n c F) (refl, tt))
    as_long_F n (memory_is a v) F = (ap suc (sym (short a F.0)), as_long-same ((equals ∷ []) ∷ decimal v ∷ []))
    as_long_F n (load_is e v) F = as_long-same (equation letter_e e v)

-- addresses have one digit
one_digit : (r : ℕ) (c : Case) → Fits c → T (fits r c.m) → (a : ℕ) → (ranges c).address a ≡ true → length (decimal (image r a)) ≡ length (decimal a)
unfolding ranges
one_digit r c F fr a h =
    let l = ltb-true a c.m h in
    let m = F.m_most in
    let i = fits_image r c.m fr a l in
    rw (decimal_low a (omega arith), decimal_low (image r a) (omega arith))

-- a text that the case allows has one of the same length for the renumbered case, with each address moved
pub text-moved : (r : ℕ) (c : Case) → Fits c → T (fits r c.m) → (s : List ℕ) (t : Condition) → Accepted (ranges c) s t → (s' : List ℕ) × (length s' ≡ length s) × Spells s' (moved_c r t)
text-moved r c F fr s t A =
    let S = A.spells in
    let (cs, l, P) = padded_alike (tokens_c t) (tokens_c (moved_c r t)) S.rest (as_long_C r (ranges c) (one_digit r c F fr) most_depth t A.fits) S.tokens in
    let long : length s ≡ length (spaces S.before) + length S.rest = ap length S.text ∙ length-append (spaces S.before) S.rest in
    (spaces S.before ++ cs, length-append (spaces S.before) cs ∙ omega (arith, l), record { before = S.before; rest = cs; text = refl; tokens = P })

-- ---- the calls

-- bytes behind a record have no say
behind_silent : (c : Case) → Fits c → (model : ℕ) (behind other text : List ℕ) → condition model (record_of c ++ behind) text ≡ condition model (record_of c ++ other) text
unfolding condition
behind_silent c F model behind other text = rw (read_back c F behind, read_back c F other)

-- y is what is answered for the text s about c, which judging answers with a
record Answered (c : Case) (a : Answer) (s : List ℕ) (y : ConditionAnswer) : Type 0 where
  own : (a.number ≡ 0 → ⊥) → y ≡ without a
  told : a.number ≡ 0 → y ≡ by_text c a (read_text (ranges c) s)

module _ (c : Case) (F : Fits c) (model : ℕ) (s : List ℕ) where
  record_answered : (behind : List ℕ) → Answered c (judge model (record_of c ++ behind)) s (condition model (record_of c ++ behind) s)
  record_answered behind = record { own = own_first model (record_of c ++ behind) s; told = by-text model (record_of c ++ behind) s c _ (read_back c F behind) }

  case-answered : Answered c (judge_case model c) s (condition_case model c s)
  case-answered = record { own = own-first-case model c s; told = by_text-case model c s _ (handed_on c F) }

module _ (c : Case) (F : Fits c) (b : Composed) (fit : Fitting c F b) where
  ruled-fits : Fits (ruled c b)
  unfolding Fitting
  ruled-fits = refits b.T b.A c F fit.0 fit.1

  module _ (s s' : List ℕ) (t : Condition) (is : Accepted (ranges c) s t) (short : length s' ≤ most_text) (spells : Spells s' (moved_c b.A t)) where
    text_moves : read_text (ranges (ruled c b)) s' ≡ next (moved_c b.A t) (length s')
    unfolding Fitting
    text_moves = accepted (ranges (ruled c b)) s' (moved_c b.A t) (accepted_moves b.T b.A c F fit.0 fit.1 s s' t is short spells)

    ruled-truth : truth (ruled c b) (moved_c b.A t) ≡ truth c t
    unfolding Fitting
    ruled-truth = truth_moves b.T b.A c F fit.0 fit.1 most_depth t is.fits

    answer_moves : (a a' : Answer) (y y' : ConditionAnswer) → a' ≡ moved_answer b.A a → Answered c a s y → Answered (ruled c b) a' s' y' → y' ≡ moved_condition b.A y
    answer_moves a a' y y' given Y Y' = go a.number refl
      where
        number : a'.number ≡ a.number
        number = ap (λ (x : Answer). x.number) given

        go : (v : ℕ) → a.number ≡ v → y' ≡ moved_condition b.A y
        go zero e = Y'.told (number ∙ e) ∙ rw (text_moves, given, ruled-truth) (sym (ap (moved_condition b.A) (Y.told e ∙ rw (accepted (ranges c) s t is))))
        go (suc v) e = Y'.own (λ z. omega (arith, number, e)) ∙ rw given (sym (ap (moved_condition b.A) (Y.own (λ z. omega arith))))

    pub asked_moves : (model : ℕ) (behind : List ℕ) → condition model (record_of (ruled c b) ++ behind) s' ≡ moved_condition b.A (condition model (record_of c ++ behind) s)
    asked_moves model behind =
        answer_moves _ _ _ _ (judging-gives c F b fit model behind) (record_answered c F model s behind) (record_answered (ruled c b) ruled-fits model s' behind)

    pub asked_moves_case : (model : ℕ) → condition_case model (ruled c b) s' ≡ moved_condition b.A (condition_case model c s)
    asked_moves_case model = answer_moves _ _ _ _ (judging-case c F b fit model) (case-answered c F model s) (case-answered (ruled c b) ruled-fits model s')

-- the permutations that a list of calls composes fit the case
after-fits : (c : Case) (F : Fits c) (b : Composed) (xs : List Call) → Fitting c F b → Fitting c F (composed_after c.n c.m (length (record_of c)) b xs)
unfolding composed_after
after-fits c F b [] fit = fit
after-fits c F b (judging model behind ∷ xs) fit = after-fits c F b xs fit
after-fits c F b (judging_case model ∷ xs) fit = after-fits c F b xs fit
after-fits c F b (renumbering_case q r ∷ xs) fit = after-fits c F b xs fit
after-fits c F b (renumbering q r behind buffer at ∷ xs) fit = after-fits c F (entered c.n c.m (length (record_of c)) b (renumbering q r behind buffer at)) xs (entered-fits c F b fit q r behind buffer at)

-- After every list of judging and renumbering calls, the condition with its addresses moved by A, as A is then, gets the answer that the starting record gets for
-- the condition, with the finals moved
pub asked_after : (bytes : List ℕ) → Bytes bytes → (c : Case) (size : ℕ) → read bytes ≡ next c size → (xs : List Call) (model : ℕ) (behind s s' : List ℕ) (t : Condition)
    → Accepted (ranges c) s t → length s' ≤ most_text → Spells s' (moved_c (composed_after c.n c.m size start xs).A t)
    → condition model (record_after (take size bytes) xs ++ behind) s' ≡ moved_condition (composed_after c.n c.m size start xs).A (condition model bytes s)
asked_after bytes h c size e xs model behind s s' t is short spells =
    let R : Readable bytes c size = readable bytes h c size e in
    let b = composed_after c.n c.m size start xs in
    let fit : Fitting c R.fits b =
    subst (λ (i : ℕ). Fitting c R.fits (composed_after c.n c.m i start xs)) (sym R.length) (after-fits c R.fits start xs (start_fits c R.fits)) in
    ap (λ (l : List ℕ). condition model (l ++ behind) s') (claim bytes h c size e xs).lasts
    ∙ asked_moves c R.fits b fit s s' t is short spells model behind
    ∙ ap (moved_condition b.A) (behind_silent c R.fits model behind (drop size bytes) s ∙ ap (λ (l : List ℕ). condition model l s) (sym R.whole))

-- and so for the case that the renumbering rule makes by then, handed without bytes
pub asked_after-case : (c : Case) → Fits c → (xs : List Call) (model : ℕ) (s s' : List ℕ) (t : Condition)
    → Accepted (ranges c) s t → length s' ≤ most_text → Spells s' (moved_c (composed_after c.n c.m (length (record_of c)) start xs).A t)
    → condition_case model (ruled c (composed_after c.n c.m (length (record_of c)) start xs)) s'
    ≡ moved_condition (composed_after c.n c.m (length (record_of c)) start xs).A (condition_case model c s)
asked_after-case c F xs model s s' t is short spells =
    asked_moves_case c F (composed_after c.n c.m (length (record_of c)) start xs) (after-fits c F start xs (start_fits c F)) s s' t is short spells model
