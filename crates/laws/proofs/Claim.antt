-- The claim over every list of calls (01, "Renumbering labels").
-- Assumes nothing.
use Prim.Native.Nat.{ℕ, zero, suc, ◌+◌, ◌≤◌, ◌<◌}
use mathlib.Core.Path.{◌≡◌, refl, sym, subst, ap, ap₂, ◌∙◌}
use mathlib.Core.Bool.{Bool, true, false, ◌&&◌, cond}
use mathlib.Core.List.{List, [], ◌∷◌, ◌++◌, append_assoc, append-nil}
use lib.Dec.{T, leb, leb→le}
use lib.ListN.{length, take, drop, replicate}
use lib.Seq.{take_at, drop_at, length-take-le}
use Rattle.finite.specs.Lists.{table}
use Rattle.finite.proofs.Tests.{and_left, and_right}
use Rattle.number.specs.Number.{splice, Bytes}
use Rattle.number.specs.Reader.{Out, stop, next}
use Rattle.permutation.specs.Permutation.{permutations, fits}
use Rattle.permutation.proofs.Laws.{fits_identity, fits_below, fits-composite}
use Rattle.model.specs.Limits.{most_addresses}
use Rattle.model.specs.Case.{Case}
use Rattle.model.specs.Rules.{Model, PPCw, PPCs, verdict, finals}
use Rattle.model.specs.Record.{read}
use Rattle.model.specs.Written.{record_of}
use Rattle.model.specs.Renumber.{moved, renumber, fitting}
use Rattle.model.specs.Answers.{Answer, no_finals, refusal, done, answer_of, Stored, room, put, put_out, judgement, judge_out, under_model, judge, judge_case, renumber_out, renumber_record, renumber_case}
use Rattle.model.specs.Calls.{Call, judging, renumbering, judging_case, renumbering_case, judged, renumbered, renumbered_case, on_case, stored, given, outcome, latest, following, outcomes, record_after, Composed, start, compose, entered, composed_after, moved_answer, ruled, promised, promises, Claim}
use Rattle.model.specs.Fits.{Fits}
use Rattle.model.proofs.Faultless.{handed_on}
use Rattle.laws.proofs.ReadBack.{read_back}
use Rattle.laws.proofs.ExactCase.{Readable, readable}
use Rattle.laws.proofs.Renumbered.{verdict_stays, finals_move, moved-table}
use Rattle.laws.proofs.Composition.{renumber_identity, renumber-composite}
use Rattle.laws.proofs.Refits.{refits, same_length}

-- ---- finals that are all 0

table-same-value : (i j a : ℕ) → table i j (λ x. a) ≡ replicate j a
unfolding table
table-same-value i zero a = refl
table-same-value i (suc j) a = ap (λ (l : List ℕ). a ∷ l) (table-same-value (suc i) j a)

no_finals_move : (A : ℕ) → A < permutations → no_finals ≡ moved A most_addresses 0 no_finals
no_finals_move A h =
    subst (λ (l : List ℕ). l ≡ moved A most_addresses 0 l) (table-same-value 0 most_addresses 0) (moved-table A h (λ x. 0) (λ x. 0) (λ x. refl) 0)

-- ---- a renumbering by whether the permutations fit and whether there is room

abbrev pub finish : (f g : Bool) (size : ℕ) (buffer : List ℕ) (at : ℕ) → List ℕ → Stored
finish false g size buffer at w = record { answer = refusal 5 0; buffer = buffer }
finish true false size buffer at w = record { answer = refusal 6 0; buffer = buffer }
finish true true size buffer at w = record { answer = done size; buffer = splice buffer at w }

-- what was written stands there
pub written_there :
    (size : ℕ) (buffer : List ℕ) (at : ℕ) (w : List ℕ) → T (room size buffer at) → length w ≡ size → take size (drop at (splice buffer at w)) ≡ w
unfolding splice
written_there size buffer at w t e =
    let h : at ≤ length buffer = leb→le at (length buffer) (and_left (leb at (length buffer)) _ t) in
    ap (λ (l : List ℕ). take size (drop at l)) (append_assoc (take at buffer) w (drop (at + length w) buffer))
    ∙ ap (take size) (drop_at (take at buffer) (w ++ drop (at + length w) buffer) at (length-take-le at buffer h))
    ∙ take_at w (drop (at + length w) buffer) size e

pub put-room : (size : ℕ) (w buffer : List ℕ) (at : ℕ) → length w ≡ size → put w buffer at ≡ finish true (room size buffer at) size buffer at w
unfolding put
put-room size w buffer at e = rw e (go (room size buffer at))
  where
    go :
        (g : Bool) → cond g (record { answer = done size; buffer = splice buffer at w }) (record { answer = refusal 6 0; buffer = buffer })
        ≡ finish true g size buffer at w
    go true = refl
    go false = refl

-- wc is written, ws would be from the starting record, and w is promised
module _ (size : ℕ) (buffer : List ℕ) (at : ℕ) (wc ws w : List ℕ) where
  finish-outcome :
      (f g : Bool) → (T f → wc ≡ w)
      → stored (finish f g size buffer at wc) ≡ renumbered (finish f g size buffer at ws).answer (f && g) (cond (f && g) (splice buffer at w) buffer)
  finish-outcome false g e = refl
  finish-outcome true false e = refl
  finish-outcome true true e = ap (λ (v : List ℕ). renumbered (done size) true (splice buffer at v)) (e tt)

  finish-latest :
      (s : List ℕ) (f g : Bool) → (T f → wc ≡ w) → (T f → T g → take size (drop at (splice buffer at w)) ≡ w)
      → latest s at (finish f g size buffer at wc) ≡ cond (f && g) w s
  finish-latest s false g e p = refl
  finish-latest s true false e p = refl
  finish-latest s true true e p = ap (λ (v : List ℕ). take size (drop at (splice buffer at v))) (e tt) ∙ p tt tt

cond-under : {A B : Type 0} (f : A → B) (t : Bool) (x y : A) → f (cond t x y) ≡ cond t (f x) (f y)
cond-under f true x y = refl
cond-under f false x y = refl

cond_either : {A : Type 0} (P : A → Type 0) (t : Bool) (x y : A) → (T t → P x) → P y → P (cond t x y)
cond_either P true x y f g = f tt
cond_either P false x y f g = g

-- ---- a judging's answer, moved

judgement_moves :
    (A : ℕ) → A < permutations → (c d : Case) → finals d ≡ moved A most_addresses 0 (finals c) → (size v : ℕ)
    → judgement d size v ≡ moved_answer A (judgement c size v)
judgement_moves A h c d e size zero = λ i. record { number = 0; place = 0; length = size; finals = e i }
judgement_moves A h c d e size (suc v) = λ i. record { number = suc v; place = 0; length = size; finals = no_finals_move A h i }

model_moves :
    (A : ℕ) → A < permutations → (model : ℕ) (f g : Model → Answer) → ((w : Model) → f w ≡ moved_answer A (g w))
    → under_model model f (refusal 7 0) ≡ moved_answer A (under_model model g (refusal 7 0))
model_moves A h zero f g e = e PPCw
model_moves A h (suc zero) f g e = e PPCs
model_moves A h (suc (suc x)) f g e = λ i. record { number = 7; place = 0; length = 0; finals = no_finals_move A h i }

-- ---- one call on a case that keeps the limits

-- both permutations fit
abbrev both : (q r : ℕ) → Case → Bool
both q r c = fits q c.n && fits r c.m

both_q : (q r : ℕ) (c : Case) → T (both q r c) → T (fits q c.n)
both_q q r c t = and_left (fits q c.n) _ t

both_r : (q r : ℕ) (c : Case) → T (both q r c) → T (fits r c.m)
both_r q r c t = and_right (fits q c.n) _ t

module _ (c : Case) (F : Fits c) where
  pub read_alone : read (record_of c) ≡ next c (length (record_of c))
  read_alone = ap read (sym (append-nil (record_of c))) ∙ read_back c F []

  -- a renumbering of c, read from bytes or handed
  module _ (q r : ℕ) where
    renumbered-size : T (both q r c) → length (record_of (renumber q r c)) ≡ length (record_of c)
    renumbered-size t = same_length q r c F (both_q q r c t) (both_r q r c t)

    out : (i : ℕ) → renumber_out q r (next c i) ≡ cond (both q r c) (next (renumber q r c) (length (record_of c))) (stop 5 0)
    unfolding fitting
    out i = go (both q r c) renumbered-size
      where
        go :
            (b : Bool) → (T b → length (record_of (renumber q r c)) ≡ length (record_of c))
            → cond b (next (renumber q r c) (length (record_of (renumber q r c)))) (stop 5 0)
            ≡ cond b (next (renumber q r c) (length (record_of c))) (stop 5 0)
        go true e = ap (next (renumber q r c)) (e tt)
        go false e = refl

    record_out :
        (s : List ℕ) (i : ℕ) → read s ≡ next c i → (buffer : List ℕ) (at : ℕ)
        → renumber_record q r s buffer at ≡ finish (both q r c) (room (length (record_of c)) buffer at) (length (record_of c)) buffer at (record_of (renumber q r c))
    unfolding renumber_record
    record_out s i e buffer at =
        ap (λ (o : Out Case). put_out (renumber_out q r o) buffer at) e ∙ ap (λ (o : Out Case). put_out o buffer at) (out i)
        ∙ go (both q r c) renumbered-size
      where
        go :
            (b : Bool) → (T b → length (record_of (renumber q r c)) ≡ length (record_of c))
            → put_out (cond b (next (renumber q r c) (length (record_of c))) (stop 5 0)) buffer at
            ≡ finish b (room (length (record_of c)) buffer at) (length (record_of c)) buffer at (record_of (renumber q r c))
        go true e = put-room (length (record_of c)) (record_of (renumber q r c)) buffer at (e tt)
        go false e = refl

    case_out : renumber_case q r c ≡ cond (both q r c) (next (renumber q r c) (length (record_of c))) (stop 5 0)
    unfolding renumber_case
    case_out = ap (renumber_out q r) (handed_on c F) ∙ out (length (record_of c))

module _ (c : Case) (F : Fits c) where
  -- both permutations fit the case
  unfoldable pub Fitting : Composed → Type 0
  Fitting b = T (fits b.T c.n) × T (fits b.A c.m)

  abbrev size : ℕ
  size = length (record_of c)

  now_fits : (b : Composed) → Fitting b → Fits (ruled c b)
  unfolding Fitting
  now_fits b fit = refits b.T b.A c F fit.0 fit.1

  now_size : (b : Composed) → Fitting b → length (record_of (ruled c b)) ≡ size
  unfolding Fitting
  now_size b fit = same_length b.T b.A c F fit.0 fit.1

  module _ (b : Composed) (fit : Fitting b) where
    -- ---- judging

    -- o is what the call is handed now, and o' what it would be handed at the start
    judging_out :
        (model : ℕ) (o o' : Out Case) → o ≡ next (ruled c b) (length (record_of (ruled c b))) → o' ≡ next c size
        → under_model model (λ w. judge_out w o) (refusal 7 0) ≡ moved_answer b.A (under_model model (λ w. judge_out w o') (refusal 7 0))
    unfolding Fitting
    judging_out model o o' e e' =
        let h = fits_below b.A c.m fit.1 in
        model_moves b.A h model (λ w. judge_out w o) (λ w. judge_out w o')
        (λ w.
        ap (judge_out w) e
        ∙ ap₂ (judgement (ruled c b)) (now_size b fit) (verdict_stays b.T b.A c F fit.0 fit.1 w)
        ∙ judgement_moves b.A h c (ruled c b) (finals_move b.T b.A c F fit.0 fit.1) size (verdict c w)
        ∙ sym (ap (λ (o : Out Case). moved_answer b.A (judge_out w o)) e'))

    pub judging-gives :
        (model : ℕ) (behind : List ℕ) → judge model (record_of (ruled c b) ++ behind) ≡ moved_answer b.A (judge model (record_of c ++ behind))
    unfolding judge
    judging-gives model behind = judging_out model _ _ (read_back (ruled c b) (now_fits b fit) behind) (read_back c F behind)

    pub judging-case : (model : ℕ) → judge_case model (ruled c b) ≡ moved_answer b.A (judge_case model c)
    unfolding judge_case
    judging-case model = judging_out model _ _ (handed_on (ruled c b) (now_fits b fit)) (handed_on c F)

    judging-case-gives : (model : ℕ) → outcome (record_of (ruled c b)) (judging_case model) ≡ promised (record_of c) c size b (judging_case model)
    judging-case-gives model =
        ap (λ (o : Out Case). on_case o (λ c. judged (judge_case model c))) (read_alone (ruled c b) (now_fits b fit)) ∙ ap judged (judging-case model)

    -- ---- renumbering

    module _ (q r : ℕ) where
      abbrev yes : Bool
      yes = both q r c

      abbrev after : Case
      after = ruled c (compose b q r)

      composed-fits : T yes → Fitting (compose b q r)
      unfolding Fitting
      composed-fits t = (fits-composite b.T q c.n fit.0 (both_q q r c t), fits-composite b.A r c.m fit.1 (both_r q r c t))

      rewritten : T yes → renumber q r (ruled c b) ≡ after
      unfolding Fitting
      rewritten t = renumber-composite b.T b.A q r c fit.0 fit.1 (both_q q r c t) (both_r q r c t)

      module _ (behind buffer : List ℕ) (at : ℕ) where
        abbrev x : Call
        x = renumbering q r behind buffer at

        -- the call on the record as it stands, and on the starting record
        here :
            renumber_record q r (record_of (ruled c b) ++ behind) buffer at
            ≡ finish yes (room size buffer at) size buffer at (record_of (renumber q r (ruled c b)))
        unfolding renumber
        here =
            record_out (ruled c b) (now_fits b fit) q r (record_of (ruled c b) ++ behind) _ (read_back (ruled c b) (now_fits b fit) behind) buffer at
            ∙ ap (λ (i : ℕ). finish yes (room i buffer at) i buffer at (record_of (renumber q r (ruled c b)))) (now_size b fit)

        there : renumber_record q r (record_of c ++ behind) buffer at ≡ finish yes (room size buffer at) size buffer at (record_of (renumber q r c))
        there = record_out c F q r (record_of c ++ behind) size (read_back c F behind) buffer at

        renumbering-gives : outcome (record_of (ruled c b)) x ≡ promised (record_of c) c size b x
        renumbering-gives =
            ap stored here
            ∙ finish-outcome size buffer at (record_of (renumber q r (ruled c b))) (record_of (renumber q r c)) (record_of after) yes (room size buffer at)
            (λ t. ap record_of (rewritten t))
            ∙ sym
            (ap
            (λ (w : Stored). renumbered w.answer (yes && room size buffer at) (cond (yes && room size buffer at) (splice buffer at (record_of after)) buffer))
            there)

        renumbering-next : following (record_of (ruled c b)) x ≡ record_of (ruled c (entered c.n c.m size b x))
        renumbering-next =
            ap (latest (record_of (ruled c b)) at) here
            ∙ finish-latest size buffer at (record_of (renumber q r (ruled c b))) [] (record_of after) (record_of (ruled c b)) yes (room size buffer at)
            (λ t. ap record_of (rewritten t))
            (λ t u. written_there size buffer at (record_of after) u (now_size (compose b q r) (composed-fits t)))
            ∙ sym (cond-under (λ (b : Composed). record_of (ruled c b)) (yes && room size buffer at) (compose b q r) b)

        pub entered-fits : Fitting (entered c.n c.m size b x)
        entered-fits = cond_either Fitting (yes && room size buffer at) (compose b q r) b (λ t. composed-fits (and_left yes _ t)) fit

      -- the calls that take a case
      given_now : renumber_case q r (ruled c b) ≡ cond yes (next after size) (stop 5 0)
      unfolding renumber
      given_now = case_out (ruled c b) (now_fits b fit) q r ∙ go yes rewritten
        where
          go :
              (f : Bool) → (T f → renumber q r (ruled c b) ≡ after)
              → cond f (next (renumber q r (ruled c b)) (length (record_of (ruled c b)))) (stop 5 0) ≡ cond f (next after size) (stop 5 0)
          go true e = ap₂ next (e tt) (now_size b fit)
          go false e = refl

      same-answer : (f : Bool) (d e : Case) → answer_of (cond f (next d size) (stop 5 0)) ≡ answer_of (cond f (next e size) (stop 5 0))
      same-answer true d e = refl
      same-answer false d e = refl

      renumbering-case-gives : outcome (record_of (ruled c b)) (renumbering_case q r) ≡ promised (record_of c) c size b (renumbering_case q r)
      renumbering-case-gives =
          let promise : Out Case = cond yes (next after size) (stop 5 0) in
          ap (λ (o : Out Case). on_case o (λ c. given (renumber_case q r c))) (read_alone (ruled c b) (now_fits b fit))
          ∙ ap given given_now
          ∙ ap (λ (w : Answer). renumbered_case w promise) (same-answer yes after (renumber q r c) ∙ sym (ap answer_of (case_out c F q r)))

  -- ---- from any composed permutations that fit
  steps :
      (xs : List Call) (b : Composed) → Fitting b
      → (record_after (record_of (ruled c b)) xs ≡ record_of (ruled c (composed_after c.n c.m size b xs)))
      × (outcomes (record_of (ruled c b)) xs ≡ promises (record_of c) c size b xs)
  unfolding record_after outcomes promises composed_after
  steps [] b fit = (refl, refl)
  steps (judging model behind ∷ xs) b fit =
      let rest = steps xs b fit in
      (rest.0, ap₂ ◌∷◌ (ap judged (judging-gives b fit model behind)) rest.1)
  steps (renumbering q r behind buffer at ∷ xs) b fit =
      let e = renumbering-next b fit q r behind buffer at in
      let rest = steps xs (entered c.n c.m size b (renumbering q r behind buffer at)) (entered-fits b fit q r behind buffer at) in (
        ap (λ (s : List ℕ). record_after s xs) e ∙ rest.0,
        ap₂ ◌∷◌ (renumbering-gives b fit q r behind buffer at) (ap (λ (s : List ℕ). outcomes s xs) e ∙ rest.1),
      )
  steps (judging_case model ∷ xs) b fit =
      let rest = steps xs b fit in
      (rest.0, ap₂ ◌∷◌ (judging-case-gives b fit model) rest.1)
  steps (renumbering_case q r ∷ xs) b fit =
      let rest = steps xs b fit in
      (rest.0, ap₂ ◌∷◌ (renumbering-case-gives b fit q r) rest.1)

  pub start_fits : Fitting start
  unfolding Fitting
  start_fits = (fits_identity c.n, fits_identity c.m)

-- the case whose record the next call is handed
pub record Followed (c : Case) (x : Call) : Type 0 where
  pub next-case : Case
  pub fits : Fits next-case
  pub is : following (record_of c) x ≡ record_of next-case

pub follows : (c : Case) → Fits c → (x : Call) → Followed c x
follows c F (judging model behind) = record { next-case = c; fits = F; is = refl }
follows c F (renumbering q r behind buffer at) =
    let x : Call = renumbering q r behind buffer at in
    let b : Composed = entered c.n c.m (length (record_of c)) start x in
    let fit = entered-fits c F start (start_fits c F) q r behind buffer at in
    record {
      next-case = ruled c b;
      fits = now_fits c F b fit;
      is =
          ap (λ (d : Case). following (record_of d) x) (sym (renumber_identity c F))
          ∙ renumbering-next c F start (start_fits c F) q r behind buffer at;
    }
follows c F (judging_case model) = record { next-case = c; fits = F; is = refl }
follows c F (renumbering_case q r) = record { next-case = c; fits = F; is = refl }

-- the record of readable bytes is their front
pub front : (bytes : List ℕ) (c : Case) (size : ℕ) → Readable bytes c size → take size bytes ≡ record_of c
front bytes c size is = ap (take size) is.whole ∙ take_at (record_of c) (drop size bytes) size (sym is.length)

-- The claim, of every list of calls
pub claim : (bytes : List ℕ) → Bytes bytes → (c : Case) (size : ℕ) → read bytes ≡ next c size → (xs : List Call) → Claim bytes c size xs
claim bytes h c size e xs =
    let is : Readable bytes c size = readable bytes h c size e in
    let F : Fits c = is.fits in
    let long : size ≡ length (record_of c) = is.length in
    let starts : take size bytes ≡ record_of c = front bytes c size is in
    let same : record_of (ruled c start) ≡ record_of c = ap record_of (renumber_identity c F) in
    let all = steps c F xs start (start_fits c F) in
    record {
      lasts =
          ap (λ (s : List ℕ). record_after s xs) (starts ∙ sym same) ∙ all.0
          ∙ ap (λ (i : ℕ). record_of (ruled c (composed_after c.n c.m i start xs))) (sym long);
      gives =
          ap (λ (s : List ℕ). outcomes s xs) (starts ∙ sym same) ∙ all.1
          ∙ ap₂ (λ (s : List ℕ) (i : ℕ). promises s c i start xs) (sym starts) (sym long);
    }
