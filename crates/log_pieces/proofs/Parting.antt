-- Judging the records of some bytes, as far as they seem to be complete.
-- Assumes nothing.
use Rattle.std.proofs.Common.{◌≡◌, ℕ, ◌+◌, ◌-◌, ◌*◌, ◌<◌, ◌≤◌, Bool, true, false, leb, List, [], length, take, drop, sym, refl, ap, ◌∙◌, true≢false, append-nil, le_trans, le_refl, lt_of_lt_of_le, lt_of_le_of_lt, mul-le-mul, arith, lit<, lit≤, length-drop, length-take-le, w8, w64, Fits, leb-false}
use lib.Seq.{take-length}
use Rattle.model.specs.Limits.{most_edition, most_threads, most_events}
use Rattle.model.specs.Bound.{most_bytes}
use Rattle.model.specs.Record.{read}
use Rattle.laws.proofs.Bound.{most_is}
use Rattle.reader.proofs.Bytes.{Octets}
use Rattle.tally.specs.declared.Tally.{Tally}
use Rattle.tally.specs.Tally.{zeros}
use Rattle.number.specs.Reader.{stop}
use Rattle.log_model.specs.Log.{no_fault}
use Rattle.log_model.specs.Pieces.{refused, run, run_from, answer, judge_log}
use Rattle.log_model.proofs.RunLaws.{run-stop, read_end}
use Rattle.log_model.proofs.Cut.{ended-last}
use Rattle.log_model.proofs.Kept.{call-small}
use Rattle.log_pieces.specs.declared.LogAnswer.{LogAnswer}
use Rattle.log_pieces.specs.declared.JudgedLog.{JudgedLog}
use Rattle.log_pieces.specs.Shown.{Step, Turn, begun, next_turn, run_of, answer_shown, judged_shown, GoesOn, PartJudged}
use Rattle.log_pieces.proofs.Going.{Going, Front, first, onward, front_on, less, left}
use Rattle.log_pieces.proofs.Answering.{as_waiting, answer_is}

-- ---- the size that a record seems to have

pub octet_word : (x : ℕ) → Fits w8 x → Fits w64 x
octet_word x h = record { fits = lt_of_lt_of_le h.fits (lit≤ tt) }

module _ (n k : ℕ) (a : n ≤ most_threads) (b : k ≤ most_events) where
  pub product_fits : Fits w64 (n * k)
  product_fits = record { fits = lt_of_le_of_lt (mul-le-mul a b) (lit< tt) }

  pub orders-few : n * k * (k - 1) ≤ most_bytes most_edition
  orders-few = le_trans (mul-le-mul (mul-le-mul a b) (the_less)) (rw most_is.1 (lit≤ tt))
    where
      the_less : k - 1 ≤ most_events
      the_less = omega arith

  pub orders_fit : Fits w64 (n * k * (k - 1))
  orders_fit = record { fits = lt_of_le_of_lt orders-few (rw most_is.1 (lit< tt)) }

-- ---- whether the next record is judged

module _ (s : List ℕ) (last : Bool) (f : Step) where
  pub goes_last : f.going ≡ true → GoesOn s last f true
  goes_last g = record { going = λ _. g; whole = λ e. absurd (true≢false e); few = λ e. absurd (true≢false e) }

  pub goes_likely : f.going ≡ true → last ≡ false → (likely : ℕ) → likely ≤ most_bytes most_edition → GoesOn s last f (leb likely (length s - f.judged))
  goes_likely g l likely most = record {
    going = λ _. g;
    whole = λ _ z. absurd (true≢false (sym z ∙ l));
    few = λ e _. omega (arith, leb-false likely (length s - f.judged) e);
  }

  pub goes_not : f.going ≡ false → GoesOn s last f false
  goes_not g = record { going = λ e. absurd (true≢false (sym e)); whole = λ _ _. g; few = λ _ z. absurd (true≢false (sym z ∙ g)) }

-- ---- the loop

-- judging has come to the step f with the tally t', from t
pub record Parted (s : List ℕ) (t : Tally) (f : Step) (t' : Tally) : Type 0 where
  pub on : Going s (run s t) (record { step = f; tally = t' })
  pub front : f.going ≡ true → Front s t f.judged t'

pub parted_first : (s : List ℕ) (t : Tally) (f : Step) → f ≡ begun → Parted s t f t
parted_first s t f e = rw e (record { on = first s t; front = λ _. record { comes = λ u. refl } })

module _ (s : List ℕ) (b : Octets s) (t : Tally) (f : Step) (t' : Tally) (P : Parted s t f t') where
  pub parted_inside : f.judged ≤ length s
  parted_inside = P.on.inside

  module _ (last y : Bool) (o : GoesOn s last f y) (h : y ≡ true) (m : Turn) (e : m ≡ next_turn s f t') where
    pub parted_on : Parted s t m.step m.tally
    parted_on = rw e (record {
      on = onward s b (run s t) (record { step = f; tally = t' }) P.on (o.going h);
      front = front_on s b (run s t) (record { step = f; tally = t' }) P.on (o.going h) t (P.front (o.going h));
    })

    pub parted_less : left s m.step < left s f
    parted_less = rw e (less s b (run s t) (record { step = f; tally = t' }) P.on (o.going h))

-- ---- where it leaves off

-- the bytes up to where it leaves off give the same
front-answer : (from : ℕ) (s : List ℕ) (t : Tally) (at : ℕ) (t' : Tally) → at ≤ length s → Front s t at t'
    → judge_log from false (take at s) t ≡ record { ended = false; ending = no_fault; judged = at; tally = t' }
unfolding judge_log
front-answer from s t at t' inside F = ap (answer from false (length (take at s))) run_is
  where
    none : read (drop at (take at s)) ≡ stop 1 0
    none = read_end (take at s) at (rw (length-take-le at s inside) (le_refl at))

    run_is : run (take at s) t ≡ record { judged = at; tally = t'; why = refused 1 (at + 0) }
    run_is = ap (λ (u : List ℕ). run u t) (sym (append-nil (take at s))) ∙ F.comes [] ∙ ap (λ (u : List ℕ). run_from at u t') (append-nil (take at s)) ∙ run-stop at (take at s) t' 1 0 none

module _ (from : ℕ) (last : Bool) (s : List ℕ) (b : Octets s) (t : Tally) (f : Step) (t' : Tally) (P : Parted s t f t') (y : Bool) (o : GoesOn s last f y) (h : y ≡ false) (a : LogAnswer) (e : a ≡ answer_shown (answer from last (length s) (run_of f zeros))) where
  abbrev result : JudgedLog
  result = record { answer = a; tally = t' }

  left_off : f.going ≡ true → PartJudged from last s t result
  left_off g = record {
    upto = f.judged;
    within = P.on.inside;
    whole = λ l. absurd (true≢false (sym l ∙ middle));
    same = rw (waits, middle, front-answer from s t f.judged t' P.on.inside (P.front g));
    few = λ _. rw waits (o.few h g);
  }
    where
      -- of a log's last bytes none is left
      middle : last ≡ false
      middle = go last refl
        where
          go : (y : Bool) → last ≡ y → last ≡ false
          go true l = absurd (true≢false (sym g ∙ o.whole h l))
          go false l = l

      waits : a ≡ record { number = 0; ended = false; place = 0; length = f.judged }
      waits = e ∙ sym (as_waiting from (length s) f last middle (P.on.ends g))

  tally_is : (judge_log from last s t).tally ≡ (run s t).tally
  unfolding judge_log
  tally_is = refl

  stopped : f.going ≡ false → PartJudged from last s t result
  stopped g = record {
    upto = length s;
    within = le_refl (length s);
    whole = λ _. refl;
    same = rw take-length same;
    few = λ z. few last refl (sym (ap (λ (r : JudgedLog). r.answer.ended) same) ∙ z);
  }
    where
      same : result ≡ judged_shown (judge_log from last s t)
      same =
          let S = P.on.stops g in
          let shown : a ≡ answer_shown (judge_log from last s t) =
          e ∙ ap (λ (r : Step). answer_shown (answer from last (length s) (run_of r zeros))) S.0
          ∙ answer_is from last s b t in
          rw (shown, S.1 ∙ sym tally_is)

      few : (y : Bool) → last ≡ y → (judge_log from last s t).ended ≡ false → length s - a.length ≤ most_bytes most_edition
      few true l z = absurd (true≢false (sym (ended-last from s t) ∙ rw (← l) z))
      few false l z = rw (ap (λ (r : JudgedLog). r.answer.length) same, l) (rw length-drop at (call-small from s t (rw l at z)))

  pub part-judged : PartJudged from last s t result
  part-judged = go f.going refl
    where
      go : (y : Bool) → f.going ≡ y → PartJudged from last s t result
      go true g = left_off g
      go false g = stopped g
