-- Each way through the functions that say whether a log has ended.
-- Assumes nothing.
use Rattle.std.proofs.Common.{◌≡◌, ℕ, ◌+◌, ◌%◌, ◌^◌, ◌<◌, ◌≤◌, Bool, true, false, eqb, List, length, refl, sym, ap, ◌∙◌, true≢false, ne_eqb, le-leb, arith}
use borrow.Author.Tests.{lt-leb, eqb-true, eqb-false}
use Rattle.number.specs.Reader.{number_of as fault_number}
use Rattle.number.specs.declared.Fault.{Fault}
use Rattle.number.specs.declared.Fault.TheVariants.{Ends, Form, Range, Turn, Unprintable}
use Rattle.number.specs.declared.Refusal.{Refusal}
use Rattle.reader.proofs.Bytes.{Octets}
use Rattle.tally.specs.declared.Tally.{Tally}
use Rattle.tally.specs.Tally.{zeros}
use Rattle.log_model.specs.Pieces.{Run, run, waits, answer, judge_log}
use Rattle.log_pieces.specs.declared.Stop.{Stop as Given}
use Rattle.log_pieces.specs.declared.Stop.TheVariants.{Refused, Full}
use Rattle.log_pieces.specs.declared.Stopped.{Stopped}
use Rattle.log_pieces.specs.declared.LogAnswer.{LogAnswer}
use Rattle.log_pieces.specs.Shown.{Step, run_of, number_of, place_of, stop_of, stopped_shown, step_shown, answer_shown}
use Rattle.log_pieces.proofs.Going.{shows}

module _ (from size : ℕ) (r : Step) where
  pub ends_clean : size ≤ r.judged → ◌≡◌ {A = LogAnswer} (record { number = 0; ended = true; place = 0; length = r.judged }) (answer_shown (answer from true size (run_of r zeros)))
  unfolding run_of
  ends_clean l = rw (le-leb size r.judged l)

  pub ends_full : r.judged < size → r.number ≡ 6 → ◌≡◌ {A = LogAnswer} (record { number = 6; ended = true; place = 0; length = r.judged }) (answer_shown (answer from true size (run_of r zeros)))
  unfolding run_of
  ends_full l e = rw (lt-leb size r.judged l, e)

  pub ends_refused : r.judged < size → (r.number ≡ 6 → ⊥) → (p : ℕ) → p ≡ (from + r.place) % 2 ^ 64 → ◌≡◌ {A = LogAnswer} (record { number = r.number; ended = true; place = p; length = r.judged }) (answer_shown (answer from true size (run_of r zeros)))
  unfolding run_of
  ends_refused l n p e = rw (lt-leb size r.judged l, ne_eqb r.number 6 n, e)

  -- the last bytes
  pub as_last : (a : LogAnswer) (last : Bool) → a ≡ answer_shown (answer from true size (run_of r zeros)) → last ≡ true → a ≡ answer_shown (answer from last size (run_of r zeros))
  as_last a last e l = e ∙ rw l

  pub as_waiting : (last : Bool) → last ≡ false → r.number ≡ 1 → ◌≡◌ {A = LogAnswer} (record { number = 0; ended = false; place = 0; length = r.judged }) (answer_shown (answer from last size (run_of r zeros)))
  unfolding run_of
  as_waiting last l e = rw (l, e)

  -- refused otherwise than by 1, or a count is full
  pub as_stopped : (a : LogAnswer) (last : Bool) → a ≡ answer_shown (answer from true size (run_of r zeros)) → (r.number ≡ 1 → ⊥) → a ≡ answer_shown (answer from last size (run_of r zeros))
  unfolding run_of
  as_stopped a last e n = e ∙ go last (eqb r.number 6) refl
    where
      go : (y z : Bool) → eqb r.number 6 ≡ z → answer_shown (answer from true size (run_of r zeros)) ≡ answer_shown (answer from y size (run_of r zeros))
      go true z q = refl
      go false true q = rw q
      go false false q = rw (q, ne_eqb r.number 1 n)

-- 6 is no refusal of bytes
not_full : (f : Fault) → eqb (fault_number f) 6 ≡ false
not_full Ends = refl
not_full Form = refl
not_full Range = refl
not_full Turn = refl
not_full Unprintable = refl

pub ends_by : (from size : ℕ) (r : Stopped) (e : Refusal) → r.why ≡ Refused e → r.judged < size → (n : ℕ) → n ≡ fault_number e.fault
    → ◌≡◌ {A = LogAnswer} (record { number = n; ended = true; place = (from + e.place) % 2 ^ 64; length = r.judged }) (answer_shown (answer from true size (run_of (stopped_shown r) zeros)))
unfolding run_of
ends_by from size r e h l n g =
    let z : number_of (stop_of r.why) ≡ fault_number e.fault = ap (λ (w : Given). number_of (stop_of w)) h in
    let p : place_of (stop_of r.why) ≡ e.place = ap (λ (w : Given). place_of (stop_of w)) h in
    rw (lt-leb size r.judged l, z, p, not_full e.fault, g)

-- the bytes ended there
pub waits_at : (w : Given) (t : Bool) → t ≡ waits (stop_of w) → t ≡ true → number_of (stop_of w) ≡ 1
waits_at (Refused e) t g h = eqb-true (fault_number e.fault) 1 (sym g ∙ h)
waits_at Full t g h = absurd (true≢false (sym h ∙ g))

pub waits_not : (w : Given) (t : Bool) → t ≡ waits (stop_of w) → t ≡ false → number_of (stop_of w) ≡ 1 → ⊥
waits_not (Refused e) t g h z = eqb-false (fault_number e.fault) 1 (sym g ∙ h) z
waits_not Full t g h z = omega arith

-- where judging stopped in the bytes, as the step shows it
pub answer_is : (from : ℕ) (last : Bool) (s : List ℕ) → Octets s → (t : Tally) → answer_shown (answer from last (length s) (run_of (step_shown (run s t)) zeros)) ≡ answer_shown (judge_log from last s t)
unfolding judge_log run_of
answer_is from last s b t = ap (λ (r : Run). answer_shown (answer from last (length s) r)) (shows s b t)
