-- Each way through the functions that look for the end of an area's log.
-- Assumes nothing.
use Prim.Native.Nat.{ℕ, suc, ◌+◌, ◌-◌, ◌≤◌, ◌<◌}
use native.Mathlib.Omega.{arith}
use native.Mathlib.Numerals.{add-one}
use mathlib.Core.Path.{◌≡◌, refl, sym, ap, ◌∙◌}
use mathlib.Core.List.{List, [], ◌∷◌}
use lib.ListN.{length, get_or, take, drop, length-drop, drop_of_length-le}
use lib.Seq.{drop-cons, take_all}
use Rattle.std.proofs.Common.{Ok, Err}
use Rattle.number.specs.Reader.{stop, number_of as fault_number}
use Rattle.number.specs.declared.Refusal.{Refusal}
use Rattle.model.specs.Record.{read}
use Rattle.finite.proofs.All.{all_drop}
use Rattle.laws.proofs.Exact.{refused-within}
use Rattle.laws.proofs.ExactCase.{refused}
use Rattle.laws.proofs.ExtentCase.{Accepted, accepted}
use Rattle.reader.specs.declared.Reading.{Reading}
use Rattle.reader.specs.Answers.{ReadingOf}
use Rattle.reader.proofs.Bytes.{Octets, slice_bytes}
use Rattle.area_model.specs.Area.{unused, finished_flag, Frame, finished, none, by_reading, frame_at, Found, ends_at, before, found_from, found}
use Rattle.area_model.proofs.Frames.{frame-over, frame_read, frame_bad, frame_reads, walk}
use Rattle.log_model.specs.Log.{Ending, no_fault}
use Rattle.answers.specs.declared.Refused.{Refused}
use Rattle.answers.specs.Shown.{cause_number}
use Rattle.area.specs.Shown.{EndOf}

-- ---- the ways through `finished_size`

module _ (s : List ℕ) (at : ℕ) (inside : at < length s) where
  part_is : take (length s - (at + 1)) (drop (at + 1) s) ≡ drop (suc at) s
  part_is = take_all (length s - (at + 1)) (drop (at + 1) s) (rw length-drop (omega arith)) ∙ rw add-one

  pub was_finished : (r : Reading) → ReadingOf (read (take (length s - (at + 1)) (drop (at + 1) s))) (Ok r) → finished r.length ≡ by_reading at (read (drop (suc at) s))
  was_finished r R = sym (ap (by_reading at) (sym (ap read part_is) ∙ R.is_read))

  module _ (e : Refusal) (h : ReadingOf (read (take (length s - (at + 1)) (drop (at + 1) s))) (Err e)) where
    was_stopped : read (drop (suc at) s) ≡ stop (fault_number e.fault) e.place
    was_stopped = sym (ap read part_is) ∙ h

    pub was_refused : none (record { number = fault_number e.fault; place = at + 1 + e.place }) ≡ by_reading at (read (drop (suc at) s))
    was_refused = sym (ap (by_reading at) was_stopped)

    pub place-within : Octets s → at + 1 + e.place ≤ length s
    place-within b =
        let l : e.place ≤ length (drop (suc at) s) = refused-within (refused (drop (suc at) s) (all_drop _ (suc at) s (slice_bytes s b)) (fault_number e.fault) e.place was_stopped) in
        let l' : e.place ≤ length s - suc at = rw length-drop at l in
        omega arith

-- ---- the ways through `frame_size`

module _ (s : List ℕ) (at : ℕ) where
  pub at_end : length s ≤ at → none no_fault ≡ frame_at s at
  at_end l = let over : drop at s ≡ [] = drop_of_length-le s l in rw (over, frame-over at [] tt)

  module _ (inside : at < length s) where
    begins : drop at s ≡ get_or s at 0 ∷ drop (suc at) s
    begins = drop-cons s at 0 inside

    pub is-unused : get_or s at 0 ≡ unused → none no_fault ≡ frame_at s at
    is-unused e = rw (begins, frame-over at (get_or s at 0 ∷ drop (suc at) s) e)

    pub is-finished : get_or s at 0 ≡ finished_flag → (f : Frame) → f ≡ by_reading at (read (drop (suc at) s)) → f ≡ frame_at s at
    is-finished e f h = h ∙ rw (begins, e, frame_read at (drop (suc at) s))

    pub is_bad : (get_or s at 0 ≡ unused → ⊥) → (get_or s at 0 ≡ finished_flag → ⊥) → none (record { number = 9; place = at }) ≡ frame_at s at
    is_bad m n = rw (begins, frame_bad at (get_or s at 0) (drop (suc at) s) m n)

-- ---- the loop of `find_end`

-- how the log ends from a place on is how it ends
pub record Seeking (s : List ℕ) (at : ℕ) : Type 0 where
  pub inside : at ≤ length s
  pub ending : (found_from at (drop at s)).ending ≡ (found s).ending
  pub end : (found_from at (drop at s)).end ≡ (found s).end

pub begun : (s : List ℕ) → Seeking s 0
begun s = record { inside = omega arith; ending = refl; end = refl }

module _ (s : List ℕ) (at : ℕ) where
  -- no further frame
  over : (x : Ending) → none x ≡ frame_at s at → found_from at (drop at s) ≡ ends_at at x
  over x h = walk s at ∙ rw (← h)

  module _ (i : ℕ) (h : finished i ≡ frame_at s at) where
    -- a frame lies within the area
    pub frame-within : at + (1 + i) ≤ length s
    frame-within =
        let R = frame_reads at (drop at s) i (sym h) in
        let A : Accepted (drop 1 (drop at s)) R.case i = accepted (drop 1 (drop at s)) R.case i R.reads in
        let l : i ≤ length s - at - 1 = rw (length-drop, length-drop) at A.inside in
        omega (arith, A.some)

    behind : found_from at (drop at s) ≡ before (take i (drop 1 (drop at s))) (found_from (at + (1 + i)) (drop (at + (1 + i)) s))
    behind = let place : at + suc i ≡ at + (1 + i) = omega arith in walk s at ∙ rw (← h, place)

  module _ (S : Seeking s at) where
    pub found-end : none no_fault ≡ frame_at s at → EndOf (found s) (Ok at)
    found-end h = record {
      faultless = ap (λ (x : Ending). x.number) (sym S.ending ∙ ap (λ (f : Found). f.ending) (over no_fault h));
      end_is = sym (ap (λ (f : Found). f.end) (over no_fault h)) ∙ S.end;
    }

    pub found-fault : (e : Refused) → none (record { number = cause_number e.cause; place = e.place }) ≡ frame_at s at → EndOf (found s) (Err e)
    found-fault e h = sym S.ending ∙ ap (λ (f : Found). f.ending) (over _ h)

    pub one_more : (i : ℕ) → finished i ≡ frame_at s at → Seeking s (at + (1 + i))
    one_more i h = record {
      inside = frame-within i h;
      ending = sym (ap (λ (f : Found). f.ending) (behind i h)) ∙ S.ending;
      end = sym (ap (λ (f : Found). f.end) (behind i h)) ∙ S.end;
    }
