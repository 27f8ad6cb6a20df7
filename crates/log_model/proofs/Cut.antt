-- However the input was cut, the tally and the ending are those of the whole log.
-- Assumes nothing.
use Prim.Native.Nat.{ℕ, zero, suc, ◌+◌, ◌-◌, ◌≤◌, ◌<◌}
use native.Mathlib.Omega.{arith}
use native.Mathlib.Nat.{add_assoc, add-zero}
use mathlib.Core.Path.{◌≡◌, refl, sym, ap, ◌∙◌}
use mathlib.Core.Bool.{Bool, true, false, cond}
use mathlib.Core.List.{List, [], ◌∷◌, ◌++◌, append_assoc, append-nil}
use lib.Dec.{eqb, leb}
use lib.ListN.{length, drop, length-append, length-drop, drop_of_length-le}
use lib.Seq.{drop-append-le, drop-drop}
use borrow.Author.Tests.{eqb-false, leb-true, leb-false, lt-leb}
use Rattle.number.specs.Reader.{Out, stop, next}
use Rattle.model.specs.Case.{Case}
use Rattle.model.specs.Rules.{PPCs, verdict}
use Rattle.model.specs.Record.{read}
use Rattle.laws.proofs.ExtentCase.{accepted, acceptance_stays, refusal_stays}
use Rattle.tally.specs.declared.Tally.{Tally}
use Rattle.tally.specs.Tally.{grown, may_grow}
use Rattle.log_model.specs.Log.{no_fault, count_full, Summary, log_from, tallied, log_tallied, summary}
use Rattle.log_model.specs.Pieces.{full, Run, on_reading, run_by, run_from, run, waits, ending_at, judge_log, Fed, going, over, begun, following, feed, feed_all, finish, completed, joined}
use Rattle.log_model.proofs.LogLaws.{log_none, log_stop, log_next}
use Rattle.log_model.proofs.RunLaws.{Further, further, some_bytes, Left, left}

-- ---- the log behind what was judged

-- what the whole log gives where the records of s were judged, s begins at that place and u follows it
abbrev behind : (place : ℕ) (s u : List ℕ) → Run → Summary
behind place s u r =
    cond (waits r.why) (log_tallied r.tally (log_from (place + r.judged) (drop r.judged s ++ u)))
    (record { tally = r.tally; ending = ending_at place r.why })

module _ (place : ℕ) (s u : List ℕ) (at : ℕ) (t : Tally) where
  -- the log from there on
  abbrev here : Summary
  here = log_tallied t (log_from (place + at) (drop at s ++ u))

  on_stop : (x p : ℕ) → read (drop at s) ≡ stop x p → (y : Bool) → eqb x 1 ≡ y
      → cond y here (record { tally = t; ending = record { number = x; place = place + (at + p) } }) ≡ here
  unfolding tallied
  on_stop x p e true q = refl
  on_stop x p e false q =
      let n = eqb-false x 1 q in
      let some : 0 < length (drop at s ++ u) = rw length-append (omega (arith, some_bytes (drop at s) x p e n)) in
      let l = log_stop (place + at) (drop at s ++ u) x p some (refusal_stays (drop at s) x p e n u) in
      sym (ap (log_tallied t) l ∙ rw add_assoc)

  on_next : (next-run : Run) (c : Case) (i : ℕ) → read (drop at s) ≡ next c i
      → behind place s u next-run ≡ log_tallied (grown t (verdict c PPCs)) (log_from (place + (at + i)) (drop (at + i) s ++ u))
      → (y : Bool) → may_grow t (verdict c PPCs) ≡ y
      → behind place s u (cond y next-run (record { judged = at; tally = t; why = full })) ≡ here
  unfolding tallied
  on_next next-run c i e ih y q =
      let stays = acceptance_stays (drop at s) c i e u in
      let l = log_next (place + at) (drop at s ++ u) c i stays in
      let rest : drop i (drop at s ++ u) ≡ drop (at + i) s ++ u = drop-append-le i (drop at s) u (accepted (drop at s) c i e).inside ∙ ap (λ (z : List ℕ). z ++ u) (drop-drop i at s) in
      go y q (ap (log_tallied t) l ∙ rw (rest, add_assoc))
    where
      go : (y : Bool) → may_grow t (verdict c PPCs) ≡ y
          → here ≡ cond (may_grow t (verdict c PPCs)) (log_tallied (grown t (verdict c PPCs)) (log_from (place + (at + i)) (drop (at + i) s ++ u))) (record { tally = t; ending = count_full })
          → behind place s u (cond y next-run (record { judged = at; tally = t; why = full })) ≡ here
      go true q h = ih ∙ sym (h ∙ rw q)
      go false q h = sym (h ∙ rw q)

behind_by : (j place at : ℕ) (s u : List ℕ) (t : Tally) → length s ≤ at + j → behind place s u (run_by j at s t) ≡ log_tallied t (log_from (place + at) (drop at s ++ u))
unfolding run_by
behind_by zero place at s u t l = refl
behind_by (suc j) place at s u t l = go (λ i t'. behind_by j place i s u t') (read (drop at s)) refl
  where
    go : ((i : ℕ) (t' : Tally) → length s ≤ i + j → behind place s u (run_by j i s t') ≡ log_tallied t' (log_from (place + i) (drop i s ++ u)))
        → (o : Out Case) → read (drop at s) ≡ o
        → behind place s u (on_reading at t (λ i t'. run_by j i s t') o) ≡ log_tallied t (log_from (place + at) (drop at s ++ u))
    go ih (stop x p) e = on_stop place s u at t x p e (eqb x 1) refl
    go ih (next c i) e =
        let F : Further s at i = further s at c i e in
        on_next place s u at t (run_by j (at + i) s (grown t (verdict c PPCs))) c i e
        (ih (at + i) (grown t (verdict c PPCs)) (omega (arith, F.some))) (may_grow t (verdict c PPCs)) refl

behind-run : (place : ℕ) (s u : List ℕ) (t : Tally) → behind place s u (run s t) ≡ log_tallied t (log_from place (s ++ u))
unfolding run_from
behind-run place s u t = behind_by (length s - 0) place 0 s u t (omega arith) ∙ rw add-zero

-- ---- however the input was cut

-- a call in the middle of a log
pub on_call : (place : ℕ) (s u : List ℕ) (t : Tally) → completed (following place s (judge_log place false s t)) u ≡ log_tallied t (log_from place (s ++ u))
unfolding judge_log
on_call place s u t = go (waits (run s t).why) refl ∙ behind-run place s u t
  where
    L : Left s (run s t)
    L = left s t

    go : (w : Bool) → waits (run s t).why ≡ w → completed (following place s (judge_log place false s t)) u ≡ behind place s u (run s t)
    go true w = rw w
    go false w = let b : leb (length s) (run s t).judged ≡ false = lt-leb (length s) (run s t).judged (L.more w) in rw (w, b)

on_feed : (f : Fed) (piece u : List ℕ) → completed (feed f piece) u ≡ completed f (piece ++ u)
unfolding feed
on_feed (over r) piece u = refl
on_feed (going s place t) piece u = on_call place (s ++ piece) u t ∙ ap (λ (x : List ℕ). log_tallied t (log_from place x)) (append_assoc s piece u)

-- the last call gives what the log has from there on: so does one call on a whole log
pub last-call : (place : ℕ) (s : List ℕ) (t : Tally)
    → ◌≡◌ {A = Summary} (record { tally = (judge_log place true s t).tally; ending = (judge_log place true s t).ending }) (log_tallied t (log_from place s))
unfolding judge_log tallied
last-call place s t = go (waits (run s t).why) (leb (length s) (run s t).judged) refl refl ∙ behind-run place s [] t ∙ rw append-nil
  where
    L : Left s (run s t)
    L = left s t

    go : (w b : Bool) → waits (run s t).why ≡ w → leb (length s) (run s t).judged ≡ b
        → ◌≡◌ {A = Summary} (record { tally = (run s t).tally; ending = cond b no_fault (ending_at place (run s t).why) }) (behind place s [] (run s t))
    go true true w b =
        let none : drop (run s t).judged s ≡ [] = drop_of_length-le s (leb-true (length s) (run s t).judged b) in
        rw (w, none, log_none)
    go true false w b =
        let e = L.ends w in
        let some : 0 < length (drop (run s t).judged s) = rw length-drop (omega (arith, leb-false (length s) (run s t).judged b)) in
        rw (w, append-nil, log_stop (place + (run s t).judged) (drop (run s t).judged s) 1 L.place some e.0, e.1, add_assoc)
    go false true w b = absurd (omega (arith, L.more w, leb-true (length s) (run s t).judged b))
    go false false w b = rw w

on_finish : (f : Fed) → finish f ≡ completed f []
unfolding finish
on_finish (over r) = refl
on_finish (going s place t) = last-call place s t ∙ rw append-nil

on_all : (f : Fed) (pieces : List (List ℕ)) → finish (feed_all f pieces) ≡ completed f (joined pieces)
unfolding feed_all joined
on_all f [] = on_finish f
on_all f (piece ∷ pieces) = on_all (feed f piece) pieces ∙ on_feed f piece (joined pieces)

-- 02 (iii): "the tally must equal what the whole log's list of verdicts gives, however the input was cut", and so must the ending: for
-- every list of pieces, and every tally to begin with
pub however_cut : (t : Tally) (pieces : List (List ℕ)) → finish (feed_all (begun t) pieces) ≡ summary t (joined pieces)
unfolding summary
however_cut t pieces = on_all (begun t) pieces

-- with the last bytes a log has ended
pub ended-last : (place : ℕ) (s : List ℕ) (t : Tally) → (judge_log place true s t).ended ≡ true
unfolding judge_log
ended-last place s t = refl
