-- A turn of the program feeds the log a further piece, and the log that it comes to is that of all pieces.
-- Assumes nothing.
use Prim.Native.Nat.{ℕ, zero, suc, ◌+◌, ◌-◌, ◌*◌, ◌^◌, ◌≤◌, ◌<◌}
use native.Mathlib.Omega.{arith}
use native.Mathlib.Nat.{mod-eq_of_lt, sub-zero}
use mathlib.Core.Path.{◌≡◌, refl, sym, ap, subst, ◌∙◌}
use mathlib.Core.Bool.{Bool, true, false, cond, ◌||◌, true≢false}
use mathlib.Core.List.{List, [], ◌∷◌, ◌++◌, append_assoc, append-nil}
use lib.Dec.{leb, ltb}
use lib.ListN.{length, take, drop, take-append-drop}
use lib.Seq.{length-take-le, take-take, take-nil, drop-append-le}
use borrow.Author.Tests.{ltb-false, lt-leb}
use Rattle.finite.proofs.All.{all-front}
use Rattle.model.specs.Limits.{most_edition}
use Rattle.model.specs.Bound.{most_bytes}
use Rattle.reader.proofs.Bytes.{Octets, slice_bytes}
use Rattle.tally.specs.Tally.{zeros}
use Rattle.log_model.specs.Log.{log_from, Summary, log_tallied, summary}
use Rattle.log_model.specs.Pieces.{Answer, judge_log, Fed, going, over, following, completed, joined}
use Rattle.log_model.proofs.Cut.{on_call, last-call, ended-last}
use Rattle.log_model.specs.Claim.{Placed}
use Rattle.log_model.proofs.Kept.{placed-call, place-fits, ending-within, judged-within}
use Rattle.log_pieces.specs.declared.JudgedLog.{JudgedLog}
use Rattle.log_pieces.specs.Shown.{judged_shown, PartJudged}
use Rattle.stream.specs.declared.Got.{Got}
use Rattle.stream.specs.Kept.{kept, ReadOn}
use Rattle.std.specs.Prelude.{Result, Ok, Err}
use Rattle.std.specs.declared.io.Error.{Error}
use Rattle.judge_log.specs.declared.input.Progress.{Progress}
use Rattle.judge_log.specs.declared.input.Outcome.{Outcome}
use Rattle.judge_log.specs.declared.input.State.{State}
use Rattle.judge_log.specs.declared.input.State.TheVariants.{Going, Over}
use Rattle.judge_log.specs.Progress.{Room, begun, after, held_on, is_due, JudgedHeld, AfterRead, unreadable, judging, keeping, Ready, Stepped, Reached, first, next, Finished, summary_of, WholeLog}

-- ---- states

-- the progress of a log that goes on, and the state that is there
abbrev progress_or : Progress → State → Progress
progress_or p (Going q) = q
progress_or p (Over o) = p

abbrev goes_on : State → Bool
goes_on (Going q) = true
goes_on (Over o) = false

abbrev state_or : State → Result State Error → State
state_or s (Ok x) = x
state_or s (Err e) = s

abbrev was_read : Result State Error → Bool
was_read (Ok x) = true
was_read (Err e) = false

-- ---- the call

pub prefix_long : (n : ℕ) (b : List ℕ) → n ≤ length b → n ≡ length (take n b)
prefix_long n b l = sym (length-take-le n b l)

module _ (have : ℕ) (b : List ℕ) (R : Room (length b)) (l : have ≤ length b) (octets : Octets b) (p : Progress) (P : Placed p.place p.tally) (final : Bool)
    (r : JudgedLog) (J : PartJudged p.place final (take have b) p.tally r) where
  abbrev front : List ℕ
  front = take J.upto b

  long : length (take have b) ≡ have
  long = length-take-le have b l

  within : J.upto ≤ have
  within = omega (arith, J.within, long)

  front_long : length front ≡ J.upto
  front_long = length-take-le J.upto b (omega (arith, within))

  abbrev call : Answer
  call = judge_log p.place final front p.tally

  is_call : r ≡ judged_shown call
  is_call = J.same ∙ ap (λ (s : List ℕ). judged_shown (judge_log p.place final s p.tally)) (take-take J.upto have b within)

  -- no place goes past 64 bits
  pub place-sum : p.place + r.answer.length < 2 ^ 64
  place-sum = rw is_call (omega (arith, place-fits (p.place + call.judged) call.tally (placed-call p.place final front p.tally P)))

  -- what was judged is no more than there was
  pub length-within : r.answer.length ≤ have
  length-within = rw is_call (omega (arith, judged-within p.place final front p.tally, front_long, within))

  end-small : call.ending.place < 2 ^ 64
  end-small =
      let h : call.ending.place ≤ p.place + length front = ending-within front (all-front _ front (drop J.upto b) (rw take-append-drop (slice_bytes b octets))) p.place final p.tally in
      omega (arith, place-fits p.place p.tally P, R.most, front_long, within)

  is_over : r.answer.ended ≡ true → Over (record { tally = r.tally; number = r.answer.number; place = r.answer.place }) ≡ after p.place have call
  unfolding after
  is_over e = let y : call.ended ≡ true = rw is_call at e in rw (is_call, mod-eq_of_lt end-small, y)

  is_going : r.answer.ended ≡ false
      → Going (record { at = r.answer.length; have = have; place = p.place + r.answer.length; tally = r.tally; due = 2 * (have - r.answer.length) }) ≡ after p.place have call
  unfolding after
  is_going e = let n : call.ended ≡ false = rw is_call at e in rw (is_call, n)

  pub judged-over : r.answer.ended ≡ true → JudgedHeld b have final p (Over (record { tally = r.tally; number = r.answer.number; place = r.answer.place }))
  judged-over e = record {
    upto = J.upto;
    within = within;
    whole = λ h. J.whole h ∙ long;
    same = is_over e;
    few = λ q h. absurd (true≢false (sym (ap goes_on h)));
  }

  pub judged-going : r.answer.ended ≡ false
      → JudgedHeld b have final p (Going (record { at = r.answer.length; have = have; place = p.place + r.answer.length; tally = r.tally; due = 2 * (have - r.answer.length) }))
  judged-going e = record {
    upto = J.upto;
    within = within;
    whole = λ h. J.whole h ∙ long;
    same = is_going e;
    few = λ q h.
        let l : r.answer.length ≡ q.at = ap (λ (s : State). (progress_or p s).at) h in
        omega (arith, J.few e, long, l);
  }

-- ---- a turn

-- the bytes up to n, from i on
drop-take : (i n : ℕ) (s : List ℕ) → drop i (take n s) ≡ take (n - i) (drop i s)
drop-take zero n s = rw sub-zero
drop-take (suc i) zero s = let z : zero - suc i ≡ 0 = omega arith in rw z
drop-take (suc i) (suc n) [] = sym (take-nil (suc n - suc i))
drop-take (suc i) (suc n) (x ∷ s) = let k : n - i ≡ suc n - suc i = omega arith in drop-take i n s ∙ rw k

-- neither of two tests passes
or_r-false : (x y : Bool) → (x || y) ≡ false → y ≡ false
or_r-false true y h = absurd (true≢false h)
or_r-false false y h = h

-- from f to f' by a further piece: whatever is to come, the log comes to the same as with the piece before it; or by the last one
data Then (f f' : Fed) : Type 0 where
  more : (piece : List ℕ) → ((rest : List ℕ) → completed f' rest ≡ completed f (piece ++ rest)) → Then f f'
  last : (piece : List ℕ) → f' ≡ over (completed f piece) → Then f f'

-- the log as far as it was read, of which the buffer b holds what is kept
unfoldable fed_of : List ℕ → State → Fed
fed_of b (Going p) = going (kept b p.at p.have) p.place p.tally
fed_of b (Over o) = over (summary_of o)

-- what is ready for the next read, where there is one
abbrev ready_of : List ℕ → State → Type 0
ready_of b (Going p) = Ready b p
ready_of b (Over o) = Unit {0}

-- what one turn keeps
record Onward (b : List ℕ) (p : Progress) (b' : List ℕ) (r : State) : Type 0 where
  fed : Then (fed_of b (Going p)) (fed_of b' r)
  ready : ready_of b' r

module _ (b : List ℕ) (p : Progress) (P : Ready b p) (b' : List ℕ) (got : Got) (R : ReadOn b p.at p.have b' (Ok got)) where
  abbrev have : ℕ
  have = got.have

  -- what was kept, and what was read behind it
  abbrev held : List ℕ
  held = kept b p.at p.have

  abbrev piece : List ℕ
  piece = drop (p.have - p.at) (take have b')

  both : take have b' ≡ held ++ piece
  both =
      sym (take-append-drop (p.have - p.at) (take have b'))
      ∙ ap (λ (x : List ℕ). x ++ piece) (take-take (p.have - p.at) have b' R.got.more ∙ R.front)

  room : have ≤ length b'
  room = omega (arith, R.got.inside, R.room)

  abbrev whole : List ℕ → Summary
  whole rest = log_tallied p.tally (log_from p.place rest)

  before : (rest : List ℕ) → completed (fed_of b (Going p)) rest ≡ whole (held ++ rest)
  unfolding fed_of
  before rest = refl

  -- what was kept and read, with the rest behind it
  behind : (rest : List ℕ) → whole (take have b' ++ rest) ≡ completed (fed_of b (Going p)) (piece ++ rest)
  behind rest = ap (λ (s : List ℕ). whole (s ++ rest)) both ∙ ap whole (append_assoc held piece rest) ∙ sym (before (piece ++ rest))

  after-held : (rest : List ℕ) → completed (fed_of b' (Going (held_on have p))) rest ≡ whole (take have b' ++ rest)
  unfolding fed_of
  after-held rest = rw sub-zero

  -- more bytes are kept
  turn_held : is_due got.ended have p.due ≡ false → Onward b p b' (Going (held_on have p))
  turn_held n = record {
    fed = more piece (λ rest. after-held rest ∙ behind rest);
    ready = record {
      held = record { from = omega arith; inside = room };
      few = omega (arith, ltb-false (most_bytes most_edition) have (or_r-false (leb p.due have) (ltb (most_bytes most_edition) have) (or_r-false got.ended (leb p.due have || ltb (most_bytes most_edition) have) n)));
      placed = P.placed;
    };
  }

  module _ (r : State) (H : JudgedHeld b' have got.ended p r) where
    abbrev taken : List ℕ
    taken = take H.upto b'

    -- the bytes that were left for later
    abbrev later : List ℕ
    later = drop H.upto (take have b')

    parts : take have b' ≡ taken ++ later
    parts = sym (take-append-drop H.upto (take have b')) ∙ ap (λ (s : List ℕ). s ++ later) (take-take H.upto have b' H.within)

    abbrev answer : Answer
    answer = judge_log p.place got.ended taken p.tally

    inside : answer.judged ≤ length taken
    inside = judged-within p.place got.ended taken p.tally

    -- what is left of the bytes that were judged, and those for later
    left : kept b' answer.judged have ≡ drop answer.judged taken ++ later
    left = sym (drop-take answer.judged have b') ∙ ap (drop answer.judged) parts ∙ drop-append-le answer.judged taken later inside

    -- the state behind the call, where the log has ended or goes on
    abbrev over_then : Outcome
    over_then = record { tally = answer.tally; number = answer.ending.number; place = answer.ending.place }

    abbrev going_then : Progress
    going_then = record { at = answer.judged; have = have; place = p.place + answer.judged; tally = answer.tally; due = 2 * (have - answer.judged) }

    after-following : (rest : List ℕ) → completed (fed_of b' (after p.place have answer)) rest ≡ completed (following p.place taken answer) (later ++ rest)
    unfolding fed_of after
    after-following rest = go answer.ended
      where
        go : (y : Bool)
            → completed (fed_of b' (cond y (Over over_then) (Going going_then))) rest
            ≡ completed (cond y (over (record { tally = answer.tally; ending = answer.ending })) (going (drop answer.judged taken) (p.place + answer.judged) answer.tally)) (later ++ rest)
        go true = refl
        go false = ap (λ (s : List ℕ). log_tallied answer.tally (log_from (p.place + answer.judged) s)) (ap (λ (s : List ℕ). s ++ rest) left ∙ append_assoc (drop answer.judged taken) later rest)

    joined_again : (rest : List ℕ) → whole (taken ++ (later ++ rest)) ≡ whole (take have b' ++ rest)
    joined_again rest = ap whole (sym (append_assoc taken later rest) ∙ ap (λ (s : List ℕ). s ++ rest) (sym parts))

    -- in the middle of the log
    following_on : got.ended ≡ false → (rest : List ℕ) → completed (following p.place taken answer) rest ≡ whole (taken ++ rest)
    following_on n rest = rw n (on_call p.place taken rest p.tally)

    fed_more : got.ended ≡ false → Then (fed_of b (Going p)) (fed_of b' r)
    fed_more n = more piece (λ rest. rw H.same (after-following rest ∙ following_on n (later ++ rest) ∙ joined_again rest ∙ behind rest))

    -- at its end
    fed_last : got.ended ≡ true → Then (fed_of b (Going p)) (fed_of b' r)
    unfolding fed_of after
    fed_last y = last piece (rw (H.same, y, ended-last p.place taken p.tally) (ap over (last-call p.place taken p.tally ∙ ap whole (all ∙ sym (append-nil (take have b'))) ∙ behind [] ∙ ap (λ (s : List ℕ). completed (fed_of b (Going p)) s) (append-nil piece))))
      where
        all : taken ≡ take have b'
        all = ap (λ (i : ℕ). take i b') (H.whole y)

    fed_on : (y : Bool) → got.ended ≡ y → Then (fed_of b (Going p)) (fed_of b' r)
    fed_on true y = fed_last y
    fed_on false n = fed_more n

    ready_on : ready_of b' r
    ready_on = rw H.same (unfold after in go answer.ended refl)
      where
        go : (y : Bool) → answer.ended ≡ y → ready_of b' (cond y (Over over_then) (Going going_then))
        go true e = tt
        go false e = record {
          held = record { from = omega (arith, inside, length-take-le H.upto b' (omega (arith, H.within, room)), H.within); inside = room };
          few = H.few going_then (H.same ∙ (unfold after in rw e));
          placed = placed-call p.place got.ended taken p.tally P.placed;
        }

    turn_judged : Onward b p b' r
    turn_judged = record { fed = fed_on got.ended refl; ready = ready_on }

turn : (b : List ℕ) (p : Progress) → Ready b p → (b' : List ℕ) (got : Result Got Error) → ReadOn b p.at p.have b' got → (r : Result State Error) → AfterRead b' got p r
    → (s : State) → r ≡ Ok s → Onward b p b' s
turn b p P b' got R r (unreadable e f h) s k = absurd (true≢false (ap was_read (sym k ∙ h)))
turn b p P b' got R r (judging g x f d H h) s k =
    subst (Onward b p b') (ap (state_or x) (sym h ∙ k)) (turn_judged b p P b' g (subst (ReadOn b p.at p.have b') f R) x H)
turn b p P b' got R r (keeping g f n h) s k =
    subst (Onward b p b') (ap (state_or s) (sym h ∙ k)) (turn_held b p P b' g (subst (ReadOn b p.at p.have b') f R) n)

-- ---- the log

-- f comes to what the pieces and the rest make together
record Made (f : Fed) : Type 0 where
  pieces : List (List ℕ)
  same : (rest : List ℕ) → completed f rest ≡ summary zeros (joined pieces ++ rest)

joined-last : (pieces : List (List ℕ)) (piece rest : List ℕ) → joined (pieces ++ (piece ∷ [])) ++ rest ≡ joined pieces ++ (piece ++ rest)
unfolding joined
joined-last [] piece rest = ap (λ (s : List ℕ). s ++ rest) (append-nil piece)
joined-last (x ∷ pieces) piece rest =
    append_assoc x (joined (pieces ++ (piece ∷ []))) rest ∙ ap (λ (s : List ℕ). x ++ s) (joined-last pieces piece rest)
    ∙ sym (append_assoc x (joined pieces) (piece ++ rest))

-- a log that goes on has no summary yet, and one that has ended is its summary
still_going : (b : List ℕ) (p : Progress) (r : Summary) → fed_of b (Going p) ≡ over r → ⊥
unfolding fed_of
still_going b p r e = let z : ◌≡◌ {A = ℕ} 0 1 = clash e in omega arith
  where
    clash : going (kept b p.at p.have) p.place p.tally ≡ over r → ◌≡◌ {A = ℕ} 0 1
    clash e = cc

over_is : (b : List ℕ) (o : Outcome) (rest : List ℕ) → completed (fed_of b (Over o)) rest ≡ summary_of o
unfolding fed_of
over_is b o rest = refl

-- what is made of the log
abbrev made_of : List ℕ → State → Type 0
made_of b (Going p) = Made (fed_of b (Going p))
made_of b (Over o) = WholeLog o

-- what holds after any reads
record Running (b : List ℕ) (s : State) : Type 0 where
  room : Room (length b)
  made : made_of b s
  ready : ready_of b s

running_first : (b : List ℕ) → Room (length b) → Running b (Going begun)
unfolding fed_of summary
running_first b R = record {
  room = R;
  made = record { pieces = []; same = λ rest. unfold joined in refl };
  ready = record {
    held = record { from = omega arith; inside = omega arith };
    few = omega arith;
    placed = record { few = omega arith; most = omega arith };
  };
}

module _ (b : List ℕ) (p : Progress) (N : Running b (Going p)) (b' : List ℕ) where
  F : Made (fed_of b (Going p))
  F = N.made

  -- the pieces with one more
  on_more : (piece rest : List ℕ) → completed (fed_of b (Going p)) (piece ++ rest) ≡ summary zeros (joined (F.pieces ++ (piece ∷ [])) ++ rest)
  on_more piece rest = F.same (piece ++ rest) ∙ ap (summary zeros) (sym (joined-last F.pieces piece rest))

  none : (s : List ℕ) → summary zeros (s ++ []) ≡ summary zeros s
  none s = ap (summary zeros) (append-nil s)

  made_on : (r : State) → Then (fed_of b (Going p)) (fed_of b' r) → made_of b' r
  made_on (Going q) (more piece e) = record { pieces = F.pieces ++ (piece ∷ []); same = λ rest. e rest ∙ on_more piece rest }
  made_on (Going q) (last piece e) = absurd (still_going b' q (completed (fed_of b (Going p)) piece) e)
  made_on (Over o) (more piece e) = record { pieces = F.pieces ++ (piece ∷ []); same = sym (over_is b' o []) ∙ e [] ∙ on_more piece [] ∙ none _ }
  made_on (Over o) (last piece e) = record {
    pieces = F.pieces ++ (piece ∷ []);
    same =
        sym (over_is b' o []) ∙ ap (λ (f : Fed). completed f []) e
        ∙ ap (λ (s : List ℕ). completed (fed_of b (Going p)) s) (sym (append-nil piece)) ∙ on_more piece [] ∙ none _;
  }

  running_on : (r : State) → Onward b p b' r → length b' ≡ length b → Running b' r
  running_on r o l = record { room = rw l N.room; made = made_on r o.fed; ready = o.ready }

running : {b : List ℕ} {r : Result State Error} → Reached b r → (s : State) → r ≡ Ok s → Running b s
running (first b R) s e = subst (Running b) (ap (state_or s) e) (running_first b R)
running (next {b} {b'} {p} {r} h S) s e =
    let N : Running b (Going p) = running h (Going p) refl in
    running_on b p N b' s (turn b p N.ready b' S.got S.read r S.after_read s e) S.read.room

-- ---- the loop

pub reached-first : (b : List ℕ) → Room (length b) → (p : Progress) → p ≡ begun → Reached b (Ok (Going p))
reached-first b R p e = rw e (first b R)

module _ (b : List ℕ) (s : State) (p : Progress) (N : Reached b (Ok s)) (e : s ≡ Going p) where
  on : Reached b (Ok (Going p))
  on = subst (λ (x : State). Reached b (Ok x)) e N

  pub reached-room : Room (length b)
  reached-room = (running on (Going p) refl).room

  pub reached_ready : Ready b p
  reached_ready = (running on (Going p) refl).ready

  module _ (b' : List ℕ) (r : Result State Error) (S : Stepped b p b' r) where
    pub reached_on : (x : State) → r ≡ Ok x → Reached b' (Ok x)
    reached_on x h = subst (Reached b') h (next on S)

    pub reached_error : (x : Error) → r ≡ Err x → Finished (Err x)
    reached_error x h = record { buffer = b'; reached = subst (Reached b') h (next on S) }

pub finished : (r : Result State Error) → Finished r → (s : State) → r ≡ Ok s → (o : Outcome) → s ≡ Over o → WholeLog o
finished r f s e o h = (running f.reached (Over o) (e ∙ ap (λ (x : State). Ok x) h)).made

-- ---- what a read comes to

pub due_late : (ended : Bool) (have due most : ℕ) → most ≡ most_bytes most_edition → ended ≡ false → have < due → ltb most have ≡ is_due ended have due
due_late ended have due most e n l = rw (n, lt-leb due have l, e)
