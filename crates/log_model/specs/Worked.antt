-- Worked logs: whole, cut anywhere, and full. A record's bytes stand a part to a line, as in `model`'s worked cases.
-- Assumes nothing.
use Rattle.std.specs.Prelude.{ℕ, ◌-◌, Bool, true, false, ◌&&◌, cond, List, [], ◌∷◌, ◌++◌, eqb, take, drop}
use Rattle.finite.specs.Tests.{all}
use Rattle.model.specs.Worked.{same}
use Rattle.tally.specs.declared.Tally.{Tally}
use Rattle.tally.specs.Tally.{zeros, most_count, counts}
use Rattle.log_model.specs.Log.{Summary, summary}
use Rattle.log_model.specs.Pieces.{Answer, judge_log, begun, feed, finish}

-- 02 (iii): "the ten counts in that order, then the ending refusal and its place"
unfoldable pub printed : Summary → List ℕ
printed r = counts r.tally ++ (r.ending.number ∷ r.ending.place ∷ [])

pub data Row : Type 0 where
  -- a whole log begun at zeros, and what is printed of it
  whole : (lines bytes : List ℕ) → Row
  -- the same however a log of fewer than size bytes is cut in two
  cut : (size : ℕ) (lines bytes : List ℕ) → Row
  -- a whole log begun with another tally
  from : (tally : Tally) (lines bytes : List ℕ) → Row
  -- one call: whether the log has ended, the ending, the bytes judged
  call : (from : ℕ) (last ended : Bool) (number place judged : ℕ) (bytes : List ℕ) → Row

abbrev pub is_same : Bool → Bool → Bool
is_same a b = cond a b (cond b false true)

unfoldable pub answered : Answer → (ended : Bool) (number place judged : ℕ) → Bool
answered a ended number place judged =
    is_same a.ended ended && eqb a.ending.number number && eqb a.ending.place place && eqb a.judged judged

unfoldable pub holds : Row → Bool
holds (whole lines s) = same (printed (summary zeros s)) lines
holds (cut size lines s) = all size (λ i. same (printed (finish (feed (feed (begun zeros) (take i s)) (drop i s)))) lines)
holds (from t lines s) = same (printed (summary t s)) lines
holds (call place last ended number p judged s) = answered (judge_log place last s zeros) ended number p judged

unfoldable pub worked : List Row → Bool
worked [] = true
worked (x ∷ xs) = holds x && worked xs

-- 01's small record, accepted: 19 bytes
abbrev pub small : List ℕ
small =
    1 ∷ 1 ∷ 1 ∷ 0 ∷
    2 ∷ 1 ∷ 0 ∷ 0 ∷ 1 ∷ 0 ∷ 0 ∷ 0 ∷ 1 ∷
    0 ∷
    1 ∷ 0 ∷ 1 ∷
    1 ∷ 97 ∷ []

-- the same with a load of 0: rule 16
abbrev pub breaks16 : List ℕ
breaks16 =
    1 ∷ 1 ∷ 1 ∷ 0 ∷
    2 ∷ 1 ∷ 0 ∷ 0 ∷ 1 ∷ 0 ∷ 0 ∷ 0 ∷ 0 ∷
    0 ∷
    1 ∷ 0 ∷ 1 ∷
    1 ∷ 97 ∷ []

-- a load that holds no initial value and has no store before it: rule 15; edition 2, 13 bytes
abbrev pub lone : List ℕ
lone =
    2 ∷ 2 ∷ 1 ∷ 0 ∷
    1 ∷ 0 ∷ 0 ∷ 0 ∷ 2 ∷
    0 ∷
    0 ∷ 0 ∷
    0 ∷ []

-- thread 1 sees its store before a load of 0: accepted under PPCw, rule 16 under PPCs
abbrev pub strong16 : List ℕ
strong16 =
    1 ∷ 2 ∷ 1 ∷ 0 ∷
    2 ∷ 0 ∷ 0 ∷ 0 ∷ 0 ∷ 1 ∷ 1 ∷ 0 ∷ 1 ∷
    1 ∷
    0 ∷ 1 ∷ 1 ∷ 0 ∷
    0 ∷ []

-- events but no order: rule 12
abbrev pub breaks12 : List ℕ
breaks12 =
    1 ∷ 1 ∷ 1 ∷ 0 ∷
    2 ∷ 1 ∷ 0 ∷ 0 ∷ 1 ∷ 0 ∷ 0 ∷ 0 ∷ 1 ∷
    0 ∷
    0 ∷
    0 ∷ []

-- the small record with a name's byte that is not printable, at 18
abbrev pub bad_name : List ℕ
bad_name =
    1 ∷ 1 ∷ 1 ∷ 0 ∷
    2 ∷ 1 ∷ 0 ∷ 0 ∷ 1 ∷ 0 ∷ 0 ∷ 0 ∷ 1 ∷
    0 ∷
    1 ∷ 0 ∷ 1 ∷
    1 ∷ 10 ∷ []

-- a tally of so many records, all of which broke rule 12
abbrev pub many12 : ℕ → Tally
many12 i = record { records = i; accepted = 0; broken = 0 ∷ i ∷ 0 ∷ 0 ∷ 0 ∷ 0 ∷ 0 ∷ 0 ∷ [] }

unfoldable pub whole_logs : List Row
whole_logs =
    -- an empty log prints twelve lines of 0
    whole (0 ∷ 0 ∷ 0 ∷ 0 ∷ 0 ∷ 0 ∷ 0 ∷ 0 ∷ 0 ∷ 0 ∷ 0 ∷ 0 ∷ []) []
    -- both editions back to back, and an end between records
    ∷ whole (5 ∷ 2 ∷ 0 ∷ 1 ∷ 0 ∷ 0 ∷ 1 ∷ 1 ∷ 0 ∷ 0 ∷ 0 ∷ 0 ∷ []) (small ++ (breaks16 ++ (lone ++ (small ++ breaks12))))
    -- under PPCs
    ∷ whole (2 ∷ 1 ∷ 0 ∷ 0 ∷ 0 ∷ 0 ∷ 0 ∷ 1 ∷ 0 ∷ 0 ∷ 0 ∷ 0 ∷ []) (strong16 ++ small)
    -- each refusal ends the log, at its place from the log's start, whatever lies behind it
    ∷ whole (2 ∷ 1 ∷ 0 ∷ 0 ∷ 0 ∷ 0 ∷ 0 ∷ 1 ∷ 0 ∷ 0 ∷ 1 ∷ 43 ∷ []) (small ++ (breaks16 ++ take 5 small))
    ∷ whole (1 ∷ 1 ∷ 0 ∷ 0 ∷ 0 ∷ 0 ∷ 0 ∷ 0 ∷ 0 ∷ 0 ∷ 2 ∷ 19 ∷ []) (small ++ (128 ∷ 0 ∷ small))
    ∷ whole (1 ∷ 1 ∷ 0 ∷ 0 ∷ 0 ∷ 0 ∷ 0 ∷ 0 ∷ 0 ∷ 0 ∷ 3 ∷ 20 ∷ []) (small ++ (1 ∷ 5 ∷ small))
    ∷ whole (1 ∷ 1 ∷ 0 ∷ 0 ∷ 0 ∷ 0 ∷ 0 ∷ 0 ∷ 0 ∷ 0 ∷ 4 ∷ 32 ∷ []) (small ++ (take 13 small ++ (1 ∷ small)))
    ∷ whole (1 ∷ 0 ∷ 0 ∷ 0 ∷ 0 ∷ 0 ∷ 0 ∷ 1 ∷ 0 ∷ 0 ∷ 23 ∷ 37 ∷ []) (breaks16 ++ (bad_name ++ small))
    ∷ []

unfoldable pub cut_logs : List Row
cut_logs =
    cut 39 (2 ∷ 1 ∷ 0 ∷ 0 ∷ 0 ∷ 0 ∷ 0 ∷ 1 ∷ 0 ∷ 0 ∷ 0 ∷ 0 ∷ []) (small ++ breaks16)
    ∷ cut 33 (1 ∷ 1 ∷ 0 ∷ 0 ∷ 0 ∷ 0 ∷ 0 ∷ 0 ∷ 0 ∷ 0 ∷ 1 ∷ 32 ∷ []) (small ++ take 13 small)
    ∷ cut 40 (1 ∷ 0 ∷ 0 ∷ 0 ∷ 0 ∷ 0 ∷ 0 ∷ 1 ∷ 0 ∷ 0 ∷ 23 ∷ 37 ∷ []) (breaks16 ++ bad_name)
    ∷ []

unfoldable pub full_tallies : List Row
full_tallies =
    -- the last record that can be counted
    from (many12 (most_count - 1)) (most_count ∷ 1 ∷ 0 ∷ (most_count - 1) ∷ 0 ∷ 0 ∷ 0 ∷ 0 ∷ 0 ∷ 0 ∷ 0 ∷ 0 ∷ []) small
    -- no count grows past its most: 6, place 0, the tally stays, and the record behind is not judged
    ∷ from (many12 most_count) (most_count ∷ 0 ∷ 0 ∷ most_count ∷ 0 ∷ 0 ∷ 0 ∷ 0 ∷ 0 ∷ 0 ∷ 6 ∷ 0 ∷ []) (small ++ small)
    ∷ from (record { records = 7; accepted = 0; broken = 0 ∷ most_count ∷ 0 ∷ 0 ∷ 0 ∷ 0 ∷ 0 ∷ 0 ∷ [] })
    (8 ∷ 1 ∷ 0 ∷ most_count ∷ 0 ∷ 0 ∷ 0 ∷ 0 ∷ 0 ∷ 0 ∷ 6 ∷ 0 ∷ []) (small ++ (breaks12 ++ small))
    ∷ from (record { records = 7; accepted = most_count; broken = 0 ∷ 0 ∷ 0 ∷ 0 ∷ 0 ∷ 0 ∷ 0 ∷ 0 ∷ [] })
    (8 ∷ most_count ∷ 0 ∷ 1 ∷ 0 ∷ 0 ∷ 0 ∷ 0 ∷ 0 ∷ 0 ∷ 6 ∷ 0 ∷ []) (breaks12 ++ small)
    ∷ []

unfoldable pub calls : List Row
calls =
    -- a record that is not complete waits for further bytes; with the last ones it is refused
    call 100 false false 0 0 19 (small ++ take 5 small)
    ∷ call 100 true true 1 124 19 (small ++ take 5 small)
    -- an end between records
    ∷ call 100 false false 0 0 19 small
    ∷ call 100 true true 0 0 19 small
    ∷ call 100 true true 0 0 0 []
    -- refused otherwise: the log has ended, whatever may come
    ∷ call 100 false true 23 137 19 (small ++ (bad_name ++ small))
    ∷ []
