-- Worked areas: what is found in them, single appends and repairs, and lists of them.
-- Assumes nothing.
use Rattle.std.specs.Prelude.{ℕ, Bool, true, false, ◌&&◌, List, [], ◌∷◌, ◌++◌, eqb, take, drop}
use Rattle.model.specs.Worked.{same}
use Rattle.model.specs.Answers.{Stored}
use Rattle.log_model.specs.Worked.{small, lone, bad_name}
use Rattle.area_model.specs.Area.{finished_flag, Found, found}
use Rattle.area_model.specs.Changes.{Change, appends, repairs, change, area_after, flags_stored}
use Rattle.area_model.specs.Claim.{blank}

pub data Row : Type 0 where
  -- the records found in an area, how its log ends, and where the free room starts
  finds : (records : List (List ℕ)) (number place end : ℕ) (area : List ℕ) → Row
  -- a change of the area `from`: the answer's number, place and length, and the area afterwards
  makes : (number place stores : ℕ) (area : List ℕ) (x : Change) (from : List ℕ) → Row
  -- the records found after a list of changes of an area that was all `FF`, which are those whose flag was stored
  keeps : (records : List (List ℕ)) (size : ℕ) (xs : List Change) → Row

unfoldable pub same_lists : List (List ℕ) → List (List ℕ) → Bool
same_lists [] [] = true
same_lists [] (t ∷ ts) = false
same_lists (s ∷ ss) [] = false
same_lists (s ∷ ss) (t ∷ ts) = same s t && same_lists ss ts

unfoldable pub is_found : Found → (records : List (List ℕ)) (number place end : ℕ) → Bool
is_found f records number place end =
    same_lists f.records records && eqb f.ending.number number && eqb f.ending.place place && eqb f.end end

unfoldable pub is_stored : Stored → (number place stores : ℕ) (area : List ℕ) → Bool
is_stored s number place stores area =
    eqb s.answer.number number && eqb s.answer.place place && eqb s.answer.length stores && same s.buffer area

unfoldable pub holds : Row → Bool
holds (finds records number place end area) = is_found (found area) records number place end
holds (makes number place stores area x from) = is_stored (change x from) number place stores area
holds (keeps records size xs) = same_lists (found (area_after (blank size) xs)).records records && same_lists (flags_stored (blank size) xs) records

unfoldable pub worked : List Row → Bool
worked [] = true
worked (x ∷ xs) = holds x && worked xs

-- a finished frame
abbrev pub frame : List ℕ → List ℕ
frame w = finished_flag ∷ w

-- an unfinished frame: its flag is `FF` still, and behind it stand the first six bytes of 01's small record
abbrev pub cut_frame : List ℕ
cut_frame = 255 ∷ take 6 small

unfoldable pub areas : List Row
areas =
    -- of 0 bytes and of 1
    finds [] 0 0 0 []
    ∷ finds [] 0 0 0 (255 ∷ [])
    ∷ finds [] 1 1 0 (0 ∷ [])
    ∷ finds [] 9 0 0 (7 ∷ [])
    -- filled to its last byte
    ∷ finds (small ∷ []) 0 0 20 (frame small)
    -- both editions, and free room
    ∷ finds (small ∷ lone ∷ []) 0 0 34 (frame small ++ (frame lone ++ blank 3))
    -- what stands behind the flag that ends the log is not looked at
    ∷ finds (small ∷ []) 0 0 20 (frame small ++ (255 ∷ 0 ∷ small))
    -- another flag
    ∷ finds (small ∷ []) 9 20 20 (frame small ++ (1 ∷ small))
    ∷ finds (small ∷ []) 9 20 20 (frame small ++ (254 ∷ []))
    -- a finished frame whose record is refused: its place from the area's start
    ∷ finds (small ∷ []) 1 26 20 (frame small ++ frame (take 5 small))
    ∷ finds (small ∷ []) 2 21 20 (frame small ++ frame (128 ∷ 0 ∷ blank 4))
    ∷ finds (small ∷ []) 3 22 20 (frame small ++ frame (1 ∷ 5 ∷ small))
    ∷ finds (small ∷ []) 4 34 20 (frame small ++ frame (take 13 small ++ (1 ∷ small)))
    ∷ finds (small ∷ []) 23 39 20 (frame small ++ frame bad_name)
    ∷ []

unfoldable pub single_appends : List Row
single_appends =
    -- cut before the first store, after some, before the flag; not cut
    makes 0 0 0 (blank 24) (appends small 0) (blank 24)
    ∷ makes 0 0 6 (cut_frame ++ blank 17) (appends small 6) (blank 24)
    ∷ makes 0 0 19 (255 ∷ (small ++ blank 4)) (appends small 19) (blank 24)
    ∷ makes 0 0 20 (frame small ++ blank 4) (appends small 20) (blank 24)
    ∷ makes 0 0 20 (frame small ++ blank 4) (appends small 1000) (blank 24)
    -- behind other frames, to the area's last byte; bytes behind the new record are left aside
    ∷ makes 0 0 14 (frame small ++ frame lone) (appends (lone ++ small) 14) (frame small ++ blank 14)
    -- one byte too few
    ∷ makes 6 0 0 (frame small ++ blank 13) (appends lone 14) (frame small ++ blank 13)
    ∷ makes 6 0 0 [] (appends lone 14) []
    -- bytes of an unfinished frame
    ∷ makes 8 0 0 (cut_frame ++ blank 17) (appends small 20) (cut_frame ++ blank 17)
    ∷ makes 8 0 0 (frame small ++ (blank 20 ++ (0 ∷ []))) (appends lone 0) (frame small ++ (blank 20 ++ (0 ∷ [])))
    -- 6 comes before 8
    ∷ makes 6 0 0 (cut_frame ++ blank 12) (appends small 20) (cut_frame ++ blank 12)
    -- the new record's fault comes before both, its place in its own bytes
    ∷ makes 1 5 0 cut_frame (appends (take 5 small) 20) cut_frame
    ∷ makes 23 18 0 (blank 24) (appends bad_name 20) (blank 24)
    -- the log's fault comes before that
    ∷ makes 9 0 0 (7 ∷ blank 30) (appends (take 5 small) 20) (7 ∷ blank 30)
    ∷ makes 23 19 0 (frame bad_name ++ blank 30) (appends small 20) (frame bad_name ++ blank 30)
    ∷ []

unfoldable pub single_repairs : List Row
single_repairs =
    -- nothing to clear
    makes 0 0 0 (frame small ++ blank 4) (repairs 9) (frame small ++ blank 4)
    ∷ makes 0 0 0 [] (repairs 9) []
    -- six bytes, cut and not; bytes that are `FF` take no store
    ∷ makes 0 0 0 (cut_frame ++ blank 4) (repairs 0) (cut_frame ++ blank 4)
    ∷ makes 0 0 2 (blank 3 ++ (drop 2 (take 6 small) ++ blank 4)) (repairs 2) (cut_frame ++ blank 4)
    ∷ makes 0 0 6 (blank 11) (repairs 6) (cut_frame ++ blank 4)
    ∷ makes 0 0 1 (frame small ++ blank 9) (repairs 9) (frame small ++ (blank 8 ++ (0 ∷ [])))
    -- the log's own fault
    ∷ makes 9 20 0 (frame small ++ (1 ∷ small)) (repairs 30) (frame small ++ (1 ∷ small))
    ∷ makes 1 7 0 (0 ∷ take 6 small) (repairs 30) (0 ∷ take 6 small)
    ∷ []

unfoldable pub lists : List Row
lists =
    -- an append cut, its repair cut twice, the record again, another
    keeps (small ∷ lone ∷ []) 40 (appends small 9 ∷ repairs 3 ∷ appends small 99 ∷ repairs 1 ∷ repairs 99 ∷ appends small 20 ∷ appends lone 99 ∷ [])
    -- the flag was stored, or not
    ∷ keeps (lone ∷ []) 60 (appends lone 14 ∷ appends small 19 ∷ appends lone 99 ∷ [])
    -- a full area
    ∷ keeps (lone ∷ lone ∷ []) 28 (appends lone 99 ∷ appends lone 99 ∷ appends lone 99 ∷ repairs 99 ∷ [])
    ∷ keeps [] 1 (appends lone 99 ∷ repairs 99 ∷ [])
    ∷ []
