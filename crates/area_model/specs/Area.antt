-- An area: a log of records in a lent buffer (02 (v)). What is found in it, and what an append and a repair store.
-- Assumes nothing.
use Rattle.std.specs.Prelude.{ℕ, zero, suc, ◌+◌, Bool, cond, List, [], ◌∷◌, ◌++◌, eqb, leb, length, take, drop, set}
use Rattle.finite.specs.Lists.{every}
use Rattle.number.specs.Reader.{Out, stop, next}
use Rattle.model.specs.Case.{Case}
use Rattle.model.specs.Record.{read}
use Rattle.model.specs.Answers.{Stored, refusal, done}
use Rattle.log_model.specs.Log.{Ending, no_fault}

-- the byte `FF`: an area has nothing else at first, and as a flag it ends the log
abbrev pub unused : ℕ
unused = 255

-- the flag `00`
abbrev pub finished_flag : ℕ
finished_flag = 0

-- whether a byte is `FF`
abbrev pub is_unused : ℕ → Bool
is_unused b = eqb b unused

-- what stands at a place: a finished frame, whose record has so many bytes; or none, and how the log ends there
pub data Frame : Type 0 where
  finished : (size : ℕ) → Frame
  none : Ending → Frame

-- by what reading the bytes behind a frame's flag answers; "the log's places count from the area's start"
abbrev pub by_reading : (place : ℕ) → Out Case → Frame
by_reading place (stop x p) = none (record { number = x; place = place + 1 + p })
by_reading place (next c i) = finished i

-- another flag
abbrev pub bad_flag : (place : ℕ) → Ending
bad_flag place = record { number = 9; place = place }

-- the bytes from a place on: 02 (v): "A frame is a flag byte and a record; `FF` ends the log, `00` marks a finished frame, any other flag is refused
-- with 9 and its place"; "An area filled to its last byte also ends the log"
unfoldable pub frame_of : (place : ℕ) → List ℕ → Frame
frame_of place [] = none no_fault
frame_of place (flag ∷ s) =
    cond (is_unused flag) (none no_fault)
    (cond (eqb flag finished_flag) (by_reading place (read s)) (none (bad_flag place)))

-- what stands at a place of an area
abbrev pub frame_at : List ℕ → (place : ℕ) → Frame
frame_at area place = frame_of place (drop place area)

-- the records of the finished frames, how the log ends, and where the free room starts: behind the last finished frame
pub record Found : Type 0 where
  pub records : List (List ℕ)
  pub ending : Ending
  pub end : ℕ

-- no further frame
abbrev pub ends_at : (place : ℕ) → Ending → Found
ends_at place e = record { records = []; ending = e; end = place }

-- one more record in front
abbrev pub before : List ℕ → Found → Found
before w f = record { records = w ∷ f.records; ending = f.ending; end = f.end }

-- by the frame at the front of the bytes s; behind gives what is found from so many bytes on
abbrev pub following : (place : ℕ) → List ℕ → (behind : ℕ → Found) → Frame → Found
following place s behind (none e) = ends_at place e
following place s behind (finished i) = before (take i (drop 1 s)) (behind (suc i))

-- what is found in the bytes s, which begin at that place, by as much fuel as there are bytes, since no frame is empty
unfoldable pub found_by : (fuel place : ℕ) → List ℕ → Found
found_by zero place s = ends_at place no_fault
found_by (suc j) place s = following place s (λ i. found_by j (place + i) (drop i s)) (frame_of place s)

-- what is found in the bytes s
unfoldable pub found_from : (place : ℕ) → List ℕ → Found
found_from place s = found_by (length s) place s

-- what is found in an area
abbrev pub found : List ℕ → Found
found area = found_from 0 area

-- "stores one byte at a time": a place, and the byte that is stored there
pub record Store : Type 0 where
  pub at : ℕ
  pub byte : ℕ

-- an area after these stores, one after the other
unfoldable pub after_stores : List ℕ → List Store → List ℕ
after_stores area [] = area
after_stores area (x ∷ xs) = after_stores (set area x.at x.byte) xs

-- bytes stored from a place on, "front to back"
unfoldable pub storing : (place : ℕ) → List ℕ → List Store
storing place [] = []
storing place (b ∷ w) = record { at = place; byte = b } ∷ storing (suc place) w

-- the flag of a finished frame at that place
abbrev pub flagging : (place : ℕ) → List Store
flagging place = record { at = place; byte = finished_flag } ∷ []

-- a frame at that place: "record first and front to back, flag last"
unfoldable pub appending : (place : ℕ) → List ℕ → List Store
appending place w = storing (suc place) w ++ flagging place

-- the bytes s from a place on: "A repair fills everything behind the last finished frame with `FF`, front to back, a store for each byte
-- that isn't `FF`"
unfoldable pub clearing : (place : ℕ) → List ℕ → List Store
clearing place [] = []
clearing place (b ∷ s) =
    cond (is_unused b) (clearing (suc place) s) (record { at = place; byte = unused } ∷ clearing (suc place) s)

-- stores that are cut: "stops after as many stores as the caller allows. It answers 0 and the stores made, cut or not", as the answer's
-- length
unfoldable pub store_some : (allowed : ℕ) → List Store → List ℕ → Stored
store_some allowed xs area = let made = take allowed xs in record { answer = done (length made); buffer = after_stores area made }

-- a refusal leaves every byte
abbrev pub refuse : (number place : ℕ) → List ℕ → Stored
refuse number place area = record { answer = refusal number place; buffer = area }

-- "a log's own fault is its answer and then nothing changes"
abbrev pub unless_fault : Ending → List ℕ → Stored → Stored
unless_fault e area s = cond (eqb e.number 0) s (refuse e.number e.place area)

-- a new record w behind the log's end: "6, then 8 and nothing more if any byte behind the last finished frame isn't `FF`"
unfoldable pub append_at : (end allowed : ℕ) → (w area : List ℕ) → Stored
append_at end allowed w area =
    cond (leb (end + 1 + length w) (length area))
    (cond (every is_unused (drop end area)) (store_some allowed (appending end w) area) (refuse 8 0 area))
    (refuse 6 0 area)

-- by what reading the new record answers; its place counts from its own start, and bytes behind it are not looked at
abbrev pub append_read : (end allowed : ℕ) → (bytes area : List ℕ) → Out Case → Stored
append_read end allowed bytes area (stop x p) = refuse x p area
append_read end allowed bytes area (next c i) = append_at end allowed (take i bytes) area

-- "Append checks: the log's own faults (9, 1 to 4), the new record's, 6, then 8"; 23 stands with 1 to 4 (02 (xi))
unfoldable pub append : (area bytes : List ℕ) (allowed : ℕ) → Stored
append area bytes allowed =
    let f = found area in
    unless_fault f.ending area (append_read f.end allowed bytes area (read bytes))

-- the stores of a repair that is not cut
abbrev pub repairing : List ℕ → List Store
repairing area = let f = found area in clearing f.end (drop f.end area)

-- a repair, cut after as many stores as allowed
unfoldable pub repair : (area : List ℕ) (allowed : ℕ) → Stored
repair area allowed = unless_fault (found area).ending area (store_some allowed (repairing area) area)
