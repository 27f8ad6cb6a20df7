-- Worked records: representatives, and the lesser of two. A record's bytes stand a part to a line, as in `model`'s worked cases.
-- Assumes nothing.
use Rattle.std.specs.Prelude.{ℕ, Bool, true, ◌&&◌, List, [], ◌∷◌, ◌++◌, eqb}
use Rattle.model.specs.Case.{Case}
use Rattle.model.specs.Answers.{Answer, refusal, done, answer_of}
use Rattle.model.specs.Worked.{lent, one, linked, link, store_named, same, same_answer, same_stored, bytes_of}
use Rattle.classes.specs.Representative.{representative_record, representative_case, choice, lesser}

pub data Row : Type 0 where
  -- a record's representative, into a buffer
  represented : (at : ℕ) (answer : Answer) (bytes buffer after : List ℕ) → Row
  -- a case's representative, which has the record bytes
  represented_case : (c : Case) (answer : Answer) (bytes : List ℕ) → Row
  -- the lesser of two records: which of them, how many bytes, and its bytes
  compared : (which length : ℕ) (part first second : List ℕ) → Row

unfoldable pub holds : Row → Bool
holds (represented at a s buffer after) = same_stored (representative_record s buffer at) a after
holds (represented_case c a s) = same_answer (answer_of (representative_case c)) a && same (bytes_of (representative_case c)) s
holds (compared which length part s t) = eqb (choice s t).which which && eqb (choice s t).length length && same (lesser s t) part

unfoldable pub worked : List Row → Bool
worked [] = true
worked (x ∷ xs) = holds x && worked xs

-- thread 1 stores 1 at address 1, thread 0 loads it, and thread 0's order has the pair
abbrev pub swapped : List ℕ
swapped =
    1 ∷ 2 ∷ 2 ∷ 5 ∷ 0 ∷
    2 ∷ 1 ∷ 1 ∷ 1 ∷ 1 ∷ 0 ∷ 0 ∷ 1 ∷ 1 ∷
    0 ∷
    1 ∷ 0 ∷ 1 ∷ 0 ∷
    1 ∷ 97 ∷ []

-- its representative: the initial value 0 first, then the storing thread
abbrev pub named : List ℕ
named =
    1 ∷ 2 ∷ 2 ∷ 0 ∷ 5 ∷
    2 ∷ 1 ∷ 0 ∷ 0 ∷ 1 ∷ 0 ∷ 1 ∷ 0 ∷ 1 ∷
    0 ∷
    0 ∷ 1 ∷ 0 ∷ 1 ∷
    1 ∷ 97 ∷ []

unfoldable pub record_rows : List Row
record_rows =
    -- Threads and addresses swapped; bytes behind the record are left aside, bytes behind what is written stay
    represented 0 (done 21) (swapped ++ (9 ∷ [])) (lent 22) (named ++ (21 ∷ []))
    -- Taken twice, from place 1 on
    ∷ represented 1 (done 21) (named ++ (0 ∷ [])) (lent 22) (0 ∷ named)
    -- One byte of room too few, and a place past the end
    ∷ represented 0 (refusal 6 0) swapped (lent 20) (lent 20)
    ∷ represented 30 (refusal 6 0) swapped (lent 29) (lent 29)
    -- A record that ends inside its name; 0 threads; a name's byte that is not printable: before there is any talk of room
    ∷ represented 0 (refusal 1 7) (1 ∷ 1 ∷ 1 ∷ 0 ∷ 0 ∷ 0 ∷ 1 ∷ []) [] []
    ∷ represented 0 (refusal 3 1) (1 ∷ 0 ∷ []) [] []
    ∷ represented 0 (refusal 23 7) (1 ∷ 1 ∷ 1 ∷ 0 ∷ 0 ∷ 0 ∷ 1 ∷ 31 ∷ []) [] []
    -- Byte by byte, not number by number: 256 is 128 2, and 129 is 129 1
    ∷ represented 0 (done 10)
    (1 ∷ 1 ∷ 2 ∷ 129 ∷ 1 ∷ 128 ∷ 2 ∷
    0 ∷
    0 ∷
    0 ∷ [])
    (lent 10)
    (1 ∷ 1 ∷ 2 ∷ 128 ∷ 2 ∷ 129 ∷ 1 ∷
    0 ∷
    0 ∷
    0 ∷ [])
    -- Equal initial values: the address that is loaded first comes first
    ∷ represented 0 (done 12)
    (1 ∷ 1 ∷ 2 ∷ 7 ∷ 7 ∷
    1 ∷ 0 ∷ 0 ∷ 1 ∷ 7 ∷
    0 ∷
    0 ∷ [])
    (lent 12)
    (1 ∷ 1 ∷ 2 ∷ 7 ∷ 7 ∷
    1 ∷ 0 ∷ 0 ∷ 0 ∷ 7 ∷
    0 ∷
    0 ∷ [])
    -- Two threads without events: the orders decide, 0 1 before 1 0
    ∷ represented 0 (done 23)
    (1 ∷ 3 ∷ 1 ∷ 0 ∷
    2 ∷ 1 ∷ 2 ∷ 0 ∷ 1 ∷ 1 ∷ 2 ∷ 0 ∷ 2 ∷
    0 ∷ 1 ∷
    1 ∷ 1 ∷ 0 ∷ 1 ∷ 0 ∷ 1 ∷ 0 ∷
    0 ∷ [])
    (lent 23)
    (1 ∷ 3 ∷ 1 ∷ 0 ∷
    2 ∷ 1 ∷ 0 ∷ 0 ∷ 1 ∷ 1 ∷ 0 ∷ 0 ∷ 2 ∷
    0 ∷ 1 ∷
    0 ∷ 1 ∷ 0 ∷ 1 ∷ 1 ∷ 1 ∷ 0 ∷
    0 ∷ [])
    -- and the shorter order before the longer one, though its pair is the greater
    ∷ represented 0 (done 25)
    (1 ∷ 3 ∷ 1 ∷ 0 ∷
    2 ∷ 1 ∷ 2 ∷ 0 ∷ 1 ∷ 1 ∷ 2 ∷ 0 ∷ 2 ∷
    0 ∷ 1 ∷
    2 ∷ 0 ∷ 1 ∷ 1 ∷ 0 ∷ 1 ∷ 1 ∷ 1 ∷ 0 ∷
    0 ∷ [])
    (lent 25)
    (1 ∷ 3 ∷ 1 ∷ 0 ∷
    2 ∷ 1 ∷ 0 ∷ 0 ∷ 1 ∷ 1 ∷ 0 ∷ 0 ∷ 2 ∷
    0 ∷ 1 ∷
    0 ∷ 1 ∷ 1 ∷ 1 ∷ 2 ∷ 0 ∷ 1 ∷ 1 ∷ 0 ∷
    0 ∷ [])
    -- Edition 2: an lwsync of thread 1, a load and a store of thread 0 that depends on it
    ∷ represented 0 (done 25)
    (2 ∷ 2 ∷ 1 ∷ 0 ∷
    3 ∷ 3 ∷ 1 ∷ 0 ∷ 0 ∷ 0 ∷ 0 ∷ 1 ∷ 0 ∷ 0 ∷ 1 ∷
    1 ∷ 1 ∷ 1 ∷ 2 ∷
    2 ∷
    1 ∷ 1 ∷ 2 ∷ 0 ∷
    0 ∷ [])
    (lent 25)
    (2 ∷ 2 ∷ 1 ∷ 0 ∷
    3 ∷ 3 ∷ 0 ∷ 0 ∷ 1 ∷ 0 ∷ 0 ∷ 1 ∷ 1 ∷ 0 ∷ 1 ∷
    1 ∷ 1 ∷ 1 ∷ 2 ∷
    2 ∷
    0 ∷ 1 ∷ 1 ∷ 2 ∷
    0 ∷ [])
    ∷ []

unfoldable pub case_rows : List Row
case_rows =
    -- A store by the only thread
    represented_case (one 1 1 1 0 1 1 0 0 1 (0 ∷ []) []) (done 12) (1 ∷ 1 ∷ 1 ∷ 0 ∷ 1 ∷ 1 ∷ 0 ∷ 0 ∷ 1 ∷ 0 ∷ 0 ∷ 0 ∷ [])
    -- 5 threads, a dependency from a store, a name's byte that is not printable
    ∷ represented_case (one 1 5 1 0 1 1 0 0 1 (0 ∷ []) []) (refusal 3 0) []
    ∷ represented_case (linked (link 0 1 0 ∷ []) (1 ∷ [])) (refusal 4 0) []
    ∷ represented_case (store_named (31 ∷ [])) (refusal 23 0) []
    ∷ []

unfoldable pub compared_rows : List Row
compared_rows =
    -- Either way
    compared 2 21 named swapped named
    ∷ compared 1 21 named named swapped
    -- Bytes behind the records are left aside; the first if they are equal
    ∷ compared 2 21 named (swapped ++ (0 ∷ [])) (named ++ (255 ∷ []))
    ∷ compared 1 21 named (named ++ (255 ∷ [])) (named ++ (0 ∷ []))
    -- Either can't be read
    ∷ compared 0 0 [] swapped (2 ∷ [])
    ∷ compared 0 0 [] [] named
    ∷ []
