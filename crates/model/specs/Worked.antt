-- The worked cases: 01's ("Cases on the bench"), and one for each clause of each rule and for each refusal.
-- A record's bytes stand a part to a line, long ones on several: edition, n, m and initial values; k and the events; in edition 2
-- the dependencies, their count first; write orders, if there are stores; each thread's order, its count first; the name's length
-- and the name. The answer stands before them.
-- Assumes nothing.
use Rattle.std.specs.Prelude.{ℕ, ◌+◌, ◌-◌, Bool, true, false, ◌&&◌, List, [], ◌∷◌, ◌++◌, map, eqb, length, take, drop, set}
use Rattle.finite.specs.Lists.{table, each}
use Rattle.number.specs.Reader.{Out, stop, next}
use Rattle.model.specs.Case.{Case, Dependency}
use Rattle.model.specs.Written.{record_of}
use Rattle.model.specs.Answers.{Answer, refusal, done, answer_of, Stored, write, judge, judge_case, renumber_record, renumber_case, judged_name, renumbered_name}
use Rattle.model.specs.Calls.{Call, judging, renumbering, judging_case, renumbering_case, Composed, start, composed_after}

pub data Row : Type 0 where
  -- a record judged: under PPCw, under PPCs
  judged : (weak strong : Answer) (bytes : List ℕ) → Row
  judged_under : (model : ℕ) (answer : Answer) (bytes : List ℕ) → Row
  -- a record renumbered into a buffer
  renumbered : (q r at : ℕ) (answer : Answer) (bytes buffer after : List ℕ) → Row
  -- the name beside a judging, beside a renumbering
  named : (model : ℕ) (name bytes : List ℕ) → Row
  named_renumbered : (q r at : ℕ) (name bytes buffer : List ℕ) → Row
  -- a case judged, renumbered to one with the record bytes, written into a buffer
  judged_case : (model : ℕ) (c : Case) (answer : Answer) → Row
  renumbered_case : (q r : ℕ) (c : Case) (answer : Answer) (bytes : List ℕ) → Row
  written : (c : Case) (at : ℕ) (answer : Answer) (buffer after : List ℕ) → Row
  -- the permutations composed after a list of calls, for a record of n threads, m addresses and size bytes
  composing : (n m size : ℕ) (calls : List Call) (T A : ℕ) → Row

-- both models answer alike
abbrev pub alike : Answer → List ℕ → Row
alike a s = judged a a s

abbrev pub accepted : (length : ℕ) (finals : List ℕ) → Answer
accepted i ends = record { number = 0; place = 0; length = i; finals = ends }

abbrev pub broken : (rule length : ℕ) → Answer
broken x i = record { number = x; place = 0; length = i; finals = 0 ∷ 0 ∷ 0 ∷ 0 ∷ [] }

-- a lent buffer of i bytes: each holds its place
unfoldable pub lent : ℕ → List ℕ
lent i = table 0 i (λ b. b)

-- a case of one event (none if k is 0) and no pairs, the fields in the record's order
unfoldable pub one : (edition n m initial k kind thread address value : ℕ) (write name : List ℕ) → Case
one edition n m initial k kind thread address value write name = record {
  edition = edition;
  n = n;
  m = m;
  k = k;
  initials = initial ∷ [];
  events = take k (record { kind = kind; thread = thread; address = address; value = value } ∷ []);
  dependencies = [];
  writes = write ∷ [];
  orders = (0 ∷ []) ∷ [];
  name = name;
}

-- a case of k syncs by one thread, no pairs, this write order and no name
unfoldable pub syncing : (k : ℕ) (write : List ℕ) → Case
syncing k write = record {
  edition = 1;
  n = 1;
  m = 1;
  k = k;
  initials = 0 ∷ [];
  events = table 0 k (λ e. record { kind = 2; thread = 0; address = 0; value = 0 });
  dependencies = [];
  writes = write ∷ [];
  orders = table 0 k (λ e. 0) ∷ [];
  name = [];
}

-- the small record with this name, which starts at byte 18
abbrev pub small_named : (name : List ℕ) → List ℕ
small_named name =
    (1 ∷ 1 ∷ 1 ∷ 0 ∷
    2 ∷ 1 ∷ 0 ∷ 0 ∷ 1 ∷ 0 ∷ 0 ∷ 0 ∷ 1 ∷
    0 ∷
    1 ∷ 0 ∷ 1 ∷
    length name ∷ []) ++ name

-- a case of one store with this name
abbrev pub store_named : (name : List ℕ) → Case
store_named name = one 1 1 1 0 1 1 0 0 1 (0 ∷ []) name

-- the bytes of k syncs by thread 0
abbrev pub syncs : (k : ℕ) → List ℕ
syncs k = each (λ e. 2 ∷ 0 ∷ []) (table 0 k (λ e. e))

abbrev pub link : (class from to : ℕ) → Dependency
link class from to = record { class = class; from = from; to = to }

-- an edition 2 case of one thread's load of 0 and store of 1, in that order, with these dependencies
unfoldable pub linked : List Dependency → (write : List ℕ) → Case
linked links write = record {
  edition = 2;
  n = 1;
  m = 1;
  k = 2;
  initials = 0 ∷ [];
  events = record { kind = 0; thread = 0; address = 0; value = 0 } ∷ record { kind = 1; thread = 0; address = 0; value = 1 } ∷ [];
  dependencies = links;
  writes = write ∷ [];
  orders = (2 ∷ 0 ∷ []) ∷ [];
  name = [];
}

unfoldable pub same : List ℕ → List ℕ → Bool
same [] [] = true
same [] (y ∷ ys) = false
same (x ∷ xs) [] = false
same (x ∷ xs) (y ∷ ys) = eqb x y && same xs ys

abbrev pub same_answer : Answer → Answer → Bool
same_answer a b = eqb a.number b.number && eqb a.place b.place && eqb a.length b.length && same a.finals b.finals

abbrev pub same_stored : Stored → Answer → List ℕ → Bool
same_stored w a after = same_answer w.answer a && same w.buffer after

abbrev pub bytes_of : Out Case → List ℕ
bytes_of (stop x p) = []
bytes_of (next c i) = record_of c

abbrev pub same_composed : Composed → (T A : ℕ) → Bool
same_composed b T A = eqb b.T T && eqb b.A A

-- the definitions give the row's answer
unfoldable pub holds : Row → Bool
holds (judged weak strong s) = same_answer (judge 0 s) weak && same_answer (judge 1 s) strong
holds (judged_under model a s) = same_answer (judge model s) a
holds (renumbered q r at a s buffer after) = same_stored (renumber_record q r s buffer at) a after
holds (named model name s) = same (judged_name model s) name
holds (named_renumbered q r at name s buffer) = same (renumbered_name q r s (length buffer) at) name
holds (judged_case model c a) = same_answer (judge_case model c) a
holds (renumbered_case q r c a s) = same_answer (answer_of (renumber_case q r c)) a && same (bytes_of (renumber_case q r c)) s
holds (written c at a buffer after) = same_stored (write c buffer at) a after
holds (composing n m size xs T A) = same_composed (composed_after n m size start xs) T A

unfoldable pub worked : List Row → Bool
worked [] = true
worked (x ∷ xs) = holds x && worked xs

-- The paper's worked cases
unfoldable pub paper_cases : List Row
paper_cases =
    -- The small record
    alike (accepted 19 (1 ∷ 0 ∷ 0 ∷ 0 ∷ []))
    (1 ∷ 1 ∷ 1 ∷ 0 ∷
    2 ∷ 1 ∷ 0 ∷ 0 ∷ 1 ∷ 0 ∷ 0 ∷ 0 ∷ 1 ∷
    0 ∷
    1 ∷ 0 ∷ 1 ∷
    1 ∷ 0x61 ∷ []) ∷
    -- Its load holds 0
    alike (broken 16 19)
    (1 ∷ 1 ∷ 1 ∷ 0 ∷
    2 ∷ 1 ∷ 0 ∷ 0 ∷ 1 ∷ 0 ∷ 0 ∷ 0 ∷ 0 ∷
    0 ∷
    1 ∷ 0 ∷ 1 ∷
    1 ∷ 0x61 ∷ []) ∷
    -- Its load holds 2
    alike (broken 16 19)
    (1 ∷ 1 ∷ 1 ∷ 0 ∷
    2 ∷ 1 ∷ 0 ∷ 0 ∷ 1 ∷ 0 ∷ 0 ∷ 0 ∷ 2 ∷
    0 ∷
    1 ∷ 0 ∷ 1 ∷
    1 ∷ 0x61 ∷ []) ∷
    -- The small record without pairs
    alike (broken 12 17)
    (1 ∷ 1 ∷ 1 ∷ 0 ∷
    2 ∷ 1 ∷ 0 ∷ 0 ∷ 1 ∷ 0 ∷ 0 ∷ 0 ∷ 1 ∷
    0 ∷
    0 ∷
    1 ∷ 0x61 ∷ []) ∷
    -- With the pairs 0, 1 and 1, 0
    alike (broken 11 21)
    (1 ∷ 1 ∷ 1 ∷ 0 ∷
    2 ∷ 1 ∷ 0 ∷ 0 ∷ 1 ∷ 0 ∷ 0 ∷ 0 ∷ 1 ∷
    0 ∷
    2 ∷ 0 ∷ 1 ∷ 1 ∷ 0 ∷
    1 ∷ 0x61 ∷ []) ∷
    -- With the pair 1, 0 alone
    alike (broken 13 19)
    (1 ∷ 1 ∷ 1 ∷ 0 ∷
    2 ∷ 1 ∷ 0 ∷ 0 ∷ 1 ∷ 0 ∷ 0 ∷ 0 ∷ 1 ∷
    0 ∷
    1 ∷ 1 ∷ 0 ∷
    1 ∷ 0x61 ∷ []) ∷
    -- Two stores in one order, written in the other
    alike (broken 14 20)
    (1 ∷ 1 ∷ 1 ∷ 0 ∷
    2 ∷ 1 ∷ 0 ∷ 0 ∷ 1 ∷ 1 ∷ 0 ∷ 0 ∷ 2 ∷
    1 ∷ 0 ∷
    1 ∷ 0 ∷ 1 ∷
    1 ∷ 0x61 ∷ []) ∷
    -- Dekker
    judged (accepted 77 (1 ∷ 1 ∷ 0 ∷ 0 ∷ [])) (broken 16 77)
    (1 ∷ 2 ∷ 2 ∷ 0 ∷ 0 ∷
    6 ∷ 1 ∷ 0 ∷ 0 ∷ 1 ∷ 2 ∷ 0 ∷ 0 ∷ 0 ∷ 1 ∷ 0 ∷ 1 ∷ 1 ∷ 1 ∷ 1 ∷ 2 ∷ 1 ∷ 0 ∷ 1 ∷ 0 ∷ 0 ∷
    0 ∷ 3 ∷
    10 ∷ 0 ∷ 1 ∷ 0 ∷ 2 ∷ 0 ∷ 3 ∷ 0 ∷ 5 ∷ 1 ∷ 2 ∷ 1 ∷ 3 ∷ 1 ∷ 5 ∷ 2 ∷ 3 ∷ 2 ∷ 5 ∷ 3 ∷ 5 ∷
    10 ∷ 0 ∷ 2 ∷ 3 ∷ 0 ∷ 3 ∷ 2 ∷ 3 ∷ 4 ∷ 3 ∷ 5 ∷ 4 ∷ 0 ∷ 4 ∷ 2 ∷ 4 ∷ 5 ∷ 5 ∷ 0 ∷ 5 ∷ 2 ∷
    6 ∷ 0x44 ∷ 0x65 ∷ 0x6B ∷ 0x6B ∷ 0x65 ∷ 0x72 ∷ []) ∷
    -- Message
    alike (broken 18 54)
    (1 ∷ 2 ∷ 2 ∷ 0 ∷ 0 ∷
    5 ∷ 1 ∷ 0 ∷ 0 ∷ 1 ∷ 2 ∷ 0 ∷ 1 ∷ 0 ∷ 1 ∷ 1 ∷ 0 ∷ 1 ∷ 1 ∷ 1 ∷ 0 ∷ 1 ∷ 0 ∷ 1 ∷
    0 ∷ 2 ∷
    3 ∷ 0 ∷ 1 ∷ 0 ∷ 2 ∷ 1 ∷ 2 ∷
    6 ∷ 0 ∷ 2 ∷ 0 ∷ 3 ∷ 0 ∷ 4 ∷ 2 ∷ 3 ∷ 2 ∷ 4 ∷ 3 ∷ 4 ∷
    7 ∷ 0x4D ∷ 0x65 ∷ 0x73 ∷ 0x73 ∷ 0x61 ∷ 0x67 ∷ 0x65 ∷ []) ∷
    -- Message with the pair 0, 4 in thread 0's order
    alike (accepted 56 (1 ∷ 1 ∷ 0 ∷ 0 ∷ []))
    (1 ∷ 2 ∷ 2 ∷ 0 ∷ 0 ∷
    5 ∷ 1 ∷ 0 ∷ 0 ∷ 1 ∷ 2 ∷ 0 ∷ 1 ∷ 0 ∷ 1 ∷ 1 ∷ 0 ∷ 1 ∷ 1 ∷ 1 ∷ 0 ∷ 1 ∷ 0 ∷ 1 ∷
    0 ∷ 2 ∷
    4 ∷ 0 ∷ 1 ∷ 0 ∷ 2 ∷ 0 ∷ 4 ∷ 1 ∷ 2 ∷
    6 ∷ 0 ∷ 2 ∷ 0 ∷ 3 ∷ 0 ∷ 4 ∷ 2 ∷ 3 ∷ 2 ∷ 4 ∷ 3 ∷ 4 ∷
    7 ∷ 0x4D ∷ 0x65 ∷ 0x73 ∷ 0x73 ∷ 0x61 ∷ 0x67 ∷ 0x65 ∷ []) ∷
    -- CC
    alike (broken 17 70)
    (1 ∷ 3 ∷ 2 ∷ 0 ∷ 0 ∷
    7 ∷ 0 ∷ 0 ∷ 0 ∷ 1 ∷ 2 ∷ 0 ∷ 1 ∷ 0 ∷ 1 ∷ 1 ∷ 0 ∷ 1 ∷ 1 ∷ 1 ∷ 2 ∷ 1 ∷ 0 ∷ 1 ∷ 0 ∷ 0 ∷ 1 ∷ 2 ∷ 0 ∷ 1 ∷
    6 ∷ 2 ∷
    6 ∷ 0 ∷ 1 ∷ 0 ∷ 2 ∷ 1 ∷ 2 ∷ 6 ∷ 0 ∷ 6 ∷ 1 ∷ 6 ∷ 2 ∷
    10 ∷ 2 ∷ 3 ∷ 2 ∷ 4 ∷ 2 ∷ 5 ∷ 2 ∷ 6 ∷ 3 ∷ 4 ∷ 3 ∷ 5 ∷ 3 ∷ 6 ∷ 4 ∷ 5 ∷ 4 ∷ 6 ∷ 5 ∷ 6 ∷
    0 ∷
    2 ∷ 0x43 ∷ 0x43 ∷ []) ∷
    -- Message, thread 1's order from 3 < 4 alone
    alike (broken 15 44)
    (1 ∷ 2 ∷ 2 ∷ 0 ∷ 0 ∷
    5 ∷ 1 ∷ 0 ∷ 0 ∷ 1 ∷ 2 ∷ 0 ∷ 1 ∷ 0 ∷ 1 ∷ 1 ∷ 0 ∷ 1 ∷ 1 ∷ 1 ∷ 0 ∷ 1 ∷ 0 ∷ 1 ∷
    0 ∷ 2 ∷
    3 ∷ 0 ∷ 1 ∷ 0 ∷ 2 ∷ 1 ∷ 2 ∷
    1 ∷ 3 ∷ 4 ∷
    7 ∷ 0x4D ∷ 0x65 ∷ 0x73 ∷ 0x73 ∷ 0x61 ∷ 0x67 ∷ 0x65 ∷ []) ∷
    -- IRIW
    judged (accepted 145 (1 ∷ 1 ∷ 0 ∷ 0 ∷ [])) (broken 15 145)
    (1 ∷ 4 ∷ 2 ∷ 0 ∷ 0 ∷
    8 ∷ 0 ∷ 0 ∷ 0 ∷ 1 ∷ 2 ∷ 0 ∷ 0 ∷ 0 ∷ 1 ∷ 0 ∷ 0 ∷ 1 ∷ 1 ∷ 1 ∷ 2 ∷ 1 ∷ 0 ∷ 1 ∷ 0 ∷ 0 ∷ 1 ∷ 2 ∷ 0 ∷ 1 ∷ 1 ∷ 3 ∷ 1 ∷ 1 ∷
    6 ∷ 7 ∷
    21 ∷ 0 ∷ 1 ∷ 0 ∷ 2 ∷ 0 ∷ 3 ∷ 0 ∷ 5 ∷ 0 ∷ 7 ∷ 1 ∷ 2 ∷ 1 ∷ 3 ∷ 1 ∷ 5 ∷ 1 ∷ 7 ∷ 2 ∷ 3 ∷ 2 ∷ 5 ∷ 2 ∷ 7 ∷ 3 ∷ 5 ∷ 6 ∷ 0 ∷
    6 ∷ 1 ∷ 6 ∷ 2 ∷ 6 ∷ 3 ∷ 6 ∷ 5 ∷ 6 ∷ 7 ∷ 7 ∷ 3 ∷ 7 ∷ 5 ∷
    21 ∷ 0 ∷ 2 ∷ 3 ∷ 0 ∷ 3 ∷ 2 ∷ 3 ∷ 4 ∷ 3 ∷ 5 ∷ 3 ∷ 6 ∷ 4 ∷ 0 ∷ 4 ∷ 2 ∷ 4 ∷ 5 ∷ 4 ∷ 6 ∷ 5 ∷ 0 ∷ 5 ∷ 2 ∷ 5 ∷ 6 ∷ 6 ∷ 0 ∷
    6 ∷ 2 ∷ 7 ∷ 0 ∷ 7 ∷ 2 ∷ 7 ∷ 3 ∷ 7 ∷ 4 ∷ 7 ∷ 5 ∷ 7 ∷ 6 ∷
    4 ∷ 0 ∷ 2 ∷ 3 ∷ 5 ∷ 6 ∷ 2 ∷ 7 ∷ 5 ∷
    4 ∷ 0 ∷ 2 ∷ 3 ∷ 5 ∷ 6 ∷ 2 ∷ 7 ∷ 5 ∷
    4 ∷ 0x49 ∷ 0x52 ∷ 0x49 ∷ 0x57 ∷ []) ∷
    []

-- What each clause of rules 11 to 14 says
unfoldable pub order_cases : List Row
order_cases =
    -- 11, irreflexive: a lone sync before itself
    alike (broken 11 11)
    (1 ∷ 1 ∷ 1 ∷ 0 ∷
    1 ∷ 2 ∷ 0 ∷
    1 ∷ 0 ∷ 0 ∷
    0 ∷ []) ∷
    -- 11, transitive, in each thread's order; nothing is added by closure: Message, thread 1's pairs 0, 2 and 2, 3 and 3, 4 alone
    alike (broken 11 48)
    (1 ∷ 2 ∷ 2 ∷ 0 ∷ 0 ∷
    5 ∷ 1 ∷ 0 ∷ 0 ∷ 1 ∷ 2 ∷ 0 ∷ 1 ∷ 0 ∷ 1 ∷ 1 ∷ 0 ∷ 1 ∷ 1 ∷ 1 ∷ 0 ∷ 1 ∷ 0 ∷ 1 ∷
    0 ∷ 2 ∷
    3 ∷ 0 ∷ 1 ∷ 0 ∷ 2 ∷ 1 ∷ 2 ∷
    3 ∷ 0 ∷ 2 ∷ 2 ∷ 3 ∷ 3 ∷ 4 ∷
    7 ∷ 0x4D ∷ 0x65 ∷ 0x73 ∷ 0x73 ∷ 0x61 ∷ 0x67 ∷ 0x65 ∷ []) ∷
    -- 11 before 12: three loads, 0 before 1 and 1 before 2, but 0 and 2 unordered
    alike (broken 11 23)
    (1 ∷ 1 ∷ 1 ∷ 0 ∷
    3 ∷ 0 ∷ 0 ∷ 0 ∷ 0 ∷ 0 ∷ 0 ∷ 0 ∷ 0 ∷ 0 ∷ 0 ∷ 0 ∷ 0 ∷
    2 ∷ 0 ∷ 1 ∷ 1 ∷ 2 ∷
    0 ∷ []) ∷
    -- 12, of each thread: thread 1's loads unordered
    alike (broken 12 20)
    (1 ∷ 2 ∷ 1 ∷ 0 ∷
    3 ∷ 0 ∷ 0 ∷ 0 ∷ 0 ∷ 0 ∷ 1 ∷ 0 ∷ 0 ∷ 0 ∷ 1 ∷ 0 ∷ 0 ∷
    0 ∷
    0 ∷
    0 ∷ []) ∷
    -- 12 takes either way, 13 leaves two addresses free: stores to x and y, the later listed before the earlier
    alike (accepted 20 (1 ∷ 1 ∷ 0 ∷ 0 ∷ []))
    (1 ∷ 1 ∷ 2 ∷ 0 ∷ 0 ∷
    2 ∷ 1 ∷ 0 ∷ 0 ∷ 1 ∷ 1 ∷ 0 ∷ 1 ∷ 1 ∷
    0 ∷ 1 ∷
    1 ∷ 1 ∷ 0 ∷
    0 ∷ []) ∷
    -- 13, the later one is a sync
    alike (broken 13 16)
    (1 ∷ 1 ∷ 1 ∷ 0 ∷
    2 ∷ 1 ∷ 0 ∷ 0 ∷ 1 ∷ 2 ∷ 0 ∷
    0 ∷
    1 ∷ 1 ∷ 0 ∷
    0 ∷ []) ∷
    -- 13, the earlier one is a sync
    alike (broken 13 16)
    (1 ∷ 1 ∷ 1 ∷ 0 ∷
    2 ∷ 2 ∷ 0 ∷ 1 ∷ 0 ∷ 0 ∷ 1 ∷
    1 ∷
    1 ∷ 1 ∷ 0 ∷
    0 ∷ []) ∷
    -- 13 before 14: two stores to x, 1 before 0, written 0 before 1
    alike (broken 13 19)
    (1 ∷ 1 ∷ 1 ∷ 0 ∷
    2 ∷ 1 ∷ 0 ∷ 0 ∷ 1 ∷ 1 ∷ 0 ∷ 0 ∷ 2 ∷
    0 ∷ 1 ∷
    1 ∷ 1 ∷ 0 ∷
    0 ∷ []) ∷
    -- 14, in each thread's order, of anyone's stores: thread 2 has the stores of threads 0 and 1 the other way
    alike (broken 14 21)
    (1 ∷ 3 ∷ 1 ∷ 0 ∷
    2 ∷ 1 ∷ 0 ∷ 0 ∷ 1 ∷ 1 ∷ 1 ∷ 0 ∷ 2 ∷
    0 ∷ 1 ∷
    0 ∷
    0 ∷
    1 ∷ 1 ∷ 0 ∷
    0 ∷ []) ∷
    -- 14 before 15: two stores written the other way, and a load of 7 with no store before it
    alike (broken 14 28)
    (1 ∷ 1 ∷ 2 ∷ 0 ∷ 0 ∷
    3 ∷ 1 ∷ 0 ∷ 0 ∷ 1 ∷ 1 ∷ 0 ∷ 0 ∷ 2 ∷ 0 ∷ 0 ∷ 1 ∷ 7 ∷
    1 ∷ 0 ∷
    3 ∷ 0 ∷ 1 ∷ 0 ∷ 2 ∷ 1 ∷ 2 ∷
    0 ∷ []) ∷
    []

-- What each clause of 15 and 16 says, and of V(p)
unfoldable pub value_cases : List Row
value_cases =
    -- 15, the initial value is that of the load's address; finals are initial values where nothing is stored
    alike (accepted 18 (7 ∷ 5 ∷ 0 ∷ 0 ∷ []))
    (1 ∷ 1 ∷ 2 ∷ 7 ∷ 5 ∷
    2 ∷ 0 ∷ 0 ∷ 0 ∷ 7 ∷ 0 ∷ 0 ∷ 1 ∷ 5 ∷
    1 ∷ 0 ∷ 1 ∷
    0 ∷ []) ∷
    -- 15, another address's initial value
    alike (broken 15 18)
    (1 ∷ 1 ∷ 2 ∷ 7 ∷ 5 ∷
    2 ∷ 0 ∷ 0 ∷ 0 ∷ 7 ∷ 0 ∷ 0 ∷ 1 ∷ 7 ∷
    1 ∷ 0 ∷ 1 ∷
    0 ∷ []) ∷
    -- 15, a store to another address before the load
    alike (broken 15 19)
    (1 ∷ 1 ∷ 2 ∷ 0 ∷ 0 ∷
    2 ∷ 1 ∷ 0 ∷ 1 ∷ 1 ∷ 0 ∷ 0 ∷ 0 ∷ 1 ∷
    0 ∷
    1 ∷ 0 ∷ 1 ∷
    0 ∷ []) ∷
    -- 15, the store comes behind the load
    alike (broken 15 18)
    (1 ∷ 1 ∷ 1 ∷ 0 ∷
    2 ∷ 0 ∷ 0 ∷ 0 ∷ 1 ∷ 1 ∷ 0 ∷ 0 ∷ 1 ∷
    1 ∷
    1 ∷ 0 ∷ 1 ∷
    0 ∷ []) ∷
    -- 15, V(p) holds p's own load, though it stands in no pair (02 (i))
    alike (broken 15 11)
    (1 ∷ 1 ∷ 1 ∷ 0 ∷
    1 ∷ 0 ∷ 0 ∷ 0 ∷ 2 ∷
    0 ∷
    0 ∷ []) ∷
    -- 15 before 16: 2 is not the store's value, and the load is unordered with the store
    alike (broken 15 26)
    (1 ∷ 2 ∷ 2 ∷ 0 ∷ 0 ∷
    3 ∷ 0 ∷ 0 ∷ 0 ∷ 2 ∷ 0 ∷ 1 ∷ 1 ∷ 0 ∷ 1 ∷ 1 ∷ 0 ∷ 1 ∷
    2 ∷
    1 ∷ 1 ∷ 2 ∷
    1 ∷ 1 ∷ 2 ∷
    0 ∷ []) ∷
    -- 16, a store in V(0) because it comes behind another event
    alike (broken 16 26)
    (1 ∷ 2 ∷ 2 ∷ 0 ∷ 0 ∷
    3 ∷ 0 ∷ 0 ∷ 0 ∷ 0 ∷ 0 ∷ 1 ∷ 1 ∷ 0 ∷ 1 ∷ 1 ∷ 0 ∷ 1 ∷
    2 ∷
    1 ∷ 1 ∷ 2 ∷
    1 ∷ 1 ∷ 2 ∷
    0 ∷ []) ∷
    -- 16, a store in V(0) because it comes before another event
    alike (broken 16 26)
    (1 ∷ 2 ∷ 2 ∷ 0 ∷ 0 ∷
    3 ∷ 0 ∷ 0 ∷ 0 ∷ 0 ∷ 0 ∷ 1 ∷ 1 ∷ 0 ∷ 1 ∷ 1 ∷ 0 ∷ 1 ∷
    2 ∷
    1 ∷ 2 ∷ 1 ∷
    1 ∷ 1 ∷ 2 ∷
    0 ∷ []) ∷
    -- 16, V(p) holds p's own store, though it stands in no pair: thread 0's order has thread 1's loads of 0 (02 (i))
    judged (accepted 25 (1 ∷ 0 ∷ 0 ∷ 0 ∷ [])) (broken 16 25)
    (1 ∷ 2 ∷ 1 ∷ 0 ∷
    3 ∷ 1 ∷ 0 ∷ 0 ∷ 1 ∷ 0 ∷ 1 ∷ 0 ∷ 0 ∷ 0 ∷ 1 ∷ 0 ∷ 0 ∷
    0 ∷
    1 ∷ 1 ∷ 2 ∷
    1 ∷ 1 ∷ 2 ∷
    0 ∷ []) ∷
    -- 16, a store outside V(0): two loads of 0 beside it
    alike (accepted 23 (1 ∷ 0 ∷ 0 ∷ 0 ∷ []))
    (1 ∷ 2 ∷ 1 ∷ 0 ∷
    3 ∷ 0 ∷ 0 ∷ 0 ∷ 0 ∷ 0 ∷ 0 ∷ 0 ∷ 0 ∷ 1 ∷ 1 ∷ 0 ∷ 1 ∷
    2 ∷
    1 ∷ 0 ∷ 1 ∷
    0 ∷
    0 ∷ []) ∷
    -- 16, another store between; the last store of the write order is the final value
    alike (accepted 27 (2 ∷ 0 ∷ 0 ∷ 0 ∷ []))
    (1 ∷ 1 ∷ 1 ∷ 0 ∷
    3 ∷ 1 ∷ 0 ∷ 0 ∷ 1 ∷ 1 ∷ 0 ∷ 0 ∷ 2 ∷ 0 ∷ 0 ∷ 0 ∷ 2 ∷
    0 ∷ 1 ∷
    3 ∷ 0 ∷ 1 ∷ 0 ∷ 2 ∷ 1 ∷ 2 ∷
    0 ∷ []) ∷
    -- 16, the other store before s
    alike (broken 16 27)
    (1 ∷ 1 ∷ 1 ∷ 0 ∷
    3 ∷ 1 ∷ 0 ∷ 0 ∷ 2 ∷ 1 ∷ 0 ∷ 0 ∷ 1 ∷ 0 ∷ 0 ∷ 0 ∷ 2 ∷
    0 ∷ 1 ∷
    3 ∷ 0 ∷ 1 ∷ 0 ∷ 2 ∷ 1 ∷ 2 ∷
    0 ∷ []) ∷
    -- 16, the other store behind the load
    alike (broken 16 27)
    (1 ∷ 1 ∷ 1 ∷ 0 ∷
    3 ∷ 1 ∷ 0 ∷ 0 ∷ 1 ∷ 0 ∷ 0 ∷ 0 ∷ 2 ∷ 1 ∷ 0 ∷ 0 ∷ 2 ∷
    0 ∷ 2 ∷
    3 ∷ 0 ∷ 1 ∷ 0 ∷ 2 ∷ 1 ∷ 2 ∷
    0 ∷ []) ∷
    -- 16, a store to another address between
    alike (broken 16 28)
    (1 ∷ 1 ∷ 2 ∷ 0 ∷ 0 ∷
    3 ∷ 1 ∷ 0 ∷ 0 ∷ 1 ∷ 1 ∷ 0 ∷ 1 ∷ 2 ∷ 0 ∷ 0 ∷ 0 ∷ 0 ∷
    0 ∷ 1 ∷
    3 ∷ 0 ∷ 1 ∷ 0 ∷ 2 ∷ 1 ∷ 2 ∷
    0 ∷ []) ∷
    -- 16 asks the thread's own order, not the write order: thread 0 has both stores before its load, but neither before the other
    alike (broken 16 27)
    (1 ∷ 3 ∷ 1 ∷ 0 ∷
    3 ∷ 0 ∷ 0 ∷ 0 ∷ 2 ∷ 1 ∷ 1 ∷ 0 ∷ 1 ∷ 1 ∷ 2 ∷ 0 ∷ 2 ∷
    1 ∷ 2 ∷
    2 ∷ 1 ∷ 0 ∷ 2 ∷ 0 ∷
    0 ∷
    0 ∷
    0 ∷ []) ∷
    -- 16 under PPCs, of a foreign load, asks p's order: in thread 1's order the store of 2 lies between, in thread 0's it doesn't
    judged (accepted 32 (2 ∷ 0 ∷ 0 ∷ 0 ∷ [])) (broken 16 32)
    (1 ∷ 2 ∷ 1 ∷ 0 ∷
    3 ∷ 1 ∷ 0 ∷ 0 ∷ 1 ∷ 1 ∷ 0 ∷ 0 ∷ 2 ∷ 0 ∷ 1 ∷ 0 ∷ 2 ∷
    0 ∷ 1 ∷
    2 ∷ 0 ∷ 1 ∷ 0 ∷ 2 ∷
    3 ∷ 0 ∷ 1 ∷ 0 ∷ 2 ∷ 1 ∷ 2 ∷
    0 ∷ []) ∷
    -- 16 under PPCs, of a foreign load, asks for stores in p's V: the store of 1 is in V(0), not in V(1)
    alike (accepted 26 (1 ∷ 0 ∷ 0 ∷ 0 ∷ []))
    (1 ∷ 2 ∷ 2 ∷ 0 ∷ 0 ∷
    3 ∷ 0 ∷ 0 ∷ 0 ∷ 0 ∷ 1 ∷ 0 ∷ 0 ∷ 1 ∷ 0 ∷ 1 ∷ 1 ∷ 0 ∷
    1 ∷
    1 ∷ 0 ∷ 1 ∷
    1 ∷ 0 ∷ 2 ∷
    0 ∷ []) ∷
    -- 16 before 17: CC with a load of y = 2
    alike (broken 16 70)
    (1 ∷ 3 ∷ 2 ∷ 0 ∷ 0 ∷
    7 ∷ 0 ∷ 0 ∷ 0 ∷ 1 ∷ 2 ∷ 0 ∷ 1 ∷ 0 ∷ 1 ∷ 1 ∷ 0 ∷ 1 ∷ 1 ∷ 2 ∷ 2 ∷ 1 ∷ 0 ∷ 1 ∷ 0 ∷ 0 ∷ 1 ∷ 2 ∷ 0 ∷ 1 ∷
    6 ∷ 2 ∷
    6 ∷ 0 ∷ 1 ∷ 0 ∷ 2 ∷ 1 ∷ 2 ∷ 6 ∷ 0 ∷ 6 ∷ 1 ∷ 6 ∷ 2 ∷
    10 ∷ 2 ∷ 3 ∷ 2 ∷ 4 ∷ 2 ∷ 5 ∷ 2 ∷ 6 ∷ 3 ∷ 4 ∷ 3 ∷ 5 ∷ 3 ∷ 6 ∷ 4 ∷ 5 ∷ 4 ∷ 6 ∷ 5 ∷ 6 ∷
    0 ∷
    2 ∷ 0x43 ∷ 0x43 ∷ []) ∷
    []

-- What each clause of 17 and 18 says, and of reads-from
unfoldable pub barrier_cases : List Row
barrier_cases =
    -- 17, e is anyone's: thread 1's store before thread 0's sync and store
    alike (broken 17 27)
    (1 ∷ 2 ∷ 2 ∷ 0 ∷ 0 ∷
    3 ∷ 1 ∷ 1 ∷ 0 ∷ 1 ∷ 2 ∷ 0 ∷ 1 ∷ 0 ∷ 1 ∷ 1 ∷
    0 ∷ 2 ∷
    3 ∷ 0 ∷ 1 ∷ 0 ∷ 2 ∷ 1 ∷ 2 ∷
    0 ∷
    0 ∷ []) ∷
    -- 17 and 18, f is of p: thread 1 has thread 0's sync before its own store
    alike (accepted 44 (1 ∷ 1 ∷ 0 ∷ 0 ∷ []))
    (1 ∷ 3 ∷ 2 ∷ 0 ∷ 0 ∷
    5 ∷ 1 ∷ 0 ∷ 0 ∷ 1 ∷ 2 ∷ 0 ∷ 1 ∷ 1 ∷ 1 ∷ 1 ∷ 0 ∷ 2 ∷ 1 ∷ 1 ∷ 0 ∷ 2 ∷ 0 ∷ 0 ∷
    0 ∷ 2 ∷
    1 ∷ 0 ∷ 1 ∷
    3 ∷ 0 ∷ 1 ∷ 0 ∷ 2 ∷ 1 ∷ 2 ∷
    3 ∷ 2 ∷ 3 ∷ 2 ∷ 4 ∷ 3 ∷ 4 ∷
    0 ∷ []) ∷
    -- 17 before 18: Message with a load of x = 0, thread 1's order from 2 < 3 < 4
    alike (broken 17 48)
    (1 ∷ 2 ∷ 2 ∷ 0 ∷ 0 ∷
    5 ∷ 1 ∷ 0 ∷ 0 ∷ 1 ∷ 2 ∷ 0 ∷ 1 ∷ 0 ∷ 1 ∷ 1 ∷ 0 ∷ 1 ∷ 1 ∷ 1 ∷ 0 ∷ 1 ∷ 0 ∷ 0 ∷
    0 ∷ 2 ∷
    3 ∷ 0 ∷ 1 ∷ 0 ∷ 2 ∷ 1 ∷ 2 ∷
    3 ∷ 2 ∷ 3 ∷ 2 ∷ 4 ∷ 3 ∷ 4 ∷
    7 ∷ 0x4D ∷ 0x65 ∷ 0x73 ∷ 0x73 ∷ 0x61 ∷ 0x67 ∷ 0x65 ∷ []) ∷
    -- 18, e is anyone's: Message with the store to x on thread 2
    alike (broken 18 50)
    (1 ∷ 3 ∷ 2 ∷ 0 ∷ 0 ∷
    5 ∷ 1 ∷ 2 ∷ 0 ∷ 1 ∷ 2 ∷ 0 ∷ 1 ∷ 0 ∷ 1 ∷ 1 ∷ 0 ∷ 1 ∷ 1 ∷ 1 ∷ 0 ∷ 1 ∷ 0 ∷ 1 ∷
    0 ∷ 2 ∷
    3 ∷ 0 ∷ 1 ∷ 0 ∷ 2 ∷ 1 ∷ 2 ∷
    6 ∷ 0 ∷ 2 ∷ 0 ∷ 3 ∷ 0 ∷ 4 ∷ 2 ∷ 3 ∷ 2 ∷ 4 ∷ 3 ∷ 4 ∷
    1 ∷ 0 ∷ 2 ∷
    0 ∷ []) ∷
    -- 18, f is a sync: Message with a store to z in its stead
    alike (accepted 51 (1 ∷ 1 ∷ 1 ∷ 0 ∷ []))
    (1 ∷ 2 ∷ 3 ∷ 0 ∷ 0 ∷ 0 ∷
    5 ∷ 1 ∷ 0 ∷ 0 ∷ 1 ∷ 1 ∷ 0 ∷ 2 ∷ 1 ∷ 1 ∷ 0 ∷ 1 ∷ 1 ∷ 0 ∷ 1 ∷ 1 ∷ 1 ∷ 0 ∷ 1 ∷ 0 ∷ 1 ∷
    0 ∷ 2 ∷ 1 ∷
    3 ∷ 0 ∷ 1 ∷ 0 ∷ 2 ∷ 1 ∷ 2 ∷
    6 ∷ 0 ∷ 2 ∷ 0 ∷ 3 ∷ 0 ∷ 4 ∷ 2 ∷ 3 ∷ 2 ∷ 4 ∷ 3 ∷ 4 ∷
    0 ∷ []) ∷
    -- 18, f comes before s: the sync behind both stores
    alike (accepted 47 (1 ∷ 1 ∷ 0 ∷ 0 ∷ []))
    (1 ∷ 2 ∷ 2 ∷ 0 ∷ 0 ∷
    5 ∷ 1 ∷ 0 ∷ 1 ∷ 1 ∷ 1 ∷ 0 ∷ 0 ∷ 1 ∷ 2 ∷ 0 ∷ 0 ∷ 1 ∷ 0 ∷ 1 ∷ 0 ∷ 1 ∷ 1 ∷ 1 ∷
    1 ∷ 0 ∷
    3 ∷ 0 ∷ 1 ∷ 0 ∷ 2 ∷ 1 ∷ 2 ∷
    6 ∷ 0 ∷ 1 ∷ 0 ∷ 3 ∷ 0 ∷ 4 ∷ 1 ∷ 3 ∷ 1 ∷ 4 ∷ 3 ∷ 4 ∷
    0 ∷ []) ∷
    -- 18, s is of p: thread 1's store behind thread 0's sync
    alike (accepted 42 (1 ∷ 1 ∷ 0 ∷ 0 ∷ []))
    (1 ∷ 3 ∷ 2 ∷ 0 ∷ 0 ∷
    5 ∷ 1 ∷ 0 ∷ 0 ∷ 1 ∷ 2 ∷ 0 ∷ 1 ∷ 1 ∷ 1 ∷ 1 ∷ 0 ∷ 2 ∷ 1 ∷ 1 ∷ 0 ∷ 2 ∷ 0 ∷ 0 ∷
    0 ∷ 2 ∷
    3 ∷ 0 ∷ 1 ∷ 0 ∷ 2 ∷ 1 ∷ 2 ∷
    0 ∷
    3 ∷ 2 ∷ 3 ∷ 2 ∷ 4 ∷ 3 ∷ 4 ∷
    0 ∷ []) ∷
    -- Reads-from, l is a load: Message with a store to y in its stead
    alike (accepted 55 (1 ∷ 2 ∷ 0 ∷ 0 ∷ []))
    (1 ∷ 2 ∷ 2 ∷ 0 ∷ 0 ∷
    5 ∷ 1 ∷ 0 ∷ 0 ∷ 1 ∷ 2 ∷ 0 ∷ 1 ∷ 0 ∷ 1 ∷ 1 ∷ 1 ∷ 1 ∷ 1 ∷ 2 ∷ 0 ∷ 1 ∷ 0 ∷ 1 ∷
    0 ∷ 2 ∷ 3 ∷
    3 ∷ 0 ∷ 1 ∷ 0 ∷ 2 ∷ 1 ∷ 2 ∷
    6 ∷ 0 ∷ 2 ∷ 0 ∷ 3 ∷ 0 ∷ 4 ∷ 2 ∷ 3 ∷ 2 ∷ 4 ∷ 3 ∷ 4 ∷
    7 ∷ 0x4D ∷ 0x65 ∷ 0x73 ∷ 0x73 ∷ 0x61 ∷ 0x67 ∷ 0x65 ∷ []) ∷
    -- Reads-from, one address: Message with a load of z
    alike (accepted 48 (1 ∷ 1 ∷ 0 ∷ 0 ∷ []))
    (1 ∷ 2 ∷ 3 ∷ 0 ∷ 0 ∷ 0 ∷
    5 ∷ 1 ∷ 0 ∷ 0 ∷ 1 ∷ 2 ∷ 0 ∷ 1 ∷ 0 ∷ 1 ∷ 1 ∷ 0 ∷ 1 ∷ 2 ∷ 0 ∷ 0 ∷ 1 ∷ 0 ∷ 1 ∷
    0 ∷ 2 ∷
    3 ∷ 0 ∷ 1 ∷ 0 ∷ 2 ∷ 1 ∷ 2 ∷
    6 ∷ 0 ∷ 2 ∷ 0 ∷ 3 ∷ 0 ∷ 4 ∷ 2 ∷ 3 ∷ 2 ∷ 4 ∷ 3 ∷ 4 ∷
    0 ∷ []) ∷
    -- Reads-from, s precedes l: Message with loads of the initial values, before both stores
    alike (accepted 54 (1 ∷ 1 ∷ 0 ∷ 0 ∷ []))
    (1 ∷ 2 ∷ 2 ∷ 0 ∷ 0 ∷
    5 ∷ 1 ∷ 0 ∷ 0 ∷ 1 ∷ 2 ∷ 0 ∷ 1 ∷ 0 ∷ 1 ∷ 1 ∷ 0 ∷ 1 ∷ 1 ∷ 0 ∷ 0 ∷ 1 ∷ 0 ∷ 0 ∷
    0 ∷ 2 ∷
    3 ∷ 0 ∷ 1 ∷ 0 ∷ 2 ∷ 1 ∷ 2 ∷
    6 ∷ 0 ∷ 2 ∷ 3 ∷ 0 ∷ 3 ∷ 2 ∷ 3 ∷ 4 ∷ 4 ∷ 0 ∷ 4 ∷ 2 ∷
    7 ∷ 0x4D ∷ 0x65 ∷ 0x73 ∷ 0x73 ∷ 0x61 ∷ 0x67 ∷ 0x65 ∷ []) ∷
    -- Reads-from, a later store between s and l
    alike (accepted 60 (1 ∷ 1 ∷ 0 ∷ 0 ∷ []))
    (1 ∷ 2 ∷ 2 ∷ 0 ∷ 0 ∷
    6 ∷ 1 ∷ 0 ∷ 0 ∷ 1 ∷ 2 ∷ 0 ∷ 1 ∷ 0 ∷ 1 ∷ 1 ∷ 1 ∷ 1 ∷ 1 ∷ 1 ∷ 0 ∷ 1 ∷ 1 ∷ 1 ∷ 0 ∷ 1 ∷ 0 ∷ 1 ∷
    0 ∷ 2 ∷ 3 ∷
    3 ∷ 0 ∷ 1 ∷ 0 ∷ 2 ∷ 1 ∷ 2 ∷
    10 ∷ 0 ∷ 2 ∷ 0 ∷ 3 ∷ 0 ∷ 4 ∷ 0 ∷ 5 ∷ 2 ∷ 3 ∷ 2 ∷ 4 ∷ 2 ∷ 5 ∷ 3 ∷ 4 ∷ 3 ∷ 5 ∷ 4 ∷ 5 ∷
    0 ∷ []) ∷
    -- Reads-from, two stores that precede l in no order: it reads from neither, whatever the write order
    alike (accepted 56 (1 ∷ 1 ∷ 0 ∷ 0 ∷ []))
    (1 ∷ 2 ∷ 2 ∷ 0 ∷ 0 ∷
    6 ∷ 1 ∷ 0 ∷ 0 ∷ 1 ∷ 2 ∷ 0 ∷ 1 ∷ 0 ∷ 1 ∷ 1 ∷ 1 ∷ 1 ∷ 1 ∷ 1 ∷ 0 ∷ 1 ∷ 1 ∷ 1 ∷ 0 ∷ 1 ∷ 0 ∷ 1 ∷
    0 ∷ 3 ∷ 2 ∷
    3 ∷ 0 ∷ 1 ∷ 0 ∷ 2 ∷ 1 ∷ 2 ∷
    8 ∷ 0 ∷ 2 ∷ 0 ∷ 4 ∷ 0 ∷ 5 ∷ 2 ∷ 4 ∷ 2 ∷ 5 ∷ 3 ∷ 4 ∷ 3 ∷ 5 ∷ 4 ∷ 5 ∷
    0 ∷ []) ∷
    -- Reads-from, a store to another address between s and l: it reads from s all the same
    alike (broken 18 64)
    (1 ∷ 3 ∷ 3 ∷ 0 ∷ 0 ∷ 0 ∷
    6 ∷ 1 ∷ 0 ∷ 0 ∷ 1 ∷ 2 ∷ 0 ∷ 1 ∷ 0 ∷ 1 ∷ 1 ∷ 0 ∷ 1 ∷ 1 ∷ 1 ∷ 0 ∷ 1 ∷ 0 ∷ 1 ∷ 1 ∷ 2 ∷ 2 ∷ 1 ∷
    0 ∷ 2 ∷ 5 ∷
    3 ∷ 0 ∷ 1 ∷ 0 ∷ 2 ∷ 1 ∷ 2 ∷
    10 ∷ 0 ∷ 2 ∷ 0 ∷ 3 ∷ 0 ∷ 4 ∷ 0 ∷ 5 ∷ 2 ∷ 3 ∷ 2 ∷ 4 ∷ 2 ∷ 5 ∷ 3 ∷ 4 ∷ 5 ∷ 3 ∷ 5 ∷ 4 ∷
    1 ∷ 0 ∷ 2 ∷
    0 ∷ []) ∷
    -- Reads-from, another store to y that precedes s in the order of l's thread
    alike (broken 18 61)
    (1 ∷ 3 ∷ 2 ∷ 0 ∷ 0 ∷
    6 ∷ 1 ∷ 0 ∷ 0 ∷ 1 ∷ 2 ∷ 0 ∷ 1 ∷ 0 ∷ 1 ∷ 1 ∷ 0 ∷ 1 ∷ 1 ∷ 1 ∷ 0 ∷ 1 ∷ 0 ∷ 1 ∷ 1 ∷ 2 ∷ 1 ∷ 2 ∷
    0 ∷ 5 ∷ 2 ∷
    3 ∷ 0 ∷ 1 ∷ 0 ∷ 2 ∷ 1 ∷ 2 ∷
    9 ∷ 0 ∷ 2 ∷ 0 ∷ 3 ∷ 0 ∷ 4 ∷ 2 ∷ 3 ∷ 2 ∷ 4 ∷ 3 ∷ 4 ∷ 5 ∷ 2 ∷ 5 ∷ 3 ∷ 5 ∷ 4 ∷
    1 ∷ 0 ∷ 2 ∷
    0 ∷ []) ∷
    -- Reads-from, a store to y that doesn't precede l: it reads from s all the same
    alike (broken 18 55)
    (1 ∷ 3 ∷ 2 ∷ 0 ∷ 0 ∷
    6 ∷ 1 ∷ 0 ∷ 0 ∷ 1 ∷ 2 ∷ 0 ∷ 1 ∷ 0 ∷ 1 ∷ 1 ∷ 0 ∷ 1 ∷ 1 ∷ 1 ∷ 0 ∷ 1 ∷ 0 ∷ 1 ∷ 1 ∷ 2 ∷ 1 ∷ 2 ∷
    0 ∷ 2 ∷ 5 ∷
    3 ∷ 0 ∷ 1 ∷ 0 ∷ 2 ∷ 1 ∷ 2 ∷
    6 ∷ 0 ∷ 2 ∷ 0 ∷ 3 ∷ 0 ∷ 4 ∷ 2 ∷ 3 ∷ 2 ∷ 4 ∷ 3 ∷ 4 ∷
    1 ∷ 0 ∷ 2 ∷
    0 ∷ []) ∷
    []

-- Edition 2 (02 (vi)): what its rules say of lwsync and of dependencies
unfoldable pub second_cases : List Row
second_cases =
    -- SB: Dekker's events with lwsyncs, each thread's order its own three events: an lwsync doesn't order a store before a load
    alike (accepted 46 (1 ∷ 1 ∷ 0 ∷ 0 ∷ []))
    (2 ∷ 2 ∷ 2 ∷ 0 ∷ 0 ∷
    6 ∷ 1 ∷ 0 ∷ 0 ∷ 1 ∷ 3 ∷ 0 ∷ 0 ∷ 0 ∷ 1 ∷ 0 ∷ 1 ∷ 1 ∷ 1 ∷ 1 ∷ 3 ∷ 1 ∷ 0 ∷ 1 ∷ 0 ∷ 0 ∷
    0 ∷
    0 ∷ 3 ∷
    3 ∷ 0 ∷ 1 ∷ 0 ∷ 2 ∷ 1 ∷ 2 ∷
    3 ∷ 3 ∷ 4 ∷ 3 ∷ 5 ∷ 4 ∷ 5 ∷
    2 ∷ 0x53 ∷ 0x42 ∷ []) ∷
    -- SB with syncs
    alike (broken 17 46)
    (2 ∷ 2 ∷ 2 ∷ 0 ∷ 0 ∷
    6 ∷ 1 ∷ 0 ∷ 0 ∷ 1 ∷ 2 ∷ 0 ∷ 0 ∷ 0 ∷ 1 ∷ 0 ∷ 1 ∷ 1 ∷ 1 ∷ 1 ∷ 2 ∷ 1 ∷ 0 ∷ 1 ∷ 0 ∷ 0 ∷
    0 ∷
    0 ∷ 3 ∷
    3 ∷ 0 ∷ 1 ∷ 0 ∷ 2 ∷ 1 ∷ 2 ∷
    3 ∷ 3 ∷ 4 ∷ 3 ∷ 5 ∷ 4 ∷ 5 ∷
    2 ∷ 0x53 ∷ 0x42 ∷ []) ∷
    -- MP with lwsyncs, thread 1's order from 0 < 2 < 3 < 4 < 5, the last load holds 0
    alike (broken 16 60)
    (2 ∷ 2 ∷ 2 ∷ 0 ∷ 0 ∷
    6 ∷ 1 ∷ 0 ∷ 0 ∷ 1 ∷ 3 ∷ 0 ∷ 1 ∷ 0 ∷ 1 ∷ 1 ∷ 0 ∷ 1 ∷ 1 ∷ 1 ∷ 3 ∷ 1 ∷ 0 ∷ 1 ∷ 0 ∷ 0 ∷
    0 ∷
    0 ∷ 2 ∷
    3 ∷ 0 ∷ 1 ∷ 0 ∷ 2 ∷ 1 ∷ 2 ∷
    10 ∷ 0 ∷ 2 ∷ 0 ∷ 3 ∷ 0 ∷ 4 ∷ 0 ∷ 5 ∷ 2 ∷ 3 ∷ 2 ∷ 4 ∷ 2 ∷ 5 ∷ 3 ∷ 4 ∷ 3 ∷ 5 ∷ 4 ∷ 5 ∷
    2 ∷ 0x4D ∷ 0x50 ∷ []) ∷
    -- MP with one sync, thread 1's order from 4 < 0 < 2 < 3: its loads are free
    alike (accepted 50 (1 ∷ 1 ∷ 0 ∷ 0 ∷ []))
    (2 ∷ 2 ∷ 2 ∷ 0 ∷ 0 ∷
    5 ∷ 1 ∷ 0 ∷ 0 ∷ 1 ∷ 2 ∷ 0 ∷ 1 ∷ 0 ∷ 1 ∷ 1 ∷ 0 ∷ 1 ∷ 1 ∷ 1 ∷ 0 ∷ 1 ∷ 0 ∷ 0 ∷
    0 ∷
    0 ∷ 2 ∷
    3 ∷ 0 ∷ 1 ∷ 0 ∷ 2 ∷ 1 ∷ 2 ∷
    6 ∷ 0 ∷ 2 ∷ 0 ∷ 3 ∷ 2 ∷ 3 ∷ 4 ∷ 0 ∷ 4 ∷ 2 ∷ 4 ∷ 3 ∷
    2 ∷ 0x4D ∷ 0x50 ∷ []) ∷
    -- MP with an address dependency from 3 to 4: rule 13 orders them
    alike (broken 13 53)
    (2 ∷ 2 ∷ 2 ∷ 0 ∷ 0 ∷
    5 ∷ 1 ∷ 0 ∷ 0 ∷ 1 ∷ 2 ∷ 0 ∷ 1 ∷ 0 ∷ 1 ∷ 1 ∷ 0 ∷ 1 ∷ 1 ∷ 1 ∷ 0 ∷ 1 ∷ 0 ∷ 0 ∷
    1 ∷ 0 ∷ 3 ∷ 4 ∷
    0 ∷ 2 ∷
    3 ∷ 0 ∷ 1 ∷ 0 ∷ 2 ∷ 1 ∷ 2 ∷
    6 ∷ 0 ∷ 2 ∷ 0 ∷ 3 ∷ 2 ∷ 3 ∷ 4 ∷ 0 ∷ 4 ∷ 2 ∷ 4 ∷ 3 ∷
    2 ∷ 0x4D ∷ 0x50 ∷ []) ∷
    -- IRIW with lwsyncs, the storing threads hold 0 < 2 and 3 < 5: the lwsyncs order the loads
    judged (accepted 138 (1 ∷ 1 ∷ 0 ∷ 0 ∷ [])) (broken 15 138)
    (2 ∷ 4 ∷ 2 ∷ 0 ∷ 0 ∷
    8 ∷ 0 ∷ 0 ∷ 0 ∷ 1 ∷ 3 ∷ 0 ∷ 0 ∷ 0 ∷ 1 ∷ 0 ∷ 0 ∷ 1 ∷ 1 ∷ 1 ∷ 3 ∷ 1 ∷ 0 ∷ 1 ∷ 0 ∷ 0 ∷ 1 ∷ 2 ∷ 0 ∷ 1 ∷ 1 ∷ 3 ∷ 1 ∷ 1 ∷
    0 ∷
    6 ∷ 7 ∷
    21 ∷ 0 ∷ 1 ∷ 0 ∷ 2 ∷ 0 ∷ 3 ∷ 0 ∷ 5 ∷ 0 ∷ 7 ∷ 1 ∷ 2 ∷ 1 ∷ 3 ∷ 1 ∷ 5 ∷ 1 ∷ 7 ∷ 2 ∷ 3 ∷ 2 ∷ 5 ∷ 2 ∷ 7 ∷ 3 ∷ 5 ∷ 6 ∷ 0 ∷
    6 ∷ 1 ∷ 6 ∷ 2 ∷ 6 ∷ 3 ∷ 6 ∷ 5 ∷ 6 ∷ 7 ∷ 7 ∷ 3 ∷ 7 ∷ 5 ∷
    21 ∷ 0 ∷ 2 ∷ 3 ∷ 0 ∷ 3 ∷ 2 ∷ 3 ∷ 4 ∷ 3 ∷ 5 ∷ 3 ∷ 6 ∷ 4 ∷ 0 ∷ 4 ∷ 2 ∷ 4 ∷ 5 ∷ 4 ∷ 6 ∷ 5 ∷ 0 ∷ 5 ∷ 2 ∷ 5 ∷ 6 ∷ 6 ∷ 0 ∷
    6 ∷ 2 ∷ 7 ∷ 0 ∷ 7 ∷ 2 ∷ 7 ∷ 3 ∷ 7 ∷ 4 ∷ 7 ∷ 5 ∷ 7 ∷ 6 ∷
    2 ∷ 0 ∷ 2 ∷ 3 ∷ 5 ∷
    2 ∷ 0 ∷ 2 ∷ 3 ∷ 5 ∷
    4 ∷ 0x49 ∷ 0x52 ∷ 0x49 ∷ 0x57 ∷ []) ∷
    -- IRIW with syncs, the same orders
    judged (broken 17 138) (broken 15 138)
    (2 ∷ 4 ∷ 2 ∷ 0 ∷ 0 ∷
    8 ∷ 0 ∷ 0 ∷ 0 ∷ 1 ∷ 2 ∷ 0 ∷ 0 ∷ 0 ∷ 1 ∷ 0 ∷ 0 ∷ 1 ∷ 1 ∷ 1 ∷ 2 ∷ 1 ∷ 0 ∷ 1 ∷ 0 ∷ 0 ∷ 1 ∷ 2 ∷ 0 ∷ 1 ∷ 1 ∷ 3 ∷ 1 ∷ 1 ∷
    0 ∷
    6 ∷ 7 ∷
    21 ∷ 0 ∷ 1 ∷ 0 ∷ 2 ∷ 0 ∷ 3 ∷ 0 ∷ 5 ∷ 0 ∷ 7 ∷ 1 ∷ 2 ∷ 1 ∷ 3 ∷ 1 ∷ 5 ∷ 1 ∷ 7 ∷ 2 ∷ 3 ∷ 2 ∷ 5 ∷ 2 ∷ 7 ∷ 3 ∷ 5 ∷ 6 ∷ 0 ∷
    6 ∷ 1 ∷ 6 ∷ 2 ∷ 6 ∷ 3 ∷ 6 ∷ 5 ∷ 6 ∷ 7 ∷ 7 ∷ 3 ∷ 7 ∷ 5 ∷
    21 ∷ 0 ∷ 2 ∷ 3 ∷ 0 ∷ 3 ∷ 2 ∷ 3 ∷ 4 ∷ 3 ∷ 5 ∷ 3 ∷ 6 ∷ 4 ∷ 0 ∷ 4 ∷ 2 ∷ 4 ∷ 5 ∷ 4 ∷ 6 ∷ 5 ∷ 0 ∷ 5 ∷ 2 ∷ 5 ∷ 6 ∷ 6 ∷ 0 ∷
    6 ∷ 2 ∷ 7 ∷ 0 ∷ 7 ∷ 2 ∷ 7 ∷ 3 ∷ 7 ∷ 4 ∷ 7 ∷ 5 ∷ 7 ∷ 6 ∷
    2 ∷ 0 ∷ 2 ∷ 3 ∷ 5 ∷
    2 ∷ 0 ∷ 2 ∷ 3 ∷ 5 ∷
    4 ∷ 0x49 ∷ 0x52 ∷ 0x49 ∷ 0x57 ∷ []) ∷
    -- IRIW with lwsyncs, the storing threads hold nothing: an lwsync orders a load before a load
    judged (broken 17 130) (broken 16 130)
    (2 ∷ 4 ∷ 2 ∷ 0 ∷ 0 ∷
    8 ∷ 0 ∷ 0 ∷ 0 ∷ 1 ∷ 3 ∷ 0 ∷ 0 ∷ 0 ∷ 1 ∷ 0 ∷ 0 ∷ 1 ∷ 1 ∷ 1 ∷ 3 ∷ 1 ∷ 0 ∷ 1 ∷ 0 ∷ 0 ∷ 1 ∷ 2 ∷ 0 ∷ 1 ∷ 1 ∷ 3 ∷ 1 ∷ 1 ∷
    0 ∷
    6 ∷ 7 ∷
    21 ∷ 0 ∷ 1 ∷ 0 ∷ 2 ∷ 0 ∷ 3 ∷ 0 ∷ 5 ∷ 0 ∷ 7 ∷ 1 ∷ 2 ∷ 1 ∷ 3 ∷ 1 ∷ 5 ∷ 1 ∷ 7 ∷ 2 ∷ 3 ∷ 2 ∷ 5 ∷ 2 ∷ 7 ∷ 3 ∷ 5 ∷ 6 ∷ 0 ∷
    6 ∷ 1 ∷ 6 ∷ 2 ∷ 6 ∷ 3 ∷ 6 ∷ 5 ∷ 6 ∷ 7 ∷ 7 ∷ 3 ∷ 7 ∷ 5 ∷
    21 ∷ 0 ∷ 2 ∷ 3 ∷ 0 ∷ 3 ∷ 2 ∷ 3 ∷ 4 ∷ 3 ∷ 5 ∷ 3 ∷ 6 ∷ 4 ∷ 0 ∷ 4 ∷ 2 ∷ 4 ∷ 5 ∷ 4 ∷ 6 ∷ 5 ∷ 0 ∷ 5 ∷ 2 ∷ 5 ∷ 6 ∷ 6 ∷ 0 ∷
    6 ∷ 2 ∷ 7 ∷ 0 ∷ 7 ∷ 2 ∷ 7 ∷ 3 ∷ 7 ∷ 4 ∷ 7 ∷ 5 ∷ 7 ∷ 6 ∷
    0 ∷
    0 ∷
    4 ∷ 0x49 ∷ 0x52 ∷ 0x49 ∷ 0x57 ∷ []) ∷
    -- 13, the later one is an lwsync
    alike (broken 13 17)
    (2 ∷ 1 ∷ 1 ∷ 0 ∷
    2 ∷ 1 ∷ 0 ∷ 0 ∷ 1 ∷ 3 ∷ 0 ∷
    0 ∷
    0 ∷
    1 ∷ 1 ∷ 0 ∷
    0 ∷ []) ∷
    -- 13, the earlier one is an lwsync
    alike (broken 13 17)
    (2 ∷ 1 ∷ 1 ∷ 0 ∷
    2 ∷ 3 ∷ 0 ∷ 1 ∷ 0 ∷ 0 ∷ 1 ∷
    0 ∷
    1 ∷
    1 ∷ 1 ∷ 0 ∷
    0 ∷ []) ∷
    -- 13, a data dependency
    alike (broken 13 23)
    (2 ∷ 1 ∷ 2 ∷ 0 ∷ 0 ∷
    2 ∷ 0 ∷ 0 ∷ 0 ∷ 0 ∷ 1 ∷ 0 ∷ 1 ∷ 1 ∷
    1 ∷ 1 ∷ 0 ∷ 1 ∷
    1 ∷
    1 ∷ 1 ∷ 0 ∷
    0 ∷ []) ∷
    -- 13, a control dependency
    alike (broken 13 23)
    (2 ∷ 1 ∷ 2 ∷ 0 ∷ 0 ∷
    2 ∷ 0 ∷ 0 ∷ 0 ∷ 0 ∷ 1 ∷ 0 ∷ 1 ∷ 1 ∷
    1 ∷ 2 ∷ 0 ∷ 1 ∷
    1 ∷
    1 ∷ 1 ∷ 0 ∷
    0 ∷ []) ∷
    -- 13, a dependency from a load orders no other: 0 to 2 leaves 1 free
    alike (accepted 32 (0 ∷ 0 ∷ 1 ∷ 0 ∷ []))
    (2 ∷ 1 ∷ 3 ∷ 0 ∷ 0 ∷ 0 ∷
    3 ∷ 0 ∷ 0 ∷ 0 ∷ 0 ∷ 0 ∷ 0 ∷ 1 ∷ 0 ∷ 1 ∷ 0 ∷ 2 ∷ 1 ∷
    1 ∷ 1 ∷ 0 ∷ 2 ∷
    2 ∷
    3 ∷ 0 ∷ 2 ∷ 1 ∷ 0 ∷ 1 ∷ 2 ∷
    0 ∷ []) ∷
    -- 13, a dependency binds its own thread's order alone: thread 0 has thread 1's loads the other way
    alike (done 25)
    (2 ∷ 2 ∷ 2 ∷ 0 ∷ 0 ∷
    2 ∷ 0 ∷ 1 ∷ 0 ∷ 0 ∷ 0 ∷ 1 ∷ 1 ∷ 0 ∷
    1 ∷ 0 ∷ 0 ∷ 1 ∷
    1 ∷ 1 ∷ 0 ∷
    1 ∷ 0 ∷ 1 ∷
    0 ∷ []) ∷
    -- 13, every dependency counts: the first of two is broken
    alike (broken 13 36)
    (2 ∷ 1 ∷ 3 ∷ 0 ∷ 0 ∷ 0 ∷
    3 ∷ 0 ∷ 0 ∷ 0 ∷ 0 ∷ 1 ∷ 0 ∷ 1 ∷ 1 ∷ 1 ∷ 0 ∷ 2 ∷ 1 ∷
    2 ∷ 1 ∷ 0 ∷ 1 ∷ 1 ∷ 0 ∷ 2 ∷
    1 ∷ 2 ∷
    3 ∷ 0 ∷ 2 ∷ 1 ∷ 0 ∷ 1 ∷ 2 ∷
    0 ∷ []) ∷
    -- 13, every dependency counts: the second of two is broken
    alike (broken 13 36)
    (2 ∷ 1 ∷ 3 ∷ 0 ∷ 0 ∷ 0 ∷
    3 ∷ 0 ∷ 0 ∷ 0 ∷ 0 ∷ 1 ∷ 0 ∷ 1 ∷ 1 ∷ 1 ∷ 0 ∷ 2 ∷ 1 ∷
    2 ∷ 1 ∷ 0 ∷ 1 ∷ 1 ∷ 0 ∷ 2 ∷
    1 ∷ 2 ∷
    3 ∷ 0 ∷ 1 ∷ 2 ∷ 0 ∷ 2 ∷ 1 ∷
    0 ∷ []) ∷
    -- 17, an lwsync is cumulative, e is anyone's: thread 1's store before thread 0's lwsync and store
    alike (broken 17 28)
    (2 ∷ 2 ∷ 2 ∷ 0 ∷ 0 ∷
    3 ∷ 1 ∷ 1 ∷ 0 ∷ 1 ∷ 3 ∷ 0 ∷ 1 ∷ 0 ∷ 1 ∷ 1 ∷
    0 ∷
    0 ∷ 2 ∷
    3 ∷ 0 ∷ 1 ∷ 0 ∷ 2 ∷ 1 ∷ 2 ∷
    0 ∷
    0 ∷ []) ∷
    -- 17, an lwsync orders a load before a store
    alike (broken 17 27)
    (2 ∷ 2 ∷ 2 ∷ 0 ∷ 0 ∷
    3 ∷ 0 ∷ 0 ∷ 0 ∷ 0 ∷ 3 ∷ 0 ∷ 1 ∷ 0 ∷ 1 ∷ 1 ∷
    0 ∷
    2 ∷
    3 ∷ 0 ∷ 1 ∷ 0 ∷ 2 ∷ 1 ∷ 2 ∷
    0 ∷
    0 ∷ []) ∷
    -- 17, an lwsync doesn't order what is no load or store: e is a sync
    alike (accepted 24 (1 ∷ 0 ∷ 0 ∷ 0 ∷ []))
    (2 ∷ 2 ∷ 1 ∷ 0 ∷
    3 ∷ 2 ∷ 0 ∷ 3 ∷ 0 ∷ 1 ∷ 0 ∷ 0 ∷ 1 ∷
    0 ∷
    2 ∷
    3 ∷ 0 ∷ 1 ∷ 0 ∷ 2 ∷ 1 ∷ 2 ∷
    0 ∷
    0 ∷ []) ∷
    -- 17, nor where e' is a sync
    alike (accepted 24 (1 ∷ 0 ∷ 0 ∷ 0 ∷ []))
    (2 ∷ 2 ∷ 1 ∷ 0 ∷
    3 ∷ 1 ∷ 0 ∷ 0 ∷ 1 ∷ 3 ∷ 0 ∷ 2 ∷ 0 ∷
    0 ∷
    0 ∷
    3 ∷ 0 ∷ 1 ∷ 0 ∷ 2 ∷ 1 ∷ 2 ∷
    0 ∷
    0 ∷ []) ∷
    -- 18, an lwsync is cumulative through a load that reads from behind it, where e' is a store
    alike (broken 18 50)
    (2 ∷ 2 ∷ 3 ∷ 0 ∷ 0 ∷ 0 ∷
    5 ∷ 1 ∷ 0 ∷ 0 ∷ 1 ∷ 3 ∷ 0 ∷ 1 ∷ 0 ∷ 1 ∷ 1 ∷ 0 ∷ 1 ∷ 1 ∷ 1 ∷ 1 ∷ 1 ∷ 2 ∷ 1 ∷
    0 ∷
    0 ∷ 2 ∷ 4 ∷
    3 ∷ 0 ∷ 1 ∷ 0 ∷ 2 ∷ 1 ∷ 2 ∷
    6 ∷ 0 ∷ 2 ∷ 0 ∷ 3 ∷ 0 ∷ 4 ∷ 2 ∷ 3 ∷ 2 ∷ 4 ∷ 3 ∷ 4 ∷
    0 ∷ []) ∷
    -- 18, the same where e is thread 2's
    alike (broken 18 53)
    (2 ∷ 3 ∷ 3 ∷ 0 ∷ 0 ∷ 0 ∷
    5 ∷ 1 ∷ 2 ∷ 0 ∷ 1 ∷ 3 ∷ 0 ∷ 1 ∷ 0 ∷ 1 ∷ 1 ∷ 0 ∷ 1 ∷ 1 ∷ 1 ∷ 1 ∷ 1 ∷ 2 ∷ 1 ∷
    0 ∷
    0 ∷ 2 ∷ 4 ∷
    3 ∷ 0 ∷ 1 ∷ 0 ∷ 2 ∷ 1 ∷ 2 ∷
    6 ∷ 0 ∷ 2 ∷ 0 ∷ 3 ∷ 0 ∷ 4 ∷ 2 ∷ 3 ∷ 2 ∷ 4 ∷ 3 ∷ 4 ∷
    1 ∷ 0 ∷ 2 ∷
    0 ∷ []) ∷
    -- 18, with the pair 0, 4 in thread 0's order
    alike (accepted 52 (1 ∷ 1 ∷ 1 ∷ 0 ∷ []))
    (2 ∷ 2 ∷ 3 ∷ 0 ∷ 0 ∷ 0 ∷
    5 ∷ 1 ∷ 0 ∷ 0 ∷ 1 ∷ 3 ∷ 0 ∷ 1 ∷ 0 ∷ 1 ∷ 1 ∷ 0 ∷ 1 ∷ 1 ∷ 1 ∷ 1 ∷ 1 ∷ 2 ∷ 1 ∷
    0 ∷
    0 ∷ 2 ∷ 4 ∷
    4 ∷ 0 ∷ 1 ∷ 0 ∷ 2 ∷ 0 ∷ 4 ∷ 1 ∷ 2 ∷
    6 ∷ 0 ∷ 2 ∷ 0 ∷ 3 ∷ 0 ∷ 4 ∷ 2 ∷ 3 ∷ 2 ∷ 4 ∷ 3 ∷ 4 ∷
    0 ∷ []) ∷
    -- 18, not where e' is a load: Message with an lwsync
    alike (accepted 55 (1 ∷ 1 ∷ 0 ∷ 0 ∷ []))
    (2 ∷ 2 ∷ 2 ∷ 0 ∷ 0 ∷
    5 ∷ 1 ∷ 0 ∷ 0 ∷ 1 ∷ 3 ∷ 0 ∷ 1 ∷ 0 ∷ 1 ∷ 1 ∷ 0 ∷ 1 ∷ 1 ∷ 1 ∷ 0 ∷ 1 ∷ 0 ∷ 1 ∷
    0 ∷
    0 ∷ 2 ∷
    3 ∷ 0 ∷ 1 ∷ 0 ∷ 2 ∷ 1 ∷ 2 ∷
    6 ∷ 0 ∷ 2 ∷ 0 ∷ 3 ∷ 0 ∷ 4 ∷ 2 ∷ 3 ∷ 2 ∷ 4 ∷ 3 ∷ 4 ∷
    7 ∷ 0x4D ∷ 0x65 ∷ 0x73 ∷ 0x73 ∷ 0x61 ∷ 0x67 ∷ 0x65 ∷ []) ∷
    -- 18, nor where e' is a barrier
    alike (accepted 46 (1 ∷ 1 ∷ 0 ∷ 0 ∷ []))
    (2 ∷ 2 ∷ 2 ∷ 0 ∷ 0 ∷
    5 ∷ 1 ∷ 0 ∷ 0 ∷ 1 ∷ 3 ∷ 0 ∷ 1 ∷ 0 ∷ 1 ∷ 1 ∷ 0 ∷ 1 ∷ 1 ∷ 1 ∷ 2 ∷ 1 ∷
    0 ∷
    0 ∷ 2 ∷
    3 ∷ 0 ∷ 1 ∷ 0 ∷ 2 ∷ 1 ∷ 2 ∷
    6 ∷ 0 ∷ 2 ∷ 0 ∷ 3 ∷ 0 ∷ 4 ∷ 2 ∷ 3 ∷ 2 ∷ 4 ∷ 3 ∷ 4 ∷
    0 ∷ []) ∷
    -- 18, but where e is a load
    alike (broken 18 47)
    (2 ∷ 2 ∷ 2 ∷ 0 ∷ 0 ∷
    5 ∷ 0 ∷ 0 ∷ 0 ∷ 0 ∷ 3 ∷ 0 ∷ 1 ∷ 0 ∷ 1 ∷ 1 ∷ 0 ∷ 1 ∷ 1 ∷ 1 ∷ 0 ∷ 1 ∷ 0 ∷ 0 ∷
    0 ∷
    2 ∷
    3 ∷ 0 ∷ 1 ∷ 0 ∷ 2 ∷ 1 ∷ 2 ∷
    6 ∷ 0 ∷ 2 ∷ 0 ∷ 3 ∷ 0 ∷ 4 ∷ 2 ∷ 3 ∷ 2 ∷ 4 ∷ 3 ∷ 4 ∷
    0 ∷ []) ∷
    []

-- Edition 2, byte by byte
unfoldable pub second_layout_cases : List Row
second_layout_cases =
    -- No dependencies
    alike (accepted 20 (1 ∷ 0 ∷ 0 ∷ 0 ∷ []))
    (2 ∷ 1 ∷ 1 ∷ 0 ∷
    2 ∷ 0 ∷ 0 ∷ 0 ∷ 0 ∷ 1 ∷ 0 ∷ 0 ∷ 1 ∷
    0 ∷
    1 ∷
    1 ∷ 0 ∷ 1 ∷
    1 ∷ 0x61 ∷ []) ∷
    -- A load and a store that depends on it by each class
    alike (accepted 29 (1 ∷ 0 ∷ 0 ∷ 0 ∷ []))
    (2 ∷ 1 ∷ 1 ∷ 0 ∷
    2 ∷ 0 ∷ 0 ∷ 0 ∷ 0 ∷ 1 ∷ 0 ∷ 0 ∷ 1 ∷
    3 ∷ 0 ∷ 0 ∷ 1 ∷ 1 ∷ 0 ∷ 1 ∷ 2 ∷ 0 ∷ 1 ∷
    1 ∷
    1 ∷ 0 ∷ 1 ∷
    1 ∷ 0x61 ∷ []) ∷
    -- A load that depends on a load by its address
    alike (done 22)
    (2 ∷ 1 ∷ 1 ∷ 0 ∷
    2 ∷ 0 ∷ 0 ∷ 0 ∷ 0 ∷ 0 ∷ 0 ∷ 0 ∷ 0 ∷
    1 ∷ 0 ∷ 0 ∷ 1 ∷
    1 ∷ 0 ∷ 1 ∷
    1 ∷ 0x61 ∷ []) ∷
    -- Kind 4
    alike (refusal 3 5)
    (2 ∷ 1 ∷ 1 ∷ 0 ∷
    2 ∷ 4 ∷ 0 ∷ 1 ∷ 0 ∷ 0 ∷ 1 ∷
    0 ∷
    1 ∷
    1 ∷ 0 ∷ 1 ∷
    1 ∷ 0x61 ∷ []) ∷
    -- 64 events, the last of which depends on the one before; the first comes before itself
    alike (broken 11 146)
    (2 ∷ 1 ∷ 1 ∷ 0 ∷
    64 ∷ (syncs 62 ++
    (0 ∷ 0 ∷ 0 ∷ 0 ∷ 1 ∷ 0 ∷ 0 ∷ 1 ∷
    1 ∷ 1 ∷ 62 ∷ 63 ∷
    63 ∷
    1 ∷ 0 ∷ 0 ∷
    0 ∷ []))) ∷
    -- 65 events
    alike (refusal 3 4)
    (2 ∷ 1 ∷ 1 ∷ 0 ∷
    65 ∷ (syncs 65 ++
    (0 ∷
    0 ∷
    0 ∷ []))) ∷
    -- 97 dependencies
    alike (refusal 3 13)
    (2 ∷ 1 ∷ 1 ∷ 0 ∷
    2 ∷ 0 ∷ 0 ∷ 0 ∷ 0 ∷ 1 ∷ 0 ∷ 0 ∷ 1 ∷
    97 ∷ 0 ∷ 0 ∷ 1 ∷
    1 ∷
    1 ∷ 0 ∷ 1 ∷
    1 ∷ 0x61 ∷ []) ∷
    -- Class 3
    alike (refusal 3 14)
    (2 ∷ 1 ∷ 1 ∷ 0 ∷
    2 ∷ 0 ∷ 0 ∷ 0 ∷ 0 ∷ 1 ∷ 0 ∷ 0 ∷ 1 ∷
    1 ∷ 3 ∷ 0 ∷ 1 ∷
    1 ∷
    1 ∷ 0 ∷ 1 ∷
    1 ∷ 0x61 ∷ []) ∷
    -- From k
    alike (refusal 3 15)
    (2 ∷ 1 ∷ 1 ∷ 0 ∷
    2 ∷ 0 ∷ 0 ∷ 0 ∷ 0 ∷ 1 ∷ 0 ∷ 0 ∷ 1 ∷
    1 ∷ 0 ∷ 2 ∷ 1 ∷
    1 ∷
    1 ∷ 0 ∷ 1 ∷
    1 ∷ 0x61 ∷ []) ∷
    -- To k
    alike (refusal 3 16)
    (2 ∷ 1 ∷ 1 ∷ 0 ∷
    2 ∷ 0 ∷ 0 ∷ 0 ∷ 0 ∷ 1 ∷ 0 ∷ 0 ∷ 1 ∷
    1 ∷ 0 ∷ 0 ∷ 2 ∷
    1 ∷
    1 ∷ 0 ∷ 1 ∷
    1 ∷ 0x61 ∷ []) ∷
    -- To k, from a store: tested for 4 once all three are read
    alike (refusal 3 16)
    (2 ∷ 1 ∷ 1 ∷ 0 ∷
    2 ∷ 0 ∷ 0 ∷ 0 ∷ 0 ∷ 1 ∷ 0 ∷ 0 ∷ 1 ∷
    1 ∷ 0 ∷ 1 ∷ 2 ∷
    1 ∷
    1 ∷ 0 ∷ 1 ∷
    1 ∷ 0x61 ∷ []) ∷
    -- Without events no number is an event's
    alike (refusal 3 7)
    (2 ∷ 1 ∷ 1 ∷ 0 ∷
    0 ∷
    1 ∷ 0 ∷ 0 ∷ 0 ∷
    0 ∷
    1 ∷ 0x61 ∷ []) ∷
    -- A data dependency into a load
    alike (refusal 4 14)
    (2 ∷ 1 ∷ 1 ∷ 0 ∷
    2 ∷ 0 ∷ 0 ∷ 0 ∷ 0 ∷ 0 ∷ 0 ∷ 0 ∷ 0 ∷
    1 ∷ 1 ∷ 0 ∷ 1 ∷
    1 ∷ 0 ∷ 1 ∷
    1 ∷ 0x61 ∷ []) ∷
    -- A control dependency to a load
    alike (refusal 4 14)
    (2 ∷ 1 ∷ 1 ∷ 0 ∷
    2 ∷ 0 ∷ 0 ∷ 0 ∷ 0 ∷ 0 ∷ 0 ∷ 0 ∷ 0 ∷
    1 ∷ 2 ∷ 0 ∷ 1 ∷
    1 ∷ 0 ∷ 1 ∷
    1 ∷ 0x61 ∷ []) ∷
    -- From a store
    alike (refusal 4 14)
    (2 ∷ 1 ∷ 1 ∷ 0 ∷
    2 ∷ 1 ∷ 0 ∷ 0 ∷ 0 ∷ 0 ∷ 0 ∷ 0 ∷ 0 ∷
    1 ∷ 0 ∷ 0 ∷ 1 ∷
    0 ∷
    1 ∷ 0 ∷ 1 ∷
    1 ∷ 0x61 ∷ []) ∷
    -- From an lwsync
    alike (refusal 4 12)
    (2 ∷ 1 ∷ 1 ∷ 0 ∷
    2 ∷ 3 ∷ 0 ∷ 0 ∷ 0 ∷ 0 ∷ 0 ∷
    1 ∷ 0 ∷ 0 ∷ 1 ∷
    1 ∷ 0 ∷ 1 ∷
    1 ∷ 0x61 ∷ []) ∷
    -- To a sync
    alike (refusal 4 12)
    (2 ∷ 1 ∷ 1 ∷ 0 ∷
    2 ∷ 0 ∷ 0 ∷ 0 ∷ 0 ∷ 2 ∷ 0 ∷
    1 ∷ 0 ∷ 0 ∷ 1 ∷
    1 ∷ 0 ∷ 1 ∷
    1 ∷ 0x61 ∷ []) ∷
    -- To an lwsync
    alike (refusal 4 12)
    (2 ∷ 1 ∷ 1 ∷ 0 ∷
    2 ∷ 0 ∷ 0 ∷ 0 ∷ 0 ∷ 3 ∷ 0 ∷
    1 ∷ 0 ∷ 0 ∷ 1 ∷
    1 ∷ 0 ∷ 1 ∷
    1 ∷ 0x61 ∷ []) ∷
    -- To itself
    alike (refusal 4 14)
    (2 ∷ 1 ∷ 1 ∷ 0 ∷
    2 ∷ 0 ∷ 0 ∷ 0 ∷ 0 ∷ 1 ∷ 0 ∷ 0 ∷ 1 ∷
    1 ∷ 0 ∷ 0 ∷ 0 ∷
    1 ∷
    1 ∷ 0 ∷ 1 ∷
    1 ∷ 0x61 ∷ []) ∷
    -- To an event listed before
    alike (refusal 4 14)
    (2 ∷ 1 ∷ 1 ∷ 0 ∷
    2 ∷ 0 ∷ 0 ∷ 0 ∷ 0 ∷ 0 ∷ 0 ∷ 0 ∷ 0 ∷
    1 ∷ 0 ∷ 1 ∷ 0 ∷
    1 ∷ 0 ∷ 1 ∷
    1 ∷ 0x61 ∷ []) ∷
    -- Across threads
    alike (refusal 4 14)
    (2 ∷ 2 ∷ 1 ∷ 0 ∷
    2 ∷ 0 ∷ 0 ∷ 0 ∷ 0 ∷ 1 ∷ 1 ∷ 0 ∷ 1 ∷
    1 ∷ 0 ∷ 0 ∷ 1 ∷
    1 ∷
    0 ∷
    0 ∷
    1 ∷ 0x61 ∷ []) ∷
    -- One equal to the one before
    alike (refusal 4 17)
    (2 ∷ 1 ∷ 1 ∷ 0 ∷
    2 ∷ 0 ∷ 0 ∷ 0 ∷ 0 ∷ 1 ∷ 0 ∷ 0 ∷ 1 ∷
    2 ∷ 1 ∷ 0 ∷ 1 ∷ 1 ∷ 0 ∷ 1 ∷
    1 ∷
    1 ∷ 0 ∷ 1 ∷
    1 ∷ 0x61 ∷ []) ∷
    -- One that falls by its class
    alike (refusal 4 17)
    (2 ∷ 1 ∷ 1 ∷ 0 ∷
    2 ∷ 0 ∷ 0 ∷ 0 ∷ 0 ∷ 1 ∷ 0 ∷ 0 ∷ 1 ∷
    2 ∷ 1 ∷ 0 ∷ 1 ∷ 0 ∷ 0 ∷ 1 ∷
    1 ∷
    1 ∷ 0 ∷ 1 ∷
    1 ∷ 0x61 ∷ []) ∷
    -- One that falls by its second event
    alike (refusal 4 21)
    (2 ∷ 1 ∷ 1 ∷ 0 ∷
    3 ∷ 0 ∷ 0 ∷ 0 ∷ 0 ∷ 0 ∷ 0 ∷ 0 ∷ 0 ∷ 1 ∷ 0 ∷ 0 ∷ 1 ∷
    2 ∷ 1 ∷ 0 ∷ 2 ∷ 0 ∷ 0 ∷ 1 ∷
    2 ∷
    3 ∷ 0 ∷ 1 ∷ 0 ∷ 2 ∷ 1 ∷ 2 ∷
    1 ∷ 0x61 ∷ []) ∷
    -- One that falls by its first event
    alike (refusal 4 21)
    (2 ∷ 1 ∷ 1 ∷ 0 ∷
    3 ∷ 0 ∷ 0 ∷ 0 ∷ 0 ∷ 0 ∷ 0 ∷ 0 ∷ 0 ∷ 1 ∷ 0 ∷ 0 ∷ 1 ∷
    2 ∷ 0 ∷ 1 ∷ 2 ∷ 0 ∷ 0 ∷ 1 ∷
    2 ∷
    3 ∷ 0 ∷ 1 ∷ 0 ∷ 2 ∷ 1 ∷ 2 ∷
    1 ∷ 0x61 ∷ []) ∷
    -- They rise by the first event, then by the second, then by class
    alike (accepted 40 (1 ∷ 0 ∷ 0 ∷ 0 ∷ []))
    (2 ∷ 1 ∷ 1 ∷ 0 ∷
    3 ∷ 0 ∷ 0 ∷ 0 ∷ 0 ∷ 0 ∷ 0 ∷ 0 ∷ 0 ∷ 1 ∷ 0 ∷ 0 ∷ 1 ∷
    4 ∷ 0 ∷ 0 ∷ 1 ∷ 0 ∷ 0 ∷ 2 ∷ 2 ∷ 0 ∷ 2 ∷ 1 ∷ 1 ∷ 2 ∷
    2 ∷
    3 ∷ 0 ∷ 1 ∷ 0 ∷ 2 ∷ 1 ∷ 2 ∷
    1 ∷ 0x61 ∷ []) ∷
    -- The bytes end inside a dependency: the place is its third number's
    alike (refusal 1 16)
    (2 ∷ 1 ∷ 1 ∷ 0 ∷
    2 ∷ 0 ∷ 0 ∷ 0 ∷ 0 ∷ 1 ∷ 0 ∷ 0 ∷ 1 ∷
    1 ∷ 0 ∷ 0 ∷ []) ∷
    -- 96 dependencies
    alike (broken 12 417)
    (2 ∷ 1 ∷ 4 ∷ 0 ∷ 0 ∷ 0 ∷ 0 ∷
    24 ∷ 0 ∷ 0 ∷ 0 ∷ 0 ∷ 0 ∷ 0 ∷ 1 ∷ 0 ∷ 1 ∷ 0 ∷ 0 ∷ 1 ∷ 1 ∷ 0 ∷ 1 ∷ 1 ∷ 1 ∷ 0 ∷ 2 ∷ 1 ∷ 1 ∷ 0 ∷ 3 ∷ 1 ∷ 1 ∷ 0 ∷ 0 ∷ 1 ∷
    1 ∷ 0 ∷ 1 ∷ 1 ∷ 1 ∷ 0 ∷ 2 ∷ 1 ∷ 1 ∷ 0 ∷ 3 ∷ 1 ∷ 1 ∷ 0 ∷ 0 ∷ 1 ∷ 1 ∷ 0 ∷ 1 ∷ 1 ∷ 1 ∷ 0 ∷ 2 ∷ 1 ∷ 1 ∷ 0 ∷ 3 ∷ 1 ∷ 1 ∷
    0 ∷ 0 ∷ 1 ∷ 1 ∷ 0 ∷ 1 ∷ 1 ∷ 1 ∷ 0 ∷ 2 ∷ 1 ∷ 1 ∷ 0 ∷ 3 ∷ 1 ∷ 1 ∷ 0 ∷ 0 ∷ 1 ∷ 1 ∷ 0 ∷ 1 ∷ 1 ∷ 1 ∷ 0 ∷ 2 ∷ 1 ∷ 1 ∷ 0 ∷
    3 ∷ 1 ∷ 1 ∷ 0 ∷ 0 ∷ 1 ∷ 1 ∷ 0 ∷ 1 ∷ 1 ∷
    96 ∷ 0 ∷ 0 ∷ 1 ∷ 0 ∷ 0 ∷ 2 ∷ 1 ∷ 0 ∷ 2 ∷ 2 ∷ 0 ∷ 2 ∷ 0 ∷ 0 ∷ 3 ∷ 1 ∷ 0 ∷ 3 ∷ 2 ∷ 0 ∷ 3 ∷ 0 ∷ 0 ∷ 4 ∷ 1 ∷ 0 ∷ 4 ∷ 2 ∷
    0 ∷ 4 ∷ 0 ∷ 0 ∷ 5 ∷ 1 ∷ 0 ∷ 5 ∷ 2 ∷ 0 ∷ 5 ∷ 0 ∷ 0 ∷ 6 ∷ 1 ∷ 0 ∷ 6 ∷ 2 ∷ 0 ∷ 6 ∷ 0 ∷ 0 ∷ 7 ∷ 1 ∷ 0 ∷ 7 ∷ 2 ∷ 0 ∷ 7 ∷
    0 ∷ 0 ∷ 8 ∷ 1 ∷ 0 ∷ 8 ∷ 2 ∷ 0 ∷ 8 ∷ 0 ∷ 0 ∷ 9 ∷ 1 ∷ 0 ∷ 9 ∷ 2 ∷ 0 ∷ 9 ∷ 0 ∷ 0 ∷ 10 ∷ 1 ∷ 0 ∷ 10 ∷ 2 ∷ 0 ∷ 10 ∷ 0 ∷
    0 ∷ 11 ∷ 1 ∷ 0 ∷ 11 ∷ 2 ∷ 0 ∷ 11 ∷ 0 ∷ 0 ∷ 12 ∷ 1 ∷ 0 ∷ 12 ∷ 2 ∷ 0 ∷ 12 ∷ 0 ∷ 0 ∷ 13 ∷ 1 ∷ 0 ∷ 13 ∷ 2 ∷ 0 ∷ 13 ∷ 0 ∷
    0 ∷ 14 ∷ 1 ∷ 0 ∷ 14 ∷ 2 ∷ 0 ∷ 14 ∷ 0 ∷ 0 ∷ 15 ∷ 1 ∷ 0 ∷ 15 ∷ 2 ∷ 0 ∷ 15 ∷ 0 ∷ 0 ∷ 16 ∷ 1 ∷ 0 ∷ 16 ∷ 2 ∷ 0 ∷ 16 ∷ 0 ∷
    0 ∷ 17 ∷ 1 ∷ 0 ∷ 17 ∷ 2 ∷ 0 ∷ 17 ∷ 0 ∷ 0 ∷ 18 ∷ 1 ∷ 0 ∷ 18 ∷ 2 ∷ 0 ∷ 18 ∷ 0 ∷ 0 ∷ 19 ∷ 1 ∷ 0 ∷ 19 ∷ 2 ∷ 0 ∷ 19 ∷ 0 ∷
    0 ∷ 20 ∷ 1 ∷ 0 ∷ 20 ∷ 2 ∷ 0 ∷ 20 ∷ 0 ∷ 0 ∷ 21 ∷ 1 ∷ 0 ∷ 21 ∷ 2 ∷ 0 ∷ 21 ∷ 0 ∷ 0 ∷ 22 ∷ 1 ∷ 0 ∷ 22 ∷ 2 ∷ 0 ∷ 22 ∷ 0 ∷
    0 ∷ 23 ∷ 1 ∷ 0 ∷ 23 ∷ 2 ∷ 0 ∷ 23 ∷ 0 ∷ 1 ∷ 2 ∷ 1 ∷ 1 ∷ 2 ∷ 2 ∷ 1 ∷ 2 ∷ 0 ∷ 1 ∷ 3 ∷ 1 ∷ 1 ∷ 3 ∷ 2 ∷ 1 ∷ 3 ∷ 0 ∷ 1 ∷
    4 ∷ 1 ∷ 1 ∷ 4 ∷ 2 ∷ 1 ∷ 4 ∷ 0 ∷ 1 ∷ 5 ∷ 1 ∷ 1 ∷ 5 ∷ 2 ∷ 1 ∷ 5 ∷ 0 ∷ 1 ∷ 6 ∷ 1 ∷ 1 ∷ 6 ∷ 2 ∷ 1 ∷ 6 ∷ 0 ∷ 1 ∷ 7 ∷ 1 ∷
    1 ∷ 7 ∷ 2 ∷ 1 ∷ 7 ∷ 0 ∷ 1 ∷ 8 ∷ 1 ∷ 1 ∷ 8 ∷ 2 ∷ 1 ∷ 8 ∷ 0 ∷ 1 ∷ 9 ∷ 1 ∷ 1 ∷ 9 ∷ 2 ∷ 1 ∷ 9 ∷ 0 ∷ 1 ∷ 10 ∷ 1 ∷ 1 ∷ 10 ∷
    2 ∷ 1 ∷ 10 ∷ 0 ∷ 1 ∷ 11 ∷ 1 ∷ 1 ∷ 11 ∷
    2 ∷ 6 ∷ 10 ∷ 14 ∷ 18 ∷ 22 ∷ 3 ∷ 7 ∷ 11 ∷ 15 ∷ 19 ∷ 23 ∷ 4 ∷ 8 ∷ 12 ∷ 16 ∷ 20 ∷ 5 ∷ 9 ∷ 13 ∷ 17 ∷ 21 ∷
    0 ∷
    0 ∷ []) ∷
    []

-- The layout, byte by byte
unfoldable pub layout_cases : List Row
layout_cases =
    -- Empty input
    alike (refusal 1 0)
    [] ∷
    -- No events
    alike (done 7)
    (1 ∷ 1 ∷ 1 ∷ 0 ∷
    0 ∷
    0 ∷
    0 ∷ []) ∷
    -- Bytes behind the record are not read
    alike (accepted 19 (1 ∷ 0 ∷ 0 ∷ 0 ∷ []))
    (1 ∷ 1 ∷ 1 ∷ 0 ∷
    2 ∷ 1 ∷ 0 ∷ 0 ∷ 1 ∷ 0 ∷ 0 ∷ 0 ∷ 1 ∷
    0 ∷
    1 ∷ 0 ∷ 1 ∷
    1 ∷ 97 ∷
    9 ∷ 0x09 ∷ []) ∷
    -- Edition 3
    alike (refusal 3 0)
    (3 ∷ 1 ∷ 1 ∷ 0 ∷
    2 ∷ 1 ∷ 0 ∷ 0 ∷ 1 ∷ 0 ∷ 0 ∷ 0 ∷ 1 ∷
    0 ∷
    1 ∷ 0 ∷ 1 ∷
    1 ∷ 0x61 ∷ []) ∷
    -- Edition 0
    alike (refusal 3 0)
    (0 ∷ 1 ∷ 1 ∷ 0 ∷
    2 ∷ 1 ∷ 0 ∷ 0 ∷ 1 ∷ 0 ∷ 0 ∷ 0 ∷ 1 ∷
    0 ∷
    1 ∷ 0 ∷ 1 ∷
    1 ∷ 0x61 ∷ []) ∷
    -- n = 5
    alike (refusal 3 1)
    (1 ∷ 5 ∷ 1 ∷ 0 ∷
    2 ∷ 1 ∷ 0 ∷ 0 ∷ 1 ∷ 0 ∷ 0 ∷ 0 ∷ 1 ∷
    0 ∷
    1 ∷ 0 ∷ 1 ∷
    1 ∷ 0x61 ∷ []) ∷
    -- n = 0
    alike (refusal 3 1)
    (1 ∷ 0 ∷ 1 ∷ 0 ∷
    2 ∷ 1 ∷ 0 ∷ 0 ∷ 1 ∷ 0 ∷ 0 ∷ 0 ∷ 1 ∷
    0 ∷
    1 ∷ 0 ∷ 1 ∷
    1 ∷ 0x61 ∷ []) ∷
    -- m = 5
    alike (refusal 3 2)
    (1 ∷ 1 ∷ 5 ∷ 0 ∷
    2 ∷ 1 ∷ 0 ∷ 0 ∷ 1 ∷ 0 ∷ 0 ∷ 0 ∷ 1 ∷
    0 ∷
    1 ∷ 0 ∷ 1 ∷
    1 ∷ 0x61 ∷ []) ∷
    -- m = 0
    alike (refusal 3 2)
    (1 ∷ 1 ∷ 0 ∷ 0 ∷
    2 ∷ 1 ∷ 0 ∷ 0 ∷ 1 ∷ 0 ∷ 0 ∷ 0 ∷ 1 ∷
    0 ∷
    1 ∷ 0 ∷ 1 ∷
    1 ∷ 0x61 ∷ []) ∷
    -- Initial value 80 00: the last of several groups is zero
    alike (refusal 2 3)
    (1 ∷ 1 ∷ 1 ∷ 0x80 ∷ 0 ∷
    2 ∷ 1 ∷ 0 ∷ 0 ∷ 1 ∷ 0 ∷ 0 ∷ 0 ∷ 1 ∷
    0 ∷
    1 ∷ 0 ∷ 1 ∷
    1 ∷ 0x61 ∷ []) ∷
    -- 80 80 80 at the end, and 80 80: the bytes end inside a number
    alike (refusal 1 3)
    (1 ∷ 0x01 ∷ 0x01 ∷ 0x80 ∷ 0x80 ∷ 0x80 ∷ []) ∷
    alike (refusal 1 3)
    (1 ∷ 0x01 ∷ 0x01 ∷ 0x80 ∷ 0x80 ∷ []) ∷
    -- 80 80 04 is 65,536
    alike (accepted 21 (1 ∷ 0 ∷ 0 ∷ 0 ∷ []))
    (1 ∷ 1 ∷ 1 ∷ 0x80 ∷ 0x80 ∷ 4 ∷
    2 ∷ 1 ∷ 0 ∷ 0 ∷ 1 ∷ 0 ∷ 0 ∷ 0 ∷ 1 ∷
    0 ∷
    1 ∷ 0 ∷ 1 ∷
    1 ∷ 0x61 ∷ []) ∷
    -- FF FF 03 is 65,535
    alike (accepted 21 (1 ∷ 0 ∷ 0 ∷ 0 ∷ []))
    (1 ∷ 1 ∷ 1 ∷ 0xFF ∷ 0xFF ∷ 3 ∷
    2 ∷ 1 ∷ 0 ∷ 0 ∷ 1 ∷ 0 ∷ 0 ∷ 0 ∷ 1 ∷
    0 ∷
    1 ∷ 0 ∷ 1 ∷
    1 ∷ 0x61 ∷ []) ∷
    -- 25 events
    alike (broken 12 57)
    (1 ∷ 1 ∷ 1 ∷ 0 ∷
    25 ∷ (syncs 25 ++
    (0 ∷
    0 ∷ []))) ∷
    -- 64 events, the first and the last of which come before themselves
    alike (broken 11 139)
    (1 ∷ 1 ∷ 1 ∷ 0 ∷
    64 ∷ (syncs 64 ++
    (2 ∷ 0 ∷ 0 ∷ 63 ∷ 63 ∷
    0 ∷ []))) ∷
    -- 65 events
    alike (refusal 3 4)
    (1 ∷ 1 ∷ 1 ∷ 0 ∷
    65 ∷ (syncs 65 ++
    (0 ∷
    0 ∷ []))) ∷
    -- 4,096 pairs of 64 events, and the bytes end
    judged_under 0 (refusal 1 135)
    (1 ∷ 1 ∷ 1 ∷ 0 ∷
    64 ∷ (syncs 64 ++
    (0x80 ∷ 0x20 ∷ []))) ∷
    -- 4,097 pairs of 64 events
    judged_under 0 (refusal 3 133)
    (1 ∷ 1 ∷ 1 ∷ 0 ∷
    64 ∷ (syncs 64 ++
    (0x81 ∷ 0x20 ∷ []))) ∷
    -- Kind 3 in edition 1
    alike (refusal 3 5)
    (1 ∷ 1 ∷ 1 ∷ 0 ∷
    2 ∷ 3 ∷ 0 ∷ 0 ∷ 1 ∷ 0 ∷ 0 ∷ 0 ∷ 1 ∷
    0 ∷
    1 ∷ 0 ∷ 1 ∷
    1 ∷ 0x61 ∷ []) ∷
    -- Thread n
    alike (refusal 3 6)
    (1 ∷ 1 ∷ 1 ∷ 0 ∷
    2 ∷ 1 ∷ 1 ∷ 0 ∷ 1 ∷ 0 ∷ 0 ∷ 0 ∷ 1 ∷
    0 ∷
    1 ∷ 0 ∷ 1 ∷
    1 ∷ 0x61 ∷ []) ∷
    -- Address m
    alike (refusal 3 7)
    (1 ∷ 1 ∷ 1 ∷ 0 ∷
    2 ∷ 1 ∷ 0 ∷ 1 ∷ 1 ∷ 0 ∷ 0 ∷ 0 ∷ 1 ∷
    0 ∷
    1 ∷ 0 ∷ 1 ∷
    1 ∷ 0x61 ∷ []) ∷
    -- An event's value too large
    alike (refusal 3 8)
    (1 ∷ 1 ∷ 1 ∷ 0 ∷
    2 ∷ 1 ∷ 0 ∷ 0 ∷ 0x80 ∷ 0x80 ∷ 0x80 ∷ 0x80 ∷ 0x10 ∷ 0 ∷ 0 ∷ 0 ∷ 1 ∷
    0 ∷
    1 ∷ 0 ∷ 1 ∷
    1 ∷ 0x61 ∷ []) ∷
    -- A write order's entry k
    alike (refusal 3 13)
    (1 ∷ 1 ∷ 1 ∷ 0 ∷
    2 ∷ 1 ∷ 0 ∷ 0 ∷ 1 ∷ 0 ∷ 0 ∷ 0 ∷ 1 ∷
    2 ∷
    1 ∷ 0 ∷ 1 ∷
    1 ∷ 0x61 ∷ []) ∷
    -- A write order's entry that is no store
    alike (refusal 4 13)
    (1 ∷ 1 ∷ 1 ∷ 0 ∷
    2 ∷ 1 ∷ 0 ∷ 0 ∷ 1 ∷ 0 ∷ 0 ∷ 0 ∷ 1 ∷
    1 ∷
    1 ∷ 0 ∷ 1 ∷
    1 ∷ 0x61 ∷ []) ∷
    -- A store listed twice
    alike (refusal 4 14)
    (1 ∷ 1 ∷ 1 ∷ 0 ∷
    2 ∷ 1 ∷ 0 ∷ 0 ∷ 1 ∷ 1 ∷ 0 ∷ 0 ∷ 2 ∷
    0 ∷ 0 ∷
    1 ∷ 0 ∷ 1 ∷
    0 ∷ []) ∷
    -- A store to another address
    alike (refusal 4 14)
    (1 ∷ 1 ∷ 2 ∷ 0 ∷ 0 ∷
    2 ∷ 1 ∷ 0 ∷ 0 ∷ 1 ∷ 1 ∷ 0 ∷ 1 ∷ 1 ∷
    1 ∷ 0 ∷
    1 ∷ 0 ∷ 1 ∷
    0 ∷ []) ∷
    -- More pairs than k·k
    alike (refusal 3 14)
    (1 ∷ 1 ∷ 1 ∷ 0 ∷
    2 ∷ 1 ∷ 0 ∷ 0 ∷ 1 ∷ 0 ∷ 0 ∷ 0 ∷ 1 ∷
    0 ∷
    5 ∷ 0 ∷ 1 ∷
    1 ∷ 0x61 ∷ []) ∷
    -- A pair's first number is k
    alike (refusal 3 15)
    (1 ∷ 1 ∷ 1 ∷ 0 ∷
    2 ∷ 1 ∷ 0 ∷ 0 ∷ 1 ∷ 0 ∷ 0 ∷ 0 ∷ 1 ∷
    0 ∷
    1 ∷ 2 ∷ 1 ∷
    1 ∷ 0x61 ∷ []) ∷
    -- A pair's second number is k
    alike (refusal 3 16)
    (1 ∷ 1 ∷ 1 ∷ 0 ∷
    2 ∷ 1 ∷ 0 ∷ 0 ∷ 1 ∷ 0 ∷ 0 ∷ 0 ∷ 1 ∷
    0 ∷
    1 ∷ 0 ∷ 2 ∷
    1 ∷ 0x61 ∷ []) ∷
    -- A pair equal to the one before
    alike (refusal 4 17)
    (1 ∷ 1 ∷ 1 ∷ 0 ∷
    2 ∷ 1 ∷ 0 ∷ 0 ∷ 1 ∷ 0 ∷ 0 ∷ 0 ∷ 1 ∷
    0 ∷
    2 ∷ 0 ∷ 1 ∷ 0 ∷ 1 ∷
    1 ∷ 0x61 ∷ []) ∷
    -- A pair that falls by its second number
    alike (refusal 4 17)
    (1 ∷ 1 ∷ 1 ∷ 0 ∷
    2 ∷ 1 ∷ 0 ∷ 0 ∷ 1 ∷ 0 ∷ 0 ∷ 0 ∷ 1 ∷
    0 ∷
    2 ∷ 0 ∷ 1 ∷ 0 ∷ 0 ∷
    1 ∷ 0x61 ∷ []) ∷
    -- A pair that falls by its first number
    alike (refusal 4 17)
    (1 ∷ 1 ∷ 1 ∷ 0 ∷
    2 ∷ 1 ∷ 0 ∷ 0 ∷ 1 ∷ 0 ∷ 0 ∷ 0 ∷ 1 ∷
    0 ∷
    2 ∷ 1 ∷ 0 ∷ 0 ∷ 1 ∷
    1 ∷ 0x61 ∷ []) ∷
    -- A pair that falls and whose second number is k: tested for 4 once both are read
    alike (refusal 3 18)
    (1 ∷ 1 ∷ 1 ∷ 0 ∷
    2 ∷ 1 ∷ 0 ∷ 0 ∷ 1 ∷ 0 ∷ 0 ∷ 0 ∷ 1 ∷
    0 ∷
    2 ∷ 1 ∷ 0 ∷ 0 ∷ 2 ∷
    1 ∷ 0x61 ∷ []) ∷
    -- The bytes end inside a pair: the place is the second number's
    alike (refusal 1 16)
    (1 ∷ 1 ∷ 1 ∷ 0 ∷
    2 ∷ 1 ∷ 0 ∷ 0 ∷ 1 ∷ 0 ∷ 0 ∷ 0 ∷ 1 ∷
    0 ∷
    1 ∷ 0x00 ∷ []) ∷
    -- Name of 32 bytes
    alike (accepted 50 (1 ∷ 0 ∷ 0 ∷ 0 ∷ []))
    (1 ∷ 1 ∷ 1 ∷ 0 ∷
    2 ∷ 1 ∷ 0 ∷ 0 ∷ 1 ∷ 0 ∷ 0 ∷ 0 ∷ 1 ∷
    0 ∷
    1 ∷ 0 ∷ 1 ∷
    32 ∷ 0x20 ∷ 0x21 ∷ 0x22 ∷ 0x23 ∷ 0x24 ∷ 0x25 ∷ 0x26 ∷ 0x27 ∷ 0x28 ∷ 0x29 ∷ 0x2A ∷ 0x2B ∷ 0x2C ∷ 0x2D ∷ 0x2E ∷ 0x2F ∷
    0x6F ∷ 0x70 ∷ 0x71 ∷ 0x72 ∷ 0x73 ∷ 0x74 ∷ 0x75 ∷ 0x76 ∷ 0x77 ∷ 0x78 ∷ 0x79 ∷ 0x7A ∷ 0x7B ∷ 0x7C ∷ 0x7D ∷ 0x7E ∷ []) ∷
    -- Name length 33
    alike (refusal 3 17)
    (1 ∷ 1 ∷ 1 ∷ 0 ∷
    2 ∷ 1 ∷ 0 ∷ 0 ∷ 1 ∷ 0 ∷ 0 ∷ 0 ∷ 1 ∷
    0 ∷
    1 ∷ 0 ∷ 1 ∷
    33 ∷ 0xE0 ∷ 0xE1 ∷ 0xE2 ∷ 0xE3 ∷ 0xE4 ∷ 0xE5 ∷ 0xE6 ∷ 0xE7 ∷ 0xE8 ∷ 0xE9 ∷ 0xEA ∷ 0xEB ∷ 0xEC ∷ 0xED ∷ 0xEE ∷ 0xEF ∷
    0xF0 ∷ 0xF1 ∷ 0xF2 ∷ 0xF3 ∷ 0xF4 ∷ 0xF5 ∷ 0xF6 ∷ 0xF7 ∷ 0xF8 ∷ 0xF9 ∷ 0xFA ∷ 0xFB ∷ 0xFC ∷ 0xFD ∷ 0xFE ∷ 0xFF ∷
    0x00 ∷ []) ∷
    -- A name shorter than its length: the place is its first byte
    alike (refusal 1 18)
    (1 ∷ 1 ∷ 1 ∷ 0 ∷
    2 ∷ 1 ∷ 0 ∷ 0 ∷ 1 ∷ 0 ∷ 0 ∷ 0 ∷ 1 ∷
    0 ∷
    1 ∷ 0 ∷ 1 ∷
    2 ∷ 0x61 ∷ []) ∷
    []

-- 02 (xii): a value of the bytes b is v. It is read as an initial value, in both editions, and as a store's, and is final. Both
-- are written
abbrev pub value_of : (v : ℕ) (b : List ℕ) → List Row
value_of v b =
    alike (accepted (6 + length b) (v ∷ 0 ∷ 0 ∷ 0 ∷ [])) (1 ∷ 1 ∷ 1 ∷ (b ++ (0 ∷ 0 ∷ 0 ∷ []))) ∷
    alike (accepted (7 + length b) (v ∷ 0 ∷ 0 ∷ 0 ∷ [])) (2 ∷ 1 ∷ 1 ∷ (b ++ (0 ∷ 0 ∷ 0 ∷ 0 ∷ []))) ∷
    alike (accepted (11 + length b) (v ∷ 0 ∷ 0 ∷ 0 ∷ [])) (1 ∷ 1 ∷ 1 ∷ 0 ∷ 1 ∷ 1 ∷ 0 ∷ 0 ∷ (b ++ (0 ∷ 0 ∷ 0 ∷ []))) ∷
    alike (accepted (12 + length b) (v ∷ 0 ∷ 0 ∷ 0 ∷ [])) (2 ∷ 1 ∷ 1 ∷ 0 ∷ 1 ∷ 1 ∷ 0 ∷ 0 ∷ (b ++ (0 ∷ 0 ∷ 0 ∷ 0 ∷ []))) ∷
    judged_case 0 (one 1 1 1 v 1 1 0 0 v (0 ∷ []) []) (accepted (10 + (length b + length b)) (v ∷ 0 ∷ 0 ∷ 0 ∷ [])) ∷
    written (one 1 1 1 v 1 1 0 0 v (0 ∷ []) []) 0 (done (10 + (length b + length b)))
    (lent (10 + (length b + length b)))
    (1 ∷ 1 ∷ 1 ∷ (b ++ (1 ∷ 1 ∷ 0 ∷ 0 ∷ (b ++ (0 ∷ 0 ∷ 0 ∷ []))))) ∷ []

-- w groups that each say that more follows
abbrev pub following : (w : ℕ) → List ℕ
following w = table 0 w (λ _. 0x80)

-- the bytes b in place of number i of a record, whose numbers take a byte each
abbrev pub number_as : (s b : List ℕ) (i : ℕ) → List ℕ
number_as s b i = take i s ++ b ++ drop (i + 1) s

-- each number of such a record in turn
abbrev pub numbers_of : (s : List ℕ) → List Row
numbers_of s =
    -- 4,294,967,296, and the most that five groups say
    table 0 (length s) (λ i. alike (refusal 3 i) (number_as s (following 4 ++ (0x10 ∷ [])) i)) ++
    table 0 (length s) (λ i. alike (refusal 3 i) (number_as s (0xFF ∷ 0xFF ∷ 0xFF ∷ 0xFF ∷ 0x7F ∷ []) i)) ++
    -- Five groups, the last zero
    table 0 (length s) (λ i. alike (refusal 2 i) (number_as s (following 4 ++ (0 ∷ [])) i)) ++
    -- A sixth group; the fifth says that more follows, and the bytes end
    table 0 (length s) (λ i. alike (refusal 2 i) (number_as s (following 5 ++ (1 ∷ [])) i)) ++
    table 0 (length s) (λ i. alike (refusal 2 i) (take i s ++ following 5)) ++
    -- The bytes end behind the fourth
    table 0 (length s) (λ i. alike (refusal 1 i) (take i s ++ following 4))

-- an edition 2 record of a store that depends on a load, without a name
abbrev pub dependent_store : List ℕ
dependent_store =
    2 ∷ 1 ∷ 1 ∷ 0 ∷
    2 ∷ 0 ∷ 0 ∷ 0 ∷ 0 ∷ 1 ∷ 0 ∷ 0 ∷ 1 ∷
    1 ∷ 1 ∷ 0 ∷ 1 ∷
    1 ∷
    1 ∷ 0 ∷ 1 ∷
    0 ∷ []

unfoldable pub width_cases : List Row
width_cases =
    -- The least and the greatest number of each width
    value_of 0 (0 ∷ []) ++ value_of 127 (0x7F ∷ [])
    ++ value_of 128 (0x80 ∷ 1 ∷ []) ++ value_of 16383 (0xFF ∷ 0x7F ∷ [])
    ++ value_of 16384 (0x80 ∷ 0x80 ∷ 1 ∷ []) ++ value_of 2097151 (0xFF ∷ 0xFF ∷ 0x7F ∷ [])
    ++ value_of 2097152 (0x80 ∷ 0x80 ∷ 0x80 ∷ 1 ∷ []) ++ value_of 268435455 (0xFF ∷ 0xFF ∷ 0xFF ∷ 0x7F ∷ [])
    ++ value_of 268435456 (0x80 ∷ 0x80 ∷ 0x80 ∷ 0x80 ∷ 1 ∷ []) ++ value_of 4294967295 (0xFF ∷ 0xFF ∷ 0xFF ∷ 0xFF ∷ 0x0F ∷ []) ++
    -- 01's: 65,535 and 65,536
    value_of 65535 (0xFF ∷ 0xFF ∷ 3 ∷ []) ++ value_of 65536 (0x80 ∷ 0x80 ∷ 4 ∷ []) ++
    -- The last of two to five groups is zero
    table 1 4 (λ w. alike (refusal 2 3) (number_as (small_named []) (following w ++ (0 ∷ [])) 3)) ++
    -- The bytes end behind up to four groups, then behind the fifth
    table 0 5 (λ w. alike (refusal 1 3) (1 ∷ 1 ∷ 1 ∷ following w)) ++
    (alike (refusal 2 3) (1 ∷ 1 ∷ 1 ∷ following 5) ∷ []) ++
    -- Each number of a record, in both editions
    numbers_of (small_named []) ++ numbers_of dependent_store ++
    -- A store and a load of the greatest value
    (alike (accepted 26 (4294967295 ∷ 0 ∷ 0 ∷ 0 ∷ []))
    (1 ∷ 1 ∷ 1 ∷ 0 ∷
    2 ∷ 1 ∷ 0 ∷ 0 ∷ 0xFF ∷ 0xFF ∷ 0xFF ∷ 0xFF ∷ 0x0F ∷ 0 ∷ 0 ∷ 0 ∷ 0xFF ∷ 0xFF ∷ 0xFF ∷ 0xFF ∷ 0x0F ∷
    0 ∷
    1 ∷ 0 ∷ 1 ∷
    0 ∷ []) ∷
    -- Values that differ above 16 bits alone, and in the highest bit alone
    alike (broken 16 20)
    (1 ∷ 1 ∷ 1 ∷ 0 ∷
    2 ∷ 1 ∷ 0 ∷ 0 ∷ 0x81 ∷ 0x80 ∷ 4 ∷ 0 ∷ 0 ∷ 0 ∷ 1 ∷
    0 ∷
    1 ∷ 0 ∷ 1 ∷
    0 ∷ []) ∷
    alike (broken 16 22)
    (1 ∷ 1 ∷ 1 ∷ 0 ∷
    2 ∷ 1 ∷ 0 ∷ 0 ∷ 0x81 ∷ 0x80 ∷ 0x80 ∷ 0x80 ∷ 8 ∷ 0 ∷ 0 ∷ 0 ∷ 1 ∷
    0 ∷
    1 ∷ 0 ∷ 1 ∷
    0 ∷ []) ∷
    -- Initial values: the one loaded, and one that differs in the highest bit alone
    alike (accepted 19 (4294967295 ∷ 0 ∷ 0 ∷ 0 ∷ []))
    (1 ∷ 1 ∷ 1 ∷ 0xFF ∷ 0xFF ∷ 0xFF ∷ 0xFF ∷ 0x0F ∷
    1 ∷ 0 ∷ 0 ∷ 0 ∷ 0xFF ∷ 0xFF ∷ 0xFF ∷ 0xFF ∷ 0x0F ∷
    0 ∷
    0 ∷ []) ∷
    alike (broken 15 19)
    (1 ∷ 1 ∷ 1 ∷ 0xFF ∷ 0xFF ∷ 0xFF ∷ 0xFF ∷ 0x07 ∷
    1 ∷ 0 ∷ 0 ∷ 0 ∷ 0xFF ∷ 0xFF ∷ 0xFF ∷ 0xFF ∷ 0x0F ∷
    0 ∷
    0 ∷ []) ∷
    -- Addresses by 6
    renumbered 0 6 0 (done 21)
    (1 ∷ 1 ∷ 2 ∷ 0xFF ∷ 0xFF ∷ 0xFF ∷ 0xFF ∷ 0x0F ∷ 0 ∷
    1 ∷ 1 ∷ 0 ∷ 0 ∷ 0x80 ∷ 0x80 ∷ 0x80 ∷ 0x80 ∷ 1 ∷
    0 ∷
    0 ∷
    0 ∷ [])
    (lent 21)
    (1 ∷ 1 ∷ 2 ∷ 0 ∷ 0xFF ∷ 0xFF ∷ 0xFF ∷ 0xFF ∷ 0x0F ∷
    1 ∷ 1 ∷ 0 ∷ 1 ∷ 0x80 ∷ 0x80 ∷ 0x80 ∷ 0x80 ∷ 1 ∷
    0 ∷
    0 ∷
    0 ∷ []) ∷ [])

-- The order of refusals: the model before the bytes
unfoldable pub model_cases : List Row
model_cases =
    -- Model 2
    judged_under 2 (refusal 7 0)
    (1 ∷ 1 ∷ 1 ∷ 0 ∷
    2 ∷ 1 ∷ 0 ∷ 0 ∷ 1 ∷ 0 ∷ 0 ∷ 0 ∷ 1 ∷
    0 ∷
    1 ∷ 0 ∷ 1 ∷
    1 ∷ 0x61 ∷ []) ∷
    -- Model 2 and no bytes
    judged_under 2 (refusal 7 0)
    [] ∷
    []

-- The name
unfoldable pub name_cases : List Row
name_cases =
    -- Beside a judging
    named 0 (0x61 ∷ [])
    (1 ∷ 1 ∷ 1 ∷ 0 ∷
    2 ∷ 1 ∷ 0 ∷ 0 ∷ 1 ∷ 0 ∷ 0 ∷ 0 ∷ 1 ∷
    0 ∷
    1 ∷ 0 ∷ 1 ∷
    1 ∷ 0x61 ∷ []) ∷
    -- Bytes behind the record are not of it
    named 0 (0x61 ∷ [])
    (1 ∷ 1 ∷ 1 ∷ 0 ∷
    2 ∷ 1 ∷ 0 ∷ 0 ∷ 1 ∷ 0 ∷ 0 ∷ 0 ∷ 1 ∷
    0 ∷
    1 ∷ 0 ∷ 1 ∷
    1 ∷ 97 ∷
    9 ∷ 0x09 ∷ []) ∷
    -- A broken rule hands it back
    named 1 (0x61 ∷ [])
    (1 ∷ 1 ∷ 1 ∷ 0 ∷
    2 ∷ 1 ∷ 0 ∷ 0 ∷ 1 ∷ 0 ∷ 0 ∷ 0 ∷ 2 ∷
    0 ∷
    1 ∷ 0 ∷ 1 ∷
    1 ∷ 0x61 ∷ []) ∷
    -- None under 4
    named 0 []
    (1 ∷ 1 ∷ 1 ∷ 0 ∷
    2 ∷ 1 ∷ 0 ∷ 0 ∷ 1 ∷ 0 ∷ 0 ∷ 0 ∷ 1 ∷
    1 ∷
    1 ∷ 0 ∷ 1 ∷
    1 ∷ 0x61 ∷ []) ∷
    -- None under 7
    named 2 []
    (1 ∷ 1 ∷ 1 ∷ 0 ∷
    2 ∷ 1 ∷ 0 ∷ 0 ∷ 1 ∷ 0 ∷ 0 ∷ 0 ∷ 1 ∷
    0 ∷
    1 ∷ 0 ∷ 1 ∷
    1 ∷ 0x61 ∷ []) ∷
    -- Beside a renumbering
    named_renumbered 0 0 0 (0x61 ∷ [])
    (1 ∷ 1 ∷ 1 ∷ 0 ∷
    2 ∷ 1 ∷ 0 ∷ 0 ∷ 1 ∷ 0 ∷ 0 ∷ 0 ∷ 1 ∷
    0 ∷
    1 ∷ 0 ∷ 1 ∷
    1 ∷ 0x61 ∷ [])
    (lent 19) ∷
    -- None under 6
    named_renumbered 0 0 0 []
    (1 ∷ 1 ∷ 1 ∷ 0 ∷
    2 ∷ 1 ∷ 0 ∷ 0 ∷ 1 ∷ 0 ∷ 0 ∷ 0 ∷ 1 ∷
    0 ∷
    1 ∷ 0 ∷ 1 ∷
    1 ∷ 0x61 ∷ [])
    (lent 18) ∷
    []

-- 02 (xi): names of three bytes, with b as the first, the middle and the last: of a record, then of a case without bytes
abbrev pub names_with : (first middle last handed : Answer) (b : ℕ) → List Row
names_with first middle last handed b =
    alike first (small_named (b ∷ 0x61 ∷ 0x61 ∷ [])) ∷
    alike middle (small_named (0x61 ∷ b ∷ 0x61 ∷ [])) ∷
    alike last (small_named (0x61 ∷ 0x61 ∷ b ∷ [])) ∷
    judged_case 0 (store_named (b ∷ 0x61 ∷ 0x61 ∷ [])) handed ∷
    judged_case 0 (store_named (0x61 ∷ b ∷ 0x61 ∷ [])) handed ∷
    judged_case 0 (store_named (0x61 ∷ 0x61 ∷ b ∷ [])) handed ∷ []

-- the record that a row hands to its call; none where it hands a case or a list of calls
abbrev pub record_in : Row → List ℕ
record_in (judged weak strong s) = s
record_in (judged_under model a s) = s
record_in (renumbered q r at a s buffer after) = s
record_in (named model name s) = s
record_in (named_renumbered q r at name s buffer) = s
record_in (judged_case model c a) = []
record_in (renumbered_case q r c a s) = []
record_in (written c at a buffer after) = []
record_in (composing n m size xs T A) = []

-- the row's record, which ends in a name, with 127 for its last byte: 23 there
abbrev pub unprintable_end : Row → Row
unprintable_end x = alike (refusal 23 (length (record_in x) - 1)) (set (record_in x) (length (record_in x) - 1) 127)

-- b is printable
abbrev pub printable_byte : (b : ℕ) → List Row
printable_byte = names_with (accepted 21 (1 ∷ 0 ∷ 0 ∷ 0 ∷ [])) (accepted 21 (1 ∷ 0 ∷ 0 ∷ 0 ∷ [])) (accepted 21 (1 ∷ 0 ∷ 0 ∷ 0 ∷ [])) (accepted 15 (1 ∷ 0 ∷ 0 ∷ 0 ∷ []))

-- b is not: 23 at its place, which is 0 of a case without bytes
abbrev pub unprintable_byte : (b : ℕ) → List Row
unprintable_byte = names_with (refusal 23 18) (refusal 23 19) (refusal 23 20) (refusal 23 0)

unfoldable pub printable_cases : List Row
printable_cases =
    unprintable_byte 31 ++ printable_byte 32 ++ printable_byte 126 ++ unprintable_byte 127 ++ unprintable_byte 0 ++ unprintable_byte 255 ++
    -- Accepted, and each of 11 to 18
    map unprintable_end paper_cases ++
    -- Two bad bytes: the place of the first
    (alike (refusal 23 19) (small_named (0x61 ∷ 0xFF ∷ 0x00 ∷ [])) ∷
    -- The bytes end inside a name with a bad byte
    alike (refusal 1 18) (take 20 (small_named (0x61 ∷ 0x00 ∷ 0x61 ∷ []))) ∷
    -- A name of 33 bad bytes
    alike (refusal 3 17) (small_named (table 0 33 (λ i. 0))) ∷
    -- The last of 32 bytes is bad
    alike (refusal 23 49) (small_named (table 0 31 (λ i. 0x61) ++ (127 ∷ []))) ∷
    -- Edition 2
    alike (refusal 23 20)
    (2 ∷ 1 ∷ 1 ∷ 0 ∷
    2 ∷ 1 ∷ 0 ∷ 0 ∷ 1 ∷ 0 ∷ 0 ∷ 0 ∷ 1 ∷
    0 ∷
    0 ∷
    1 ∷ 0 ∷ 1 ∷
    2 ∷ 0x61 ∷ 0x80 ∷ []) ∷
    -- Model 2
    judged_under 2 (refusal 7 0) (small_named (0x00 ∷ [])) ∷
    -- A threads' permutation that doesn't fit, an addresses' one, no room
    renumbered 6 0 2 (refusal 23 18) (small_named (0x00 ∷ [])) (lent 22) (lent 22) ∷
    renumbered 0 6 2 (refusal 23 18) (small_named (0x00 ∷ [])) (lent 22) (lent 22) ∷
    renumbered 0 0 4 (refusal 23 18) (small_named (0x00 ∷ [])) (lent 22) (lent 22) ∷
    -- Room, and permutations that fit
    renumbered 0 0 0 (refusal 23 19) (small_named (0x61 ∷ 0x00 ∷ [])) (lent 22) (lent 22) ∷
    -- No name
    named 0 [] (small_named (0x61 ∷ 0x00 ∷ [])) ∷
    named_renumbered 0 0 0 [] (small_named (0x61 ∷ 0x00 ∷ [])) (lent 22) ∷
    -- Of a case: a load that breaks rule 15; model 2; an entry that is no store; a name of 33 bad bytes
    judged_case 0 (one 1 1 1 0 1 0 0 0 1 [] (0x00 ∷ [])) (refusal 23 0) ∷
    judged_case 2 (store_named (0x00 ∷ [])) (refusal 7 0) ∷
    judged_case 0 (one 1 1 1 0 1 0 0 0 1 (0 ∷ []) (0x00 ∷ [])) (refusal 4 0) ∷
    judged_case 0 (store_named (table 0 33 (λ i. 0))) (refusal 3 0) ∷
    -- Edition 2
    judged_case 0 (one 2 1 1 0 1 1 0 0 1 (0 ∷ []) (0x80 ∷ [])) (refusal 23 0) ∷
    -- A permutation that doesn't fit, no room, room
    renumbered_case 24 0 (store_named (0x00 ∷ [])) (refusal 23 0) [] ∷
    written (store_named (0x00 ∷ [])) 1 (refusal 23 0) (lent 2) (lent 2) ∷
    written (store_named (0xFF ∷ 0x00 ∷ [])) 0 (refusal 23 0) (lent 15) (lent 15) ∷ [])

-- Renumbering by q and r from a place of a lent buffer: the record, the buffer before, the buffer after
unfoldable pub renumber_cases : List Row
renumber_cases =
    -- The small record, addresses by 6, which does not fit one label
    renumbered 0 6 2 (refusal 5 0)
    (1 ∷ 1 ∷ 1 ∷ 0 ∷
    2 ∷ 1 ∷ 0 ∷ 0 ∷ 1 ∷ 0 ∷ 0 ∷ 0 ∷ 1 ∷
    0 ∷
    1 ∷ 0 ∷ 1 ∷
    1 ∷ 0x61 ∷ [])
    (lent 22)
    (lent 22) ∷
    -- By 1: the same bytes; bytes before and after stay
    renumbered 0 1 2 (done 19)
    (1 ∷ 1 ∷ 1 ∷ 0 ∷
    2 ∷ 1 ∷ 0 ∷ 0 ∷ 1 ∷ 0 ∷ 0 ∷ 0 ∷ 1 ∷
    0 ∷
    1 ∷ 0 ∷ 1 ∷
    1 ∷ 0x61 ∷ [])
    (lent 22)
    (0 ∷ 1 ∷
    1 ∷ 1 ∷ 1 ∷ 0 ∷
    2 ∷ 1 ∷ 0 ∷ 0 ∷ 1 ∷ 0 ∷ 0 ∷ 0 ∷ 1 ∷
    0 ∷
    1 ∷ 0 ∷ 1 ∷
    1 ∷ 0x61 ∷
    21 ∷ []) ∷
    -- Threads by 6
    renumbered 6 0 2 (refusal 5 0)
    (1 ∷ 1 ∷ 1 ∷ 0 ∷
    2 ∷ 1 ∷ 0 ∷ 0 ∷ 1 ∷ 0 ∷ 0 ∷ 0 ∷ 1 ∷
    0 ∷
    1 ∷ 0 ∷ 1 ∷
    1 ∷ 0x61 ∷ [])
    (lent 22)
    (lent 22) ∷
    -- 24 is no permutation number
    renumbered 24 0 2 (refusal 5 0)
    (1 ∷ 1 ∷ 1 ∷ 0 ∷
    2 ∷ 1 ∷ 0 ∷ 0 ∷ 1 ∷ 0 ∷ 0 ∷ 0 ∷ 1 ∷
    0 ∷
    1 ∷ 0 ∷ 1 ∷
    1 ∷ 0x61 ∷ [])
    (lent 22)
    (lent 22) ∷
    -- The last place with room
    renumbered 0 0 3 (done 19)
    (1 ∷ 1 ∷ 1 ∷ 0 ∷
    2 ∷ 1 ∷ 0 ∷ 0 ∷ 1 ∷ 0 ∷ 0 ∷ 0 ∷ 1 ∷
    0 ∷
    1 ∷ 0 ∷ 1 ∷
    1 ∷ 0x61 ∷ [])
    (lent 22)
    (0 ∷ 1 ∷ 2 ∷
    1 ∷ 1 ∷ 1 ∷ 0 ∷
    2 ∷ 1 ∷ 0 ∷ 0 ∷ 1 ∷ 0 ∷ 0 ∷ 0 ∷ 1 ∷
    0 ∷
    1 ∷ 0 ∷ 1 ∷
    1 ∷ 0x61 ∷ []) ∷
    -- One byte too few
    renumbered 0 0 4 (refusal 6 0)
    (1 ∷ 1 ∷ 1 ∷ 0 ∷
    2 ∷ 1 ∷ 0 ∷ 0 ∷ 1 ∷ 0 ∷ 0 ∷ 0 ∷ 1 ∷
    0 ∷
    1 ∷ 0 ∷ 1 ∷
    1 ∷ 0x61 ∷ [])
    (lent 22)
    (lent 22) ∷
    -- A place past the end
    renumbered 0 0 23 (refusal 6 0)
    (1 ∷ 1 ∷ 1 ∷ 0 ∷
    2 ∷ 1 ∷ 0 ∷ 0 ∷ 1 ∷ 0 ∷ 0 ∷ 0 ∷ 1 ∷
    0 ∷
    1 ∷ 0 ∷ 1 ∷
    1 ∷ 0x61 ∷ [])
    (lent 22)
    (lent 22) ∷
    -- The record before the permutations: kind 3, and 24 twice
    renumbered 24 24 2 (refusal 3 5)
    (1 ∷ 1 ∷ 1 ∷ 0 ∷
    2 ∷ 3 ∷ 0 ∷ 0 ∷ 1 ∷ 0 ∷ 0 ∷ 0 ∷ 1 ∷
    0 ∷
    1 ∷ 0 ∷ 1 ∷
    1 ∷ 0x61 ∷ [])
    (lent 22)
    (lent 22) ∷
    -- The permutations before the room
    renumbered 24 0 0 (refusal 5 0)
    (1 ∷ 1 ∷ 1 ∷ 0 ∷
    2 ∷ 1 ∷ 0 ∷ 0 ∷ 1 ∷ 0 ∷ 0 ∷ 0 ∷ 1 ∷
    0 ∷
    1 ∷ 0 ∷ 1 ∷
    1 ∷ 0x61 ∷ [])
    (lent 0)
    (lent 0) ∷
    -- Threads by 8 (1203), addresses by 12 (2013): fields, initial values, write orders and thread orders move; event numbers and listing stay
    renumbered 8 12 0 (done 39)
    (1 ∷ 3 ∷ 3 ∷ 5 ∷ 6 ∷ 7 ∷
    5 ∷ 1 ∷ 0 ∷ 0 ∷ 1 ∷ 2 ∷ 1 ∷ 1 ∷ 1 ∷ 1 ∷ 2 ∷ 0 ∷ 2 ∷ 2 ∷ 7 ∷ 1 ∷ 2 ∷ 0 ∷ 0xAC ∷ 2 ∷
    0 ∷ 4 ∷ 2 ∷
    1 ∷ 0 ∷ 4 ∷
    1 ∷ 1 ∷ 2 ∷
    1 ∷ 3 ∷ 4 ∷
    0 ∷ [])
    (lent 40)
    (1 ∷ 3 ∷ 3 ∷ 6 ∷ 7 ∷ 5 ∷
    5 ∷ 1 ∷ 1 ∷ 2 ∷ 1 ∷ 2 ∷ 2 ∷ 1 ∷ 2 ∷ 0 ∷ 2 ∷ 0 ∷ 0 ∷ 1 ∷ 7 ∷ 1 ∷ 0 ∷ 2 ∷ 0xAC ∷ 2 ∷
    2 ∷ 0 ∷ 4 ∷
    1 ∷ 3 ∷ 4 ∷
    1 ∷ 0 ∷ 4 ∷
    1 ∷ 1 ∷ 2 ∷
    0 ∷
    39 ∷ []) ∷
    -- Edition 2, threads and addresses by 6: an lwsync's thread is rewritten, dependencies stay
    renumbered 6 6 0 (done 37)
    (2 ∷ 2 ∷ 2 ∷ 0 ∷ 5 ∷
    4 ∷ 0 ∷ 0 ∷ 0 ∷ 0 ∷ 3 ∷ 0 ∷ 1 ∷ 0 ∷ 1 ∷ 1 ∷ 1 ∷ 1 ∷ 0 ∷ 2 ∷
    1 ∷ 1 ∷ 0 ∷ 2 ∷
    3 ∷ 2 ∷
    3 ∷ 0 ∷ 1 ∷ 0 ∷ 2 ∷ 1 ∷ 2 ∷
    1 ∷ 0 ∷ 2 ∷
    0 ∷ [])
    (lent 37)
    (2 ∷ 2 ∷ 2 ∷ 5 ∷ 0 ∷
    4 ∷ 0 ∷ 1 ∷ 1 ∷ 0 ∷ 3 ∷ 1 ∷ 1 ∷ 1 ∷ 0 ∷ 1 ∷ 1 ∷ 0 ∷ 1 ∷ 2 ∷
    1 ∷ 1 ∷ 0 ∷ 2 ∷
    2 ∷ 3 ∷
    1 ∷ 0 ∷ 2 ∷
    3 ∷ 0 ∷ 1 ∷ 0 ∷ 2 ∷ 1 ∷ 2 ∷
    0 ∷ []) ∷
    -- Two threads and one address: 6 fits the threads
    renumbered 6 0 0 (done 8)
    (1 ∷ 2 ∷ 1 ∷ 0 ∷
    0 ∷
    0 ∷
    0 ∷
    0 ∷ [])
    (lent 8)
    (1 ∷ 2 ∷ 1 ∷ 0 ∷
    0 ∷
    0 ∷
    0 ∷
    0 ∷ []) ∷
    -- And not the addresses
    renumbered 0 6 0 (refusal 5 0)
    (1 ∷ 2 ∷ 1 ∷ 0 ∷
    0 ∷
    0 ∷
    0 ∷
    0 ∷ [])
    (lent 8)
    (lent 8) ∷
    []

-- Cases handed without bytes: 3 or 4 with place 0
unfoldable pub handed_cases : List Row
handed_cases =
    -- One store
    judged_case 0 (one 1 1 1 0 1 1 0 0 1 (0 ∷ []) (0x61 ∷ [])) (accepted 13 (1 ∷ 0 ∷ 0 ∷ 0 ∷ [])) ∷
    -- Edition 0
    judged_case 0 (one 0 1 1 0 1 1 0 0 1 (0 ∷ []) (0x61 ∷ [])) (refusal 3 0) ∷
    -- Edition 2, whose record has a count of dependencies
    judged_case 0 (one 2 1 1 0 1 1 0 0 1 (0 ∷ []) (0x61 ∷ [])) (accepted 14 (1 ∷ 0 ∷ 0 ∷ 0 ∷ [])) ∷
    -- Edition 3
    judged_case 0 (one 3 1 1 0 1 1 0 0 1 (0 ∷ []) (0x61 ∷ [])) (refusal 3 0) ∷
    -- n = 0, no events
    judged_case 0 (one 1 0 1 0 0 1 0 0 1 [] (0x61 ∷ [])) (refusal 3 0) ∷
    -- n = 5
    judged_case 0 (one 1 5 1 0 1 1 0 0 1 (0 ∷ []) (0x61 ∷ [])) (refusal 3 0) ∷
    -- m = 0, no events
    judged_case 0 (one 1 1 0 0 0 1 0 0 1 [] (0x61 ∷ [])) (refusal 3 0) ∷
    -- m = 5
    judged_case 0 (one 1 1 5 0 1 1 0 0 1 (0 ∷ []) (0x61 ∷ [])) (refusal 3 0) ∷
    -- An initial value too large
    judged_case 0 (one 1 1 1 4294967296 1 1 0 0 1 (0 ∷ []) (0x61 ∷ [])) (refusal 3 0) ∷
    -- 64 events, and a write order with an entry that is no store; 65 events
    judged_case 0 (syncing 64 (63 ∷ [])) (refusal 4 0) ∷
    judged_case 0 (syncing 65 (63 ∷ [])) (refusal 3 0) ∷
    -- Kind 3 in edition 1
    judged_case 0 (one 1 1 1 0 1 3 0 0 1 (0 ∷ []) (0x61 ∷ [])) (refusal 3 0) ∷
    -- Kind 4 in edition 2
    judged_case 0 (one 2 1 1 0 1 4 0 0 1 (0 ∷ []) (0x61 ∷ [])) (refusal 3 0) ∷
    -- A store that depends on a load
    judged_case 0 (linked (link 1 0 1 ∷ []) (1 ∷ [])) (accepted 22 (1 ∷ 0 ∷ 0 ∷ 0 ∷ [])) ∷
    -- 97 dependencies, each good
    judged_case 0 (linked (table 0 97 (λ _. link 0 0 1)) (1 ∷ [])) (refusal 3 0) ∷
    -- Class 3; from k; to k, from a store
    judged_case 0 (linked (link 3 0 1 ∷ []) (1 ∷ [])) (refusal 3 0) ∷
    judged_case 0 (linked (link 0 2 1 ∷ []) (1 ∷ [])) (refusal 3 0) ∷
    judged_case 0 (linked (link 0 1 2 ∷ []) (1 ∷ [])) (refusal 3 0) ∷
    -- From a store, before a dependency of class 3 and a write order that lists a load
    judged_case 0 (linked (link 0 1 1 ∷ link 3 0 1 ∷ []) (0 ∷ [])) (refusal 4 0) ∷
    -- One equal to the one before
    judged_case 0 (linked (link 0 0 1 ∷ link 0 0 1 ∷ []) (1 ∷ [])) (refusal 4 0) ∷
    -- One that falls by its class; class 3 behind it
    judged_case 0 (linked (link 1 0 1 ∷ link 0 0 1 ∷ link 3 0 1 ∷ []) (1 ∷ [])) (refusal 4 0) ∷
    -- Class 3, before a write order that lists a load
    judged_case 0 (linked (link 3 0 1 ∷ []) (0 ∷ [])) (refusal 3 0) ∷
    -- Dependencies are written behind the events, and stay under renumbering
    written (linked (link 0 0 1 ∷ link 2 0 1 ∷ []) (1 ∷ [])) 1 (done 25)
    (lent 27)
    (0 ∷
    2 ∷ 1 ∷ 1 ∷ 0 ∷
    2 ∷ 0 ∷ 0 ∷ 0 ∷ 0 ∷ 1 ∷ 0 ∷ 0 ∷ 1 ∷
    2 ∷ 0 ∷ 0 ∷ 1 ∷ 2 ∷ 0 ∷ 1 ∷
    1 ∷
    1 ∷ 0 ∷ 1 ∷
    0 ∷
    26 ∷ []) ∷
    renumbered_case 1 1 (linked (link 0 0 1 ∷ link 2 0 1 ∷ []) (1 ∷ [])) (done 25)
    (2 ∷ 1 ∷ 1 ∷ 0 ∷
    2 ∷ 0 ∷ 0 ∷ 0 ∷ 0 ∷ 1 ∷ 0 ∷ 0 ∷ 1 ∷
    2 ∷ 0 ∷ 0 ∷ 1 ∷ 2 ∷ 0 ∷ 1 ∷
    1 ∷
    1 ∷ 0 ∷ 1 ∷
    0 ∷ []) ∷
    -- Thread n
    judged_case 0 (one 1 1 1 0 1 1 1 0 1 (0 ∷ []) (0x61 ∷ [])) (refusal 3 0) ∷
    -- Address m
    judged_case 0 (one 1 1 1 0 1 1 0 1 1 (0 ∷ []) (0x61 ∷ [])) (refusal 3 0) ∷
    -- A value too large, before a write order that lists a load
    judged_case 0 (one 1 1 1 0 1 0 0 0 4294967296 (0 ∷ []) (0x61 ∷ [])) (refusal 3 0) ∷
    -- A write order's entry k
    judged_case 0 (one 1 1 1 0 1 1 0 0 1 (1 ∷ []) (0x61 ∷ [])) (refusal 3 0) ∷
    -- A write order's entry that is no store, before a name of 33 bytes
    judged_case 0 (one 1 1 1 0 1 0 0 0 1 (0 ∷ []) (0x61 ∷ 0x61 ∷ 0x61 ∷ 0x61 ∷ 0x61 ∷ 0x61 ∷ 0x61 ∷ 0x61 ∷ 0x61 ∷ 0x61 ∷ 0x61 ∷ 0x61 ∷ 0x61 ∷ 0x61 ∷ 0x61 ∷ 0x61 ∷ 0x61 ∷ 0x61 ∷ 0x61 ∷ 0x61 ∷ 0x61 ∷ 0x61 ∷ 0x61 ∷ 0x61 ∷ 0x61 ∷ 0x61 ∷ 0x61 ∷ 0x61 ∷ 0x61 ∷ 0x61 ∷ 0x61 ∷ 0x61 ∷ 0x61 ∷ [])) (refusal 4 0) ∷
    -- A store listed twice, before an entry k
    judged_case 0 (one 1 1 1 0 1 1 0 0 1 (0 ∷ 0 ∷ 1 ∷ []) (0x61 ∷ [])) (refusal 4 0) ∷
    -- Name of 33 bytes
    judged_case 0 (one 1 1 1 0 1 1 0 0 1 (0 ∷ []) (0x61 ∷ 0x61 ∷ 0x61 ∷ 0x61 ∷ 0x61 ∷ 0x61 ∷ 0x61 ∷ 0x61 ∷ 0x61 ∷ 0x61 ∷ 0x61 ∷ 0x61 ∷ 0x61 ∷ 0x61 ∷ 0x61 ∷ 0x61 ∷ 0x61 ∷ 0x61 ∷ 0x61 ∷ 0x61 ∷ 0x61 ∷ 0x61 ∷ 0x61 ∷ 0x61 ∷ 0x61 ∷ 0x61 ∷ 0x61 ∷ 0x61 ∷ 0x61 ∷ 0x61 ∷ 0x61 ∷ 0x61 ∷ 0x61 ∷ [])) (refusal 3 0) ∷
    -- Model 2 before a fault
    judged_case 2 (one 1 5 1 0 1 1 0 0 1 (0 ∷ []) (0x61 ∷ [])) (refusal 7 0) ∷
    -- A fault before the permutations
    renumbered_case 24 0 (one 1 5 1 0 1 1 0 0 1 (0 ∷ []) (0x61 ∷ [])) (refusal 3 0)
    [] ∷
    -- 24 is no permutation number
    renumbered_case 24 0 (one 1 1 1 0 1 1 0 0 1 (0 ∷ []) (0x61 ∷ [])) (refusal 5 0)
    [] ∷
    -- By 1: the same record
    renumbered_case 1 1 (one 1 1 1 0 1 1 0 0 1 (0 ∷ []) (0x61 ∷ [])) (done 13)
    (1 ∷ 1 ∷ 1 ∷ 0 ∷
    1 ∷ 1 ∷ 0 ∷ 0 ∷ 1 ∷
    0 ∷
    0 ∷
    1 ∷ 0x61 ∷ []) ∷
    -- Written from place 1; bytes before and after stay
    written (one 1 1 1 0 1 1 0 0 1 (0 ∷ []) (0x61 ∷ [])) 1 (done 13)
    (lent 15)
    (0 ∷
    1 ∷ 1 ∷ 1 ∷ 0 ∷
    1 ∷ 1 ∷ 0 ∷ 0 ∷ 1 ∷
    0 ∷
    0 ∷
    1 ∷ 0x61 ∷
    14 ∷ []) ∷
    -- A fault before the room
    written (one 1 1 1 0 1 0 0 0 1 (0 ∷ []) (0x61 ∷ [])) 1 (refusal 4 0)
    (lent 2)
    (lent 2) ∷
    -- One byte too few
    written (one 1 1 1 0 1 1 0 0 1 (0 ∷ []) (0x61 ∷ [])) 1 (refusal 6 0)
    (lent 13)
    (lent 13) ∷
    -- A place past the end
    written (one 1 1 1 0 1 1 0 0 1 (0 ∷ []) (0x61 ∷ [])) 3 (refusal 6 0)
    (lent 2)
    (lent 2) ∷
    -- A sync's address and value are not written
    written (one 1 1 1 0 1 2 0 9 4294967296 [] (0x61 ∷ [])) 0 (done 10)
    (lent 15)
    (1 ∷ 1 ∷ 1 ∷ 0 ∷
    1 ∷ 2 ∷ 0 ∷
    0 ∷
    1 ∷ 0x61 ∷
    10 ∷ 11 ∷ 12 ∷ 13 ∷ 14 ∷ []) ∷
    -- Nor an lwsync's
    written (one 2 1 1 0 1 3 0 9 4294967296 [] (0x61 ∷ [])) 0 (done 11)
    (lent 15)
    (2 ∷ 1 ∷ 1 ∷ 0 ∷
    1 ∷ 3 ∷ 0 ∷
    0 ∷
    0 ∷
    1 ∷ 0x61 ∷
    11 ∷ 12 ∷ 13 ∷ 14 ∷ []) ∷
    -- The least and the greatest byte of a name
    written (store_named (0x20 ∷ 0x7E ∷ [])) 0 (done 14)
    (lent 15)
    (1 ∷ 1 ∷ 1 ∷ 0 ∷
    1 ∷ 1 ∷ 0 ∷ 0 ∷ 1 ∷
    0 ∷
    0 ∷
    2 ∷ 0x20 ∷ 0x7E ∷
    14 ∷ []) ∷
    []

-- Lists of calls and the permutations composed beside them
unfoldable pub call_cases : List Row
call_cases =
    -- No call
    composing 2 2 19 [] 0 0 ∷
    -- What does not change them: judgings, a refused one too, and the calls that take a case
    composing 2 2 19 (judging 1 [] ∷ judging 7 [] ∷ judging_case 0 ∷ renumbering_case 6 6 ∷ []) 0 0 ∷
    -- A permutation that does not fit, of threads, of addresses; no permutation
    composing 2 2 19 (renumbering 2 6 [] (lent 30) 0 ∷ []) 0 0 ∷
    composing 2 2 19 (renumbering 6 2 [] (lent 30) 0 ∷ []) 0 0 ∷
    composing 2 2 19 (renumbering 24 6 [] (lent 30) 0 ∷ []) 0 0 ∷
    -- One byte too few; a place past the end
    composing 2 2 19 (renumbering 6 6 [] (lent 30) 12 ∷ []) 0 0 ∷
    composing 2 2 19 (renumbering 6 6 [] (lent 30) 31 ∷ []) 0 0 ∷
    -- As many bytes as the record takes, after a refused one and before another
    composing 2 2 19 (renumbering 6 6 [] (lent 18) 0 ∷ renumbering 6 0 (9 ∷ []) (lent 30) 11 ∷ renumbering 0 24 [] (lent 30) 0 ∷ []) 6 0 ∷
    -- First 2, then 6, is 8; the other way round it would be 12
    composing 3 3 19 (renumbering 2 6 [] (lent 19) 0 ∷ renumbering 6 2 [] (lent 19) 0 ∷ []) 8 12 ∷ []

-- The table
unfoldable pub records : List Row
records =
    paper_cases ++ order_cases ++ value_cases ++ barrier_cases ++ second_cases ++ layout_cases ++ second_layout_cases ++ width_cases
    ++ model_cases ++ name_cases ++ printable_cases ++ renumber_cases ++ handed_cases ++ call_cases
