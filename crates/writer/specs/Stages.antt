-- The bytes of a record by stages, over the arrays of a struct, and how many they are at most.
-- Assumes nothing.
use Rattle.std.specs.Prelude.{ℕ, zero, suc, ◌+◌, ◌*◌, cond, List, [], ◌∷◌, ◌++◌, get_or}
use Rattle.finite.specs.Tests.{count}
use Rattle.number.specs.Number.{encode, widest}
use Rattle.bits.specs.Bit.{bit}
use Rattle.model.specs.Limits.{second, most_threads, most_addresses, most_events, most_dependencies, most_name}
use Rattle.model.specs.Written.{event_bytes, dependency_bytes}
use Rattle.case.specs.Held.{event_of, link}
use Rattle.case.specs.Stores.{store_at}

-- what h gives for the numbers below n, one behind the other
unfoldable pub run : (ℕ → List ℕ) → ℕ → List ℕ
run h zero = []
run h (suc n) = run h n ++ h n

-- f summed over the numbers below n
unfoldable pub sum : (ℕ → ℕ) → ℕ → ℕ
sum f zero = 0
sum f (suc n) = sum f n + f n

unfoldable pub initial_at : List ℕ → ℕ → List ℕ
initial_at is x = encode (get_or is x 0)

unfoldable pub event_at : (kinds threads addresses values : List ℕ) → ℕ → List ℕ
event_at ks ts as' vs e = event_bytes (event_of (get_or ks e 0) (get_or ts e 0) (get_or as' e 0) (get_or vs e 0))

unfoldable pub listing_bytes : (initials kinds threads addresses values : List ℕ) → (m k : ℕ) → List ℕ
listing_bytes is ks ts as' vs m k = run (initial_at is) m ++ (encode k ++ run (event_at ks ts as' vs) k)

unfoldable pub link_at : (classes froms tos : List ℕ) → ℕ → List ℕ
link_at xs as' bs j = dependency_bytes (link (get_or xs j 0) (get_or as' j 0) (get_or bs j 0))

-- the count of the dependencies and each of them; nothing in edition 1, which has no such field
unfoldable pub links_bytes : (edition : ℕ) (classes froms tos : List ℕ) → ℕ → List ℕ
links_bytes edition xs as' bs i = cond (second edition) (encode i ++ run (link_at xs as' bs) i) []

-- entry i of the write order of x
unfoldable pub entry_at : List ℕ → (x i : ℕ) → List ℕ
entry_at ws x i = encode (get_or ws (x * most_events + i) 0)

unfoldable pub writes_of : (kinds addresses writes : List ℕ) → (k x : ℕ) → List ℕ
writes_of ks as' ws k x = run (entry_at ws x) (count k (store_at ks as' x))

-- the pair a, b if it stands in a's row
unfoldable pub bit_bytes : (row a b : ℕ) → List ℕ
bit_bytes row a b = cond (bit row b) (encode a ++ encode b) []

-- the pairs of a's row in p's order
unfoldable pub row_at : List ℕ → (p k a : ℕ) → List ℕ
row_at rows p k a = run (bit_bytes (get_or rows (p * most_events + a) 0) a) k

-- how many they are
unfoldable pub pairs_at : List ℕ → (p k a : ℕ) → ℕ
pairs_at rows p k a = count k (bit (get_or rows (p * most_events + a) 0))

-- how many pairs p's order has
unfoldable pub pairs : List ℕ → (p k : ℕ) → ℕ
pairs rows p k = sum (pairs_at rows p k) k

unfoldable pub order_at : List ℕ → (k p : ℕ) → List ℕ
order_at rows k p = encode (pairs rows p k) ++ run (row_at rows p k) k

unfoldable pub byte_at : List ℕ → ℕ → List ℕ
byte_at name i = get_or name i 0 ∷ []

unfoldable pub name_bytes : List ℕ → ℕ → List ℕ
name_bytes name i = encode i ++ run (byte_at name) i

unfoldable pub rest_bytes : (kinds addresses writes rows name : List ℕ) → (n m k i : ℕ) → List ℕ
rest_bytes ks as' ws rows name n m k i = run (writes_of ks as' ws k) m ++ (run (order_at rows k) n ++ name_bytes name i)

-- the most bytes of a number, and of what is made of numbers
abbrev pub most_number : ℕ
most_number = widest

abbrev pub most_two : ℕ
most_two = most_number + most_number

abbrev pub most_three : ℕ
most_three = most_number + most_two

abbrev pub most_event : ℕ
most_event = most_two + most_two

abbrev pub most_links : ℕ
most_links = most_number + most_dependencies * most_three

-- of the initial values, the number of events and the events
abbrev pub most_listing : ℕ
most_listing = most_addresses * most_number + (most_number + most_events * most_event)

-- of a write order
abbrev pub most_entries : ℕ
most_entries = most_events * most_number

abbrev pub most_row : ℕ
most_row = most_events * most_two

abbrev pub most_order : ℕ
most_order = most_number + most_events * most_row

abbrev pub most_rest : ℕ
most_rest = most_addresses * most_entries + (most_threads * most_order + (most_number + most_name))

abbrev pub most_record : ℕ
most_record = most_three + (most_listing + (most_links + most_rest))
