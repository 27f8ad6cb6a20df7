-- A case's record: the bytes that the layout gives it.
-- Assumes nothing.
use Rattle.std.specs.Prelude.{ℕ, zero, suc, cond, List, [], ◌∷◌, ◌++◌, length}
use Rattle.finite.specs.Lists.{each}
use Rattle.number.specs.Number.{encode}
use Rattle.bits.specs.Bit.{bit}
use Rattle.model.specs.Limits.{second}
use Rattle.model.specs.Case.{Case, Event, Dependency, bare}
use Rattle.model.specs.Record.{Pair}

unfoldable pub event_bytes : Event → List ℕ
event_bytes e = encode e.kind ++ (encode e.thread ++ cond (bare e.kind) [] (encode e.address ++ encode e.value))

unfoldable pub dependency_bytes : Dependency → List ℕ
dependency_bytes d = encode d.class ++ (encode d.from ++ encode d.to)

-- 02 (vi): nothing in edition 1
unfoldable pub dependencies_bytes : (edition : ℕ) → List Dependency → List ℕ
dependencies_bytes edition ds = cond (second edition) (encode (length ds) ++ each dependency_bytes ds) []

unfoldable pub pair_bytes : Pair → List ℕ
pair_bytes p = encode p.a ++ encode p.b

-- the pairs a, b of a's row for i numbers b from b on
unfoldable pub row_pairs : (a row b i : ℕ) → List Pair
row_pairs a row b zero = []
row_pairs a row b (suc i) = cond (bit row b) (record { a = a; b = b } ∷ row_pairs a row (suc b) i) (row_pairs a row (suc b) i)

-- the pairs of the rows from a on
unfoldable pub rows_pairs : (k a : ℕ) → List ℕ → List Pair
rows_pairs k a [] = []
rows_pairs k a (row ∷ rows) = row_pairs a row 0 k ++ rows_pairs k (suc a) rows

unfoldable pub order_bytes : (k : ℕ) → List ℕ → List ℕ
order_bytes k rows = encode (length (rows_pairs k 0 rows)) ++ each pair_bytes (rows_pairs k 0 rows)

unfoldable pub record_of : Case → List ℕ
record_of c =
    encode c.edition ++ (encode c.n ++ (encode c.m ++ (each encode c.initials
    ++ (encode c.k ++ (each event_bytes c.events
    ++ (dependencies_bytes c.edition c.dependencies
    ++ (each (each encode) c.writes
    ++ (each (order_bytes c.k) c.orders
    ++ (encode (length c.name) ++ c.name)))))))))
