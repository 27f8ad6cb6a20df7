-- The fields of a record that decide between two permutations, over the arrays of a struct: of threads, the thread fields and the thread
-- orders; of addresses, the initial values and the address fields.
-- Assumes nothing.
use Rattle.std.specs.Prelude.{ℕ, cond, List, [], ◌++◌, get_or}
use Rattle.number.specs.Number.{encode}
use Rattle.permutation.specs.Permutation.{image, inverse}
use Rattle.model.specs.Case.{bare}
use Rattle.model.specs.Written.{order_bytes}
use Rattle.writer.specs.Stages.{run}
use Rattle.relabel.specs.Orders.{order}

-- the thread field of event e under the threads' permutation q
unfoldable pub thread_at : (threads : List ℕ) (q e : ℕ) → List ℕ
thread_at ts q e = encode (image q (get_or ts e 0))

-- the order that stands at label y
unfoldable pub order_at : (rows : List ℕ) (k q y : ℕ) → List ℕ
order_at rows k q y = order_bytes k (order k rows (image (inverse q) y))

unfoldable pub threads_part : (threads rows : List ℕ) (n k q : ℕ) → List ℕ
threads_part ts rows n k q = run (thread_at ts q) k ++ run (order_at rows k q) n

-- the initial value that stands at label y under the addresses' permutation r
unfoldable pub initial_at : (initials : List ℕ) (r y : ℕ) → List ℕ
initial_at is r y = encode (get_or is (image (inverse r) y) 0)

-- the address field of event e, if it has one
unfoldable pub address_at : (kinds addresses : List ℕ) (r e : ℕ) → List ℕ
address_at ks xs r e = cond (bare (get_or ks e 0)) [] (encode (image r (get_or xs e 0)))

unfoldable pub addresses_part : (initials kinds addresses : List ℕ) (m k r : ℕ) → List ℕ
addresses_part is ks xs m k r = run (initial_at is r) m ++ run (address_at ks xs r) k
