-- Ranges of a good struct's numbers, in the form in which the code needs them.
-- Assumes nothing.
use Prim.Native.Nat.{ℕ, ◌+◌, ◌≤◌, ◌<◌}
use native.Mathlib.Omega.{arith}
use mathlib.Core.Path.{◌≡◌}
use lib.ListN.{get_or}
use Rattle.bits.specs.Bit.{width}
use Rattle.model.specs.Limits.{most_threads, most_addresses}
use Rattle.storage_model.specs.Limits.{most_writes, most_barriers}
use Rattle.storage.specs.Held.{Good}
use Rattle.storage.specs.declared.Storage.{Storage as Held}
use Rattle.storage.proofs.Means.{threads-few, addresses-few, writes-few, barriers-few, writer-within, owner-within}

-- a thread
pub thread_low : {c : Held} {t : ℕ} → Good c → t < c.threads → t < most_threads
thread_low {c} G l = let n = threads-few c G in omega (arith, n)

-- a write
pub write_low : {c : Held} {w : ℕ} → Good c → w < c.writes → w < most_writes
write_low {c} G l = let n = writes-few c G in omega (arith, n)

-- as an entry of a set
pub write_narrow : {c : Held} {w : ℕ} → Good c → w < c.writes → w < width
write_narrow {c} G l = let n = writes-few c G in omega (arith, n)

-- a barrier
pub barrier_low : {c : Held} {b : ℕ} → Good c → b < c.barriers → b < most_barriers
barrier_low {c} G l = let n = barriers-few c G in omega (arith, n)

-- how many writes
pub writes_most : {c : Held} → Good c → c.writes ≤ most_writes
writes_most {c} G = writes-few c G

-- as entries of a set
pub writes_narrow : {c : Held} → Good c → c.writes ≤ width
writes_narrow {c} G = let n = writes-few c G in omega (arith, n)

-- a barrier's entry
pub entry_narrow : {c : Held} {b e : ℕ} → Good c → b < c.barriers → e ≡ b + most_writes → e < width
entry_narrow {c} G l p = let n = barriers-few c G in omega (arith, p)

-- a write's thread
pub writer_low : {c : Held} {w t : ℕ} → Good c → w < c.writes → t ≡ get_or c.writer w 0 → t < most_threads
writer_low {c} {w} G l e = let n = threads-few c G in let m = writer-within c G w l in omega (arith, e)

-- a barrier's thread
pub owner_low : {c : Held} {b t : ℕ} → Good c → b < c.barriers → t ≡ get_or c.owner b 0 → t < most_threads
owner_low {c} {b} G l e = let n = threads-few c G in let m = owner-within c G b l in omega (arith, e)

-- an address
pub address_low : {c : Held} {a : ℕ} → Good c → a < c.addresses → a < most_addresses
address_low {c} G l = let n = addresses-few c G in omega (arith, n)

-- as a byte
pub address-byte : {c : Held} {a : ℕ} → Good c → a < c.addresses → a < 256
address-byte {c} G l = let n = addresses-few c G in omega (arith, n)

-- what the check is given for the functions of a state
pub ruleset ranges = (thread_low, write_low, write_narrow, barrier_low, writes_most, writes_narrow, entry_narrow, writer_low, owner_low, address_low, address-byte, threads-few, addresses-few, barriers-few)
