-- What is written is read back: a case that keeps the limits has no fault, and reading finds none.
-- Assumes nothing.
use Prim.Native.Nat.{ℕ, ◌+◌, ◌≤◌}
use native.Mathlib.Nat.{zero-add}
use native.Mathlib.Omega.{arith}
use mathlib.Core.Path.{◌≡◌, refl, ◌∙◌}
use mathlib.Core.List.{List, [], ◌++◌}
use lib.ListN.{length, drop}
use Rattle.finite.specs.Lists.{each}
use Rattle.number.specs.Number.{encode}
use Rattle.number.specs.Reader.{next, turns, times}
use Rattle.codec.proofs.ReadsAs.{ReadsAs}
use Rattle.model.specs.Case.{Case}
use Rattle.model.specs.Record.{dependency_good, dependencies, store_to, next_write_order, order, head, listing, case, read}
use Rattle.model.specs.Written.{dependencies_bytes, order_bytes, record_of}
use Rattle.model.specs.Fault.{first_fault, writes_fault, fault}
use Rattle.model.specs.Fits.{Fits, Shaped, Numbers}
use Rattle.model.proofs.Faultless.{Passed, passed, Neither, neither, faultless, fits_of, shaped}
use Rattle.laws.proofs.Parts.{head_bytes, head_of, listing_bytes, listing_of}
use Rattle.laws.proofs.Faulty.{Wide, faulty_as, faulty_reads}
use Rattle.laws.proofs.FirstBadField.{every-number, good_head, listing_fault, links_fault, rest_fault, by_parts, faulty_head, faulty_listing, faulty_all_links, faulty_all-writes, faulty_orders, faulty_case}

module _ (c : Case) (F : Fits c) where
  S : Shaped c
  S = shaped c F

  -- nothing has to be known of its numbers, since none is at fault
  N : Numbers (Wide Unit) c
  N = every-number (λ v h. tt) c

  -- no part of its record has a fault
  heading : Passed (good_head c) (first_fault (listing_fault c) (first_fault (links_fault c) (rest_fault c)))
  heading = passed (good_head c) 2 _ (by_parts c ∙ faultless c F)

  listed : Neither (listing_fault c) (first_fault (links_fault c) (rest_fault c))
  listed = neither (listing_fault c) _ heading.there

  linked : Neither (links_fault c) (rest_fault c)
  linked = neither (links_fault c) _ listed.there

  pub reads_head : ReadsAs head (head_bytes (head_of c)) (head_of c)
  reads_head = faulty_reads (faulty_as (rw heading.here) (faulty_head Unit c S N))

  pub reads_listing : ReadsAs (listing c.edition c.n c.m) (listing_bytes (listing_of c)) (listing_of c)
  reads_listing = faulty_reads (faulty_as listed.here (faulty_listing Unit c S N heading.here))

  pub reads_links : ReadsAs (dependencies c.edition c.k (dependency_good c.events)) (dependencies_bytes c.edition c.dependencies) c.dependencies
  reads_links = faulty_reads (faulty_as linked.here (faulty_all_links Unit c S N F.k_most))

  pub reads_writes : ReadsAs (turns c.m (next_write_order c.k (store_to c.events)) []) (each (each encode) c.writes) c.writes
  reads_writes =
      faulty_reads (faulty_as (neither (writes_fault c.k (store_to c.events) 0 c.writes) _ linked.there).here (faulty_all-writes Unit c S N F.k_most))

  pub reads_orders : ReadsAs (times c.n (order c.k)) (each (order_bytes c.k) c.orders) c.orders
  reads_orders = faulty_reads (faulty_orders Unit c S N F.k_most)

  pub reads_case : ReadsAs case (record_of c) c
  reads_case = faulty_reads (faulty_as (faultless c F) (faulty_case Unit c S N))

  -- wherever a case's record stands, reading gives the case and the place behind it
  pub read_back_at : (s : List ℕ) (at : ℕ) (t : List ℕ) → at ≤ length s → drop at s ≡ record_of c ++ t → case s at ≡ next c (at + length (record_of c))
  read_back_at = reads_case.run

  -- reading a case's record gives the case and the record's length, whatever lies behind it
  pub read_back : (t : List ℕ) → read (record_of c ++ t) ≡ next c (length (record_of c))
  unfolding read
  read_back t = reads_case.run (record_of c ++ t) 0 t (omega arith) refl ∙ rw (zero-add (length (record_of c)))

-- what a writer makes of a case without fault is read back as the case
pub round_trip : (c : Case) → Shaped c → fault c ≡ 0 → (t : List ℕ) → read (record_of c ++ t) ≡ next c (length (record_of c))
round_trip c S e t = read_back c (fits_of c S e) t
