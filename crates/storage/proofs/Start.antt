-- The struct of the initial state.
-- Assumes nothing.
use Prim.Native.Nat.{ℕ, zero, suc, ◌+◌, ◌-◌, ◌*◌, ◌≤◌}
use native.Mathlib.Nat.{zero-mul}
use native.Mathlib.Omega.{arith}
use mathlib.Core.Path.{◌≡◌, refl, sym, ap, ap₂, ◌∙◌}
use mathlib.Core.List.{List, [], ◌∷◌, ◌++◌, map}
use lib.ListN.{length, replicate, replicate-append-replicate}
use Rattle.finite.specs.Lists.{table, All}
use Rattle.model.specs.Limits.{most_threads, most_addresses, most_value}
use Rattle.storage_model.specs.Limits.{most_writes, most_barriers, most_listed}
use Rattle.storage_model.specs.Subsystem.{Event, initial}
use Rattle.storage_laws.proofs.Sound.{sound-initial}
use Rattle.storage_laws.proofs.Within.{within-initial}
use Rattle.case.specs.Held.{pad, rows_of}
use Rattle.case.proofs.Pad.{pad-zeros}
use Rattle.storage.specs.Held.{entry_of, rows_held, state_of, held, Good}
use Rattle.storage.proofs.Back.{state_back, good_held}

no_lengths : (n : ℕ) → map length (replicate {A = List Event} n []) ≡ replicate n 0
no_lengths zero = refl
no_lengths (suc n) = ap (λ (l : List ℕ). 0 ∷ l) (no_lengths n)

no_entries : (n k : ℕ) → rows_of k (map (map entry_of) (replicate n [])) ≡ replicate (n * k) 0
unfolding rows_of pad
no_entries zero k = ap (λ (i : ℕ). replicate i 0) (sym (zero-mul k))
no_entries (suc n) k =
    let e : k - 0 ≡ k = omega arith in
    let f : k + n * k ≡ suc n * k = omega arith in
    ap₂ ◌++◌ (ap (λ (i : ℕ). replicate i 0) e) (no_entries n k) ∙ replicate-append-replicate k (n * k) 0 ∙ ap (λ (i : ℕ). replicate i 0) f

-- the struct of the initial state
pub held-initial : (n : ℕ) (initials : List ℕ) → n ≤ most_threads
    → held (initial n initials) ≡ record {
      threads = n;
      addresses = length initials;
      initial = pad most_addresses initials;
      writes = 0;
      writer = replicate most_writes 0;
      address = replicate most_writes 0;
      value = replicate most_writes 0;
      before = replicate most_writes 0;
      barriers = 0;
      owner = replicate most_barriers 0;
      class = replicate most_barriers 0;
      unacknowledged = replicate most_barriers 0;
      listed = replicate most_threads 0;
      events = replicate (most_threads * most_listed) 0;
    }
unfolding held rows_held initial pad table
held-initial n initials h =
    let counts : pad most_threads (map length (replicate {A = List Event} n [])) ≡ replicate most_threads 0 = ap (pad most_threads) (no_lengths n) ∙ pad-zeros most_threads n h in
    let entries : pad (most_threads * most_listed) (rows_of most_listed (map (map entry_of) (replicate n []))) ≡ replicate (most_threads * most_listed) 0 =
    ap (pad (most_threads * most_listed)) (no_entries n most_listed) ∙ pad-zeros (most_threads * most_listed) (n * most_listed) (omega (arith, h)) in
    rw (counts, entries)

-- it is good
pub good_initial : (n : ℕ) (initials : List ℕ) → n ≤ most_threads → length initials ≤ most_addresses → All (λ v. v ≤ most_value) initials → Good (held (initial n initials))
good_initial n initials hn hm hv = good_held (initial n initials) (sound-initial n initials) (within-initial n initials hn hm hv)

-- and means the initial state
pub state-initial : (n : ℕ) (initials : List ℕ) → n ≤ most_threads → length initials ≤ most_addresses → All (λ v. v ≤ most_value) initials
    → state_of (held (initial n initials)) ≡ initial n initials
state-initial n initials hn hm hv = state_back (initial n initials) (sound-initial n initials) (within-initial n initials hn hm hv)
