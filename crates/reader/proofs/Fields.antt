-- The ways through reading a record's head, its listing and its rest.
-- Assumes nothing.
use Prim.Native.Nat.{ℕ, ◌*◌, ◌≤◌}
use mathlib.Core.Path.{◌≡◌, refl, sym}
use mathlib.Core.List.{List, []}
use lib.ListN.{length}
use Rattle.number.specs.Number.{read_number}
use Rattle.number.specs.Reader.{stop, next, up_to, within, turns, times}
use Rattle.number.proofs.Laws.{read_within}
use Rattle.model.specs.Limits.{most_threads, most_addresses, most_events, most_value, most_name}
use Rattle.model.specs.Record.{event, next_write_order, order, text, listing, rest}
use Rattle.case.specs.Stores.{store_at}
use borrow.Author.Tests.{leb-true}
use Rattle.reader.specs.Counts.{Counts}
use Rattle.reader.specs.Answers.{Done, Counted, Padded, Tabled, Events, ListingStored, RestStored}
use Rattle.reader.proofs.Forward.{gone, forward_within, forward_text}

pub up_to_most : (s : List ℕ) (at hi v p : ℕ) → next v p ≡ read_number s at hi → v ≤ hi
up_to_most s at hi v p e = read_within s at hi v p (sym e)

-- the counts of a head
pub counts_in : (s : List ℕ) (at n p m q : ℕ) → next n p ≡ within 1 most_threads s at → next m q ≡ within 1 most_addresses s p → Counts n m
counts_in s at n p m q e f =
    let a = (gone (forward_within {s = s} 1 most_threads) at n p (sym e)).holds in
    let b = (gone (forward_within {s = s} 1 most_addresses) p m q (sym f)).holds in
    record { threads_least = leb-true 1 n a.1; threads_most = a.0; addresses_least = leb-true 1 m b.1; addresses_most = b.0 }

-- initial values and events
module _ (s : List ℕ) (at edition n m : ℕ) where
  pub no_initials : (x p : ℕ) → times m (up_to most_value) s at ≡ stop x p → listing edition n m s at ≡ stop x p
  unfolding listing
  no_initials x p g = rw g

  module _ (p₁ : ℕ) (initial : List ℕ) (d₁ : Done (Padded most_addresses initial) (times m (up_to most_value) s at) p₁) where
    pub no_count : (x p : ℕ) → stop x p ≡ read_number s p₁ most_events → listing edition n m s at ≡ stop x p
    unfolding listing up_to
    no_count x p e = rw (d₁.is, ← e)

    module _ (k p₂ : ℕ) (e₂ : next k p₂ ≡ read_number s p₁ most_events) where
      pub no_events_read : (x p : ℕ) → times k (event edition n m) s p₂ ≡ stop x p → listing edition n m s at ≡ stop x p
      unfolding listing up_to
      no_events_read x p g = rw (d₁.is, ← e₂, g)

      pub whole-listing : (p₃ : ℕ) (ks ts as' vs : List ℕ) → Done (Events ks ts as' vs) (times k (event edition n m) s p₂) p₃
          → Counted (λ l. l.k) (ListingStored initial ks ts as' vs) (listing edition n m s at) k p₃
      unfolding listing up_to
      whole-listing p₃ ks ts as' vs d = record {
        what = record { initials = d₁.what; k = k; events = d.what };
        is = rw (d₁.is, ← e₂, d.is);
        number_is = refl;
        stored = record { initials = d₁.stored; events = d.stored; few = up_to_most s p₁ most_events k p₂ e₂ };
      }

-- write orders, orders and name
module _ (s : List ℕ) (at n m k : ℕ) (ks as' : List ℕ) where
  pub no_writes : (x p : ℕ) → turns m (next_write_order k (store_at ks as')) [] s at ≡ stop x p → rest n m k (store_at ks as') s at ≡ stop x p
  unfolding rest
  no_writes x p g = rw g

  module _ (p₁ : ℕ) (ws : List ℕ) (d₁ : Done (Tabled (most_addresses * most_events) ws) (turns m (next_write_order k (store_at ks as')) [] s at) p₁) where
    pub no_orders : (x p : ℕ) → times n (order k) s p₁ ≡ stop x p → rest n m k (store_at ks as') s at ≡ stop x p
    unfolding rest
    no_orders x p g = rw (d₁.is, g)

    module _ (p₂ : ℕ) (rows : List ℕ) (d₂ : Done (Tabled (most_threads * most_events) rows) (times n (order k) s p₁) p₂) where
      pub no_length : (x p : ℕ) → stop x p ≡ read_number s p₂ most_name → rest n m k (store_at ks as') s at ≡ stop x p
      unfolding rest up_to
      no_length x p e = rw (d₁.is, d₂.is, ← e)

      module _ (i p₃ : ℕ) (e₃ : next i p₃ ≡ read_number s p₂ most_name) where
        pub no_name : (x p : ℕ) → text i s p₃ ≡ stop x p → rest n m k (store_at ks as') s at ≡ stop x p
        unfolding rest up_to
        no_name x p g = rw (d₁.is, d₂.is, ← e₃, g)

        pub whole-rest : (p₄ : ℕ) (name : List ℕ) → Done (Padded most_name name) (text i s p₃) p₄
            → Counted (λ t. length t.name) (RestStored ws rows name) (rest n m k (store_at ks as') s at) i p₄
        unfolding rest up_to
        whole-rest p₄ name d = record {
          what = record { writes = d₁.what; orders = d₂.what; name = d.what };
          is = rw (d₁.is, d₂.is, ← e₃, d.is);
          number_is = sym (gone (forward_text i) p₃ d.what p₄ d.is).holds.0;
          stored = record { writes = d₁.stored; orders = d₂.stored; name = d.stored };
        }
