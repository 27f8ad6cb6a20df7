-- A struct whose numbers are within their ranges: one that means a case without fault is.
-- Assumes nothing.
use Rattle.std.specs.Prelude.{ℕ, ◌+◌, ◌*◌, ◌≤◌, ◌<◌, ◌≡◌, false, get_or}
use Rattle.finite.specs.Tests.{count}
use Rattle.model.specs.Limits.{most_edition, most_threads, most_addresses, most_events, most_dependencies, most_value, most_name}
use Rattle.model.specs.Case.{most_kind, bare}
use Rattle.model.specs.Record.{store_to}
use Rattle.case.specs.declared.Case.{Case as Held}
use Rattle.case.specs.Held.{link_count, case_of}

pub record Sound (c : Held) : Type 0 where
  pub edition_most : c.edition ≤ most_edition
  pub threads_least : 1 ≤ c.threads
  pub threads_most : c.threads ≤ most_threads
  pub addresses_least : 1 ≤ c.addresses
  pub addresses_most : c.addresses ≤ most_addresses
  pub events_most : c.events ≤ most_events
  pub initial : (x : ℕ) → x < c.addresses → get_or c.initial x 0 ≤ most_value
  pub kind : (e : ℕ) → e < c.events → get_or c.kind e 0 ≤ most_kind c.edition
  pub thread : (e : ℕ) → e < c.events → get_or c.thread e 0 < c.threads
  pub address : (e : ℕ) → e < c.events → bare (get_or c.kind e 0) ≡ false → get_or c.address e 0 < c.addresses
  pub value : (e : ℕ) → e < c.events → bare (get_or c.kind e 0) ≡ false → get_or c.value e 0 ≤ most_value
  pub links_most : link_count c.edition c.dependencies ≤ most_dependencies
  pub from : (i : ℕ) → i < link_count c.edition c.dependencies → get_or c.from i 0 < c.events
  pub to : (i : ℕ) → i < link_count c.edition c.dependencies → get_or c.to i 0 < c.events
  pub written : (x : ℕ) → x < c.addresses → (i : ℕ) → i < count c.events (store_to (case_of c).events x) → get_or c.writes (x * most_events + i) 0 < c.events
  pub name_most : c.namelength ≤ most_name
