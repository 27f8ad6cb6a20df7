-- A case: 01's term for one candidate execution, with what each thread saw in which order.
-- Assumes nothing.
use Rattle.std.specs.Prelude.{ℕ, Bool, cond, ◌||◌, List, eqb}
use Rattle.model.specs.Limits.{between, second, most_threads, least_printable, most_printable}

-- 01: "kind (0 load, 1 store, 2 sync)"
abbrev pub load : ℕ
load = 0

abbrev pub store : ℕ
store = 1

abbrev pub sync : ℕ
sync = 2

-- 02 (vi): "Kind 3 is lwsync"
abbrev pub lwsync : ℕ
lwsync = 3

-- the greatest kind of an edition: 02 (vi): in edition 1 "kind 3 stays refused with 3"
unfoldable pub most_kind : (edition : ℕ) → ℕ
most_kind edition = cond (second edition) lwsync sync

-- events of the kind have neither address nor value: 01: "unless it is a sync, address and value"; 02 (vi): lwsync is "laid out as a
-- sync is"
abbrev pub bare : ℕ → Bool
bare kind = eqb kind sync || eqb kind lwsync

pub record Event : Type 0 where
  pub kind : ℕ
  pub thread : ℕ
  pub address : ℕ
  pub value : ℕ

-- what stands past the last event: a sync of no thread
abbrev pub no_event : Event
no_event = record { kind = sync; thread = most_threads; address = 0; value = 0 }

-- 02 (vi): "class (0 address, 1 data, 2 control)"
abbrev pub by_address : ℕ
by_address = 0

abbrev pub by_data : ℕ
by_data = 1

abbrev pub by_control : ℕ
by_control = 2

abbrev pub most_class : ℕ
most_class = by_control

-- how event `to` depends on load `from`
pub record Dependency : Type 0 where
  pub class : ℕ
  pub from : ℕ
  pub to : ℕ

-- a name may hold the byte
unfoldable pub printable : ℕ → Bool
printable b = between least_printable most_printable b

pub record Case : Type 0 where
  pub edition : ℕ
  -- how many threads, addresses and events
  pub n : ℕ
  pub m : ℕ
  pub k : ℕ
  -- by address
  pub initials : List ℕ
  -- in listing order, numbered from 0
  pub events : List Event
  -- none in edition 1
  pub dependencies : List Dependency
  -- by address: its stores in write order, first to last
  pub writes : List (List ℕ)
  -- by thread and event a: the number whose bit b says that a comes before b in the thread's order
  pub orders : List (List ℕ)
  pub name : List ℕ
