-- The parts of a record and their bytes.
-- Assumes nothing.
use Prim.Native.Nat.{ℕ, ◌≤◌}
use mathlib.Core.Path.{◌≡◌}
use mathlib.Core.Bool.{Bool, true, false, cond}
use mathlib.Core.List.{List, ◌++◌, append_assoc}
use lib.Dec.{lit≤}
use lib.ListN.{length}
use Rattle.finite.specs.Lists.{each}
use Rattle.number.specs.Number.{encode}
use Rattle.model.specs.Limits.{second}
use Rattle.model.specs.Case.{Case, sync, lwsync, most_kind}
use Rattle.model.specs.Record.{Head, Listing, Rest}
use Rattle.model.specs.Written.{event_bytes, dependencies_bytes, order_bytes, record_of}

-- no edition has a greater kind
pub kinds_most : (edition : ℕ) → most_kind edition ≤ lwsync
unfolding most_kind
kinds_most edition = go (second edition)
  where
    go : (x : Bool) → cond x lwsync sync ≤ lwsync
    go true = lit≤ tt
    go false = lit≤ tt

-- the bytes of the parts of a record
abbrev pub head_bytes : Head → List ℕ
head_bytes h = encode h.edition ++ (encode h.n ++ encode h.m)

abbrev pub listing_bytes : Listing → List ℕ
listing_bytes l = each encode l.initials ++ (encode l.k ++ each event_bytes l.events)

abbrev pub rest_bytes : ℕ → Rest → List ℕ
rest_bytes k t = each (each encode) t.writes ++ (each (order_bytes k) t.orders ++ (encode (length t.name) ++ t.name))

-- the parts of a case
abbrev pub head_of : Case → Head
head_of c = record { edition = c.edition; n = c.n; m = c.m }

abbrev pub listing_of : Case → Listing
listing_of c = record { initials = c.initials; k = c.k; events = c.events }

abbrev pub rest_of : Case → Rest
rest_of c = record { writes = c.writes; orders = c.orders; name = c.name }

pub parted : (c : Case)
    → record_of c ≡ head_bytes (head_of c) ++ (listing_bytes (listing_of c) ++ (dependencies_bytes c.edition c.dependencies ++ rest_bytes c.k (rest_of c)))
unfolding record_of
parted c = simp append_assoc
