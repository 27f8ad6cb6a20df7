-- What is claimed of every log that comes in pieces, begun at zeros (02 (iii)).
-- Assumes nothing.
use Rattle.std.specs.Prelude.{ℕ, ◌+◌, ◌*◌, ◌≤◌, ◌≡◌, cond, List, [], ◌∷◌, leb, length, take}
use Rattle.model.specs.Limits.{most_edition}
use Rattle.model.specs.Bound.{most_bytes}
use Rattle.tally.specs.declared.Tally.{Tally}
use Rattle.tally.specs.Tally.{most_count, rules, zeros, tally_of}
use Rattle.log_model.specs.Log.{count_full, Log, log_from, Summary, summary}
use Rattle.log_model.specs.Pieces.{Fed, going, over, begun, kept, feed_all, finish, joined}

-- of all numbers of a list
abbrev pub sum : List ℕ → ℕ
sum [] = 0
sum (x ∷ xs) = x + sum xs

-- "accepted and rule counts must add up to the records it took in"
pub record Balanced (t : Tally) : Type 0 where
  pub adds : t.accepted + sum t.broken ≡ t.records
  pub each : length t.broken ≡ rules

-- "what the whole log's list of verdicts gives"; past 4,294,967,295 records what as many of them give, and 6
abbrev pub counted : Log → Summary
counted l =
    cond (leb (length l.verdicts) most_count) (record { tally = tally_of l.verdicts; ending = l.ending })
    (record { tally = tally_of (take most_count l.verdicts); ending = count_full })

-- the most numbers that the reader of a record takes, whether they are bytes or not (of bytes it is one less, `most_bytes`)
abbrev pub most_taken : ℕ
most_taken = most_bytes most_edition + 1

-- the place is at most what so many records take, and no more are counted than can be
pub record Placed (place : ℕ) (t : Tally) : Type 0 where
  pub few : place ≤ t.records * most_taken
  pub most : t.records ≤ most_count

-- so is that of what is kept
abbrev pub PlacedFed : Fed → Type 0
PlacedFed (over r) = Unit {0}
PlacedFed (going s place t) = Placed place t

-- the claim about a log that comes in these pieces
pub record LogClaim (pieces : List (List ℕ)) : Type 0 where
  -- "however the input was cut"
  pub whole : finish (feed_all (begun zeros) pieces) ≡ summary zeros (joined pieces)
  -- "Begun at zeros, the tally must equal what the whole log's list of verdicts gives"
  pub tally : summary zeros (joined pieces) ≡ counted (log_from 0 (joined pieces))
  pub balanced : Balanced (summary zeros (joined pieces)).tally
  -- no more is kept between pieces than the longest record has, and its place fits 64 bits (`place-fits`)
  pub few : length (kept (feed_all (begun zeros) pieces)) ≤ most_bytes most_edition
  pub placed : PlacedFed (feed_all (begun zeros) pieces)
