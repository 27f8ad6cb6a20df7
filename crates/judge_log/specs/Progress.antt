-- What the program's progress through a log means, and how a read changes it.
-- Assumes nothing.
use Rattle.std.specs.Prelude.{ℕ, ◌+◌, ◌-◌, ◌*◌, ◌≤◌, ◌<◌, ◌≡◌, Bool, true, false, cond, ◌||◌, List, leb, ltb, length, take, Result, Ok, Err}
use Rattle.std.specs.declared.io.Error.{Error}
use Rattle.model.specs.Limits.{most_edition}
use Rattle.model.specs.Bound.{most_bytes}
use Rattle.tally.specs.Tally.{zeros}
use Rattle.log_model.specs.Log.{Summary, summary}
use Rattle.log_model.specs.Pieces.{Answer, judge_log, joined}
use Rattle.log_model.specs.Claim.{Placed}
use Rattle.stream.specs.declared.Got.{Got}
use Rattle.stream.specs.Kept.{Kept, ReadOn}
use Rattle.judge_log.specs.declared.input.Progress.{Progress}
use Rattle.judge_log.specs.declared.input.Outcome.{Outcome}
use Rattle.judge_log.specs.declared.input.State.{State}
use Rattle.judge_log.specs.declared.input.State.TheVariants.{Going, Over}

-- more than the program's other buffers: its own for an argument, and those of std for what is printed, an error's words and a number's digits
abbrev pub other_buffers : ℕ
other_buffers = 4096 + 4096 + 64 + 20

-- a buffer of so many bytes holds what is kept of any log and one byte more; 02 (iii): "at most 64 KiB of buffers"
pub record Room (size : ℕ) : Type 0 where
  pub enough : most_bytes most_edition < size
  pub most : size + other_buffers ≤ 64 * 1024

-- a log of which nothing was read, its tally "Begun at zeros"
abbrev pub begun : Progress
begun = record { at = 0; have = 0; place = 0; tally = zeros; due = 0 }

-- after a call on the bytes up to have, which begin at that place
unfoldable pub after : (place have : ℕ) → Answer → State
after place have a =
    cond a.ended (Over (record { tally = a.tally; number = a.ending.number; place = a.ending.place }))
    (Going (record { at = a.judged; have = have; place = place + a.judged; tally = a.tally; due = 2 * (have - a.judged) }))

-- with the bytes up to have kept at the front
abbrev pub held_on : (have : ℕ) → Progress → Progress
held_on have p = record { at = 0; have = have; place = p.place; tally = p.tally; due = p.due }

-- so many bytes are judged now: the input has ended, or they are due, or more than any record has
abbrev pub is_due : (ended : Bool) (have due : ℕ) → Bool
is_due ended have due = ended || (leb due have || ltb (most_bytes most_edition) have)

-- the bytes of the buffer b up to have are judged: all, where they are the last of the log, and else as far as the code likes, so long
-- as no more are left than a record may have
pub record JudgedHeld (b : List ℕ) (have : ℕ) (last : Bool) (p : Progress) (r : State) : Type 0 where
  pub upto : ℕ
  pub within : upto ≤ have
  pub whole : last ≡ true → upto ≡ have
  pub same : r ≡ after p.place have (judge_log p.place last (take upto b) p.tally)
  pub few : (q : Progress) → r ≡ Going q → have - q.at ≤ most_bytes most_edition

-- what a read came to, which left the buffer b: the input can't be read, or the bytes are judged if they are due, or else kept
pub data AfterRead (b : List ℕ) (got : Result Got Error) (p : Progress) (r : Result State Error) : Type 0 where
  unreadable : (e : Error) → got ≡ Err e → r ≡ Err e → AfterRead b got p r
  judging : (g : Got) (s : State) → got ≡ Ok g → is_due g.ended g.have p.due ≡ true → JudgedHeld b g.have g.ended p s → r ≡ Ok s → AfterRead b got p r
  keeping : (g : Got) → got ≡ Ok g → is_due g.ended g.have p.due ≡ false → r ≡ Ok (Going (held_on g.have p)) → AfterRead b got p r

-- the log goes on: what is kept lies in the buffer and is no more than a record may have, and its place is at most what so many records
-- take
pub record Ready (b : List ℕ) (p : Progress) : Type 0 where
  pub held : Kept p.at p.have (length b)
  pub few : p.have - p.at ≤ most_bytes most_edition
  pub placed : Placed p.place p.tally

-- one read from the progress p with the buffer b to r with b'
pub record Stepped (b : List ℕ) (p : Progress) (b' : List ℕ) (r : Result State Error) : Type 0 where
  pub got : Result Got Error
  pub read : ReadOn b p.at p.have b' got
  pub after_read : AfterRead b' got p r

-- read by read, from the start of the log
pub data Reached : List ℕ → Result State Error → Type 0 where
  first : (b : List ℕ) → Room (length b) → Reached b (Ok (Going begun))
  next : {b b' : List ℕ} {p : Progress} {r : Result State Error} → Reached b (Ok (Going p)) → Stepped b p b' r → Reached b' r

-- the program ends where so many reads have led it
pub record Finished (r : Result State Error) : Type 0 where
  pub buffer : List ℕ
  pub reached : Reached buffer r

-- what is printed
abbrev pub summary_of : Outcome → Summary
summary_of o = record { tally = o.tally; ending = record { number = o.number; place = o.place } }

-- what is printed is the summary of the log that the pieces make together, which were read
pub record WholeLog (o : Outcome) : Type 0 where
  pub pieces : List (List ℕ)
  pub same : summary_of o ≡ summary zeros (joined pieces)
