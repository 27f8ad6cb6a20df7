-- Each way through the functions that append to an area.
-- Assumes nothing.
use Prim.Native.Nat.{ℕ, ◌+◌, ◌-◌, ◌≤◌, ◌<◌}
use native.Mathlib.Omega.{arith}
use mathlib.Core.Path.{◌≡◌, refl, sym, ap, ◌∙◌}
use mathlib.Core.Bool.{Bool, true, false, cond}
use mathlib.Core.List.{List}
use lib.Dec.{leb, ltb}
use lib.ListN.{length, take, drop}
use lib.Seq.{length-take-le}
use borrow.Author.Tests.{le-leb, lt-leb, leb-true, ltb-true, ltb-false}
use Rattle.finite.specs.Lists.{every}
use Rattle.model.specs.Record.{read}
use Rattle.model.specs.Answers.{refusal, done}
use Rattle.answers.specs.declared.Answer.{Answer}
use Rattle.std.proofs.Common.{Ok, Err}
use Rattle.number.specs.declared.Refusal.{Refusal}
use Rattle.answers.specs.declared.Cause.{Cause}
use Rattle.answers.specs.declared.Cause.TheVariants.{Fault}
use Rattle.answers.specs.declared.Refused.{Refused}
use Rattle.answers.specs.Shown.{shown, cause_number}
use Rattle.laws.proofs.ExtentCase.{accepted}
use Rattle.reader.specs.declared.Reading.{Reading}
use Rattle.reader.specs.Answers.{ReadingOf}
use Rattle.area_model.specs.Area.{is_unused, found, appending, store_some, refuse, append_at, append_read, append}
use Rattle.area.specs.Shown.{EndOf, stores_given, refusal_at, Answered, Made}
use Rattle.area.proofs.Told.{cause_some, faultless, faulty}

-- ---- the ways through `has_room` and `refusal_at`

pub room_is : (area : List ℕ) (end size : ℕ) → end ≤ length area → ltb size (length area - end) ≡ leb (end + 1 + size) (length area)
room_is area end size inside = go (ltb size (length area - end)) refl
  where
    go : (y : Bool) → ltb size (length area - end) ≡ y → y ≡ leb (end + 1 + size) (length area)
    go true e = let l : size < length area - end = ltb-true size (length area - end) e in sym (le-leb (end + 1 + size) (length area) (omega arith))
    go false e = let l : length area - end ≤ size = ltb-false size (length area - end) e in sym (lt-leb (end + 1 + size) (length area) (omega arith))

module _ (area : List ℕ) (end size : ℕ) (y : Bool) (room : y ≡ leb (end + 1 + size) (length area)) where
  pub no_room : y ≡ false → 6 ≡ refusal_at end size area
  no_room e = let z : leb (end + 1 + size) (length area) ≡ false = sym room ∙ e in rw z

  module _ (e : y ≡ true) (b : Bool) (free : b ≡ every is_unused (drop end area)) where
    fits : leb (end + 1 + size) (length area) ≡ true
    fits = sym room ∙ e

    pub unrepaired : b ≡ false → 8 ≡ refusal_at end size area
    unrepaired n = let z : every is_unused (drop end area) ≡ false = sym free ∙ n in rw (fits, z)

    pub free-room : b ≡ true → 0 ≡ refusal_at end size area
    free-room h = let z : every is_unused (drop end area) ≡ true = sym free ∙ h in rw (fits, z)

-- ---- the ways through `append_at`

-- there is room, and all of it is unused
record Free (area : List ℕ) (end size : ℕ) : Type 0 where
  room : leb (end + 1 + size) (length area) ≡ true
  unused : every is_unused (drop end area) ≡ true

is_free : (area : List ℕ) (end size : ℕ) → refusal_at end size area ≡ 0 → Free area end size
is_free area end size e = go (leb (end + 1 + size) (length area)) (every is_unused (drop end area)) refl refl e
  where
    go : (y z : Bool) → leb (end + 1 + size) (length area) ≡ y → every is_unused (drop end area) ≡ z → ◌≡◌ {A = ℕ} (cond y (cond z 0 8) 6) 0 → Free area end size
    go true true p q e = record { room = p; unused = q }
    go true false p q e = absurd (omega arith)
    go false z p q e = absurd (omega arith)

pub room_for : (area : List ℕ) (end size : ℕ) → 0 ≡ refusal_at end size area → end + 1 + size ≤ length area
room_for area end size z = leb-true (end + 1 + size) (length area) (is_free area end size (sym z)).room

module _ (area : List ℕ) (end : ℕ) (bytes : List ℕ) (size allowed : ℕ) (fits : size ≤ length bytes) where
  pub stored : 0 ≡ refusal_at end size area → (stores : ℕ) (now : List ℕ) → Made (store_some allowed (appending end (take size bytes)) area) stores now
      → Answered (append_at end allowed (take size bytes) area) (stores_given (Ok stores)) now
  unfolding append_at store_some
  stored z stores now D =
      let F : Free area end size = is_free area end size (sym z) in
      rw (length-take-le size bytes fits, F.room, F.unused) (record { answer = ap (λ (k : ℕ). shown (done k)) D.count; area = D.area })

  pub not-stored : (k : Cause) → cause_number k ≡ refusal_at end size area
      → Answered (append_at end allowed (take size bytes) area) (stores_given (Err (record { cause = k; place = 0 }))) area
  unfolding append_at
  not-stored k e = rw (length-take-le size bytes fits) (go (leb (end + 1 + size) (length area)) (every is_unused (drop end area)) e)
    where
      go : (y z : Bool) → cause_number k ≡ cond y (cond z 0 8) 6
          → Answered (cond y (cond z (store_some allowed (appending end (take size bytes)) area) (refuse 8 0 area)) (refuse 6 0 area)) (stores_given (Err (record { cause = k; place = 0 }))) area
      go true true e = absurd (cause_some k e)
      go true false e = record { answer = ap (λ (n : ℕ). shown (refusal n 0)) e; area = refl }
      go false z e = record { answer = ap (λ (n : ℕ). shown (refusal n 0)) e; area = refl }

-- ---- the ways through `append_read`

module _ (bytes : List ℕ) where
  module _ (r : Reading) (R : ReadingOf (read bytes) (Ok r)) where
    pub record_within : r.length ≤ length bytes
    record_within = (accepted bytes R.c r.length R.is_read).inside

    pub record_appended : (area : List ℕ) (end allowed : ℕ) (a : Answer) (now : List ℕ) → Answered (append_at end allowed (take r.length bytes) area) a now
        → Answered (append_read end allowed bytes area (read bytes)) a now
    record_appended area end allowed a now D = rw R.is_read D

  pub record_refused : (e : Refusal) → ReadingOf (read bytes) (Err e) → (area : List ℕ) (end allowed : ℕ)
      → Answered (append_read end allowed bytes area (read bytes)) (stores_given (Err (record { cause = Fault e.fault; place = e.place }))) area
  record_refused e h area end allowed = rw h (record { answer = refl; area = refl })

-- ---- the ways through `append_log`

module _ (area : List ℕ) (bytes : List ℕ) (allowed : ℕ) where
  pub appended : (end : ℕ) → EndOf (found area) (Ok end) → (a : Answer) (now : List ℕ) → Answered (append_read end allowed bytes area (read bytes)) a now → Answered (append area bytes allowed) a now
  unfolding append
  appended end E a now D = rw (faultless area end E (append_read (found area).end allowed bytes area (read bytes)), ← E.end_is) D

  pub not-appended : (e : Refused) → EndOf (found area) (Err e) → Answered (append area bytes allowed) (stores_given (Err e)) area
  unfolding append
  not-appended e h = faulty area e h (append_read (found area).end allowed bytes area (read bytes))
