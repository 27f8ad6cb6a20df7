-- What is found after an append or a repair that was cut anywhere, in an area whose log has no fault.
-- Assumes nothing.
use Prim.Native.Nat.{ℕ, zero, suc, ◌+◌, ◌≤◌, ◌<◌, min}
use native.Mathlib.Omega.{arith}
use native.Mathlib.Nat.{le_refl}
use native.Mathlib.Decide.{dec_lt}
use mathlib.Core.Path.{◌≡◌, refl, sym, ap, ◌∙◌, subst}
use mathlib.Core.Bool.{Bool, true, false, cond}
use mathlib.Core.List.{List, [], ◌∷◌, ◌++◌, append_assoc, append-nil}
use lib.Dec.{eqb, leb}
use lib.ListN.{length, take, drop, set, length-append, length-take, take-append-drop}
use lib.Seq.{take_at, drop_at, take_all, take-append-le, length-take-le, sets-eq, set_at, drop-drop, append_snoc}
use borrow.Author.Tests.{eqb-true, leb-true, ne_eqb, eq-eqb}
use Rattle.finite.specs.Lists.{every}
use Rattle.finite.proofs.Tests.{and_l, and_r}
use Rattle.number.specs.Reader.{Out, stop, next}
use Rattle.model.specs.Case.{Case}
use Rattle.model.specs.Record.{read}
use Rattle.model.specs.Answers.{Stored}
use Rattle.laws.proofs.ExtentCase.{Accepted, accepted}
use Rattle.log_model.specs.Log.{no_fault}
use Rattle.area_model.specs.Area.{unused, finished_flag, is_unused, Found, ends_at, found, Store, after_stores, storing, flagging, appending, clearing, store_some, refuse, append_at, append_read, append, repairing, repair}
use Rattle.area_model.specs.Claim.{Faultless}
use Rattle.area_model.specs.Changes.{Change, appends, repairs, change, flagged, flag_stored}
use Rattle.area_model.proofs.Frames.{Over, found-over, found-one, before_all, Split, split}
use Rattle.area_model.proofs.Stores.{Above, above_take, above_storing, above_clearing, stores-length, stores-take, stores-append, stores-storing, storing-length, appending-length}

-- ---- free room

unused-drop : (n : ℕ) (s : List ℕ) → every is_unused s ≡ true → every is_unused (drop n s) ≡ true
unfolding every
unused-drop zero s h = h
unused-drop (suc n) [] h = h
unused-drop (suc n) (b ∷ s) h = unused-drop n s (and_r (is_unused b) (every is_unused s) h)

pub unused-over : (s : List ℕ) → every is_unused s ≡ true → Over s
unfolding every
unused-over [] h = tt
unused-over (b ∷ s) h = eqb-true b unused (and_l (is_unused b) (every is_unused s) h)

-- of the stores of an append that many are made
stores_made : (end n : ℕ) (w : List ℕ) → length (take n (appending end w)) ≡ min n (suc (length w))
stores_made end n w = length-take n (appending end w) ∙ ap (min n) (appending-length end w)

-- all earlier records are found, and the new ones; the log ends as before, and the area has as many bytes
pub record Step (area : List ℕ) (s : Stored) (new : List (List ℕ)) : Type 0 where
  pub records : (found s.buffer).records ≡ (found area).records ++ new
  pub ending : (found s.buffer).ending ≡ (found area).ending
  pub long : length s.buffer ≡ length area

pub step_same : (area : List ℕ) (s : Stored) → found s.buffer ≡ found area → length s.buffer ≡ length area → Step area s []
step_same area s e l = record {
  records = ap (λ (f : Found). f.records) e ∙ sym (append-nil (found area).records);
  ending = ap (λ (f : Found). f.ending) e;
  long = l;
}

module _ (area : List ℕ) (sound : Faultless area) where
  abbrev S : Split 0 area (found area)
  S = split area sound

  abbrev end : ℕ
  end = (found area).end

  front_length : length S.front ≡ end
  front_length = omega (arith, S.end)

  rest_is : drop end area ≡ S.rest
  rest_is = ap (drop end) S.whole ∙ drop_at S.front S.rest end front_length

  pub end-within : end ≤ length area
  end-within =
      let sizes : length area ≡ length S.front + length S.rest = ap length S.whole ∙ length-append S.front S.rest in
      omega (arith, front_length)

  -- ---- what stores behind the next flag leave

  -- the bytes of the finished frames and the one behind them
  front-and : (b : ℕ) (r : List ℕ) → S.rest ≡ b ∷ r → take (suc end) area ≡ S.front ++ (b ∷ [])
  front-and b r p =
      let long : length (S.front ++ (b ∷ [])) ≡ suc end = length-append S.front (b ∷ []) ∙ omega (arith, front_length) in
      let whole : area ≡ S.front ++ (b ∷ []) ++ r = S.whole ∙ rw p (sym (append_snoc S.front b r)) in
      ap (take (suc end)) whole ∙ take_at (S.front ++ (b ∷ [])) r (suc end) long

  -- there is none behind them
  front_alone : S.rest ≡ [] → area ≡ S.front
  front_alone p = S.whole ∙ rw p (append-nil S.front)

  found_again : found area ≡ before_all (found area).records (ends_at end no_fault)
  found_again = ap found S.whole ∙ S.again S.rest ∙ ap (before_all (found area).records) (found-over end S.rest S.over)

  stays_by : (xs : List Store) → Above (suc end) xs → (r : List ℕ) → S.rest ≡ r → Over r → found (after_stores area xs) ≡ found area
  stays_by xs h [] p o =
      let short : length area ≤ suc end = omega (arith, ap length (front_alone p), front_length) in
      ap found (sym (take_all (suc end) (after_stores area xs) (rw (stores-length xs area) short)) ∙ stores-take (suc end) xs area h ∙ take_all (suc end) area short)
  stays_by xs h (b ∷ r) p o =
      let now : after_stores area xs ≡ S.front ++ (b ∷ drop (suc end) (after_stores area xs)) =
      sym (take-append-drop (suc end) (after_stores area xs)) ∙ ap (λ (x : List ℕ). x ++ drop (suc end) (after_stores area xs)) (stores-take (suc end) xs area h ∙ front-and b r p)
      ∙ append_snoc S.front b (drop (suc end) (after_stores area xs)) in
      ap found now ∙ S.again (b ∷ drop (suc end) (after_stores area xs))
      ∙ ap (before_all (found area).records) (found-over end (b ∷ drop (suc end) (after_stores area xs)) o) ∙ sym found_again

  stays : (xs : List Store) → Above (suc end) xs → found (after_stores area xs) ≡ found area
  stays xs h = stays_by xs h S.rest refl S.over

  -- ---- repair

  pub repair_is : (n : ℕ) → repair area n ≡ store_some n (repairing area) area
  unfolding repair
  repair_is n = rw sound

  -- no store at the next frame's flag, which is unused
  above_repair : (r : List ℕ) → Over r → Above (suc end) (clearing end r)
  unfolding clearing
  above_repair [] o = tt
  above_repair (b ∷ r) o = rw (eq-eqb b unused o) (above_clearing (suc end) (suc end) r (le_refl (suc end)))

  -- stores of a repair leave what is found
  pub repair_stays : (n : ℕ) → found (repair area n).buffer ≡ found area
  unfolding store_some
  repair_stays n =
      ap (λ (s : Stored). found s.buffer) (repair_is n)
      ∙ stays (take n (repairing area)) (above_take (suc end) n (repairing area) (rw rest_is (above_repair S.rest S.over)))

  -- ---- append

  append_is : (bytes : List ℕ) (n : ℕ) → append area bytes n ≡ append_read end n bytes area (read bytes)
  unfolding append
  append_is bytes n = rw sound

  -- cut before the flag
  append-cut : (w : List ℕ) (n : ℕ) → n ≤ length w → found (after_stores area (take n (appending end w))) ≡ found area
  unfolding appending
  append-cut w n l =
      ap (λ (xs : List Store). found (after_stores area xs)) (take-append-le n (storing (suc end) w) (flagging end) (rw (storing-length (suc end) w) l))
      ∙ stays (take n (storing (suc end) w)) (above_take (suc end) n (storing (suc end) w) (above_storing (suc end) (suc end) w (le_refl (suc end))))

  -- the flag before the record and what stands behind it
  flag-stored : (t r : List ℕ) → S.rest ≡ r → end < length area → set (take (suc end) area ++ t) end finished_flag ≡ S.front ++ (finished_flag ∷ t)
  flag-stored t [] p room = absurd (omega (arith, ap length (front_alone p), front_length))
  flag-stored t (b ∷ r) p room =
      ap (λ (x : List ℕ). set (x ++ t) end finished_flag) (front-and b r p)
      ∙ ap (λ (x : List ℕ). set x end finished_flag) (append_snoc S.front b t) ∙ set_at S.front b t finished_flag end front_length

  -- the area with a whole frame more
  append_made : (w : List ℕ) (n : ℕ) → length w < n → end + 1 + length w ≤ length area
      → after_stores area (take n (appending end w)) ≡ S.front ++ (finished_flag ∷ (w ++ drop (suc end + length w) area))
  unfolding appending after_stores
  append_made w n l room =
      let long : length (storing (suc end) w ++ flagging end) ≡ suc (length w) = appending-length end w in
      let all : length (storing (suc end) w ++ flagging end) ≤ n = omega arith in
      ap (after_stores area) (take_all n (storing (suc end) w ++ flagging end) all) ∙ stores-append (storing (suc end) w) (flagging end) area
      ∙ ap (λ (a : List ℕ). set a end finished_flag) (stores-storing (suc end) w area ∙ sets-eq w area (suc end) (omega arith) ∙ append_assoc (take (suc end) area) w (drop (suc end + length w) area))
      ∙ flag-stored (w ++ drop (suc end + length w) area) S.rest refl (omega arith)

  -- the flag was stored
  append-whole : (bytes : List ℕ) (c : Case) (i n : ℕ) → read bytes ≡ next c i → i < n
      → end + 1 + length (take i bytes) ≤ length area → every is_unused (drop end area) ≡ true
      → found (after_stores area (take n (appending end (take i bytes)))) ≡ record { records = (found area).records ++ (take i bytes ∷ []); ending = no_fault; end = end + suc i }
  append-whole bytes c i n e l room clear = go (take i bytes) (length-take-le i bytes A.inside) A.front room
    where
      A : Accepted bytes c i
      A = accepted bytes c i e

      go : (w : List ℕ) → length w ≡ i → ((t : List ℕ) → read (w ++ t) ≡ next c i) → end + 1 + length w ≤ length area
          → found (after_stores area (take n (appending end w))) ≡ record { records = (found area).records ++ (w ∷ []); ending = no_fault; end = end + suc i }
      go w long front room =
          let sum : end + suc (length w) ≡ suc end + length w = omega arith in
          let free : every is_unused (drop (suc end + length w) area) ≡ true =
          subst (λ (x : List ℕ). every is_unused x ≡ true) (drop-drop (suc (length w)) end area ∙ ap (λ (k : ℕ). drop k area) sum) (unused-drop (suc (length w)) (drop end area) clear) in
          ap found (append_made w n (omega arith) room) ∙ S.again (finished_flag ∷ (w ++ drop (suc end + length w) area))
          ∙ ap (before_all (found area).records) (found-one end (w ++ drop (suc end + length w) area) c i (front (drop (suc end + length w) area))
          ∙ rw (
            take_at w (drop (suc end + length w) area) i long,
            drop_at w (drop (suc end + length w) area) i long,
            found-over (end + suc i) (drop (suc end + length w) area) (unused-over (drop (suc end + length w) area) free),
          ))

  -- ---- one change

  step-at : (bytes : List ℕ) (c : Case) (i n : ℕ) → read bytes ≡ next c i
      → Step area (append_at end n (take i bytes) area) (flagged bytes (append_at end n (take i bytes) area).answer (next c i))
  unfolding append_at store_some
  step-at bytes c i n e = go (leb (end + 1 + length (take i bytes)) (length area)) refl (every is_unused (drop end area)) refl
    where
      long : length (take i bytes) ≡ i
      long = length-take-le i bytes (accepted bytes c i e).inside

      made : leb (end + 1 + length (take i bytes)) (length area) ≡ true → every is_unused (drop end area) ≡ true → Dec (i < n)
          → Step area (store_some n (appending end (take i bytes)) area) (cond (eqb (length (take n (appending end (take i bytes)))) (i + 1)) (take i bytes ∷ []) [])
      made p q (yes l) =
          let whole = append-whole bytes c i n e l (leb-true (end + 1 + length (take i bytes)) (length area) p) q in
          let count : length (take n (appending end (take i bytes))) ≡ i + 1 = stores_made end n (take i bytes) ∙ omega (arith, long) in
          rw (eq-eqb (length (take n (appending end (take i bytes)))) (i + 1) count)
          (record { records = ap (λ (f : Found). f.records) whole; ending = ap (λ (f : Found). f.ending) whole ∙ sym S.ending; long = stores-length (take n (appending end (take i bytes))) area })
      made p q (no l) =
          let count : length (take n (appending end (take i bytes))) ≡ n = stores_made end n (take i bytes) ∙ omega (arith, long) in
          rw (ne_eqb (length (take n (appending end (take i bytes)))) (i + 1) (λ z. omega arith))
          (step_same area _ (append-cut (take i bytes) n (omega (arith, long))) (stores-length (take n (appending end (take i bytes))) area))

      go : (y : Bool) → leb (end + 1 + length (take i bytes)) (length area) ≡ y → (z : Bool) → every is_unused (drop end area) ≡ z
          → Step area (cond y (cond z (store_some n (appending end (take i bytes)) area) (refuse 8 0 area)) (refuse 6 0 area))
          (flagged bytes (cond y (cond z (store_some n (appending end (take i bytes)) area) (refuse 8 0 area)) (refuse 6 0 area)).answer (next c i))
      go false p z q = step_same area (refuse 6 0 area) refl refl
      go true p false q = step_same area (refuse 8 0 area) refl refl
      go true p true q = made p q (dec_lt i n)

  step-append : (bytes : List ℕ) (n : ℕ) → Step area (append area bytes n) (flagged bytes (append area bytes n).answer (read bytes))
  step-append bytes n = rw (append_is bytes n) (go (read bytes) refl)
    where
      go : (o : Out Case) → read bytes ≡ o → Step area (append_read end n bytes area o) (flagged bytes (append_read end n bytes area o).answer o)
      go (stop x p) e = step_same area (refuse x p area) refl refl
      go (next c i) e = step-at bytes c i n e

  pub step-repair : (n : ℕ) → Step area (repair area n) []
  unfolding store_some
  step-repair n = step_same area (repair area n) (repair_stays n) (ap (λ (s : Stored). length s.buffer) (repair_is n) ∙ stores-length (take n (repairing area)) area)

  pub step-sound : (x : Change) → Step area (change x area) (flag_stored x (change x area).answer)
  step-sound (appends bytes n) = step-append bytes n
  step-sound (repairs n) = step-repair n
