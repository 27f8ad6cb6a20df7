-- What is written reads back as the same case, and what was read writes back as the same bytes, of the definitions that the
-- contracts of `litmus::write` and `litmus::read` cite.
-- Assumes nothing.
use Prim.Native.Nat.{ℕ, ◌+◌, ◌≤◌}
use mathlib.Core.Path.{◌≡◌, sym, ap, ◌∙◌}
use mathlib.Core.List.{List, ◌++◌, append_assoc}
use lib.Dec.{T, leb, leb→le}
use lib.ListN.{length, take, drop}
use lib.Seq.{drop_at, length-take-le}
use Rattle.finite.proofs.Tests.{T_true, and_left}
use Rattle.number.specs.Number.{splice, Bytes}
use Rattle.number.specs.Reader.{next}
use Rattle.model.specs.Case.{Case}
use Rattle.model.specs.Record.{read}
use Rattle.model.specs.Written.{record_of}
use Rattle.model.specs.Answers.{Stored, done, room, put, write}
use Rattle.model.specs.Fits.{Fits}
use Rattle.model.proofs.Faultless.{handed_on}
use Rattle.laws.proofs.ReadBack.{read_back}
use Rattle.laws.proofs.ExactCase.{Readable, readable}
use Rattle.laws.proofs.Claim.{front, written_there}

module _ (c : Case) (F : Fits c) (buffer : List ℕ) (at : ℕ) (t : T (room (length (record_of c)) buffer at)) where
  -- 0, the record's length, and the record from the place on
  pub writes : write c buffer at ≡ record { answer = done (length (record_of c)); buffer = splice buffer at (record_of c) }
  unfolding write put
  writes = rw (handed_on c F, T_true {b = room (length (record_of c)) buffer at} t)

  -- whatever lies behind the record in the buffer
  pub written_reads_back : read (drop at (write c buffer at).buffer) ≡ next c (length (record_of c))
  unfolding splice
  written_reads_back =
      let h : at ≤ length buffer = leb→le at (length buffer) (and_left (leb at (length buffer)) _ t) in
      ap (λ (w : Stored). read (drop at w.buffer)) writes
      ∙ ap (λ (l : List ℕ). read (drop at l)) (append_assoc (take at buffer) (record_of c) (drop (at + length (record_of c)) buffer))
      ∙ ap read (drop_at (take at buffer) (record_of c ++ drop (at + length (record_of c)) buffer) at (length-take-le at buffer h))
      ∙ read_back c F (drop (at + length (record_of c)) buffer)

-- the bytes that were read, for all bytes
pub read_writes_back :
    (s : List ℕ) → Bytes s → (c : Case) (i : ℕ) → read s ≡ next c i → (buffer : List ℕ) (at : ℕ) → T (room i buffer at)
    → take i (drop at (write c buffer at).buffer) ≡ take i s
read_writes_back s b c i e buffer at t =
    let R : Readable s c i = readable s b c i e in
    let long : i ≡ length (record_of c) = R.length in
    let t' : T (room (length (record_of c)) buffer at) = rw (← long) t in
    ap (λ (w : Stored). take i (drop at w.buffer)) (writes c R.fits buffer at t')
    ∙ written_there i buffer at (record_of c) t (sym long)
    ∙ sym (front s c i R)
