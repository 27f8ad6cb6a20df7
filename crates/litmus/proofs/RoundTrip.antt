-- The round trips of the structs that users hold, by the definitions that the contracts of `write` and `read` cite.
-- Assumes nothing.
use Prim.Native.Nat.{ℕ}
use mathlib.Core.Path.{◌≡◌, ap, ◌∙◌}
use mathlib.Core.List.{List}
use lib.Dec.{T}
use lib.ListN.{length, take, drop}
use Rattle.number.specs.Reader.{next}
use Rattle.number.specs.Number.{Bytes}
use Rattle.model.specs.Case.{Case}
use Rattle.model.specs.Record.{read}
use Rattle.model.specs.Written.{record_of}
use Rattle.model.specs.Fault.{fault}
use Rattle.model.specs.Answers.{room, write}
use Rattle.laws.proofs.ExactCase.{readable}
use Rattle.laws.proofs.RoundTrip.{written_reads_back, read_writes_back}
use Rattle.case.specs.declared.Case.{Case as Held}
use Rattle.case.specs.Held.{case_of, held}
use Rattle.case.proofs.HeldBack.{fits_back}
use Rattle.case.proofs.Shape.{fits-case}

-- every struct without fault, whatever lies in its spare room: what `write` leaves in the buffer is read as the case it means
pub struct_reads_back :
    (c : Held) → fault (case_of c) ≡ 0 → (buffer : List ℕ) (at : ℕ) → T (room (length (record_of (case_of c))) buffer at)
    → read (drop at (write (case_of c) buffer at).buffer) ≡ next (case_of c) (length (record_of (case_of c)))
struct_reads_back c e = written_reads_back (case_of c) (fits-case c e)

-- all bytes that can be read: `write` of the struct that `read` gives leaves the bytes that were read
pub struct_writes_back :
    (s : List ℕ) → Bytes s → (c : Case) (i : ℕ) → read s ≡ next c i → (buffer : List ℕ) (at : ℕ) → T (room i buffer at)
    → take i (drop at (write (case_of (held c)) buffer at).buffer) ≡ take i s
struct_writes_back s b c i e buffer at t =
    ap (λ (x : Case). take i (drop at (write x buffer at).buffer)) (fits_back c (readable s b c i e).fits) ∙ read_writes_back s b c i e buffer at t
