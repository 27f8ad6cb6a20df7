-- The name of a record is printable, whatever the bytes.
-- Assumes nothing.
use Rattle.std.proofs.Common.{◌≡◌, ℕ, true, List, get_or, ap, ◌∙◌, w8, Fits}
use Rattle.finite.specs.Lists.{every}
use Rattle.model.specs.Case.{printable}
use Rattle.model.specs.Answers.{name}
use Rattle.laws.proofs.NameBack.{name_printable}
use Rattle.reader.proofs.Bytes.{slice_bytes}

pub named-printable : (s : List ℕ) → ((i : ℕ) → Fits w8 (get_or s i 0)) → (n : List ℕ) → n ≡ name s → every printable n ≡ true
named-printable s fit n e = ap (every printable) e ∙ name_printable s (slice_bytes s fit)
