-- A record is no longer than the bytes that it is read from.
-- Assumes nothing.
use Rattle.std.proofs.Common.{◌≡◌, ℕ, ◌≤◌, List, length, get_or, refl, ap, arith, w8, Fits}
use Rattle.number.specs.Reader.{Out, stop, next}
use Rattle.number.specs.Number.{Bytes}
use Rattle.model.specs.Case.{Case}
use Rattle.model.specs.Record.{read}
use Rattle.litmus.specs.declared.CaseAnswer.{CaseAnswer}
use Rattle.litmus.specs.Shown.{case_shown}
use Rattle.reader.proofs.Bytes.{slice_bytes}
use Rattle.reader.proofs.Found.{read_within}

pub taken_most : (s : List ℕ) → ((i : ℕ) → Fits w8 (get_or s i 0)) → (r : CaseAnswer) → r ≡ case_shown (read s) → r.answer.length ≤ length s
unfolding case_shown
taken_most s fit r e = go (read s) refl e
  where
    h : Bytes s
    h = slice_bytes s fit

    go : (o : Out Case) → read s ≡ o → r ≡ case_shown o → r.answer.length ≤ length s
    go (stop x p) g e =
        let none : r.answer.length ≡ 0 = ap (λ (a : CaseAnswer). a.answer.length) e in
        omega arith
    go (next c i) g e =
        let here : r.answer.length ≡ i = ap (λ (a : CaseAnswer). a.answer.length) e in
        omega (arith, read_within s h c i g)
