-- The claim over every list of calls, of the structs that callers hold.
-- Assumes nothing.
use Prim.Native.Nat.{ℕ}
use mathlib.Core.Path.{◌≡◌, refl, sym, ap, ap₂, ◌∙◌}
use mathlib.Core.List.{List, [], ◌∷◌, map}
use lib.ListN.{take}
use Rattle.number.specs.Number.{Bytes}
use Rattle.number.specs.Reader.{Out, next}
use Rattle.model.specs.Case.{Case}
use Rattle.model.specs.Record.{read}
use Rattle.model.specs.Written.{record_of}
use Rattle.model.specs.Calls.{Call, judging, renumbering, judging_case, renumbering_case, outcome, outcomes, start, promises}
use Rattle.model.specs.Fits.{Fits}
use Rattle.laws.proofs.ExactCase.{Readable, readable}
use Rattle.laws.proofs.Claim.{Followed, follows, read_alone, front, claim}
use Rattle.case.specs.Held.{case_of}
use Rattle.case.proofs.HeldBack.{fits_back}
use Rattle.litmus.specs.Shown.{case_shown}
use Rattle.litmus.specs.Calls.{struct_of, result, results, as_result}

-- the struct that `read` gives of a case's record means the case
struct_is : (c : Case) → Fits c → case_of (struct_of (record_of c)) ≡ c
unfolding case_shown
struct_is c F = ap (λ (o : Out Case). case_of (case_shown o).case) (read_alone c F) ∙ fits_back c F

same-result : (c : Case) → Fits c → (x : Call) → result (record_of c) x ≡ as_result (outcome (record_of c) x)
unfolding case_shown
same-result c F (judging model behind) = refl
same-result c F (renumbering q r behind buffer at) = refl
same-result c F (judging_case model) = rw (struct_is c F, read_alone c F)
same-result c F (renumbering_case q r) = rw (struct_is c F, read_alone c F)

same-results : (c : Case) → Fits c → (xs : List Call) → results (record_of c) xs ≡ map as_result (outcomes (record_of c) xs)
unfolding results outcomes
same-results c F [] = refl
same-results c F (x ∷ xs) =
    let N : Followed c x = follows c F x in
    ap₂ ◌∷◌ (same-result c F x)
    (ap (λ (s : List ℕ). results s xs) N.is ∙ same-results N.next-case N.fits xs ∙ sym (ap (λ (s : List ℕ). map as_result (outcomes s xs)) N.is))

-- every list of calls from readable bytes, each call on a case with the struct that `read` gave: what the claim promises of the
-- model's case is what callers get
pub struct_claim :
    (bytes : List ℕ) → Bytes bytes → (c : Case) (size : ℕ) → read bytes ≡ next c size → (xs : List Call)
    → results (take size bytes) xs ≡ map as_result (promises (take size bytes) c size start xs)
struct_claim bytes b c size e xs =
    let is : Readable bytes c size = readable bytes b c size e in
    let starts : take size bytes ≡ record_of c = front bytes c size is in
    ap (λ (s : List ℕ). results s xs) starts ∙ same-results c is.fits xs
    ∙ sym (ap (λ (s : List ℕ). map as_result (outcomes s xs)) starts)
    ∙ ap (map as_result) (claim bytes b c size e xs).gives
