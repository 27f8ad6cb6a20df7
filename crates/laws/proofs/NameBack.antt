-- The part of a record that is handed back as the name is the name of the case read from it, and printable.
-- Assumes nothing.
use Prim.Native.Nat.{ℕ, zero, suc, ◌-◌}
use native.Mathlib.Nat.{add-sub_cancel}
use mathlib.Core.Path.{◌≡◌, refl, ap, ◌∙◌}
use mathlib.Core.Bool.{true}
use mathlib.Core.List.{List, ◌++◌, append_assoc}
use lib.ListN.{length, drop, replicate, length-append}
use lib.Seq.{take-append_seam, drop-append_seam}
use Rattle.finite.specs.Lists.{each, every}
use Rattle.number.specs.Number.{encode, Bytes}
use Rattle.number.specs.Reader.{Out, stop, next}
use Rattle.model.specs.Case.{Case, printable}
use Rattle.model.specs.Record.{read}
use Rattle.model.specs.Written.{dependencies_bytes, order_bytes, record_of}
use Rattle.model.specs.Answers.{name, judged_name, name_under, renumber_record, renumbered_name}
use Rattle.laws.proofs.Parts.{head_bytes, head_of, listing_bytes, listing_of}
use Rattle.laws.proofs.ExactCase.{Readable, readable}

-- what stands before the name
abbrev front : Case → List ℕ
front c =
    head_bytes (head_of c) ++ (listing_bytes (listing_of c) ++ (dependencies_bytes c.edition c.dependencies
    ++ (each (each encode) c.writes ++ (each (order_bytes c.k) c.orders ++ encode (length c.name)))))

fronted : (c : Case) → record_of c ≡ front c ++ c.name
unfolding record_of
fronted c = simp append_assoc

pub name_back : (s : List ℕ) → Bytes s → (c : Case) (i : ℕ) → read s ≡ next c i → name s ≡ c.name
unfolding name
name_back s h c i e =
    let R : Readable s c i = readable s h c i e in
    let at : i - length c.name ≡ length (front c) =
    ap (λ (x : ℕ). x - length c.name) (R.length ∙ ap length (fronted c) ∙ length-append (front c) c.name)
    ∙ add-sub_cancel (length (front c)) (length c.name) in
    let whole : s ≡ front c ++ (c.name ++ drop i s) =
    R.whole ∙ ap (λ (l : List ℕ). l ++ drop i s) (fronted c) ∙ append_assoc (front c) c.name (drop i s) in
    let behind : drop (i - length c.name) s ≡ c.name ++ drop i s =
    ap (λ (x : ℕ). drop x s) at ∙ ap (drop (length (front c))) whole ∙ drop-append_seam (front c) (c.name ++ drop i s) in
    rw (e, behind) (take-append_seam c.name (drop i s))

-- whatever the bytes, no name is handed back that holds another byte
module _ (s : List ℕ) (h : Bytes s) where
  pub name_printable : every printable (name s) ≡ true
  unfolding name every
  name_printable = go (read s) refl
    where
      go : (o : Out Case) → read s ≡ o → every printable (name s) ≡ true
      go (stop x p) e = rw e refl
      go (next c i) e = ap (every printable) (name_back s h c i e) ∙ (readable s h c i e).fits.name_printable

  pub judged-name-printable : (model : ℕ) → every printable (judged_name model s) ≡ true
  unfolding judged_name every
  judged-name-printable zero = name_printable
  judged-name-printable (suc zero) = name_printable
  judged-name-printable (suc (suc x)) = refl

  pub renumbered-name-printable : (q r size at : ℕ) → every printable (renumbered_name q r s size at) ≡ true
  unfolding renumbered_name every
  renumbered-name-printable q r size at = go (renumber_record q r s (replicate size 0) at).answer.number
    where
      go : (x : ℕ) → every printable (name_under x s) ≡ true
      go zero = name_printable
      go (suc x) = refl
