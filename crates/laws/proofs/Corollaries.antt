-- Renumbering in bytes: the identity writes the record itself, a renumbering and then its inverse bring the old bytes back,
-- and two renumberings are one by the composites.
-- Assumes nothing.
use Prim.Native.Nat.{ℕ}
use mathlib.Core.Path.{◌≡◌, sym, ap, ◌∙◌}
use mathlib.Core.Bool.{Bool, true, ◌&&◌, cond}
use mathlib.Core.List.{List, ◌++◌}
use lib.Dec.{T}
use lib.ListN.{length, take, drop}
use Rattle.finite.proofs.Tests.{T_and, T_true}
use Rattle.number.specs.Reader.{Out, stop, next}
use Rattle.number.specs.Number.{Bytes}
use Rattle.permutation.specs.Permutation.{inverse, composite, fits}
use Rattle.permutation.proofs.Laws.{fits_identity, fits-inverse, fits-composite}
use Rattle.model.specs.Case.{Case}
use Rattle.model.specs.Record.{read}
use Rattle.model.specs.Written.{record_of}
use Rattle.model.specs.Renumber.{renumber, fitting}
use Rattle.model.specs.Answers.{Stored, room, put, put_out, renumber_out, renumber_record}
use Rattle.model.specs.Fits.{Fits}
use Rattle.laws.proofs.ReadBack.{read_back}
use Rattle.laws.proofs.ExactCase.{Readable, readable}
use Rattle.laws.proofs.Composition.{renumber_identity, renumber-composite}
use Rattle.laws.proofs.Inverse.{renumber-inverse}
use Rattle.laws.proofs.Refits.{refits, same_length}
use Rattle.laws.proofs.Claim.{finish, put-room, written_there, front}

-- the record that an accepted call left in its buffer from at on
abbrev pub left : Stored → (at : ℕ) → List ℕ
left w at = take w.answer.length (drop at w.buffer)

left_put : (size : ℕ) (w buffer : List ℕ) (at : ℕ) → length w ≡ size → T (room size buffer at) → left (put w buffer at) at ≡ w
left_put size w buffer at e t =
    let yes : room size buffer at ≡ true = T_true {b = room size buffer at} t in
    ap (λ (o : Stored). left o at) (put-room size w buffer at e)
    ∙ ap (λ (g : Bool). left (finish true g size buffer at w) at) yes
    ∙ written_there size buffer at w t e

-- permutations that fit are no refusal
writes-renumbered :
    (s : List ℕ) (c : Case) (i : ℕ) → read s ≡ next c i → (q r : ℕ) → T (fits q c.n) → T (fits r c.m) → (buffer : List ℕ) (at : ℕ)
    → renumber_record q r s buffer at ≡ put (record_of (renumber q r c)) buffer at
unfolding renumber_record fitting
writes-renumbered s c i e q r fq fr buffer at =
    ap (λ (o : Out Case). put_out (renumber_out q r o) buffer at) e
    ∙ ap (λ (b : Bool). put_out (cond b (next (renumber q r c) (length (record_of (renumber q r c)))) (stop 5 0)) buffer at)
    (T_true {b = fits q c.n && fits r c.m} (T_and (fits q c.n) (fits r c.m) fq fr))

module _ (bytes : List ℕ) (h : Bytes bytes) (c : Case) (size : ℕ) (e : read bytes ≡ next c size) where
  is : Readable bytes c size
  is = readable bytes h c size e

  kept : Fits c
  kept = is.fits

  starts : record_of c ≡ take size bytes
  starts = sym (front bytes c size is)

  pub identity_writes : (buffer : List ℕ) (at : ℕ) → renumber_record 0 0 bytes buffer at ≡ put (take size bytes) buffer at
  identity_writes buffer at =
      writes-renumbered bytes c size e 0 0 (fits_identity c.n) (fits_identity c.m) buffer at
      ∙ ap (λ (w : List ℕ). put w buffer at) (ap record_of (renumber_identity c kept) ∙ starts)

  module _ (q r : ℕ) (fq : T (fits q c.n)) (fr : T (fits r c.m)) (buffer : List ℕ) (at : ℕ) (t : T (room size buffer at)) where
    left_renumbered : left (renumber_record q r bytes buffer at) at ≡ record_of (renumber q r c)
    left_renumbered =
        ap (λ (w : Stored). left w at) (writes-renumbered bytes c size e q r fq fr buffer at)
        ∙ left_put size (record_of (renumber q r c)) buffer at (same_length q r c kept fq fr ∙ sym is.length) t

    -- a second renumbering, of what the first one left
    second :
        (q' r' : ℕ) → T (fits q' c.n) → T (fits r' c.m) → (behind buffer' : List ℕ) (at' : ℕ)
        → renumber_record q' r' (left (renumber_record q r bytes buffer at) at ++ behind) buffer' at'
        ≡ put (record_of (renumber q' r' (renumber q r c))) buffer' at'
    unfolding renumber
    second q' r' f g behind buffer' at' =
        ap (λ (s : List ℕ). renumber_record q' r' (s ++ behind) buffer' at') left_renumbered
        ∙ writes-renumbered (record_of (renumber q r c) ++ behind) (renumber q r c) _ (read_back (renumber q r c) (refits q r c kept fq fr) behind)
        q' r' f g buffer' at'

    pub inverse-writes :
        (behind buffer' : List ℕ) (at' : ℕ)
        → renumber_record (inverse q) (inverse r) (left (renumber_record q r bytes buffer at) at ++ behind) buffer' at'
        ≡ put (take size bytes) buffer' at'
    inverse-writes behind buffer' at' =
        second (inverse q) (inverse r) (fits-inverse q c.n fq) (fits-inverse r c.m fr) behind buffer' at'
        ∙ ap (λ (w : List ℕ). put w buffer' at') (ap record_of (renumber-inverse q r c kept fq fr) ∙ starts)

    pub composite-writes :
        (q' r' : ℕ) → T (fits q' c.n) → T (fits r' c.m) → (behind buffer' : List ℕ) (at' : ℕ)
        → renumber_record q' r' (left (renumber_record q r bytes buffer at) at ++ behind) buffer' at'
        ≡ renumber_record (composite q q') (composite r r') bytes buffer' at'
    composite-writes q' r' f g behind buffer' at' =
        second q' r' f g behind buffer' at'
        ∙ ap (λ (c : Case). put (record_of c) buffer' at') (renumber-composite q r q' r' c fq fr f g)
        ∙ sym
        (writes-renumbered bytes c size e (composite q q') (composite r r') (fits-composite q q' c.n fq f) (fits-composite r r' c.m fr g) buffer' at')
