-- What a walk by hand learns of a `&[u8]`: each of its bytes is below 256, as covered functions know it.
-- Assumes nothing.
use mathlib.Core.Path.{refl}
use Prim.Native.Nat.{ℕ}
use mathlib.Core.List.{List, [], ◌∷◌}
use lib.Dec.{lit≤}
use lib.ListN.{length, get_or}
use seplogic.Ra.Ura.{Ura}
use mir.Syntax.{Lifetime, w8}
use mir.Val.{Val, Fits}
use base.Logic.{ent, sep, guard}
use base.Fml.{Lft, Share, Fml, flft}
use types.Logic.{Logic, sem}
use types.Kit.{Item, ‵, given, later, ◌⊛◌, Goal, Soaks, Seq, ◌$◌, !, qed, updating, use2, await, learn, check, now, split, drop, fsplit, fjoin, feq_i, done}
use denote.Builtin.{u8}
use denote.Ref.{Bor}
use denote.Slice.{ShrSlice, slice_val}
use borrow.Table.Referent.{f_int}
use borrow.Rule.Slice.Shared.{OwnH}
use borrow.Rule.Slice.Know.{AllWt, fit_at, shs_known}

module _ {M : Type 1} {𝓤 : Ura M} (𝓛 : Logic 𝓤) (ℓ : Lifetime) (κ : Lft) (q : Share) (x : Bor (List ℕ)) where
  open 𝓛 use {H, A}

  abbrev own : Fml
  own = (ShrSlice ℓ κ u8).own_val x (slice_val x.ref_ptr (length x.now) ∷ [])

  abbrev Fit : Type 0
  Fit = AllWt (f_int w8) x.now

  -- the borrow is opened, read and closed
  reads : ent 𝓤 (sep 𝓤 (sem 𝓛 own) (A.lft κ q)) (H.⇛ (guard 𝓤 Fit (sep 𝓤 (sem 𝓛 own) (A.lft κ q))))
  reads =
      qed 𝓛 (‵ own ∷ ‵ (flft κ q) ∷ []) {P = H.⇛ (guard 𝓤 Fit (sep 𝓤 (sem 𝓛 own) (A.lft κ q)))} (
      updating ! $ fsplit ! $ fsplit ! $ drop ! $ fjoin ! $
      use2 𝓛 (later (given Fit (‵ (OwnH 𝓛 (f_int w8) κ q x.ref_ptr.0 x.ref_ptr.1 x.now) ⊛ ‵ (flft κ q)))) (shs_known 𝓛 (f_int w8) κ q x.ref_ptr.0 x.ref_ptr.1 x.now) $
      await ! tt $ learn ! (λ a. split ! $ fsplit ! $ feq_i ! (List Val) (slice_val x.ref_ptr (length x.now) ∷ []) (slice_val x.ref_ptr (length x.now) ∷ []) refl $ fjoin ! $ fjoin ! $ now ! $ check ! a $ done !))

  pub octets : {K : Type 0} → K → {Γ : List (Item 𝓤)} {G : Goal 𝓤 H} → Soaks G → (((i : ℕ) → Fits w8 (get_or x.now i 0)) → Seq K 𝓛 (‵ own ∷ ‵ (flft κ q) ∷ Γ) G) → Seq K 𝓛 (‵ own ∷ ‵ (flft κ q) ∷ Γ) G
  octets t z k = use2 𝓛 (later (given Fit (‵ own ⊛ ‵ (flft κ q)))) reads $ await t z $ learn t (λ a. split t $ k (fit_at (f_int w8) 0 (record { fits = lit≤ tt }) x.now a))
