-- What walks by hand share: locals that are copied, freed and lent, and what a plain value owns.
-- Assumes nothing.
use mathlib.Core.Path.{◌≡◌, refl, subst}
use Prim.Native.Nat.{ℕ, zero, ◌<◌, ◌^◌}
use mathlib.Core.List.{List, [], ◌∷◌}
use seplogic.Ra.Ura.{Ura}
use base.Fraction.{full_share}
use mir.Syntax.{Lifetime, Width, Ty, place, copy}
use mir.Val.{Val, vint, vptr, bits}
use base.Logic.{SProp, ent, sep, id⊢, via, mono∗, mono_r, assoc'}
use base.Fml.{GName, Lft, Share, fsep, fat, froom, fdies, flent, fdead, fres}
use prog.Wp.{Env, spot_of}
use types.Logic.{Logic, sem}
use types.Kit.{Item, ‵, some, later, ◌⊛◌, mean, ⋆, nth, del, pull, Goal, Soaks, frees, Seq, Step, step, ◌$◌, ◌∵◌, !, qed, use1, use3, await, split, pick, move, drop, fsplit, fjoin, fpick, fpack, done}
use types.Run.{Opd, load, from, stop, look}
use types.SemTy.{Body}
use denote.Laws.{Is, shows}
use denote.Memory.{mem, part_at, part_of, cell_at}
use denote.Lend.{lends_ref, ref_back}
use denote.Plain.{UInt, uint_Makes}
use denote.Ref.{MutRef}
use denote.Struct.Struct.{Plains, layout}
use denote.Struct.Declared.{Declared, fields, shape, row}
use denote.Struct.Laws as LL
use denote.Struct.Steps.{spelt}
use denote.Steps.{owned, peeks}

module _ {M : Type 1} {𝓤 : Ura M} {𝓛 : Logic 𝓤} {K : Type 0} {Γ : List (Item 𝓤)} where
  -- a local is copied: entry n is its cell
  open 𝓛 use {H}

  pub var : K → {E : Env 𝓤 H} (n : ℕ) {i : ℕ} {r : Share} {v : Val} → nth 𝓛 n Γ ≡ ‵ (fat r (spot_of 𝓤 H E i).0 (spot_of 𝓤 H E i).1 (spot_of 𝓤 H E i).2 v) → Opd K 𝓛 Γ E (copy (place i [])) v
  var t n e = load t (from t (stop t)) (look t n e)

  -- a local is freed: entry n is its cell, or room for it, and the next entry says that it dies
  module _ {τ : Ty} {b : ℕ} {E : Env 𝓤 H} {g : Goal 𝓤 H} where
    frees_at : (n : ℕ) (j : Item 𝓤) → ent 𝓤 (mean 𝓛 j) (H.room τ b zero) → nth 𝓛 n Γ ≡ j → nth 𝓛 n (del 𝓛 n Γ) ≡ ‵ (fdies τ b) → Step K 𝓛 (del 𝓛 n (del 𝓛 n Γ)) (frees E g) Γ (frees ((τ, b) ∷ E) g)
    frees_at n j room e d =
        let Δ : List (Item 𝓤) = del 𝓛 n Γ in
        let Δ' : SProp 𝓤 = ⋆ 𝓛 (del 𝓛 n Δ) in
        step (λ s. record {
          prf = via 𝓤 (sep 𝓤 (mean 𝓛 j) (⋆ 𝓛 Δ)) (subst (λ (k : Item 𝓤). ent 𝓤 (⋆ 𝓛 Γ) (sep 𝓤 (mean 𝓛 k) (⋆ 𝓛 Δ))) e (pull 𝓛 n Γ))
              (via 𝓤 (sep 𝓤 (H.room τ b zero) (sep 𝓤 (H.dies τ b) Δ')) (mono∗ 𝓤 room (subst (λ (k : Item 𝓤). ent 𝓤 (⋆ 𝓛 Δ) (sep 𝓤 (mean 𝓛 k) Δ')) d (pull 𝓛 n Δ)))
              (via 𝓤 (sep 𝓤 (sep 𝓤 (H.room τ b zero) (H.dies τ b)) Δ') (assoc' 𝓤 (H.room τ b zero) (H.dies τ b) Δ') (mono_r 𝓤 (sep 𝓤 (H.room τ b zero) (H.dies τ b)) s.prf)));
        })

    pub frees_room : K → (n : ℕ) → nth 𝓛 n Γ ≡ ‵ (froom τ b zero) → nth 𝓛 n (del 𝓛 n Γ) ≡ ‵ (fdies τ b) → Step K 𝓛 (del 𝓛 n (del 𝓛 n Γ)) (frees E g) Γ (frees ((τ, b) ∷ E) g)
    frees_room t n e d = frees_at n (‵ (froom τ b zero)) (id⊢ 𝓤 (H.room τ b zero)) e d

    pub frees_cell : K → (n : ℕ) {v : Val} → nth 𝓛 n Γ ≡ ‵ (fat full_share τ b zero v) → nth 𝓛 n (del 𝓛 n Γ) ≡ ‵ (fdies τ b) → Step K 𝓛 (del 𝓛 n (del 𝓛 n Γ)) (frees E g) Γ (frees ((τ, b) ∷ E) g)
    frees_cell t n {v} e d = frees_at n (‵ (fat full_share τ b zero v)) (𝓛.laws.at_room τ b zero v) e d

  module _ {G : Goal 𝓤 H} where
    -- a plain struct, or a number, is owned for nothing
    pub made : K → (D : Declared) → Plains (fields D) → (x : D.D) {vs : List Val} → Is (row D) x vs → Step K 𝓛 (‵ ((row D).own_val x vs) ∷ Γ) G Γ G
    made t D pl x {vs} is = owned t (row D) (Is (row D)) (LL.makes D pl 𝓛) x vs is

    pub made_uint : K → (w : Width) (x : ℕ) → x < 2 ^ bits w → Step K 𝓛 (‵ ((UInt w).own_val x (vint w x ∷ [])) ∷ Γ) G Γ G
    made_uint t w x fits = owned t (UInt w) (Is (UInt w)) (uint_Makes 𝓛 w) x (vint w x ∷ []) (refl, fits)

-- ---- a local that holds a plain struct is lent for a lifetime, and taken back at its last value
module _ {M : Type 1} {𝓤 : Ura M} (𝓛 : Logic 𝓤) (D : Declared) (L : LL.Laws D) (pl : Plains (fields D)) (κ : Lft) (x : D.D) (b : ℕ) where
  -- its cell
  open 𝓛 use {H}

  abbrev cell : Item 𝓤
  cell = ‵ (fat full_share (layout (shape D)) b 0 (LL.val D L x))

  -- the reference under the name δ, and what the lender keeps
  abbrev pub lent : Lifetime → GName → Item 𝓤
  lent ℓ δ = ‵ ((MutRef ℓ κ (row D)).own_val (record { ref_ptr = (b, 0); ghost_name = δ; now = x }) (vptr b 0 ∷ []))

  abbrev lender : GName → Item 𝓤
  lender δ = ‵ (flent κ (Body (mem (row D)) b 0 δ))

  lies : Is (row D) x (LL.vals D L x) → ent 𝓤 (mean 𝓛 cell) (sem 𝓛 (part_at (row D) full_share x b 0))
  unfolding part_of
  lies is =
      qed 𝓛 (cell ∷ []) ∵ use1 𝓛 (‵ (cell_at full_share (row D).mir (LL.vals D L x) b 0)) (𝓛.laws.at_raw full_share (layout (shape D)) b 0 (LL.val D L x)) $
      made ! D pl x is $ move ! (1 ∷ 0 ∷ []) $ fjoin ! $ fpack ! (List Val) (λ vs. fsep (cell_at full_share (row D).mir vs b 0) ((row D).own_val x vs)) (LL.vals D L x) $ done !

  module _ {K : Type 0} {Γ : List (Item 𝓤)} {G : Goal 𝓤 H} (k : K) (z : Soaks G) where
    pub lends_local : (ℓ : Lifetime) → Is (row D) x (LL.vals D L x) → ((δ : GName) → Seq K 𝓛 (lent ℓ δ ∷ lender δ ∷ Γ) G) → Seq K 𝓛 (cell ∷ Γ) G
    lends_local ℓ is next =
        use1 𝓛 (‵ (part_at (row D) full_share x b 0)) (lies is) $ use1 𝓛 (later (some (λ (δ : GName). lent ℓ δ ⊛ lender δ))) (lends_ref 𝓛 (row D) ℓ κ x b 0) $
        await k z $ pick k (λ δ. split k $ next δ)

    pub takes_back : (δ : GName) → (Is (row D) x (LL.vals D L x) → Seq K 𝓛 (cell ∷ Γ) G) → Seq K 𝓛 (‵ (fdead κ) ∷ lender δ ∷ ‵ (fres δ ((row D).coded.code x)) ∷ Γ) G
    unfolding part_of
    takes_back δ next =
        use3 𝓛 (later (‵ (part_at (row D) full_share x b 0))) (ref_back 𝓛 (row D) κ δ x b 0) $ await k z $
        fpick k (λ vs. fsplit k $ spelt k (row D) (Is (row D)) (shows 𝓛 (row D)) (LL.vals D L) (LL.tells D L) full_share x vs b 0 $
        move k (1 ∷ []) $ peeks k (row D) (Is (row D)) (shows 𝓛 (row D)) x (LL.vals D L x) (λ is. drop k $ use1 𝓛 cell (𝓛.laws.raw_at full_share (layout (shape D)) b 0 (LL.val D L x)) $ next is))
