-- What walks by hand share: two cases of a Bool, and an order by a measure.
-- Assumes nothing.
use mathlib.Core.Path.{◌≡◌, refl}
use Prim.Native.Nat.{ℕ, ◌<◌}
use mathlib.Core.Bool.{Bool, true, false}
use mathlib.Core.List.{List}
use mathlib.Core.WellFounded.InvImage
use mathlib.Core.WellFounded.{WellFounded}
use lib.WfN.{lt-wf_rel}
use seplogic.Ra.Ura.{Ura}
use types.Logic.{Logic}
use types.Kit.{Item, Goal, Seq}

pub by_case : {M : Type 1} {𝓤 : Ura M} {𝓛 : Logic 𝓤} {K : Type 0} {Γ : List (Item 𝓤)} {G : Goal 𝓤 𝓛.H} → K → (y : Bool) → (y ≡ true → Seq K 𝓛 Γ G) → (y ≡ false → Seq K 𝓛 Γ G) → Seq K 𝓛 Γ G
by_case t true h₁ h₂ = h₁ refl
by_case t false h₁ h₂ = h₂ refl

abbrev pub Under : {X : Type 0} → (X → ℕ) → X → X → Type 0
Under μ x y = μ x < μ y

pub under_wf : {X : Type 0} (μ : X → ℕ) → WellFounded (Under μ)
under_wf μ = InvImage.wf μ lt-wf_rel.wf
