-- A struct's case has the shape of one that was read: without fault it keeps the limits.
-- Assumes nothing.
use Prim.Native.Nat.{ℕ}
use native.Mathlib.Nat.{mod-lt}
use mathlib.Core.Path.{◌≡◌, refl, ap, sym, ◌∙◌}
use mathlib.Core.Bool.{true, true≢false}
use lib.Pow.{pow_pos}
use Rattle.finite.specs.Lists.{table}
use Rattle.finite.proofs.Lists.{table-length}
use Rattle.finite.proofs.All.{all-table, from_table}
use Rattle.model.specs.Case.{Case, bare}
use Rattle.model.specs.Fault.{fault}
use Rattle.model.specs.Fits.{Fits, Shaped}
use Rattle.model.proofs.Faultless.{faultless, fits_of}
use Rattle.case.specs.declared.Case.{Case as Held}
use Rattle.case.specs.Held.{event_of, events_of, link_count, links_of, case_of, held}
use Rattle.case.specs.Sound.{Sound}
use Rattle.case.proofs.Events.{event_by}
use Rattle.case.proofs.Bounds.{sound}
use Rattle.case.proofs.HeldBack.{fits_back}

-- a bare event has neither address nor value
cleared : (k t a v : ℕ) → bare (event_of k t a v).kind ≡ true → ((event_of k t a v).address ≡ 0) × ((event_of k t a v).value ≡ 0)
cleared k t a v =
    event_by (λ e. bare e.kind ≡ true → (e.address ≡ 0) × (e.value ≡ 0)) k t a v (λ h z. (refl, refl)) (λ h z. absurd (true≢false (sym z ∙ h)))

module _ (c : Held) where
  pub shaped : Shaped (case_of c)
  unfolding case_of events_of link_count links_of table
  shaped = record {
    m = sym (table-length 0 c.addresses _);
    k = sym (table-length 0 c.events _);
    no_address = all-table _ 0 c.events _ (λ e l h. (cleared _ _ _ _ h).0);
    no_value = all-table _ 0 c.events _ (λ e l h. (cleared _ _ _ _ h).1);
    no_dependencies = λ e. rw e;
    m' = sym (table-length 0 c.addresses _);
    writes = from_table _ 0 c.addresses _ (λ x l. table-length 0 _ _);
    n = sym (table-length 0 c.threads _);
    orders = all-table _ 0 c.threads _ (λ p l. (table-length 0 c.events _, all-table _ 0 c.events _ (λ a l. mod-lt _ (pow_pos c.events))));
  }

  pub fits-case : fault (case_of c) ≡ 0 → Fits (case_of c)
  fits-case h = fits_of (case_of c) shaped h

-- a case that keeps the limits lies in a struct whose numbers are within their ranges
pub held-sound : (c : Case) → Fits c → Sound (held c)
held-sound c F = sound (held c) (ap fault (fits_back c F) ∙ faultless c F)
