-- The ways through reading a dependency, the turns of reading them, and the ways through reading all.
-- Assumes nothing.
use Prim.Native.Nat.{ℕ, ◌+◌, ◌≤◌, ◌<◌}
use mathlib.Core.Path.{◌≡◌, refl, ap, sym, ◌∙◌}
use mathlib.Core.Bool.{Bool, true, false}
use mathlib.Core.List.{List, []}
use native.Mathlib.Omega.{arith}
use lib.ListN.{length, set, replicate}
use borrow.Author.Tests.{ltb-true}
use mir.Syntax.{w8, w64}
use mir.Val.{Fits}
use Rattle.number.specs.Number.{read_number}
use Rattle.number.specs.Reader.{stop, next, up_to, under}
use Rattle.model.specs.Limits.{second, most_events, most_dependencies}
use Rattle.model.specs.Case.{Dependency}
use Rattle.model.specs.Record.{dependency_rank, least_after, rising_dependency, rising_dependencies, dependencies}
use Rattle.model.specs.Fits.{DependencyFits}
use Rattle.model.proofs.Faultless.{least_first, least-next}
use Rattle.case.specs.Held.{pad, link_of, Among}
use Rattle.case.proofs.Pad.{pad-next}
use Rattle.case.proofs.Links.{rank_most}
use Rattle.reader.specs.Answers.{Links, Done, Counted}
use Rattle.case.specs.declared.Link as code
use Rattle.reader.proofs.Forward.{gone, forward_under, forward_rising_dependency, forward_links}
use Rattle.reader.proofs.Filling.{Filling, filling_begun, filling_all, filling_stop, filling_next, done-map}

-- an event's number
pub number_in : (s : List ℕ) (at k v p : ℕ) → next v p ≡ under k s at → v < k
number_in s at k v p e = ltb-true v k (gone (forward_under {s = s} k) at v p (sym e)).holds.1

-- ---- so many of them
-- those read stand in the arrays, and least is what the next may have
pub record Linked (k : ℕ) (xs as' bs : List ℕ) (least : ℕ) (ds : List Dependency) : Type 0 where
  pub links : Links xs as' bs ds
  pub least_is : least ≡ least_after k ds

module _ (s : List ℕ) (at k total : ℕ) (good : Dependency → Bool) where
  abbrev pub LinksFilled : (xs as' bs : List ℕ) (place least i : ℕ) → Type 0
  LinksFilled xs as' bs place least i =
      Filling (Linked k xs as' bs least) (λ before. rising_dependency k (least_after k before) good)
      (rising_dependencies k good total s at) s total place i

  module _ (xs as' bs : List ℕ) where
    pub links_begun : Links xs as' bs [] → LinksFilled xs as' bs at 0 0
    unfolding rising_dependencies
    links_begun h = filling_begun (Linked k xs as' bs 0) (λ before. rising_dependency k (least_after k before) good) s total at (record { links = h; least_is = sym (least_first k) })

    module _ (p₀ least i : ℕ) (h : LinksFilled xs as' bs p₀ least i) where
      pub links_all : total ≤ i → Done (Links xs as' bs) (rising_dependencies k good total s at) p₀
      links_all l = done-map (Linked k xs as' bs least) (Links xs as' bs) (λ ds t. t.links) (rising_dependencies k good total s at) p₀ (filling_all _ _ _ _ _ _ _ h l)

      module _ (l : i < total) where
        pub links_stop : (x p : ℕ) → stop x p ≡ rising_dependency k least good s p₀ → rising_dependencies k good total s at ≡ stop x p
        links_stop x p g =
            filling_stop _ _ _ _ _ _ _ h l x p (λ ds c t. ap (λ (x : ℕ). rising_dependency k x good s p₀) (sym t.least_is) ∙ sym g)

        module _ (v : code.Link) (p : ℕ) (g : next (link_of v) p ≡ rising_dependency k least good s p₀) where
          abbrev read : Dependency
          read = link_of v

          in_range : DependencyFits k read
          in_range = (gone (forward_rising_dependency {s = s} k least good) p₀ read p (sym g)).holds.0

          pub among : Among k v
          among = record { class = in_range.class; from = in_range.from; to = in_range.to }

          pub class-byte : Fits w8 v.class
          class-byte = record { fits = omega (arith, in_range.class) }

          module _ (m : k ≤ most_events) where
            pub from_byte : Fits w8 v.from
            from_byte = record { fits = omega (arith, in_range.from) }

            pub to_byte : Fits w8 v.to
            to_byte = record { fits = omega (arith, in_range.to) }

            pub rank-fits : (q : ℕ) → q ≡ dependency_rank k read → Fits w64 (q + 1)
            rank-fits q e = record { fits = omega (arith, e, rank_most k v.class v.from v.to m in_range.class in_range.from in_range.to) }

          pub links_next : total ≤ most_dependencies → (q : ℕ) → q ≡ dependency_rank k read
              → LinksFilled (set xs i v.class) (set as' i v.from) (set bs i v.to) p (q + 1) (i + 1)
          links_next m q e =
              let j : i < most_dependencies = omega arith in
              filling_next _ _ _ _ _ _ _ h l read p (λ ds c t. ap (λ (x : ℕ). rising_dependency k x good s p₀) (sym t.least_is) ∙ sym g)
              (Linked k (set xs i v.class) (set as' i v.from) (set bs i v.to) (q + 1))
              (λ ds c t. record {
                links = record {
                  class = rw t.links.class (pad-next (λ d. d.class) most_dependencies ds read i c j);
                  from = rw t.links.from (pad-next (λ d. d.from) most_dependencies ds read i c j);
                  to = rw t.links.to (pad-next (λ d. d.to) most_dependencies ds read i c j);
                };
                least_is = rw e (sym (least-next k ds read));
              })

-- ---- all of them
pub no_links_yet : Links (replicate most_dependencies 0) (replicate most_dependencies 0) (replicate most_dependencies 0) []
unfolding pad
no_links_yet = record { class = refl; from = refl; to = refl }

module _ (s : List ℕ) (at edition k : ℕ) (good : Dependency → Bool) (t : Bool) (et : t ≡ second edition) where
  pub first-edition : t ≡ false → (xs as' bs : List ℕ) → Links xs as' bs [] → Counted (λ ds. length ds) (Links xs as' bs) (dependencies edition k good s at) 0 at
  unfolding dependencies
  first-edition n xs as' bs h = record { what = []; is = rw (← et, n); number_is = refl; stored = h }

  module _ (n : t ≡ true) where
    pub no_number : (x p : ℕ) → stop x p ≡ read_number s at most_dependencies → dependencies edition k good s at ≡ stop x p
    unfolding dependencies up_to
    no_number x p e = rw (← et, n, ← e)

    module _ (i p₁ : ℕ) (e₁ : next i p₁ ≡ read_number s at most_dependencies) where
      pub no_links_read : (x p : ℕ) → rising_dependencies k good i s p₁ ≡ stop x p → dependencies edition k good s at ≡ stop x p
      unfolding dependencies up_to
      no_links_read x p g = rw (← et, n, ← e₁, g)

      pub whole_links : (p₂ : ℕ) (xs as' bs : List ℕ) → Done (Links xs as' bs) (rising_dependencies k good i s p₁) p₂
          → Counted (λ ds. length ds) (Links xs as' bs) (dependencies edition k good s at) i p₂
      unfolding dependencies up_to
      whole_links p₂ xs as' bs d = record {
        what = d.what;
        is = rw (← et, n, ← e₁, d.is);
        number_is = sym (gone (forward_links {s = s} k i good) p₁ d.what p₂ d.is).holds;
        stored = d.stored;
      }
