-- What holds at each turn of a loop that changes row after row, of the one that closes the rows, and of the one that looks for a cycle.
-- Assumes nothing.
use Prim.Native.Nat.{ℕ, ◌+◌, ◌^◌, ◌≤◌, ◌<◌}
use native.Mathlib.Nat.{le_antisymm}
use native.Mathlib.Numerals.{add-one}
use native.Mathlib.Omega.{arith}
use native.Mathlib.Decide.{ℕ_discrete}
use mathlib.Core.Path.{◌≡◌, refl, sym, ap, ap₂, ◌∙◌, subst}
use mathlib.Core.Bool.{Bool, true, false, not, ◌&&◌, ◌||◌}
use mathlib.Core.List.{List}
use lib.Dec.{eqb}
use lib.Bits.{bit_or}
use lib.ListN.{get_or, length, set, length-set}
use lib.Seq.{get_or-set_same, get_or-set_other}
use Rattle.finite.specs.Tests.{all}
use Rattle.finite.proofs.Tests.{all_same, all-not}
use Rattle.finite.proofs.Loops.{Passed, one_more}
use Rattle.bits.specs.Bit.{bit}
use Rattle.rows.specs.Sets.{Set}
use Rattle.storage_model.specs.Relation.{Relation, relation, related, by_way_of, reached, closure, irreflexive, acyclic}
use Rattle.storage_laws.proofs.Relations.{related_in, relation-same}
use Rattle.storage.specs.Held.{edge_in, relation_in}
use Rattle.coherence.specs.Rows.{Committed, ByWayOf}
use Rattle.coherence.proofs.Laws.{more}

-- of n rows those below i are changed: row b, from what it was, is now the set of the numbers that pass f b; the others are as they were
pub record Changed (n : ℕ) (f : (b row : ℕ) → ℕ → Bool) (old new : List ℕ) (i : ℕ) : Type 0 where
  pub within : i ≤ n
  pub size : length new ≡ length old
  pub done : (b : ℕ) → b < i → Set (get_or new b 0) (f b (get_or old b 0))
  pub rest : (b : ℕ) → i ≤ b → get_or new b 0 ≡ get_or old b 0

module _ {n : ℕ} {f : (b row : ℕ) → ℕ → Bool} {old : List ℕ} where
  pub unchanged : Changed n f old old 0
  unchanged = record { within = omega arith; size = refl; done = λ b l. absurd (omega arith); rest = λ b l. refl }

  pub changes : {new : List ℕ} {i v most : ℕ} → Changed n f old new i → i < n → length old ≡ most → n ≤ most → Set v (f i (get_or new i 0))
      → Changed n f old (set new i v) (i + 1)
  changes {new} {i} {v} h l room most s = record {
    within = omega arith;
    size = length-set new i v ∙ h.size;
    done = λ b lb. here_or_before b lb (ℕ_discrete b i);
    rest = λ b lb. get_or-set_other new i b v 0 (λ q. omega (arith, q)) ∙ h.rest b (omega arith);
  }
    where
      here_or_before : (b : ℕ) → b < i + 1 → Dec (b ≡ i) → Set (get_or (set new i v) b 0) (f b (get_or old b 0))
      here_or_before b lb (yes q) =
          subst (λ (j : ℕ). Set (get_or (set new i v) j 0) (f j (get_or old j 0))) (sym q)
          (subst (λ (x : ℕ). Set x (f i (get_or old i 0))) (sym (get_or-set_same new i v 0 (omega (arith, h.size, room, most))))
          (subst (λ (x : ℕ). Set v (f i x)) (h.rest i (omega arith)) s))
      here_or_before b lb (no d) =
          subst (λ (x : ℕ). Set x (f b (get_or old b 0))) (sym (get_or-set_other new i b v 0 d)) (h.done b (omega arith))

  pub changed : {new : List ℕ} {i : ℕ} → Changed n f old new i → n ≤ i → Changed n f old new n
  changed {new} {i} h g = subst (λ (m : ℕ). Changed n f old new m) (le_antisymm h.within g) h

-- the loop of `commit`: the writes added come before y and so before all behind it
abbrev pub Commits : (k y added : ℕ) (old new : List ℕ) (i : ℕ) → Type 0
Commits k y added = Changed k (λ b row a. bit row a || (bit added a && (eqb b y || bit row y)))

pub committed : {k x y added i : ℕ} {old new : List ℕ} → Commits k y added old new i → k ≤ i → added ≡ bit_or (get_or old x 0) (2 ^ x)
    → Committed x y old new k
unfolding edge_in
committed {k} {x} {y} {added} {i} {old} {new} h g e =
    let c = changed h g in record {
      size = c.size;
      done = λ a b l.
          (c.done b l).has a ∙ ap (λ z. bit (get_or old b 0) a || (z && (eqb b y || bit (get_or old b 0) y))) ((more x (get_or old x 0) e).has a);
      rest = c.rest;
    }

-- the loop of `by_way_of`: the pivot's writes are added to the rows that j is in
abbrev pub Joins : (k j pivot : ℕ) (old new : List ℕ) (i : ℕ) → Type 0
Joins k j pivot = Changed k (λ b row a. bit row a || (bit pivot a && bit row j))

pub joined : {k j pivot i : ℕ} {old new : List ℕ} → Joins k j pivot old new i → k ≤ i → pivot ≡ get_or old j 0 → ByWayOf j old new k
unfolding edge_in
joined {k} {j} {pivot} {i} {old} {new} h g e =
    let c = changed h g in record {
      size = c.size;
      done = λ a b l.
          (c.done b l).has a ∙ ap (λ (p : ℕ). bit (get_or old b 0) a || (bit p a && bit (get_or old b 0) j)) e;
      rest = c.rest;
    }

-- ---- the loop of `close`: the rows hold what is reached by way of the first j of k writes
pub record Reached (k : ℕ) (old new : List ℕ) (j : ℕ) : Type 0 where
  pub within : j ≤ k
  pub size : length new ≡ length old
  pub same : relation_in k new ≡ reached k j (edge_in old)

module _ {k : ℕ} {old : List ℕ} where
  pub reached-begun : Reached k old old 0
  unfolding relation_in reached
  reached-begun = record { within = omega arith; size = refl; same = refl }

  pub reached-more : {mid new : List ℕ} {j : ℕ} → Reached k old mid j → j < k → ByWayOf j mid new k → Reached k old new (j + 1)
  unfolding relation_in reached
  reached-more {mid} {new} {j} R l B = record {
    within = omega arith;
    size = B.size ∙ R.size;
    same = turned ∙ ap (by_way_of k j) R.same ∙ ap (λ (i : ℕ). reached k i (edge_in old)) (sym (add-one j));
  }
    where
      held : ℕ → ℕ → Bool
      held = related (relation k (edge_in mid))

      turned : relation_in k new ≡ by_way_of k j (relation_in k mid)
      turned =
          relation-same k (edge_in new) (λ a b. held a b || (held a j && held j b))
          (λ a b la lb.
          B.done a b lb
          ∙ sym (ap₂ ◌||◌ (related_in k (edge_in mid) a b la lb) (ap₂ ◌&&◌ (related_in k (edge_in mid) a j la l) (related_in k (edge_in mid) j b l lb))))

  pub reached-size : {new : List ℕ} {j w : ℕ} → Reached k old new j → length old ≡ w → length new ≡ w
  reached-size R e = R.size ∙ e

  pub reached-all : {new : List ℕ} {j : ℕ} → Reached k old new j → k ≤ j → relation_in k new ≡ closure k (edge_in old)
  unfolding closure
  reached-all R l = R.same ∙ ap (λ (i : ℕ). reached k i (edge_in old)) (le_antisymm R.within l)

-- ---- cycles

-- the loop of `irreflexive`: write a is before itself
pub cycle : (k a : ℕ) (rows : List ℕ) {x : Bool} → a < k → x ≡ bit (get_or rows a 0) a → x ≡ true → false ≡ all k (λ a. not (edge_in rows a a))
unfolding edge_in
cycle k a rows l e t = sym (all-not k (λ a. not (edge_in rows a a)) a l (ap not (sym e ∙ t)))

pub no_cycle : {k a : ℕ} (rows : List ℕ) {x : Bool} → Passed k (λ a. not (edge_in rows a a)) a → a < k → x ≡ bit (get_or rows a 0) a → x ≡ false
    → Passed k (λ a. not (edge_in rows a a)) (a + 1)
unfolding edge_in
no_cycle rows h l e t = one_more h l (ap not (sym e ∙ t))

-- the closed rows tell whether there is a cycle
pub acyclic-closed : (k : ℕ) (rows closed : List ℕ) {x : Bool} → relation_in k closed ≡ closure k (edge_in rows)
    → x ≡ all k (λ a. not (edge_in closed a a)) → x ≡ acyclic k (edge_in rows)
unfolding acyclic irreflexive relation_in
acyclic-closed k rows closed h e =
    e
    ∙ all_same k (λ a. not (edge_in closed a a)) (λ a. not (related (closure k (edge_in rows)) a a))
    (λ a l. ap not (sym (related_in k (edge_in closed) a a l l) ∙ ap (λ (r : Relation). related r a a) h))
