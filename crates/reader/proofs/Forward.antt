-- Reading goes on, never back, and what was read is within its range.
-- Assumes nothing.
use Prim.Native.Nat.{ℕ, zero, suc, ◌+◌, ◌-◌, ◌*◌, ◌≤◌}
use mathlib.Core.Path.{◌≡◌, refl, subst}
use mathlib.Core.Bool.{Bool, true, false, not, cond, ◌&&◌}
use mathlib.Core.List.{List, [], ◌∷◌, ◌++◌}
use native.Mathlib.Omega.{arith}
use lib.Dec.{leb, ltb}
use lib.ListN.{length, take, drop, length-append, length-drop}
use lib.Seq.{length-take-le}
use borrow.Author.Tests.{leb-true, ltb-true, ltb-false}
use Rattle.finite.specs.Lists.{every}
use Rattle.number.specs.Number.{Raw, got, short, wrong, groups, read_groups, finish, read_number}
use Rattle.number.specs.Reader.{Out, stop, next, Reader, give, ◌>>=◌, onward, tested, unless, turns, another, times, up_to, within, below, under}
use Rattle.model.specs.Limits.{least_edition, most_edition, second, most_threads, most_addresses, most_events, most_dependencies, most_value, most_name}
use Rattle.model.specs.Case.{Event, Dependency, bare, most_kind, most_class, printable}
use Rattle.model.specs.Record.{event, dependency, dependency_good, dependency_rank, least_after, rising_dependency, rising_dependencies, dependencies, unlisted, write_order, next_write_order, pair, rank, rising_pair, next_pair, no_pairs, order, bytes, printable_front, printed, text, head, listing, rest, case, store_to}
use Rattle.model.specs.Fits.{DependencyFits}
use Rattle.reader.specs.Answers.{Counts}

-- where reading at a place goes on, it goes on from there or behind, and Q holds of what was read and the next place
pub record Goes {A : Type 0} (Q : A → ℕ → Type 0) (at : ℕ) (a : A) (p : ℕ) : Type 0 where
  pub on : at ≤ p
  pub holds : Q a p

abbrev pub Outcome : {A : Type 0} → (A → ℕ → Type 0) → ℕ → Out A → Type 0
Outcome Q at (stop x p) = Unit {0}
Outcome Q at (next a p) = Goes Q at a p

pub record Forward {A : Type 0} (s : List ℕ) (r : Reader A) (Q : A → ℕ → Type 0) : Type 0 where
  pub from : (at : ℕ) → Outcome Q at (r s at)

abbrev pub Any : {A : Type 0} → A → ℕ → Type 0
Any a p = Unit {0}

-- the bytes w end at p
pub record AtEnd (s w : List ℕ) (p : ℕ) : Type 0 where
  pub long : length w ≤ p
  pub within : p ≤ length s
  pub bytes : take (length w) (drop (p - length w) s) ≡ w

pub gone : {A : Type 0} {s : List ℕ} {r : Reader A} {Q : A → ℕ → Type 0} → Forward s r Q → (at : ℕ) (a : A) (p : ℕ) → r s at ≡ next a p → Goes Q at a p
gone {A} {s} {r} {Q} h at a p e = rw e at (h.from at)

module _ {s : List ℕ} where
  pub forward_give : {A : Type 0} (Q : A → ℕ → Type 0) (a : A) → ((p : ℕ) → Q a p) → Forward s (give a) Q
  forward_give Q a q = record { from = λ at. record { on = omega arith; holds = q at } }

  pub forward_bind : {A B : Type 0} {r : Reader A} {f : A → Reader B} {P : A → ℕ → Type 0} {Q : B → ℕ → Type 0}
      → Forward s r P → ((a : A) (p : ℕ) → P a p → Forward s (f a) Q) → Forward s (r >>= f) Q
  forward_bind {A} {B} {r} {f} {P} {Q} h g = record { from = λ at. go at (r s at) (h.from at) }
    where
      later : (at p : ℕ) → at ≤ p → (o : Out B) → Outcome Q p o → Outcome Q at o
      later at p l (stop x q) G = tt
      later at p l (next b q) G = record { on = omega (arith, G.on); holds = G.holds }

      go : (at : ℕ) (o : Out A) → Outcome P at o → Outcome Q at (onward (λ a p. f a s p) o)
      go at (stop x p) G = tt
      go at (next a p) G = later at p G.on (f a s p) ((g a p G.holds).from p)

  -- the last of a do block
  pub forward_last : {A B : Type 0} {r : Reader A} (f : A → B) {P : A → ℕ → Type 0} (Q : B → ℕ → Type 0)
      → Forward s r P → ((a : A) (p : ℕ) → P a p → Q (f a) p) → Forward s (r >>= λ a. give (f a)) Q
  forward_last {A} {B} {r} f {P} Q h g = record { from = λ at. go at (r s at) (h.from at) }
    where
      go : (at : ℕ) (o : Out A) → Outcome P at o → Outcome Q at (onward (λ a p. next (f a) p) o)
      go at (stop x p) G = tt
      go at (next a p) G = record { on = G.on; holds = g a p G.holds }

  pub forward_unless : {A : Type 0} (x : ℕ) (test : A → Bool) {r : Reader A} {P : A → ℕ → Type 0}
      → Forward s r P → Forward s (unless x test r) (λ a p. P a p × (test a ≡ true))
  unfolding unless
  forward_unless {A} x test {r} {P} h = record { from = λ at. go at (r s at) (h.from at) }
    where
      go : (at : ℕ) (o : Out A) → Outcome P at o → Outcome (λ a p. P a p × (test a ≡ true)) at (tested x test at o)
      go at (stop y p) G = tt
      go at (next a p) G = passed (test a) refl
        where
          passed : (t : Bool) → test a ≡ t → Outcome (λ a p. P a p × (test a ≡ true)) at (cond t (next a p) (stop x at))
          passed true e = record { on = G.on; holds = (G.holds, e) }
          passed false e = tt

  forward_any : {A : Type 0} {r : Reader A} {P : A → ℕ → Type 0} → Forward s r P → Forward s r Any
  forward_any {A} {r} {P} h = record { from = λ at. go at (r s at) (h.from at) }
    where
      go : (at : ℕ) (o : Out A) → Outcome P at o → Outcome Any at o
      go at (stop x p) G = tt
      go at (next a p) G = record { on = G.on; holds = tt }

  pub forward_turns : {A : Type 0} (f : A → Reader A) → ((a : A) → Forward s (f a) Any) → (i : ℕ) (a : A) → Forward s (turns i f a) Any
  unfolding turns
  forward_turns f h zero a = forward_give Any a (λ p. tt)
  forward_turns f h (suc i) a = forward_bind (h a) (λ b p t. forward_turns f h i b)

  pub forward_another : {A : Type 0} {r : Reader A} {P : A → ℕ → Type 0} → Forward s r P → (as' : List A) → Forward s (another r as') Any
  forward_another h as' = forward_last (λ a. as' ++ (a ∷ [])) Any h (λ a p t. tt)

  -- as many are read as there are turns
  forward_more : {A : Type 0} {r : List A → Reader A} {P : A → ℕ → Type 0} → ((before : List A) → Forward s (r before) P) → (i : ℕ) (before : List A)
      → Forward s (turns i (λ as'. another (r as') as') before) (λ as' p. length as' ≡ length before + i)
  unfolding turns
  forward_more h zero before = forward_give _ before (λ p. omega arith)
  forward_more {A} {r} h (suc i) before =
      forward_bind (forward_last (λ a. before ++ (a ∷ [])) (λ as' p. length as' ≡ length before + 1) (h before) (λ a p t. length-append before (a ∷ [])))
      (λ as' p e. subst (λ (j : ℕ). Forward s (turns i (λ as'. another (r as') as') as') (λ bs q. length bs ≡ j)) (omega (arith, e)) (forward_more h i as'))

  pub forward_list : {A : Type 0} {r : List A → Reader A} {P : A → ℕ → Type 0} → ((before : List A) → Forward s (r before) P) → (i : ℕ)
      → Forward s (turns i (λ as'. another (r as') as') []) (λ as' p. length as' ≡ i)
  forward_list {A} {r} h i = subst (λ (j : ℕ). Forward s (turns i (λ as'. another (r as') as') []) (λ bs q. length bs ≡ j)) (omega arith) (forward_more h i [])

  pub forward_times : {A : Type 0} {r : Reader A} {P : A → ℕ → Type 0} → Forward s r P → (i : ℕ) → Forward s (times i r) (λ as' p. length as' ≡ i)
  unfolding times
  forward_times {A} {r} h i = forward_list (λ _. h) i

  pub forward_up_to : (hi : ℕ) → Forward s (up_to hi) (λ v p. v ≤ hi)
  unfolding up_to read_number finish
  forward_up_to hi = record { from = λ at. go at (read_groups groups 0 (drop at s)) }
    where
      go : (at : ℕ) (r : Raw) → Outcome (λ v p. v ≤ hi) at (finish at hi r)
      go at short = tt
      go at wrong = tt
      go at (got v n) = limited (ltb hi v) refl
        where
          limited : (t : Bool) → ltb hi v ≡ t → Outcome (λ v p. v ≤ hi) at (cond t (stop 3 at) (next v (at + n)))
          limited true e = tt
          limited false e = record { on = omega arith; holds = ltb-false hi v e }

  pub forward_within : (lo hi : ℕ) → Forward s (within lo hi) (λ v p. (v ≤ hi) × (leb lo v ≡ true))
  unfolding within
  forward_within lo hi = forward_unless 3 (λ v. leb lo v) (forward_up_to hi)

  pub forward_below : (b : ℕ) → Forward s (below b) (λ v p. v ≤ b - 1)
  unfolding below
  forward_below b = forward_up_to (b - 1)

  pub forward_under : (b : ℕ) → Forward s (under b) (λ v p. (v ≤ b) × (ltb v b ≡ true))
  unfolding under
  forward_under b = forward_unless 3 (λ v. ltb v b) (forward_up_to b)

  forward_event : (edition n m : ℕ) → Forward s (event edition n m) Any
  unfolding event
  forward_event edition n m = forward_bind (forward_up_to (most_kind edition)) (λ kind p hk. forward_bind (forward_below n) (λ thread q ht. go kind thread (bare kind)))
    where
      go : (kind thread : ℕ) (t : Bool)
          → Forward {A = Event} s (cond t (give (record { kind = kind; thread = thread; address = 0; value = 0 })) (below m >>= λ a. up_to most_value >>= λ v. give (record { kind = kind; thread = thread; address = a; value = v }))) Any
      go kind thread true = forward_give Any _ (λ p. tt)
      go kind thread false = forward_bind (forward_below m) (λ a p ha. forward_last _ Any (forward_up_to most_value) (λ v q hv. tt))

  forward_dependency : (k : ℕ) → Forward s (dependency k) (λ d p. DependencyFits k d)
  unfolding dependency
  forward_dependency k =
      forward_bind (forward_up_to most_class) (λ class p hc.
      forward_bind (forward_under k) (λ from p hf.
      forward_last _ (λ d p. DependencyFits k d) (forward_under k) (λ to p ht.
      record { class = hc; from = ltb-true from k hf.1; to = ltb-true to k ht.1 })))

  pub forward_rising_dependency : (k least : ℕ) (good : Dependency → Bool)
      → Forward s (rising_dependency k least good) (λ d p. DependencyFits k d × ((leb least (dependency_rank k d) && good d) ≡ true))
  unfolding rising_dependency
  forward_rising_dependency k least good = forward_unless 4 (λ d. leb least (dependency_rank k d) && good d) (forward_dependency k)

  pub forward_links : (k i : ℕ) (good : Dependency → Bool)
      → Forward s (rising_dependencies k good i) (λ ds p. length ds ≡ i)
  unfolding rising_dependencies
  forward_links k i good =
      forward_list {P = Any} (λ before. forward_any (forward_rising_dependency k (least_after k before) good)) i

  pub forward_dependencies : (edition k : ℕ) (good : Dependency → Bool) → Forward s (dependencies edition k good) Any
  unfolding dependencies
  forward_dependencies edition k good = go (second edition)
    where
      go : (x : Bool) → Forward s (cond x (up_to most_dependencies >>= rising_dependencies k good) (give [])) Any
      go true =
          forward_bind (forward_up_to most_dependencies) (λ i p _. forward_any (forward_links k i good))
      go false = forward_give Any [] (λ p. tt)

  pub forward_unlisted : (k : ℕ) (mine listed : ℕ → Bool) → Forward s (unlisted k mine listed) (λ e p. (e ≤ k - 1) × ((mine e && not (listed e)) ≡ true))
  unfolding unlisted
  forward_unlisted k mine listed = forward_unless 4 (λ e. mine e && not (listed e)) (forward_below k)

  forward_write-order : (k : ℕ) (mine : ℕ → Bool) → Forward s (write_order k mine) Any
  unfolding write_order
  forward_write-order k mine = forward_turns _ (λ before. forward_another (forward_unlisted k mine _) before) _ []

  -- both are below k
  forward_pair : (k : ℕ) → Forward s (pair k) (λ q p. (q.a ≤ k - 1) × (q.b ≤ k - 1))
  unfolding pair
  forward_pair k = forward_bind (forward_below k) (λ a p ha. forward_last _ (λ q p. (q.a ≤ k - 1) × (q.b ≤ k - 1)) (forward_below k) (λ b q hb. (ha, hb)))

  pub forward_rising_pair : (k least : ℕ) → Forward s (rising_pair k least) (λ q p. ((q.a ≤ k - 1) × (q.b ≤ k - 1)) × (leb least (rank k q) ≡ true))
  unfolding rising_pair
  forward_rising_pair k least = forward_unless 4 (λ q. leb least (rank k q)) (forward_pair k)

  forward_order : (k : ℕ) → Forward s (order k) Any
  unfolding order next_pair
  forward_order k =
      forward_bind (forward_up_to (k * k)) (λ i p hi.
      forward_last _ Any (forward_turns (next_pair k) (λ o. forward_last _ Any (forward_rising_pair k o.least) (λ q p hq. tt)) i (no_pairs k)) (λ o p ho. tt))

  forward_bytes : (i : ℕ) → Forward s (bytes i) (λ w p. (length w ≡ i) × AtEnd s w p)
  unfolding bytes
  forward_bytes i = record { from = λ at. go at (leb (at + i) (length s)) refl }
    where
      go : (at : ℕ) (t : Bool) → leb (at + i) (length s) ≡ t → Outcome (λ w p. (length w ≡ i) × AtEnd s w p) at (cond t (next (take i (drop at s)) (at + i)) (stop 1 at))
      go at false e = tt
      go at true e =
          let l : at + i ≤ length s = leb-true (at + i) (length s) e in
          let size : length (take i (drop at s)) ≡ i = length-take-le i (drop at s) (simp length-drop (omega arith)) in
          let back : at + i - i ≡ at = omega arith in
          record { on = omega arith; holds = (size, record { long = omega arith; within = l; bytes = rw (size, back) }) }

  pub forward_text : (i : ℕ) → Forward s (text i) (λ w p. (length w ≡ i) × AtEnd s w p)
  unfolding text
  forward_text i = record { from = λ at. go at (bytes i s at) ((forward_bytes i).from at) }
    where
      go : (at : ℕ) (o : Out (List ℕ)) → Outcome (λ w p. (length w ≡ i) × AtEnd s w p) at o → Outcome (λ w p. (length w ≡ i) × AtEnd s w p) at (printed at o)
      go at (stop x p) h = tt
      go at (next w p) h = by (every printable w)
        where
          by : (t : Bool) → Outcome (λ w p. (length w ≡ i) × AtEnd s w p) at (cond t (next w p) (stop 23 (at + printable_front w)))
          by true = h
          by false = tt

  pub forward_head : Forward s head (λ h p. Counts h.n h.m)
  unfolding head
  forward_head =
      forward_bind (forward_within least_edition most_edition) (λ edition p _.
      forward_bind (forward_within 1 most_threads) (λ n p hn.
      forward_last _ (λ h p. Counts h.n h.m) (forward_within 1 most_addresses) (λ m p hm.
      record { threads_least = leb-true 1 n hn.1; threads_most = hn.0; addresses_least = leb-true 1 m hm.1; addresses_most = hm.0 })))

  pub forward_listing : (edition n m : ℕ) → Forward s (listing edition n m) (λ l p. length l.events ≡ l.k)
  unfolding listing
  forward_listing edition n m =
      forward_bind (forward_times (forward_up_to most_value) m) (λ initials p _.
      forward_bind (forward_up_to most_events) (λ k p _.
      forward_last _ (λ l p. length l.events ≡ l.k) (forward_times (forward_event edition n m) k) (λ es p e. e)))

  -- the name stands at the end
  pub forward_rest : (n m k : ℕ) (mine : ℕ → ℕ → Bool) → Forward s (rest n m k mine) (λ t p. AtEnd s t.name p)
  unfolding rest
  forward_rest n m k mine =
      forward_bind (forward_turns (next_write_order k mine) (λ ws. forward_another (forward_write-order k (mine (length ws))) ws) m []) (λ writes p _.
      forward_bind (forward_times (forward_order k) n) (λ orders p _.
      forward_bind (forward_up_to most_name) (λ i p _.
      forward_last _ (λ t p. AtEnd s t.name p) (forward_text i) (λ name p h. h.1))))

  pub forward_case : Forward s case (λ c p. AtEnd s c.name p)
  unfolding case
  forward_case =
      forward_bind forward_head (λ h p _.
      forward_bind (forward_listing h.edition h.n h.m) (λ l p _.
      forward_bind (forward_dependencies h.edition l.k (dependency_good l.events)) (λ ds p _.
      forward_last _ (λ c p. AtEnd s c.name p) (forward_rest h.n h.m l.k (store_to l.events)) (λ t p h. h))))
