-- Laws of rules 15 to 18 as they are tested.
-- Assumes nothing.
use Prim.Native.Nat.{ℕ, ◌<◌}
use mathlib.Core.Path.{◌≡◌, refl, sym, ap, ap₂, ◌∙◌}
use mathlib.Core.Bool.{Bool, true, false, not, ◌&&◌, ◌||◌}
use mathlib.Core.List.{List}
use lib.Bits.{bit_and}
use lib.ListN.{get_or}
use lib.Dec.{eqb, ltb, T}
use borrow.Author.Tests.{lt-ltb}
use Rattle.finite.specs.Tests.{all, some, ◌⇒◌}
use Rattle.finite.proofs.Tests.{all_same, all-swap, and-true, and-false, and_comm, imp-all, imp-and, some_same, same_test, all-iff, and-iff, imp-iff}
use Rattle.bits.proofs.Bits.{bit-zero}
use Rattle.rows.proofs.SetLaws.{but_own, set_same, set_as, share, as_set, union_inside, some-imp}
use Rattle.bits.specs.Bit.{bit}
use Rattle.rows.specs.Sets.{Set, set_in, applicable_in}
use Rattle.rows.specs.May.{Relation, must_read}
use Rattle.values.specs.Parts.{explained, carried, cumulative, must_read_of, reached, carried_on}

-- ---- 15

pub some-before : (k : ℕ) (f g : ℕ → Bool) → some k (λ s. f s && (ltb s k && g s)) ≡ some k (λ s. f s && g s)
some-before k f g = some_same k (λ s. f s && (ltb s k && g s)) (λ s. f s && g s) (λ s l. ap (λ t. f s && (t && g s)) (lt-ltb s k l))

-- ---- 16

module _ (t x e b : Bool) (h : t ≡ true) where
  pub same-value : e ≡ true → true ≡ (t ⇒ (x || e || b))
  same-value g = or_true x b ∙ ap₂ (λ u v. u ⇒ (x || v || b)) (sym h) (sym g)
    where
      or_true : (x b : Bool) → true ≡ (x || true || b)
      or_true true b = refl
      or_true false b = refl

  pub load-first : b ≡ true → true ≡ (t ⇒ (x || e || b))
  load-first g = or_last (x || e) ∙ ap₂ (λ u v. u ⇒ (x || e || v)) (sym h) (sym g)
    where
      or_last : (y : Bool) → true ≡ (y || true)
      or_last true = refl
      or_last false = refl

  pub else_between : e ≡ false → b ≡ false → x ≡ (t ⇒ (x || e || b))
  else_between g f = or_none x ∙ ap₂ (λ u v. u ⇒ (x || v || b)) (sym h) (sym g)
    where
      or_none : (x : Bool) → x ≡ (x || false || b)
      or_none true = refl
      or_none false = sym f

all_four : (f n s x : Bool) → (f && x && s && n) ≡ (f && n && s && x)
all_four true true s x = and-true (x && s) ∙ and_comm x s
all_four true false s x = and-false (x && s)
all_four false n s x = refl

pub by_sets : (k : ℕ) (seen : ℕ → Bool) (store_for equal asked : ℕ → ℕ → Bool) (l : ℕ) {those between : ℕ}
    → Set those (λ s. store_for l s && seen s) → Set between (λ x. store_for l x && (ltb x k && asked x l))
    → all k (explained k (bit those) (bit between) equal asked l)
    ≡ all k (λ s. (store_for l s && seen s) ⇒ ((some k λ x. store_for l x && not (eqb x s) && asked s x && asked x l) || equal l s || asked l s))
by_sets k seen store_for equal asked l {those} {between} s t =
    all_same k (explained k (bit those) (bit between) equal asked l)
    (λ s. (store_for l s && seen s) ⇒ ((some k λ x. store_for l x && not (eqb x s) && asked s x && asked x l) || equal l s || asked l s))
    (λ e le. ap₂ (λ u v. u ⇒ (v || equal l e || asked l e)) (s.has e)
    (some_same k (λ x. bit between x && asked e x && not (eqb x e)) (λ x. store_for l x && not (eqb x e) && asked e x && asked x l)
    (λ x lx.
    ap (λ u. u && asked e x && not (eqb x e)) (t.has x ∙ ap (λ u. store_for l x && (u && asked x l)) (lt-ltb x k lx))
    ∙ all_four (store_for l x) (not (eqb x e)) (asked e x) (asked x l))))

-- ---- 17 and 18

-- what barrier f orders after e, of a sync and of another
module _ (set syncs : ℕ) (light : List ℕ) (f e : ℕ) where
  pub after-sync : bit syncs f ≡ true → Set set (λ g. bit set g && applicable_in syncs light f e g)
  after-sync h = record { has = λ g. sym (ap (λ t. bit set g && (t || set_in light e g)) h ∙ and-true (bit set g)) }

  pub after_light : bit syncs f ≡ false → Set (bit_and set (get_or light e 0)) (λ g. bit set g && applicable_in syncs light f e g)
  after_light h =
      set_same (share (as_set {x = set} refl) (as_set {x = get_or light e 0} refl)) (λ g. ap (λ t. bit set g && (t || set_in light e g)) (sym h))

-- what comes before a set comes before what it holds
pub leads_set : (k n : ℕ) (asked : ℕ → ℕ → Bool) {x : ℕ} {d : ℕ → Bool} → Set x d
    → all n (λ q. all k (λ g. bit x g ⇒ asked q g)) ≡ all n (λ q. all k (λ g. d g ⇒ asked q g))
leads_set k n asked {x} {d} s =
    all_same n (λ q. all k (λ g. bit x g ⇒ asked q g)) (λ q. all k (λ g. d g ⇒ asked q g))
    (λ q lq. all_same k (λ g. bit x g ⇒ asked q g) (λ g. d g ⇒ asked q g) (λ g lg. ap (λ u. u ⇒ asked q g) (s.has g)))

module _ (k n : ℕ) (c : ℕ → Bool) (applies : ℕ → ℕ → Bool) (asked : Relation) where
  pub first-set : {first : ℕ} (d : ℕ → Bool) → Set first (λ e. ltb e k && c e) → carried k n (bit first) d applies asked ≡ carried k n c d applies asked
  first-set {first} d s =
      all_same k (λ e. bit first e ⇒ all n (λ q. all k (λ g. (d g && applies e g) ⇒ asked q e g))) (λ e. c e ⇒ all n (λ q. all k (λ g. (d g && applies e g) ⇒ asked q e g)))
      (λ e le. ap (λ u. u ⇒ all n (λ q. all k (λ g. (d g && applies e g) ⇒ asked q e g))) (s.has e ∙ ap (λ u. u && c e) (lt-ltb e k le)))

  pub then-set : {then : ℕ} {d : ℕ → Bool} → Set then d → carried k n c (bit then) applies asked ≡ carried k n c d applies asked
  then-set {then} {d} s =
      all_same k (λ e. c e ⇒ all n (λ q. all k (λ g. (bit then g && applies e g) ⇒ asked q e g))) (λ e. c e ⇒ all n (λ q. all k (λ g. (d g && applies e g) ⇒ asked q e g)))
      (λ e le. ap (λ u. c e ⇒ u)
      (all_same n (λ q. all k (λ g. (bit then g && applies e g) ⇒ asked q e g)) (λ q. all k (λ g. (d g && applies e g) ⇒ asked q e g))
      (λ q lq. all_same k (λ g. (bit then g && applies e g) ⇒ asked q e g) (λ g. (d g && applies e g) ⇒ asked q e g) (λ g lg. ap (λ u. (u && applies e g) ⇒ asked q e g) (s.has g)))))

  everywhere-last : (d : ℕ → Bool) → carried k n c d applies asked ≡ all k (λ e. c e ⇒ all k (λ g. (d g && applies e g) ⇒ all n (λ q. asked q e g)))
  everywhere-last d =
      all_same k (λ e. c e ⇒ all n (λ q. all k (λ g. (d g && applies e g) ⇒ asked q e g))) (λ e. c e ⇒ all k (λ g. (d g && applies e g) ⇒ all n (λ q. asked q e g)))
      (λ e le. ap (λ u. c e ⇒ u)
      (all-swap n k (λ q g. (d g && applies e g) ⇒ asked q e g)
      ∙ all_same k (λ g. all n (λ q. (d g && applies e g) ⇒ asked q e g)) (λ g. (d g && applies e g) ⇒ all n (λ q. asked q e g)) (λ g lg. sym (imp-all n (d g && applies e g) (λ q. asked q e g)))))

-- the thread's barriers
pub fences_set : (barriers own : ℕ) {fences : ℕ} → fences ≡ bit_and barriers own → Set fences (λ f. bit barriers f && bit own f)
fences_set barriers own h = set_as h (share (as_set {x = barriers} refl) (as_set {x = own} refl))

-- 17 at f, from the thread's barriers and what comes after f
pub cumulative_at : (k n own barriers : ℕ) (applicable : ℕ → ℕ → ℕ → Bool) (known : ℕ → ℕ → Bool) (asked : Relation) (f : ℕ) {fences then : ℕ} {x : Bool}
    → fences ≡ bit_and barriers own → Set then (λ g. bit own g && known f g)
    → x ≡ (bit fences f ⇒ carried k n (λ e. known e f) (bit then) (applicable f) asked)
    → x ≡ cumulative k n (bit own) (bit barriers) applicable known asked f
cumulative_at k n own barriers applicable known asked f hf t h =
    h ∙ ap₂ (λ u v. u ⇒ v) ((fences_set barriers own hf).has f)
    (then-set k n (λ e. known e f) (applicable f) asked t
    ∙ everywhere-last k n (λ e. known e f) (applicable f) asked (λ g. bit own g && known f g))

-- ---- reads-from

pub read_all : (k : ℕ) (rivals : ℕ → Bool) (known : ℕ → ℕ → Bool) (s : ℕ)
    → all k (λ x. rivals x ⇒ ((ltb x k && (rivals x && known x s)) || eqb x s)) ≡ all k (λ x. (rivals x && not (eqb x s)) ⇒ known x s)
read_all k rivals known s =
    all_same k (λ x. rivals x ⇒ ((ltb x k && (rivals x && known x s)) || eqb x s)) (λ x. (rivals x && not (eqb x s)) ⇒ known x s)
    (λ x l. ap (λ t. rivals x ⇒ ((t && (rivals x && known x s)) || eqb x s)) (lt-ltb x k l) ∙ but_own (rivals x) (known x s) (eqb x s))

pub and_both : (a b x : Bool) → a ≡ true → b ≡ true → x ≡ (a && b && x)
and_both a b x h g = ap₂ (λ s t. s && t && x) (sym h) (sym g)

pub and_second : (a b x : Bool) → a ≡ true → b ≡ false → false ≡ (a && b && x)
and_second a b x h g = ap₂ (λ s t. s && t && x) (sym h) (sym g)

three : (f n x : Bool) → (f && x && n) ≡ (f && n && x)
three true true true = refl
three true true false = refl
three true false true = refl
three true false false = refl
three false n x = refl

module _ (k : ℕ) (is_load : ℕ → Bool) (store_for : ℕ → ℕ → Bool) (thread : ℕ → ℕ) (known asked : Relation) (l : ℕ) where
  pub read_sets : {sources rivals r : ℕ} → is_load l ≡ true → Set sources (store_for l) → Set rivals (λ x. store_for l x && (ltb x k && asked (thread l) x l))
      → Set r (λ s. ltb s k && must_read_of k (bit sources) (bit rivals) (known (thread l)) l s) → Set r (λ s. ltb s k && must_read k is_load store_for thread known asked l s)
  unfolding must_read
  read_sets {sources} {rivals} h s t r = set_same r (λ e. ap (λ u. ltb e k && u)
      (ap₂ (λ u v. u && known (thread l) e l && v) (s.has e ∙ ap (λ u. u && store_for l e) (sym h))
      (all_same k (λ x. (bit rivals x && not (eqb x e)) ⇒ known (thread l) x e) (λ x. (store_for l x && not (eqb x e) && asked (thread l) x l) ⇒ known (thread l) x e)
      (λ x lx. ap (λ u. u ⇒ known (thread l) x e)
      (ap (λ u. u && not (eqb x e)) (t.has x ∙ ap (λ u. store_for l x && (u && asked (thread l) x l)) (lt-ltb x k lx))
      ∙ three (store_for l x) (not (eqb x e)) (asked (thread l) x l))))))

  pub no_load : is_load l ≡ false → Set 0 (λ s. ltb s k && must_read k is_load store_for thread known asked l s)
  unfolding must_read
  no_load h = record {
    has = λ e. bit-zero e ∙ sym (and-false (ltb e k))
        ∙ ap (λ u. ltb e k && (u && store_for l e && known (thread l) e l && rest e)) (sym h);
  }
    where
      rest : ℕ → Bool
      rest e = all k λ x. (store_for l x && not (eqb x e) && asked (thread l) x l) ⇒ known (thread l) x e

-- ---- 18

module _ (k n : ℕ) (c s : ℕ → Bool) (r d applies : ℕ → ℕ → Bool) (asked : Relation) where
  -- what is reached, load by load and store by store
  spread : carried k n c (λ g. some k λ l. (some k λ x. r l x && s x) && d l g) applies asked
      ≡ all k (λ e. c e ⇒ all n (λ q. all k (λ l. all k (λ x. (r l x && s x) ⇒ all k (λ g. d l g ⇒ (applies e g ⇒ asked q e g))))))
  spread =
      all_same k (λ e. c e ⇒ all n (λ q. all k (λ g. ((some k λ l. (some k λ x. r l x && s x) && d l g) && applies e g) ⇒ asked q e g)))
      (λ e. c e ⇒ all n (λ q. all k (λ l. all k (λ x. (r l x && s x) ⇒ all k (λ g. d l g ⇒ (applies e g ⇒ asked q e g))))))
      (λ e le. ap (λ u. c e ⇒ u)
      (all_same n (λ q. all k (λ g. ((some k λ l. (some k λ x. r l x && s x) && d l g) && applies e g) ⇒ asked q e g))
      (λ q. all k (λ l. all k (λ x. (r l x && s x) ⇒ all k (λ g. d l g ⇒ (applies e g ⇒ asked q e g)))))
      (λ q lq.
      all_same k (λ g. ((some k λ l. (some k λ x. r l x && s x) && d l g) && applies e g) ⇒ asked q e g) (λ g. (some k λ l. (some k λ x. r l x && s x) && d l g) ⇒ (applies e g ⇒ asked q e g))
      (λ g lg. imp-and (some k λ l. (some k λ x. r l x && s x) && d l g) (applies e g) (asked q e g))
      ∙ union_inside k k (λ l. some k λ x. r l x && s x) d (λ g. applies e g ⇒ asked q e g)
      ∙ all_same k (λ l. (some k λ x. r l x && s x) ⇒ all k (λ g. d l g ⇒ (applies e g ⇒ asked q e g))) (λ l. all k (λ x. (r l x && s x) ⇒ all k (λ g. d l g ⇒ (applies e g ⇒ asked q e g))))
      (λ l ll. some-imp k (λ x. r l x && s x) (all k (λ g. d l g ⇒ (applies e g ⇒ asked q e g)))))))

  gathered : T (all k (λ e. c e ⇒ all n (λ q. all k (λ l. all k (λ x. (r l x && s x) ⇒ all k (λ g. d l g ⇒ (applies e g ⇒ asked q e g)))))))
      → T (all k (λ x. s x ⇒ all k (λ l. r l x ⇒ all k (λ g. d l g ⇒ all k (λ e. (c e && applies e g) ⇒ all n (λ q. asked q e g))))))
  gathered t =
      let h : (e : ℕ) → e < k → T (c e) → (q : ℕ) → q < n → (l : ℕ) → l < k → (x : ℕ) → x < k → (T (r l x) × T (s x)) → (g : ℕ) → g < k → T (d l g) → T (applies e g) → T (asked q e g)
      = simp (all-iff, and-iff, imp-iff) at t in
      simp (all-iff, and-iff, imp-iff) (λ x lx hs l ll hr g lg hd e le hc q lq. h e le hc.0 q lq l ll x lx (hr, hs) g lg hd hc.1)

  scattered : T (all k (λ x. s x ⇒ all k (λ l. r l x ⇒ all k (λ g. d l g ⇒ all k (λ e. (c e && applies e g) ⇒ all n (λ q. asked q e g))))))
      → T (all k (λ e. c e ⇒ all n (λ q. all k (λ l. all k (λ x. (r l x && s x) ⇒ all k (λ g. d l g ⇒ (applies e g ⇒ asked q e g)))))))
  scattered t =
      let h : (x : ℕ) → x < k → T (s x) → (l : ℕ) → l < k → T (r l x) → (g : ℕ) → g < k → T (d l g) → (e : ℕ) → e < k → (T (c e) × T (applies e g)) → (q : ℕ) → q < n → T (asked q e g)
      = simp (all-iff, and-iff, imp-iff) at t in
      simp (all-iff, and-iff, imp-iff) (λ e le hc q lq l ll x lx hrs g lg hd ha. h x lx hrs.1 l ll hrs.0 g lg hd e le (hc, ha) q lq)

  pub store_by_store : carried k n c (λ g. some k λ l. (some k λ x. r l x && s x) && d l g) applies asked
      ≡ all k (λ x. s x ⇒ all k (λ l. r l x ⇒ all k (λ g. d l g ⇒ all k (λ e. (c e && applies e g) ⇒ all n (λ q. asked q e g)))))
  store_by_store =
      spread
      ∙ same_test (all k (λ e. c e ⇒ all n (λ q. all k (λ l. all k (λ x. (r l x && s x) ⇒ all k (λ g. d l g ⇒ (applies e g ⇒ asked q e g)))))))
      (all k (λ x. s x ⇒ all k (λ l. r l x ⇒ all k (λ g. d l g ⇒ all k (λ e. (c e && applies e g) ⇒ all n (λ q. asked q e g)))))) gathered scattered

-- the same reached set by another test
pub reached-same : (k : ℕ) (read d : ℕ → ℕ → Bool) {set r : ℕ} {s : ℕ → Bool} → Set set s
    → Set r (λ g. some k λ l. (some k λ x. read l x && bit set x) && d l g) → Set r (λ g. some k λ l. (some k λ x. read l x && s x) && d l g)
reached-same k read d {set} {r} {s} h g = set_same g (λ e.
    some_same k (λ l. (some k λ x. read l x && bit set x) && d l e) (λ l. (some k λ x. read l x && s x) && d l e)
    (λ l ll. ap (λ u. u && d l e) (some_same k (λ x. read l x && bit set x) (λ x. read l x && s x) (λ x lx. ap (λ u. read l x && u) (h.has x)))))

-- 18 at f, from the thread's barriers and what f reaches
pub carried_on_at : (k n own barriers : ℕ) (applicable : ℕ → ℕ → ℕ → Bool) (is_store : ℕ → Bool) (read : ℕ → ℕ → Bool) (thread : ℕ → ℕ) (p : ℕ) (known asked : Relation) (f : ℕ) {fences then : ℕ} {x : Bool}
    → fences ≡ bit_and barriers own → Set then (reached k read thread known (λ s. is_store s && bit own s && known p f s))
    → x ≡ (bit fences f ⇒ carried k n (λ e. known p e f) (bit then) (applicable f) asked)
    → x ≡ carried_on k n (bit own) (bit barriers) applicable is_store read thread p known asked f
carried_on_at k n own barriers applicable is_store read thread p known asked f hf t h =
    h ∙ ap₂ (λ u v. u ⇒ v) ((fences_set barriers own hf).has f)
    (then-set k n (λ e. known p e f) (applicable f) asked t
    ∙ store_by_store k n (λ e. known p e f) (λ s. is_store s && bit own s && known p f s) read (λ l g. known (thread l) l g) (applicable f) asked)
