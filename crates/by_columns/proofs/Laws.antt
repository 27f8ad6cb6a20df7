-- Laws of rules 12 and 15 to 18 by rows and columns.
-- Assumes nothing.
use Prim.Native.Nat.{ℕ, ◌-◌, ◌^◌, ◌<◌}
use mathlib.Core.Path.{◌≡◌, refl, sym, ap, ap₂, ◌∙◌}
use mathlib.Core.Bool.{Bool, true, false, not, ◌&&◌, ◌||◌, true≢false}
use mathlib.Core.List.{List}
use lib.Bits.{bit_and, bit_or}
use lib.Dec.{eqb, ltb, T}
use lib.ListN.{get_or}
use borrow.Author.Tests.{lt-ltb, ltb-true}
use Rattle.finite.specs.Tests.{all, some, ◌⇒◌}
use Rattle.finite.proofs.Tests.{iff, and_l, and_r, and_i, and-true, and-false, and-swap, imp-same, all_same, some_same, some_make, some_out, some_or, or_comm, same_test, all-iff, and-iff, imp-iff}
use Rattle.bits.specs.Bit.{bit}
use Rattle.bits.proofs.Bits.{bit-zero, bit-and, bit-or}
use Rattle.rows.specs.Sets.{Set, Sets, order_in, row_in, set_in, store_in, light_in}
use Rattle.rows.specs.May.{Relation, pairs, must_read, may18}
use Rattle.rows.proofs.SetLaws.{either, set_as, set_same, set_below, share, as_set, imp_yes}
use Rattle.values.specs.Parts.{thread_in, explained, carried}
use Rattle.values.proofs.Laws.{store_by_store}
use Rattle.by_columns.specs.Parts.{WithColumns, Joined, Shared, applies_in, replaced, carried_to, read_in, behind_in, carried_behind}

-- what comes before b, by its column
pub earlier_set : {n k : ℕ} {rows columns : List ℕ} (p b : ℕ) {mask column r : ℕ} → WithColumns n k rows columns → p < n → b < k → r ≡ bit_and mask column → mask ≡ 2 ^ k - 1 → column ≡ row_in columns p b
    → Set r (λ e. ltb e k && order_in rows p e b)
earlier_set {n} {k} {rows} {columns} p b t lp lb h hm hc =
    set_same (set_as h (share (set_below k hm) (as_set hc))) (λ e. within e (ltb e k) refl)
  where
    within : (e : ℕ) (l : Bool) → ltb e k ≡ l → (l && bit (row_in columns p b) e) ≡ (l && order_in rows p e b)
    within e true l = t.turned.turned p lp e (ltb-true e k l) b lb
    within e false l = refl

-- of the set
pub earlier_of_set : (k set : ℕ) {before r : ℕ} (f : ℕ → Bool) → r ≡ bit_and set before → Set before (λ e. ltb e k && f e) → Set r (λ e. ltb e k && (bit set e && f e))
earlier_of_set k set f h s = set_same (set_as h (share (as_set {x = set} refl) s)) (λ e. and-swap (bit set e) (ltb e k) (f e))

-- ---- 15

-- a load that is not judged, or holds the initial value
pub unchanged : (judged fresh : ℕ) {changed : ℕ} (f : ℕ → Bool) → Set changed (λ l. bit judged l && not (bit fresh l)) → (l : ℕ) → bit changed l ≡ false
    → (bit judged l ⇒ (bit fresh l || f l)) ≡ true
unchanged judged fresh f s l h = so (bit judged l) (bit fresh l) (sym (s.has l) ∙ h)
  where
    so : (j g : Bool) → (j && not g) ≡ false → (j ⇒ (g || f l)) ≡ true
    so true true h = refl
    so true false h = absurd (true≢false h)
    so false g h = refl

-- another
pub changed_load : (j f x : Bool) → (j && not f) ≡ true → x ≡ (j ⇒ (f || x))
changed_load true true x h = absurd (true≢false (sym h))
changed_load true false x h = refl
changed_load false f x h = absurd (true≢false (sym h))

-- ---- 16

-- of the stores of a set, those that don't come after l
pub not_after : (k between those row : ℕ) {set : ℕ} (equal after : ℕ → ℕ → Bool) (l : ℕ) → Set set (λ s. bit those s && not (bit row s)) → ((s : ℕ) → bit row s ≡ after l s)
    → all k (λ s. bit set s ⇒ replaced k (bit between) equal after l s) ≡ all k (explained k (bit those) (bit between) equal after l)
not_after k between those row equal after l h g = all_same k _ _ (λ s ls.
    ap (λ t. t ⇒ replaced k (bit between) equal after l s) (h.has s ∙ ap (λ t. bit those s && not t) (g s))
    ∙ move (bit those s) (after l s) (some k λ x. bit between x && after s x && not (eqb x s)) (equal l s))
  where
    move : (t b x e : Bool) → ((t && not b) ⇒ (x || e)) ≡ (t ⇒ (x || e || b))
    move true true true e = refl
    move true true false true = refl
    move true true false false = refl
    move true false true e = refl
    move true false false true = refl
    move true false false false = refl
    move false b x e = refl

-- ---- 17

-- what barrier f orders before g, of a sync and of another
module _ (set barriers syncs stores loads f g : ℕ) where
  pub all-ordered : bit syncs f ≡ true → Set set (λ e. bit set e && applies_in barriers syncs stores loads f e g)
  all-ordered h = record { has = λ e. sym (ap (λ t. bit set e && (t || light_in barriers stores loads e g)) h ∙ and-true (bit set e)) }

  pub none-ordered : bit syncs f ≡ false → bit barriers g ≡ true → Set 0 (λ e. bit set e && applies_in barriers syncs stores loads f e g)
  none-ordered h b = record {
    has = λ e. bit-zero e ∙ sym (ap₂ (λ t u. bit set e && (t || (not (bit barriers e) && not u && not (bit stores e && bit loads g)))) h b ∙ none (bit set e) (bit barriers e) (not (bit stores e && bit loads g)));
  }
    where
      none : (x y z : Bool) → (x && (false || (not y && false && z))) ≡ false
      none true true z = refl
      none true false z = refl
      none false y z = refl

  pub light_ordered : {w r : ℕ} {t : Bool} → bit syncs f ≡ false → bit barriers g ≡ false → t ≡ bit loads g → Set w (λ e. t && bit stores e) → Set r (λ e. bit set e && not (bit (bit_or barriers w) e))
      → Set r (λ e. bit set e && applies_in barriers syncs stores loads f e g)
  light_ordered {w} h b l s m = set_same m (λ e.
      ap (λ x. bit set e && not x) (bit-or barriers w e ∙ ap (λ x. bit barriers e || x) (s.has e ∙ ap (λ x. x && bit stores e) l))
      ∙ turn (bit set e) (bit barriers e) (bit loads g) (bit stores e)
      ∙ sym (ap₂ (λ x y. bit set e && (x || (not (bit barriers e) && not y && not (bit stores e && bit loads g)))) h b))
    where
      turn : (a b l s : Bool) → (a && not (b || (l && s))) ≡ (a && (false || (not b && true && not (s && l))))
      turn true true l s = refl
      turn true false true true = refl
      turn true false true false = refl
      turn true false false true = refl
      turn true false false false = refl
      turn false b l s = refl

-- what is ordered before g comes before it in every thread's order
pub carried_here : {n k : ℕ} {rows joined : List ℕ} (first then : ℕ → Bool) (applies : ℕ → ℕ → Bool) (g : ℕ) {set row : ℕ} {x : Bool}
    → Joined n k rows joined → g < k → then g ≡ true → Set set (λ e. first e && applies e g) → row ≡ get_or joined g 0 → x ≡ all k (λ e. bit set e ⇒ bit row e)
    → x ≡ carried_to k n first then applies (order_in rows) g
carried_here {n} {k} {rows} {joined} first then applies g {set} {row} j lg t s r h =
    h
    ∙ all_same k (λ e. bit set e ⇒ bit row e) (λ e. (first e && applies e g) ⇒ (all n λ q. order_in rows q e g))
    (λ e le. ap₂ (λ u v. u ⇒ v) (s.has e) (ap (λ (y : ℕ). bit y e) r ∙ j.everywhere g lg e le))
    ∙ imp_yes (then g) _ t

module _ (k n : ℕ) (c d : ℕ → Bool) (applies : ℕ → ℕ → Bool) (asked : Relation) where
  onward : T (all k (carried_to k n c d applies asked)) → T (carried k n c d applies asked)
  onward t =
      let h : (g : ℕ) → g < k → T (d g) → (e : ℕ) → e < k → (T (c e) × T (applies e g)) → (q : ℕ) → q < n → T (asked q e g) = simp (all-iff, and-iff, imp-iff) at t in
      simp (all-iff, and-iff, imp-iff) (λ e le hc q lq g lg hd. h g lg hd.0 e le (hc, hd.1) q lq)

  back : T (carried k n c d applies asked) → T (all k (carried_to k n c d applies asked))
  back t =
      let h : (e : ℕ) → e < k → T (c e) → (q : ℕ) → q < n → (g : ℕ) → g < k → (T (d g) × T (applies e g)) → T (asked q e g) = simp (all-iff, and-iff, imp-iff) at t in
      simp (all-iff, and-iff, imp-iff) (λ g lg hd e le hc q lq. h e le hc.0 q lq g lg (hd, hc.1))

  pub by_last : all k (carried_to k n c d applies asked) ≡ carried k n c d applies asked
  by_last = same_test (all k (carried_to k n c d applies asked)) (carried k n c d applies asked) onward back

-- ---- 18

-- load l must read from s, by the stores to its address that come before it
module _ (k loads stores : ℕ) (partners threads rows : List ℕ) (l s : ℕ) where
  abbrev after : ℕ → ℕ → Bool
  after = order_in rows (thread_in threads l)

  pub read_by : {sources rivals : ℕ} → bit loads l ≡ true → s < k → sources ≡ bit_and stores (get_or partners l 0) → Set rivals (λ x. ltb x k && (bit sources x && after x l))
      → (bit rivals s && all k (λ x. (bit rivals x && not (eqb x s)) ⇒ after x s)) ≡ read_in k loads stores partners threads rows l s
  unfolding must_read
  read_by {sources} {rivals} h ls e r =
      ap₂ (λ u v. u && v) (here s ls ∙ three (store_in stores partners l s) (order_in rows (thread_in threads l) s l))
      (all_same k _ _ (λ x lx. ap (λ u. u ⇒ order_in rows (thread_in threads l) x s) (ap (λ u. u && not (eqb x s)) (here x lx) ∙ last (store_in stores partners l x) (not (eqb x s)) (order_in rows (thread_in threads l) x l))))
    where
      here : (x : ℕ) → x < k → bit rivals x ≡ (store_in stores partners l x && order_in rows (thread_in threads l) x l)
      here x lx =
          r.has x ∙ ap₂ (λ u v. u && (v && order_in rows (thread_in threads l) x l)) (lt-ltb x k lx) (ap (λ (z : ℕ). bit z x) e ∙ bit-and stores (get_or partners l 0) x)

      three : (u v : Bool) → (u && v) ≡ (bit loads l && u && v)
      three u v = ap (λ t. t && u && v) (sym h)

      last : (a b c : Bool) → ((a && c) && b) ≡ (a && b && c)
      last true true true = refl
      last true true false = refl
      last true false true = refl
      last true false false = refl
      last false b c = refl

-- a load that uses another address, or is none, does not read from s
pub not_read : (n k loads stores : ℕ) (partners threads rows : List ℕ) (s : ℕ) {readers : ℕ} → Shared n k partners threads → s < k → readers ≡ bit_and loads (get_or partners s 0)
    → (l g : ℕ) → bit readers l ≡ false → (ltb l k && (read_in k loads stores partners threads rows l s && order_in rows (thread_in threads l) l g)) ≡ false
unfolding must_read
not_read n k loads stores partners threads rows s {readers} h ls e l g f = by (ltb l k) refl (bit loads l) refl
  where
    by : (x : Bool) → ltb l k ≡ x → (y : Bool) → bit loads l ≡ y → (x && (read_in k loads stores partners threads rows l s && order_in rows (thread_in threads l) l g)) ≡ false
    by true x true y =
        let other : set_in partners l s ≡ false = h.same l (ltb-true l k x) s ls ∙ ap (λ t. t && set_in partners s l) (sym y) ∙ sym (bit-and loads (get_or partners s 0) l) ∙ ap (λ (z : ℕ). bit z l) (sym e) ∙ f in
        ap₂ (λ t u. t && (bit stores s && u) && order_in rows (thread_in threads l) s l && rest && order_in rows (thread_in threads l) l g) y other ∙ none (bit stores s)
      where
        rest : Bool
        rest = all k λ x. (store_in stores partners l x && not (eqb x s) && order_in rows (thread_in threads l) x l) ⇒ order_in rows (thread_in threads l) x s

        none : (b : Bool) → ((b && false) && order_in rows (thread_in threads l) s l && rest && order_in rows (thread_in threads l) l g) ≡ false
        none true = refl
        none false = refl
    by true x false y = ap (λ t. t && store_in stores partners l s && order_in rows (thread_in threads l) s l && (all k λ x. (store_in stores partners l x && not (eqb x s) && order_in rows (thread_in threads l) x l) ⇒ order_in rows (thread_in threads l) x s) && order_in rows (thread_in threads l) l g) y
    by false x y z = refl

-- below k without saying so
pub some_here : (k : ℕ) (f : ℕ → Bool) → some k (λ l. ltb l k && f l) ≡ some k f
some_here k f = some_same k (λ l. ltb l k && f l) f (λ l ll. ap (λ t. t && f l) (lt-ltb l k ll))

-- what stores have behind them, store by store and load by load
some-swap : (k : ℕ) (those : ℕ → Bool) (read d : ℕ → ℕ → Bool) (g : ℕ)
    → some k (λ s. those s && (some k λ l. read l s && d l g)) ≡ some k (λ l. (some k λ s. read l s && those s) && d l g)
some-swap k those read d g =
    iff
    (λ h. some_out k (λ s. those s && (some k λ l. read l s && d l g)) h
    (λ s ls t. some_out k (λ l. read l s && d l g) (and_r (those s) _ t)
    (λ l ll u. some_make k (λ l. (some k λ s. read l s && those s) && d l g) l ll
    (and_i (some k λ s. read l s && those s) (d l g)
    (some_make k (λ s. read l s && those s) s ls (and_i (read l s) (those s) (and_l (read l s) (d l g) u) (and_l (those s) _ t)))
    (and_r (read l s) (d l g) u)))))
    (λ h. some_out k (λ l. (some k λ s. read l s && those s) && d l g) h
    (λ l ll t. some_out k (λ s. read l s && those s) (and_l (some k λ s. read l s && those s) (d l g) t)
    (λ s ls u. some_make k (λ s. those s && (some k λ l. read l s && d l g)) s ls
    (and_i (those s) (some k λ l. read l s && d l g) (and_r (read l s) (those s) u)
    (some_make k (λ l. read l s && d l g) l ll (and_i (read l s) (d l g) (and_l (read l s) (those s) u) (and_r (some k λ s. read l s && those s) (d l g) t)))))))

and_same : (x : Bool) {y z : Bool} → (x ≡ true → y ≡ z) → (x && y) ≡ (x && z)
and_same true h = h refl
and_same false h = refl

-- 18, from what the stores have behind them that come after a barrier of their thread
pub by_behind : (n k : ℕ) (of : ℕ → ℕ → Bool) (barriers stores : ℕ) (applicable : ℕ → ℕ → ℕ → Bool) (read : ℕ → ℕ → Bool) (thread : ℕ → ℕ) (asked : Relation) {behind : List ℕ} {after set : ℕ}
    → Set after (λ s. some n (λ p. of p s && some k (λ f. bit barriers f && of p f && asked p f s))) → set ≡ bit_and stores after
    → Sets k behind (λ s g. bit set s && behind_in k read thread asked s g)
    → all n (λ p. all k (carried_behind k n (of p) (bit barriers) applicable (bit stores) (set_in behind) p asked)) ≡ may18 n k of (bit barriers) applicable (bit stores) read thread asked asked
unfolding may18
by_behind n k of barriers stores applicable read thread asked {behind} {after} {set} fenced e h =
    all_same n _ _ (λ p lp. all_same k _ _ (λ f lf. imp-same (bit barriers f && of p f) (λ b.
    all_same k _ _ (λ e le. ap (λ t. asked p e f ⇒ t) (all_same n _ _ (λ q lq. all_same k _ _ (λ g lg. ap (λ t. (t && applicable f e g) ⇒ asked q e g)
    (some_same k _ _ (λ s ls. and_same (bit stores s && of p s && asked p f s) (λ t. h.has s ls g ∙ ap (λ x. x && behind_in k read thread asked s g) (inside p lp f lf s b t)))
    ∙ some-swap k (λ s. bit stores s && of p s && asked p f s) read (λ l g. asked (thread l) l g) g)))))
    ∙ store_by_store k n (λ e. asked p e f) (λ s. bit stores s && of p s && asked p f s) read (λ l g. asked (thread l) l g) (applicable f) asked)))
  where
    inside : (p : ℕ) → p < n → (f : ℕ) → f < k → (s : ℕ) → (bit barriers f && of p f) ≡ true → (bit stores s && of p s && asked p f s) ≡ true → bit set s ≡ true
    inside p lp f lf s b t =
        let so = and_l (bit stores s && of p s) (asked p f s) t in
        ap (λ (z : ℕ). bit z s) e ∙ bit-and stores after s
        ∙ and_i (bit stores s) (bit after s) (and_l (bit stores s) (of p s) so)
        (fenced.has s ∙ some_make n _ p lp
        (and_i (of p s) (some k (λ f. bit barriers f && of p f && asked p f s)) (and_r (bit stores s) (of p s) so)
        (some_make k (λ f. bit barriers f && of p f && asked p f s) f lf (and_i (bit barriers f && of p f) (asked p f s) b (and_r (bit stores s && of p s) (asked p f s) t)))))

pub rival : (b : Bool) {x y : Bool} → b ≡ true → x ≡ y → x ≡ (b && y)
rival b {x} {y} h e = e ∙ ap (λ t. t && y) (sym h)

pub no_rival : (b y : Bool) → b ≡ false → false ≡ (b && y)
no_rival b y h = ap (λ t. t && y) (sym h)

-- below k, said
pub bounded : (k l : ℕ) {r : ℕ} {f : ℕ → Bool} → l < k → Set r f → Set r (λ g. ltb l k && f g)
bounded k l {r} {f} h s = set_same s (λ g. ap (λ t. t && f g) (sym (lt-ltb l k h)))

-- one of the loads that use an address
pub of_loads : (loads partner l : ℕ) {readers : ℕ} → readers ≡ bit_and loads partner → bit readers l ≡ true → bit loads l ≡ true
of_loads loads partner l e h = and_l (bit loads l) (bit partner l) (sym (bit-and loads partner l) ∙ ap (λ (z : ℕ). bit z l) (sym e) ∙ h)

-- under a test that passes
pub whole : {b : Bool} {r : ℕ} {f : ℕ → Bool} → b ≡ true → Set r f → Set r (λ g. b && f g)
whole {b} {r} {f} h s = set_same s (λ g. ap (λ t. t && f g) (sym h))

-- the same reached set by another test
pub reached_of : (k : ℕ) (behind : ℕ → ℕ → Bool) {set r : ℕ} {f : ℕ → Bool} → Set set f → Set r (λ g. some k (λ s. bit set s && behind s g)) → Set r (λ g. some k λ s. f s && behind s g)
reached_of k behind s r = set_same r (λ g. some_same k _ _ (λ e le. ap (λ t. t && behind e g) (s.has e)))

-- what the columns of all threads share
pub joined_columns : {n k : ℕ} {rows columns joined : List ℕ} → WithColumns n k rows columns → Sets k joined (λ g e. all n (λ q. order_in columns q g e)) → Joined n k rows joined
joined_columns {n} t s = record {
  events = t.events;
  everywhere = λ g lg e le. s.has g lg e ∙ all_same n _ _ (λ q lq. t.turned.turned q lq e le g lg);
}

-- ---- the events of pairs

-- by what rows and columns hold
pub paired-set : {n k : ℕ} {rows columns : List ℕ} (p : ℕ) {after before mask r : ℕ} → WithColumns n k rows columns → p < n → Set after (λ e. some k (λ a. order_in rows p a e))
    → Set before (λ e. some k (λ a. order_in columns p a e)) → mask ≡ 2 ^ k - 1 → r ≡ bit_and (bit_or after before) mask → Set r (λ e. ltb e k && pairs k (order_in rows) p e)
unfolding pairs
paired-set {n} {k} {rows} {columns} p t lp s u m h = set_same (set_as h (share (either s u) (set_below k m))) (λ e. by e (ltb e k) refl)
  where
    by : (e : ℕ) (l : Bool) → ltb e k ≡ l → ((some k (λ a. order_in rows p a e) || some k (λ a. order_in columns p a e)) && l) ≡ (l && (some k λ x. order_in rows p e x || order_in rows p x e))
    by e true l =
        and-true (some k (λ a. order_in rows p a e) || some k (λ a. order_in columns p a e))
        ∙ ap (λ z. some k (λ a. order_in rows p a e) || z) (some_same k _ _ (λ a la. t.turned.turned p lp e (ltb-true e k l) a la))
        ∙ or_comm (some k (λ a. order_in rows p a e)) (some k (λ a. order_in rows p e a))
        ∙ sym (some_or k (λ a. order_in rows p e a) (λ a. order_in rows p a e))
    by e false l = and-false (some k (λ a. order_in rows p a e) || some k (λ a. order_in columns p a e))

-- under one that fails
pub none : (b : Bool) (f : ℕ → Bool) → b ≡ false → Set 0 (λ g. b && f g)
none b f h = record { has = λ g. bit-zero g ∙ ap (λ t. t && f g) (sym h) }
