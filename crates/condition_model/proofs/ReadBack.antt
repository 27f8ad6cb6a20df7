-- What the grammar spells is read: each reader gives what its bytes spell, if what stands behind them does not go on with it.
-- Assumes nothing.
use Prim.Native.Nat.{ℕ, zero, suc, ◌+◌, ◌*◌, ◌≤◌, ◌<◌}
use native.Mathlib.Nat.{add-zero}
use native.Mathlib.Omega.{arith}
use mathlib.Core.Path.{◌≡◌, refl, sym, ap, ◌∙◌, subst}
use mathlib.Core.Bool.{Bool, true, false}
use mathlib.Core.List.{List, [], ◌∷◌, ◌++◌, append_assoc, append-nil}
use lib.Dec.{eqb}
use lib.ListN.{length, drop, get_or, length-append}
use lib.Seq.{drop-drop, drop_at, get_or-drop}
use borrow.Author.Tests.{eq-eqb, ne_eqb}
use Rattle.finite.specs.Lists.{All}
use Rattle.number.specs.Reader.{next, Reader, unless}
use Rattle.condition_model.specs.Grammar.{Condition, Condition.a_term, Condition.or_else, Term, Term.a_factor, Term.and_also, Factor, Factor.negation, Factor.bracketed, Factor.memory_is, Factor.load_is, space, opening, closing, slash, equals, backslash, letter_e, letter_m, tilde, decimal, equation, spaces, tokens_c, tokens_t, tokens_f, Padded, Ranges, FitsC, FitsT, FitsF}
use Rattle.condition_model.specs.Reader.{byte, front, is_space, is_digit, skipped, sign, unfit, number_of, number, number_in, label, valued, equation_by, equation_at, joined, condition_by, term_by, factor_by}
use Rattle.condition_model.proofs.Decimal.{Digits, digit_low, decimal-digits, decimal-value, decimal_fit}
use Rattle.condition_model.proofs.Parts.{Part, part-first}

-- ---- parts taken apart

pub split : {s : List ℕ} {at p : ℕ} (bs cs : List ℕ) → Part s at p (bs ++ cs) → Part s at (at + length bs) bs × Part s (at + length bs) p cs
split {s} {at} {p} bs cs P =
    let whole : drop at s ≡ bs ++ (cs ++ drop p s) = P.whole ∙ append_assoc bs cs (drop p s) in
    let past : drop (at + length bs) s ≡ cs ++ drop p s = sym (drop-drop (length bs) at s) ∙ ap (drop (length bs)) whole ∙ drop_at bs (cs ++ drop p s) (length bs) refl in
    (record { whole = whole ∙ ap (λ (l : List ℕ). bs ++ l) (sym past); place = refl }, record { whole = past; place = P.place ∙ rw length-append (omega arith) })

-- the tokens of the first, and those of the second
pub padded_split : (ts us : List (List ℕ)) (s : List ℕ) → Padded (ts ++ us) s → (bs : List ℕ) × (cs : List ℕ) × (s ≡ bs ++ cs) × Padded ts bs × Padded us cs
padded_split [] us s P = ([], s, refl, refl, P)
padded_split (t ∷ ts) us s (g, r, e, P) =
    let (bs, cs, f, Q, R) = padded_split ts us r P in (
      t ++ (spaces g ++ bs),
      cs,
      e ∙ ap (λ (l : List ℕ). t ++ (spaces g ++ l)) f ∙ ap (λ (l : List ℕ). t ++ l) (sym (append_assoc (spaces g) bs cs)) ∙ sym (append_assoc t (spaces g ++ bs) cs),
      (g, bs, refl, Q),
      R,
    )

-- ---- what stands behind

-- a token ends before the byte
pub record Ends (b : ℕ) : Type 0 where
  pub no_space : is_space b ≡ false
  pub no_digit : is_digit b ≡ false

front_of : (test : ℕ → Bool) (bs l : List ℕ) → All (λ b. test b ≡ true) bs → test (get_or l 0 256) ≡ false → front test (bs ++ l) ≡ bs
unfolding front
front_of test [] [] h n = refl
front_of test [] (b ∷ l) h n = rw n
front_of test (b ∷ bs) l h n = rw h.0 (ap (λ (m : List ℕ). b ∷ m) (front_of test bs l h.1 n))

all-spaces : (g : ℕ) → All (λ b. is_space b ≡ true) (spaces g)
all-spaces zero = tt
all-spaces (suc g) = (refl, all-spaces g)

module _ {s : List ℕ} where
  -- the bytes that pass the test are those of the part
  front-part : (test : ℕ → Bool) {at p : ℕ} {bs : List ℕ} → Part s at p bs → All (λ b. test b ≡ true) bs → test (byte s p) ≡ false → front test (drop at s) ≡ bs
  front-part test {at} {p} {bs} P h n =
      rw P.whole (front_of test bs (drop p s) h (ap test (get_or-drop p s 0 256 ∙ ap (λ (i : ℕ). byte s i) (add-zero p)) ∙ n))

  pub reads_spaces : {at p : ℕ} (g : ℕ) → Part s at p (spaces g) → is_space (byte s p) ≡ false → skipped s at ≡ p
  unfolding skipped
  reads_spaces {at} {p} g P n = rw (front-part is_space P (all-spaces g) n) (sym P.place)

  reads_number : {at p : ℕ} (test : ℕ → Bool) (v : ℕ) → Part s at p (decimal v) → test v ≡ true → is_digit (byte s p) ≡ false → number_in test s at ≡ next v p
  unfolding unless number number_of
  reads_number {at} {p} test v P h n = rw (front-part is_digit P (decimal-digits v) n, decimal_fit v, decimal-value v, h, P.place)

  reads_sign : {at p : ℕ} (x : ℕ) → Part s at p (x ∷ []) → sign x s at ≡ next tt p
  unfolding sign
  reads_sign {at} {p} x P = rw (eq-eqb (byte s at) x (part-first P), P.place)

  -- no digit stands behind a token, where spaces or its end do
  behind_token : {q p : ℕ} (g : ℕ) → Part s q p (spaces g) → Ends (byte s p) → is_digit (byte s q) ≡ false
  behind_token {q} {p} zero P E = let same : p ≡ q = P.place ∙ add-zero q in rw same at E.no_digit
  behind_token (suc g) P E = rw (part-first P)

  -- no space stands where a number begins
  digit_first : {q p : ℕ} (ds cs : List ℕ) → Digits ds → unfit ds ≡ false → Part s q p (ds ++ cs) → is_space (byte s q) ≡ false
  unfolding unfit
  digit_first [] cs h f P = let z : ◌≡◌ {A = ℕ} 0 1 = cc in absurd (omega arith)
  digit_first {q} (b ∷ ds) cs h f P = ne_eqb (byte s q) space (λ e. omega (arith, digit_low b h.0, part-first P))

  reads_label : {at p : ℕ} {bs : List ℕ} (letter n : ℕ) (test : ℕ → Bool) → Part s at p bs → Padded ((letter ∷ decimal n) ∷ []) bs → test n ≡ true → Ends (byte s p)
      → label test s at ≡ next n p
  unfolding label
  reads_label {at} {p} {bs} letter n test P (g, r, e, z) h E =
      let whole : bs ≡ (letter ∷ []) ++ (decimal n ++ spaces g) = e ∙ rw z (ap (λ (l : List ℕ). letter ∷ (decimal n ++ l)) (append-nil (spaces g))) in
      let (A, B) = split (letter ∷ []) (decimal n ++ spaces g) (rw whole at P) in
      let (C, D) = split (decimal n) (spaces g) B in
      rw (reads_number test n C h (behind_token g D E)) (ap (next n) (reads_spaces g D E.no_space))

  reads_valued : {at p : ℕ} {bs : List ℕ} (v : ℕ) (test : ℕ → Bool) → Part s at p bs → Padded ((equals ∷ []) ∷ decimal v ∷ []) bs → test v ≡ true → Ends (byte s p)
      → valued test s at ≡ next v p
  unfolding valued
  reads_valued {at} {p} {bs} v test P (g, r, e, (h, z, f, k)) t E =
      let whole : bs ≡ (equals ∷ []) ++ (spaces g ++ (decimal v ++ spaces h)) =
      e ∙ rw (f, k) (ap (λ (l : List ℕ). equals ∷ (spaces g ++ (decimal v ++ l))) (append-nil (spaces h))) in
      let (A, B) = split (equals ∷ []) (spaces g ++ (decimal v ++ spaces h)) (rw whole at P) in
      let (C, D) = split (spaces g) (decimal v ++ spaces h) B in
      let (F, G) = split (decimal v) (spaces h) D in
      rw (reads_sign equals A, reads_spaces g C (digit_first (decimal v) (spaces h) (decimal-digits v) (decimal_fit v) D), reads_number test v F t (behind_token h G E))
      (ap (next v) (reads_spaces h G E.no_space))

  reads_equation : {at p : ℕ} {bs : List ℕ} (letter a v : ℕ) (test values : ℕ → Bool) (make : ℕ → ℕ → Factor) → Part s at p bs → Padded (equation letter a v) bs
      → test a ≡ true → values v ≡ true → Ends (byte s p) → equation_by test values make s at ≡ next (make a v) p
  unfolding equation_by
  reads_equation {at} {p} {bs} letter a v test values make P Q h k E =
      let (bs₁, bs₂, e, L, R) = padded_split ((letter ∷ decimal a) ∷ []) ((equals ∷ []) ∷ decimal v ∷ []) bs Q in
      let (A, B) = split bs₁ bs₂ (rw e at P) in
      let here : byte s (at + length bs₁) ≡ equals = part-first (rw R.2 at B) in
      rw (reads_label letter a test A L h (rw here (record { no_space = refl; no_digit = refl })), reads_valued v values B R k E)

  -- ---- no space stands where a condition begins

  mutual
    unfolding tokens_c

    pub begins_C : {at p : ℕ} {bs : List ℕ} (c : Condition) → Padded (tokens_c c) bs → Part s at p bs → is_space (byte s at) ≡ false
    begins_C (a_term t) Q P = begins_T t Q P
    begins_C {bs = bs} (or_else t c) Q P =
        let (bs₁, bs₂, e, L, R) = padded_split (tokens_t t) ((backslash ∷ slash ∷ []) ∷ tokens_c c) bs Q in
        begins_T t L (split bs₁ bs₂ (rw e at P)).0

    begins_T : {at p : ℕ} {bs : List ℕ} (t : Term) → Padded (tokens_t t) bs → Part s at p bs → is_space (byte s at) ≡ false
    begins_T (a_factor f) Q P = begins_F f Q P
    begins_T {bs = bs} (and_also f t) Q P =
        let (bs₁, bs₂, e, L, R) = padded_split (tokens_f f) ((slash ∷ backslash ∷ []) ∷ tokens_t t) bs Q in
        begins_F f L (split bs₁ bs₂ (rw e at P)).0

    begins_F : {at p : ℕ} {bs : List ℕ} (f : Factor) → Padded (tokens_f f) bs → Part s at p bs → is_space (byte s at) ≡ false
    begins_F (negation f) Q P = rw (part-first (rw Q.2 at P))
    begins_F (bracketed c) Q P = rw (part-first (rw Q.2 at P))
    begins_F (memory_is a v) Q P = rw (part-first (rw Q.2 at P))
    begins_F (load_is e v) Q P = rw (part-first (rw Q.2 at P))

-- a term ends before the byte, and so does a condition
pub record EndsT (b : ℕ) : Type 0 where
  pub ends : Ends b
  pub no_and : eqb b slash ≡ false

pub record EndsC (b : ℕ) : Type 0 where
  pub ends : EndsT b
  pub no_or : eqb b backslash ≡ false

pub padded_long : (t : List ℕ) (ts : List (List ℕ)) (bs : List ℕ) (P : Padded (t ∷ ts) bs) → length t + length P.1 ≤ length bs
padded_long t ts bs (g, r, e, P) = omega (arith, simp length-append at (ap length e))

-- the operands on both sides of the sign of x and y
pub padded_joined : (x y : ℕ) (ts us : List (List ℕ)) (bs : List ℕ) → Padded (ts ++ ((x ∷ y ∷ []) ∷ us)) bs
    → (cs : List ℕ) × (ds : List ℕ) × Padded ts cs × Padded us ds × (length cs + 2 + length ds ≤ length bs)
padded_joined x y ts us bs P =
    let (cs, ds, e, L, R) = padded_split ts ((x ∷ y ∷ []) ∷ us) bs P in
    (cs, R.1, L, R.3, omega (arith, ap length e ∙ length-append cs ds, padded_long (x ∷ y ∷ []) us ds R))

-- operands joined by the sign of x and y
module _ {A B : Type 0} {s : List ℕ} (x y : ℕ) (one : A → B) (more : A → B → B) (operand : Reader A) (rest : Reader B) (at p : ℕ) (a : A) where
  joined-one : operand s at ≡ next a p → eqb (byte s p) x ≡ false → joined x y one more operand rest s at ≡ next (one a) p
  joined-one h n = rw (h, n)

  joined-more : (b : B) (ts us : List (List ℕ)) (bs : List ℕ) → Part s at p bs → Padded (ts ++ ((x ∷ y ∷ []) ∷ us)) bs
      → ((q : ℕ) (cs : List ℕ) → Part s at q cs → Padded ts cs → byte s q ≡ x → length cs ≤ length bs → operand s at ≡ next a q)
      → ((q : ℕ) (cs : List ℕ) → Part s q p cs → Padded us cs → length cs < length bs → rest s q ≡ next b p)
      → ((q : ℕ) (cs : List ℕ) → Padded us cs → Part s q p cs → is_space (byte s q) ≡ false)
      → joined x y one more operand rest s at ≡ next (more a b) p
  joined-more b ts us bs P Q first others begins =
      let (bs₁, bs₂, e, L, R) = padded_split ts ((x ∷ y ∷ []) ∷ us) bs Q in
      let long : length bs ≡ length bs₁ + length bs₂ = ap length e ∙ length-append bs₁ bs₂ in
      let past = padded_long (x ∷ y ∷ []) us bs₂ R in
      let (C, D) = split bs₁ bs₂ (rw e at P) in
      let (F, G) = split (x ∷ []) (y ∷ (spaces R.0 ++ R.1)) (rw R.2 at D) in
      let (H, I) = split (y ∷ []) (spaces R.0 ++ R.1) G in
      let (J, K) = split (spaces R.0) R.1 I in
      let here : byte s (at + length bs₁) ≡ x = part-first F in
      rw (
        first (at + length bs₁) bs₁ C L here (omega arith),
        eq-eqb (byte s (at + length bs₁)) x here,
        reads_sign y H,
        reads_spaces R.0 J (begins _ R.1 R.3 K),
        others _ R.1 K R.3 (omega arith),
      )

module _ (w : Ranges) (s : List ℕ) where
  -- an equation, where no `~` and no bracket stands
  module _ (n fuel at p : ℕ) (bs : List ℕ) (k v : ℕ) (P : Part s at p bs) (E : Ends (byte s p)) (is-value : w.value v ≡ true) where
    memory_at : Padded (equation letter_m k v) bs → w.address k ≡ true → equation_at w s at ≡ next (memory_is k v) p
    unfolding equation_at
    memory_at Q h = rw (part-first (rw Q.2 at P)) (reads_equation letter_m k v w.address w.value memory_is P Q h is-value E)

    load-at : Padded (equation letter_e k v) bs → w.load k ≡ true → equation_at w s at ≡ next (load_is k v) p
    unfolding equation_at
    load-at Q h = let here = part-first (rw Q.2 at P) in rw (here, here) (reads_equation letter_e k v w.load w.value load_is P Q h is-value E)

    reads_memory : Padded (equation letter_m k v) bs → w.address k ≡ true → factor_by (suc fuel) w n s at ≡ next (memory_is k v) p
    unfolding condition_by
    reads_memory Q h = let here = part-first (rw Q.2 at P) in rw (here, here) (memory_at Q h)

    reads_load : Padded (equation letter_e k v) bs → w.load k ≡ true → factor_by (suc fuel) w n s at ≡ next (load_is k v) p
    unfolding condition_by
    reads_load Q h = let here = part-first (rw Q.2 at P) in rw (here, here) (load-at Q h)

  mutual
    unfolding condition_by tokens_c FitsC

    pub reads_C : (c : Condition) (n fuel at p : ℕ) (bs : List ℕ) → FitsC w n c → Part s at p bs → Padded (tokens_c c) bs → EndsC (byte s p) → 3 * length bs + 3 ≤ fuel
        → condition_by fuel w n s at ≡ next c p
    reads_C c n zero at p bs F P Q E l = absurd (omega arith)
    reads_C (a_term t) n (suc k) at p bs F P Q E l =
        joined-one backslash slash a_term or_else (λ s at. term_by k w n s at) (λ s at. condition_by k w n s at) at p t (reads_T t n k at p bs F P Q E.ends (omega arith)) E.no_or
    reads_C (or_else t c) n (suc k) at p bs F P Q E l =
        joined-more backslash slash a_term or_else (λ s at. term_by k w n s at) (λ s at. condition_by k w n s at) at p t c (tokens_t t) (tokens_c c) bs P Q
        (λ q cs R L here m. reads_T t n k at q cs F.0 R L (rw here (record { ends = record { no_space = refl; no_digit = refl }; no_and = refl })) (omega arith))
        (λ q cs R L m. reads_C c n k q p cs F.1 R L E (omega arith)) (λ q cs L R. begins_C c L R)

    pub reads_T : (t : Term) (n fuel at p : ℕ) (bs : List ℕ) → FitsT w n t → Part s at p bs → Padded (tokens_t t) bs → EndsT (byte s p) → 3 * length bs + 2 ≤ fuel
        → term_by fuel w n s at ≡ next t p
    reads_T t n zero at p bs F P Q E l = absurd (omega arith)
    reads_T (a_factor f) n (suc k) at p bs F P Q E l =
        joined-one slash backslash a_factor and_also (λ s at. factor_by k w n s at) (λ s at. term_by k w n s at) at p f (reads_F f n k at p bs F P Q E.ends (omega arith)) E.no_and
    reads_T (and_also f t) n (suc k) at p bs F P Q E l =
        joined-more slash backslash a_factor and_also (λ s at. factor_by k w n s at) (λ s at. term_by k w n s at) at p f t (tokens_f f) (tokens_t t) bs P Q
        (λ q cs R L here m. reads_F f n k at q cs F.0 R L (rw here (record { no_space = refl; no_digit = refl })) (omega arith))
        (λ q cs R L m. reads_T t n k q p cs F.1 R L E (omega arith)) (λ q cs L R. begins_T t L R)

    pub reads_F : (f : Factor) (n fuel at p : ℕ) (bs : List ℕ) → FitsF w n f → Part s at p bs → Padded (tokens_f f) bs → Ends (byte s p) → 3 * length bs + 1 ≤ fuel
        → factor_by fuel w n s at ≡ next f p
    reads_F f n zero at p bs F P Q E l = absurd (omega arith)
    reads_F (negation f) zero (suc k) at p bs F P Q E l = absurd F
    reads_F (negation f) (suc n) (suc k) at p bs F P Q E l =
        let more = padded_long (tilde ∷ []) (tokens_f f) bs Q in
        let (A, B) = split (tilde ∷ []) (spaces Q.0 ++ Q.1) (rw Q.2 at P) in
        let (C, D) = split (spaces Q.0) Q.1 B in
        rw (part-first A, reads_spaces Q.0 C (begins_F f Q.3 D), reads_F f n k (at + 1 + length (spaces Q.0)) p Q.1 F D Q.3 E (omega arith))
    reads_F (bracketed c) zero (suc k) at p bs F P Q E l = absurd F
    reads_F (bracketed c) (suc n) (suc k) at p bs F P Q E l =
        let more = padded_long (opening ∷ []) (tokens_c c ++ ((closing ∷ []) ∷ [])) bs Q in
        let (bs₁, bs₂, e, L, R) = padded_split (tokens_c c) ((closing ∷ []) ∷ []) Q.1 Q.3 in
        let long : length Q.1 ≡ length bs₁ + length bs₂ = ap length e ∙ length-append bs₁ bs₂ in
        let (A, B) = split (opening ∷ []) (spaces Q.0 ++ Q.1) (rw Q.2 at P) in
        let (C, D) = split (spaces Q.0) Q.1 B in
        let at₁ = at + 1 + length (spaces Q.0) in
        let (G, H) = split bs₁ bs₂ (subst (λ (l : List ℕ). Part s at₁ p l) e D) in
        let (I, J) = split (closing ∷ []) (spaces R.0) (subst (λ (l : List ℕ). Part s (at₁ + length bs₁) p l) (R.2 ∙ rw R.3 (ap (λ (l : List ℕ). closing ∷ l) (append-nil (spaces R.0)))) H) in
        let ends : EndsC (byte s (at₁ + length bs₁)) =
        rw (part-first I) (record { ends = record { ends = record { no_space = refl; no_digit = refl }; no_and = refl }; no_or = refl }) in
        rw (
          part-first A,
          part-first A,
          reads_spaces Q.0 C (begins_C c L G),
          reads_C c n k at₁ (at₁ + length bs₁) bs₁ F G L ends (omega arith),
          reads_sign closing I,
          reads_spaces R.0 J E.no_space,
        )
    reads_F (memory_is a v) n (suc k) at p bs F P Q E l = reads_memory n k at p bs a v P E F.1 Q F.0
    reads_F (load_is e v) n (suc k) at p bs F P Q E l = reads_load n k at p bs e v P E F.1 Q F.0
