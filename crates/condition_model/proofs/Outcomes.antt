-- What a reader's answer means: what was read is spelled there, and what stands before a fault can be completed. One law for each reader, and one for a reader
-- behind another.
-- Assumes nothing.
use Prim.Native.Nat.{ℕ, zero, suc, ◌+◌, ◌≤◌, ◌<◌}
use native.Mathlib.Nat.{le_refl}
use native.Mathlib.Omega.{arith}
use mathlib.Core.Path.{◌≡◌, refl, sym, ap, ◌∙◌}
use mathlib.Core.Logic.{◌⊎◌, inl, inr, ⊎_elim}
use mathlib.Core.Bool.{Bool, true, false, cond}
use mathlib.Core.List.{List, [], ◌∷◌, ◌++◌, append_assoc, append-nil}
use lib.ListN.{length, drop, length-append}
use borrow.Author.Tests.{eqb-true}
use Rattle.number.specs.Reader.{Out, stop, next, Reader, give, onward, unless, tested}
use Rattle.condition_model.specs.Grammar.{Condition, Condition.a_term, Condition.or_else, Term, Term.a_factor, Term.and_also, Factor, Factor.negation, Factor.bracketed, Factor.memory_is, Factor.load_is, opening, closing, slash, equals, backslash, letter_e, letter_m, tilde, decimal, equation, spaces, tokens_c, tokens_t, tokens_f, Padded, Ranges, FitsC, FitsT, FitsF}
use Rattle.condition_model.specs.Reader.{byte, is, is_digit, skipped, sign, digits, value_by, unfit, number_of, number, number_in, label, valued, equation_by, choose, if_byte, equation_at, nested, behind_sign, joined, closed, negated, condition_by, term_by, factor_by}
use Rattle.condition_model.specs.Faults.{Behind, Wrong, Told, NoLoad}
use Rattle.condition_model.proofs.Decimal.{decimal_low, digits_spelt}
use Rattle.condition_model.proofs.Parts.{Part, part_none, part_then, part-byte, part-first, part-front, gap, part-skip, front-passes}

pub padded_then : (ts us : List (List ℕ)) (bs cs : List ℕ) → Padded ts bs → Padded us cs → Padded (ts ++ us) (bs ++ cs)
padded_then [] us bs cs P R = rw P R
padded_then (t ∷ ts) us bs cs (g, r, e, P) R =
    (g, r ++ cs, rw e (append_assoc t (spaces g ++ r) cs ∙ ap (λ (l : List ℕ). t ++ l) (append_assoc (spaces g) r cs)), padded_then ts us r cs P R)

-- one token, and the spaces behind it
pub padded_one : (t : List ℕ) (g : ℕ) → Padded (t ∷ []) (t ++ spaces g)
padded_one t g = (g, [], ap (λ (l : List ℕ). t ++ l) (sym (append-nil (spaces g))), refl)

pub record Took {A : Type 0} (Q : A → List ℕ → Type 0) (s : List ℕ) (at : ℕ) (a : A) (p : ℕ) : Type 0 where
  pub bs : List ℕ
  pub part : Part s at p bs
  pub holds : Q a bs

-- bytes of which Q holds can be made from nothing, b at most
pub record Fresh {A : Type 0} (Q : A → List ℕ → Type 0) (b : ℕ) : Type 0 where
  pub a : A
  pub rest : List ℕ
  pub short : length rest ≤ b
  pub holds : Q a rest

widen : {A : Type 0} {Q : A → List ℕ → Type 0} {b : ℕ} (d : ℕ) → b ≤ d → Fresh Q b → Fresh Q d
widen d l F = record { a = F.a; rest = F.rest; short = omega (arith, F.short); holds = F.holds }

-- and so behind those that stand from at up to p
pub record Cut {A : Type 0} (Q : A → List ℕ → Type 0) (b : ℕ) (s : List ℕ) (at p : ℕ) : Type 0 where
  pub bs : List ℕ
  pub part : Part s at p bs
  pub fresh : Fresh (λ a cs. Q a (bs ++ cs)) b

-- what an answer means: what was read stands there; or the refusal tells what it tells, and what stands before it can be completed
abbrev pub Outcome : (w : Ranges) (s : List ℕ) {A : Type 0} → (A → List ℕ → Type 0) → (b at : ℕ) → Out A → Type 0
Outcome w s Q b at (next a p) = Took Q s at a p
Outcome w s Q b at (stop x p) = Told w s x p × (Cut Q b s at p ⊎ NoLoad w s p)

pub record Runs (w : Ranges) (s : List ℕ) {A : Type 0} (Q : A → List ℕ → Type 0) (b at : ℕ) (o : Out A) : Type 0 where
  pub is : Outcome w s Q b at o

-- bytes that are the number's digits, which passes the test
pub record Numeral (test : ℕ → Bool) (n : ℕ) (bs : List ℕ) : Type 0 where
  pub same : bs ≡ decimal n
  pub passes : test n ≡ true

-- bytes that are the tokens of a, which keeps the limits
pub record Spelt {A : Type 0} (tokens : A → List (List ℕ)) (fits : A → Type 0) (a : A) (bs : List ℕ) : Type 0 where
  pub padded : Padded (tokens a) bs
  pub fit : fits a

-- numbers to complete an equation with: 0 as an address and as a value, and a load of at most two digits, if there is a load
pub record Usable (w : Ranges) : Type 0 where
  pub address : w.address 0 ≡ true
  pub value : w.value 0 ≡ true
  pub load : Fresh (Numeral w.load) 2 ⊎ ((e : ℕ) → w.load e ≡ false)

abbrev Labelled : (letter : ℕ) → (ℕ → Bool) → ℕ → List ℕ → Type 0
Labelled letter test = Spelt (λ n. (letter ∷ decimal n) ∷ []) (λ n. test n ≡ true)

label_spelt : (letter : ℕ) (test : ℕ → Bool) (n : ℕ) (bs : List ℕ) (g : ℕ) → Numeral test n bs → Labelled letter test n (letter ∷ (bs ++ spaces g))
label_spelt letter test n bs g N = record { padded = rw N.same (padded_one (letter ∷ decimal n) g); fit = N.passes }

abbrev Valued : (ℕ → Bool) → ℕ → List ℕ → Type 0
Valued test = Spelt (λ v. (equals ∷ []) ∷ decimal v ∷ []) (λ v. test v ≡ true)

value_spelt : (test : ℕ → Bool) (v : ℕ) (bs : List ℕ) (g h : ℕ) → Numeral test v bs → Valued test v (equals ∷ (spaces g ++ (bs ++ spaces h)))
value_spelt test v bs g h N = record { padded = rw N.same (g, decimal v ++ spaces h, refl, padded_one (decimal v) h); fit = N.passes }

zero_fresh : (test : ℕ → Bool) (b : ℕ) → 1 ≤ b → test 0 ≡ true → Fresh (Numeral test) b
zero_fresh test b l h = record { a = 0; rest = decimal 0; short = rw (decimal_low 0 (omega arith)) l; holds = record { same = refl; passes = h } }

module _ {w : Ranges} {s : List ℕ} where
  -- what was read
  took : {A : Type 0} {Q : A → List ℕ → Type 0} {b at p : ℕ} {a : A} {bs : List ℕ} → Part s at p bs → Q a bs → Runs w s Q b at (next a p)
  took {bs = bs} P h = record { is = record { bs = bs; part = P; holds = h } }

  -- a fault where the reader began
  begun : {A : Type 0} {Q : A → List ℕ → Type 0} {b at x : ℕ} → Told w s x at → Fresh Q b → Runs w s Q b at (stop x at)
  begun {at = at} t F = record { is = (t, inl (record { bs = []; part = part_none s at; fresh = F })) }

  -- a fault of another reader, whose completion completes this one too
  stopped : {A B : Type 0} {R : A → List ℕ → Type 0} {Q : B → List ℕ → Type 0} {b d at at' x p : ℕ} → (Cut R b s at p → Cut Q d s at' p) → Runs w s R b at (stop x p) → Runs w s Q d at' (stop x p)
  stopped {R = R} {b = b} {at = at} {p = p} f r = record { is = (r.is.0, ⊎_elim (λ (C : Cut R b s at p). inl (f C)) (λ (n : NoLoad w s p). inr n) r.is.1) }

  -- more bytes may complete it
  wider : {A : Type 0} {Q : A → List ℕ → Type 0} {b at : ℕ} (d : ℕ) (o : Out A) → b ≤ d → Runs w s Q b at o → Runs w s Q d at o
  wider d (next a p) l r = took r.is.part r.is.holds
  wider d (stop x p) l r = stopped (λ C. record { bs = C.bs; part = C.part; fresh = widen d l C.fresh }) r

  -- behind bytes that were looked at
  behind : {A : Type 0} {Q : A → List ℕ → Type 0} {b at p : ℕ} {bs : List ℕ} → Part s at p bs → (o : Out A) → Runs w s (λ a cs. Q a (bs ++ cs)) b p o → Runs w s Q b at o
  behind P (next a q) r = took (part_then P r.is.part) r.is.holds
  behind {bs = bs} P (stop x q) r =
      stopped (λ C. record {
        bs = bs ++ C.bs;
        part = part_then P C.part;
        fresh = record { a = C.fresh.a; rest = C.fresh.rest; short = C.fresh.short; holds = rw append_assoc C.fresh.holds };
      }) r

  -- one reader behind another
  bind : {A B : Type 0} {R : A → List ℕ → Type 0} {Q : B → List ℕ → Type 0} {b e at : ℕ} (d : ℕ) (f : A → ℕ → Out B) (o : Out A) → Runs w s R b at o → b + d ≤ e
      → ((a : A) (p : ℕ) (bs : List ℕ) → Part s at p bs → R a bs → Runs w s (λ y cs. Q y (bs ++ cs)) e p (f a p))
      → ((a : A) (bs : List ℕ) → R a bs → Fresh (λ y cs. Q y (bs ++ cs)) d)
      → Runs w s Q e at (onward f o)
  bind d f (next a p) r l h k = behind r.is.part (f a p) (h a p r.is.bs r.is.part r.is.holds)
  bind d f (stop x p) r l h k =
      stopped (λ C.
      let F = C.fresh in
      let G = k F.a (C.bs ++ F.rest) F.holds in
      record {
        bs = C.bs;
        part = C.part;
        fresh = record { a = G.a; rest = F.rest ++ G.rest; short = rw length-append (omega (arith, F.short, G.short)); holds = rw append_assoc at G.holds };
      }) r

  -- the spaces behind what was read
  spaced : {A : Type 0} {Q : A → List ℕ → Type 0} {b p : ℕ} {a : A} → ((g : ℕ) → Q a (spaces g)) → Runs w s Q b p (next a (skipped s p))
  spaced {p = p} h = took (part-skip s p) (h (gap s p))

  -- one reader where the byte x stands, else another
  chosen : {A : Type 0} {Q : A → List ℕ → Type 0} {b : ℕ} (x at : ℕ) (r r' : Reader A) → (byte s at ≡ x → Runs w s Q b at (r s at)) → Runs w s Q b at (r' s at)
      → Runs w s Q b at (if_byte x r r' s at)
  chosen {Q = Q} {b = b} x at r r' h k = go (is x s at) refl
    where
      go : (t : Bool) → is x s at ≡ t → Runs w s Q b at (choose t r r' s at)
      go true e = h (eqb-true (byte s at) x e)
      go false e = k

  sign-outcome : (x at : ℕ) → x < 256 → Runs w s (λ _ bs. bs ≡ x ∷ []) 1 at (sign x s at)
  unfolding sign
  sign-outcome x at h = go (is x s at) refl
    where
      go : (t : Bool) → is x s at ≡ t → Runs w s {A = Unit {0}} (λ _ bs. bs ≡ x ∷ []) 1 at (cond t (next (tt {0}) (at + 1)) (stop 21 at))
      go true e = took (part-byte s at x (eqb-true (byte s at) x e) h) refl
      go false e = begun (inl refl) (record { a = tt; rest = x ∷ []; short = le_refl 1; holds = refl })

  -- ---- numbers

  module _ (test : ℕ → Bool) (b at : ℕ) (wrong : (v : ℕ) → test v ≡ false → Wrong w s at v) (start : Fresh (Numeral test) b ⊎ NoLoad w s at) where
    number-refused : (x : ℕ) → Told w s x at → Runs w s (Numeral test) b at (stop x at)
    number-refused x t = ⊎_elim (λ (F : Fresh (Numeral test) b). begun t F) (λ (n : NoLoad w s at). record { is = (t, inr n) }) start

    number-outcome : Runs w s (Numeral test) b at (number_in test s at)
    unfolding unless number number_of
    number-outcome = go (unfit ds) (test (value_by 0 ds)) refl refl
      where
        ds : List ℕ
        ds = digits (drop at s)

        go : (t u : Bool) → unfit ds ≡ t → test (value_by 0 ds) ≡ u → Runs w s (Numeral test) b at (tested 3 test at (cond t (stop 21 at) (next (value_by 0 ds) (at + length ds))))
        go true u e f = number-refused 21 (inl refl)
        go false true e f = rw f (took (part-front is_digit s at) (record { same = sym (digits_spelt ds (front-passes is_digit (drop at s)) e); passes = f }))
        go false false e f =
            rw f (number-refused 3 (inr (inr (refl, record { v = value_by 0 ds; after = at + length ds; stands = rw e; wrong = wrong (value_by 0 ds) f }))))

  -- a letter and its number
  label-outcome : (letter : ℕ) (test : ℕ → Bool) (b at : ℕ) → letter < 256 → byte s at ≡ letter → ((v : ℕ) → test v ≡ false → Wrong w s (at + 1) v) → Fresh (Numeral test) b ⊎ NoLoad w s (at + 1)
      → Runs w s (Labelled letter test) b at (label test s at)
  unfolding label
  label-outcome letter test b at small here wrong start =
      behind (part-byte s at letter here small) _
      (bind 0 (λ n p. next n (skipped s p)) (number_in test s (at + 1)) (number-outcome test b (at + 1) wrong start) (omega arith)
      (λ n p bs P N. spaced (λ g. label_spelt letter test n bs g N)) (λ n bs N. record { a = n; rest = []; short = omega arith; holds = label_spelt letter test n bs 0 N }))

  -- `=` and its value, which may be 0
  valued-outcome : (at : ℕ) → w.value 0 ≡ true → Runs w s (Valued w.value) 2 at (valued w.value s at)
  unfolding valued
  valued-outcome at z =
      bind 1 _ (sign equals s at) (sign-outcome equals at (omega arith)) (omega arith)
      (λ u p bs P e.
      let here : byte s at ≡ equals = part-first (rw e at P) in
      let on : p ≡ at + 1 = (rw e at P).place in
      rw e (behind (part-skip s p) _
      (bind 0 (λ v q. next v (skipped s q)) (number_in w.value s (skipped s p))
      (number-outcome w.value 1 (skipped s p) (λ v z. inr (inr (record { at = at; here = here; place = rw on }, z))) (inl (zero_fresh w.value 1 (omega arith) z)))
      (omega arith) (λ v q cs R N. spaced (λ h. value_spelt w.value v cs (gap s p) h N))
      (λ v cs N. record { a = v; rest = []; short = omega arith; holds = value_spelt w.value v cs (gap s p) 0 N }))))
      (λ u bs e. let F = zero_fresh w.value 1 (omega arith) z in
      record { a = F.a; rest = F.rest ++ spaces 0; short = rw (append-nil F.rest) F.short; holds = rw e (value_spelt w.value F.a F.rest 0 0 F.holds) })

-- ---- equations, and what is joined and nested

abbrev pub SpeltC : Ranges → ℕ → Condition → List ℕ → Type 0
SpeltC w n = Spelt tokens_c (FitsC w n)

abbrev pub SpeltT : Ranges → ℕ → Term → List ℕ → Type 0
SpeltT w n = Spelt tokens_t (FitsT w n)

abbrev pub SpeltF : Ranges → ℕ → Factor → List ℕ → Type 0
SpeltF w n = Spelt tokens_f (FitsF w n)

-- `m0=0`, wherever a factor has to begin
unit_fresh : (w : Ranges) (n : ℕ) → Usable w → Fresh (SpeltF w n) 4
unfolding tokens_f FitsF
unit_fresh w n U = record {
  a = memory_is 0 0;
  rest = (letter_m ∷ decimal 0) ++ ((equals ∷ []) ++ (decimal 0 ++ []));
  short = rw (decimal_low 0 (omega arith)) (omega arith);
  holds = record { padded = (0, _, refl, (0, _, refl, padded_one (decimal 0) 0)); fit = (U.address, U.value) };
}

module _ {w : Ranges} {s : List ℕ} (U : Usable w) where
  -- an equation, by what a label and a value make
  equation-by : (letter : ℕ) (test : ℕ → Bool) (make : ℕ → ℕ → Factor) (n at : ℕ) → letter < 256 → byte s at ≡ letter → ((v : ℕ) → test v ≡ false → Wrong w s (at + 1) v)
      → Fresh (Numeral test) 2 ⊎ NoLoad w s (at + 1)
      → ((a v : ℕ) (bs : List ℕ) → Padded (equation letter a v) bs → test a ≡ true → w.value v ≡ true → SpeltF w n (make a v) bs)
      → Runs w s (SpeltF w n) 4 at (equation_by test w.value make s at)
  unfolding equation_by
  equation-by letter test make n at small here wrong start is-spelt =
      bind 2 (λ a p. onward (λ v q. next (make a v) q) (valued w.value s p)) (label test s at) (label-outcome letter test 2 at small here wrong start) (omega arith)
      (λ a p bs P L.
      bind 0 (λ v q. next (make a v) q) (valued w.value s p) (valued-outcome p U.value) (omega arith)
      (λ v q cs R N. took (part_none s q) (spelt a v bs cs L N)) (λ v cs N. record { a = make a v; rest = []; short = omega arith; holds = spelt a v bs cs L N }))
      (λ a bs L.
      let F = zero_fresh w.value 1 (omega arith) U.value in
      record {
        a = make a F.a;
        rest = (equals ∷ (F.rest ++ [])) ++ [];
        short = rw (append-nil (F.rest ++ []), append-nil F.rest) (omega (arith, F.short));
        holds = spelt a F.a bs (equals ∷ (F.rest ++ [])) L (value_spelt w.value F.a F.rest 0 0 F.holds);
      })
    where
      spelt : (a v : ℕ) (bs cs : List ℕ) → Labelled letter test a bs → Valued w.value v cs → SpeltF w n (make a v) (bs ++ (cs ++ []))
      spelt a v bs cs L N =
          rw (append-nil cs)
          (is-spelt a v (bs ++ cs) (padded_then ((letter ∷ decimal a) ∷ []) ((equals ∷ []) ∷ decimal v ∷ []) bs cs L.padded N.padded) L.fit N.fit)

  equation-outcome : (n at : ℕ) → Runs w s (SpeltF w n) 4 at (equation_at w s at)
  unfolding equation_at tokens_f FitsF
  equation-outcome n at =
      chosen letter_m at (equation_by w.address w.value memory_is) (if_byte letter_e (equation_by w.load w.value load_is) (λ s at. stop 21 at))
      (λ here.
      equation-by letter_m w.address memory_is n at (omega arith) here (λ v z. inl (record { at = at; here = here; place = refl }, z))
      (inl (zero_fresh w.address 2 (omega arith) U.address)) (λ a v bs P x y. record { padded = P; fit = (x, y) }))
      (chosen letter_e at (equation_by w.load w.value load_is) (λ s at. stop 21 at)
      (λ here.
      let back : Behind letter_e s (at + 1) = record { at = at; here = here; place = refl } in
      equation-by letter_e w.load load_is n at (omega arith) here (λ v z. inr (inl (back, z)))
      (⊎_elim (λ (F : Fresh (Numeral w.load) 2). inl F) (λ (z : (e : ℕ) → w.load e ≡ false). inr (record { behind = back; none = z })) U.load)
      (λ a v bs P x y. record { padded = P; fit = (x, y) }))
      (begun (inl refl) (unit_fresh w n U)))

-- operands joined by the sign of x and y: what one is, and what one and those behind it are
module _ {A B : Type 0} {QA : A → List ℕ → Type 0} {QB : B → List ℕ → Type 0} (x y : ℕ) (one : A → B) (more : A → B → B) (x-small : x < 256) (y-small : y < 256)
    (alone : (a : A) (bs : List ℕ) → QA a bs → QB (one a) bs)
    (along : (a : A) (b : B) (bs cs : List ℕ) (g : ℕ) → QA a bs → QB b cs → QB (more a b) (bs ++ ((x ∷ y ∷ []) ++ (spaces g ++ cs)))) where
  joined-outcome : {w : Ranges} {s : List ℕ} (e at : ℕ) (operand : Reader A) (rest : Reader B) → 5 ≤ e → Fresh QB 4
      → Runs w s QA e at (operand s at) → ((p : ℕ) → Runs w s QB e p (rest s p)) → Runs w s QB e at (joined x y one more operand rest s at)
  joined-outcome {w} {s} e at operand rest l start first others =
      bind 0 _ (operand s at) first (omega arith) (λ a p bs P q. chosen x p (behind_sign y (more a) rest) (give (one a)) (signed a p bs q) (took (part_none s p) (rw (append-nil bs) (alone a bs q))))
      (λ a bs q. record { a = one a; rest = []; short = omega arith; holds = rw (append-nil bs) (alone a bs q) })
    where
      ends : (a : A) (b : B) (bs ys cs : List ℕ) (g : ℕ) → QA a bs → ys ≡ y ∷ [] → QB b cs → QB (more a b) (bs ++ ((x ∷ []) ++ (ys ++ (spaces g ++ (cs ++ [])))))
      ends a b bs ys cs g q f k = rw (f, append-nil cs) (along a b bs cs g q k)

      signed : (a : A) (p : ℕ) (bs : List ℕ) → QA a bs → byte s p ≡ x → Runs w s (λ b cs. QB b (bs ++ cs)) e p (behind_sign y (more a) rest s p)
      signed a p bs q here =
          behind (part-byte s p x here x-small) _
          (bind 4 _ (sign y s (p + 1)) (sign-outcome y (p + 1) y-small) (omega arith)
          (λ u r ys R h. behind (part-skip s r) _
          (bind 0 (λ b z. next (more a b) z) (rest s (skipped s r)) (others (skipped s r)) (omega arith)
          (λ b z cs Z k. took (part_none s z) (ends a b bs ys cs (gap s r) q h k))
          (λ b cs k. record { a = more a b; rest = []; short = omega arith; holds = ends a b bs ys cs (gap s r) q h k })))
          (λ u ys h. record { a = more a start.a; rest = start.rest ++ []; short = rw (append-nil start.rest) start.short; holds = ends a start.a bs ys start.rest 0 q h start.holds }))

module _ (w : Ranges) (s : List ℕ) (U : Usable w) where
  term_fresh : (n : ℕ) → Fresh (SpeltT w n) 4
  unfolding tokens_c FitsC
  term_fresh n =
      let F = unit_fresh w n U in
      record { a = a_factor F.a; rest = F.rest; short = F.short; holds = record { padded = F.holds.padded; fit = F.holds.fit } }

  condition_fresh : (n : ℕ) → Fresh (SpeltC w n) 4
  unfolding tokens_c FitsC
  condition_fresh n =
      let F = term_fresh n in
      record { a = a_term F.a; rest = F.rest; short = F.short; holds = record { padded = F.holds.padded; fit = F.holds.fit } }

  -- `~` or a bracket, one level down: inner reads there what makes a factor
  nested-outcome : (x n at : ℕ) (make : ℕ → Reader Factor) → x < 256 → byte s at ≡ x → ((x ≡ tilde) ⊎ (x ≡ opening))
      → ((i g : ℕ) → n ≡ suc i → Runs w s (λ f cs. SpeltF w n f ((x ∷ []) ++ (spaces g ++ cs))) (5 + n) (skipped s (at + 1)) (make i s (skipped s (at + 1))))
      → Runs w s (SpeltF w n) (5 + n) at (nested n make s at)
  nested-outcome x zero at make small here why inner =
      begun (inr (inl (refl, ⊎_elim (λ (e : x ≡ tilde). inl (here ∙ e)) (λ (e : x ≡ opening). inr (here ∙ e)) why)))
      (widen 5 (omega arith) (unit_fresh w 0 U))
  nested-outcome x (suc i) at make small here why inner =
      behind (part-byte s at x here small) _ (behind (part-skip s (at + 1)) _ (inner i (gap s (at + 1)) refl))

  negation_spelt : (n : ℕ) (f : Factor) (bs : List ℕ) (g : ℕ) → SpeltF w n f bs → SpeltF w (suc n) (negation f) ((tilde ∷ []) ++ (spaces g ++ (bs ++ [])))
  unfolding tokens_f FitsF
  negation_spelt n f bs g S = record { padded = (g, bs ++ [], refl, rw (append-nil bs) S.padded); fit = S.fit }

  bracketed_spelt : (n : ℕ) (c : Condition) (bs zs : List ℕ) (g h : ℕ) → SpeltC w n c bs → zs ≡ closing ∷ []
      → SpeltF w (suc n) (bracketed c) ((opening ∷ []) ++ (spaces g ++ (bs ++ (zs ++ spaces h))))
  unfolding tokens_f FitsF
  bracketed_spelt n c bs zs g h S e = record {
    padded = (g, _, refl, rw e (padded_then (tokens_c c) ((closing ∷ []) ∷ []) bs (closing ∷ spaces h) S.padded (padded_one (closing ∷ []) h)));
    fit = S.fit;
  }

  negated-outcome : (n at g : ℕ) (factor : Reader Factor) → Runs w s (SpeltF w n) (5 + n) at (factor s at)
      → Runs w s (λ f cs. SpeltF w (suc n) f ((tilde ∷ []) ++ (spaces g ++ cs))) (5 + suc n) at (negated factor s at)
  negated-outcome n at g factor r =
      bind 0 (λ f p. next (negation f) p) (factor s at) r (omega arith) (λ f p bs P S. took (part_none s p) (negation_spelt n f bs g S))
      (λ f bs S. record { a = negation f; rest = []; short = omega arith; holds = negation_spelt n f bs g S })

  closed-outcome : (n at g : ℕ) (condition : Reader Condition) → Runs w s (SpeltC w n) (5 + n) at (condition s at)
      → Runs w s (λ f cs. SpeltF w (suc n) f ((opening ∷ []) ++ (spaces g ++ cs))) (5 + suc n) at (closed condition s at)
  closed-outcome n at g condition r =
      bind 1 _ (condition s at) r (omega arith)
      (λ c p bs P S.
      bind 0 (λ _ q. next (bracketed c) (skipped s q)) (sign closing s p) (sign-outcome closing p (omega arith)) (omega arith)
      (λ u q zs Q e. spaced (λ h. bracketed_spelt n c bs zs g h S e)) (λ u zs e. record { a = bracketed c; rest = []; short = omega arith; holds = bracketed_spelt n c bs zs g 0 S e }))
      (λ c bs S. record { a = bracketed c; rest = closing ∷ []; short = omega arith; holds = bracketed_spelt n c bs (closing ∷ []) g 0 S refl })

  factor_outcome : (n at : ℕ) (factor : ℕ → Reader Factor) (condition : ℕ → Reader Condition)
      → ((i p : ℕ) → Runs w s (SpeltF w i) (5 + i) p (factor i s p)) → ((i p : ℕ) → Runs w s (SpeltC w i) (5 + i) p (condition i s p))
      → Runs w s (SpeltF w n) (5 + n) at
      (if_byte tilde (nested n (λ i. negated (factor i))) (if_byte opening (nested n (λ i. closed (condition i))) (equation_at w)) s at)
  factor_outcome n at factor condition f c =
      chosen tilde at (nested n (λ i. negated (factor i))) (if_byte opening (nested n (λ i. closed (condition i))) (equation_at w))
      (λ here. nested-outcome tilde n at (λ i. negated (factor i)) (omega arith) here (inl refl)
      (λ i g k. rw k (negated-outcome i (skipped s (at + 1)) g (factor i) (f i (skipped s (at + 1))))))
      (chosen opening at (nested n (λ i. closed (condition i))) (equation_at w)
      (λ here. nested-outcome opening n at (λ i. closed (condition i)) (omega arith) here (inr refl)
      (λ i g k. rw k (closed-outcome i (skipped s (at + 1)) g (condition i) (c i (skipped s (at + 1))))))
      (wider (5 + n) (equation_at w s at) (omega arith) (equation-outcome U n at)))

  and_spelt : (n : ℕ) (f : Factor) (t : Term) (bs cs : List ℕ) (g : ℕ) → SpeltF w n f bs → SpeltT w n t cs → SpeltT w n (and_also f t) (bs ++ ((slash ∷ backslash ∷ []) ++ (spaces g ++ cs)))
  unfolding tokens_c FitsC
  and_spelt n f t bs cs g S R = record {
    padded = padded_then (tokens_f f) ((slash ∷ backslash ∷ []) ∷ tokens_t t) bs ((slash ∷ backslash ∷ []) ++ (spaces g ++ cs)) S.padded (g, cs, refl, R.padded);
    fit = (S.fit, R.fit);
  }

  or_spelt : (n : ℕ) (t : Term) (c : Condition) (bs cs : List ℕ) (g : ℕ) → SpeltT w n t bs → SpeltC w n c cs → SpeltC w n (or_else t c) (bs ++ ((backslash ∷ slash ∷ []) ++ (spaces g ++ cs)))
  unfolding tokens_c FitsC
  or_spelt n t c bs cs g S R = record {
    padded = padded_then (tokens_t t) ((backslash ∷ slash ∷ []) ∷ tokens_c c) bs ((backslash ∷ slash ∷ []) ++ (spaces g ++ cs)) S.padded (g, cs, refl, R.padded);
    fit = (S.fit, R.fit);
  }

  alone_T : (n : ℕ) (f : Factor) (bs : List ℕ) → SpeltF w n f bs → SpeltT w n (a_factor f) bs
  unfolding tokens_c FitsC
  alone_T n f bs S = record { padded = S.padded; fit = S.fit }

  alone_C : (n : ℕ) (t : Term) (bs : List ℕ) → SpeltT w n t bs → SpeltC w n (a_term t) bs
  unfolding tokens_c FitsC
  alone_C n t bs S = record { padded = S.padded; fit = S.fit }

  mutual
    unfolding condition_by

    pub outcome_C : (f n at : ℕ) → Runs w s (SpeltC w n) (5 + n) at (condition_by f w n s at)
    outcome_C zero n at = begun (inl refl) (widen (5 + n) (omega arith) (condition_fresh n))
    outcome_C (suc f) n at =
        joined-outcome backslash slash a_term or_else (omega arith) (omega arith) (alone_C n) (or_spelt n) (5 + n) at
        (λ s at. term_by f w n s at) (λ s at. condition_by f w n s at) (omega arith) (condition_fresh n) (outcome-T f n at) (λ p. outcome_C f n p)

    pub outcome-T : (f n at : ℕ) → Runs w s (SpeltT w n) (5 + n) at (term_by f w n s at)
    outcome-T zero n at = begun (inl refl) (widen (5 + n) (omega arith) (term_fresh n))
    outcome-T (suc f) n at =
        joined-outcome slash backslash a_factor and_also (omega arith) (omega arith) (alone_T n) (and_spelt n) (5 + n) at
        (λ s at. factor_by f w n s at) (λ s at. term_by f w n s at) (omega arith) (term_fresh n) (outcome_F f n at) (λ p. outcome-T f n p)

    pub outcome_F : (f n at : ℕ) → Runs w s (SpeltF w n) (5 + n) at (factor_by f w n s at)
    outcome_F zero n at = begun (inl refl) (widen (5 + n) (omega arith) (unit_fresh w n U))
    outcome_F (suc f) n at = factor_outcome n at (λ i s at. factor_by f w i s at) (λ i s at. condition_by f w i s at) (λ i p. outcome_F f i p) (λ i p. outcome_C f i p)
