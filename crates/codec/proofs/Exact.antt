-- What was read is written so, and a refusal is one that the layout tells of: the laws of every reader.
-- Assumes nothing.
use Prim.Native.Nat.{ℕ, zero, suc, ◌+◌, ◌-◌, ◌≤◌, ◌<◌}
use native.Mathlib.Nat.{add-zero}
use native.Mathlib.Omega.{arith}
use mathlib.Core.Path.{◌≡◌, refl, sym, ap, ◌∙◌, subst}
use mathlib.Core.Bool.{Bool, true, false, cond}
use mathlib.Core.List.{List, [], ◌∷◌, ◌++◌, append_assoc, append-nil}
use lib.Dec.{ltb, lit≤}
use lib.ListN.{length, drop, get_or, length-append, length-drop, take-append-drop}
use lib.Seq.{drop-drop}
use borrow.Author.Tests.{ltb-true, ltb-false, leb-true}
use Rattle.finite.specs.Lists.{each, All}
use Rattle.finite.proofs.All.{all_drop}
use Rattle.number.specs.Number.{Raw, got, short, wrong, read_groups, finish, read_number, groups, encode, Bytes}
use Rattle.number.specs.Reader.{Out, stop, next, Reader, give, ◌>>=◌, onward, unless, tested, turns, another, times, up_to, within, below, under}
use Rattle.number.proofs.Laws.{Encoded, read_is_encoded}
use Rattle.number.proofs.Forms.{WrongForm, wrong_form}

pub bytes_at : (s : List ℕ) → ((i : ℕ) → get_or s i 0 < 256) → Bytes s
bytes_at [] h = tt
bytes_at (b ∷ s) h = (h 0, bytes_at s (λ i. h (suc i)))

-- reading took the bytes bs from the place at on, and Q holds of what was read and of them
pub record Took {A : Type 0} (Q : A → List ℕ → Type 0) (s : List ℕ) (at : ℕ) (a : A) (p : ℕ) : Type 0 where
  pub bs : List ℕ
  pub whole : drop at s ≡ bs ++ drop p s
  pub place : p ≡ at + length bs
  pub holds : Q a bs

-- a number or the bytes' end is at fault, at a place within the bytes; under 2 the number there has a wrong form
pub record Malformed (s : List ℕ) (x p : ℕ) : Type 0 where
  pub least : 1 ≤ x
  pub most : x ≤ 4
  pub within : p ≤ length s
  pub form : x ≡ 2 → WrongForm s p

-- a refusal that says nothing of a number's form
pub other_than_2 : {s : List ℕ} {p : ℕ} (x : ℕ) → 1 ≤ x → x ≤ 4 → (x ≡ 2 → ⊥) → p ≤ length s → Malformed s x p
other_than_2 x lo hi n l = record { least = lo; most = hi; within = l; form = λ e. absurd (n e) }

-- what a layout tells of its refusals: of the bytes, the number and the place
abbrev pub Told : Type 1
Told = List ℕ → (x p : ℕ) → Type 0

-- it tells what is malformed
abbrev pub Tells : Told → Type 0
Tells N = (s : List ℕ) (x p : ℕ) → Malformed s x p → N s x p

abbrev pub Outcome : {A : Type 0} → Told → (A → List ℕ → Type 0) → List ℕ → ℕ → Out A → Type 0
Outcome N Q s at (stop x p) = N s x p
Outcome N Q s at (next a p) = Took Q s at a p

-- whatever r reads, Q holds of it and of the bytes that it took; where it refuses, N holds of the refusal
pub record Exact {A : Type 0} (N : Told) (r : Reader A) (Q : A → List ℕ → Type 0) : Type 0 where
  pub run : (s : List ℕ) (at : ℕ) → Bytes s → at ≤ length s → Outcome N Q s at (r s at)

-- the bytes are those of a, and P holds of a
pub record As {A : Type 0} (enc : A → List ℕ) (P : A → Type 0) (a : A) (bs : List ℕ) : Type 0 where
  pub same : bs ≡ enc a
  pub fits : P a

-- the next place is within the bytes
pub took_within : {A : Type 0} {Q : A → List ℕ → Type 0} {s : List ℕ} {at : ℕ} {a : A} {p : ℕ} → Took Q s at a p → at ≤ length s → p ≤ length s
took_within {s = s} {at = at} {p = p} T b =
    let sizes : length s - at ≡ length T.bs + (length s - p) = simp (length-drop, length-append) at (ap length T.whole) in
    omega (arith, T.place)

pub exact_give : {N : Told} {A : Type 0} (Q : A → List ℕ → Type 0) (a : A) → Q a [] → Exact N (give a) Q
exact_give Q a q = record { run = λ s at h b. record { bs = []; whole = refl; place = sym (add-zero at); holds = q } }

-- one reader and then another
pub exact_then : {N : Told} {A B : Type 0} {r : Reader A} {f : A → Reader B} {R : A → List ℕ → Type 0} {Q : B → List ℕ → Type 0}
    → Exact N r R → ((a : A) (bs : List ℕ) → R a bs → Exact N (f a) (λ b bs'. Q b (bs ++ bs'))) → Exact N (r >>= f) Q
exact_then {N} {A} {B} {r} {f} {R} {Q} p q = record { run = λ s at h l. go s at h l (r s at) (p.run s at h l) }
  where
    go : (s : List ℕ) (at : ℕ) → Bytes s → at ≤ length s → (o : Out A) → Outcome N R s at o → Outcome N Q s at (onward (λ a p. f a s p) o)
    go s at h l (stop x y) F = F
    go s at h l (next a j) F = rest (f a s j) ((q a F.bs F.holds).run s j h (took_within F l))
      where
        rest : (o : Out B) → Outcome N (λ b bs'. Q b (F.bs ++ bs')) s j o → Outcome N Q s at o
        rest (stop x y) G = G
        rest (next b i) G = record {
          bs = F.bs ++ G.bs;
          whole = F.whole ∙ ap (λ (l : List ℕ). F.bs ++ l) G.whole ∙ sym (append_assoc F.bs G.bs (drop i s));
          place = rw length-append (omega (arith, F.place, G.place));
          holds = G.holds;
        }

pub exact_bind : {N : Told} {A B : Type 0} {r : Reader A} {f : A → Reader B} {enc : A → List ℕ} {P : A → Type 0} {Q : B → List ℕ → Type 0}
    → Exact N r (As enc P) → ((a : A) → P a → Exact N (f a) (λ b bs. Q b (enc a ++ bs))) → Exact N (r >>= f) Q
exact_bind {N} {f = f} {Q = Q} p q =
    exact_then p (λ a bs h. subst (λ (x : List ℕ). Exact N (f a) (λ b bs. Q b (x ++ bs))) (sym h.same) (q a h.fits))

-- the last of a do block
pub exact_last : {N : Told} {A B : Type 0} {r : Reader A} (f : A → B) {enc : A → List ℕ} {P : A → Type 0} (Q : B → List ℕ → Type 0)
    → Exact N r (As enc P) → ((a : A) → P a → Q (f a) (enc a)) → Exact N (r >>= λ x. give (f x)) Q
exact_last f {enc} Q p q = exact_bind p (λ a h. exact_give _ (f a) (rw (append-nil (enc a)) (q a h)))

pub exact_map : {N : Told} {A : Type 0} {r : Reader A} {Q Q' : A → List ℕ → Type 0} → Exact N r Q → ((a : A) (bs : List ℕ) → Q a bs → Q' a bs) → Exact N r Q'
exact_map {N} {A} {r} {Q} {Q'} p f = record { run = λ s at h l. go s at (r s at) (p.run s at h l) }
  where
    go : (s : List ℕ) (at : ℕ) (o : Out A) → Outcome N Q s at o → Outcome N Q' s at o
    go s at (stop x y) G = G
    go s at (next a i) G = record { bs = G.bs; whole = G.whole; place = G.place; holds = f a G.bs G.holds }

pub exact_fits : {N : Told} {A : Type 0} {r : Reader A} {enc : A → List ℕ} {P P' : A → Type 0} → Exact N r (As enc P) → ((a : A) → P a → P' a) → Exact N r (As enc P')
exact_fits p f = exact_map p (λ a bs Q. record { same = Q.same; fits = f a Q.fits })

-- what was read has passed the test
pub exact_unless : {N : Told} → Tells N → {A : Type 0} (x : ℕ) (test : A → Bool) {r : Reader A} {enc : A → List ℕ} {P : A → Type 0}
    → 3 ≤ x → x ≤ 4 → Exact N r (As enc P) → Exact N (unless x test r) (As enc (λ a. P a × (test a ≡ true)))
unfolding unless
exact_unless {N} told {A} x test {r} {enc} {P} lo hi p = record { run = λ s at h l. go s at l (r s at) (p.run s at h l) }
  where
    go : (s : List ℕ) (at : ℕ) → at ≤ length s → (o : Out A) → Outcome N (As enc P) s at o → Outcome N (As enc (λ a. P a × (test a ≡ true))) s at (tested x test at o)
    go s at l (stop y z) G = G
    go s at l (next a i) G = passed (test a) refl
      where
        passed : (y : Bool) → test a ≡ y → Outcome N (As enc (λ a. P a × (test a ≡ true))) s at (cond y (next a i) (stop x at))
        passed false k = told s x at (other_than_2 x (omega (arith, lo)) hi (λ e. omega (arith, lo)) l)
        passed true k =
            record { bs = G.bs; whole = G.whole; place = G.place; holds = record { same = G.holds.same; fits = (G.holds.fits, k) } }

pub exact_up_to : {N : Told} → Tells N → (hi : ℕ) → Exact N (up_to hi) (As encode (λ v. v ≤ hi))
unfolding up_to read_number finish
exact_up_to {N} told hi = record {
  run = λ s at h l. go s at l (read_groups groups 0 (drop at s)) (wrong_form s at)
      (λ w j. read_is_encoded groups 0 (drop at s) w j (lit≤ tt) (all_drop _ at s h));
}
  where
    go : (s : List ℕ) (at : ℕ) → at ≤ length s → (r : Raw) → (r ≡ wrong → WrongForm s at) → ((w j : ℕ) → r ≡ got w j → Encoded 0 (drop at s) w j)
        → Outcome N (As encode (λ v. v ≤ hi)) s at ((finish at hi r))
    go s at l short f g = told s 1 at (other_than_2 1 (lit≤ tt) (lit≤ tt) (λ e. omega arith) l)
    go s at l wrong f g = told s 2 at (record { least = lit≤ tt; most = lit≤ tt; within = l; form = λ e. f refl })
    go s at l (got w j) f g = small (ltb hi w) refl (g w j refl)
      where
        small : (y : Bool) → ltb hi w ≡ y → Encoded 0 (drop at s) w j
            → Outcome N (As encode (λ v. v ≤ hi)) s at ((cond y (stop 3 at) (next w (at + j))))
        small true k G = told s 3 at (other_than_2 3 (lit≤ tt) (lit≤ tt) (λ e. omega arith) l)
        small false k G = record {
          bs = encode w;
          whole = sym (take-append-drop j (drop at s)) ∙ rw (G.bytes, drop-drop j at s);
          place = ap (λ (x : ℕ). at + x) G.count;
          holds = record { same = refl; fits = ltb-false hi w k };
        }

pub exact_within : {N : Told} → Tells N → (lo hi : ℕ) → Exact N (within lo hi) (As encode (λ v. (lo ≤ v) × (v ≤ hi)))
unfolding within
exact_within told lo hi = exact_fits (exact_unless told 3 _ (lit≤ tt) (lit≤ tt) (exact_up_to told hi)) (λ v h. (leb-true lo v h.1, h.0))

pub exact_below : {N : Told} → Tells N → (b : ℕ) → 0 < b → Exact N (below b) (As encode (λ v. v < b))
unfolding below
exact_below told b l = exact_fits (exact_up_to told (b - 1)) (λ v h. omega arith)

pub exact_under : {N : Told} → Tells N → (b : ℕ) → Exact N (under b) (As encode (λ v. v < b))
unfolding under
exact_under told b = exact_fits (exact_unless told 3 _ (lit≤ tt) (lit≤ tt) (exact_up_to told b)) (λ v h. ltb-true v b h.1)

-- ---- repeated reading, each time by what was read before

-- from s on, with one of xs after the other
abbrev pub folded : {S A : Type 0} → (S → A → S) → S → List A → S
folded g s [] = s
folded g s (x ∷ xs) = folded g (g s x) xs

-- P holds of each, and of what was made of all before it
abbrev pub Along : {S A : Type 0} → (S → A → S) → (P : S → A → Type 0) → S → List A → Type 0
Along g P s [] = Unit {0}
Along g P s (x ∷ xs) = P s x × Along g P (g s x) xs

-- i were read, and what was given is made of them
pub record Turned {S A : Type 0} (g : S → A → S) (enc : A → List ℕ) (P : S → A → Type 0) (i : ℕ) (s s' : S) (bs : List ℕ) : Type 0 where
  pub xs : List A
  pub count : length xs ≡ i
  pub made : s' ≡ folded g s xs
  pub fits : Along g P s xs
  pub bytes : bs ≡ each enc xs

-- one turn
record Turn {S A : Type 0} (g : S → A → S) (enc : A → List ℕ) (P : S → A → Type 0) (s s' : S) (bs : List ℕ) : Type 0 where
  x : A
  made : s' ≡ g s x
  fits : P s x
  bytes : bs ≡ enc x

pub exact_turns : {N : Told} {S A : Type 0} (r : S → Reader A) (g : S → A → S) (enc : A → List ℕ) (P : S → A → Type 0)
    → ((s : S) → Exact N (r s) (As enc (P s))) → (i : ℕ) (s : S) → Exact N (turns i (λ s. r s >>= λ x. give (g s x)) s) (Turned g enc P i s)
unfolding turns each
exact_turns r g enc P p zero s = exact_give _ s (record { xs = []; count = refl; made = refl; fits = tt; bytes = refl })
exact_turns {N} {S} {A} r g enc P p (suc i) s = exact_then one (λ s₁ bs T. exact_map (exact_turns r g enc P p i s₁) (λ s₂ bs' U. more s₁ bs T s₂ bs' U))
  where
    one : Exact N (r s >>= λ x. give (g s x)) (Turn g enc P s)
    one = exact_last (g s) _ (p s) (λ x h. record { x = x; made = refl; fits = h; bytes = refl })

    more : (s₁ : S) (bs : List ℕ) → Turn g enc P s s₁ bs → (s₂ : S) (bs' : List ℕ) → Turned g enc P i s₁ s₂ bs' → Turned g enc P (suc i) s s₂ (bs ++ bs')
    more s₁ bs T s₂ bs' U = record {
      xs = T.x ∷ U.xs;
      count = ap suc U.count;
      made = U.made ∙ ap (λ (z : S). folded g z U.xs) T.made;
      fits = (T.fits, subst (λ (z : S). Along g P z U.xs) T.made U.fits);
      bytes = rw (T.bytes, U.bytes);
    }

-- lists grow at the end
abbrev pub grown : {A : Type 0} → List A → A → List A
grown b x = b ++ (x ∷ [])

pub folded_list : {A : Type 0} (before xs : List A) → folded grown before xs ≡ before ++ xs
folded_list before [] = sym (append-nil before)
folded_list before (x ∷ xs) = folded_list (before ++ (x ∷ [])) xs ∙ append_assoc before (x ∷ []) xs

pub exact_list : {N : Told} {A : Type 0} (r : List A → Reader A) (enc : A → List ℕ) (P : List A → A → Type 0)
    → ((before : List A) → Exact N (r before) (As enc (P before))) → (i : ℕ)
    → Exact N (turns i (λ before. another (r before) before) []) (As (each enc) (λ l. (length l ≡ i) × Along grown P [] l))
exact_list {N} {A} r enc P p i = exact_map (exact_turns r grown enc P p i []) (λ l bs T.
    let e : T.xs ≡ l = sym (T.made ∙ folded_list [] T.xs) in
    subst (λ (z : List A). As (each enc) (λ l. (length l ≡ i) × Along grown P [] l) z bs) e
    (record { same = T.bytes; fits = (T.count, T.fits) }))

along_all : {A : Type 0} (P : A → Type 0) (before xs : List A) → Along grown (λ _. P) before xs → All P xs
along_all P before [] h = tt
along_all P before (x ∷ xs) h = (h.0, along_all P (before ++ (x ∷ [])) xs h.1)

pub exact_times : {N : Told} {A : Type 0} {r : Reader A} {enc : A → List ℕ} {P : A → Type 0} → Exact N r (As enc P) → (i : ℕ)
    → Exact N (times i r) (As (each enc) (λ l. (length l ≡ i) × All P l))
unfolding times
exact_times {r = r} {enc = enc} {P = P} p i = exact_fits (exact_list (λ _. r) enc (λ _. P) (λ _. p) i) (λ l h. (h.0, along_all P [] l h.1))
