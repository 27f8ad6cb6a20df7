-- How far a reader looks: what it takes, how near the bytes' end is where it answers 1, and that every other answer stays when further
-- bytes follow: the laws of every reader.
-- Assumes nothing.
use Prim.Native.Nat.{ℕ, zero, suc, ◌+◌, ◌-◌, ◌*◌, ◌/◌, ◌≤◌, ◌<◌}
use native.Mathlib.Nat.{suc-mul, mul-le-mul_right, le_refl}
use native.Mathlib.Omega.{arith}
use mathlib.Core.Path.{◌≡◌, refl, sym, ap, ◌∙◌}
use mathlib.Core.Bool.{Bool, true, false, cond}
use mathlib.Core.List.{List, [], ◌∷◌, ◌++◌, append_assoc}
use lib.Dec.{leb, ltb, lit≤}
use lib.ListN.{length, take, drop, length-append, length-drop, take-append-drop}
use lib.Seq.{length-take-le, drop-append-le, take-take, take-add, take_at, drop_at}
use borrow.Author.Tests.{ltb-false, leb-true, leb-false, le-leb}
use Rattle.number.specs.Number.{Raw, got, short, wrong, after, read_groups, finish, read_number, groups, size}
use Rattle.number.specs.Reader.{Out, stop, next, Reader, give, ◌>>=◌, onward, unless, tested, turns, another, times, up_to, within, below, under}
use Rattle.number.proofs.Encoding.{encode-long, encode_high}
use Rattle.number.proofs.Sizes.{size_mono}

-- a number's groups beyond its first: so many bytes may stand there before it is known that the number is too great
abbrev pub further : ℕ
further = groups - 1

-- r took the bytes from at up to p, b at most, P holds of what it read, and it reads that whatever lies behind them
pub record Taken {A : Type 0} (r : Reader A) (b : ℕ) (P : A → Type 0) (s : List ℕ) (at : ℕ) (a : A) (p : ℕ) : Type 0 where
  pub from : at ≤ p
  pub inside : p ≤ length s
  pub most : p ≤ at + b
  pub front : (t : List ℕ) → r (take p s ++ t) at ≡ next a p
  pub fits : P a

-- r was refused: with 1, and then fewer than e bytes stand behind its start; or with another number, whatever lies behind the bytes
pub record Stopped {A : Type 0} (r : Reader A) (e : ℕ) (s : List ℕ) (at x p : ℕ) : Type 0 where
  pub least : 1 ≤ x
  pub end : x ≡ 1 → length s < at + e
  pub stays : (x ≡ 1 → ⊥) → (t : List ℕ) → r (s ++ t) at ≡ stop x p

abbrev pub Looks : {A : Type 0} → Reader A → (b e : ℕ) → (A → Type 0) → List ℕ → ℕ → Out A → Type 0
Looks r b e P s at (stop x p) = Stopped r e s at x p
Looks r b e P s at (next a p) = Taken r b P s at a p

-- r takes b bytes at most, and P holds of what it reads; it answers 1 only where fewer than b + over bytes are left
pub record Extent {A : Type 0} (over : ℕ) (r : Reader A) (b : ℕ) (P : A → Type 0) : Type 0 where
  pub run : (s : List ℕ) (at : ℕ) → at ≤ length s → Looks r b (b + over) P s at (r s at)

-- nothing is said of what is read
abbrev pub Any : {A : Type 0} → A → Type 0
Any a = Unit {0}

-- ---- lists

-- what stands before q is what stands before p and some more
split : (p q : ℕ) (s : List ℕ) → p ≤ q → take q s ≡ take p s ++ drop p (take q s)
split p q s l = sym (take-append-drop p (take q s)) ∙ ap (λ (x : List ℕ). x ++ drop p (take q s)) (take-take p q s l)

-- the bytes and some behind them, from p on
pub split_all : (p : ℕ) (s t : List ℕ) → s ++ t ≡ take p s ++ (drop p s ++ t)
split_all p s t = ap (λ (x : List ℕ). x ++ t) (sym (take-append-drop p s)) ∙ append_assoc (take p s) (drop p s) t

-- from a place on, the bytes up to i behind it stand there whatever follows them
again : (i at : ℕ) (s t : List ℕ) → at ≤ length s → drop at (take (at + i) s ++ t) ≡ take i (drop at s) ++ t
again i at s t l =
    ap (drop at) (ap (λ (x : List ℕ). x ++ t) (take-add at i s) ∙ append_assoc (take at s) (take i (drop at s)) t)
    ∙ drop_at (take at s) (take i (drop at s) ++ t) at (length-take-le at s l)

-- ---- one reader after the other

pub extent_give : {over : ℕ} {A : Type 0} {P : A → Type 0} (a : A) → P a → Extent over (give a) 0 P
extent_give a h = record { run = λ s at l. record { from = le_refl at; inside = l; most = omega arith; front = λ t. refl; fits = h } }

module _ {over over' : ℕ} {A B : Type 0} {r : Reader A} {f : A → Reader B} {b d : ℕ} {P : A → Type 0} {Q : B → Type 0}
    (h : over ≤ d + over') (E : Extent over r b P) (F : (a : A) → P a → Extent over' (f a) d Q) where
  -- the second one's answer, where the first has read
  begun : (s : List ℕ) (at : ℕ) (a : A) (p : ℕ) → Taken r b P s at a p → (t u : List ℕ) → t ≡ take p s ++ u → (r >>= f) t at ≡ f a t p
  begun s at a p T t u e = ap (onward (λ a p. f a t p)) (ap (λ (x : List ℕ). r x at) e ∙ T.front u)

  behind : (s : List ℕ) (at : ℕ) (a : A) (p : ℕ) → Taken r b P s at a p → (o : Out B) → Looks (f a) d (d + over') Q s p o
      → Looks (r >>= f) (b + d) (b + d + over') Q s at o
  behind s at a p T (stop x q) S = record {
    least = S.least;
    end = λ e. omega (arith, T.most, S.end e);
    stays = λ n t. begun s at a p T (s ++ t) (drop p s ++ t) (split_all p s t) ∙ S.stays n t;
  }
  behind s at a p T (next c q) U = record {
    from = omega (arith, T.from, U.from);
    inside = U.inside;
    most = omega (arith, T.most, U.most);
    front = λ t.
        begun s at a p T (take q s ++ t) (drop p (take q s) ++ t)
        (ap (λ (x : List ℕ). x ++ t) (split p q s U.from) ∙ append_assoc (take p s) (drop p (take q s)) t)
        ∙ U.front t;
    fits = U.fits;
  }

  first : (s : List ℕ) (at : ℕ) (o : Out A) → Looks r b (b + over) P s at o
      → Looks (r >>= f) (b + d) (b + d + over') Q s at (onward (λ a p. f a s p) o)
  first s at (stop x p) S = record {
    least = S.least;
    end = λ e. omega (arith, S.end e);
    stays = λ n t. ap (onward (λ a p. f a (s ++ t) p)) (S.stays n t);
  }
  first s at (next a p) T = behind s at a p T (f a s p) ((F a T.fits).run s p T.inside)

  -- what the second one takes makes up for what the first looks at beyond its own bytes
  pub extent_then : Extent over' (r >>= f) (b + d) Q
  extent_then = record { run = λ s at l. first s at (r s at) (E.run s at l) }

pub extent_bind : {over : ℕ} {A B : Type 0} {r : Reader A} {f : A → Reader B} {b d : ℕ} {P : A → Type 0} {Q : B → Type 0}
    → Extent over r b P → ((a : A) → P a → Extent over (f a) d Q) → Extent over (r >>= f) (b + d) Q
extent_bind E F = extent_then (omega arith) E F

-- a greater bound, and less said of what is read
pub extent_more : {over : ℕ} {A : Type 0} {r : Reader A} {b : ℕ} {P Q : A → Type 0} (d : ℕ) → Extent over r b P → b ≤ d → ((a : A) → P a → Q a) → Extent over r d Q
extent_more {over} {A} {r} {b} {P} {Q} d E l f = record { run = λ s at h. go s at (r s at) (E.run s at h) }
  where
    go : (s : List ℕ) (at : ℕ) (o : Out A) → Looks r b (b + over) P s at o → Looks r d (d + over) Q s at o
    go s at (stop x p) S = record { least = S.least; end = λ e. omega (arith, S.end e); stays = S.stays }
    go s at (next a p) T = record { from = T.from; inside = T.inside; most = omega (arith, T.most); front = T.front; fits = f a T.fits }

pub extent_wider : {over : ℕ} {A : Type 0} {r : Reader A} {b : ℕ} {P : A → Type 0} (d : ℕ) → Extent over r b P → b ≤ d → Extent over r d P
extent_wider d E l = extent_more d E l (λ a h. h)

-- the last of a do block
pub extent_last : {over : ℕ} {A B : Type 0} {r : Reader A} (f : A → B) {b : ℕ} {P : A → Type 0} {Q : B → Type 0} → Extent over r b P → ((a : A) → P a → Q (f a))
    → Extent over (r >>= λ x. give (f x)) b Q
extent_last f {b} E g = extent_wider b (extent_bind E (λ a h. extent_give (f a) (g a h))) (omega arith)

pub extent_unless : {over : ℕ} {A : Type 0} (x : ℕ) (test : A → Bool) {r : Reader A} {b : ℕ} {P : A → Type 0} → 1 < x → Extent over r b P → Extent over (unless x test r) b P
unfolding unless
extent_unless {over} {A} x test {r} {b} {P} n E = record { run = λ s at l. go s at (r s at) (E.run s at l) }
  where
    go : (s : List ℕ) (at : ℕ) (o : Out A) → Looks r b (b + over) P s at o → Looks (unless x test r) b (b + over) P s at (tested x test at o)
    go s at (stop y p) S = record { least = S.least; end = S.end; stays = λ m t. ap (tested x test at) (S.stays m t) }
    go s at (next a p) T = by (test a) refl
      where
        by : (y : Bool) → test a ≡ y → Looks (unless x test r) b (b + over) P s at (cond y (next a p) (stop x at))
        by true e = record { from = T.from; inside = T.inside; most = T.most; front = λ t. ap (tested x test at) (T.front t) ∙ rw e; fits = T.fits }
        by false e = record {
          least = omega (arith, n);
          end = λ h. absurd (omega (arith, n));
          stays = λ m t. ap (tested x test at) (ap (λ (z : List ℕ). r z at) (split_all p s t) ∙ T.front (drop p s ++ t)) ∙ rw e;
        }

pub extent_turns : {over : ℕ} {A : Type 0} {f : A → Reader A} {b : ℕ} → ((a : A) → Extent over (f a) b Any) → (i : ℕ) (a : A) → Extent over (turns i f a) (i * b) Any
unfolding turns
extent_turns E zero a = extent_wider _ (extent_give a tt) (omega arith)
extent_turns {b = b} E (suc i) a = extent_wider _ (extent_bind (E a) (λ c _. extent_turns E i c)) (omega (arith, suc-mul i b))

-- i turns, where i is n at most
pub extent_turns_most : {over : ℕ} {A : Type 0} {f : A → Reader A} {b : ℕ} → ((a : A) → Extent over (f a) b Any) → (i n : ℕ) → i ≤ n → (a : A)
    → Extent over (turns i f a) (n * b) Any
extent_turns_most {b = b} E i n l a = extent_wider _ (extent_turns E i a) (mul-le-mul_right b l)

-- one more in a list, of which nothing but its length is said
pub extent_another : {over : ℕ} {A : Type 0} {r : Reader A} {b : ℕ} {P : A → Type 0} → Extent over r b P → (as' : List A)
    → Extent over (another r as') b (λ bs. length bs ≡ suc (length as'))
extent_another E as' = extent_last _ E (λ a _. length-append as' (a ∷ []) ∙ omega arith)

-- the same in a list of which nothing is said
pub extent_further : {over : ℕ} {A : Type 0} {r : Reader A} {b : ℕ} {P : A → Type 0} → Extent over r b P → (as' : List A) → Extent over (another r as') b Any
extent_further {b = b} E as' = extent_more b (extent_another E as') (le_refl b) (λ _ _. tt)

pub extent_times : {over : ℕ} {A : Type 0} {r : Reader A} {b : ℕ} {P : A → Type 0} → Extent over r b P → (i n : ℕ) → i ≤ n → Extent over (times i r) (n * b) Any
unfolding times
extent_times E i n l = extent_turns_most (λ as'. extent_further E as') i n l []

-- ---- a number

-- what n groups look at
abbrev Groups : (n least : ℕ) → List ℕ → Raw → Type 0
Groups n least s (got v k) = (k ≤ size v) × ((least ≤ v) × ((k ≤ length s) × ((t : List ℕ) → read_groups n least (take k s ++ t) ≡ got v k)))
Groups n least s short = length s < n
Groups n least s wrong = (t : List ℕ) → read_groups n least (s ++ t) ≡ wrong

-- one group more, behind which others follow
size-more : (low v : ℕ) → 1 ≤ v → 1 + size v ≤ size (low + v * 128)
size-more low v h =
    let high : 128 ≤ low + v * 128 = omega arith in
    let rest : v ≤ (low + v * 128) / 128 = omega arith in
    rw (encode_high (low + v * 128) high) (omega (arith, size_mono v ((low + v * 128) / 128) rest))

groups-more : (n least b : ℕ) (s : List ℕ) (r : Raw) → least ≤ 1 → ltb b 128 ≡ false → Groups n 1 s r
    → Groups (suc n) least (b ∷ s) (after (b - 128) 128 1 r)
unfolding after read_groups
groups-more n least b s (got v k) l e G =
    let one : 1 + k ≡ suc k = omega arith in (
      omega (arith, size-more (b - 128) v G.1.0, G.0),
      (
        omega (arith, G.1.0),
        (
          omega (arith, G.1.1.0),
          λ t. rw (one, e, G.1.1.1 t, one),
        ),
      ),
    )
groups-more n least b s short l e G = omega (arith, G)
groups-more n least b s wrong l e G = λ t. rw (e, G t)

groups_look : (n least : ℕ) (s : List ℕ) → least ≤ 1 → Groups n least s (read_groups n least s)
unfolding read_groups
groups_look zero least s l = λ t. refl
groups_look (suc n) least [] l = omega arith
groups_look (suc n) least (b ∷ s) l = go (ltb b 128) refl (groups_look n 1 s (le_refl 1))
  where
    last : (y : Bool) → ltb b 128 ≡ true → ltb b least ≡ y → Groups (suc n) least (b ∷ s) (cond y wrong (got b 1))
    last true e f = λ t. rw (e, f)
    last false e f = (encode-long b, (ltb-false b least f, (omega arith, λ t. rw (e, f))))

    go : (y : Bool) → ltb b 128 ≡ y → Groups n 1 s (read_groups n 1 s)
        → Groups (suc n) least (b ∷ s) (cond y (cond (ltb b least) wrong (got b 1)) (after (b - 128) 128 1 (read_groups n 1 s)))
    go true e G = last (ltb b least) e refl
    go false e G = groups-more n least b s (read_groups n 1 s) l e G

-- from a place on
number_look : (hi : ℕ) (s : List ℕ) (at : ℕ) → at ≤ length s → (r : Raw) → Groups groups 0 (drop at s) r
    → Looks (up_to hi) (size hi) (size hi + further) (λ v. v ≤ hi) s at ((finish at hi r))
unfolding up_to read_number finish
number_look hi s at l short G = record { least = lit≤ tt; end = λ _. omega (arith, simp length-drop at G, encode-long hi); stays = λ n t. absurd (n refl) }
number_look hi s at l wrong G = record {
  least = lit≤ tt;
  end = λ h. omega arith;
  stays = λ n t. ap (λ (z : Raw). (finish at hi z)) (ap (read_groups groups 0) (drop-append-le at s t l) ∙ G t);
}
number_look hi s at l (got v k) G = by (ltb hi v) refl
  where
    inside : at + k ≤ length s
    inside = let h : k ≤ length s - at = simp length-drop at G.1.1.0 in omega arith

    read : (t : List ℕ) → read_groups groups 0 (drop at (take (at + k) s ++ t)) ≡ got v k
    read t = ap (read_groups groups 0) (again k at s t l) ∙ G.1.1.1 t

    by : (y : Bool) → ltb hi v ≡ y
        → Looks (up_to hi) (size hi) (size hi + further) (λ v. v ≤ hi) s at ((cond y (stop 3 at) (next v (at + k))))
    by true h = record {
      least = lit≤ tt;
      end = λ z. omega arith;
      stays = λ n t.
          ap (λ (z : Raw). (finish at hi z))
          (ap (λ (z : List ℕ). read_groups groups 0 (drop at z)) (split_all (at + k) s t) ∙ read (drop (at + k) s ++ t))
          ∙ rw h;
    }
    by false h = record {
      from = omega arith;
      inside = inside;
      most = omega (arith, G.0, size_mono v hi (ltb-false hi v h));
      front = λ t. ap (λ (z : Raw). (finish at hi z)) (read t) ∙ rw h;
      fits = ltb-false hi v h;
    }

pub extent_up_to : (hi : ℕ) → Extent further (up_to hi) (size hi) (λ v. v ≤ hi)
unfolding up_to read_number
extent_up_to hi = record { run = λ s at l. number_look hi s at l (read_groups groups 0 (drop at s)) (groups_look groups 0 (drop at s) (lit≤ tt)) }

pub extent_within : (lo hi : ℕ) → Extent further (within lo hi) (size hi) (λ v. v ≤ hi)
unfolding within
extent_within lo hi = extent_unless 3 _ (lit≤ tt) (extent_up_to hi)

-- a number up to hi, where that is top at most
pub extent_most : (hi top : ℕ) → hi ≤ top → Extent further (up_to hi) (size top) (λ v. v ≤ hi)
extent_most hi top l = extent_wider _ (extent_up_to hi) (size_mono hi top l)

pub extent_below : (b top : ℕ) → b - 1 ≤ top → Extent further (below b) (size top) Any
unfolding below
extent_below b top l = extent_more _ (extent_most (b - 1) top l) (le_refl (size top)) (λ _ _. tt)

pub extent_under : (b top : ℕ) → b ≤ top → Extent further (under b) (size top) Any
unfolding under
extent_under b top l = extent_more _ (extent_unless 3 _ (lit≤ tt) (extent_most b top l)) (le_refl (size top)) (λ _ _. tt)

-- ---- bytes as they are

-- a reader of i bytes as they are, or 1 at their first where they end
pub extent_part : (r : Reader (List ℕ)) (i : ℕ)
    → ((s : List ℕ) (at : ℕ) → r s at ≡ cond (leb (at + i) (length s)) (next (take i (drop at s)) (at + i)) (stop 1 at)) → Extent 0 r i Any
extent_part r i e = record { run = λ s at l. rw (e s at) (by s at l (leb (at + i) (length s)) refl) }
  where
    back : (s : List ℕ) (at : ℕ) → at ≤ length s → at + i ≤ length s → (t : List ℕ) → r (take (at + i) s ++ t) at ≡ next (take i (drop at s)) (at + i)
    back s at l h t =
        let long : length (take (at + i) s ++ t) ≡ at + i + length t = length-append (take (at + i) s) t ∙ ap (λ (z : ℕ). z + length t) (length-take-le (at + i) s h) in
        let room : leb (at + i) (length (take (at + i) s ++ t)) ≡ true = le-leb (at + i) (length (take (at + i) s ++ t)) (omega arith) in
        let k : length (take i (drop at s)) ≡ i = length-take-le i (drop at s) (rw length-drop (omega arith)) in
        e (take (at + i) s ++ t) at ∙ rw (room, again i at s t l, take_at (take i (drop at s)) t i k)

    by : (s : List ℕ) (at : ℕ) → at ≤ length s → (y : Bool) → leb (at + i) (length s) ≡ y
        → Looks r i (i + 0) Any s at (cond y (next (take i (drop at s)) (at + i)) (stop 1 at))
    by s at l false y = record { least = lit≤ tt; end = λ _. omega (arith, leb-false (at + i) (length s) y); stays = λ n t. absurd (n refl) }
    by s at l true y =
        let h : at + i ≤ length s = leb-true (at + i) (length s) y in
        record { from = omega arith; inside = h; most = le_refl (at + i); front = λ t. back s at l h t; fits = tt }
