-- 02 (xi) adds 23 behind a record's other refusals and changes nothing else: what was read or handed before is answered as before,
-- but for a name with a byte that is not printable. A case whose name alone is at fault is refused with 23, read or handed.
-- Each definition that it changed stands here in its text before that, with `any` before its name; the others are cited.
-- Assumes nothing.
use Prim.Native.Nat.{ℕ, ◌+◌, ◌-◌, ◌≤◌}
use native.Mathlib.Nat.{zero-add}
use native.Mathlib.Omega.{arith}
use mathlib.Core.Path.{◌≡◌, refl, sym, ap, ◌∙◌, subst}
use mathlib.Core.Bool.{Bool, true, false, cond}
use mathlib.Core.List.{List, [], ◌++◌}
use lib.Dec.{leb, lit<}
use lib.ListN.{length, take, drop, length-drop}
use lib.Seq.{length-take-le}
use borrow.Author.Tests.{leb-true, le-leb}
use Rattle.finite.specs.Lists.{every}
use Rattle.number.specs.Reader.{Out, stop, next, Reader, give, ◌>>=◌, onward, turns, times, up_to}
use Rattle.codec.proofs.ReadsAs.{ReadsAs, reads_bind, reads_last, reads_up_to}
use Rattle.model.specs.Limits.{between, least_edition, most_edition, most_threads, most_addresses, most_events, most_dependencies, most_value, most_name}
use Rattle.model.specs.Case.{Case, printable}
use Rattle.model.specs.Rules.{or_else}
use Rattle.model.specs.Record.{dependency_good, dependencies, store_to, next_write_order, order, bytes, printable_front, printed, text, head, listing, Rest, rest, case, read}
use Rattle.model.specs.Written.{record_of}
use Rattle.model.specs.Fault.{event_good, first_fault, dependency_fault, writes_fault, name_fault, fault}
use Rattle.model.specs.Answers.{handed}
use Rattle.model.specs.Fits.{Fits}
use Rattle.model.proofs.Faultless.{faultless, else_first, first-first}
use Rattle.laws.proofs.Names.{reads_bytes}
use Rattle.laws.proofs.Parts.{rest_bytes, rest_of, parted}
use Rattle.laws.proofs.ReadBack.{reads_writes, reads_orders, reads_head, reads_listing, reads_links}

-- ---- what was: reading

-- 01, field 5: "the name's length, then its bytes, any bytes"
abbrev pub any_rest : (n m k : ℕ) (mine : ℕ → ℕ → Bool) → Reader Rest
any_rest n m k mine = do
  writes ← turns m (next_write_order k mine) []
  orders ← times n (order k)
  i ← up_to most_name
  name ← bytes i
  give (record { writes = writes; orders = orders; name = name })

abbrev pub any_case : Reader Case
any_case = do
  h ← head
  l ← listing h.edition h.n h.m
  ds ← dependencies h.edition l.k (dependency_good l.events)
  t ← any_rest h.n h.m l.k (store_to l.events)
  give (record {
    edition = h.edition;
    n = h.n;
    m = h.m;
    k = l.k;
    initials = l.initials;
    events = l.events;
    dependencies = ds;
    writes = t.writes;
    orders = t.orders;
    name = t.name;
  })

abbrev pub any_read : List ℕ → Out Case
any_read s = any_case s 0

-- ---- what was: the refusal of a case that is handed without bytes

abbrev pub any_fault : Case → ℕ
any_fault c =
    or_else (between least_edition most_edition c.edition) 3
    (or_else (between 1 most_threads c.n) 3
    (or_else (between 1 most_addresses c.m) 3
    (or_else (every (λ v. leb v most_value) c.initials) 3
    (or_else (leb c.k most_events) 3
    (or_else (every (event_good c.edition c.n c.m) c.events) 3
    (or_else (leb (length c.dependencies) most_dependencies) 3
    (first_fault (dependency_fault c.k (dependency_good c.events) 0 c.dependencies)
    (first_fault (writes_fault c.k (store_to c.events) 0 c.writes)
    (or_else (leb (length c.name) most_name) 3 0)))))))))

-- ---- reading

-- 23 where the case that was read has such a name: the record ends with it
abbrev pub unless_unprintable : Out Case → Out Case
unless_unprintable (stop x p) = stop x p
unless_unprintable (next c p) = cond (every printable c.name) (next c p) (stop 23 (p - length c.name + printable_front c.name))

-- what follows a part of the record counts only where the part was read
behind : {A : Type 0} (f g : A → ℕ → Out Case) (o : Out A) → ((a : A) (p : ℕ) → f a p ≡ unless_unprintable (g a p))
    → onward f o ≡ unless_unprintable (onward g o)
behind f g (stop x p) h = refl
behind f g (next a p) h = h a p

-- the same of what the rest is made of
within : {A B : Type 0} (f : B → ℕ → Out Case) (g h : A → ℕ → Out B) (o : Out A)
    → ((a : A) (p : ℕ) → onward f (g a p) ≡ unless_unprintable (onward f (h a p))) → onward f (onward g o) ≡ unless_unprintable (onward f (onward h o))
within f g h (stop x p) e = refl
within f g h (next a p) e = e a p

-- the name is the last part
module _ (s : List ℕ) (f : Rest → Case) (g : List ℕ → Rest) (same : (w : List ℕ) → (f (g w)).name ≡ w) where
  abbrev made : Out (List ℕ) → Out Case
  made o = onward (λ t q. next (f t) q) (onward (λ w q. next (g w) q) o)

  named : (i p : ℕ) → made (text i s p) ≡ unless_unprintable (made (bytes i s p))
  unfolding text bytes
  named i p = go (leb (p + i) (length s)) refl
    where
      w : List ℕ
      w = take i (drop p s)

      by : (t : Bool) → length w ≡ i → made (cond t (next w (p + i)) (stop 23 (p + printable_front w)))
          ≡ cond t (next (f (g w)) (p + i)) (stop 23 (p + i - length w + printable_front w))
      by true size = refl
      by false size = let z : p + i - length w ≡ p = omega arith in rw z

      go : (y : Bool) → leb (p + i) (length s) ≡ y
          → made (printed p (cond y (next w (p + i)) (stop 1 p))) ≡ unless_unprintable (made (cond y (next w (p + i)) (stop 1 p)))
      go false e = refl
      go true e =
          let there : p + i ≤ length s = leb-true (p + i) (length s) e in
          let size : length w ≡ i = length-take-le i (drop p s) (rw length-drop (omega arith)) in
          subst
          (λ (n : List ℕ). made (printed p (next w (p + i))) ≡ cond (every printable n) (next (f (g w)) (p + i)) (stop 23 (p + i - length n + printable_front n)))
          (sym (same w)) (by (every printable w) size)

-- as before, and then 23 at the first bad byte of the name
pub reads_but_names : (s : List ℕ) (at : ℕ) → case s at ≡ unless_unprintable (any_case s at)
unfolding case rest
reads_but_names s at =
    behind _ _ (head s at) (λ h p.
    behind _ _ (listing h.edition h.n h.m s p) (λ l p.
    behind _ _ (dependencies h.edition l.k (dependency_good l.events) s p) (λ ds p.
    within _ _ _ (turns h.m (next_write_order l.k (store_to l.events)) [] s p) (λ ws p.
    within _ _ _ (times h.n (order l.k) s p) (λ os p.
    within _ _ _ (up_to most_name s p) (λ i p.
    named s _ _ (λ w. refl) i p))))))

pub read_but_names : (s : List ℕ) → read s ≡ unless_unprintable (any_read s)
unfolding read
read_but_names s = reads_but_names s 0

-- ---- a case handed without bytes

-- as before, and then 23
pub faults_but_names : (c : Case) → fault c ≡ first_fault (any_fault c) (or_else (every printable c.name) 23 0)
unfolding fault name_fault
faults_but_names c = simp (← else_first, ← first-first)

-- ---- one whose name alone is at fault

-- the case without its name
abbrev pub unnamed : Case → Case
unnamed c = record {
  edition = c.edition;
  n = c.n;
  m = c.m;
  k = c.k;
  initials = c.initials;
  events = c.events;
  dependencies = c.dependencies;
  writes = c.writes;
  orders = c.orders;
  name = [];
}

-- the name is asked for last
faults_by_name : (c : Case) → fault c ≡ first_fault (fault (unnamed c)) (name_fault c.name)
unfolding fault name_fault every
faults_by_name c = simp (← else_first, ← first-first)

-- all but the name fits, which is short enough
module _ (c : Case) (F : Fits (unnamed c)) (few : length c.name ≤ most_name) where
  reads_any_rest : ReadsAs (any_rest c.n c.m c.k (store_to c.events)) (rest_bytes c.k (rest_of c)) (rest_of c)
  reads_any_rest =
      reads_bind _ (reads_writes (unnamed c) F)
      (reads_bind _ (reads_orders (unnamed c) F)
      (reads_bind _ (reads_up_to most_name (length c.name) few (lit< tt))
      (reads_last _ (reads_bytes c.name))))

  reads_any_case : ReadsAs any_case (record_of c) c
  reads_any_case =
      rw (parted c) (reads_bind _ (reads_head (unnamed c) F) (reads_bind _ (reads_listing (unnamed c) F) (reads_bind _ (reads_links (unnamed c) F)
      (reads_last _ reads_any_rest))))

  -- 02 (xi): "Reader, writer and any other call handed a case alike": 23 with place 0, and 23 at the first bad byte
  module _ (bad : every printable c.name ≡ false) where
    pub handed_unprintable : handed c ≡ stop 23 0
    unfolding handed name_fault
    handed_unprintable = rw (faults_by_name c, faultless (unnamed c) F, le-leb (length c.name) most_name few, bad)

    pub read_unprintable : (t : List ℕ) → read (record_of c ++ t) ≡ stop 23 (length (record_of c) - length c.name + printable_front c.name)
    read_unprintable t =
        read_but_names (record_of c ++ t)
        ∙ ap unless_unprintable (reads_any_case.run (record_of c ++ t) 0 t (omega arith) refl)
        ∙ rw (bad, zero-add (length (record_of c)))
