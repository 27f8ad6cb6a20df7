-- What was read as a case is the case's record, byte by byte.
-- Assumes nothing.
use Prim.Native.Nat.{ℕ, zero, suc, ◌≤◌, ◌<◌}
use native.Mathlib.Nat.{zero-add}
use native.Mathlib.Omega.{arith}
use mathlib.Core.Path.{◌≡◌, refl, sym, ap, ◌∙◌}
use mathlib.Core.Bool.{Bool, true, false, not, cond, ◌&&◌, true≢false}
use mathlib.Core.Logic.{◌↔◌}
use mathlib.Core.List.{List, [], ◌∷◌, ◌++◌}
use lib.Dec.{leb, lit≤}
use lib.ListN.{length, take, drop}
use lib.Seq.{take_at}
use Rattle.finite.specs.Tests.{count}
use Rattle.finite.specs.Lists.{each, every, All}
use Rattle.number.specs.Number.{encode, Bytes}
use Rattle.number.specs.Reader.{stop, next, give, ◌>>=◌, turns, another, up_to, below}
use Rattle.codec.proofs.Exact.{Took, Exact, As, Along, grown, exact_give, exact_bind, exact_last, exact_map, exact_fits, exact_unless, exact_up_to, exact_within, exact_below, exact_under, exact_list, exact_times}
use Rattle.model.specs.Limits.{least_edition, most_edition, second, most_threads, most_addresses, most_events, most_dependencies, most_value, most_name}
use Rattle.model.specs.Case.{Case, Dependency, most_kind, bare, most_class, printable}
use Rattle.model.specs.Record.{event, dependency, dependency_good, dependency_rank, least_after, rising_dependency, rising_dependencies, dependencies, member, store_to, unlisted, write_order, next_write_order, Head, head, Listing, listing, Rest, rest, case, read}
use Rattle.model.specs.Written.{event_bytes, dependency_bytes, dependencies_bytes, record_of}
use Rattle.model.specs.Fits.{EventFits, DependencyFits, DependenciesFit, WriteFits, WritesFit, RowsFit, Fits}
use Rattle.laws.proofs.Parts.{head_bytes, listing_bytes, rest_bytes, parted}
use Rattle.laws.proofs.ReadBack.{read_back}
use Rattle.laws.proofs.Exact.{Refused, exact_text, told}
use Rattle.laws.proofs.ExactOrder.{exact_order}

-- ---- an event

exact_event : (edition n m : ℕ) → 0 < n → 0 < m → Exact Refused (event edition n m) (As event_bytes (EventFits edition n m))
unfolding event
exact_event edition n m ln lm =
    exact_bind (exact_up_to told (most_kind edition)) (λ kind hk. exact_bind (exact_below told n ln) (λ thread ht. go kind hk thread ht (bare kind) refl))
  where
    never : {b : Bool} {G : Type 0} → b ≡ false → b ≡ true → G
    never p q = absurd (true≢false (sym q ∙ p))

    go : (kind : ℕ) → kind ≤ most_kind edition → (thread : ℕ) → thread < n → (x : Bool) → bare kind ≡ x
        → Exact Refused (cond (bare kind) (give (record { kind = kind; thread = thread; address = 0; value = 0 }))
        (below m >>= λ a. up_to most_value >>= λ v. give (record { kind = kind; thread = thread; address = a; value = v })))
        (λ e bs. As event_bytes (EventFits edition n m) e (encode kind ++ (encode thread ++ bs)))
    go kind hk thread ht true p =
        rw p (exact_give _ _ (record {
          same = unfold event_bytes in rw p;
          fits = record {
            kind = hk;
            thread = ht;
            address = λ h. never h p;
            value = λ h. never h p;
            no_address = λ _. refl;
            no_value = λ _. refl;
          };
        }))
    go kind hk thread ht false p =
        rw p (exact_bind (exact_below told m lm) (λ a ha. exact_last _ _ (exact_up_to told most_value) (λ v hv. record {
          same = unfold event_bytes in rw p;
          fits = record {
            kind = hk;
            thread = ht;
            address = λ _. ha;
            value = λ _. hv;
            no_address = λ h. never p h;
            no_value = λ h. never p h;
          };
        })))

-- ---- dependencies

exact_dependency : (k : ℕ) → Exact Refused (dependency k) (As dependency_bytes (DependencyFits k))
unfolding dependency dependency_bytes
exact_dependency k =
    exact_bind (exact_up_to told most_class) (λ class hc.
    exact_bind (exact_under told k) (λ from hf.
    exact_last _ _ (exact_under told k) (λ to ht. record { same = refl; fits = record { class = hc; from = hf; to = ht } })))

-- one that may come next
abbrev Linked : (k : ℕ) (good : Dependency → Bool) → List Dependency → Dependency → Type 0
Linked k good before d = DependencyFits k d × ((leb (least_after k before) (dependency_rank k d) && good d) ≡ true)

along_links : (k : ℕ) (good : Dependency → Bool) (before ds : List Dependency) → Along grown (Linked k good) before ds
    → DependenciesFit k good before ds
along_links k good before [] h = tt
along_links k good before (d ∷ ds) h = (h.0.0, h.0.1, along_links k good (before ++ (d ∷ [])) ds h.1)

exact_links : (k : ℕ) (good : Dependency → Bool) (i : ℕ)
    → Exact Refused (rising_dependencies k good i) (As (each dependency_bytes) (λ ds. (length ds ≡ i) × DependenciesFit k good [] ds))
unfolding rising_dependency rising_dependencies
exact_links k good i =
    exact_fits
    (exact_list (λ before. rising_dependency k (least_after k before) good) dependency_bytes (Linked k good)
    (λ before. exact_unless told 4 (λ d. leb (least_after k before) (dependency_rank k d) && good d) (lit≤ tt) (lit≤ tt) (exact_dependency k)) i)
    (λ ds h. (h.0, along_links k good [] ds h.1))

pub record LinksFit (edition k : ℕ) (good : Dependency → Bool) (ds : List Dependency) : Type 0 where
  pub none : second edition ≡ false → ds ≡ []
  pub most : length ds ≤ most_dependencies
  pub all : DependenciesFit k good [] ds

exact_dependencies : (edition k : ℕ) (good : Dependency → Bool)
    → Exact Refused (dependencies edition k good) (As (dependencies_bytes edition) (LinksFit edition k good))
unfolding dependencies
exact_dependencies edition k good = go (second edition) refl
  where
    go : (x : Bool) → second edition ≡ x
        → Exact Refused (cond x (up_to most_dependencies >>= rising_dependencies k good) (give []))
        (As (dependencies_bytes edition) (LinksFit edition k good))
    go true p =
        exact_bind (exact_up_to told most_dependencies) (λ i hi. exact_map (exact_links k good i) (λ ds bs h. record {
          same = unfold dependencies_bytes in rw (p, h.same, h.fits.0);
          fits = record { none = λ q. absurd (true≢false (sym p ∙ q)); most = rw h.fits.0 hi; all = h.fits.1 };
        }))
    go false p = exact_give _ [] (record { same = unfold dependencies_bytes in rw p; fits = record { none = λ _. refl; most = lit≤ tt; all = tt } })

-- ---- write orders

module _ (k : ℕ) (mine : ℕ → Bool) where
  along_write : (before w : List ℕ) → Along grown (λ before e. (e < k) × ((mine e && not (member e before)) ≡ true)) before w
      → WriteFits k mine before w
  along_write before [] h = tt
  along_write before (e ∷ w) h = (h.0.0, h.0.1, along_write (before ++ (e ∷ [])) w h.1)

  exact_listed : 0 < k → (i : ℕ)
      → Exact Refused (turns i (λ before. another (unlisted k mine (λ e. member e before)) before) []) (As (each encode) (λ w. (length w ≡ i) × WriteFits k mine [] w))
  unfolding unlisted
  exact_listed l i =
      exact_fits
      (exact_list (λ before. unlisted k mine (λ e. member e before)) encode _ (λ before. exact_unless told 4 (λ e. mine e && not (member e before)) (lit≤ tt) (lit≤ tt) (exact_below told k l)) i)
      (λ w h. (h.0, along_write [] w h.1))

-- without events no store is listed
exact_write : (k : ℕ) (mine : ℕ → Bool) → Exact Refused (write_order k mine) (As (each encode) (λ w. (length w ≡ count k mine) × WriteFits k mine [] w))
unfolding write_order
exact_write zero mine = unfold turns each count in exact_give _ [] (record { same = refl; fits = (refl, tt) })
exact_write (suc k) mine = exact_listed (suc k) mine (omega arith) (count (suc k) mine)

module _ (k : ℕ) (mine : ℕ → ℕ → Bool) where
  along_writes : (before ws : List (List ℕ))
      → Along grown (λ before w. (length w ≡ count k (mine (length before))) × WriteFits k (mine (length before)) [] w) before ws
      → WritesFit k mine before ws
  along_writes before [] h = tt
  along_writes before (w ∷ ws) h = (h.0.0, h.0.1, along_writes (before ++ (w ∷ [])) ws h.1)

  exact_writes : (m : ℕ) → Exact Refused (turns m (next_write_order k mine) []) (As (each (each encode)) (λ ws. (length ws ≡ m) × WritesFit k mine [] ws))
  exact_writes m =
      exact_fits (exact_list (λ before. write_order k (mine (length before))) (each encode) _ (λ before. exact_write k (mine (length before))) m)
      (λ ws h. (h.0, along_writes [] ws h.1))

-- ---- the parts of a record

pub record HeadFits (h : Head) : Type 0 where
  pub edition_least : least_edition ≤ h.edition
  pub edition_most : h.edition ≤ most_edition
  pub n_least : 1 ≤ h.n
  pub n_most : h.n ≤ most_threads
  pub m_least : 1 ≤ h.m
  pub m_most : h.m ≤ most_addresses

pub record ListingFits (edition n m : ℕ) (l : Listing) : Type 0 where
  pub as_many_initials : length l.initials ≡ m
  pub initials : All (λ v. v ≤ most_value) l.initials
  pub k_most : l.k ≤ most_events
  pub as_many_events : length l.events ≡ l.k
  pub events : All (EventFits edition n m) l.events

pub record RestFits (n m k : ℕ) (mine : ℕ → ℕ → Bool) (t : Rest) : Type 0 where
  pub as_many_writes : length t.writes ≡ m
  pub writes : WritesFit k mine [] t.writes
  pub as_many_orders : length t.orders ≡ n
  pub orders : All (RowsFit k) t.orders
  pub name : length t.name ≤ most_name
  pub name_printable : every printable t.name ≡ true

pub exact_head : Exact Refused head (As head_bytes HeadFits)
unfolding head
exact_head =
    exact_bind (exact_within told least_edition most_edition) (λ e he.
    exact_bind (exact_within told 1 most_threads) (λ n hn.
    exact_last _ _ (exact_within told 1 most_addresses) (λ m hm. record {
      same = refl;
      fits = record { edition_least = he.0; edition_most = he.1; n_least = hn.0; n_most = hn.1; m_least = hm.0; m_most = hm.1 };
    })))

pub exact_listing : (edition n m : ℕ) → 0 < n → 0 < m → Exact Refused (listing edition n m) (As listing_bytes (ListingFits edition n m))
unfolding listing
exact_listing edition n m ln lm =
    exact_bind (exact_times (exact_up_to told most_value) m) (λ initials hi.
    exact_bind (exact_up_to told most_events) (λ k hk.
    exact_last _ _ (exact_times (exact_event edition n m ln lm) k) (λ es he. record {
      same = refl;
      fits = record { as_many_initials = hi.0; initials = hi.1; k_most = hk; as_many_events = he.0; events = he.1 };
    })))

pub exact_rest : (n m k : ℕ) (mine : ℕ → ℕ → Bool) → Exact Refused (rest n m k mine) (As (rest_bytes k) (RestFits n m k mine))
unfolding rest
exact_rest n m k mine =
    exact_bind (exact_writes k mine m) (λ ws hw.
    exact_bind (exact_times (exact_order k) n) (λ os ho.
    exact_bind (exact_up_to told most_name) (λ i hi.
    exact_last _ _ (exact_text i) (λ name h. record {
      same = rw h.0;
      fits = record { as_many_writes = hw.0; writes = hw.1; as_many_orders = ho.0; orders = ho.1; name = rw h.0 hi; name_printable = h.1 };
    }))))

pub exact_case : Exact Refused case (As record_of Fits)
unfolding case
exact_case =
    exact_bind exact_head (λ h H.
    exact_bind (exact_listing h.edition h.n h.m H.n_least H.m_least) (λ l L.
    exact_bind (exact_dependencies h.edition l.k (dependency_good l.events)) (λ ds D.
    exact_last _ _ (exact_rest h.n h.m l.k (store_to l.events)) (λ t R. record {
      same = sym (parted _);
      fits = record {
        edition_least = H.edition_least;
        edition_most = H.edition_most;
        n_least = H.n_least;
        n_most = H.n_most;
        m_least = H.m_least;
        m_most = H.m_most;
        k_most = L.k_most;
        m = sym L.as_many_initials;
        initials = L.initials;
        k = sym L.as_many_events;
        events = L.events;
        no_dependencies = D.none;
        dependencies_most = D.most;
        dependencies = D.all;
        m' = sym R.as_many_writes;
        writes = R.writes;
        n = sym R.as_many_orders;
        orders = R.orders;
        name = R.name;
        name_printable = R.name_printable;
      };
    }))))

-- ---- what reading says

-- the record of a readable case is the bytes that the layout takes
pub record Readable (s : List ℕ) (c : Case) (i : ℕ) : Type 0 where
  pub fits : Fits c
  pub whole : s ≡ record_of c ++ drop i s
  pub length : i ≡ length (record_of c)

pub readable : (s : List ℕ) → Bytes s → (c : Case) (i : ℕ) → read s ≡ next c i → Readable s c i
unfolding read
readable s h c i e =
    let T : Took (As record_of Fits) s 0 c i = rw e at (exact_case.run s 0 h (omega arith)) in
    record {
      fits = T.holds.fits;
      whole = T.whole ∙ ap (λ (l : List ℕ). l ++ drop i s) T.holds.same;
      length = T.place ∙ zero-add _ ∙ ap length T.holds.same;
    }

pub readable_back : (s : List ℕ) (c : Case) (i : ℕ) → Readable s c i → read s ≡ next c i
readable_back s c i R = ap read R.whole ∙ read_back c R.fits (drop i s) ∙ ap (next c) (sym R.length)

-- reading succeeds at the readable records, and nowhere else
pub readable-iff : (s : List ℕ) → Bytes s → (c : Case) (i : ℕ) → (read s ≡ next c i) ↔ Readable s c i
readable-iff s h c i = (readable s h c i, readable_back s c i)

-- a refusal is one of 1 to 4, at a place within the bytes, where under 2 a number has a wrong form; or 23 at a byte that is not printable
pub refused : (s : List ℕ) → Bytes s → (x p : ℕ) → read s ≡ stop x p → Refused s x p
unfolding read
refused s h x p e = rw e at (exact_case.run s 0 h (omega arith))

-- reading does not depend on what lies behind
pub read_front : (s : List ℕ) → Bytes s → (c : Case) (i : ℕ) → read s ≡ next c i → (t : List ℕ) → read (take i s ++ t) ≡ next c i
read_front s h c i e t =
    let R : Readable s c i = readable s h c i e in
    let front : take i s ≡ record_of c = ap (take i) R.whole ∙ take_at (record_of c) (drop i s) i (sym R.length) in
    ap (λ (l : List ℕ). read (l ++ t)) front ∙ read_back c R.fits t ∙ ap (next c) (sym R.length)

-- cases with one record are one case
pub record_injective : (c d : Case) → Fits c → Fits d → record_of c ≡ record_of d → c ≡ d
record_injective c d F G e =
    let p = read_back c F [] in
    let q = read_back d G [] in
    let r : read (record_of c ++ []) ≡ read (record_of d ++ []) = ap (λ (l : List ℕ). read (l ++ [])) e in
    cc
