-- A loop that stores f at each place of a list, from the front: the one law of all loops that fill an array.
-- Assumes nothing.
use Prim.Native.Nat.{ℕ, zero, suc, ◌+◌, ◌≤◌, ◌<◌}
use mathlib.Core.Path.{◌≡◌, refl, sym, ap, ap₂, ◌∙◌}
use mathlib.Core.List.{List, [], ◌∷◌, ◌++◌}
use native.Mathlib.Nat.{le_antisymm, zero-add}
use native.Mathlib.Numerals.{add-one}
use native.Mathlib.Omega.{arith}
use lib.ListN.{length, get_or, set, take, drop, replicate, length-set, length-replicate, length-drop}
use Rattle.std.proofs.Common.{get_or-drop}
use Rattle.std.proofs.lemmas.List.{take_more}
use lib.Seq.{drop-cons, set_at, append_snoc}
use Rattle.finite.specs.Lists.{table}
use Rattle.finite.proofs.Lists.{table-length, table_more, table_same}
use Rattle.case.specs.Held.{pad}
use Rattle.case.proofs.Pad.{padded}

-- of k places that f fills, i are filled
pub record Filling (f : ℕ → ℕ) (k : ℕ) (out₀ out : List ℕ) (i : ℕ) : Type 0 where
  pub some : i ≤ k
  pub room : k ≤ length out₀
  pub kept : length out ≡ length out₀
  pub is : out ≡ table 0 i f ++ drop i out₀

module _ (f : ℕ → ℕ) (k : ℕ) (out₀ : List ℕ) where
  pub begun : k ≤ length out₀ → Filling f k out₀ out₀ 0
  unfolding table
  begun h = record { some = omega arith; room = h; kept = refl; is = refl }

  module _ (out : List ℕ) (i : ℕ) (t : Filling f k out₀ out i) where
    pub one_more : (v : ℕ) → i < k → v ≡ f i → Filling f k out₀ (set out i v) (i + 1)
    one_more v l e =
        let h : i < length out₀ = omega arith in
        record {
          some = omega arith;
          room = t.room;
          kept = length-set out i v ∙ t.kept;
          is =
              ap (λ (xs : List ℕ). set xs i v) (t.is ∙ ap (λ (xs : List ℕ). table 0 i f ++ xs) (drop-cons out₀ i 0 h))
              ∙ set_at (table 0 i f) (get_or out₀ i 0) (drop (suc i) out₀) v i (table-length 0 i f)
              ∙ rw (table_more, add-one, append_snoc, e);
        }

    pub all_filled : k ≤ i → out ≡ table 0 k f ++ drop k out₀
    all_filled l = let e : i ≡ k = le_antisymm t.some l in rw (← e) t.is

module _ (n k : ℕ) (f : ℕ → ℕ) where
  pub begun-zeros : k ≤ n → Filling f k (replicate n 0) (replicate n 0) 0
  begun-zeros h = begun f k (replicate n 0) (rw length-replicate h)

  pub all_padded : (out : List ℕ) (i : ℕ) → Filling f k (replicate n 0) out i → k ≤ i → out ≡ pad n (table 0 k f)
  all_padded out i t l = all_filled f k (replicate n 0) out i t l ∙ padded n k _ (table-length 0 k f)

-- the part of xs from a place on, and as a table
pub part-table : (xs : List ℕ) (from n : ℕ) → from + n ≤ length xs → take n (drop from xs) ≡ table 0 n (λ i. get_or xs (from + i) 0)
unfolding table
part-table xs from zero h = refl
part-table xs from (suc n) h =
    let l : n < length (drop from xs) = simp length-drop (omega arith) in
    ap (λ (j : ℕ). take j (drop from xs)) (sym (add-one n)) ∙ take_more (drop from xs) n 0 l
    ∙ ap₂ (λ (x : List ℕ) (y : ℕ). x ++ (y ∷ [])) (part-table xs from n (omega arith)) (get_or-drop from xs n 0)
    ∙ sym (table_more n (λ i. get_or xs (from + i) 0)) ∙ ap (λ (j : ℕ). table 0 j (λ i. get_or xs (from + i) 0)) (add-one n)

-- the first n of xs, copied over zeros
pub front_padded : (xs : List ℕ) (n most : ℕ) → n ≤ length xs → n ≤ most → take n xs ++ drop n (replicate most 0) ≡ pad most (table 0 n (λ i. get_or xs i 0))
front_padded xs n most h l =
    ap (λ (v : List ℕ). v ++ drop n (replicate most 0)) (part-table xs 0 n (omega arith) ∙ table_same 0 n _ _ (λ y a b. ap (λ (j : ℕ). get_or xs j 0) (zero-add y)))
    ∙ padded most n _ (table-length 0 n _)
