-- How many bytes are written at most, field by field: the laws of every list of bytes.
-- Assumes nothing.
use Prim.Native.Nat.{ℕ, zero, suc, ◌+◌, ◌*◌, ◌/◌, ◌%◌, ◌≤◌}
use native.Mathlib.Nat.{suc-mul, le_refl}
use native.Mathlib.Omega.{arith}
use mathlib.Core.Path.{◌≡◌, refl}
use mathlib.Core.Bool.{Bool, true, false, cond}
use mathlib.Core.List.{List, [], ◌∷◌, ◌++◌}
use lib.Dec.{ltb}
use lib.ListN.{length, length-append}
use borrow.Author.Tests.{ltb-true, ltb-false}
use Rattle.finite.specs.Lists.{each, All}
use Rattle.finite.proofs.All.{all_append}
use Rattle.number.specs.Number.{encode_by, encode, size, Bytes}
use Rattle.number.proofs.Sizes.{size_mono}

bytes_by : (g v : ℕ) → v ≤ g → Bytes (encode_by g v)
unfolding encode_by
bytes_by zero v h = (omega arith, tt)
bytes_by (suc g) v h = go (ltb v 128) refl (bytes_by g (v / 128))
  where
    go : (x : Bool) → ltb v 128 ≡ x → (v / 128 ≤ g → Bytes (encode_by g (v / 128))) → Bytes (cond x (v ∷ []) ((128 + v % 128) ∷ encode_by g (v / 128)))
    go true p ih = (omega (arith, ltb-true v 128 p), tt)
    go false p ih = (omega arith, ih (omega (arith, ltb-false v 128 p)))

pub encode-bytes : (v : ℕ) → Bytes (encode v)
unfolding encode
encode-bytes v = bytes_by v v (le_refl v)

-- bytes, at most n of them
pub record Few (bs : List ℕ) (n : ℕ) : Type 0 where
  pub most : length bs ≤ n
  pub bytes : Bytes bs

-- a field and those behind it
infixr 20 ◌then◌
pub ◌then◌ : {as' bs : List ℕ} {x y : ℕ} → Few as' x → Few bs y → Few (as' ++ bs) (x + y)
◌then◌ {as'} {bs} p q = record { most = rw length-append (omega (arith, p.most, q.most)); bytes = all_append _ as' bs p.bytes q.bytes }

-- a number, by the greatest that it may be
pub few_up_to : (v w : ℕ) → v ≤ w → Few (encode v) (size w)
few_up_to v w h = record { most = size_mono v w h; bytes = encode-bytes v }

pub few_wider : {bs : List ℕ} {x : ℕ} (y : ℕ) → Few bs x → x ≤ y → Few bs y
few_wider y p l = record { most = omega (arith, p.most); bytes = p.bytes }

-- n of a kind at most
pub few-each : {A : Type 0} (enc : A → List ℕ) (b : ℕ) (xs : List A) → All (λ x. Few (enc x) b) xs → (n : ℕ) → length xs ≤ n → Few (each enc xs) (n * b)
unfolding each
few-each enc b [] h n l = record { most = omega arith; bytes = tt }
few-each enc b (x ∷ xs) h zero l = absurd (omega arith)
few-each enc b (x ∷ xs) h (suc n) l = few_wider _ (h.0 then few-each enc b xs h.1 n (omega arith)) (omega (arith, suc-mul n b))
