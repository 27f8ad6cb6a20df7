-- `columns::swap_rows` meets its contract. Assumes nothing.
use Prim.Native.Nat.{ℕ, ◌+◌, ◌*◌, ◌^◌, ◌≤◌, ◌<◌}
use native.Mathlib.Omega.{arith}
use native.Mathlib.Nat.{mul-le-mul_right}
use mathlib.Core.Path.{◌≡◌, refl, sym, ap, subst}
use Rattle.columns.specs.Swaps.{Swapped}
use Rattle.columns.proofs.Digits.{half_le, blocks, block_fits, block_next}
use Rattle.columns.proofs.Turns.{swapping_next, swapping_all}
use Rattle.columns.proofs.swap_rows.Goals as goal

pub swap_block-requires-clause-s_bound : goal.swap_block-requires-clause-s_bound
swap_block-requires-clause-s_bound c =
    let s = c.args.s in
    let start : c.loop-block.block * c.place.result ≡ c.loop-block.block * 2 ^ s = ap (λ (x : ℕ). c.loop-block.block * x) c.place.ensures in
    let fit = block_fits s c.args.last c.requires.s_le_last c.loop-block.block (subst (λ (x : ℕ). c.loop-block.block < x) c.place-block-end.ensures c.loop-block-test.true) in
    let half = half_le c.args.last c.requires.last_lt_digits in
    omega arith

pub loop-block-preserved : goal.loop-block-preserved
loop-block-preserved c =
    let s = c.args.s in
    let start : c.loop-block.block * c.place.result ≡ c.loop-block.block * 2 ^ s = ap (λ (x : ℕ). c.loop-block.block * x) c.place.ensures in
    let fit = block_fits s c.args.last c.requires.s_le_last c.loop-block.block (subst (λ (x : ℕ). c.loop-block.block < x) c.place-block-end.ensures c.loop-block-test.true) in
    let next = block_next s c.loop-block.block in
    swapping_next c.loop-block.invariant
    (subst (λ (x : ℕ). Swapped s (c.loop-block.block * 2 ^ s) x c.loop-block.part c.swap_block.new.part) (sym next)
    (subst (λ (x : ℕ). Swapped s x (x + 2 ^ s) c.loop-block.part c.swap_block.new.part) start c.swap_block.ensures))
    (omega arith) (omega arith)

pub returns : goal.returns
returns c =
    let past : 2 ^ c.args.last ≤ c.loop-block.block * 2 ^ c.args.s =
    subst (λ (x : ℕ). x ≤ c.loop-block.block * 2 ^ c.args.s) (blocks c.args.s c.args.last c.requires.s_le_last)
    (mul-le-mul_right (2 ^ c.args.s) (subst (λ (x : ℕ). x ≤ c.loop-block.block) c.place-block-end.ensures c.loop-block-test.false)) in
    swapping_all c.loop-block.invariant past refl
