-- The fields of a step are read alike for every kind.
-- Assumes nothing.
use Prim.Native.Nat.{ℕ, zero, suc, ◌≤◌}
use mathlib.Core.Path.{◌≡◌, refl}
use native.Mathlib.Omega.{arith}
use Rattle.number.specs.Reader.{up_to, below, under}
use Rattle.number.proofs.Ranges.{below-under}
use Rattle.storage_model.specs.Trace.{lwsync}
use Rattle.storage_model.specs.Limits.{most_kind}
use Rattle.storage_model.specs.Layout.{accept_write_fields, accept_barrier_fields, propagate_write_fields, propagate_barrier_fields, commit_fields, respond_fields, acknowledge_fields, fields}
use Rattle.trace_reader.specs.Held.{step_of}
use Rattle.trace_reader.specs.Fields.{first_count, second_count, has_value, value_field, second_field, any_fields}

class-under : up_to lwsync ≡ under (suc lwsync)
unfolding below
class-under = below-under (suc lwsync) (omega arith)

pub fields-alike : (n m w b kind : ℕ) → 1 ≤ n → 1 ≤ m → 1 ≤ kind → kind ≤ most_kind
    → fields n m w b kind ≡ any_fields kind (first_count kind n w b) (second_count kind n m w)
unfolding fields accept_write_fields accept_barrier_fields propagate_write_fields propagate_barrier_fields commit_fields respond_fields acknowledge_fields any_fields second_field value_field first_count second_count has_value step_of
fields-alike n m w b zero hn hm l h = absurd (omega arith)
fields-alike n m w b (suc zero) hn hm l h = rw (below-under n hn, below-under m hm)
fields-alike n m w b (suc (suc zero)) hn hm l h = rw (below-under n hn, class-under)
fields-alike n m w b (suc (suc (suc zero))) hn hm l h = rw (below-under n hn)
fields-alike n m w b (suc (suc (suc (suc zero)))) hn hm l h = rw (below-under n hn)
fields-alike n m w b (suc (suc (suc (suc (suc zero))))) hn hm l h = refl
fields-alike n m w b (suc (suc (suc (suc (suc (suc zero)))))) hn hm l h = rw (below-under n hn, below-under m hm)
fields-alike n m w b (suc (suc (suc (suc (suc (suc (suc zero))))))) hn hm l h = refl
fields-alike n m w b (suc (suc (suc (suc (suc (suc (suc (suc k)))))))) hn hm l h = absurd (omega arith)
