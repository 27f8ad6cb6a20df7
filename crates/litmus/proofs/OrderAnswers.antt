-- What rule 11's tests answer about orders alone.
-- Assumes nothing.
use Prim.Native.Nat.{ℕ, ◌≤◌}
use mathlib.Core.Path.{◌≡◌, sym, ap, ap₂, ◌∙◌}
use mathlib.Core.Bool.{Bool, true, false, cond, true≢false}
use mathlib.Core.List.{List}
use lib.Dec.{ltb}
use borrow.Author.Tests.{ltb-false}
use Rattle.finite.proofs.Tests.{is_false, or_l, or_r}
use Rattle.model.specs.Limits.{most_threads, most_events}
use Rattle.model.specs.Rules.{or_else, rule11}
use Rattle.case.specs.Held.{case_of}
use Rattle.rows.specs.Sets.{order_in}
use Rattle.rows.specs.May.{may11}
use Rattle.rules.proofs.Same.{same11}
use Rattle.litmus.specs.Orders.{orders_alone, too_many, rule11_answer}

-- x: what `too_many` said
module _ (n k : ℕ) {x : Bool} (e : x ≡ too_many n k) where
  pub few-threads : x ≡ false → n ≤ most_threads
  few-threads h = ltb-false most_threads n (is_false (λ t. true≢false (sym (or_l (ltb most_threads n) (ltb most_events k) t) ∙ sym e ∙ h)))

  pub few-events : x ≡ false → k ≤ most_events
  few-events h = ltb-false most_events k (is_false (λ t. true≢false (sym (or_r (ltb most_threads n) (ltb most_events k) t) ∙ sym e ∙ h)))

  module _ (rows : List ℕ) where
    pub many_is : x ≡ true → 3 ≡ rule11_answer n k rows
    unfolding rule11_answer
    many_is h = ap (λ b. cond b 3 (or_else (rule11 (case_of (orders_alone n k rows))) 11 0)) (sym (sym e ∙ h))

    -- r: the number of what a test said, t
    pub few_is : {r : ℕ} {t : Bool} → x ≡ false → r ≡ or_else t 11 0 → t ≡ may11 n k (order_in rows) (order_in rows) → r ≡ rule11_answer n k rows
    unfolding rule11_answer
    few_is h i j =
        i
        ∙ ap₂ (λ b s. cond b 3 (or_else s 11 0)) (sym (sym e ∙ h)) (j ∙ same11 (orders_alone n k rows))
