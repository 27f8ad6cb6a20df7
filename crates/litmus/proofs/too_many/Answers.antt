-- `litmus::too_many` meets its contract. Assumes nothing.
use mathlib.Core.Path.{sym, ap, ◌∙◌}
use mathlib.Core.Bool.{◌||◌}
use lib.Dec.{ltb}
use Rattle.finite.proofs.Tests.{or_l}
use borrow.Author.Tests.{lt-ltb, le-ltb}
use Rattle.model.specs.Limits.{most_threads, most_events}
use Rattle.litmus.proofs.too_many.Goals as goal

pub returns-then-threads-gt-MOST_THREADS : goal.returns-then-threads-gt-MOST_THREADS
returns-then-threads-gt-MOST_THREADS c =
    let more = lt-ltb most_threads c.args.threads c.if-threads-gt-MOST_THREADS.true in
    more ∙ sym (or_l (ltb most_threads c.args.threads) (ltb most_events c.args.events) more)

pub returns-else-threads-gt-MOST_THREADS : goal.returns-else-threads-gt-MOST_THREADS
returns-else-threads-gt-MOST_THREADS c =
    ap (λ b. b || ltb most_events c.args.events) (sym (le-ltb most_threads c.args.threads c.if-threads-gt-MOST_THREADS.false))
