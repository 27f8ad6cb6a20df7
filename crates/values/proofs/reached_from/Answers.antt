-- `values::reached_from` meets its contract. Assumes nothing.
use mathlib.Core.Path.{refl, ap}
use mathlib.Core.Bool.{◌&&◌}
use Rattle.rows.specs.Sets.{order_in, set_in}
use Rattle.rows.proofs.SetLaws.{set_same, set_as, share, as_set}
use Rattle.values.specs.Parts.{thread_in}
use Rattle.values.proofs.Laws.{reached-same}
use Rattle.values.proofs.reached_from.Goals as goal

pub returns : goal.returns
returns c =
    reached-same c.args.k (set_in c.args.read.now) (λ l g. order_in c.args.known.now (thread_in c.args.threads.now l) l g)
    (set_same c.after_of-those.ensures (λ e. ap (λ t. t && order_in c.args.known.now c.args.p c.args.f e) ((set_as c.both.ensures (share (as_set refl) (as_set refl))).has e)))
    c.reached.ensures
