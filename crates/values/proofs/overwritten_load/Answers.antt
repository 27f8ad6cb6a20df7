-- `values::overwritten_load` meets its contract. Assumes nothing.
use mathlib.Core.Path.{refl, ◌∙◌}
use Rattle.bits.specs.Bit.{bit}
use Rattle.rows.specs.Sets.{order_in, store_in}
use Rattle.values.specs.Parts.{equal_in}
use Rattle.rows.proofs.SetLaws.{imp_yes, set_as, share, as_set, of_set}
use Rattle.values.proofs.Laws.{by_sets}
use Rattle.values.proofs.overwritten_load.Goals as goal

pub returns : goal.returns
returns c =
    let a = c.args in
    let sources = set_as c.both-sources.ensures (share (as_set refl) (as_set refl)) in
    c.explained_stores.ensures
    ∙ by_sets a.k (bit a.seen) (store_in a.stores a.partners.now) (equal_in a.values.now) (order_in a.asked.now a.p) a.l
    (set_as c.both.ensures (share sources (as_set refl))) (of_set a.k (λ x. order_in a.asked.now a.p x a.l) sources c.before_of-between.ensures)
    ∙ imp_yes _ _ c.requires.l_value
