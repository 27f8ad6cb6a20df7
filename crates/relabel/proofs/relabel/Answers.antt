use Rattle.relabel.proofs.Whole.{renumbered}
use Rattle.relabel.proofs.relabel.Goals as goal

pub returns : goal.returns
returns c =
    renumbered c.args.q c.args.r c.args.c c.requires.c_value _ _ _ _ _ _ _ _ _ _ _ _ c.initials.ensures c.front.ensures
    c.threads.ensures c.addresses.ensures c.values.ensures c.link_count-i.ensures c.front-2.ensures c.front-3.ensures c.front-4.ensures
    c.write_orders.ensures c.orders.ensures c.front-5.ensures
