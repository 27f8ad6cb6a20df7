-- `rules::Gathered::check_order` meets its contract. Assumes nothing.
use mathlib.Core.Path.{refl, ap, ◌∙◌}
use mathlib.Core.Bool.{not}
use Rattle.rules.proofs.Same.{stops, goes_on, turned, store-address, store-written, order_is}
use Rattle.rules.proofs.Gathered.check_order.Goals as goal

pub rule12-requires : goal.rule12-requires
rule12-requires c = turned c.args.self.now.sound c.args.self.now.turned

pub rule14-requires-clause-by_index : goal.rule14-requires-clause-by_index
rule14-requires-clause-by_index c =
    let o = c.args.self.now in
    store-address o.case.now o.sets.now o.sound o.agrees

pub rule14-requires-clause-by_index_2 : goal.rule14-requires-clause-by_index_2
rule14-requires-clause-by_index_2 c =
    let o = c.args.self.now in
    store-written o.case.now o.sets.now o.sound o.agrees

pub returns-then-not-rule11 : goal.returns-then-not-rule11
returns-then-not-rule11 c =
    let o = c.args.self.now in
    stops c.rule11.ensures 11 _ (ap not c.if-not-rule11.true) ∙ order_is o.case.now o.sets.now o.sound o.agrees

pub returns-then-not-rule12 : goal.returns-then-not-rule12
returns-then-not-rule12 c =
    let o = c.args.self.now in
    goes_on c.rule11.ensures 11 _ (ap not c.if-not-rule11.false) (stops c.rule12.ensures 12 _ (ap not c.if-not-rule12.true)) ∙ order_is o.case.now o.sets.now o.sound o.agrees

pub returns-then-not-rule13 : goal.returns-then-not-rule13
returns-then-not-rule13 c =
    let o = c.args.self.now in
    goes_on c.rule11.ensures 11 _ (ap not c.if-not-rule11.false)
    (goes_on c.rule12.ensures 12 _ (ap not c.if-not-rule12.false) (stops c.rule13.ensures 13 _ (ap not c.if-not-rule13.true)))
    ∙ order_is o.case.now o.sets.now o.sound o.agrees

pub returns-then-not-rule14 : goal.returns-then-not-rule14
returns-then-not-rule14 c =
    let o = c.args.self.now in
    goes_on c.rule11.ensures 11 _ (ap not c.if-not-rule11.false)
    (goes_on c.rule12.ensures 12 _ (ap not c.if-not-rule12.false)
    (goes_on c.rule13.ensures 13 _ (ap not c.if-not-rule13.false) (stops c.rule14.ensures 14 _ (ap not c.if-not-rule14.true))))
    ∙ order_is o.case.now o.sets.now o.sound o.agrees

pub returns : goal.returns
returns c =
    let o = c.args.self.now in
    goes_on c.rule11.ensures 11 _ (ap not c.if-not-rule11.false)
    (goes_on c.rule12.ensures 12 _ (ap not c.if-not-rule12.false)
    (goes_on c.rule13.ensures 13 _ (ap not c.if-not-rule13.false) (goes_on c.rule14.ensures 14 _ (ap not c.if-not-rule14.false) refl)))
    ∙ order_is o.case.now o.sets.now o.sound o.agrees
