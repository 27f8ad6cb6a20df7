-- `rules::Gathered::check_values` meets its contract. Assumes nothing.
use mathlib.Core.Path.{refl, ap, ◌∙◌}
use mathlib.Core.Bool.{not}
use Rattle.rules.specs.Models.{model_of}
use Rattle.rules.proofs.Same.{stops, goes_on, turned, load-address, seen-in, judged-in, value_is}
use Rattle.rules.proofs.Gathered.check_values.Goals as goal

pub seen_sets-seen-requires : goal.seen_sets-seen-requires
seen_sets-seen-requires c = turned c.args.self.now.sound c.args.self.now.turned

pub fresh_loads-fresh-requires-clause-by_index : goal.fresh_loads-fresh-requires-clause-by_index
fresh_loads-fresh-requires-clause-by_index c =
    let o = c.args.self.now in
    load-address o.case.now o.sets.now o.sound o.agrees

pub rule15-requires : goal.rule15-requires
rule15-requires c = turned c.args.self.now.sound c.args.self.now.turned

pub rule16-requires : goal.rule16-requires
rule16-requires c = turned c.args.self.now.sound c.args.self.now.turned

pub returns-then-not-rule15 : goal.returns-then-not-rule15
returns-then-not-rule15 c =
    let o = c.args.self.now in
    let seen = seen-in o.case.now o.sets.now o.sound o.agrees c.seen_sets-seen.ensures in
    let judged = judged-in o.case.now o.sets.now o.sound o.agrees c.args.model seen c.judged_sets-judged.ensures in
    stops c.rule15.ensures 15 _ (ap not c.if-not-rule15.true)
    ∙ value_is o.case.now o.sets.now o.sound o.agrees (model_of c.args.model) judged seen c.fresh_loads-fresh.ensures

pub returns-then-not-rule16 : goal.returns-then-not-rule16
returns-then-not-rule16 c =
    let o = c.args.self.now in
    let seen = seen-in o.case.now o.sets.now o.sound o.agrees c.seen_sets-seen.ensures in
    let judged = judged-in o.case.now o.sets.now o.sound o.agrees c.args.model seen c.judged_sets-judged.ensures in
    goes_on c.rule15.ensures 15 _ (ap not c.if-not-rule15.false) (stops c.rule16.ensures 16 _ (ap not c.if-not-rule16.true))
    ∙ value_is o.case.now o.sets.now o.sound o.agrees (model_of c.args.model) judged seen c.fresh_loads-fresh.ensures

pub returns : goal.returns
returns c =
    let o = c.args.self.now in
    let seen = seen-in o.case.now o.sets.now o.sound o.agrees c.seen_sets-seen.ensures in
    let judged = judged-in o.case.now o.sets.now o.sound o.agrees c.args.model seen c.judged_sets-judged.ensures in
    goes_on c.rule15.ensures 15 _ (ap not c.if-not-rule15.false) (goes_on c.rule16.ensures 16 _ (ap not c.if-not-rule16.false) refl)
    ∙ value_is o.case.now o.sets.now o.sound o.agrees (model_of c.args.model) judged seen c.fresh_loads-fresh.ensures
