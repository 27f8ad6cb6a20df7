-- `rules::Gathered::check_barriers` meets its contract. Assumes nothing.
use Prim.Native.Nat.{ℕ}
use mathlib.Core.Path.{refl, sym, ap, ◌∙◌}
use mathlib.Core.Bool.{Bool, not}
use Rattle.bits.specs.Bit.{bit}
use Rattle.rows.specs.Sets.{set_in}
use Rattle.values.specs.Parts.{thread_in}
use Rattle.one_order.proofs.AlikeOrders.{alike_17, alike_18}
use Rattle.by_columns.specs.Parts.{applies_in, read_in}
use Rattle.by_columns.proofs.Laws.{joined_columns}
use Rattle.rules.proofs.Same.{stops, goes_on, none-broken, no_order, read_later, turned, shared, barrier_is}
use Rattle.rules.proofs.Gathered.check_barriers.Goals as goal

pub returns-then-alike : goal.returns-then-alike
returns-then-alike c =
    let o = c.args.self.now in
    let d = o.case.now in
    let g = o.sets.now in
    let applies : ℕ → ℕ → ℕ → Bool = applies_in g.barriers g.syncs g.stores g.loads in
    let alike = sym c.alike.ensures ∙ c.if-alike.true in
    let holds = no_order d c.requires in
    none-broken 17 18
    (alike_17 d.threads d.events d.rows (set_in g.own) (bit g.barriers) applies alike holds)
    (alike_18 d.threads d.events d.rows (set_in g.own) (bit g.barriers) applies (bit g.stores) (read_in d.events g.loads g.stores g.partners d.thread d.rows) (thread_in d.thread) alike holds
    o.sound.thread (λ l x ll lx. read_later d.events g.loads g.stores g.partners d.thread d.rows l x))
    ∙ barrier_is o.case.now o.sets.now o.sound o.agrees

pub rule17-requires-clause-with_columns : goal.rule17-requires-clause-with_columns
rule17-requires-clause-with_columns c = turned c.args.self.now.sound c.args.self.now.turned

pub rule17-requires-clause-joined : goal.rule17-requires-clause-joined
rule17-requires-clause-joined c =
    joined_columns (turned c.args.self.now.sound c.args.self.now.turned) c.joined-joined.ensures

pub returns-then-not-rule17 : goal.returns-then-not-rule17
returns-then-not-rule17 c =
    let o = c.args.self.now in
    stops c.rule17.ensures 17 _ (ap not c.if-not-rule17.true)
    ∙ barrier_is o.case.now o.sets.now o.sound o.agrees

pub rule18-requires-clause-with_columns : goal.rule18-requires-clause-with_columns
rule18-requires-clause-with_columns c = turned c.args.self.now.sound c.args.self.now.turned

pub rule18-requires-clause-joined : goal.rule18-requires-clause-joined
rule18-requires-clause-joined c =
    joined_columns (turned c.args.self.now.sound c.args.self.now.turned) c.joined-joined.ensures

pub rule18-requires-clause-shared : goal.rule18-requires-clause-shared
rule18-requires-clause-shared c =
    let o = c.args.self.now in
    shared o.case.now o.sets.now o.sound o.agrees

pub returns-then-not-rule18 : goal.returns-then-not-rule18
returns-then-not-rule18 c =
    let o = c.args.self.now in
    goes_on c.rule17.ensures 17 _ (ap not c.if-not-rule17.false) (stops c.rule18.ensures 18 _ (ap not c.if-not-rule18.true))
    ∙ barrier_is o.case.now o.sets.now o.sound o.agrees

pub returns : goal.returns
returns c =
    let o = c.args.self.now in
    goes_on c.rule17.ensures 17 _ (ap not c.if-not-rule17.false) (goes_on c.rule18.ensures 18 _ (ap not c.if-not-rule18.false) refl)
    ∙ barrier_is o.case.now o.sets.now o.sound o.agrees
