use native.Mathlib.Omega.{arith}
use Rattle.std.proofs.lemmas.Bool.Decides.{nat_tests}
use Rattle.condition_reader.proofs.Places.{unfit-by, digits_inside}
use Rattle.condition_reader.proofs.unfit.Goals as goal

pub bounds-text-at : goal.bounds-text-at
bounds-text-at c =
    digits_inside c.args.text.now c.args.at _ c.requires (omega arith)

pub returns-then-count-eq0 : goal.returns-then-count-eq0
returns-then-count-eq0 c =
    rw (unfit-by c.args.text.now c.args.at _ c.requires) (grind (arith, nat_tests))

pub returns-then-count-gt1 : goal.returns-then-count-gt1
returns-then-count-gt1 c =
    rw (unfit-by c.args.text.now c.args.at _ c.requires) (grind (arith, nat_tests))

pub returns-else-count-gt1 : goal.returns-else-count-gt1
returns-else-count-gt1 c =
    rw (unfit-by c.args.text.now c.args.at _ c.requires) (grind (arith, nat_tests))
