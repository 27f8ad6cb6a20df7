use Rattle.std.proofs.Common.{rules}
use Rattle.number.specs.Reader.{under, unless, up_to}
use Rattle.number.proofs.read_under.Goals as goal

pub returns-in_err-v : goal.returns-in_err-v
unfolding unless up_to under
returns-in_err-v c =
    search rules

pub returns-then-v-bound : goal.returns-then-v-bound
unfolding unless up_to under
returns-then-v-bound c =
    search rules

pub returns : goal.returns
unfolding unless up_to under
returns c =
    search rules
