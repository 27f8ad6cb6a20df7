use Rattle.std.proofs.Common.{rules}
use Rattle.number.specs.Reader.{within, unless, up_to}
use Rattle.number.proofs.read_within.Goals as goal

pub returns-in_err-v : goal.returns-in_err-v
unfolding unless up_to within
returns-in_err-v c = search rules

pub returns-then-v-least : goal.returns-then-v-least
unfolding unless up_to within
returns-then-v-least c = search rules

pub returns : goal.returns
unfolding unless up_to within
returns c = search rules
