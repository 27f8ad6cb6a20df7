-- `compare::first` meets its contract. Assumes nothing.
use Rattle.compare.proofs.Groups.{first_low, first_high}
use Rattle.compare.proofs.first.Goals as goal

pub returns-then-v-lt128 : goal.returns-then-v-lt128
returns-then-v-lt128 c =
    search first_low

pub returns-else-v-lt128 : goal.returns-else-v-lt128
returns-else-v-lt128 c =
    search first_high
