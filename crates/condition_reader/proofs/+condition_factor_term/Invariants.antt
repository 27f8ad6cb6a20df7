use Rattle.std.proofs.Common.{◌+◌, ◌*◌, ◌-◌, length}
use Rattle.condition_reader.proofs.+condition_factor_term.Given as goal

abbrev pub decreases-condition : goal.decreases-condition
decreases-condition l =
    3 * (length l.text.now - l.at) + 2

abbrev pub decreases-factor : goal.decreases-factor
decreases-factor l =
    3 * (length l.text.now - l.at) + 0

abbrev pub decreases-term : goal.decreases-term
decreases-term l =
    3 * (length l.text.now - l.at) + 1
