-- The worked records come out as they must.
-- Assumes nothing.
use lib.Dec.{T}
use Rattle.finite.specs.Tests.{all, some, count}
use Rattle.finite.specs.Lists.{table, each, every}
use Rattle.number.specs.Number.{after, read_groups, finish, read_number, encode_by, encode, splice}
use Rattle.number.specs.Reader.{unless, turns, times, up_to, within, below, under}
use Rattle.bits.specs.Bit.{bit}
use Rattle.permutation.specs.Permutation.{words, image, least_from, numbered, composite, inverse, fits}
use Rattle.model.specs.Case.{most_kind, printable}
use Rattle.model.specs.Rules.{last_of, first}
use Rattle.model.specs.Record.{event, dependency, dependency_good, least_after, rising_dependency, rising_dependencies, dependencies, member, store_to, unlisted, write_order, pair, rising_pair, next_pair, order, bytes, printable_front, text, head, listing, rest, case, read}
use Rattle.model.specs.Written.{event_bytes, dependency_bytes, dependencies_bytes, pair_bytes, row_pairs, rows_pairs, order_bytes, record_of}
use Rattle.model.specs.Fault.{event_good, dependency_fault, write_fault, writes_fault, name_fault, fault}
use Rattle.model.specs.Renumber.{moved, relabel, renumber, fitting}
use Rattle.model.specs.Answers.{handed, put}
use Rattle.model.specs.Worked.{lent, one, linked, same}
use Rattle.classes.specs.Order.{at_most}
use Rattle.classes.specs.Representative.{renumberings, least_of, representative, representative_record, representative_case, choice, chosen, lesser}
use Rattle.classes.specs.Worked.{holds, worked, record_rows, case_rows, compared_rows}

pub worked-records : T (worked record_rows) × T (worked case_rows) × T (worked compared_rows)
unfolding all some count table each every after read_groups finish read_number encode_by encode splice unless turns times up_to within
    below under bit words image least_from numbered composite inverse fits most_kind printable last_of first event dependency dependency_good
    least_after rising_dependency rising_dependencies dependencies member store_to unlisted write_order pair rising_pair next_pair order bytes
    printable_front text head listing rest case read event_bytes dependency_bytes dependencies_bytes pair_bytes row_pairs rows_pairs order_bytes
    record_of event_good dependency_fault write_fault writes_fault name_fault fault moved relabel renumber fitting handed put lent one linked
    same at_most renumberings least_of representative representative_record representative_case choice chosen lesser holds worked
    record_rows case_rows compared_rows
worked-records = (tt, tt, tt)
