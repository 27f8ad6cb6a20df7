-- The worked calls come out as they must.
-- Assumes nothing.
use lib.Dec.{T}
use Rattle.finite.specs.Tests.{all, some, count}
use Rattle.finite.specs.Lists.{table, each, every}
use Rattle.number.specs.Number.{after, read_groups, finish, read_number, encode_by, encode}
use Rattle.number.specs.Reader.{unless, turns, times as times_of, up_to, within, below, under}
use Rattle.bits.specs.Bit.{bit}
use Rattle.model.specs.Case.{most_kind, printable}
use Rattle.model.specs.Rules.{first, last_of, among, kind, thread, address, value, initial, is_load, is_store, is_sync, is_barrier, of, one_address, depends, applicable, store_for, before, everywhere, written, paired, seen, reads_from, rule11, rule12, rule13, rule14, judged, rule15, rule16, rule17, rule18, verdict, final, finals}
use Rattle.model.specs.Record.{event, dependency, dependency_good, least_after, rising_dependency, rising_dependencies, dependencies, member, store_to, unlisted, write_order, pair, rising_pair, next_pair, order, bytes as bytes_of, printable_front, text, head, listing, rest, case, read}
use Rattle.model.specs.Written.{event_bytes, dependency_bytes, dependencies_bytes, pair_bytes, row_pairs, rows_pairs, order_bytes, record_of}
use Rattle.model.specs.Fault.{event_good, dependency_fault, write_fault, writes_fault, name_fault, fault}
use Rattle.model.specs.Answers.{handed}
use Rattle.model.specs.Worked.{one, same}
use Rattle.condition_model.specs.Reader.{front, skipped, sign, value_by, unfit, number_of, number, label, valued, equation_by, equation_at, condition_by, end, whole_by, read_text}
use Rattle.condition_model.specs.Truth.{truth_c, ranges}
use Rattle.condition_model.specs.Answers.{condition, condition_case}
use Rattle.condition_model.specs.Worked.{bytes_from, bytes, times}
use Rattle.condition_model.specs.WorkedCalls.{asked_holds, worked_calls, calls}

pub worked-calls : T (worked_calls calls)
unfolding all some count table each after read_groups finish read_number encode_by encode unless turns up_to within below under bit first last_of among most_kind kind thread address initial is_load is_store is_sync is_barrier of one_address depends applicable store_for before everywhere written paired seen reads_from rule11 rule12 rule13 rule14 judged rule15 rule16 rule17 rule18 verdict final finals event dependency dependency_good least_after rising_dependency rising_dependencies dependencies member store_to unlisted write_order pair rising_pair next_pair order printable printable_front text head listing rest case read event_bytes dependency_bytes dependencies_bytes pair_bytes row_pairs rows_pairs order_bytes record_of every event_good dependency_fault write_fault writes_fault name_fault fault handed one same
    times_of bytes_of value front skipped sign value_by unfit number_of number label valued equation_by equation_at condition_by end whole_by read_text truth_c ranges condition condition_case
    bytes_from bytes times asked_holds worked_calls calls
worked-calls = tt
