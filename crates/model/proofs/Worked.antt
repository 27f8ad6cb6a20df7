-- The worked cases come out as the paper says.
-- Assumes nothing.
use lib.Dec.{T}
use Rattle.finite.specs.Tests.{all, some, count}
use Rattle.finite.specs.Lists.{table, each, every}
use Rattle.number.specs.Number.{after, read_groups, finish, read_number, encode_by, encode, splice}
use Rattle.number.specs.Reader.{unless, turns, times, up_to, within, below, under}
use Rattle.bits.specs.Bit.{bit}
use Rattle.permutation.specs.Permutation.{words, image, least_from, numbered, composite, inverse, fits}
use Rattle.model.specs.Case.{most_kind, printable}
use Rattle.model.specs.Rules.{first, last_of, among, kind, thread, address, value, initial, is_load, is_store, is_sync, is_barrier, of, one_address, depends, applicable, store_for, before, everywhere, written, paired, seen, reads_from, rule11, rule12, rule13, rule14, judged, rule15, rule16, rule17, rule18, verdict, final, finals}
use Rattle.model.specs.Record.{event, dependency, dependency_good, least_after, rising_dependency, rising_dependencies, dependencies, member, store_to, unlisted, write_order, pair, rising_pair, next_pair, order, bytes, printable_front, text, head, listing, rest, case, read}
use Rattle.model.specs.Written.{event_bytes, dependency_bytes, dependencies_bytes, pair_bytes, row_pairs, rows_pairs, order_bytes, record_of}
use Rattle.model.specs.Fault.{event_good, dependency_fault, write_fault, writes_fault, name_fault, fault}
use Rattle.model.specs.Renumber.{moved, relabel, renumber, fitting}
use Rattle.model.specs.Answers.{handed, put, write, judge, judge_case, renumber_record, renumber_case, name, judged_name, renumbered_name}
use Rattle.model.specs.Calls.{composed_after}
use Rattle.model.specs.Worked.{lent, one, syncing, linked, same, holds, worked, paper_cases, order_cases, value_cases, barrier_cases, second_cases, layout_cases, second_layout_cases, width_cases, model_cases, name_cases, printable_cases, renumber_cases, handed_cases, call_cases, records}

pub worked-cases : T (worked records)
unfolding all some count table each after read_groups finish read_number encode_by encode splice unless turns times up_to within
    below under bit words image least_from numbered composite inverse fits first last_of among most_kind kind thread address value initial is_load is_store is_sync is_barrier of one_address depends applicable
    store_for before everywhere written paired seen reads_from rule11 rule12 rule13 rule14 judged rule15 rule16 rule17 rule18 verdict final
    finals event dependency dependency_good least_after rising_dependency rising_dependencies dependencies member store_to unlisted write_order pair rising_pair next_pair order bytes printable printable_front text head listing rest case read event_bytes dependency_bytes dependencies_bytes
    pair_bytes row_pairs rows_pairs order_bytes record_of every event_good dependency_fault write_fault writes_fault name_fault fault moved relabel renumber fitting
    handed put write judge judge_case renumber_record renumber_case name judged_name renumbered_name lent one syncing linked same holds worked paper_cases
    order_cases value_cases barrier_cases second_cases layout_cases second_layout_cases width_cases model_cases name_cases printable_cases renumber_cases handed_cases call_cases records composed_after
worked-cases = tt
