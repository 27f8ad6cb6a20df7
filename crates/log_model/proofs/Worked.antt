-- The worked logs come out as they must.
-- Assumes nothing.
use lib.Dec.{T}
use Rattle.finite.specs.Tests.{all, some, count}
use Rattle.finite.specs.Lists.{table, every}
use Rattle.number.specs.Number.{after, read_groups, finish as finish_number, read_number}
use Rattle.number.specs.Reader.{unless, turns, times, up_to, within, below, under}
use Rattle.bits.specs.Bit.{bit}
use Rattle.model.specs.Case.{most_kind, printable}
use Rattle.model.specs.Rules.{first, last_of, among, kind, thread, address, value, initial, is_load, is_store, is_sync, is_barrier, of, one_address, depends, applicable, store_for, before, everywhere, written, paired, seen, reads_from, rule11, rule12, rule13, rule14, judged, rule15, rule16, rule17, rule18, verdict}
use Rattle.model.specs.Record.{event, dependency, dependency_good, least_after, rising_dependency, rising_dependencies, dependencies, member, store_to, unlisted, write_order, pair, rising_pair, next_pair, order, bytes, printable_front, text, head, listing, rest, case, read}
use Rattle.model.specs.Worked.{same}
use Rattle.tally.specs.Tally.{grown, may_grow}
use Rattle.log_model.specs.Log.{log_by, log_from, tallied, summary}
use Rattle.log_model.specs.Pieces.{run_by, run_from, judge_log, feed, finish}
use Rattle.log_model.specs.Worked.{printed, answered, holds, worked, whole_logs, cut_logs, full_tallies, calls}

pub worked_logs : T (worked whole_logs) × T (worked cut_logs) × T (worked full_tallies) × T (worked calls)
unfolding all some count table every after read_groups finish_number read_number unless turns times up_to within below under bit most_kind printable
    first last_of among kind thread address value initial is_load is_store is_sync is_barrier of one_address depends applicable store_for before
    everywhere written paired seen reads_from rule11 rule12 rule13 rule14 judged rule15 rule16 rule17 rule18 verdict event dependency
    dependency_good least_after rising_dependency rising_dependencies dependencies member store_to unlisted write_order pair rising_pair next_pair
    order bytes printable_front text head listing rest case read same grown may_grow log_by log_from tallied summary run_by run_from judge_log feed
    finish printed answered holds worked whole_logs cut_logs full_tallies calls
worked_logs = (tt, tt, tt, tt)
