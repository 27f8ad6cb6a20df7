-- The worked areas come out as they must.
-- Assumes nothing.
use lib.Dec.{T}
use Rattle.finite.specs.Tests.{all, some, count}
use Rattle.finite.specs.Lists.{every}
use Rattle.number.specs.Number.{after, read_groups, finish, read_number}
use Rattle.number.specs.Reader.{unless, turns, times, up_to, within, below, under}
use Rattle.model.specs.Case.{most_kind, printable}
use Rattle.model.specs.Rules.{last_of}
use Rattle.model.specs.Record.{event, dependency, dependency_good, least_after, rising_dependency, rising_dependencies, dependencies, member, store_to, unlisted, write_order, pair, rising_pair, next_pair, order, bytes, printable_front, text, head, listing, rest, case, read}
use Rattle.model.specs.Worked.{same}
use Rattle.area_model.specs.Area.{frame_of, found_by, found_from, after_stores, storing, appending, clearing, store_some, append_at, append, repair}
use Rattle.area_model.specs.Changes.{area_after, flags_stored}
use Rattle.area_model.specs.Worked.{same_lists, is_found, is_stored, holds, worked, areas, single_appends, single_repairs, lists}

pub worked-areas : T (worked areas) × T (worked single_appends) × T (worked single_repairs) × T (worked lists)
unfolding all some count every after read_groups finish read_number unless turns times up_to within below under most_kind printable last_of event dependency
    dependency_good least_after rising_dependency rising_dependencies dependencies member store_to unlisted write_order pair rising_pair next_pair
    order bytes printable_front text head listing rest case read same frame_of found_by found_from after_stores storing appending clearing store_some
    append_at append repair area_after flags_stored same_lists is_found is_stored holds worked areas single_appends single_repairs lists
worked-areas = (tt, tt, tt, tt)
