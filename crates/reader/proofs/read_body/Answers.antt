use Rattle.case.specs.Held.{empty_case}
use Rattle.reader.specs.Answers.{ReadingFrom}
use Rattle.reader.proofs.Filling.{exit}
use Rattle.reader.proofs.Links.{no_links_yet}
use Rattle.reader.proofs.Whole.{no_events, listing-few, no_listing, no_links, no_rest, ends_behind, whole}
use Rattle.reader.proofs.read_body.Goals as goal

pub read_listing-requires-clause-initial_value : goal.read_listing-requires-clause-initial_value
unfolding empty_case
read_listing-requires-clause-initial_value c =
    rw c.empty-case.ensures

pub read_listing-requires-clause-events : goal.read_listing-requires-clause-events
unfolding empty_case
read_listing-requires-clause-events c =
    rw c.empty-case.ensures no_events

pub returns-in_err-count : goal.returns-in_err-count
returns-in_err-count c =
    exit (ReadingFrom _ _) _ _ c.from_residual.ensures (no_listing _ _ c.args.head _ c.requires _ _ c.in_err-count.ensures)

pub read_dependencies-requires : goal.read_dependencies-requires
unfolding empty_case
read_dependencies-requires c =
    rw c.empty-case.ensures no_links_yet

pub returns-in_err-dependencies : goal.returns-in_err-dependencies
returns-in_err-dependencies c =
    exit (ReadingFrom _ _) _ _ c.from_residual-in_err-dependencies.ensures (no_links _ _ c.args.head _ c.requires _ _ _ _ _ _ _ c.in_ok-count.ensures _ _ c.in_err-dependencies.ensures)

pub read_rest-requires-clause-writes_value : goal.read_rest-requires-clause-writes_value
unfolding empty_case
read_rest-requires-clause-writes_value c =
    rw c.empty-case.ensures

pub read_rest-requires-clause-rows_value : goal.read_rest-requires-clause-rows_value
unfolding empty_case
read_rest-requires-clause-rows_value c =
    rw c.empty-case.ensures

pub read_rest-requires-clause-name_value : goal.read_rest-requires-clause-name_value
unfolding empty_case
read_rest-requires-clause-name_value c =
    rw c.empty-case.ensures

pub returns-in_err-namelength : goal.returns-in_err-namelength
returns-in_err-namelength c =
    exit (ReadingFrom _ _) _ _ c.from_residual-in_err-namelength.ensures (no_rest _ _ c.args.head _ c.requires _ _ _ _ _ _ _ c.in_ok-count.ensures _ _ _ _ _ c.in_ok-dependencies.ensures _ _ c.in_err-namelength.ensures)

pub overflow_sub-length : goal.overflow_sub-length
overflow_sub-length c =
    ends_behind _ _ c.args.head _ c.requires _ _ _ _ _ _ _ c.in_ok-count.ensures _ _ _ _ _ c.in_ok-dependencies.ensures _ _ _ _ _ c.in_ok-namelength.ensures

pub returns : goal.returns
returns c =
    whole _ _ c.args.head _ c.requires _ _ _ _ _ _ _ c.in_ok-count.ensures _ _ _ _ _ c.in_ok-dependencies.ensures _ _ _ _ _ c.in_ok-namelength.ensures

pub invariant_of-events : goal.invariant_of-events
invariant_of-events c =
    record { few = listing-few _ _ c.args.head _ c.requires _ _ _ _ _ _ _ c.in_ok-count.ensures }
