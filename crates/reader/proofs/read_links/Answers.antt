use native.Mathlib.Omega.{arith}
use Rattle.reader.specs.Answers.{Stores}
use Rattle.reader.proofs.Filling.{exit}
use Rattle.reader.proofs.Links.{links_begun, links_stop, among, class-byte, from_byte, to_byte, rank-fits, links_next, links_all}
use Rattle.reader.proofs.read_links.Goals as goal

pub loop-i-init : goal.loop-i-init
loop-i-init c =
    search links_begun

pub returns-in_err-link : goal.returns-in_err-link
returns-in_err-link c =
    exit (Stores _ _) _ _ c.from_residual.ensures (links_stop _ _ _ _ _ _ _ _ _ _ _ c.loop-i.invariant (omega arith) _ _ c.in_err-link.ensures)

pub overflow_cast-classes : goal.overflow_cast-classes
overflow_cast-classes c =
    class-byte _ _ _ _ _ _ _ _ _ _ _ c.loop-i.invariant (omega arith) _ _ c.in_ok-link.ensures

pub overflow_cast-froms : goal.overflow_cast-froms
overflow_cast-froms c =
    from_byte _ _ _ _ _ _ _ _ _ _ _ c.loop-i.invariant (omega arith) _ _ c.in_ok-link.ensures c.args.events.few

pub overflow_cast-tos : goal.overflow_cast-tos
overflow_cast-tos c =
    to_byte _ _ _ _ _ _ _ _ _ _ _ c.loop-i.invariant (omega arith) _ _ c.in_ok-link.ensures c.args.events.few

pub rank-least-requires-clause-among : goal.rank-least-requires-clause-among
rank-least-requires-clause-among c =
    among _ _ _ _ _ _ _ _ _ _ _ c.loop-i.invariant (omega arith) _ _ c.in_ok-link.ensures

pub overflow_add-least : goal.overflow_add-least
overflow_add-least c =
    rank-fits _ _ _ _ _ _ _ _ _ _ _ c.loop-i.invariant (omega arith) _ _ c.in_ok-link.ensures c.args.events.few _ c.rank-least.ensures

pub loop-i-preserved : goal.loop-i-preserved
loop-i-preserved c =
    links_next _ _ _ _ _ _ _ _ _ _ _ c.loop-i.invariant (omega arith) _ _ c.in_ok-link.ensures c.requires.count_le_most_dependencies _ c.rank-least.ensures

pub returns : goal.returns
returns c =
    links_all _ _ _ _ _ _ _ _ _ _ _ c.loop-i.invariant (omega arith)
