-- `least::representative` meets its contract. Assumes nothing.
use Rattle.case.proofs.Bounds.{sound}
use Rattle.least.proofs.Search.{both_fit, both_best}
use Rattle.least.proofs.representative.Goals as goal

pub relabel-requires-clause-sound : goal.relabel-requires-clause-sound
relabel-requires-clause-sound c =
    sound _ c.requires

pub relabel-requires-clause-c_value : goal.relabel-requires-clause-c_value
relabel-requires-clause-c_value c =
    both_fit _ c.requires _ _ c.best_threads-q.ensures c.best_addresses-r.ensures

pub returns : goal.returns
returns c =
    both_best _ c.requires _ _ c.best_threads-q.ensures c.best_addresses-r.ensures _ c.relabel.ensures
