use mathlib.Core.Path.{refl}
use Rattle.storage.specs.Held.{empty_storage}
use Rattle.storage.proofs.Storage.empty.Goals as goal

pub returns : goal.returns
unfolding empty_storage
returns c =
    refl
