-- `litmus::litmus_name` meets its contract. Assumes nothing.
use mathlib.Core.Path.{ap}
use Rattle.reader.specs.declared.NamePart.{NamePart}
use Rattle.litmus.proofs.litmus_name.Goals as goal

pub returns : goal.returns
returns c =
    ap (λ (p : NamePart). record { at = p.at; length = p.length }) c.name_part-part.ensures
