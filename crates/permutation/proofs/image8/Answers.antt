use mathlib.Core.Path.{◌≡◌}
use native.Mathlib.Omega.{arith}
use Rattle.permutation.proofs.Laws.{image_byte}
use Rattle.permutation.proofs.image8.Goals as goal

pub overflow_cast-result : goal.overflow_cast-result
overflow_cast-result c =
    let e : c.from.result ≡ c.args.x = c.from.ensures in
    let i = image_byte c.args.q c.from.result (omega (arith, e)) in
    omega (arith, i, c.image.ensures)
