use native.Mathlib.Omega.{arith}
use Prim.Native.Nat.{◌+◌, ◌<◌}
use mathlib.Core.Path.{refl}
use lib.ListN.{length}
use Rattle.reader.proofs.Names.{name-short, naming_begun, naming_bad, naming_next, naming_all}
use Rattle.reader.proofs.read_name.Goals.{then-bytes-at-via-then-bytes-at, then-bytes-at-via-else-bytes-at+then-bytes-at-2}
use Rattle.reader.proofs.read_name.Goals as goal

pub returns-then-bytes-at : goal.returns-then-bytes-at
returns-then-bytes-at c =
    let l : length c.args.bytes.now < c.args.at + c.args.i =
    elim c.then-bytes-at.branch [
      | then-bytes-at-via-then-bytes-at w ↦ omega (arith, w.if-bytes-at.true)
      | then-bytes-at-via-else-bytes-at+then-bytes-at-2 w ↦ omega (arith, w.if-bytes-at.false, w.if-bytes-at-2.true)
    ] in
    rw c.at.ensures (name-short _ _ _ l)

pub loop-j-init : goal.loop-j-init
loop-j-init c =
    naming_begun _ _ _ _ c.requires.name_value (omega arith) (omega arith) c.requires.i_le_most_name

pub returns-then-not-printable : goal.returns-then-not-printable
returns-then-not-printable c =
    rw c.at-then-not-printable.ensures (naming_bad _ _ _ _ _ c.loop-j.invariant (omega arith) _ refl _ c.printable.ensures c.if-not-printable.true)

pub loop-j-preserved : goal.loop-j-preserved
loop-j-preserved c =
    naming_next _ _ _ _ _ c.loop-j.invariant (omega arith) _ refl _ c.printable.ensures c.if-not-printable.false

pub returns : goal.returns
returns c =
    naming_all _ _ _ _ _ c.loop-j.invariant (omega arith)
