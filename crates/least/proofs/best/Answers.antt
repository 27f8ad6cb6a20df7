-- `least::best` meets its contract. Assumes nothing.
use Prim.Native.Nat.{◌+◌}
use mathlib.Core.Path.{sym, ◌∙◌, subst}
use mathlib.Core.Bool.{false≢true}
use Rattle.least.proofs.Alone.{not-greater, is_greater}
use Rattle.least.proofs.Search.{Tried, one_tried, tried_kept, tried_taken}
use Rattle.least.proofs.best.Goals.{then-fits+then-is_gt, else-fits, else-fits-via-then-fits+else-is_gt, else-fits-via-else-fits}
use Rattle.least.proofs.best.Goals as goal

pub loop-q-init : goal.loop-q-init
loop-q-init g c = λ part h. one_tried part _

pub loop-q-preserved : goal.loop-q-preserved
loop-q-preserved g c =
    λ part h.
    let T = c.loop-q.invariant part h in
    let l = c.loop-q-test.true in
    elim c.if-fits.branch [
      | then-fits+then-is_gt w ↦ subst (λ b. Tried part c.args.n b (c.loop-q.q + 1)) (sym w.best-is)
          (tried_taken part _ _ _ T l (sym c.fits.ensures ∙ w.if-fits.true) (is_greater _ _ _ (h _ _ _ w.by.ensures) _ w.is_gt.ensures w.if-is_gt.true))
      | else-fits w ↦ subst (λ b. Tried part c.args.n b (c.loop-q.q + 1)) (sym w.best-is)
          (tried_kept part _ _ _ T l (λ e. elim w.else-fits.branch [
            | else-fits-via-then-fits+else-is_gt w' ↦ not-greater _ _ _ (h _ _ _ w'.by.ensures) _ w'.is_gt.ensures w'.if-is_gt.false
            | else-fits-via-else-fits w' ↦ absurd (false≢true (sym w'.if-fits.false ∙ c.fits.ensures ∙ e))
          ]))
    ]
