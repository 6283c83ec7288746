-- Each turn settles one pair more, as the root has it.
use Rattle.std.proofs.Common.{◌≡◌, ◌+◌, ◌*◌, length, refl, sym, ◌∙◌, arith}
use Rattle.placements.specs.Rows.{BaseTo}
use Rattle.placements.proofs.Putting.{base-none, base-next, base-placed, base_neither, base-all}
use Rattle.placements.proofs.Relation.base.Goals as goal
use Rattle.placements.proofs.Relation.base.Goals.{then-goes_first, else-goes_first+then-goes_first-2, else-goes_first+else-goes_first-2}

pub loop-u-init : goal.loop-u-init
loop-u-init c = base-none c.args.outlets.now _ refl

pub loop-v-preserved : goal.loop-v-preserved
loop-v-preserved c =
    let rail = c.args.outlets.now in
    let rows = c.loop-v.rows in
    let u = c.loop-u.u in
    let v = c.loop-v.v in
    let place = 32 * u + v in
    let settled : BaseTo rail (place + 1) c.if-goes_first.rows = elim c.if-goes_first.branch [
      | then-goes_first w ↦
          rw w.rows-is
          (base-placed rail rows place u v (omega arith) (omega arith) (omega arith) c.loop-v.invariant (λ e. omega arith) (sym c.goes_first.ensures ∙ w.if-goes_first.true) _ w.put.ensures)
      | else-goes_first+then-goes_first-2 w ↦
          rw w.rows-is
          (base-placed rail rows place v u (omega arith) (omega arith) (omega arith) c.loop-v.invariant (λ e. omega arith) (sym w.goes_first-else-goes_first.ensures ∙ w.if-goes_first-2.true) _
          w.put-then-goes_first-2.ensures)
      | else-goes_first+else-goes_first-2 w ↦
          rw w.rows-is
          (base_neither rail rows place u v (omega arith) (omega arith) (omega arith) c.loop-v.invariant (sym c.goes_first.ensures ∙ w.if-goes_first.false)
          (sym w.goes_first-else-goes_first.ensures ∙ w.if-goes_first-2.false))
    ] in
    let next : place + 1 ≡ 32 * u + (v + 1) = omega arith in
    rw next at settled

pub loop-u-preserved : goal.loop-u-preserved
loop-u-preserved c =
    let all : c.loop-v.v ≡ c.loop-u.u = omega arith in
    base-next c.args.outlets.now c.loop-v.rows c.loop-u.u (omega arith) (rw all at c.loop-v.invariant)

pub returns : goal.returns
returns c =
    let all : c.loop-u.u ≡ length c.args.outlets.now = omega arith in
    base-all c.args.outlets.now c.loop-u.rows c.requires.0 (rw all at c.loop-u.invariant)
