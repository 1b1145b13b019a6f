use Rattle.std.proofs.Common.{◌≡◌, sym, ◌∙◌, Some, refl, arith, add-one, true, false}
use Rattle.std.specs.Prelude.{slice_get}
use Rattle.block_machine.specs.nv_base.declared.mark.Mark.{Mark}
use Rattle.block_machine.specs.nv_base.declared.instance.Instance.{Instance}
use Rattle.block_machine.specs.Blocks.{same_instance}
use Rattle.rows_histories.proofs.Lists.{found_there, none_more}
use Rattle.rows_histories.proofs.found.find_mark.Goals as goal
use Rattle.rows_histories.proofs.found.find_mark.Goals.{in_default-via-in-None-1, in_default-via-in-Some+else-eq}

pub returns-in-loop-i : goal.returns-in-loop-i
returns-in-loop-i c =
    let x : Instance × Mark = (c.in-Some.listed, c.in-Some.mark.now) in
    let at : slice_get c.args.marks.now c.loop-i.i ≡ Some x = c.in-Some.ensures in
    let same : same_instance c.args.instance c.in-Some.listed ≡ true = sym c.eq.ensures ∙ c.if-eq.true in
    rw (found_there (λ y. same_instance c.args.instance y.0) c.args.marks.now c.loop-i.i x at c.loop-i.invariant same) refl

pub loop-i-preserved : goal.loop-i-preserved
loop-i-preserved c = elim c.in_default.branch [
  | in_default-via-in-None-1 w ↦ absurd (omega arith)
  | in_default-via-in-Some+else-eq w ↦
      let x : Instance × Mark = (w.in-Some.listed, w.in-Some.mark.now) in
      let at : slice_get c.args.marks.now c.loop-i.i ≡ Some x = w.in-Some.ensures in
      let other : same_instance c.args.instance w.in-Some.listed ≡ false = sym w.eq.ensures ∙ w.if-eq.false in
      rw add-one (none_more (λ y. same_instance c.args.instance y.0) c.args.marks.now c.loop-i.i x at c.loop-i.invariant other)
]
