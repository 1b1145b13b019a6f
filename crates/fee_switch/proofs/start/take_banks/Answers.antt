use Rattle.std.specs.Prelude.{IfSome}
use Rattle.std.proofs.Common.{◌≡◌, ℕ, Option, Some, None, ap, ◌∙◌, subst, arith}
use Rattle.fls_model.specs.Told.{ToldBytes}
use Rattle.fls_jobs.specs.State.{FlsState}
use Rattle.fee_image.specs.Image.{layout_of}
use Rattle.fee_switch.specs.Start.{AreTaken}
use Rattle.fee_switch.proofs.start.take_banks.Goals as goal

taken_next : (o : Option ToldBytes) (P Q : ToldBytes → Type 0) → IfSome o P → IfSome o (λ b. P b → Q b) → IfSome o Q
taken_next None P Q taken next = tt
taken_next (Some b) P Q taken next = next taken

pub loop-bank-preserved : goal.loop-bank-preserved
loop-bank-preserved g c =
    let before = c.loop-bank.invariant in
    let take = c.take_bank.ensures in
    let read = rw c.in-Done.is at take.answer in
    let told : c.loop-bank.fls.flash ≡ c.args.fls.now.flash = ap (λ (f : FlsState). f.flash) before.0 in
    let next = rw told at (take.taken c.in-Done.is) in (
      take.same ∙ (λ i. record c.loop-bank.fls { flash = read i; result = c.take_bank.new.fls.result }) ∙ ap (λ (f : FlsState). record f { result = c.take_bank.new.fls.result }) before.0,
      take.size ∙ before.1,
      taken_next c.args.fls.now.flash.bytes (λ b. AreTaken (layout_of c.args.geometry c.args.banks) b.now c.loop-bank.bank c.loop-bank.first c.loop-bank.log) _ before.2 next,
      take.place c.in-Done.is before.3,
      record { geometry = take.shape.geometry ∙ before.4.geometry; banks = take.shape.banks ∙ before.4.banks; numbers = take.shape.numbers ∙ before.4.numbers },
    )

pub returns-clause-taken : goal.returns-clause-taken
returns-clause-taken g c = λ done.
    let end : c.loop-bank.bank ≡ c.args.banks = omega (arith, c.loop-bank-test.false, c.loop-bank.auto.bank-end) in
    subst (λ (n : ℕ). IfSome c.args.fls.now.flash.bytes (λ (b : ToldBytes). AreTaken (layout_of c.args.geometry c.args.banks) b.now n c.loop-bank.first c.loop-bank.log)) end c.loop-bank.invariant.2
