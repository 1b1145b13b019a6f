use Rattle.std.proofs.Common.{◌≤◌, ℕ, List, length, sym, ap, arith}
use Rattle.std.proofs.Math.Seq.{take-length}
use Rattle.std.proofs.lemmas.List.{set_past}
use Rattle.fls_model.specs.declared.call.Call.TheVariants.{Page}
use Rattle.fls_model.specs.Op.{Program}
use Rattle.fls_model.proofs.memory.keep_program.Goals as goal

-- without room nothing is kept, and any call of this page would do
pub returns-then-len-asked : goal.returns-then-len-asked
returns-then-len-asked c =
    let full : length c.args.calls.now.items ≤ c.args.asked = omega (arith, c.if-len-asked.true, c.len.ensures) in
    let call = Page c.args.address (length c.args.page.now) c.args.page.now in record {
      call = call;
      op = λ g. ap (λ (page : List ℕ). Program c.args.address page) (take-length c.args.page.now);
      kept = sym (set_past c.args.calls.now.items c.args.asked call full);
    }
