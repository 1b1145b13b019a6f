use Rattle.std.proofs.Common.{length, arith}
use Rattle.std.proofs.lemmas.Result.{on_ok_weaker}
use Rattle.script_callers.proofs.Counting.{few_counted}
use Rattle.script_callers.proofs.Making.{few_made, made_more}
use Rattle.script_callers.proofs.programs.add_step.Goals as goal

pub add_deed-requires-clause-room : goal.add_deed-requires-clause-room
add_deed-requires-clause-room c =
    let given = c.requires.few in
    let few = few_made c.args.config.now given.0 c.args.counts.now c.args.programs.now c.args.step.caller c.from-place.result c.index-programs-place.result given.2 c.requires.run.caller c.from-place.ensures in
    omega (arith, few, given.1)

pub add_deed-requires-clause-few : goal.add_deed-requires-clause-few
add_deed-requires-clause-few c = λ block.
    let given = c.requires.few in
    let few = few_counted given.0 c.args.counts.now (length given.0) given.2.counted (omega arith) block in
    omega (arith, few, given.1)

pub returns-clause-made : goal.returns-clause-made
returns-clause-made c =
    on_ok_weaker c.add_deed.result
    (λ added before owns made. made_more c.args.config.now before c.args.step c.args.counts.now c.add_deed.new.counts c.args.programs.now c.from-place.result c.index-programs-place.result c.add_deed.new.deeds
    c.requires.run.caller c.from-place.ensures owns made added c.add_deed.ensures.size)
    c.add_deed.ensures.added
