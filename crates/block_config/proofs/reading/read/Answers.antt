use Rattle.std.proofs.Common.{sym, inr}
use Rattle.serde_json.specs.Errors.{IsMemory}
use Rattle.serde_json.specs.View.{view}
use Rattle.block_config.proofs.Lines.{meaning_of-value, meaning_of-no_value}
use Rattle.block_config.proofs.reading.read.Goals as goal

pub returns-in-Ok-clause-ok : goal.returns-in-Ok-clause-ok
returns-in-Ok-clause-ok c =
    let is = meaning_of-value c.args.line.now (view c.in-Ok.value) (sym c.if-is_demo.ensures) c.in-Ok.ensures.ok.0 c.in-Ok.ensures.ok.1 in
    rw is c.config_of.ensures.ok

pub returns-in-Ok-clause-err : goal.returns-in-Ok-clause-err
returns-in-Ok-clause-err c =
    let is = meaning_of-value c.args.line.now (view c.in-Ok.value) (sym c.if-is_demo.ensures) c.in-Ok.ensures.ok.0 c.in-Ok.ensures.ok.1 in
    rw is c.config_of.ensures.err

pub returns-else-is_memory-clause-err : goal.returns-else-is_memory-clause-err
returns-else-is_memory-clause-err c =
    let not_memory : IsMemory c.in-Err.error → ⊥ = λ m. let yes = c.is_memory.ensures.1 m in cc in
    let broken = meaning_of-no_value c.args.line.now (sym c.if-is_demo.ensures) (c.in-Err.ensures.err not_memory) in
    inr (rw c.broken.ensures broken)
