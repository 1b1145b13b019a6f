use Rattle.std.proofs.Common.{◌≡◌, ◌⊎◌, Err, refl, subst}
use Rattle.nvm.specs.block_config.Reading.{meaning_of}
use Rattle.nvm.specs.block_config.declared.fault.ConfigFault.{ConfigFault}
use Rattle.nvm.specs.block_config.declared.fault.ConfigFault.TheVariants.{Memory}
use Rattle.nvm_c.proofs.CallLaws.{no_memory, opened, refused, stopped}
use Rattle.nvm_c.proofs.turns.nvm_open.Goals as goal

pub returns-in-Ok-clause-opened : goal.returns-in-Ok-clause-opened
returns-in-Ok-clause-opened c =
    opened c.args.flash.bytes c.args.text.now c.in-Ok.config c.over.result c.args.cuts c.open_over.result c.open_over.new.handle.kept c.in-Ok.ensures.ok c.over.ensures c.open_over.ensures.opened

pub returns-in-Ok-clause-stopped : goal.returns-in-Ok-clause-stopped
returns-in-Ok-clause-stopped c =
    stopped c.args.flash.bytes c.open_over.new.back.bytes c.args.text.now c.in-Ok.config c.over.result c.open_over.result c.in-Ok.ensures.ok c.over.ensures c.open_over.ensures.stopped

pub returns-in-Err-Broken-clause-stopped : goal.returns-in-Err-Broken-clause-stopped
returns-in-Err-Broken-clause-stopped c more =
    refused c.args.flash.bytes c.args.text.now c.in-Err-Broken.field-0-0 c.in-Err-Broken.field-0-1
    (subst (λ (f : ConfigFault). (f ≡ Memory) ⊎ (meaning_of c.args.text.now ≡ Err f)) c.in-Err-Broken.field-0-is c.in-Err-Broken.ensures.err)

pub returns-in-Err-Memory-clause-stopped : goal.returns-in-Err-Memory-clause-stopped
returns-in-Err-Memory-clause-stopped c more = no_memory c.args.flash.bytes _ c.args.text.now refl
