use Rattle.std.proofs.Common.{◌⊎◌, ◌<◌, [], refl, ap, subst, arith}
use Rattle.nvm_flash.specs.nv_base.Count.{last_count}
use Rattle.nvm_flash.specs.fls_model.Told.{Told}
use Rattle.nvm_flash.specs.fls_model.Memory.{InMemory, in_memory}
use Rattle.nvm_script.specs.declared.script.Mode.TheVariants as mode
use Rattle.nvm_top.specs.Play.{StepsStopBy}
use Rattle.nvm_top.specs.Promised.{HasPromise, HasNoRun, played_call}
use Rattle.nvm_top.specs.Worked.{memory_call}
use Rattle.nvm_top.proofs.InMemory.{play_kept, cuts_leave}
use Rattle.nvm_top.proofs.worked.play_with_room.Goals as goal

pub returns : goal.returns
returns g c served =
    let status = c.play_command-status.result.0 in
    let exit = c.play_command-status.result.1.told in
    let left = g.S.Source.left c.args.input.now in
    let reads = g.S.Source.faults c.args.input.now in
    let reads' = g.S.Source.faults c.play_command-status.new.input in
    let written = g.K.Sink.written c.args.output.now in
    let written' = g.K.Sink.written c.play_command-status.new.output in
    let plays = play_kept _ _ served (c.play_command-status.ensures.served served) in
    let small : c.args.operations < last_count = omega arith in
    cuts_leave status c.args.operations reads reads' (in_memory [] c.args.operations).told.bytes (memory_call c.args.operations left status exit written written') c.bytes.result.now refl c.bytes.ensures small
    (subst (λ (e : Told). HasPromise (played_call left status e exit written written') ⊎ HasNoRun (StepsStopBy mode.Play left reads reads' e.bytes) written written' status e exit) (ap (λ (m : InMemory). m.told) c.in_ok-flash.ensures) plays.promise)
