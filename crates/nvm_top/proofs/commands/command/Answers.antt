use Rattle.std.proofs.Common.{◌≤◌, map, string_bytes, sym, ap, ◌∙◌, Some, arith}
use Rattle.nvm_words.specs.Words.{command_of}
use Rattle.nvm_top.proofs.Soaks.{few_rounds}
use Rattle.nvm_top.proofs.Calls.{keeps_as_play, keeps_as_run, keeps_as_uds, wanting}
use Rattle.nvm_top.proofs.commands.command.Goals as goal

pub soak-requires : goal.soak-requires
soak-requires g c =
    let few : c.in-Ok-Some-Soak.count ≤ 10000 = few_rounds (map string_bytes c.args.words.now) c.in-Ok-Some-Soak.seed c.in-Ok-Some-Soak.count (sym c.in-Ok-Some-Soak.ensures ∙ c.in-Ok-Some-Soak.field-0-is ∙ ap Some c.in-Ok-Some-Soak.field-0-0-is) in omega (arith, few)

pub returns-in-Ok-Some-Play : goal.returns-in-Ok-Some-Play
returns-in-Ok-Some-Play g c =
    keeps_as_play (command_of (map string_bytes c.args.words.now)) _ (sym c.in-Ok-Some-Play.ensures ∙ c.in-Ok-Some-Play.field-0-is ∙ ap Some c.in-Ok-Some-Play.field-0-0-is)
    (record { promise = c.play.ensures.promise; untouched = c.play.ensures.untouched; causes = c.play.ensures.causes })

pub returns-in-Ok-Some-Run : goal.returns-in-Ok-Some-Run
returns-in-Ok-Some-Run g c =
    keeps_as_run (command_of (map string_bytes c.args.words.now)) _ (sym c.in-Ok-Some-Run.ensures ∙ c.in-Ok-Some-Run.field-0-is ∙ ap Some c.in-Ok-Some-Run.field-0-0-is)
    (record { promise = c.run.ensures.promise; untouched = c.run.ensures.untouched; causes = c.run.ensures.causes })

pub returns-in-Ok-Some-Uds : goal.returns-in-Ok-Some-Uds
returns-in-Ok-Some-Uds g c =
    keeps_as_uds (command_of (map string_bytes c.args.words.now)) _ (sym c.in-Ok-Some-Uds.ensures ∙ c.in-Ok-Some-Uds.field-0-is ∙ ap Some c.in-Ok-Some-Uds.field-0-0-is)
    (record { promise = c.uds.ensures.promise; untouched = c.uds.ensures.untouched; causes = c.uds.ensures.causes })

pub returns-in-Err : goal.returns-in-Err
returns-in-Err g c = wanting (command_of (map string_bytes c.args.words.now)) _ _ _ _ _
