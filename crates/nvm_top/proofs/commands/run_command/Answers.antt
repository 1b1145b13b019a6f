use Rattle.std.proofs.Common.{map, string_bytes, Some, sym, ap, ◌∙◌}
use Rattle.nvm_words.specs.Words.{command_of, is_run}
use Rattle.nvm_top.proofs.Calls.{run_only, wanting_only}
use Rattle.nvm_top.proofs.commands.run_command.Goals as goal

pub returns-in-Ok-Some-Run : goal.returns-in-Ok-Some-Run
returns-in-Ok-Some-Run g c =
    run_only (command_of (map string_bytes c.args.words.now)) _ (sym c.in-Ok-Some-Run.ensures ∙ c.in-Ok-Some-Run.field-0-is ∙ ap Some c.in-Ok-Some-Run.field-0-0-is)
    (record { promise = c.run.ensures.promise; untouched = c.run.ensures.untouched; causes = c.run.ensures.causes })

pub returns-in-Err : goal.returns-in-Err
returns-in-Err g c = wanting_only is_run (command_of (map string_bytes c.args.words.now)) _ _ _ _ _
