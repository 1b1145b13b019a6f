use Rattle.std.proofs.Common.{map, string_bytes, Some, sym, ap, ◌∙◌}
use Rattle.nvm_words.specs.Words.{command_of, is_uds}
use Rattle.nvm_top.proofs.Calls.{uds_only, wanting_only}
use Rattle.nvm_top.proofs.commands.uds_command.Goals as goal

pub returns-in-Ok-Some-Uds : goal.returns-in-Ok-Some-Uds
returns-in-Ok-Some-Uds g c =
    uds_only (command_of (map string_bytes c.args.words.now)) _ (sym c.in-Ok-Some-Uds.ensures ∙ c.in-Ok-Some-Uds.field-0-is ∙ ap Some c.in-Ok-Some-Uds.field-0-0-is)
    (record { promise = c.uds.ensures.promise; untouched = c.uds.ensures.untouched; causes = c.uds.ensures.causes })

pub returns-in-Err : goal.returns-in-Err
returns-in-Err g c = wanting_only is_uds (command_of (map string_bytes c.args.words.now)) _ _ _ _ _
