use Rattle.std.proofs.Common.{◌≤◌, map, string_bytes, sym, ap, ◌∙◌, Some, arith}
use Rattle.nvm_words.specs.Words.{command_of}
use Rattle.nvm_top.specs.Soak.{is_soak}
use Rattle.nvm_top.proofs.Calls.{wanting_only}
use Rattle.nvm_top.proofs.Soaks.{few_rounds}
use Rattle.nvm_top.proofs.commands.soak_command.Goals as goal

pub soak-requires : goal.soak-requires
soak-requires g c =
    let few : c.in-Ok-Some-Soak.count ≤ 10000 = few_rounds (map string_bytes c.args.words.now) c.in-Ok-Some-Soak.seed c.in-Ok-Some-Soak.count (sym c.in-Ok-Some-Soak.ensures ∙ c.in-Ok-Some-Soak.field-0-is ∙ ap Some c.in-Ok-Some-Soak.field-0-0-is) in omega (arith, few)

pub returns-in-Err : goal.returns-in-Err
returns-in-Err g c = wanting_only is_soak (command_of (map string_bytes c.args.words.now)) _ _ _ _ _
