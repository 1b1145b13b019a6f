use Rattle.std.proofs.Common.{◌≡◌, ◌∙◌, ap, true}
use Rattle.clap.specs.Simple.{app_of_fields}
use Rattle.clap.specs.Words.{App, app_of}
use Rattle.clap.specs.declared.builder.command.Command.{Command}
use Rattle.clap.specs.declared.builder.command.Command.TheOpen.{Command-F}
use Rattle.nvm_words.proofs.grammar.bare.Goals as goal

-- the settings of the bare command
abbrev set : App → App
set a = record a { top = record a.top { no_binary_name = true; disable_help_flag = true } }

pub returns : goal.returns
returns c =
    let set_is : app_of c.disable_help_flag.result ≡ set (app_of c.new.result) =
    ap app_of_fields (c.disable_help_flag.ensures ∙ ap (λ (f : Command-F Command). record f { disable_help_flag = true }) c.no_binary_name.ensures) in
    set_is ∙ ap set c.new.ensures.app
