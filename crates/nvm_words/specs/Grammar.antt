-- The command line as it is told to `clap`: four positionals, the last two optional, and no flags. Which words it takes, and what
-- they mean, says Words.
use Rattle.std.specs.Prelude.{true, codes}
use Rattle.clap.specs.Words.{App, Rule, new_app, new_rule, with_rule}

abbrev pub needed : Rule → Rule
needed r = record r { required = true }

abbrev pub bare : App
bare = record (new_app (codes "nvm")) { top = record (new_app (codes "nvm")).top { no_binary_name = true; disable_help_flag = true } }

abbrev pub line : App
line = with_rule (with_rule (with_rule (with_rule bare (needed (new_rule (codes "IMAGE")))) (needed (new_rule (codes "COMMAND")))) (new_rule (codes "THIRD"))) (new_rule (codes "FOURTH"))
