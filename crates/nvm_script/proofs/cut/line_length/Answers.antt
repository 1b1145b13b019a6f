use Rattle.nvm_script.proofs.Places.{line_by_newline, line_by_end}
use Rattle.nvm_script.proofs.cut.line_length.Goals as goal

pub returns-in-Some-clause-first : goal.returns-in-Some-clause-first
returns-in-Some-clause-first c = line_by_newline c.args.text.now c.in-Some.at c.in-Some.ensures

pub returns-in-None-clause-first : goal.returns-in-None-clause-first
returns-in-None-clause-first c = line_by_end c.args.text.now c.requires c.in-None.ensures
