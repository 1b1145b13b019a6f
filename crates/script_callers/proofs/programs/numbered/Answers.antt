use Rattle.std.proofs.Common.{ℕ, None, ap, ◌∙◌, sym}
use Rattle.block_machine.specs.Words.{Write}
use Rattle.script_callers.proofs.Counting.{number_is, as_asked, as_written, names_written}
use Rattle.script_callers.proofs.programs.numbered.Goals as goal

pub returns-in-Some : goal.returns-in-Some
returns-in-Some c =
    λ before own caller of owns counted.
    let block = c.in-Some.block in
    let is = sym c.in-Some.ensures in
    ap (λ (n : ℕ). Write block None n) (c.last_store.ensures ∙ number_is c.args.config.now before own caller block c.args.counts.now of (λ sync. owns block sync (names_written block c.args.request is)) counted c.requires)
    ∙ sym (as_written c.args.config.now own caller block c.args.request is)

pub returns-in-None : goal.returns-in-None
returns-in-None c = λ before own caller of owns counted. sym (as_asked c.args.config.now own caller c.args.request (sym c.in-None.ensures))
