use Rattle.std.proofs.Common.{◌∙◌, ap₂}
use Rattle.std.proofs.lemmas.Result.{IfOk-weaker}
use Rattle.clap.specs.Words.{with_rule}
use Rattle.nvm_words.proofs.grammar.line.Goals as goal

pub returns : goal.returns
returns c =
    let one = c.in_ok-arg.ensures.shape c.needed.ensures.own ∙ ap₂ with_rule c.bare.ensures c.needed.ensures.rule in
    let two = c.in_ok-arg-2.ensures.shape c.needed-2.ensures.own ∙ ap₂ with_rule one c.needed-2.ensures.rule in
    let three = c.in_ok-arg-3.ensures.shape c.new.ensures.optional.1 ∙ ap₂ with_rule two c.new.ensures.rule in
    IfOk-weaker c.arg-4.result _ _ (λ r adds. adds.shape c.new-2.ensures.optional.1 ∙ ap₂ with_rule three c.new-2.ensures.rule) c.arg-4.ensures
