use Rattle.uds_runs.proofs.Given.{posts_give_lengths, none_gives_too_much}
use Rattle.uds_runs.proofs.laws.posts_give_lengths.Goals as goal

pub returns-clause-exact : goal.returns-clause-exact
returns-clause-exact c = posts_give_lengths

pub returns-clause-most : goal.returns-clause-most
returns-clause-most c = none_gives_too_much
