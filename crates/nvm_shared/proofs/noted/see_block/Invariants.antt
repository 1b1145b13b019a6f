use Rattle.nvm_shared.specs.Noted.{MirrorsGoOn}
use Rattle.nvm_shared.proofs.noted.see_block.Given as goal

abbrev pub invariant-loop : goal.invariant-loop
invariant-loop g l = MirrorsGoOn l.initial.sync l.sync
