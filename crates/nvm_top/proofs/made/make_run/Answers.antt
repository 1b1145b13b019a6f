use Rattle.std.proofs.Common.{ℕ, sym, subst}
use Rattle.nvm_flash.specs.block_config.Config.{Configuration}
use Rattle.nvm_flash.specs.memif.Told.{First}
use Rattle.nvm_script.specs.Played.{ArePlayed}
use Rattle.script_player.specs.PlainTold.{told_by}
use Rattle.nvm_top.specs.Stack.{IsStarted}
use Rattle.nvm_top.proofs.made.make_run.Goals as goal

pub make_steps-end-requires-clause-played : goal.make_steps-end-requires-clause-played
make_steps-end-requires-clause-played g c = subst (λ (x : Configuration). ArePlayed x c.args.script.steps) (sym c.in-Ok.ensures.started.configuration) c.requires.played

pub returns-in-Ok-clause-made : goal.returns-in-Ok-clause-made
returns-in-Ok-clause-made g c = record {
  first = c.in-Ok.stack;
  started = subst (λ (n : ℕ). IsStarted c.args.script.config n (g.P.Flashes.before First) (told_by g.P.Device.MemDevice.told c.in-Ok.stack)) c.cuts_of.ensures c.in-Ok.ensures.started;
  all = c.make_steps-end.ensures.all;
  some = c.make_steps-end.ensures.some;
  configuration = c.make_steps-end.ensures.configuration;
  most = c.make_steps-end.ensures.most;
  keeps = (c.make_steps-end.ensures.keeps g.P.Flashes.before c.in-Ok.ensures.kept.0.0, c.make_steps-end.ensures.starts c.in-Ok.ensures.kept.0.1);
  begins = c.in-Ok.ensures.kept.1;
}
