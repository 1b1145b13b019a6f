use Rattle.script_player.specs.Made.{cuts_of}
use Rattle.nvm_flash.specs.fls_devices.Cutter.{cutting, told_cutting}
use Rattle.nvm_flash.specs.promise_run.Promise.{making_of}
use Rattle.nvm_top.proofs.play.play_flash.Given as goal

abbrev pub ghosts-play_steps : goal.ghosts-play_steps
ghosts-play_steps g a = record { making = making_of a.script.config; entry = told_cutting (cutting (g.F.Flash.told a.flash) (cuts_of a.script.steps)) }
