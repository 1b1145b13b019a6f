use Rattle.nvm_flash.specs.fls_devices.Cutter.{cutting, told_cutting}
use Rattle.nvm_flash.specs.promise_run.Promise.{making_of}
use Rattle.nvm_top.proofs.run.run_flash.Given as goal

abbrev pub ghosts-run_with_origin : goal.ghosts-run_with_origin
ghosts-run_with_origin g a = record { making = making_of a.config; entry = told_cutting (cutting (g.F.Flash.told a.flash) 0) }
