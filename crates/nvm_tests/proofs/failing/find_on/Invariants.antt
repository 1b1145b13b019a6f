-- The device is made for this configuration, over this flash.
use Rattle.nvm_flash.specs.fls_devices.Cutter.{cutting, told_cutting}
use Rattle.nvm_flash.specs.promise_run.Promise.{making_of}
use Rattle.nvm_tests.proofs.failing.find_on.Given as goal

abbrev pub ghosts-found : goal.ghosts-found
ghosts-found g a = record { making = making_of a.config.now; entry = told_cutting (cutting (g.F.Flash.told a.flash) 0) }
