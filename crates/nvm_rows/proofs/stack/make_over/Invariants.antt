-- The device is made for this configuration, over this flash.
use Rattle.nvm_top.specs.nvm_flash.fls_devices.Cutter.{cutting, told_cutting}
use Rattle.nvm_top.specs.nvm_flash.promise_run.Promise.{making_of}
use Rattle.nvm_rows.proofs.stack.make_over.Given as goal

abbrev pub ghosts-make_on : goal.ghosts-make_on
ghosts-make_on a = record { making = making_of a.config; entry = told_cutting (cutting a.flash.told 0) }
