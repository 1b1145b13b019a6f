use Rattle.std.proofs.Common.{false}
use Rattle.nvm_tests.proofs.untold.make_untold.Given as goal

abbrev pub ghost-make : goal.ghost-make
ghost-make g a = false
