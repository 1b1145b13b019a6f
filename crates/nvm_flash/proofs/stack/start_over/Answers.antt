use Rattle.std.proofs.Common.{sym, subst}
use Rattle.nvm_core.specs.nvm_found.Found.{FailsToFind}
use Rattle.nvm_flash.proofs.Returning.{fails_alone}
use Rattle.nvm_flash.proofs.stack.start_over.Goals as goal

pub returns-in-Failed : goal.returns-in-Failed
returns-in-Failed g c =
    let starts = fails_alone g.D.MemDevice.told c.args.stack c.start.new.self c.start.result c.requires c.in-Failed.is c.start.ensures.starts in
    record {
      started = tt;
      keeps = tt;
      failed = subst (λ d. FailsToFind (g.D.MemDevice.told c.args.stack.device) (g.D.MemDevice.told d)) (sym c.into_device.ensures) starts.fails;
    }
