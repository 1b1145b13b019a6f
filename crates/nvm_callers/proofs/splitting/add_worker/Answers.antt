use Rattle.nvm_callers.proofs.Common.{ap, refl, View, Entry, Terms}
use Rattle.nvm_callers.proofs.splitting.add_worker.Goals as goal

pub returns-clause-one : goal.returns-clause-one
returns-clause-one g c =
    let that = c.split.ensures.that in (
      _,
      c.in-Ok.ensures.items,
      record {
        own = c.split.ensures.own.1;
        none = ap (λ (v : View Entry Terms). v.own) that;
        part = ap (λ (v : View Entry Terms). v.parts) that;
        first = refl;
        goes_on = refl;
      },
      c.remove.ensures.value,
    )
