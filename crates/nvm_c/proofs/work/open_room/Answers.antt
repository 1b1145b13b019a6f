use Rattle.std.proofs.Common.{subst}
use Rattle.nvm_c.specs.Unit.{UnitState, TakenFrom}
use Rattle.nvm_c.proofs.UnitLaws.{came_some, opens_back}
use Rattle.nvm_c.proofs.work.open_room.Goals as goal

pub returns-in-Err-boxed : goal.returns-in-Err-boxed
returns-in-Err-boxed g c =
    let making = g.O.Origin.making in let entry = g.O.Origin.entry in
    let taken = subst (λ (s : UnitState). TakenFrom making entry s c.close.result.bytes) c.in-Err-boxed.ensures.err c.close.ensures.taken c.args.config c.args.flash c.args.cuts c.requires.1 in (
      c.empty.ensures,
      came_some entry c.in-Err-boxed.unit c.close.result.bytes c.close.ensures.came,
      (
        taken.0,
        opens_back c.args.config c.args.flash c.args.cuts making entry taken.0 c.in-Ok.unit c.requires.1 c.in-Ok.ensures.opened taken.2,
        taken.1,
      ),
    )
