use Rattle.std.specs.Prelude.{List}
use Rattle.std.proofs.Common.{sym, subst}
use Rattle.nvm_core.specs.ram_blocks.Told.{Told, IsSynchronized}
use Rattle.nvm_shared.proofs.Seeing.{go_on_still, go_on_more, look_goes}
use Rattle.nvm_shared.proofs.noted.see_block.Goals as goal

pub loop-init : goal.loop-init
loop-init g c = go_on_still _ _ _ _ _

pub look-requires : goal.look-requires
look-requires g c =
    record { synchronized = (c.requires.synchronized.0, subst (λ (told : List Told). IsSynchronized told c.args.block c.requires.synchronized.0) (sym c.loop.invariant.same) c.requires.synchronized.1) }

pub loop-preserved : goal.loop-preserved
loop-preserved g c = go_on_more _ _ _ _ _ _ _ c.loop.invariant (look_goes _ _ c.look.ensures.told c.look.ensures.over c.look.ensures.stores_stay)

pub returns-then-number-look-clause-goes_on : goal.returns-then-number-look-clause-goes_on
returns-then-number-look-clause-goes_on g c = go_on_more _ _ _ _ _ _ _ c.loop.invariant (look_goes _ _ c.look.ensures.told c.look.ensures.over c.look.ensures.stores_stay)

pub returns-then-number-look-clause-seen : goal.returns-then-number-look-clause-seen
returns-then-number-look-clause-seen g c = (c.look.result, c.if-number-look.true, c.loop.invariant.earlier c.look.new.self c.args.block c.look.result c.look.ensures.looked)
