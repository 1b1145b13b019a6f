use Rattle.std.proofs.Common.{ap, ◌∙◌, ◌≤◌, length}
use Rattle.ram_mirrors.specs.Ends.{OwnerValue, TakerValue}
use Rattle.ram_mirrors.specs.Stores.{stored_in, AllStored}
use Rattle.ram_mirrors.proofs.Exchanges.{ends_at, joins, closes_ends, has_word, owner_table, taker_table}
use Rattle.ram_mirrors.proofs.mirror.Mirror.close.Goals as goal
use Rattle.ram_mirrors.proofs.mirror.Mirror.close.Given.{Over}
use Rattle.ram_mirrors.proofs.mirror.Mirror.close.Goals.{After-close_with-closed}

pub load-requires : goal.load-requires
load-requires g c =
    let i = c.taker.invariant in
    (taker_table c.taker.view_is c.self.view_is c.requires.own.1, has_word c.self.invariant.0, ends_at stored_in _ _ _ c.taker.inside.seat.me _ _ i.5.1 i.6 i.0 i.4)

pub join_seat-requires : goal.join_seat-requires
join_seat-requires g c =
    let l = c.load.ensures in (
      owner_table c.owner.view_is c.self.view_is c.requires.own.0,
      l.0 ∙ taker_table c.taker.view_is c.self.view_is c.requires.own.1,
      l.2.0,
      has_word c.self.invariant.0,
      joins stored_in _ _ _ _ _,
    )

-- what the joined seat knows at the end, told of the two ends
told : (g : Over) (c : After-close_with-closed g) → AllStored c.args.owner.stores c.args.taker.got × (c.args.taker.shown ≤ length c.args.owner.stores)
told g c = closes_ends stored_in _ _ c.owner.inside.seat.me.0 c.taker.inside.seat.me.0 _ _ _ _ _ _ _ c.load.ensures.2.1 (ap (λ m. m.0) c.join_seat.ensures.2) c.owner.invariant.0
    (ap (λ (z : OwnerValue _). z.stores) c.owner.view_is) (ap (λ (z : TakerValue _). z.got) c.taker.view_is) (ap (λ (z : TakerValue _). z.shown) c.taker.view_is) c.close_with-closed.ensures.values.2

pub returns-clause-got : goal.returns-clause-got
returns-clause-got g c = (told g (goal.at.returns-clause-got g c).After-close_with-closed).0

pub returns-clause-shown : goal.returns-clause-shown
returns-clause-shown g c = (told g (goal.at.returns-clause-shown g c).After-close_with-closed).1
