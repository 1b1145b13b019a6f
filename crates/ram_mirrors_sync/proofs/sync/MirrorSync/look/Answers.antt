use Rattle.std.proofs.Common.{◌≡◌, ℕ, Some, map, slice_set, sym, subst, ap, ◌∙◌}
use Rattle.ram_blocks.specs.Told.{IsSynchronized}
use Rattle.ram_mirrors_sync.specs.Blocks.{EndsGoOn, HasLooked, SyncValue, end_at, told_by}
use Rattle.ram_mirrors_sync.proofs.Belonging.{owns, ends_set, pair_there, none_there}
use Rattle.ram_mirrors_sync.proofs.Copies.{keeps, one_goes_on, end_there, told_same, looked_now}
use Rattle.ram_mirrors_sync.proofs.sync.MirrorSync.look.Given.{Over}
use Rattle.ram_mirrors_sync.proofs.sync.MirrorSync.look.Goals as goal
use Rattle.ram_mirrors_sync.proofs.sync.MirrorSync.look.Goals.{In-Some}

-- the end that looks stands at the block's place
there : (g : Over) (c : In-Some g) → end_at c.self.inside.ends.items c.from.result ≡ Some c.in-Some.end
there g c = end_there c.self.inside.ends.items c.args.self.now.ends c.from.result c.args.block c.requires.synchronized.0 c.index_mut.result.now c.in-Some.end (ap (λ (v : SyncValue g.row.N.Denot). v.ends) c.self.view_is) c.from.ensures c.requires.synchronized.1 c.index_mut.ensures.value c.in-Some.is

pub returns-clause-told : goal.returns-clause-told
returns-clause-told g c =
    told_same c.self.inside.ends.items c.from.result c.in-Some.end c.look.new.self (there g (goal.at.returns-clause-told g c).In-Some) c.look.ensures.looked.rest
    ∙ ap (λ (v : SyncValue g.row.N.Denot). map told_by v.ends) c.self.view_is

pub returns-clause-over : goal.returns-clause-over
returns-clause-over g c =
    let xs = c.self.inside.ends.items in
    let new = slice_set xs c.from.result (Some c.look.new.self) in
    record {
      mirrors = ap (λ (v : SyncValue g.row.N.Denot). v.mirrors) c.self.view_is;
      ends = subst (λ (v : SyncValue g.row.N.Denot). EndsGoOn v.ends new) c.self.view_is
          (one_goes_on xs c.from.result c.in-Some.end c.look.new.self (there g (goal.at.returns-clause-over g c).In-Some) c.look.ensures.looked.goes_on);
    }

pub returns-clause-stores_stay : goal.returns-clause-stores_stay
returns-clause-stores_stay g c =
    (keeps c.self.inside.ends.items c.args.self.now.ends c.from.result c.in-Some.end c.look.new.self (ap (λ (v : SyncValue g.row.N.Denot). v.ends) c.self.view_is)
    (there g (goal.at.returns-clause-stores_stay g c).In-Some) c.look.ensures.looked.stays c.look.ensures.looked.goes_on).stores

pub returns-clause-looked : goal.returns-clause-looked
returns-clause-looked g c =
    let xs = c.self.inside.ends.items in
    let new = slice_set xs c.from.result (Some c.look.new.self) in
    let at = there g (goal.at.returns-clause-looked g c).In-Some in
    subst (λ (v : SyncValue g.row.N.Denot). HasLooked v.ends new c.args.block c.look.result) c.self.view_is
    (subst (λ (k : ℕ). HasLooked xs new k c.look.result) c.from.ensures
    (looked_now xs c.from.result c.in-Some.end c.look.new.self c.look.result at c.look.ensures.looked.shown))

pub look-requires : goal.look-requires
look-requires g c =
    let xs = c.self.inside.ends.items in
    let at = there g (goal.at.look-requires g c).In-Some in
    record { end = owns c.self.inside.mirrors.now xs c.args.block c.from.result c.pair.result.now c.in-Some.end c.self.invariant c.from.ensures at c.pair.ensures }

pub pair-requires : goal.pair-requires
pair-requires g c =
    pair_there c.self.inside.mirrors.now c.self.inside.ends.items c.args.block c.from.result c.in-Some.end c.self.invariant c.from.ensures (there g (goal.at.pair-requires g c).In-Some)

pub unreachable-requires : goal.unreachable-requires
unreachable-requires g c =
    none_there c.self.inside.ends.items c.args.block c.from.result c.requires.synchronized.0 c.index_mut.result.now c.from.ensures c.index_mut.ensures.value c.in-None.is
    (subst (λ (v : SyncValue g.row.N.Denot). IsSynchronized (map told_by v.ends) c.args.block c.requires.synchronized.0) (sym c.self.view_is) c.requires.synchronized.1)

pub invariant_of-self : goal.invariant_of-self
invariant_of-self g c =
    ends_set c.self.inside.mirrors.now c.self.inside.ends.items c.args.block c.from.result c.pair.result.now c.look.new.self c.self.invariant c.from.ensures c.pair.ensures c.look.ensures.end
