use Rattle.std.proofs.Common.{◌≡◌, ℕ, Some, length, map, slice_set, sym, subst, ap, ◌∙◌}
use Rattle.ram_blocks.specs.Told.{IsSynchronized}
use Rattle.ram_mirrors_sync.specs.Blocks.{IsStore, HasLooked, SyncValue, end_at, told_by}
use Rattle.ram_mirrors_sync.proofs.Belonging.{owns, ends_set, pair_there, size_there, none_there}
use Rattle.ram_mirrors_sync.proofs.Copies.{Keeps, keeps, end_there, store_now, told_same, out_shows, looked_now, none_to_refuse}
use Rattle.ram_mirrors_sync.proofs.sync.MirrorSyncSyncCalls.copy_out.Given.{Over}
use Rattle.ram_mirrors_sync.proofs.sync.MirrorSyncSyncCalls.copy_out.Goals as goal
use Rattle.ram_mirrors_sync.proofs.sync.MirrorSyncSyncCalls.copy_out.Goals.{In-Some, After-copy_out}

-- the end that is copied by stands at the block's place
there : (g : Over) (c : In-Some g) → end_at c.self.inside.ends.items c.from.result ≡ Some c.in-Some.end
there g c = end_there c.self.inside.ends.items c.args.self.now.ends c.from.result c.args.block (length c.args.into.now) c.index_mut.result.now c.in-Some.end (ap (λ (v : SyncValue g.row.N.Denot). v.ends) c.self.view_is) c.from.ensures c.requires c.index_mut.ensures.value c.in-Some.is

-- what was so of the ends before
kept : (g : Over) (c : After-copy_out g) → end_at c.self.inside.ends.items c.from.result ≡ Some c.in-Some.end → Keeps c.args.self.now.ends (slice_set c.self.inside.ends.items c.from.result (Some c.copy_out.new.self))
kept g c at = keeps c.self.inside.ends.items _ _ _ _ (ap (λ (v : SyncValue g.row.N.Denot). v.ends) c.self.view_is) at c.copy_out.ensures.copied.stays c.copy_out.ensures.copied.goes_on

pub returns-clause-copied : goal.returns-clause-copied
returns-clause-copied g c =
    let xs = c.self.inside.ends.items in
    let at = there g (goal.at.returns-clause-copied g c).In-Some in (
      none_to_refuse c.args.self.now.ends c.args.block,
      told_same xs c.from.result c.in-Some.end c.copy_out.new.self at c.copy_out.ensures.copied.rest ∙ ap (λ (v : SyncValue g.row.N.Denot). map told_by v.ends) c.self.view_is,
    )

pub returns-clause-stores_stay : goal.returns-clause-stores_stay
returns-clause-stores_stay g c = (kept g (goal.at.returns-clause-stores_stay g c).After-copy_out (there g (goal.at.returns-clause-stores_stay g c).In-Some)).stores

pub returns-clause-looks : goal.returns-clause-looks
returns-clause-looks g c =
    let xs = c.self.inside.ends.items in
    let new = slice_set xs c.from.result (Some c.copy_out.new.self) in
    let at = there g (goal.at.returns-clause-looks g c).In-Some in
    subst (λ (v : SyncValue g.row.N.Denot). HasLooked v.ends new c.args.block c.copy_out.result) c.self.view_is
    (subst (λ (k : ℕ). HasLooked xs new k c.copy_out.result) c.from.ensures
    (looked_now xs c.from.result c.in-Some.end c.copy_out.new.self c.copy_out.result at (out_shows _ _ _ _ c.copy_out.ensures.copied)))

pub returns-clause-looked_later : goal.returns-clause-looked_later
returns-clause-looked_later g c = λ since. (kept g (goal.at.returns-clause-looked_later g c).After-copy_out (there g (goal.at.returns-clause-looked_later g c).In-Some)).later since.ends

pub returns-clause-looked_earlier : goal.returns-clause-looked_earlier
returns-clause-looked_earlier g c = λ until. (kept g (goal.at.returns-clause-looked_earlier g c).After-copy_out (there g (goal.at.returns-clause-looked_earlier g c).In-Some)).earlier until.ends

pub copy_out-requires-clause-end : goal.copy_out-requires-clause-end
copy_out-requires-clause-end g c =
    let xs = c.self.inside.ends.items in
    let at = there g (goal.at.copy_out-requires-clause-end g c).In-Some in
    owns c.self.inside.mirrors.now xs c.args.block c.from.result c.pair.result.now c.in-Some.end c.self.invariant c.from.ensures at c.pair.ensures

pub returns-clause-store : goal.returns-clause-store
returns-clause-store g c =
    let xs = c.self.inside.ends.items in
    let new = slice_set xs c.from.result (Some c.copy_out.new.self) in
    let at = there g (goal.at.returns-clause-store g c).In-Some in
    subst (λ (k : ℕ). IsStore new k c.copy_out.result c.copy_out.new.into) c.from.ensures
    (store_now xs c.from.result c.in-Some.end c.copy_out.new.self c.copy_out.result c.copy_out.new.into at c.copy_out.ensures.copied.taken)

pub returns-clause-stays_over : goal.returns-clause-stays_over
returns-clause-stays_over g c = λ first h. record {
  mirrors = ap (λ (v : SyncValue g.row.N.Denot). v.mirrors) c.self.view_is ∙ h.mirrors;
  ends = (kept g (goal.at.returns-clause-stays_over g c).After-copy_out (there g (goal.at.returns-clause-stays_over g c).In-Some)).over first.ends h.ends;
}

pub pair-requires : goal.pair-requires
pair-requires g c =
    pair_there c.self.inside.mirrors.now c.self.inside.ends.items c.args.block c.from.result c.in-Some.end c.self.invariant c.from.ensures (there g (goal.at.pair-requires g c).In-Some)

pub copy_out-requires-clause-whole : goal.copy_out-requires-clause-whole
copy_out-requires-clause-whole g c =
    size_there c.self.inside.ends.items c.args.block c.from.result (length c.args.into.now) c.in-Some.end c.from.ensures (there g (goal.at.copy_out-requires-clause-whole g c).In-Some)
    (subst (λ (v : SyncValue g.row.N.Denot). IsSynchronized (map told_by v.ends) c.args.block (length c.args.into.now)) (sym c.self.view_is) c.requires)

pub unreachable-requires : goal.unreachable-requires
unreachable-requires g c =
    none_there c.self.inside.ends.items c.args.block c.from.result (length c.args.into.now) c.index_mut.result.now c.from.ensures c.index_mut.ensures.value c.in-None.is
    (subst (λ (v : SyncValue g.row.N.Denot). IsSynchronized (map told_by v.ends) c.args.block (length c.args.into.now)) (sym c.self.view_is) c.requires)

pub invariant_of-self : goal.invariant_of-self
invariant_of-self g c =
    ends_set c.self.inside.mirrors.now c.self.inside.ends.items c.args.block c.from.result c.pair.result.now c.copy_out.new.self c.self.invariant c.from.ensures c.pair.ensures c.copy_out.ensures.end
