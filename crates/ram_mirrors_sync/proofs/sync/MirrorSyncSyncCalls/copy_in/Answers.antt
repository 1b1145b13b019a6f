use Rattle.std.proofs.Common.{◌≡◌, Some, ℕ, length, map, slice_set, sym, subst, ap, ◌∙◌}
use Rattle.ram_blocks.specs.Told.{IsSynchronized, told_at, handed_by}
use Rattle.ram_blocks.specs.Copies.{changed, handed_over, next_number}
use Rattle.ram_mirrors_sync.specs.Blocks.{SyncValue, end_at, told_by}
use Rattle.ram_mirrors_sync.proofs.Belonging.{owns, ends_set, pair_there, size_there, none_there}
use Rattle.ram_mirrors_sync.proofs.Copies.{Keeps, keeps, end_there, in_stores_stay, told_in, in_goes_on, none_to_refuse}
use Rattle.ram_mirrors_sync.proofs.sync.MirrorSyncSyncCalls.copy_in.Given.{Over}
use Rattle.ram_mirrors_sync.proofs.sync.MirrorSyncSyncCalls.copy_in.Goals as goal
use Rattle.ram_mirrors_sync.proofs.sync.MirrorSyncSyncCalls.copy_in.Goals.{In-Some, After-copy_in}

-- the end that is copied by stands at the block's place
there : (g : Over) (c : In-Some g) → end_at c.self.inside.ends.items c.from.result ≡ Some c.in-Some.end
there g c = end_there c.self.inside.ends.items c.args.self.now.ends c.from.result c.args.block (length c.args.from.now) c.index_mut.result.now c.in-Some.end (ap (λ (v : SyncValue g.row.N.Denot). v.ends) c.self.view_is) c.from.ensures c.requires c.index_mut.ensures.value c.in-Some.is

-- what was so of the ends before
kept : (g : Over) (c : After-copy_in g) → end_at c.self.inside.ends.items c.from.result ≡ Some c.in-Some.end → Keeps c.args.self.now.ends (slice_set c.self.inside.ends.items c.from.result (Some c.copy_in.new.self))
kept g c at = keeps c.self.inside.ends.items _ _ _ _ (ap (λ (v : SyncValue g.row.N.Denot). v.ends) c.self.view_is) at (in_stores_stay _ _ _ _ c.copy_in.ensures.copied) (in_goes_on _ _ _ _ c.copy_in.ensures.copied)

pub returns-clause-copied : goal.returns-clause-copied
returns-clause-copied g c =
    let xs = c.self.inside.ends.items in
    let n = c.copy_in.result in
    let x = c.args.from.now in
    let new = c.copy_in.new.self in
    let at = there g (goal.at.returns-clause-copied g c).In-Some in
    let i : c.from.result ≡ c.args.block = c.from.ensures in
    let h = told_in xs c.from.result c.in-Some.end new n x at c.copy_in.ensures.copied in (
      none_to_refuse c.args.self.now.ends c.args.block,
      h.0 ∙ ap (λ (k : ℕ). next_number (handed_by (told_at (map told_by xs) k))) i ∙ ap (λ (v : SyncValue g.row.N.Denot). next_number (handed_by (told_at (map told_by v.ends) c.args.block))) c.self.view_is,
      h.1 ∙ ap (λ (k : ℕ). changed k (handed_over x) (map told_by xs)) i ∙ ap (λ (v : SyncValue g.row.N.Denot). changed c.args.block (handed_over x) (map told_by v.ends)) c.self.view_is,
    )

pub returns-clause-looked_later : goal.returns-clause-looked_later
returns-clause-looked_later g c = λ since. (kept g (goal.at.returns-clause-looked_later g c).After-copy_in (there g (goal.at.returns-clause-looked_later g c).In-Some)).later since.ends

pub returns-clause-looked_earlier : goal.returns-clause-looked_earlier
returns-clause-looked_earlier g c = λ until. (kept g (goal.at.returns-clause-looked_earlier g c).After-copy_in (there g (goal.at.returns-clause-looked_earlier g c).In-Some)).earlier until.ends

pub copy_in-requires-clause-end : goal.copy_in-requires-clause-end
copy_in-requires-clause-end g c =
    let xs = c.self.inside.ends.items in
    let at = there g (goal.at.copy_in-requires-clause-end g c).In-Some in
    owns c.self.inside.mirrors.now xs c.args.block c.from.result c.pair.result.now c.in-Some.end c.self.invariant c.from.ensures at c.pair.ensures

pub returns-clause-stores_stay : goal.returns-clause-stores_stay
returns-clause-stores_stay g c = (kept g (goal.at.returns-clause-stores_stay g c).After-copy_in (there g (goal.at.returns-clause-stores_stay g c).In-Some)).stores

pub returns-clause-stays_over : goal.returns-clause-stays_over
returns-clause-stays_over g c = λ first h. record {
  mirrors = ap (λ (v : SyncValue g.row.N.Denot). v.mirrors) c.self.view_is ∙ h.mirrors;
  ends = (kept g (goal.at.returns-clause-stays_over g c).After-copy_in (there g (goal.at.returns-clause-stays_over g c).In-Some)).over first.ends h.ends;
}

pub pair-requires : goal.pair-requires
pair-requires g c =
    pair_there c.self.inside.mirrors.now c.self.inside.ends.items c.args.block c.from.result c.in-Some.end c.self.invariant c.from.ensures (there g (goal.at.pair-requires g c).In-Some)

pub copy_in-requires-clause-whole : goal.copy_in-requires-clause-whole
copy_in-requires-clause-whole g c =
    size_there c.self.inside.ends.items c.args.block c.from.result (length c.args.from.now) c.in-Some.end c.from.ensures (there g (goal.at.copy_in-requires-clause-whole g c).In-Some)
    (subst (λ (v : SyncValue g.row.N.Denot). IsSynchronized (map told_by v.ends) c.args.block (length c.args.from.now)) (sym c.self.view_is) c.requires)

pub unreachable-requires : goal.unreachable-requires
unreachable-requires g c =
    none_there c.self.inside.ends.items c.args.block c.from.result (length c.args.from.now) c.index_mut.result.now c.from.ensures c.index_mut.ensures.value c.in-None.is
    (subst (λ (v : SyncValue g.row.N.Denot). IsSynchronized (map told_by v.ends) c.args.block (length c.args.from.now)) (sym c.self.view_is) c.requires)

pub invariant_of-self : goal.invariant_of-self
invariant_of-self g c =
    ends_set c.self.inside.mirrors.now c.self.inside.ends.items c.args.block c.from.result c.pair.result.now c.copy_in.new.self c.self.invariant c.from.ensures c.pair.ensures c.copy_in.ensures.end
