use Rattle.std.proofs.Common.{◌<◌, length, sym, ap, ◌∙◌, arith, Some}
use Rattle.std.proofs.lemmas.Option.{slice_get-get_or}
use Rattle.job_pending.proofs.Index.{index_moves, index_stays, moved_below, moved_there, swapped_by}
use Rattle.job_pending.proofs.slots.take_at.Goals as goal

pub index_mut-requires : goal.index_mut-requires
index_mut-requires c =
    let old = c.args.jobs.now in
    let new = c.swap_remove-job.new.self in
    let swapped = swapped_by c.args.place _ _ old.items new.items old.ok.0 new.ok.0 c.swap_remove-job.ensures.len c.swap_remove-job.ensures.by_index in
    let below : c.args.place < length new.items = omega (arith, c.if-place-len.true, c.len.ensures, new.ok.0) in
    let low = moved_below c.args.at.now.items old.items new.items c.args.place c.index.result.now c.requires.indexed swapped below c.index.ensures in
    omega (arith, low, c.from-moved.ensures, c.block.ensures, c.args.at.now.ok.0)

pub returns-then-place-len-clause-value : goal.returns-then-place-len-clause-value
returns-then-place-len-clause-value c = slice_get-get_or c.args.jobs.now.items c.args.place c.swap_remove-job.result c.requires.below ∙ ap Some (sym c.swap_remove-job.ensures.value)

pub returns-else-place-len-clause-value : goal.returns-else-place-len-clause-value
returns-else-place-len-clause-value c = slice_get-get_or c.args.jobs.now.items c.args.place c.swap_remove-job.result c.requires.below ∙ ap Some (sym c.swap_remove-job.ensures.value)

pub returns-then-place-len-clause-indexed : goal.returns-then-place-len-clause-indexed
returns-then-place-len-clause-indexed c =
    let old = c.args.jobs.now in
    let new = c.swap_remove-job.new.self in
    let here = slice_get-get_or old.items c.args.place c.swap_remove-job.result c.requires.below ∙ ap Some (sym c.swap_remove-job.ensures.value) in
    let swapped = swapped_by c.args.place _ _ old.items new.items old.ok.0 new.ok.0 c.swap_remove-job.ensures.len c.swap_remove-job.ensures.by_index in
    let below : c.args.place < length new.items = omega (arith, c.if-place-len.true, c.len.ensures, new.ok.0) in
    rw (c.from-moved.ensures, c.block.ensures)
    (index_moves c.args.at.now.items old.items new.items c.args.place c.swap_remove-job.result c.requires.indexed here swapped c.index.result.now
    (moved_there new.items c.args.place c.index.result.now below c.index.ensures))

pub returns-else-place-len-clause-indexed : goal.returns-else-place-len-clause-indexed
returns-else-place-len-clause-indexed c =
    let old = c.args.jobs.now in
    let new = c.swap_remove-job.new.self in
    let here = slice_get-get_or old.items c.args.place c.swap_remove-job.result c.requires.below ∙ ap Some (sym c.swap_remove-job.ensures.value) in
    let swapped = swapped_by c.args.place _ _ old.items new.items old.ok.0 new.ok.0 c.swap_remove-job.ensures.len c.swap_remove-job.ensures.by_index in
    index_stays c.args.at.now.items old.items new.items c.args.place c.swap_remove-job.result c.requires.indexed here swapped
    (omega (arith, c.if-place-len.false, c.len.ensures, new.ok.0, c.requires.below, old.ok.0, c.swap_remove-job.ensures.len))
