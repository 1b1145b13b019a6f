use Rattle.std.proofs.Common.{◌≡◌, ◌∙◌, refl}
use Rattle.block_machine.specs.Sweeps.{member_entries}
use Rattle.nv_desk_state.proofs.sweep_steps.take_next.Goals as goal

pub returns-clause-taken : goal.returns-clause-taken
returns-clause-taken c sw rest are on left =
    let h = rw c.in-Some.is at are in
    let writes : c.writes-writes.result ≡ sw.writes = c.writes-writes.ensures ∙ h.members.writes in
    let entries : c.member_entries-entries.result ≡ member_entries c.args.config.now sw.writes c.args.block =
    rw writes at c.member_entries-entries.ensures.value in
    let taken = c.take.ensures.left c.args.config.now sw rest h on left entries in
    record {
      sweep = taken;
      noted = λ j is under_way. rw is (c.take.ensures.noted c.args.config.now sw rest h on left);
      is = rw (c.of_member.ensures, entries, writes, taken.number) refl;
    }
