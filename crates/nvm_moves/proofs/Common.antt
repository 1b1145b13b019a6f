-- The names of other rooms, and of this one's definitions, that its proofs cite, passed on from one place. Declares nothing.
pub use Rattle.std.specs.Prelude.{IfSome, ◌||◌, is_none, option_map, option_to_list, IsTrue, not, ◌==◌, ◌&&◌, unwrap_or, slice_get, is_some, IsSome, drop, nat_le, nat_lt}
pub use Rattle.std.proofs.Common.{◌≡◌, inl, inr, ◌≤◌, ℕ, Bool, true, false, List, [], ◌∷◌, ◌++◌, Option, Some, None, refl, sym, ap, ◌∙◌, subst, arith, if◌then◌else◌, ◌⊎◌, ◌+◌, ◌<◌, length, append_assoc, zero, suc, take, min, length-append, ◌*◌, ◌-◌}
pub use Rattle.std.proofs.lemmas.Bool.{cases_Bool, and_parts, or_parts, eq-eqb, leb-true, ltb-true}
pub use Rattle.nvm_core.specs.nv_base.Count.{Rose, last_count, next_count, WereCounted}
pub use Rattle.nvm_core.specs.nv_base.Entry.{ops_of}
pub use Rattle.nvm_core.specs.memif.Clock.{Clock, TakesKept, Seals, SameClock}
pub use Rattle.nvm_core.specs.block_machine.Words.{Instance, Mark, Taken, Request, Reply, Entry, Ask, Pick, Wrote, Post, Off, Found, Configuration, ReqResult, JobKind, ReadAllJob, WriteAllJob, Write, Accepted, Fine, BlockDesc, Canceled, TookNothing, WriteJob, RestoreJob, Outcome}
pub use Rattle.nvm_core.specs.block_machine.State.{State, Job, Sweep, BlockState, jobs_of}
pub use Rattle.nvm_core.specs.block_machine.Blocks.{job_block, block_at, rank_of, is_pending, status_of, is_immediate, indices_of, kind_of, mark_by}
pub use Rattle.nvm_core.specs.block_machine.Next.{Next, next_of, BeginSweep, EndSweep, next_member, Nothing, PostMember, next_in}
pub use Rattle.nvm_core.specs.block_machine.Steps.{after_from, picked, wrote, after, step}
pub use Rattle.nvm_core.specs.promise_blocks.Work.{has_risen, Costs, Work, IsWorked, is_posted, AreWorked, Effort, tries_of}
pub use Rattle.nvm_core.proofs.Asking.{asked_hand, pending_stay}
pub use Rattle.promise_run.specs.Turns.{Moment, Move, EachMove, PostsPicked, entry_list, is_asked, is_found, is_picked, CountFailed, EndsCanceled, entries_of, moment_behind, found_behind, Among, turns_beside, ArePaidSince, BeginWhatIsDue, EachMoveSince, PostsUrgent, StaysAtRest, TakeKept, urgent_block, BeginsAt, AreMovesMade, BeginsIn, turns_in_all, HasImmediate, IsPaidSince, IsMoveMade, IsPostedWithin, ends, fails, is_off as is_off_entry, posts_other, IsPostedSoon}
pub use Rattle.nvm_moves.specs.Along.{Along, Bound, Cursor, Frame, bound_of, left_behind, next_by, one_less, renewed, cursor_behind}
pub use Rattle.nvm_moves.specs.Moved.{FitsHand, IsLawful, AreAsked, IsBound, IsTurnTold, LeavesTurns, IsHalfTold, IsPaidAt, IsAt, HasMoved, MovesBy, IsStartTold, IsStillTold, GrowsBy, ArePending, AreAsksMade, AreAsksTold, Owes, PostsAt}
pub use Rattle.nvm_core.specs.memif.Told.{DeviceTold, Fixed, Stand, faults_of, nothing_open, Open, is_open, most_open, is_off, Ended as Closed, PartTold, Part, IfElse, is_urgent, is_off as is_device_off, figures_at, most_of, op_of, plans}
pub use Rattle.nvm_core.specs.memif.Trials.{Lasts}
pub use Rattle.nvm_core.specs.promise_blocks.Payment.{Worn}
pub use Rattle.nvm_core.specs.DeviceWork.{AreWorkedTo, IsSimple, costs_in, work_in, tries_left, moment_in, moment_in as moment_of}
pub use Rattle.nvm_core.specs.Paying.{worn_so_far, OwesSince, has_urgent, TurnPays, PaysSince}
pub use Rattle.nvm_core.proofs.WorkLists.{none_worked, worked_more, one_worked, ask_worked}
pub use Rattle.promise_run.specs.DeviceTurns.{HadPages, MayGoOnAsTold, HasMovesTo, worn_by}
pub use Rattle.nvm_core.specs.block_machine.Legal.{MayPick, IsAllowed, MayPost, MayPostNext}
pub use Rattle.promise_run.specs.script_walks.Walk.{is_due, begins_with_pick_or_post, is_at_rest}
pub use Rattle.nvm_core.specs.memif.Calls.{InOrder, RoomIsLeft, FreesReady, Nearer, Works, urgent_first, Turns, JobTurns, pages_open, pages_urgent, Arms, IsSealing}
pub use Rattle.nvm_core.specs.nv_desk_copies.Posts.{IsPosted, IsPostedNext}
pub use Rattle.nvm_core.specs.nvm_laws.Halves.{IsHalf}
pub use Rattle.nvm_core.specs.nvm_laws.AtDevice.{GoesOn, AtDevice}
pub use Rattle.nvm_core.specs.nvm_laws.DueLaws.{with_entries, AreReplied, NextIsPending, IsServed, with_entries as with_more, IsServed as IsServedBy}
pub use Rattle.nvm_core.specs.nv_desk.Desk.{DeskState, state_of}
pub use Rattle.nvm_core.specs.job_progress.Hand.{HandState, is_finished, with_start}
pub use Rattle.nvm_core.specs.job_progress.JobInHand.{IsPaired, IsInHand, program_for}
pub use Rattle.nvm_core.specs.ram_blocks.Told.{Told}
pub use Rattle.nvm_core.specs.nvm_laws.Ties.{IsTied}
pub use Rattle.nvm_core.specs.nvm_laws.Due.{IsDue, IsDueInHand, IsNearer, post_first, StackNow, IsDueNext, pages_now, PostsDue}
pub use Rattle.nvm_core.specs.nvm_laws.DueCalls.{TurnServesDue, KeepsDue}
pub use Rattle.nvm_core.specs.nvm_laws.Keeps.{StaysKept, StackKeepsAsTold}
pub use Rattle.nvm_core.specs.nvm_laws.Turns.{AddsBy, hand_by}
pub use Rattle.nvm_core.specs.nvm_laws.declared.turned.Turned.{Turned}
pub use Rattle.nvm_core.specs.nvm_laws.declared.turned.Act.TheVariants.{Ended, Device}
pub use Rattle.nvm_core.proofs.TurnedBehind.{has_turned}
pub use Rattle.nvm_core.specs.BehindDevice.{TurnsDevice, asked_by}
pub use Rattle.nvm_core.specs.Stack.{StackState, PowersOff}
pub use Rattle.nvm_core.specs.Turns.{IsFirstHalf}
pub use Rattle.nvm_core.specs.nvm_laws.Traits.{KeepsSeal, TakesKeptInHand, IsSealedSince}
pub use Rattle.nvm_core.proofs.Paying.{half_lasts, device_lasts, half_pays, device_owes, device_urgency, device_adds, asked_free, device_picks_none, asked_picks_none, IsNoPick, half_goes}
pub use Rattle.nvm_core.specs.Due.{now_of}
pub use Rattle.nvm_core.specs.DueWrites.{IsDueFor, free_turns, pages_in, IsServedFor}
pub use Rattle.nvm_core.specs.JobNumbers.{IsOfBlock}
pub use Rattle.nvm_core.specs.OperationStart.{LeavesDevice}
pub use Rattle.nvm_core.specs.Work.{left_with, IsWithin, TakesTurns}
pub use Rattle.nvm_core.proofs.block_laws.HistoryLaws.{histories_step, histories_go_on, entries_are_counted}
pub use Rattle.promise_run.proofs.UrgentAsks.{not_true, urgent_is, posts_another, posts_own}
pub use Rattle.nvm_moves.specs.Seen.{Begun, Seen, all_with, frame_in, moment_by, most_by, frame_of, moment_seen, all_seen, left_seen, most_seen, work_seen, seen_as, seen_in}
pub use Rattle.nvm_moves.specs.Served.{HasBlocks, OfFirst, PostsUrgentOf, IsDueWithin, AreServed, DueAt, IsServable, IsAskedDue, ServesBy, due_by}
pub use Rattle.std.specs.Option.{option_map_or}
pub use Rattle.std.proofs.lemmas.List.{append-nil}
pub use Rattle.nvm_core.proofs.Turning.{same_clock, same_told, works_fixed, lasts_more, same_lasts}
pub use Rattle.nvm_core.specs.block_machine.StartUp.{at_first}
pub use Rattle.nvm_core.specs.nvm_device_laws.Tries.{is_hand_urgent}
pub use Rattle.nvm_core.specs.nvm_figures.Left.{most_turns, stack_left, ahead, most_at, over_tries, over_unstarted}
pub use Rattle.nvm_core.specs.block_machine.Reply.{reply_of}
pub use Rattle.nvm_core.specs.Operations.{left_on}
pub use Rattle.nvm_core.proofs.DeviceWork.{true_false, works_behind, risen, none_some}
pub use Rattle.nvm_core.proofs.TurnWork.{closed_tries, half_begins, hand_is_open, half_works}
pub use Rattle.nvm_core.specs.memif.declared.answer.JobResult.{JobResult}
pub use Rattle.nvm_core.specs.memif.declared.answer.JobResult.TheVariants.{JobOk}
pub use Rattle.nvm_core.specs.nvm_device_laws.Turn.{settled_by, wrote_by, TellsSlots}
pub use Rattle.nvm_core.proofs.LawTraits.{none_first, urgent_in_hand, device_turns_keep_seal, device_turns_take_kept, first_halves_keep_seal}
pub use Rattle.nvm_core.proofs.DueWrites.{more_due, takes_one, IsTurning, nearer_for, of_block_behind, turn_serves}
pub use Rattle.std.specs.List.{list_all}
pub use Rattle.nvm_core.specs.block_config.Block.{plain_block}
pub use Rattle.nvm_core.proofs.block_laws.Locality.{entries_give_status}
pub use Rattle.promise_run.specs.JobTurns.{job_turns, write_pages}
pub use Rattle.promise_run.specs.Operations.{HasWork, costs_of}
pub use Rattle.promise_run.specs.Promise.{making_of}
pub use Rattle.nvm_moves.specs.Beginning.{BeginsMoves, BeginsMovesBy, BeginsMovesOfBoth}
pub use Rattle.nvm_core.specs.block_machine.Sweeps.{sweep_result}
pub use Rattle.nvm_core.specs.block_machine.Results.{Answer}
pub use Rattle.std.proofs.lemmas.Bool.Decides.{leb_tells}
pub use Rattle.nvm_core.specs.nvm_figures.Urgent.{pages_of}
pub use Rattle.nvm_core.proofs.DueBlocks.{same_pages}
pub use Rattle.nvm_core.specs.block_laws.Consistent.{Each}
pub use Rattle.nvm_core.proofs.block_laws.NextLaws.{next_is_waiting}
pub use Rattle.nvm_core.proofs.DueAsking.{accepted_are_due, many_held, many_next}
pub use Rattle.nvm_core.proofs.JobNumbers.{accepted_of_block, jobs_below, stays_of_block}
pub use Rattle.promise_run.proofs.WalkedJobs.{each_right}
pub use Rattle.nvm_core.specs.memif.declared.answer.DeviceTurn.{DeviceTurn}
pub use Rattle.nvm_core.specs.nvm_laws.declared.turned.Act.{Act}
pub use Rattle.nvm_core.proofs.Traits.{half_takes_none}
pub use Rattle.nvm_core.proofs.TurnsMade.{half_adds}
pub use Rattle.nvm_core.proofs.Working.{device_counts}
pub use Rattle.std.proofs.Math.Nat.{mul-le-mul_right, suc-mul}
pub use Rattle.nvm_core.proofs.TriesLeft.{begun_takes, tries_bounded, turned_few, few_ahead}
pub use Rattle.nvm_core.proofs.Figures.{was_closed}
pub use Rattle.nvm_core.specs.nv_base.Marks.{number_of}
pub use Rattle.nvm_core.specs.nv_base.declared.job.Outcome.TheVariants.{First}
pub use Rattle.nvm_core.specs.job_programs.Program.{Program, after_by, is_again, operation, tried, works}
pub use Rattle.nvm_core.proofs.Tries.{next_ahead, start_takes}
pub use Rattle.nvm_core.specs.nvm_device_laws.Outcomes.{outcome_by}
pub use Rattle.nvm_core.proofs.JobAtOperation.{at_operation}
pub use Rattle.nvm_core.specs.block_machine.Prices.{price_in_faults}
pub use Rattle.nvm_core.proofs.LawPaying.{asked_urgency}
pub use Rattle.nvm_core.proofs.Trying.{since_stays, part_rises}
pub use Rattle.promise_run.proofs.TakenPages.{found_more}
pub use Rattle.promise_run.proofs.Paid.{since_too}
pub use Rattle.nvm_moves.specs.Worked.{KeepToWork, KeepsToWork}
pub use Rattle.promise_run.proofs.UrgentPosts.{soon_by, soon_more}
pub use Rattle.nvm_core.specs.StartUps.{StartsUp}
pub use Rattle.nvm_core.proofs.StartWork.{start_leaves}
pub use Rattle.promise_run.proofs.StartUps.{turns_start_none}
pub use Rattle.nvm_core.specs.job_progress.Asks.{is_of_jobs}
pub use Rattle.nvm_core.proofs.JobPowering.{jobs_keep_power}
pub use Rattle.promise_run.proofs.WorkedMoves.{worked_by}
pub use Rattle.promise_run.proofs.EntriesLeave.{IsSized, asked_stays, is_sized, picked_stays, wrote_stays}
pub use Rattle.promise_run.proofs.Resting.{at_rest, due_hand, due_off, due_rest, next_at, rests_next, some_none}
pub use Rattle.std.proofs.lemmas.Option.{slice_get_within}
