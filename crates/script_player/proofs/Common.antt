-- The names of other rooms, and of this one's definitions, that its proofs cite, passed on from one place. Declares nothing.
pub use Rattle.std.proofs.Common.{◌≡◌, ℕ, Bool, false, inl, inr, Option, None, List, [], ◌∷◌, ◌++◌, IsTrue, Some, refl, sym, ap, ◌∙◌, subst, append_assoc, append-nil, ◌<◌, ◌≤◌, ◌+◌, ◌⊎◌, true, length, arith, take, rules, ◌≢◌, get_or-set_other, zero, suc, get_or, ◌*◌, ◌^◌, replicate, add-one, length-append, length-set, drop, Result, Ok, Err, get_or-set_same, OnErr}
pub use Rattle.std.proofs.lemmas.List.{append_cancel_left, map-append, take_more, map-set, length-map, ext_get_or, length-replicate, take_all, take-append-drop, nil_from_length}
pub use Rattle.uds_gateway.specs.block_machine.Words.{Instance, Mark, Request, Reply, Entry, Ask, Pick, Wrote, Post, Off, Found, Configuration, ReqResult, JobKind, WriteJob, Taken, TookNothing, TookContent, TookRefused, TookStale, BlockDesc, Accepted, Refused, StatusIs, IndexIs}
pub use Rattle.uds_gateway.specs.block_machine.State.{State, Job, BlockState, Sweep}
pub use Rattle.uds_gateway.specs.script_walks.Words.{Step, Drain, StepKind, AskStep, Refuse, Cut, CutSecond, Store, Turn, Restart}
pub use Rattle.uds_gateway.specs.script_walks.Turn.{IsTurn, TakesNewest, IsOfTurn, IsOneOrNone}
pub use Rattle.uds_gateway.specs.promise_run.Turns.{Moment, Move, entry_list, entries_of, moment_behind, moment_after, AreMovesOf, AreMoves, FindsWork, all_moves, IsInTime, AreInTime, Planned, planned_by, CutsCome, AreTurnsMade, HasMoves, ClosesAtDrains, FindWorkAtDrains, turns_beside}
pub use Rattle.uds_gateway.specs.block_machine.Steps.{after_from, step, after}
pub use Rattle.script_player.specs.Told.{StackTold, state_of, moment_of, IsGrown, IsNoEarlier, AreCut, TellsOff, plan_behind, ops_at, desk_of}
pub use Rattle.uds_gateway.specs.nvm_moves.Seen.{Seen, moment_seen, seen_as, seen_in}
pub use Rattle.uds_gateway.specs.nvm_moves.Moved.{MovesBy}
pub use Rattle.uds_gateway.proofs.MovesAlong.{entries_more}
pub use Rattle.uds_gateway.proofs.Moved.{moves_more, none_moves}
pub use Rattle.script_player.specs.Paying.{TurnMoves, IsSeen, LastsOn, AskMoves, StartsAnew, CameBy, StartMoves}
pub use Rattle.script_player.specs.Calls.{AllTell, MakesTurn, AddsAsk, Refuses, Arms, Stores, Turns, IsAnswer, Lowers, AreExplained, StartsAgain, is_last, Asks}
pub use Rattle.uds_gateway.proofs.PlannedCuts.{from_more, none_in_time, in_time_more}
pub use Rattle.script_player.specs.Kept.{AreMade, HasTurned, AllFindWork, MakesTurns, Drains, StaysCalm, has_work}
pub use Rattle.std.specs.Prelude.{◌||◌, min, slice_get, not, option_map, ◌==◌, ◌&&◌, ◌-◌, unwrap_or, map, nat_le, slice_set, if◌then◌else◌, is_some, IsErrOf, ◌↔◌, OnOk, IfErr, IfSome, IsSome}
pub use Rattle.std.proofs.lemmas.Bool.Decides.{leb_tells, eqb_tells}
pub use Rattle.uds_gateway.specs.nv_base.Count.{last_count, next_count, WereCounted, Rose}
pub use Rattle.uds_gateway.specs.memif.Told.{DeviceTold, PartTold, Part, Fixed, Stand, Open, ops_of, faults_of, is_off, armed, Ended as At, nothing_open, First, Second, Ended, part_at, IfElse}
pub use Rattle.uds_gateway.specs.memif.Clock.{Clock, Past, Seals, TakesKept}
pub use Rattle.uds_gateway.specs.memif.Calls.{PartTurns, InOrder, IsOf, Works, IsCut, PlanStays, FreesReady}
pub use Rattle.uds_gateway.specs.nvm_laws.declared.turned.Turned.{Turned}
pub use Rattle.uds_gateway.specs.promise_run.Run.{DueCut, Added, CutsAre, plan_after, EachPiece, HasNoRoom, Event, Made, events_of, Played, HadRoom}
pub use Rattle.script_player.specs.PlainTold.{plan_from, plan_in, takes_in, came_in, ops_in, told_by, due_cut, to_refuse_in, shown, unplanned_in, causes_in}
pub use Rattle.std.proofs.lemmas.List.Sums.{sum_by_push, fold-append, sum_by-append, sum_by-cons}
pub use Rattle.script_player.specs.Made.{cuts_in, cuts_of, IsFresh, IsExplained, IsMade, IsLeft, Makes, HasWalked, IsAsked, WereLeft, WasBroken}
pub use Rattle.uds_gateway.proofs.HistoryLaws.{histories_step, histories_go_on, sums_grow, entries_are_counted}
pub use Rattle.script_player.specs.Coming.{IsComing, IsPending, PlansCuts, Stands, CarriesCuts, MissesNone}
pub use Rattle.script_player.specs.Walking.{planned_behind, AreUnderWay, IsWalking}
pub use Rattle.uds_gateway.specs.memif.Trials.{Lasts}
pub use Rattle.uds_gateway.specs.ram_blocks.declared.plain_block.PlainBlock.{PlainBlock}
pub use Rattle.uds_gateway.specs.nv_desk.Desk.{DeskState}
pub use Rattle.uds_gateway.specs.job_progress.Hand.{HandState}
pub use Rattle.uds_gateway.specs.nvm_device_laws.Turn.{TellsSlots, settled_by, wrote_by}
pub use Rattle.uds_gateway.specs.nvm_laws.declared.turned.FoundAnswer.{FoundAnswer}
pub use Rattle.uds_gateway.specs.nvm_core.Stack.{StackState, PowersOff}
pub use Rattle.uds_gateway.specs.nvm_core.StartUps.{Restarts, StartsUp, DownKeepsAsTold, StartsKeep}
pub use Rattle.script_player.specs.PlainKept.{IsKept, AreStartsFound, kept_by}
pub use Rattle.script_player.specs.PlainPaying.{seen_by}
pub use Rattle.uds_gateway.specs.nv_base.Entry.{ops_behind, ops_of as ops_told}
pub use Rattle.uds_gateway.specs.nv_base.declared.plan.Plan.{Plan}
pub use Rattle.uds_gateway.specs.block_machine.StartUp.{at_first}
pub use Rattle.uds_gateway.specs.ram_blocks.Told.{Told, Synchronized, IsSynchronized, to_refuse_by, told_at, to_refuse_of, sizes_of}
pub use Rattle.uds_gateway.specs.block_laws.Laws.{HistoriesStep, SumsGrow, EntriesAreCounted, HistoriesGoOn}
pub use Rattle.uds_gateway.specs.nv_base.Plan.{Planning, nearer, IsDue, planned}
pub use Rattle.uds_gateway.specs.ram_blocks.Copies.{next_number}
pub use Rattle.uds_gateway.specs.ram_blocks.Plain.{told_of, store_of, stored, refusing, no_plain, plain_blocks_of}
pub use Rattle.uds_gateway.specs.promise_run.Refusals.{asked_by, AreAsAsked, copy_told, copied_in, left_by, StepsRefuse, copied_out, has_content, IsAsAsked, RefusesAsAsked}
pub use Rattle.uds_gateway.specs.script_walks.Walk.{joined, is_due, is_at_rest, stores_of, copies_next, request_after, copies_by, TakesStore, IsPieceBy, begins_with_pick_or_post, last_store, is_played, AreTurns, IsPiece, IsWalkOf}
pub use Rattle.nvm_script.specs.Played.{ArePlayed, CanBePlayed, IsPlayed}
pub use Rattle.uds_gateway.specs.script_walks.Stores.{AreNewest, JobsTookStored}
pub use Rattle.uds_gateway.specs.promise_run.InRoom.{is_drain}
pub use Rattle.uds_gateway.proofs.WalkedJobs.{starts_keep_stored, steps_keep_stored, asks_keep_stored}
pub use Rattle.script_player.specs.Table.{HasLastStores, place_of, store_asked, HoldsSynchronized}
pub use Rattle.uds_gateway.specs.job_progress.JobInHand.{IsPaired}
pub use Rattle.uds_gateway.specs.nvm_core.Turns.{IsFirstHalf, IsSecondHalf}
pub use Rattle.uds_gateway.proofs.Resting.{at_rest, due_rest, rests_next, some_none, due_off, off_ends, rest_ends}
pub use Rattle.std.proofs.lemmas.Bool.{cases_Bool, and_parts, eqb-true, eq-eqb, or_left, or_right}
pub use Rattle.uds_gateway.specs.block_config.Block.{plain_block}
pub use Rattle.uds_gateway.specs.block_config.Config.{block_of}
pub use Rattle.nvm_script.specs.Rules.{length_where_sync, sync_length_of}
pub use Rattle.uds_gateway.specs.block_machine.Blocks.{desc_of, is_synchronized, job_block, names_ram, block_at, kind_of, asked_store, asked_block}
pub use Rattle.uds_gateway.specs.script_walks.StoreLaws.{is_store, KeepsStored}
pub use Rattle.uds_gateway.specs.block_machine.Results.{Answer}
pub use Rattle.uds_gateway.specs.block_machine.Next.{Next, PickJob, BeginSweep, PickMember, PostMember, EndSweep, next_of}
pub use Rattle.uds_gateway.specs.nv_desk_copies.Takes.{copies_out_next, copies_out_by, IsCopied, copies_out_for, IsFromCopies, IsCopiedOut}
pub use Rattle.uds_gateway.specs.nv_desk_copies.Front.{AreSynchronized}
pub use Rattle.uds_gateway.specs.block_machine.Legal.{MayPick, TakesBy, MayWrite, IsAllowed, MayPost, MayPostNext, TakesCopy, TakesForWrite, HasStore}
pub use Rattle.std.specs.List.{list_all}
pub use Rattle.std.proofs.lemmas.List.Folds.{list_all-append}
pub use Rattle.uds_gateway.specs.block_machine.Reply.{fits, reply_of}
pub use Rattle.uds_gateway.specs.declared.stop.ServeStop.{ServeStop}
pub use Rattle.uds_gateway.specs.Jobs.{HasOne, HasNone, IsOwn}
pub use Rattle.uds_gateway.specs.StackCalls.{IsRequested, IsTurned}
pub use Rattle.uds_gateway.specs.Turning.{ComesToPost, ComesToOff}
pub use Rattle.script_player.specs.Requests.{EndsRequest, AreServedSoFar, HasServed, is_of_request, AreOfRequests, no_stores, IsServing, ServesMore, ServesNoMore, LeavesRequests}
pub use Rattle.uds_gateway.specs.block_machine.Sweeps.{member_job, member_request}
pub use Rattle.uds_gateway.specs.promise_run.Completeness.{is_calm_entry}
pub use Rattle.uds_gateway.proofs.Turning.{rose_since, same_clock, same_told, told_before, rose_before}
pub use Rattle.uds_gateway.specs.nv_desk.declared.ask.AskFault.{AskFault}
pub use Rattle.uds_gateway.proofs.Halves.{device_fixed, never_idle, never_late}
pub use Rattle.uds_gateway.proofs.StackMoves.{stack_stays, device_starts, stack_arms, stack_asks, stack_starts, stack_turns, turned_ready}
pub use Rattle.std.specs.Vec.Iter.{into_iter_items, into_iter_len}
pub use Rattle.std.proofs.lemmas.Grind.{flat_map-append}
pub use Rattle.uds_gateway.proofs.FreshCopies.{none_to_refuse}
pub use Rattle.std.proofs.Math.Nat.{min-eq_left}
pub use Rattle.uds_gateway.proofs.NewestStores.{others_keep_newest, stores_are_newest, stores_are_few, last_stores_grow}
pub use Rattle.uds_gateway.proofs.Counted.{behind_more, counted_by}
pub use Rattle.uds_gateway.proofs.DeviceWork.{entry_is, entry_none}
pub use Rattle.uds_gateway.specs.promise_run.DeviceTurns.{HadPages, HasMovesTo, MayGoOnAsTold, worn_by}
pub use Rattle.uds_gateway.specs.promise_run.JobTurns.{write_pages}
pub use Rattle.uds_gateway.specs.promise_run.Operations.{costs_of}
pub use Rattle.uds_gateway.specs.promise_run.Promise.{making_of}
pub use Rattle.uds_gateway.proofs.Paid.{since_too}
pub use Rattle.uds_gateway.proofs.TakenPages.{taken_by}
pub use Rattle.uds_gateway.proofs.UrgentPosts.{urgent_by}
pub use Rattle.uds_gateway.proofs.WorkedBy.{worked_by}
pub use Rattle.uds_gateway.specs.nvm_moves.Beginning.{BeginsMoves}
pub use Rattle.uds_gateway.proofs.Beginning.{moves_came}
pub use Rattle.uds_gateway.specs.nv_base.Marks.{instance_of}
pub use Rattle.uds_gateway.specs.memif.declared.answer.JobResult.TheVariants.{JobOk}
pub use Rattle.uds_gateway.specs.nvm_laws.Turns.{AddsBy}
pub use Rattle.uds_gateway.specs.nvm_laws.declared.turned.Act.TheVariants.{Device}
pub use Rattle.std.proofs.Math.Seq.{map-set_same, get_or-append_seam}
pub use Rattle.uds_gateway.specs.nvm_core.BehindDevice.{TurnsDevice}
pub use Rattle.std.specs.Option.{option_map_or}
pub use Rattle.uds_gateway.specs.nv_desk_copies.Posts.{IsPosted, IsPostedNext, goes_over, IsHandedOver}
pub use Rattle.uds_gateway.specs.nvm_laws.Halves.{AddsPost}
pub use Rattle.uds_gateway.specs.nvm_laws.Ties.{IsTied}
pub use Rattle.uds_gateway.specs.memif.Marks.{ComesFrom}
pub use Rattle.uds_gateway.specs.nvm_laws.Keeps.{StaysKept, StackKeepsAsTold}
pub use Rattle.uds_gateway.specs.ram_blocks.Tries.{Spends, OthersStay}
pub use Rattle.uds_gateway.specs.promise_blocks.Operations.{founds}
pub use Rattle.uds_gateway.proofs.StartUps.{founds_add}
pub use Rattle.uds_gateway.specs.nvm_laws.Work.{stack_work}
pub use Rattle.std.proofs.lemmas.Option.{slice_get_within, get_or_from_slice_get}
pub use Rattle.uds_gateway.specs.declared.code.NegativeCode.{NegativeCode}
pub use Rattle.uds_gateway.proofs.Served.{served_more}
pub use Rattle.uds_gateway.proofs.Jobs.{accepted_one, refused_none, own_cases, own_reply, IsYesOrNo}
pub use Rattle.uds_gateway.proofs.WalkedTurns.{turns_keep_stored, keeping_goes_on, turns_grow}
pub use Rattle.uds_gateway.proofs.FirstStores.{first_are_newest}
pub use Rattle.uds_gateway.proofs.Walks.{walks_grow}
pub use Rattle.script_player.specs.declared.steps.StepFault.{StepFault}
pub use Rattle.script_player.specs.declared.steps.StepFault.TheVariants.{Flash, HistoryFull, Memory}
pub use Rattle.uds_gateway.specs.promise_blocks.OverDevice.{HasStarted}
pub use Rattle.uds_gateway.proofs.JobTurns.{turns_keep}
pub use Rattle.uds_gateway.proofs.Pieces.{asked_one, has_room, requested_ready}
pub use Rattle.uds_gateway.specs.declared.asked.AskedFault.{AskedFault}
pub use Rattle.uds_gateway.specs.Answers.{IsWhy}
