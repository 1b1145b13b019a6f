-- The names of other rooms, and of this one's definitions, that its proofs cite, passed on from one place. Declares nothing.
pub use Rattle.std.specs.Prelude.{◌||◌, IfSome, option_to_list, slice_get, slice_index_or, All, Contains, unwrap_or, map, is_some, IsTrue, IsSome, vec_len, vec_capacity, AllPairs, nat_lt, ◌&&◌, nat_le, replicate, cond}
pub use Rattle.std.proofs.Common.{◌≡◌, ◌⊎◌, inl, inr, ℕ, zero, suc, ◌≤◌, ◌∙◌, not, Bool, true, false, List, [], ◌∷◌, Option, Some, None, refl, sym, ap, subst, arith, length, take, ◌==◌, ◌++◌, ◌<◌, drop, ◌≢◌, ◌+◌, length-append, append_assoc, length-take, ◌^◌, get_or, ◌-◌, add-one, ltb-true, max, option_map, set, lt_of_not-le, Err, ⊎_elim}
pub use mathlib.Core.Option.{some-ne-none, some-injective, some}
pub use Rattle.driver_moves.specs.nv_base.Result.{code_of}
pub use Rattle.driver_moves.specs.block_machine.Words.{ReqResult, Fine, Pending, Entry, Found, Request, Reply, Accepted, JobKind, WriteJob, Taken, TookNothing, TookContent, TookRefused, TookStale, Instance, Mark, Ask, Pick, Wrote, Post, Off, BlockDesc, Configuration, Read, Write, Restore, Erase, Invalidate}
pub use Rattle.driver_moves.specs.block_machine.Blocks.{is_pending, desc_of, block_at, is_synchronized, job_block, kind_of, status_of, names_ram}
pub use Rattle.driver_moves.specs.block_machine.Steps.{after, step, job_at, picked, in_hand, with_member}
pub use Rattle.turn_gate.specs.Entries.{Gave, Note, AllAgree, StartsWith, NotBelow, AllHeard, note}
pub use Rattle.driver_moves.specs.nvm_moves.script_walks.Callers.{tells_status, tells_off, told_last, IsInOrder, asks_of, program_of, WaitedFor, pending_block, requests_of}
pub use Rattle.driver_moves.specs.nvm_shared.StatusWords.{gives, off_word, is_ask, gives_by}
pub use Rattle.driver_moves.specs.nvm_shared.Statuses.{IsLast}
pub use Rattle.turn_gate.specs.declared.pass.View.{View}
pub use Rattle.driver_moves.specs.nvm_shared.declared.terms.Terms.{Terms}
pub use Rattle.driver_moves.specs.nvm_shared.Passes.{LearnsMore, IsDriven, PassValue, SharedState, IsUserOf, Asked, LearnsTurn}
pub use Rattle.ram_mirrors_sync.specs.Blocks.{Pairs, EndGoesOn, EndList, HasCameWith, HasLooked, IsOver, IsStore, SyncValue, end_at, told_by, AreClosed, AreMade, EndsGoOn, SideList, SideValue, side_at, AreSidesOf, CameWith, WasShown, AreIn, IsClosed, IsMade, pair_at, AreEndsOf}
pub use Rattle.script_callers.specs.declared.program.Program.{Program}
pub use Rattle.nvm_callers.specs.Deeds.{HasDone, Shows, EachWait, WereOver, HasWaited, NoneIsDone, AsksAreDone, StoresAreDone, WaitsAreDone, DeedsLast, DeedsHold}
pub use Rattle.nvm_callers.specs.Stored.{Stored, TellsDone, IsStoreOf, AreAsMany, StoredOne, stores_in, NoneIsStored, AsksStayStored, StoresLast, StoresAreStored, HasStored}
pub use Rattle.nvm_callers.specs.Calls.{Did, MayStore, HasPolled, KeepsPass, MayMake, IsAsk, IsAwait}
pub use Rattle.nvm_callers.specs.Endings.{StopsBy, EndsBy, FindsNoRoom, WaitsNext}
pub use Rattle.nvm_callers.specs.Callers.{EndsAt, HasMade, share_of, AllMade, HaveRun, worse, MayRun, GoesOn, HasWorked, IsFresh, WorkerMayGoOn, HasBegun, worst, with_parts}
pub use Rattle.nvm_callers.specs.declared.ending.Ending.{Ending}
pub use Rattle.nvm_callers.specs.declared.ending.Ending.TheVariants.{All as EndsAll, NoRoom, Memory}
pub use Rattle.std.proofs.lemmas.Bool.{cases_Bool, cases_lt, ne_eqb, eqb-true, eqb-false, eq-eqb, lt-ltb, le-ltb}
pub use Rattle.std.proofs.Math.Bool.{or-true, or-false, or_assoc}
pub use Rattle.driver_moves.specs.block_machine.State.{State, BlockState, Job, jobs_of}
pub use Rattle.driver_moves.specs.block_machine.Sweeps.{member_job}
pub use Rattle.driver_moves.specs.block_machine.Next.{Next, PickJob, BeginSweep, PickMember, PostMember, EndSweep, next_of}
pub use Rattle.driver_moves.specs.block_machine.Legal.{TakesForWrite, TakesBy, MayPick, IsAllowed, IsLegalFrom, IsLegal}
pub use Rattle.driver_moves.specs.block_laws.Consistent.{Each, Ascend}
pub use Rattle.driver_moves.specs.nvm_moves.script_walks.Words.{Step, StepKind, AskStep, Await as AwaitStep, Store as StoreStep}
pub use Rattle.driver_moves.specs.nvm_moves.script_walks.Walk.{store_content, copies_next, copies_by, TakesStore, TakesStores, store_by, stores_of}
pub use Rattle.driver_moves.specs.nvm_moves.script_walks.Looks.{Look, CopyIsShown, CopiesAreShown, CanBeStored, CanBeMade, AreInOrder}
pub use Rattle.driver_moves.proofs.nvm_moves.HistoryLaws.{histories_step}
pub use Rattle.nvm_callers.specs.Looked.{TookShown, AllTookShown, IsLookOf, look_behind, LooksAreOrdered, HasLooked as LooksAre, DrivingLooks}
pub use Rattle.atomic_table.proofs.Lists.{at_longer, at_last}
pub use Rattle.turn_gate.specs.Pass.{Has, knows, both, beginner, copied, noted, IsWithin, longer}
pub use Rattle.driver_moves.specs.nvm_shared.Numbers.{IsEntry, AreAt, AreAll}
pub use Rattle.driver_moves.proofs.nvm_shared.Numbering.{asks_by_number}
pub use Rattle.script_callers.specs.Deeds.{requests_in, deeds_of, deeds_by, deeds_from, MayDo}
pub use Rattle.nvm_callers.specs.Shares.{Share, IsOfShares, BeginsUnasked, SharesAsk, SharesHaveAll, SharesHold, NobodyElseAsks}
pub use Rattle.std.proofs.lemmas.List.{append-nil, take-append-drop, take_all, take-append-le, drop-append-le, get_or_past, length-set, drop_all, get_or_default, get_or-set_same, get_or-set_other, with_items_is, take_more, length-map, map-append}
pub use lib.ListN.{get_elem?}
pub use Rattle.driver_moves.specs.memif.Told.{DeviceTold, PartTold, Stand, Open, Ended as Closed, ops_of}
pub use Rattle.driver_moves.specs.memif.Clock.{Clock}
pub use Rattle.driver_moves.specs.ram_blocks.Told.{Told, Synchronized, told_at, to_refuse_by, to_refuse_of}
pub use Rattle.driver_moves.specs.nv_desk_copies.Front.{AreSynchronized}
pub use Rattle.driver_moves.specs.nvm_shared.Locked.{desk_with}
pub use Rattle.driver_moves.specs.nvm_shared.Driving.{DriverState, IsDriverOf, driver_of, stack_of, Drives, BeginsTurn, EndsTurn, TurnsBehind, SeesRequests}
pub use Rattle.nvm_callers.specs.Driven.{DrivesBy, DrivesOn, TurnsOn, HasDriven, DrivesFollow, StaysKeptOver}
pub use Rattle.std.proofs.lemmas.List.Elements.{All-contains, All-pop, All-take, All-filter, All-map, Contains-append_left, Contains-append_right, Contains-append_cases, filter_map-append, All-push, All-same}
pub use mathlib.Core.Logic.{dite}
pub use native.Mathlib.Decide.{ℕ_discrete, dec_le}
pub use Rattle.driver_moves.specs.nvm_moves.script_walks.Runs.{HadNoRoom, is_found, has_ended, AskedAll, IsNextAsk, IsRun}
pub use Rattle.script_callers.specs.declared.deed.Deed.{Deed}
pub use Rattle.script_callers.specs.Programs.{program_by, programs_of, does_something}
pub use Rattle.script_callers.specs.RunScripts.{AreRun}
pub use Rattle.script_callers.proofs.Apart.{programs_are_apart}
pub use Rattle.nvm_callers.specs.Shown.{HasStoredIn, NotesTellMade, DeedsAreSteps, IsStoreStep, ShownAreStored, TakenAreStored}
pub use Rattle.nvm_callers.specs.KeptSteps.{EndSo, IsClosedBy, CallersKeepSteps}
pub use Rattle.std.specs.Option.{option_and_then, option_map_or}
pub use Rattle.script_callers.specs.declared.deed.Deed.TheVariants.{Ask as AskDeed, Store as StoreDeed, Await, Store}
pub use Rattle.driver_moves.specs.nv_base.Count.{WereCounted}
pub use Rattle.driver_moves.specs.block_machine.Results.{Answer}
pub use Rattle.driver_moves.specs.nv_desk.Desk.{DeskState, state_of}
pub use Rattle.driver_moves.specs.nv_desk_copies.Posts.{IsPosted, IsPostedNext, goes_over, IsHandedOver}
pub use Rattle.driver_moves.specs.nvm_laws.declared.turned.Turned.{Turned}
pub use Rattle.driver_moves.specs.nvm_shared.Behind.{AreAsks, with_more, HandIsPending}
pub use Rattle.driver_moves.proofs.Uncut.{asks_uncut, first_on}
pub use Rattle.driver_moves.specs.promise_run.RunHalves.{offs_in, tells_no_refusal}
pub use Rattle.nvm_callers.specs.Added.{RefusesNone, IsUncut, HasAdded, DrivingAdds}
pub use Rattle.ram_mirrors_sync.specs.Ends.{EndValue, IsTaken, PairValue}
pub use Rattle.driver_moves.specs.nvm_shared.Noted.{StandsIn, IsPickShown}
pub use Rattle.nvm_callers.specs.Stores.{Along, SidesValue, bytes_at, stores_at, bytes_by, stores_by}
pub use Rattle.std.proofs.Math.Seq.{take-append_seam, take-suc, drop-cons}
pub use Rattle.driver_moves.specs.ram_blocks.declared.plain_block.PlainBlock.{PlainBlock}
pub use Rattle.driver_moves.specs.nvm_shared.Opening.{IsFirst, IsShared, terms_at}
pub use Rattle.nvm_callers.specs.Dealt.{AllDealt, AllGathered, AreApart, AreBelow, HasPlaces, is_store_into, store_into, moved, kept, IsDealt, IsFree, GoesOver, IsGathered, NoneIn, either_side}
pub use Rattle.nvm_callers.specs.Begun.{AreProgramsOf, IsBegun}
pub use Rattle.nvm_callers.specs.Ran.{KeepsOrder, WasRun, end_of}
pub use Rattle.nvm_callers.specs.Placed.{AllChanged, AllPlaced}
pub use Rattle.nvm_callers.specs.declared.threads.WorkerOf.{WorkerOf as Worker}
pub use Rattle.script_callers.proofs.Growing.{deeds_may_be_done, deeds_have_the_requests, deeds_append, requests_append}
pub use Rattle.std.proofs.lemmas.Bool.Decides.{eqb_tells, leb_tells}
pub use Rattle.nvm_script.specs.Rules.{sync_length_of, length_where_sync}
pub use Rattle.ram_mirrors.specs.Stores.{store_of, AllStored, store_number}
pub use Rattle.std.specs.List.{list_all, range_with_len}
pub use Rattle.std.proofs.lemmas.List.Folds.{list_all-append}
pub use Rattle.std.proofs.lemmas.List.Quantifiers.{all_pairs_push}
pub use Rattle.nvm_callers.specs.Joins.{Collects, NoneIsJoined, TurnsCollect, JoinsCollect, NothingIsCollected, CollectedAreAll}
pub use Rattle.nvm_callers.specs.Steering.{HasSteered, KeepsShares, TellsAlways}
pub use Rattle.driver_moves.proofs.nvm_shared.Words.{the_off_word_tells, words_tell_statuses}
pub use Rattle.nvm_callers.specs.Waits.{OverIsNotPending, Waited, OffEndsWaits, PollsEndWaits, WaitsLast}
pub use Rattle.driver_moves.specs.block_machine.StartUp.{at_first}
pub use Rattle.driver_moves.specs.nvm_moves.script_walks.Stores.{CopiesOf, IsStored, IsTakenStored}
pub use Rattle.driver_moves.proofs.nvm_moves.WalkedJobs.{each_append, hand_stored, waiting_stored, content_stored, each_in_hand, each_posted, each_wrote, member_copies, next_has, takes_by}
pub use Rattle.nvm_callers.specs.TakenCopies.{CopiesAreStores, CopiesHaveLooks}
pub use Rattle.driver_moves.proofs.nvm_moves.Turning.{lasts_more, same_clock}
pub use Rattle.driver_moves.proofs.nvm_moves.Sizes.{still_synchronized}
pub use Rattle.driver_moves.proofs.nvm_moves.Keeping.{stays_more, stays_still}
pub use Rattle.driver_moves.proofs.nvm_moves.Paying.{half_lasts}
pub use Rattle.nvm_callers.specs.Kept.{HasKept, DrivingKeeps}
pub use Rattle.script_callers.specs.Laws.{ArePrograms}
pub use Rattle.driver_moves.specs.nvm_laws.Keeps.{StaysKept}
pub use Rattle.driver_moves.specs.nvm_moves.Moved.{HasMoved}
pub use Rattle.driver_moves.proofs.nvm_moves.Moved.{has_moved_more}
pub use Rattle.driver_moves.specs.Driving.{seen_of}
pub use Rattle.driver_moves.proofs.Driving.{driver_moved, none_moved, sees_moved}
pub use Rattle.driver_moves.specs.memif.declared.answer.JobResult.TheVariants.{JobOk}
pub use Rattle.driver_moves.specs.nvm_device_laws.Turn.{settled_by, wrote_by}
pub use Rattle.driver_moves.specs.nvm_laws.Turns.{AddsBy}
pub use Rattle.driver_moves.specs.nvm_laws.declared.turned.Act.TheVariants.{Ended, Device}
pub use Rattle.driver_moves.specs.nvm_core.BehindDevice.{asked_by}
pub use Rattle.driver_moves.specs.nvm_core.OperationStart.{LeavesDevice}
pub use Rattle.driver_moves.specs.nvm_shared.Unplanned.{IsUnplanned, offs_by}
pub use Rattle.driver_moves.proofs.nvm_moves.StackMoves.{device_starts}
pub use Rattle.driver_moves.proofs.nvm_shared.Unplanned.{turns_stay_unplanned}
pub use Rattle.driver_moves.specs.block_machine.Reply.{fits}
pub use Rattle.nvm_callers.specs.Order.{BeginningsAsk, BeginningsKeepOrder, DeedsCanBeMade, AllIsAsked, FoundNoRoom, NoRoomIsHad}
pub use Rattle.ram_mirrors_sync.proofs.Copies.{looks_go_on}
pub use Rattle.std.proofs.lemmas.List.FromFn.{get_or-range_with_len, length-range_with_len}
pub use Rattle.driver_moves.specs.nvm_laws.Ties.{IsTied}
pub use Rattle.driver_moves.specs.nvm_laws.DueLaws.{NextIsPending}
pub use Rattle.driver_moves.specs.nvm_core.Stack.{StackState}
pub use Rattle.driver_moves.specs.ram_blocks.Tries.{Spends, OthersStay}
pub use Rattle.driver_moves.specs.nv_desk_copies.Takes.{took_refused, copies_out_by, copies_out_next, IsCopied}
pub use Rattle.driver_moves.specs.block_config.declared.block.RamKind.{RamKind}
pub use Rattle.driver_moves.specs.block_config.Config.{block_of}
pub use Rattle.driver_moves.specs.block_config.Block.{plain_block}
pub use Rattle.driver_moves.specs.promise_run.Run.{RunsBy}
pub use Rattle.std.proofs.lemmas.Option.{get_or_from_slice_get, slice_get_within, slice_get_read, slice_get_past, slice_get-get_or, slice_get-map, IfSome_then}
pub use Rattle.script_callers.proofs.Owning.{stores_are_of_one, by_owner, one_more}
pub use Rattle.driver_moves.proofs.nvm_moves.NewestStores.{stores_are_few}
pub use Rattle.look_laws.specs.Shown.{HasOneOwner}
pub use Rattle.look_laws.proofs.Shown.{shown_can_be_stored}
pub use Rattle.nvm_callers.specs.declared.caller.NotMade.{NotMade}
pub use Rattle.std.proofs.lemmas.Result.{IfOk-weaker}
pub use Rattle.driver_moves.specs.promise_run.Turns.{is_picked as picks}
