-- The job of a request, on a stack whose application stores in memory.
use Rattle.script_player.proofs.Common.{◌≡◌, ℕ, suc, List, [], ◌∷◌, ◌++◌, Result, Ok, Err, refl, sym, ap, subst, inl, inr, DeviceTold, Part, PartTold, Clock, AskFault, Request, Reply, Accepted, Refused, StatusIs, IndexIs, Entry, Ask, Post, Off, Configuration, State, PlainBlock, DeskState, asked_block, StackState, IsRequested, HasNone, IsOwn, IsYesOrNo, own_reply, refused_none, ServeStop, EndsRequest, IsServing, ServesMore, state_of, told_by, seen_by, kept_by}
use Rattle.uds_gateway.specs.declared.stop.ServeStop.TheVariants as stop
use Rattle.uds_gateway.specs.Services.{asked_by}
use Rattle.uds_gateway.specs.StackCalls.{MakesJob, MakesTurns}
use Rattle.uds_gateway.specs.nv_desk.declared.ask.AskFault.TheVariants as fault
use Rattle.script_player.specs.PlainKept.{starts_found}
use Rattle.script_player.proofs.PlainAsks.{ask_keeps, ask_lasts, ask_moved, ask_starts, ask_told}
use Rattle.script_player.proofs.PlainHalves.{are_told, is_now, is_looked}
use Rattle.script_player.proofs.PlainTurns.{some_turns, turns_kept, turns_start}
use Rattle.script_player.proofs.Served.{asked_state, asks_on, entries_asked, job_made, no_more}

module _ {D : Type 0} (device : D → DeviceTold) (clock : D → Clock) (c : Configuration) (request : List ℕ) (asked : Request) (is : asked_by c request ≡ Ok asked) (own : IsOwn asked)
    (first old new : StackState D (List PlainBlock)) (serving : IsServing (seen_by device clock first) (seen_by device clock old) (told_by device first) (told_by device old)) where
  -- it was accepted, and turns added these entries
  served : (mid : StackState D (List PlainBlock)) (piece : List Entry) → IsRequested device clock 0 asked (Ok Accepted) old mid → (n : ℕ) → MakesTurns device clock are_told is_now is_looked (suc n) mid new → new.desk.entries ≡ mid.desk.entries ++ piece
      → ServesMore (seen_by device clock first) (seen_by device clock new) (Ask 0 asked Accepted ∷ piece) (told_by device first) (told_by device old) (told_by device new)
  served mid piece asks n turns more =
      job_made (seen_by device clock first) (seen_by device clock old) (seen_by device clock mid) (seen_by device clock new) asked piece (told_by device first) (told_by device old) (told_by device mid) (told_by device new) own serving
      (ask_told device clock 0 asked old mid (Ok Accepted) asks) (ask_moved device clock 0 asked old mid (Ok Accepted) asks) (λ before kept. some_turns device clock n before mid new turns kept) more

  pub job_done : (reply : Reply) → HasNone (state_of (told_by device old)) → MakesJob device clock are_told is_now is_looked asked (Ok reply) old new
      → EndsRequest c request (seen_by device clock first) (seen_by device clock new) (Ok tt) (told_by device first) (told_by device old) (told_by device new)
  job_done Accepted none (mid, asks, (n, turns), comes) = (
    Ask 0 asked Accepted ∷ (comes.comes.way ++ Post (asked_block asked) comes.result comes.given comes.refused comes.ops ∷ []),
    served mid _ asks n turns (ap (λ (d : DeskState). d.entries) comes.comes.adds),
    rw is (inr (record { result = comes.result; given = comes.given; refused = comes.refused; ops = comes.ops; ends = record { way = comes.comes.way; under_way = comes.comes.under_way; is = refl } })),
    comes.none,
  )
  job_done (Refused why) none asks =
      let adds = ask_told device clock 0 asked old new (Ok (Refused why)) asks in (
        Ask 0 asked (Refused why) ∷ [],
        record {
          serving = asks_on (seen_by device clock first) (seen_by device clock old) (seen_by device clock new) asked (Refused why) (told_by device first) (told_by device old) (told_by device new) own serving adds (ask_moved device clock 0 asked old new (Ok (Refused why)) asks);
          adds = entries_asked asked (Refused why) (told_by device old) (told_by device new) adds;
        },
        rw is (inl (why, refl)),
        subst (λ (s : State). HasNone s) (sym (asked_state asked (Refused why) (told_by device old) (told_by device new) adds)) (refused_none old.desk.config (state_of (told_by device old)) 0 asked why none),
      )
  job_done (StatusIs r) none asks = absurd (subst (λ (x : Reply). IsYesOrNo x) (sym asks.replies) (own_reply old.desk.config old.desk.cap (state_of (told_by device old)) asked own))
  job_done (IndexIs i) none asks = absurd (subst (λ (x : Reply). IsYesOrNo x) (sym asks.replies) (own_reply old.desk.config old.desk.cap (state_of (told_by device old)) asked own))

  pub job_left : (why : ServeStop) → MakesJob device clock are_told is_now is_looked asked (Err why) old new
      → EndsRequest c request (seen_by device clock first) (seen_by device clock new) (Err why) (told_by device first) (told_by device old) (told_by device new)
  job_left stop.Off (mid, asks, (n, turns), comes) = (
    Ask 0 asked Accepted ∷ (comes.comes.way ++ Off comes.ops ∷ []),
    served mid _ asks n turns (ap (λ (d : DeskState). d.entries) comes.comes.adds),
    (asked, is, record { ops = comes.ops; ends = record { way = comes.comes.way; under_way = comes.comes.under_way; is = refl } }),
  )
  job_left stop.NoRoom asks =
      let (same, full) = ask_told device clock 0 asked old new (Err fault.NoRoom) asks in
      (no_more (seen_by device clock first) (seen_by device clock old) (seen_by device clock new) (told_by device first) (told_by device old) (told_by device new) same (ask_lasts device clock 0 asked old new (Err fault.NoRoom) asks) serving, (asked, is, full))
  job_left stop.Memory asks =
      no_more (seen_by device clock first) (seen_by device clock old) (seen_by device clock new) (told_by device first) (told_by device old) (told_by device new) (ask_told device clock 0 asked old new (Err fault.Memory) asks)
      (ask_lasts device clock 0 asked old new (Err fault.Memory) asks) serving

-- WHAT IS KEPT
-- what each request and each turn keeps a job keeps
module _ {D : Type 0} (device : D → DeviceTold) (clock : D → Clock) (asked : Request) (old new : StackState D (List PlainBlock)) where
  kept_in : (P : StackState D (List PlainBlock) → Type 0) → ((result : Result Reply AskFault) (s t : StackState D (List PlainBlock)) → IsRequested device clock 0 asked result s t → P s → P t)
      → ((n : ℕ) (s t : StackState D (List PlainBlock)) → MakesTurns device clock are_told is_now is_looked n s t → P s → P t) → (result : Result Reply ServeStop) → MakesJob device clock are_told is_now is_looked asked result old new → P old → P new
  kept_in P asks turns (Ok Accepted) (mid, one, (n, more), comes) kept = turns (suc n) mid new more (asks (Ok Accepted) old mid one kept)
  kept_in P asks turns (Ok (Refused why)) one kept = asks (Ok (Refused why)) old new one kept
  kept_in P asks turns (Ok (StatusIs r)) one kept = asks (Ok (StatusIs r)) old new one kept
  kept_in P asks turns (Ok (IndexIs i)) one kept = asks (Ok (IndexIs i)) old new one kept
  kept_in P asks turns (Err stop.Off) (mid, one, (n, more), comes) kept = turns (suc n) mid new more (asks (Ok Accepted) old mid one kept)
  kept_in P asks turns (Err stop.NoRoom) one kept = asks (Err fault.NoRoom) old new one kept
  kept_in P asks turns (Err stop.Memory) one kept = asks (Err fault.Memory) old new one kept

  pub job_keeps : (result : Result Reply ServeStop) → MakesJob device clock are_told is_now is_looked asked result old new → (before : Part → PartTold) → kept_by device clock old before → kept_by device clock new before
  job_keeps result job before = kept_in (λ s. kept_by device clock s before) (λ r s t one. ask_keeps device clock 0 asked s t r one before) (λ n s t more. turns_kept device clock n s t more before) result job

  pub job_starts : (result : Result Reply ServeStop) → MakesJob device clock are_told is_now is_looked asked result old new → starts_found device old → starts_found device new
  job_starts = kept_in (starts_found device) (λ r s t one. ask_starts device clock 0 asked s t r one) (turns_start device clock)
