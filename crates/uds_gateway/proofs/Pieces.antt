-- The entries of a request, with its answer.
use Rattle.std.specs.Option.{option_or}
use Rattle.std.specs.Prelude.{IsTrue, ◌≢◌, ◌↔◌, unwrap_or, IfOk, IfErr, IsErrOf, OnOk, Result, Ok, Err}
use Rattle.std.specs.List.{list_all}
use Rattle.std.proofs.Common.{◌≡◌, ◌<◌, ◌≤◌, ◌+◌, ℕ, Bool, true, false, List, [], ◌∷◌, ◌++◌, length, Option, Some, None, refl, sym, ap, ◌∙◌, subst, inl, inr, arith, append-nil}
use Rattle.std.proofs.lemmas.Bool.{and_parts}
use Rattle.std.proofs.lemmas.List.{append_assoc}
use Rattle.nvm_moves.specs.memif.Told.{DeviceTold}
use Rattle.nvm_moves.specs.memif.Clock.{Clock}
use Rattle.nvm_moves.specs.ram_blocks.Told.{Told}
use Rattle.nvm_moves.specs.nv_desk.declared.ask.AskFault.{AskFault}
use Rattle.nvm_moves.specs.nv_desk.declared.ask.AskFault.TheVariants as fault
use Rattle.nvm_moves.specs.block_machine.Words.{ReqResult, Request, Reply, Accepted, Refused, StatusIs, IndexIs, Entry, Ask, Pick, Wrote, Post, Off, Found, Configuration}
use Rattle.nvm_moves.specs.block_machine.State.{State}
use Rattle.nvm_moves.specs.block_machine.Blocks.{desc_of, asked_block}
use Rattle.nvm_moves.specs.block_machine.Legal.{HasStore}
use Rattle.nvm_moves.specs.block_machine.Reply.{fits}
use Rattle.nvm_moves.specs.nv_desk.Desk.{DeskState, state_of}
use Rattle.nvm_moves.specs.nvm_core.Stack.{StackState}
use Rattle.nvm_moves.specs.nvm_laws.declared.turned.Turned.{Turned}
use Rattle.nvm_moves.specs.nvm_laws.declared.turned.Turned.TheVariants as turned
use Rattle.uds_gateway.specs.declared.code.NegativeCode.{NegativeCode}
use Rattle.uds_gateway.specs.declared.code.NegativeCode.TheVariants.{ConditionsNotCorrect}
use Rattle.uds_gateway.specs.declared.stop.ServeStop.{ServeStop}
use Rattle.uds_gateway.specs.declared.stop.ServeStop.TheVariants as stop
use Rattle.uds_gateway.specs.Services.{asked_by}
use Rattle.uds_gateway.specs.Answers.{negative, posted_answer, answer_at, answer_in}
use Rattle.uds_gateway.specs.Jobs.{HasNone, HasOne, IsOwn, is_under_way, EndsPosted}
use Rattle.uds_gateway.specs.Turning.{ComesToPost, ComesToOff, Goes, is_on_way}
use Rattle.uds_gateway.specs.Serving.{ServesBy, Serves}
use Rattle.uds_gateway.specs.StackCalls.{IsRequested, MakesJob}
use Rattle.uds_gateway.proofs.Jobs.{accepted_one, refused_none, IsYesOrNo, own_cases, own_reply}
use Rattle.uds_gateway.proofs.JobTurns.{behind, adds_more}

-- the entry behind those on the way decides
pub answered : (request : List ℕ) (way : List Entry) (e : Entry) (answer : List ℕ) → IsTrue (list_all is_under_way way) → answer_at request e ≡ Some answer → answer_in request (way ++ e ∷ []) ≡ Some answer
answered request [] e answer under is = ap (λ (a : Option (List ℕ)). option_or a None) is
answered request (Pick block kind t ops ∷ es) e answer under is = answered request es e answer (and_parts true (list_all is_under_way es) under).1 is
answered request (Wrote i mark ops ∷ es) e answer under is = answered request es e answer (and_parts true (list_all is_under_way es) under).1 is
answered request (Ask caller r reply ∷ es) e answer under is = absurd (cc (and_parts false (list_all is_under_way es) under).0)
answered request (Post block r given refused ops ∷ es) e answer under is = absurd (cc (and_parts false (list_all is_under_way es) under).0)
answered request (Off ops ∷ es) e answer under is = absurd (cc (and_parts false (list_all is_under_way es) under).0)
answered request (Found marks ops ∷ es) e answer under is = absurd (cc (and_parts false (list_all is_under_way es) under).0)

-- THE JOB
-- what it asks for is stored
pub own_store : (c : Configuration) (asked : Request) → IsOwn asked → HasStore c asked
own_store c = own_cases (λ r. HasStore c r) (λ block. tt) (λ block content. refl)

pub went_off : (asked : Request) (answer : Turned) (old new : DeskState) → answer ≢ turned.Posted → is_on_way answer ≡ false → Goes asked answer old new → ComesToOff old new
went_off asked turned.Off old new other ends goes = goes
went_off asked turned.Posted old new other ends goes = absurd (other refl)
went_off asked turned.Idle old new other ends goes = absurd goes
went_off asked turned.Worked old new other ends goes = absurd (cc ends)
went_off asked turned.Picked old new other ends goes = absurd (cc ends)

-- an Ask that was entered fits
pub has_room : (r : Result Reply AskFault) (reply : Reply) (room : Bool) → r ≡ Ok reply → IsErrOf r fault.NoRoom ↔ room ≡ false → room ≡ true
has_room r reply true is exactly = refl
has_room r reply false is exactly = let none : IsErrOf r fault.NoRoom = exactly.1 refl in absurd (cc (none, is))

module _ {D C : Type 0} (told : D → DeviceTold) (clock : D → Clock) where
  -- a stack stays up
  pub requested_ready : (caller : ℕ) (r : Request) (result : Result Reply AskFault) (old new : StackState D C) → IsRequested told clock caller r result old new → new.ready ≡ true
  requested_ready caller r (Ok reply) old new is = ap (λ (s : StackState D C). s.ready) is.adds ∙ is.ready
  requested_ready caller r (Err why) old new is = ap (λ (s : StackState D C). s.ready) is.same ∙ is.ready

  -- the job of an accepted Ask is alone
  pub asked_one : (old new : StackState D C) (asked : Request) → IsOwn asked → HasNone (state_of old.desk) → IsRequested told clock 0 asked (Ok Accepted) old new → HasOne asked (state_of new.desk)
  asked_one old new asked own none is =
      subst (λ (s : State). HasOne asked s) (sym (behind old.desk new.desk (Ask 0 asked Accepted) (ap (λ (s : StackState D C). s.desk) is.adds))) (accepted_one old.desk.config old.desk.cap (state_of old.desk) 0 asked own none (sym is.replies))

  pub replied_job : (copies : C → List Told) (is_store : C → ℕ → ℕ → List ℕ → Type 0) (looked : C → C → ℕ → ℕ → Type 0) (asked : Request) (reply : Reply) (old new : StackState D C) → reply ≢ Accepted → IsRequested told clock 0 asked (Ok reply) old new
      → MakesJob told clock copies is_store looked asked (Ok reply) old new
  replied_job copies is_store looked asked Accepted old new other is = absurd (other refl)
  replied_job copies is_store looked asked (Refused why) old new other is = is
  replied_job copies is_store looked asked (StatusIs r) old new other is = is
  replied_job copies is_store looked asked (IndexIs i) old new other is = is

-- THE WHOLE PIECE
-- what an answer by the last entry is, where that is a Post, and where none comes for want of memory
abbrev IsByPost : List ℕ → List Entry → List ℕ → Type 0
IsByPost request entries answer = (h : List Entry) (block : ℕ) (posted : ReqResult) (given : Option (List ℕ)) (refused ops : ℕ) → entries ≡ h ++ Post block posted given refused ops ∷ [] → answer ≡ posted_answer request posted given

abbrev IsTooLong : ℕ → List Entry → ServeStop → Type 0
IsTooLong room entries why = (why ≡ stop.Memory) × ((h : List Entry) (block : ℕ) (posted : ReqResult) (given : Option (List ℕ)) (refused ops : ℕ) → entries ≡ h ++ Post block posted given refused ops ∷ [] → room < length (unwrap_or given []) + 3)

module _ (request : List ℕ) (asked : Request) (room : ℕ) (old mid new : DeskState) (asks : mid ≡ record old { entries = old.entries ++ Ask 0 asked Accepted ∷ [] }) (has : fits old.config old.cap (state_of old) 1 ≡ true) where
  posted_piece : (p : ComesToPost asked mid new) → EndsPosted asked (Ask 0 asked Accepted ∷ (p.comes.way ++ Post (asked_block asked) p.result p.given p.refused p.ops ∷ []))
  posted_piece p = record { result = p.result; given = p.given; refused = p.refused; ops = p.ops; ends = record { way = p.comes.way; under_way = p.comes.under_way; is = refl } }

  last : (p : ComesToPost asked mid new) → new.entries ≡ (mid.entries ++ p.comes.way) ++ Post (asked_block asked) p.result p.given p.refused p.ops ∷ []
  last p = ap (λ (d : DeskState). d.entries) p.comes.adds ∙ sym (append_assoc mid.entries p.comes.way (Post (asked_block asked) p.result p.given p.refused p.ops ∷ []))

  pub posted_serves : (result : Result (List ℕ) ServeStop) → (desc_of old.config (asked_block asked)).length + 3 ≤ room → ComesToPost asked mid new → IfOk result (IsByPost request new.entries) → IfErr result (IsTooLong room new.entries)
      → ServesBy old.config request (Ok asked) result old new × OnOk result (HasNone (state_of new))
  unfolding posted_piece
  posted_serves (Ok answer) small p ok err =
      let answer_is = ok (mid.entries ++ p.comes.way) (asked_block asked) p.result p.given p.refused p.ops (last p) in (
        record {
          piece = Ask 0 asked Accepted ∷ (p.comes.way ++ Post (asked_block asked) p.result p.given p.refused p.ops ∷ []);
          adds = adds_more old mid new (Ask 0 asked Accepted ∷ []) (p.comes.way ++ Post (asked_block asked) p.result p.given p.refused p.ops ∷ []) asks p.comes.adds;
          is = (has, inr (posted_piece p));
          answers = answered request p.comes.way (Post (asked_block asked) p.result p.given p.refused p.ops) (posted_answer request p.result p.given) p.comes.under_way refl ∙ ap (λ (a : List ℕ). Some a) (sym answer_is);
        },
        p.none,
      )
  posted_serves (Err stop.Memory) small p ok err =
      let over = err.1 (mid.entries ++ p.comes.way) (asked_block asked) p.result p.given p.refused p.ops (last p) in (
        record {
          piece = Ask 0 asked Accepted ∷ (p.comes.way ++ Post (asked_block asked) p.result p.given p.refused p.ops ∷ []);
          adds = adds_more old mid new (Ask 0 asked Accepted ∷ []) (p.comes.way ++ Post (asked_block asked) p.result p.given p.refused p.ops ∷ []) asks p.comes.adds;
          is = inr (posted_piece p, let more : room < length (unwrap_or (posted_piece p).given []) + 3 = over in omega (arith, small, more));
          answers = tt;
        },
        tt,
      )
  posted_serves (Err stop.Off) small p ok err = absurd (cc err.0)
  posted_serves (Err stop.NoRoom) small p ok err = absurd (cc err.0)

  pub off_serves : ComesToOff mid new → ServesBy old.config request (Ok asked) (Err stop.Off) old new
  off_serves p = record {
    piece = Ask 0 asked Accepted ∷ (p.comes.way ++ Off p.ops ∷ []);
    adds = adds_more old mid new (Ask 0 asked Accepted ∷ []) (p.comes.way ++ Off p.ops ∷ []) asks p.comes.adds;
    is = (has, record { ops = p.ops; ends = record { way = p.comes.way; under_way = p.comes.under_way; is = refl } });
    answers = tt;
  }

none_more : (d : DeskState) → d ≡ record d { entries = d.entries ++ [] }
none_more d = ap (λ (h : List Entry). record d { entries = h }) (sym (append-nil d.entries))

module _ {D C : Type 0} (told : D → DeviceTold) (clock : D → Clock) (copies : C → List Told) (is_store : C → ℕ → ℕ → List ℕ → Type 0) (looked : C → C → ℕ → ℕ → Type 0) (c : Configuration) (request : List ℕ) (asked : Request) (old new : StackState D C)
    (config : old.desk.config ≡ c) where
  fits_so : (reply : Reply) (mid : StackState D C) → IsRequested told clock 0 asked (Ok reply) old mid → fits old.desk.config old.desk.cap (state_of old.desk) 1 ≡ true
  fits_so reply mid is = has_room (Ok reply) reply (fits old.desk.config old.desk.cap (state_of old.desk) 1) refl is.no_room

  desk_is : (reply : Reply) (mid : StackState D C) → IsRequested told clock 0 asked (Ok reply) old mid → mid.desk ≡ record old.desk { entries = old.desk.entries ++ Ask 0 asked reply ∷ [] }
  desk_is reply mid is = ap (λ (s : StackState D C). s.desk) is.adds

  -- it was posted, and is answered by its Post
  pub job_answered : (room : ℕ) (result : Result (List ℕ) ServeStop) → (desc_of c (asked_block asked)).length + 3 ≤ room → MakesJob told clock copies is_store looked asked (Ok Accepted) old new
      → IfOk result (IsByPost request new.desk.entries) → IfErr result (IsTooLong room new.desk.entries) → ServesBy c request (Ok asked) result old.desk new.desk × OnOk result (HasNone (state_of new.desk))
  job_answered room result small (mid, asks, turns, comes) ok err =
      subst (λ (x : Configuration). ServesBy x request (Ok asked) result old.desk new.desk × OnOk result (HasNone (state_of new.desk))) config
      (posted_serves request asked room old.desk mid.desk new.desk (desk_is Accepted mid asks) (fits_so Accepted mid asks) result
      (subst (λ (x : Configuration). (desc_of x (asked_block asked)).length + 3 ≤ room) (sym config) small) comes ok err)

  -- it was refused
  pub job_refused : (reply : Reply) → reply ≢ Accepted → IsOwn asked → HasNone (state_of old.desk) → MakesJob told clock copies is_store looked asked (Ok reply) old new
      → ServesBy c request (Ok asked) (Ok (negative request ConditionsNotCorrect)) old.desk new.desk × HasNone (state_of new.desk)
  job_refused Accepted other own none is = absurd (other refl)
  job_refused (Refused why) other own none is = (
    subst (λ (x : Configuration). ServesBy x request (Ok asked) (Ok (negative request ConditionsNotCorrect)) old.desk new.desk) config
        (record { piece = Ask 0 asked (Refused why) ∷ []; adds = desk_is (Refused why) new is; is = (fits_so (Refused why) new is, inl (why, refl)); answers = refl }),
    subst (λ (s : State). HasNone s) (sym (behind old.desk new.desk (Ask 0 asked (Refused why)) (desk_is (Refused why) new is))) (refused_none old.desk.config (state_of old.desk) 0 asked why none),
  )
  job_refused (StatusIs r) other own none is = absurd (subst (λ (x : Reply). IsYesOrNo x) (sym is.replies) (own_reply old.desk.config old.desk.cap (state_of old.desk) asked own))
  job_refused (IndexIs i) other own none is = absurd (subst (λ (x : Reply). IsYesOrNo x) (sym is.replies) (own_reply old.desk.config old.desk.cap (state_of old.desk) asked own))

  -- or it has no answer
  pub job_stopped : (why : ServeStop) → MakesJob told clock copies is_store looked asked (Err why) old new → ServesBy c request (Ok asked) (Err why) old.desk new.desk
  job_stopped why is = subst (λ (x : Configuration). ServesBy x request (Ok asked) (Err why) old.desk new.desk) config (by why is)
    where
      nothing : new ≡ old → new.desk ≡ record old.desk { entries = old.desk.entries ++ [] }
      nothing same = ap (λ (s : StackState D C). s.desk) same ∙ none_more old.desk

      by : (why : ServeStop) → MakesJob told clock copies is_store looked asked (Err why) old new → ServesBy old.desk.config request (Ok asked) (Err why) old.desk new.desk
      by stop.Off (mid, asks, turns, comes) = off_serves request asked 0 old.desk mid.desk new.desk (desk_is Accepted mid asks) (fits_so Accepted mid asks) comes
      by stop.NoRoom asks = record { piece = []; adds = nothing asks.same; is = (asks.no_room.0 refl, refl); answers = tt }
      by stop.Memory asks = record { piece = []; adds = nothing asks.same; is = inl refl; answers = tt }

-- WITHOUT AN ASK

pub unasked_serves : (c : Configuration) (request : List ℕ) (code : NegativeCode) (d : DeskState) (result : Result (List ℕ) ServeStop) → asked_by c request ≡ Err code
    → IfOk result (λ answer. answer ≡ negative request code) → IfErr result (λ why. why ≡ stop.Memory) → Serves c request result d d
unasked_serves c request code d result is ok err = subst (λ (a : Result Request NegativeCode). ServesBy c request a result d d) (sym is) (by result ok err)
  where
    by : (result : Result (List ℕ) ServeStop) → IfOk result (λ answer. answer ≡ negative request code) → IfErr result (λ why. why ≡ stop.Memory) → ServesBy c request (Err code) result d d
    by (Ok answer) ok err = record { piece = []; adds = none_more d; is = refl; answers = ap (λ (a : List ℕ). Some a) (sym ok) }
    by (Err stop.Memory) ok err = record { piece = []; adds = none_more d; is = refl; answers = tt }
    by (Err stop.Off) ok err = absurd (cc err)
    by (Err stop.NoRoom) ok err = absurd (cc err)

pub memory_serves : (c : Configuration) (request : List ℕ) (d : DeskState) → Serves c request (Err stop.Memory) d d
memory_serves c request d = by (asked_by c request)
  where
    by : (asked : Result Request NegativeCode) → ServesBy c request asked (Err stop.Memory) d d
    by (Ok asked) = record { piece = []; adds = none_more d; is = inl refl; answers = tt }
    by (Err code) = record { piece = []; adds = none_more d; is = refl; answers = tt }
