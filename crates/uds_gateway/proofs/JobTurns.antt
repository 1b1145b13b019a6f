-- A turn, while one job is pending.
use Rattle.std.specs.Prelude.{IsTrue, ◌&&◌, ◌+◌, if◌then◌else◌}
use Rattle.std.specs.List.{list_all}
use Rattle.std.proofs.Common.{◌≡◌, ◌<◌, ℕ, zero, suc, Bool, true, false, List, [], ◌∷◌, ◌++◌, Option, Some, None, refl, sym, ap, ◌∙◌, subst, inl, inr, arith, append-nil}
use Rattle.std.proofs.lemmas.Bool.{and_parts}
use Rattle.std.proofs.lemmas.List.{append_assoc}
use Rattle.nvm_moves.specs.memif.Told.{DeviceTold, Stand, Open, Ended, ops_of, nothing_open}
use Rattle.nvm_moves.specs.memif.declared.answer.JobResult.TheVariants.{JobOk, JobFailed, JobPending, JobCanceled, BlockInconsistent, BlockInvalid}
use Rattle.nvm_moves.specs.memif.Clock.{Clock}
use Rattle.nvm_moves.specs.block_machine.Words.{Mark, Request, Entry, Ask, Pick, Wrote, Post, Off, Found}
use Rattle.nvm_moves.specs.block_machine.State.{State}
use Rattle.nvm_moves.specs.block_machine.Blocks.{asked_block, job_block}
use Rattle.nvm_moves.specs.block_machine.Steps.{step}
use Rattle.nvm_moves.specs.block_machine.Next.{Next, next_of}
use Rattle.nvm_moves.specs.ram_blocks.Told.{Told}
use Rattle.nvm_moves.specs.nv_desk.Desk.{DeskState, state_of}
use Rattle.nvm_moves.specs.nv_desk_copies.Posts.{IsPostedNext}
use Rattle.nvm_moves.specs.nvm_device_laws.Turn.{wrote_by, settled_by}
use Rattle.nvm_moves.specs.nvm_core.Stack.{StackState, PowersOff}
use Rattle.nvm_moves.specs.nvm_core.BehindDevice.{TurnsDevice, asked_by}
use Rattle.nvm_moves.specs.nvm_core.Turns.{IsFirstHalf, IsSecondHalf, Turns}
use Rattle.nvm_moves.specs.nvm_core.Work as work
use Rattle.nvm_moves.specs.nvm_laws.Halves.{PostsHand}
use Rattle.nvm_moves.specs.nvm_laws.Turns.{AddsBy}
use Rattle.nvm_moves.specs.nvm_laws.declared.turned.Turned.{Turned}
use Rattle.nvm_moves.specs.nvm_laws.declared.turned.Turned.TheVariants as turned
use Rattle.nvm_moves.specs.nvm_laws.declared.turned.Act.TheVariants as act
use Rattle.nvm_moves.proofs.HistoryLaws.{histories_step}
use Rattle.nvm_moves.proofs.StackMoves.{turned_ready}
use Rattle.uds_gateway.specs.Jobs.{HasNone, HasOne, is_under_way}
use Rattle.uds_gateway.specs.StackCalls.{IsTurned, MakesTurns}
use Rattle.uds_gateway.specs.Turning.{GoesOn, ComesTo, ComesToPost, Goes, is_on_way}
use Rattle.uds_gateway.proofs.Jobs.{next_waiting, picks_one, writes_one, posts_none, never_rests}

-- the state behind one entry more
pub behind : (old new : DeskState) (e : Entry) → new ≡ record old { entries = old.entries ++ e ∷ [] } → state_of new ≡ step old.config (state_of old) e
behind old new e adds = ap state_of adds ∙ histories_step old.config old.entries e

false_true : {b : Bool} → b ≡ false → b ≡ true → ⊥
false_true off on = cc (sym off ∙ on)

-- the entry of the device's turn is a Wrote, if there is one
abbrev writes : Option Entry → Type 0
writes None = Unit {0}
writes (Some (Wrote i mark ops)) = Unit {0}
writes (Some e) = ⊥

wrote_writes : (number ops : ℕ) (mark : Option Mark) → writes (wrote_by number mark ops)
wrote_writes number ops None = tt
wrote_writes number ops (Some mark) = tt

settled_writes : (old new : Stand) (ops : ℕ) → writes (settled_by old new ops)
settled_writes (Open j) (Open k) ops = tt
settled_writes (Open j) (Ended JobOk given) ops = wrote_writes j.number ops j.mark
settled_writes (Open j) (Ended JobFailed given) ops = tt
settled_writes (Open j) (Ended JobPending given) ops = tt
settled_writes (Open j) (Ended JobCanceled given) ops = tt
settled_writes (Open j) (Ended BlockInconsistent given) ops = tt
settled_writes (Open j) (Ended BlockInvalid given) ops = tt
settled_writes (Ended r given) new ops = tt

-- it leaves the job in hand
goes_by : (e : Option Entry) (asked : Request) (old new : DeskState) → writes e → HasOne asked (state_of old) → AddsBy e old new → GoesOn asked old new
goes_by None asked old new is one same = record {
  way = [];
  under_way = refl;
  adds = same ∙ ap (λ (h : List Entry). record old { entries = h }) (sym (append-nil old.entries));
  one = subst (λ (d : DeskState). HasOne asked (state_of d)) (sym same) one;
}
goes_by (Some (Wrote i mark ops)) asked old new is one adds = record {
  way = Wrote i mark ops ∷ [];
  under_way = refl;
  adds = adds.0;
  one = subst (λ (s : State). HasOne asked s) (sym (behind old new (Wrote i mark ops) adds.0)) (writes_one old.config (state_of old) asked i mark ops one);
}
goes_by (Some (Ask caller r reply)) asked old new is one adds = absurd is
goes_by (Some (Pick block kind t ops)) asked old new is one adds = absurd is
goes_by (Some (Post block r given refused ops)) asked old new is one adds = absurd is
goes_by (Some (Off ops)) asked old new is one adds = absurd is
goes_by (Some (Found marks ops)) asked old new is one adds = absurd is

module _ {D C : Type 0} (told : D → DeviceTold) (clock : D → Clock) (copies : C → List Told) (is_store : C → ℕ → ℕ → List ℕ → Type 0) (looked : C → C → ℕ → ℕ → Type 0) (old new : StackState D C) (asked : Request) (one : HasOne asked (state_of old.desk)) where
  -- a Pick takes the job in hand
  picks : IsFirstHalf told copies is_store looked (act.Ended turned.Picked) old new → GoesOn asked old.desk new.desk
  picks half =
      let block = half.half.0 in
      let picked = half.half.1 in
      let ops = ops_of (told new.device) in record {
        way = Pick block picked.kind picked.taken ops ∷ [];
        under_way = refl;
        adds = picked.adds;
        one = subst (λ (s : State). HasOne asked s) (sym (behind old.desk new.desk (Pick block picked.kind picked.taken ops) picked.adds))
            (picks_one old.desk.config (state_of old.desk) asked block ops picked.kind picked.taken one picked.allowed.1);
      }

  -- the Post of the job in hand
  posts_held : (Fits : Type 0) → PostsHand Fits (ops_of (told new.device)) old.desk new.desk (copies old.copies) (copies new.copies) → ComesToPost asked old.desk new.desk
  posts_held Fits held =
      let ops = ops_of (told new.device) in
      let e = Post (job_block held.job) held.is.result held.is.given held.is.refused ops in
      let none = posts_none old.desk.config (state_of old.desk) asked held.job (job_block held.job) held.is.refused ops held.is.result held.is.given one held.hand in record {
        result = held.is.result;
        given = held.is.given;
        refused = held.is.refused;
        ops = ops;
        comes = record {
          way = [];
          under_way = refl;
          adds = subst (λ (b : ℕ). new.desk ≡ record old.desk { entries = old.desk.entries ++ Post b held.is.result held.is.given held.is.refused ops ∷ [] }) none.1 held.is.adds;
        };
        none = subst (λ (s : State). HasNone s) (sym (behind old.desk new.desk e held.is.adds)) none.0;
      }

  -- none comes without one
  posts_next : (ops : ℕ) → (state_of old.desk).hand ≡ None → IsPostedNext (next_of old.desk.config (state_of old.desk)) ops old.desk new.desk (copies old.copies) (copies new.copies) → ⊥
  posts_next ops none is = elim one.job [
    | inl w ↦ subst (λ (n : Next). IsPostedNext n ops old.desk new.desk (copies old.copies) (copies new.copies)) (next_waiting old.desk.config asked (state_of old.desk) w) is
    | inr h ↦ cc (sym none ∙ h.hand)
  ]

  first : (answer : Turned) → PowersOff new.desk (told new.device) → IsFirstHalf told copies is_store looked (act.Ended answer) old new → Goes asked answer old.desk new.desk
  first turned.Idle power half = absurd (never_rests old.desk.config (state_of old.desk) asked one half.half.1.hand half.half.1.next)
  first turned.Worked power half = absurd half.half
  first turned.Picked power half = picks half
  first turned.Posted power half = elim half.half [ inl held ↦ posts_held _ held | inr next ↦ absurd (posts_next _ next.0 next.1) ]
  first turned.Off power half = absurd (false_true one.on (subst (λ (d : DeskState). (state_of d).off ≡ true) half.half.0.0 (power half.half.1)))

  second : (answer : Turned) (between : StackState D C) → IsFirstHalf told copies is_store looked act.Device old between → IsSecondHalf told clock answer between new → Goes asked answer old.desk new.desk
  second answer between half turn = by answer half.half.0.0 half.half.1 turn.turns turn.adds
    where
      by : (answer : Turned) → between.desk ≡ old.desk → nothing_open (told between.device) ≡ false → TurnsDevice answer (told between.device) (clock between.device) (told new.device) (clock new.device)
          → AddsBy (asked_by answer (told between.device).stand (told new.device).stand (ops_of (told new.device))) between.desk new.desk → Goes asked answer old.desk new.desk
      by turned.Idle same at turns adds = absurd (false_true at turns.0.0)
      by turned.Worked same at turns adds =
          goes_by (settled_by (told between.device).stand (told new.device).stand (ops_of (told new.device))) asked old.desk new.desk (settled_writes (told between.device).stand (told new.device).stand (ops_of (told new.device))) one
          (subst (λ (d : DeskState). AddsBy (settled_by (told between.device).stand (told new.device).stand (ops_of (told new.device))) d new.desk) same adds)
      by turned.Off same at turns adds = record {
        ops = ops_of (told new.device);
        comes = record {
          way = [];
          under_way = refl;
          adds = subst (λ (d : DeskState). new.desk ≡ record d { entries = d.entries ++ Off (ops_of (told new.device)) ∷ [] }) same adds.0;
        };
      }
      by turned.Picked same at turns adds = absurd turns
      by turned.Posted same at turns adds = absurd turns

-- ONE TURN
module _ {D C : Type 0} (told : D → DeviceTold) (clock : D → Clock) (copies : C → List Told) (is_store : C → ℕ → ℕ → List ℕ → Type 0) (looked : C → C → ℕ → ℕ → Type 0) (answer : Turned) (old new : StackState D C) (is : IsTurned told clock copies is_store looked answer old new) where
  pub turn_goes : (asked : Request) → HasOne asked (state_of old.desk) → Goes asked answer old.desk new.desk
  turn_goes asked one = elim is.turns [
    | inl half ↦ first told clock copies is_store looked old new asked one answer is.power_behind half
    | inr more ↦ second told clock copies is_store looked old new asked one answer more.0 more.1 more.2
  ]

  -- it stays up
  pub turn_ready : new.ready ≡ true
  turn_ready = turned_ready told clock copies is_store looked answer old new is.turns ∙ is.ready

-- nothing works while the job isn't in hand
works_in_hand : {D C : Type 0} (told : D → DeviceTold) (clock : D → Clock) (copies : C → List Told) (is_store : C → ℕ → ℕ → List ℕ → Type 0) (looked : C → C → ℕ → ℕ → Type 0) (old new : StackState D C) (asked : Request)
    → HasOne asked (state_of old.desk) → Turns told clock copies is_store looked turned.Worked old new → (state_of old.desk).hand ≡ None → ⊥
works_in_hand told clock copies is_store looked old new asked one turns none = elim turns [
  | inl half ↦ half.half
  | inr more ↦ never_rests old.desk.config (state_of old.desk) asked one none (more.1.half.3 none)
]

-- the work falls until the Post
pub turn_lowers : {D C : Type 0} (told : D → DeviceTold) (clock : D → Clock) (copies : C → List Told) (is_store : C → ℕ → ℕ → List ℕ → Type 0) (looked : C → C → ℕ → ℕ → Type 0) (answer : Turned) (old new : StackState D C) → IsTurned told clock copies is_store looked answer old new
    → (asked : Request) → HasOne asked (state_of old.desk) → is_on_way answer ≡ true → work.work_of told new < work.work_of told old
turn_lowers told clock copies is_store looked turned.Idle old new is asked one way = absurd (turn_goes told clock copies is_store looked turned.Idle old new is asked one)
turn_lowers told clock copies is_store looked turned.Worked old new is asked one way = elim is.lowers [ inl less ↦ less | inr free ↦ absurd (works_in_hand told clock copies is_store looked old new asked one is.turns free.0) ]
turn_lowers told clock copies is_store looked turned.Picked old new is asked one way = is.lowers
turn_lowers told clock copies is_store looked answer old new is asked one way = absurd (cc way)

-- MORE TURNS
under_more : (xs ys : List Entry) → IsTrue (list_all is_under_way xs) → IsTrue (list_all is_under_way ys) → IsTrue (list_all is_under_way (xs ++ ys))
under_more [] ys left right = right
under_more (x ∷ xs) ys left right = let parts = and_parts (is_under_way x) (list_all is_under_way xs) left in both (is_under_way x) _ parts.0 (under_more xs ys parts.1 right)
  where
    both : (a b : Bool) → IsTrue a → IsTrue b → IsTrue (a && b)
    both true b is also = also
    both false b is also = absurd (cc is)

pub adds_more : (old mid new : DeskState) (xs ys : List Entry) → mid ≡ record old { entries = old.entries ++ xs } → new ≡ record mid { entries = mid.entries ++ ys } → new ≡ record old { entries = old.entries ++ (xs ++ ys) }
adds_more old mid new xs ys first next =
    subst (λ (d : DeskState). new ≡ record d { entries = d.entries ++ ys }) first next ∙ ap (λ (h : List Entry). record old { entries = h }) (append_assoc old.entries xs ys)

comes_more : (end : Entry) (old mid new : DeskState) (xs : List Entry) → IsTrue (list_all is_under_way xs) → mid ≡ record old { entries = old.entries ++ xs } → ComesTo end mid new → ComesTo end old new
comes_more end old mid new xs under adds comes = record {
  way = xs ++ comes.way;
  under_way = under_more xs comes.way under comes.under_way;
  adds = adds_more old mid new xs (comes.way ++ end ∷ []) adds comes.adds ∙ ap (λ (h : List Entry). record old { entries = old.entries ++ h }) (sym (append_assoc xs comes.way (end ∷ [])));
}

pub goes_more : (asked : Request) (answer : Turned) (old mid new : DeskState) → GoesOn asked old mid → Goes asked answer mid new → Goes asked answer old new
goes_more asked turned.Idle old mid new on more = more
goes_more asked turned.Worked old mid new on more = record { way = on.way ++ more.way; under_way = under_more on.way more.way on.under_way more.under_way; adds = adds_more old mid new on.way more.way on.adds more.adds; one = more.one }
goes_more asked turned.Picked old mid new on more = record { way = on.way ++ more.way; under_way = under_more on.way more.way on.under_way more.under_way; adds = adds_more old mid new on.way more.way on.adds more.adds; one = more.one }
goes_more asked turned.Posted old mid new on more = record { result = more.result; given = more.given; refused = more.refused; ops = more.ops; comes = comes_more (Post (asked_block asked) more.result more.given more.refused more.ops) old mid new on.way on.under_way on.adds more.comes; none = more.none }
goes_more asked turned.Off old mid new on more = record { ops = more.ops; comes = comes_more (Off more.ops) old mid new on.way on.under_way on.adds more.comes }

-- a job that isn't posted yet goes on
pub on_way : (asked : Request) (answer : Turned) (old new : DeskState) → is_on_way answer ≡ true → Goes asked answer old new → GoesOn asked old new
on_way asked turned.Idle old new is goes = absurd goes
on_way asked turned.Worked old new is goes = goes
on_way asked turned.Picked old new is goes = goes
on_way asked turned.Posted old new is goes = absurd (cc is)
on_way asked turned.Off old new is goes = absurd (cc is)

-- by what the turns go down: the work, until they end
pub turns_fall : (a b : Bool) (old new : ℕ) → a ≡ true → (b ≡ true → new < old) → (if b then new + 1 else 0) < (if a then old + 1 else 0)
turns_fall true true old new is less = let l = less refl in omega (arith, l)
turns_fall true false old new is less = omega arith
turns_fall false b old new is less = absurd (cc is)

-- what each turn keeps all of them keep
pub turns_keep : {D C : Type 0} (told : D → DeviceTold) (clock : D → Clock) (copies : C → List Told) (is_store : C → ℕ → ℕ → List ℕ → Type 0) (looked : C → C → ℕ → ℕ → Type 0) (P : StackState D C → Type 0)
    → ((answer : Turned) (s t : StackState D C) → IsTurned told clock copies is_store looked answer s t → P s → P t) → (n : ℕ) (old new : StackState D C) → MakesTurns told clock copies is_store looked n old new → P old → P new
turns_keep told clock copies is_store looked P each zero old new same kept = subst P (sym same) kept
turns_keep told clock copies is_store looked P each (suc n) old new (between, made, (answer, is)) kept = each answer between new is (turns_keep told clock copies is_store looked P each n old between made kept)
