-- A turn of the device behind the first half.
use Rattle.script_player.proofs.Common.{map, AllTell, IsTurn, AreAsAsked, MakesTurn, device_fixed, never_idle, never_late, not, ◌≡◌, ◌⊎◌, ℕ, Bool, true, false, List, [], ◌∷◌, ◌++◌, Option, Some, None, refl, sym, ap, ◌∙◌, subst, inl, inr, DeviceTold, Stand, Open, ops_of, is_off, Clock, Instance, Mark, Entry, Wrote, Off, Job, PlainBlock, Told, told_of, store_of, DeskState, IsPaired, Turned, StackState, PowersOff, IsFirstHalf, Added, copy_told, is_due, is_at_rest, AreCut, Turns, IsAnswer, Lowers, told_by, to_refuse_in, plan_in, came_in, at_rest, instance_of, ops_told, JobOk, At, nothing_open, MayWrite, settled_by, wrote_by, AddsBy, Device, IsSecondHalf, IsOfTurn}
use Rattle.std.specs.Prelude.{IsTrue}
use Rattle.uds_gateway.specs.nv_desk.Desk.{state_of}
use Rattle.uds_gateway.specs.nvm_laws.declared.turned.Turned.TheVariants as turned
use Rattle.uds_gateway.specs.nvm_core.Turns as core
use Rattle.script_player.proofs.PlainDevices.{Goes, goes_from, came_same, turn_goes, worked_came, off_cut, cut_from}
use Rattle.script_player.proofs.PlainRefused.{silent_asked}
use Rattle.script_player.proofs.PlainTurning.{same_stores, none_more, no_off, one_off, begins_late, turn_made}
use Rattle.script_player.proofs.PlainHalves.{are_told, is_now, is_looked, IsBehind, ended}

-- THE ENTRY OF A JOB THAT ENDED

-- it is a Wrote, or there is none
abbrev IsSettled : Option Entry → ℕ → Type 0
IsSettled e ops = (e ≡ None) ⊎ ((i : Instance) × (mark : Mark) × (e ≡ Some (Wrote i mark ops)))

wrote_is : (number : ℕ) (mark : Option Mark) (ops : ℕ) → IsSettled (wrote_by number mark ops) ops
wrote_is number None ops = inl refl
wrote_is number (Some mark) ops = inr (instance_of (record { 0 = number }), mark, refl)

settled_is : (old new : Stand) (ops : ℕ) → IsSettled (settled_by old new ops) ops
settled_is (Open j) (At JobOk given) ops = wrote_is j.number j.mark ops
settled_is old new ops = inl refl

false_true : {t : Bool} → t ≡ false → t ≡ true → ⊥
false_true {t} off on = never (sym off ∙ on)
  where
    never : false ≡ true → ⊥
    never e = cc

true_else : (t : Bool) → (t ≡ false → ⊥) → t ≡ true
true_else true never = refl
true_else false never = absurd (never refl)

module _ {D : Type 0} (device : D → DeviceTold) (clock : D → Clock) (old between new : StackState D (List PlainBlock))
    (half : IsFirstHalf device are_told is_now is_looked Device old between) where
  -- nothing comes next where no job is in hand, so no turn goes by
  rests : (state_of old.desk).hand ≡ None → is_at_rest (state_of old.desk) ≡ true
  rests none = at_rest old.desk.config (state_of old.desk) none (half.half.3 none)

  late : is_due (state_of old.desk) ≡ false
  late = never_late old.desk.config (state_of old.desk) half.half.3

  -- something is open, or something pending
  still_open : IsTrue (is_at_rest (state_of old.desk)) → not (nothing_open (device old.device)) ≡ false → ⊥
  still_open =
      never_idle old.desk.config (state_of old.desk) old.hand between.hand (device old.device) (device between.device) half.at_device
      (subst (λ (x : DeskState). IsPaired x.config (state_of x) between.hand (device between.device)) half.half.0.0 half.tied.paired) half.half.1

  made : (device between.device).ops ≡ (device old.device).ops
  made = ap (λ (d : DeviceTold). d.ops) half.device

  one : (device between.device).first ≡ (device old.device).first
  one = ap (λ (d : DeviceTold). d.first) half.device

  two : (device between.device).second ≡ (device old.device).second
  two = ap (λ (d : DeviceTold). d.second) half.device

  same_desk : between.desk ≡ old.desk
  same_desk = half.half.0.0

  module _ (answer : Turned) (second : IsSecondHalf device clock answer between new) (behind : IsBehind device answer old new) where
    goes : Goes (device old.device) (device new.device)
    goes = goes_from (device old.device) (device between.device) (device new.device) (ap (λ (d : DeviceTold). d.fixed) half.device) made one two
        (turn_goes answer (device between.device) (device new.device) (clock between.device) (clock new.device) second.turns)

    stores : map store_of new.copies ≡ map store_of old.copies
    stores = ap (map store_of) second.copies ∙ same_stores old.copies between.copies half.sizes half.stores_stay

    ready : new.ready ≡ old.ready
    ready = second.ready ∙ half.ready

    fixed : (device new.device).fixed ≡ (device old.device).fixed
    fixed = device_fixed answer (device between.device) (clock between.device) (device new.device) (clock new.device) second.turns ∙ ap (λ (d : DeviceTold). d.fixed) half.device

    told : map told_of new.copies ≡ map told_of old.copies
    told = ap (map told_of) second.copies ∙ half.half.0.1

    abbrev made_so : (es : List Entry) → new.desk ≡ record old.desk { entries = old.desk.entries ++ es } → AllTell (ops_of (device new.device)) es → IsTurn old.desk.config (state_of old.desk) (map store_of old.copies) es
        → ((id : ℕ) → AreAsAsked old.desk.config id (state_of old.desk) (to_refuse_in (map told_of old.copies) id) es (to_refuse_in (map told_of new.copies) id))
        → AreCut (plan_in (device old.device)) 0 (map Added es) (told_by device old) (told_by device new) → MakesTurn (told_by device old) (told_by device new)
    made_so es desk tells turn refusals off = turn_made device old new goes behind.power behind.counted stores ready fixed es desk tells turn refusals off (λ rest free. absurd (still_open rest free))

    -- it adds nothing
    idle : new.desk ≡ between.desk → came_in (device new.device) ≡ came_in (device old.device) → IsAnswer answer [] (told_by device old) (told_by device new) → Lowers answer (told_by device old) (told_by device new)
        → Turns answer (told_by device old) (told_by device new)
    idle same came answers lowers = record {
      made = made_so [] (none_more old.desk new.desk (same ∙ same_desk)) tt (record { entry = tt; begins = begins_late (state_of old.desk) [] late }) (λ id. ap (λ (ts : List Told). to_refuse_in ts id) told)
          (no_off device old new [] goes came (refl, refl) refl behind.power);
      answers = answers;
      lowers = lowers;
    }

    -- a Wrote, or an Off
    adds_one : (e : Entry) → ops_told e ≡ Some (ops_of (device new.device)) → new.desk ≡ record between.desk { entries = between.desk.entries ++ e ∷ [] }
        → ((id : ℕ) → copy_told old.desk.config id (state_of old.desk) e ≡ None) → IsOfTurn old.desk.config (state_of old.desk) (map store_of old.copies) e
        → AreCut (plan_in (device old.device)) 0 (Added e ∷ []) (told_by device old) (told_by device new) → IsAnswer answer (e ∷ []) (told_by device old) (told_by device new) → Lowers answer (told_by device old) (told_by device new)
        → Turns answer (told_by device old) (told_by device new)
    adds_one e tells is silent turn off answers lowers = record {
      made = made_so (e ∷ []) (subst (λ (x : DeskState). new.desk ≡ record x { entries = x.entries ++ e ∷ [] }) same_desk is) (tells, tt) (record { entry = turn; begins = begins_late (state_of old.desk) (e ∷ []) late })
          (λ id. silent_asked old.desk.config (state_of old.desk) id (map told_of old.copies) (map told_of new.copies) e (silent id) told) off;
      answers = answers;
      lowers = lowers;
    }

  -- the job's Wrote, or nothing
  worked : IsSecondHalf device clock turned.Worked between new → IsBehind device turned.Worked old new → Turns turned.Worked (told_by device old) (told_by device new)
  worked second behind = by (settled_by (device between.device).stand (device new.device).stand (ops_of (device new.device))) second.adds
      (settled_is (device between.device).stand (device new.device).stand (ops_of (device new.device)))
    where
      came : came_in (device new.device) ≡ came_in (device old.device)
      came = worked_came (device between.device) (device new.device) (clock between.device) (clock new.device) second.turns ∙ came_same (device old.device) (device between.device) one

      by : (e : Option Entry) → AddsBy e between.desk new.desk → IsSettled e (ops_of (device new.device)) → Turns turned.Worked (told_by device old) (told_by device new)
      by e adds (inl none) =
          let same = subst (λ (o : Option Entry). AddsBy o between.desk new.desk) none adds in
          idle turned.Worked second behind same came
          (λ hand. (refl, rests hand, true_else (not (nothing_open (device old.device))) (still_open (rests hand)))) behind.lowers
      by e adds (inr (i, mark, some)) =
          let wrote = subst (λ (o : Option Entry). AddsBy o between.desk new.desk) some adds in
          let may = subst (λ (x : DeskState). MayWrite x.config (state_of x) i mark (state_of x).hand) same_desk wrote.1.1 in
          adds_one turned.Worked second behind (Wrote i mark (ops_of (device new.device))) refl wrote.0
          (λ id. refl) tt
          (no_off device old new (Wrote i mark (ops_of (device new.device)) ∷ []) (goes turned.Worked second behind) came (refl, refl) refl behind.power)
          (λ hand. absurd (subst (λ (h : Option Job). MayWrite old.desk.config (state_of old.desk) i mark h) hand may)) behind.lowers

  -- an Off
  went_off : PowersOff old.desk (device old.device) → IsSecondHalf device clock turned.Off between new → IsBehind device turned.Off old new → Turns turned.Off (told_by device old) (told_by device new)
  went_off power second behind =
      adds_one turned.Off second behind (Off (ops_of (device new.device))) refl second.adds.0 (λ id. refl) tt
      (one_off device old new (cut_from (device old.device) (device between.device) (device new.device) made one two
      (off_cut (device between.device) (device new.device) (clock between.device) (clock new.device) second.turns (on (is_off (device old.device)) refl))) behind.power)
      refl tt
    where
      on : (t : Bool) → is_off (device old.device) ≡ t → is_off (device between.device) ≡ false
      on true off = absurd (false_true half.half.2 (power off))
      on false off = rw (one, two) off

  pub behind_device : PowersOff old.desk (device old.device) → (answer : Turned) → IsSecondHalf device clock answer between new → IsBehind device answer old new
      → Turns answer (told_by device old) (told_by device new)
  behind_device power turned.Worked second behind = worked second behind
  behind_device power turned.Off second behind = went_off power second behind
  behind_device power turned.Idle second behind = absurd (false_true half.half.1 second.turns.0.0)
  behind_device power _ second behind = absurd second.turns

-- A TURN

pub turns_told : {D : Type 0} (device : D → DeviceTold) (clock : D → Clock) (old new : StackState D (List PlainBlock)) (answer : Turned) → core.Turns device clock are_told is_now is_looked answer old new → PowersOff old.desk (device old.device)
    → (new.ready ≡ old.ready → IsBehind device answer old new) → Turns answer (told_by device old) (told_by device new)
turns_told device clock old new answer (inl half) power behind = ended device old new answer half (behind half.ready)
turns_told device clock old new answer (inr (between, half, second)) power behind = behind_device device clock old between new half power answer second (behind (second.ready ∙ half.ready))
