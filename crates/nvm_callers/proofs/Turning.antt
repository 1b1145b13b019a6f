-- What one turn of a driver adds.
use Rattle.nvm_callers.proofs.Common.{option_to_list, ◌≡◌, ℕ, Bool, true, false, List, [], ◌∷◌, ◌++◌, Option, Some, None, refl, sym, ap, ◌∙◌, subst, inl, inr, arith, append_assoc, append-nil, IfSome_then, WereCounted, DeviceTold, Clock, Entry, Pick, Post, Next, PostMember, EndSweep, next_of, Answer, after, Told, DeskState, AreSynchronized, IsPosted, Turned, is_found, Terms, AreAsks, desk_with, DriverState, offs_in, tells_no_refusal, RefusesNone, PartTold, Stand, Open, Closed, ops_of, JobOk, IsPostedNext, settled_by, wrote_by, AddsBy, Ended, Device, asked_by, LeavesDevice, with_more, BeginsTurn, EndsTurn, TurnsBehind, IsUnplanned, offs_by, asks_uncut, first_on, device_starts, turns_stay_unplanned, IsUncut}
use Rattle.std.proofs.Common.{IfSome}
use Rattle.driver_moves.specs.nv_base.declared.mark.Mark.{Mark}
use Rattle.driver_moves.specs.nvm_laws.declared.turned.Turned.TheVariants as turned
use Rattle.nvm_callers.proofs.Refusing.{pick_refuses_none, post_refuses_none}

-- REQUESTS
pub asks_more : (xs ys : List Entry) → AreAsks xs → AreAsks ys → AreAsks (xs ++ ys)
asks_more [] ys one two = two
asks_more (x ∷ xs) ys one two = (one.0, asks_more xs ys one.1 two)

-- THE DEVICE'S ENTRY
abbrev pub IsPick : Entry → Type 0
IsPick (Pick block kind taken ops) = Unit {0}
IsPick e = ⊥

-- no start-up and no Pick, and it tells of no refused copy
abbrev IsPlain : Entry → Type 0
IsPlain e = (is_found e ≡ false) × (tells_no_refusal e ≡ true) × ¬ IsPick e

-- so is such an entry, if there is one, with so many Offs
abbrev ArePlain : ℕ → Option Entry → Type 0
ArePlain offs o = IfSome o IsPlain × (offs_in (option_to_list o) ≡ offs)

wrote_plain : (number : ℕ) (mark : Option Mark) (ops : ℕ) → ArePlain 0 (wrote_by number mark ops)
wrote_plain number None ops = (tt, refl)
wrote_plain number (Some mark) ops = ((refl, refl, λ is. is), refl)

settled_plain : (old new : Stand) (ops : ℕ) → ArePlain 0 (settled_by old new ops)
settled_plain (Open j) (Closed JobOk given) ops = wrote_plain j.number j.mark ops
settled_plain old new ops = (tt, refl)

asked_plain : (answer : Turned) (old new : Stand) (ops : ℕ) → ArePlain (offs_by answer) (asked_by answer old new ops)
asked_plain turned.Off old new ops = ((refl, refl, λ is. is), refl)
asked_plain answer old new ops = settled_plain old new ops

by_entries : (o : Option Entry) (old new : DeskState) → AddsBy o old new → new.entries ≡ old.entries ++ option_to_list o
by_entries None old new is = ap (λ (d : DeskState). d.entries) is ∙ sym (append-nil old.entries)
by_entries (Some e) old new is = ap (λ (d : DeskState). d.entries) is.0

none_counted : (p q : PartTold) → q ≡ p → WereCounted 0 p.planning.unplanned q.planning.unplanned
none_counted p q same = let count = ap (λ (x : PartTold). x.planning.unplanned) same in inl (omega (arith, count))

module _ {D C : Type 0} (told : D → DeviceTold) (clock : D → Clock) (copies : C → List Told) (is_store : C → ℕ → ℕ → List ℕ → Type 0) (looked : C → C → ℕ → ℕ → Type 0) (t : Terms) where
  abbrev MayRefuseNone : DriverState D C → Type 0
  MayRefuseNone s = AreSynchronized t.config (copies s.copies) × RefusesNone (copies s.copies)

  -- an entry that a turn may add
  pub record IsAdded (answer : Turned) (old : DriverState D C) (e : Entry) : Type 0 where
    pub no_start : is_found e ≡ false
    pub no_refusal : MayRefuseNone old → tells_no_refusal e ≡ true
    pub pick : IsPick e → answer ≡ turned.Picked

  -- requests, and then one entry of the driver or none
  pub record TurnAdds (answer : Turned) (seen seen_new : List Entry) (old new : DriverState D C) : Type 0 where
    pub asks : List Entry
    pub are : AreAsks asks
    pub last : Option Entry
    pub grows : seen_new ≡ (seen ++ asks) ++ option_to_list last
    pub added : IfSome last (IsAdded answer old)
    pub starts : (told new.device).starts ≡ (told old.device).starts
    pub refuses_none : MayRefuseNone old → RefusesNone (copies new.copies)
    pub counted : IsUncut (desk_with t seen) (told old.device)
        → WereCounted (offs_in (option_to_list last)) (told old.device).first.planning.unplanned (told new.device).first.planning.unplanned

  -- THE FIRST HALF ALONE
  module _ (answer : Turned) (seen seen_new asks : List Entry) (are : AreAsks asks) (old new : DriverState D C) (leaves : LeavesDevice (told old.device) (told new.device)) where
    first_adds : (last : Option Entry) → seen_new ≡ (seen ++ asks) ++ option_to_list last → offs_in (option_to_list last) ≡ 0 → IfSome last (IsAdded answer old)
        → (MayRefuseNone old → RefusesNone (copies new.copies)) → TurnAdds answer seen seen_new old new
    first_adds last grows no_off added refuses_none = record {
      asks = asks;
      are = are;
      last = last;
      grows = grows;
      added = added;
      starts = ap (λ (d : DeviceTold). d.starts) leaves;
      refuses_none = refuses_none;
      counted = λ uncut. subst (λ (n : ℕ). WereCounted n (told old.device).first.planning.unplanned (told new.device).first.planning.unplanned) (sym no_off)
          (none_counted (told old.device).first (told new.device).first (ap (λ (d : DeviceTold). d.first) leaves));
    }

    nothing : desk_with t seen_new ≡ with_more (desk_with t seen) asks → copies new.copies ≡ copies old.copies → TurnAdds answer seen seen_new old new
    nothing same copied = first_adds None (ap (λ (d : DeskState). d.entries) same ∙ sym (append-nil (seen ++ asks))) refl tt (λ may. subst RefusesNone (sym copied) may.1)

    post : (Premise : Type 0) (block : ℕ) (ram : Bool) (ended : Answer) (ops : ℕ)
        → IsPosted Premise block ram ended ops (with_more (desk_with t seen) asks) (desk_with t seen_new) (copies old.copies) (copies new.copies) → TurnAdds answer seen seen_new old new
    post Premise block ram ended ops is =
        let refuses = λ (may : MayRefuseNone old). post_refuses_none Premise block ram ended ops (with_more (desk_with t seen) asks) (desk_with t seen_new) (copies old.copies) (copies new.copies) may.0 may.1 is in
        first_adds (Some (Post block is.result is.given is.refused ops)) (ap (λ (d : DeskState). d.entries) is.adds) refl
        (record { no_start = refl; no_refusal = λ may. (refuses may).1; pick = λ pick. absurd pick }) (λ may. (refuses may).0)

    post_next : (n : Next) (ops : ℕ) → IsPostedNext n ops (with_more (desk_with t seen) asks) (desk_with t seen_new) (copies old.copies) (copies new.copies) → TurnAdds answer seen seen_new old new
    post_next (PostMember sw id) ops is = post (Unit {0}) id true _ ops is
    post_next (EndSweep sw) ops is = post (Unit {0}) 0 false _ ops is
    post_next n ops is = absurd is

  ended : (answer : Turned) (seen seen_new : List Entry) (old new : DriverState D C)
      → BeginsTurn told clock copies is_store looked (Ended answer) (desk_with t seen) (desk_with t seen_new) old new → TurnAdds answer seen seen_new old new
  ended turned.Off seen seen_new old new begins = nothing turned.Off seen seen_new begins.asks begins.are old new begins.half.device begins.half.half.0.0 begins.half.half.0.1
  ended turned.Idle seen seen_new old new begins = nothing turned.Idle seen seen_new begins.asks begins.are old new begins.half.device begins.half.half.0.0 begins.half.half.0.1
  ended turned.Worked seen seen_new old new begins = absurd begins.half.half
  ended turned.Picked seen seen_new old new begins =
      let c = t.config in
      let s = after c (seen ++ begins.asks) in
      let (block, is) = begins.half.half in
      let ops = ops_of (told new.device) in
      let refuses = λ (may : MayRefuseNone old). pick_refuses_none c block (copies old.copies) (copies new.copies) (λ (n : ℕ) (x : List ℕ). is_store new.copies block n x × looked old.copies new.copies block n)
      s is.kind is.taken (next_of c s) ops may.0 may.1 is.copied is.allowed.1 in
      first_adds turned.Picked seen seen_new begins.asks begins.are old new begins.half.device (Some (Pick block is.kind is.taken ops)) (ap (λ (d : DeskState). d.entries) is.adds) refl
      (record { no_start = refl; no_refusal = λ may. (refuses may).1; pick = λ pick. refl }) (λ may. (refuses may).0)
  ended turned.Posted seen seen_new old new begins = elim begins.half.half [
    | inl held ↦ post turned.Posted seen seen_new begins.asks begins.are old new begins.half.device _ _ _ held.ended _ held.is
    | inr next ↦ post_next turned.Posted seen seen_new begins.asks begins.are old new begins.half.device (next_of t.config (after t.config (seen ++ begins.asks))) (ops_of (told new.device)) next.1
  ]

  -- WITH THE DEVICE'S TURN
  behind : (answer : Turned) (seen seen_new : List Entry) (desk : DeskState) (old between new : DriverState D C)
      → BeginsTurn told clock copies is_store looked Device (desk_with t seen) desk old between → EndsTurn told clock answer desk (desk_with t seen_new) between new → TurnAdds answer seen seen_new old new
  behind answer seen seen_new desk old between new begins ends =
      let ops = ops_of (told new.device) in
      let last = asked_by answer (told between.device).stand (told new.device).stand ops in
      let plain = asked_plain answer (told between.device).stand (told new.device).stand ops in
      let leaves = begins.half.device in
      let first : (told between.device).first ≡ (told old.device).first = ap (λ (d : DeviceTold). d.first) leaves in
      record {
        asks = begins.asks ++ ends.asks;
        are = asks_more begins.asks ends.asks begins.are ends.are;
        last = last;
        grows = by_entries last (with_more desk ends.asks) (desk_with t seen_new) ends.adds ∙ ap (λ (d : DeskState). (d.entries ++ ends.asks) ++ option_to_list last) begins.half.half.0.0
            ∙ ap (λ (l : List Entry). l ++ option_to_list last) (append_assoc seen begins.asks ends.asks);
        added = IfSome_then last plain.0 (λ e is. record { no_start = is.0; no_refusal = λ may. is.1; pick = λ pick. absurd (is.2 pick) });
        starts =
            device_starts answer (told between.device) (told new.device) (clock between.device) (clock new.device) ends.turns
            ∙ ap (λ (d : DeviceTold). d.starts) leaves;
        refuses_none = λ may. subst (λ (x : C). RefusesNone (copies x)) (sym ends.copies) (subst RefusesNone (sym begins.half.half.0.1) may.1);
        counted = λ uncut.
            let on = first_on (with_more (desk_with t seen) begins.asks) (told old.device) (asks_uncut (desk_with t seen) (told old.device) begins.asks begins.are uncut) begins.half.half.2 in
            let stays = turns_stay_unplanned answer (told between.device) (told new.device) (clock between.device) (clock new.device) (ap (λ (d : DeviceTold). d.fixed.two) leaves ∙ uncut.one)
            (ap (λ (p : PartTold). p.off) first ∙ on) (subst IsUnplanned (sym first) uncut.unplanned) ends.turns in
            subst (λ (n : ℕ). WereCounted n (told old.device).first.planning.unplanned (told new.device).first.planning.unplanned) (sym plain.1)
            (subst (λ (p : PartTold). WereCounted (offs_by answer) p.planning.unplanned (told new.device).first.planning.unplanned) first stays.counted);
      }

  pub turn_adds : (answer : Turned) (seen seen_new : List Entry) (old new : DriverState D C)
      → TurnsBehind told clock copies is_store looked answer (desk_with t seen) (desk_with t seen_new) old new → TurnAdds answer seen seen_new old new
  turn_adds answer seen seen_new old new (inl begins) = ended answer seen seen_new old new begins
  turn_adds answer seen seen_new old new (inr (desk, between, begins, cuts, ends)) = behind answer seen seen_new desk old between new begins ends
