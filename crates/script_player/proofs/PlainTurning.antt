-- A turn: what it adds, and how that is explained.
use Rattle.script_player.proofs.Common.{◌||◌, not, map, ◌≡◌, ◌≤◌, ℕ, suc, Bool, true, false, List, [], ◌∷◌, ◌++◌, length, get_or, Option, None, refl, sym, ap, ◌∙◌, subst, inl, inr, arith, append-nil, length-map, DeviceTold, faults_of, nothing_open, is_off, Entry, Off, State, IsTurn, PlainBlock, told_of, store_of, DeskState, DueCut, Added, CutsAre, AreAsAsked, StackState, PowersOff, IsNoEarlier, AreCut, plan_behind, AllTell, MakesTurn, is_at_rest, is_due, told_by, moment_of, to_refuse_in, plan_in, came_in, ops_in, ext_get_or, sizes_of, MissesNone, begins_with_pick_or_post}
use Rattle.std.specs.Prelude.{IsTrue}
use Rattle.uds_gateway.specs.nv_desk.Desk.{state_of}
use Rattle.script_player.proofs.PlainPlans.{none_earlier}
use Rattle.script_player.proofs.PlainDevices.{Goes, DeviceCut}

-- THE STORES

pub same_stores : (bs cs : List PlainBlock) → sizes_of (map told_of cs) ≡ sizes_of (map told_of bs)
    → ((b n : ℕ) (x : List ℕ) → get_or (map store_of bs) b (0, []) ≡ (n, x) → get_or (map store_of cs) b (0, []) ≡ (n, x)) → map store_of cs ≡ map store_of bs
same_stores bs cs sizes stay = ext_get_or (0, []) (map store_of cs) (map store_of bs) as_many (λ i less. stay i (get_or (map store_of bs) i (0, [])).0 (get_or (map store_of bs) i (0, [])).1 refl)
  where
    count : (ds : List PlainBlock) → length (sizes_of (map told_of ds)) ≡ length ds
    count [] = refl
    count (d ∷ ds) = ap suc (count ds)

    as_many : length (map store_of cs) ≡ length (map store_of bs)
    as_many = length-map cs store_of ∙ sym (count cs) ∙ ap length sizes ∙ count bs ∙ sym (length-map bs store_of)

-- WHAT IS ADDED

-- nothing
pub none_more : (old new : DeskState) → new ≡ old → new ≡ record old { entries = old.entries ++ [] }
none_more old new same = same ∙ ap (λ (h : List Entry). record old { entries = h }) (sym (append-nil old.entries))

-- HOW IT IS EXPLAINED

-- with no Off among them
pub no_off : {D : Type 0} (device : D → DeviceTold) (old new : StackState D (List PlainBlock)) (es : List Entry) → Goes (device old.device) (device new.device) → came_in (device new.device) ≡ came_in (device old.device)
    → CutsAre (plan_in (device old.device)) 0 (map Added es) [] 0 → plan_behind (plan_in (device old.device)) 0 (map Added es) ≡ plan_in (device old.device)
    → PowersOff new.desk (device new.device) → AreCut (plan_in (device old.device)) 0 (map Added es) (told_by device old) (told_by device new)
no_off device old new es goes came are stays power = record {
  cuts = [];
  others = 0;
  are = are;
  came = came ∙ sym (append-nil (came_in (device old.device)));
  counted = inl (let more = goes.unplanned in omega (arith, more));
  plan_stays = subst (λ (p : Option DueCut). IsNoEarlier p (plan_in (device new.device))) (sym stays) goes.plan;
  power = λ tells. power;
}

-- one Off
pub one_off : {D : Type 0} (device : D → DeviceTold) (old new : StackState D (List PlainBlock)) → DeviceCut (device old.device) (device new.device) → PowersOff new.desk (device new.device)
    → AreCut (plan_in (device old.device)) 0 (Added (Off (ops_in (device new.device))) ∷ []) (told_by device old) (told_by device new)
one_off device old new cut power = record {
  cuts = cut.cuts;
  others = cut.others;
  are = cut.are;
  came = cut.came;
  counted = cut.counted;
  plan_stays = none_earlier None (plan_in (device new.device)) cut.none;
  power = λ tells. power;
}

-- no planned cut is missed
pub not_two : (two : Bool) → not two ≡ true → two ≡ false
not_two true is = absurd (cc is)
not_two false is = refl

pub misses_none : {D : Type 0} (device : D → DeviceTold) (old new : StackState D (List PlainBlock)) → Goes (device old.device) (device new.device) → PowersOff new.desk (device new.device) → MissesNone (told_by device old) (told_by device new)
misses_none device old new goes power alone p stands =
    let soon = stands.soon in
    elim (goes.comes (not_two (device old.device).fixed.two alone) stands.cut stands.is stands.later) [
      | inl off ↦ inr (inl (power (is_part_off (device new.device) off)))
      | inr (inl full) ↦ inr (inr full)
      | inr (inr (y, is, more, sooner)) ↦ inl (record { cut = y; is = is; later = more; soon = omega (arith, soon, sooner) })
    ]
  where
    is_part_off : (d : DeviceTold) → d.first.off ≡ true → is_off d ≡ true
    is_part_off d off = rw off refl

-- WHERE IT BEGINS

pub begins_by : (t : Bool) → IsTrue (not t || true)
begins_by true = refl
begins_by false = refl

pub begins_late : (s : State) (es : List Entry) → is_due s ≡ false → IsTrue (not (is_due s) || begins_with_pick_or_post es)
begins_late s es none = rw none refl

-- A TURN

-- that added these entries
abbrev pub turn_made : {D : Type 0} (device : D → DeviceTold) (old new : StackState D (List PlainBlock)) → Goes (device old.device) (device new.device) → PowersOff new.desk (device new.device) → faults_of (device old.device) ≤ faults_of (device new.device)
    → map store_of new.copies ≡ map store_of old.copies → new.ready ≡ old.ready → (device new.device).fixed ≡ (device old.device).fixed
    → (es : List Entry) → new.desk ≡ record old.desk { entries = old.desk.entries ++ es } → AllTell (ops_in (device new.device)) es → IsTurn old.desk.config (state_of old.desk) (map store_of old.copies) es
    → ((id : ℕ) → AreAsAsked old.desk.config id (state_of old.desk) (to_refuse_in (map told_of old.copies) id) es (to_refuse_in (map told_of new.copies) id))
    → AreCut (plan_in (device old.device)) 0 (map Added es) (told_by device old) (told_by device new)
    → (IsTrue (is_at_rest (state_of old.desk)) → not (nothing_open (device old.device)) ≡ false → (es ≡ []) × (moment_of (told_by device new) ≡ moment_of (told_by device old)))
    → MakesTurn (told_by device old) (told_by device new)
turn_made device old new goes power counted stores ready fixed es desk tells turn refusals off rests = record {
  entries = es;
  grows = rw (desk, stores, ready, fixed) refl;
  counted = counted;
  operations = record { later = goes.later; one = goes.one; told = tells };
  turn = turn;
  explained = record { refusals = refusals; off = off; takes = goes.takes };
  rests = rests;
  cuts = misses_none device old new goes power;
}
