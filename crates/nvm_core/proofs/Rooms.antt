-- The memory of start-ups.
use Rattle.std.specs.Prelude.{IfSome, IsSomeAnd, is_some}
use Rattle.std.proofs.Common.{◌≡◌, ◌≤◌, ℕ, Bool, true, false, List, length, Option, Some, None, refl, ap, sym, subst, ◌∙◌, inl, inr, arith}
use Rattle.std.proofs.lemmas.Bool.{cases_Bool}
use Rattle.std.proofs.lemmas.List.{length-map}
use Rattle.nvm_laws.specs.nv_base.declared.instance.DeviceNumber.{DeviceNumber}
use Rattle.nvm_laws.specs.block_config.Lengths.{lengths_of}
use Rattle.nvm_laws.specs.block_config.Config.{Configuration}
use Rattle.nvm_laws.specs.memif.Told.{DeviceTold}
use Rattle.nvm_laws.specs.ram_blocks.Told.{Told}
use Rattle.nvm_laws.specs.job_progress.Hand.{HandState}
use Rattle.nvm_laws.specs.nv_desk.Desk.{DeskState, first_desk}
use Rattle.nvm_laws.specs.nv_desk_copies.Front.{StagingState, StagesAll, AreSynchronized}
use Rattle.nvm_laws.specs.nv_desk.FoundMarks.{FoundState, number_at, numbers_of}
use Rattle.nvm_laws.specs.nv_desk.Recorder.{keeps}
use Rattle.nvm_core.specs.Stack.{IsRoom, HasRooms, IsStack}

-- there are as many places as numbers
count : (f : FoundState) (numbers : List (DeviceNumber × ℕ)) → numbers_of f ≡ numbers → length f.places ≡ length numbers
count f numbers is = sym (length-map f.places number_at) ∙ ap length is

-- memory that was made for a desk
pub room_made : (desk : DeskState) (f : FoundState) (listed : ℕ) → numbers_of f ≡ lengths_of desk.config → listed ≤ f.room
    → (keeps desk.cap ≡ true → listed ≡ length (lengths_of desk.config)) → IsRoom desk f
room_made desk f listed own room all = record {
  own = own;
  listed = λ kept. (let n = count f (lengths_of desk.config) own in let is = all kept in omega (arith, n, is, room));
}

-- what is found changes none of it
pub room_stays : (desk : DeskState) (old new : FoundState) → numbers_of new ≡ numbers_of old → new.room ≡ old.room → IsRoom desk old → IsRoom desk new
room_stays desk old new same room is = record {
  own = same ∙ is.own;
  listed = λ kept. (let few = is.listed kept in let n = count new (numbers_of old) same in let m = length-map old.places number_at in omega (arith, few, n, m, room));
}

-- what is handed back behind a start-up
pub room_back : (desk : DeskState) (back : Option FoundState) → (keeps desk.cap ≡ true → back ≡ None)
    → (keeps desk.cap ≡ false → IsSomeAnd back (λ f. numbers_of f ≡ lengths_of desk.config)) → IfSome back (IsRoom desk)
room_back desk None kept counted = tt
room_back desk (Some f) kept counted = elim (cases_Bool (keeps desk.cap)) [
  | inl keeps ↦ let none = kept keeps in absurd (cc none)
  | inr counts ↦ record { own = counted counts; listed = λ keeps. absurd (cc (counts, keeps)) }
]

pub room_is_back : (desk : DeskState) (back : Option FoundState) → (keeps desk.cap ≡ false → IsSomeAnd back (λ f. numbers_of f ≡ lengths_of desk.config))
    → keeps desk.cap ≡ false → is_some back ≡ true
room_is_back desk None counted counts = absurd (counted counts)
room_is_back desk (Some f) counted counts = refl

-- THE MEMORY THAT STANDS
own_kept : (old new : DeskState) (o : Option FoundState) → new.config ≡ old.config → new.cap ≡ old.cap → IfSome o (IsRoom old) → IfSome o (IsRoom new)
own_kept old new (Some f) config cap own = record { own = own.own ∙ ap lengths_of (sym config); listed = λ kept. own.listed (ap keeps (sym cap) ∙ kept) }
own_kept old new None config cap own = tt

-- that of a further start-up stands behind any entries
pub rooms_kept : (old new : DeskState) (room : Option FoundState) → new.config ≡ old.config → new.cap ≡ old.cap → HasRooms old room true → HasRooms new room true
rooms_kept old new room config cap is = record {
  own = own_kept old new room config cap is.own;
  stands = λ counts. is.stands (ap keeps (sym cap) ∙ counts);
  prepared = λ off some. absurd (cc off);
}

-- behind a start-up, and behind one that failed
pub rooms_back : (old new : DeskState) (back : Option FoundState) → new.config ≡ old.config → new.cap ≡ old.cap → (keeps old.cap ≡ true → back ≡ None)
    → (keeps old.cap ≡ false → IsSomeAnd back (λ f. numbers_of f ≡ lengths_of old.config)) → HasRooms new back true
rooms_back old new back config cap kept counted = rooms_kept old new back config cap (record {
  own = room_back old back kept counted;
  stands = room_is_back old back counted;
  prepared = λ off some. absurd (cc off);
})

pub rooms_again : (desk : DeskState) (f : FoundState) → IsRoom desk f → desk.prepared ≡ length desk.entries → HasRooms desk (Some f) false
rooms_again desk f is prepared = record { own = is; stands = λ counts. refl; prepared = λ off some. prepared }

-- before the first one
pub rooms_first : (c : Configuration) (cap : ℕ) (desk : DeskState) (f : FoundState) → desk ≡ first_desk c cap → IsRoom desk f → HasRooms desk (Some f) false
rooms_first c cap desk f is own =
    rooms_again desk f own (ap (λ (x : DeskState). x.prepared) is ∙ sym (ap (λ (x : DeskState). length x.entries) is))

-- the memory of its entry was taken
pub rooms_ready : (old new : DeskState) (room : Option FoundState) (ready : Bool) → new ≡ record old { prepared = length old.entries }
    → HasRooms old room ready → HasRooms new room false
rooms_ready old new room ready is has = record {
  own = own_kept old new room (ap (λ (x : DeskState). x.config) is) (ap (λ (x : DeskState). x.cap) is) has.own;
  stands = λ counts. has.stands (ap (λ (x : DeskState). keeps x.cap) (sym is) ∙ counts);
  prepared = λ off some. ap (λ (x : DeskState). x.prepared) is ∙ sym (ap (λ (x : DeskState). length x.entries) is);
}

-- and that of its marks, where it didn't stand
pub rooms_taken : (old new : DeskState) (f : FoundState) → new ≡ record old { prepared = length old.entries } → IsRoom old f → HasRooms new (Some f) false
rooms_taken old new f is own = rooms_ready old new (Some f) true is (record { own = own; stands = λ counts. refl; prepared = λ off some. absurd (cc off) })

-- THE STACK
module _ (old new : DeskState) (staging : StagingState) (hand : Option HandState) (d : DeviceTold) (copies : List Told) (room : Option FoundState) (ready : Bool) where
  -- that waits for a start-up
  pub waiting_stack : (back : Option FoundState) → new ≡ record old { prepared = length old.entries } → IsStack old staging hand d copies room ready → HasRooms new back false
      → IsStack new staging hand d copies back false
  waiting_stack back is stack has = record {
    stages = subst (λ (x : DeskState). StagesAll x.config staging) (sym is) stack.stages;
    synchronized = subst (λ (x : DeskState). AreSynchronized x.config copies) (sym is) stack.synchronized;
    numbers = stack.numbers ∙ ap (λ (x : DeskState). lengths_of x.config) (sym is);
    has_room = has;
    tied = λ on. absurd (cc on);
    power = λ on. absurd (cc on);
  }

  -- and one with a history that begins anew
  pub emptied_stack : (f : FoundState) → new ≡ first_desk old.config old.cap → IsStack old staging hand d copies room ready → IsRoom old f
      → IsStack new staging None d copies (Some f) false
  emptied_stack f is stack own = record {
    stages = subst (λ (x : DeskState). StagesAll x.config staging) (sym is) stack.stages;
    synchronized = subst (λ (x : DeskState). AreSynchronized x.config copies) (sym is) stack.synchronized;
    numbers = stack.numbers ∙ ap (λ (x : DeskState). lengths_of x.config) (sym is);
    has_room = rooms_first old.config old.cap new f is (record {
      own = own.own ∙ ap (λ (x : DeskState). lengths_of x.config) (sym is);
      listed = λ kept. own.listed (ap (λ (x : DeskState). keeps x.cap) (sym is) ∙ kept);
    });
    tied = λ on. absurd (cc on);
    power = λ on. absurd (cc on);
  }
