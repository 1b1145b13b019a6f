-- What any number of a driver's turns keeps.
use Rattle.nvm_callers.proofs.Common.{ℕ, List, refl, sym, subst, inl, inr, DeviceTold, Clock, Entry, Told, AreSynchronized, Terms, desk_with, DriverState, DrivesOn, HasDriven, StaysKeptOver, lasts_more, same_clock, still_synchronized, stays_more, stays_still, half_lasts, HasKept, DrivingKeeps}
use Rattle.nvm_callers.proofs.Following.{holds_of_drives}

module _ {D C : Type 0} (told : D → DeviceTold) (clock : D → Clock) (copies : C → List Told) (is_store : C → ℕ → ℕ → List ℕ → Type 0) (looked : C → C → ℕ → ℕ → Type 0) (over : C → C → Type 0) (stands : C → ℕ → ℕ → List Entry → Type 0) (t : Terms) where
  abbrev Kept : (seen seen_new : List Entry) → (old new : DriverState D C) → Type 0
  Kept = HasKept told clock copies is_store looked over stands t

  -- no turn
  none : (seen : List Entry) (s : DriverState D C) → Kept seen seen s s
  none seen s = record {
    keeps = stays_still (desk_with t seen) s.hand (told s.device) (clock s.device);
    lasts = half_lasts (told s.device) (told s.device) (clock s.device) (clock s.device) refl (same_clock (clock s.device));
    synchronized = λ are. are;
    stores_stay = λ b n x is. is;
    stays_over = λ first is. is;
  }

  -- a turn more, or requests alone
  more : (a b c : List Entry) (x y z : DriverState D C) → HasDriven told clock copies is_store looked over stands t a b x y → Kept a b x y → DrivesOn told clock copies is_store looked over stands t b c y z → Kept a c x z
  more a b c x y z driven one (inl turns) = record {
    keeps = stays_more (desk_with t a) x.hand (told x.device) (clock x.device) (desk_with t b) y.hand (told y.device) (clock y.device) (desk_with t c) z.hand (told z.device) (clock z.device) one.keeps turns.keeps;
    lasts = lasts_more (told x.device) (clock x.device) (told y.device) (clock y.device) (told z.device) (clock z.device) one.lasts turns.lasts;
    synchronized = λ are. elim turns.turns [
      | inl begins ↦ still_synchronized t.config (copies y.copies) (copies z.copies) begins.half.sizes (one.synchronized are)
      | inr ends ↦ subst (λ (c : C). AreSynchronized t.config (copies c)) (sym ends.4.copies) (still_synchronized t.config (copies y.copies) (copies ends.1.copies) ends.2.half.sizes (one.synchronized are))
    ];
    stores_stay = λ k n content is. turns.stores_stay k n content (one.stores_stay k n content is);
    stays_over = λ first is. turns.stays_over first (one.stays_over first is);
  }
  more a b c x y z driven one (inr sees) = subst (λ (s : DriverState D C). Kept a c x s) (sym sees.same) (record {
    keeps = stays_more (desk_with t a) x.hand (told x.device) (clock x.device) (desk_with t b) y.hand (told y.device) (clock y.device) (desk_with t c) y.hand (told y.device) (clock y.device) one.keeps
        (subst (λ (s : DriverState D C). StaysKeptOver told clock copies is_store looked over stands t b c y s) sees.same sees.keeps);
    lasts = one.lasts;
    synchronized = one.synchronized;
    stores_stay = one.stores_stay;
    stays_over = one.stays_over;
  })

  pub driving_keeps : DrivingKeeps told clock copies is_store looked over stands t
  driving_keeps = holds_of_drives told clock copies is_store looked over stands t Kept none more
