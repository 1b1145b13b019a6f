-- What a driver's turns did, with the requests between, as moves.
use Rattle.nvm_callers.proofs.Common.{inl, inr, ℕ, true, List, sym, subst, DeviceTold, Clock, Entry, Told, Terms, desk_with, DriverState, DrivesOn, HasDriven, StaysKept, HasMoved, has_moved_more, seen_of, driver_moved, none_moved, sees_moved}
use Rattle.nvm_callers.proofs.Following.{holds_of_drives}

module _ {D C : Type 0} (told : D → DeviceTold) (clock : D → Clock) (copies : C → List Told) (is_store : C → ℕ → ℕ → List ℕ → Type 0) (looked : C → C → ℕ → ℕ → Type 0) (over : C → C → Type 0) (stands : C → ℕ → ℕ → List Entry → Type 0) (t : Terms) where
  abbrev Moves : (seen seen_new : List Entry) → (old new : DriverState D C) → Type 0
  Moves seen seen_new old new = HasMoved true (seen_of told clock (desk_with t seen) old) (seen_of told clock (desk_with t seen_new) new)

  one : (seen seen_new : List Entry) (old new : DriverState D C) → DrivesOn told clock copies is_store looked over stands t seen seen_new old new → Moves seen seen_new old new
  one seen seen_new old new (inl is) =
      driver_moved told clock copies is_store looked is.answer (desk_with t seen) (desk_with t seen_new) old new is.drives.next is.drives.pending is.drives.tied is.tied is.left is.turns
  one seen seen_new old new (inr is) =
      subst (λ (s : DriverState D C). Moves seen seen_new old s) (sym is.same)
      (sees_moved told clock (desk_with t seen) (desk_with t seen_new) old is.sees is.drives.next is.drives.pending is.drives.tied
      (subst (λ (s : DriverState D C). StaysKept (desk_with t seen) old.hand (told old.device) (clock old.device) (desk_with t seen_new) s.hand (told s.device) (clock s.device)) is.same is.keeps))

  -- the entries of any number of turns, with what came between, are moves that keep the law
  pub driving_moves : (seen seen_new : List Entry) (old new : DriverState D C) → HasDriven told clock copies is_store looked over stands t seen seen_new old new → Moves seen seen_new old new
  driving_moves =
      holds_of_drives told clock copies is_store looked over stands t Moves (λ seen s. none_moved told clock (desk_with t seen) s) (λ a b c x y z driven before last.
      has_moved_more true (seen_of told clock (desk_with t a) x) (seen_of told clock (desk_with t b) y) (seen_of told clock (desk_with t c) z) before (one b c y z last))
