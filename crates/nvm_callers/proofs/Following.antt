-- What a driver's turns did, one behind another.
use Rattle.nvm_callers.proofs.Common.{ℕ, zero, suc, List, sym, subst, DeviceTold, Clock, Entry, Told, Terms, DriverState, DrivesBy, DrivesOn, HasDriven, DrivesFollow}

module _ {D C : Type 0} (told : D → DeviceTold) (clock : D → Clock) (copies : C → List Told) (is_store : C → ℕ → ℕ → List ℕ → Type 0) (looked : C → C → ℕ → ℕ → Type 0) (over : C → C → Type 0) (stands : C → ℕ → ℕ → List Entry → Type 0) (t : Terms) where
  abbrev Driven : (seen seen_new : List Entry) → (old new : DriverState D C) → Type 0
  Driven = HasDriven told clock copies is_store looked over stands t

  -- A law that holds of nothing, and goes on with each turn, or with requests alone, holds of all that was driven.
  module _ (Law : (seen seen_new : List Entry) → (old new : DriverState D C) → Type 0) (none : (seen : List Entry) (s : DriverState D C) → Law seen seen s s)
      (more : (a b c : List Entry) (x y z : DriverState D C) → Driven a b x y → Law a b x y → DrivesOn told clock copies is_store looked over stands t b c y z → Law a c x z) where
    by : (n : ℕ) (seen seen_new : List Entry) (old new : DriverState D C) → DrivesBy told clock copies is_store looked over stands t n seen seen_new old new → Law seen seen_new old new
    by zero seen seen_new old new is = subst (λ (l : List Entry). Law seen l old new) (sym is.0) (subst (λ (s : DriverState D C). Law seen seen old s) (sym is.1) (none seen old))
    by (suc n) seen seen_new old new (between, s, before, last) = more seen between seen_new old s new (n, before) (by n seen between old s before) last

    pub holds_of_drives : (seen seen_new : List Entry) (old new : DriverState D C) → Driven seen seen_new old new → Law seen seen_new old new
    holds_of_drives seen seen_new old new driven = by driven.0 seen seen_new old new driven.1

  pub drives_follow : DrivesFollow told clock copies is_store looked over stands t
  drives_follow seen seen_between seen_new old between new one two =
      holds_of_drives (λ b c y z. Driven seen b old y → Driven seen c old z) (λ b y first. first)
      (λ b c d x y z driven goes last first. let whole = goes first in (suc whole.0, (c, y, whole.1, last))) seen_between seen_new between new two one
