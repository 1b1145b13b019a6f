-- What was taken of synchronized RAM was stored by then.
use Rattle.nvm_callers.proofs.Common.{map, is_some, Contains, IfSome, ◌≡◌, ◌⊎◌, inl, inr, ℕ, ◌<◌, ◌^◌, true, List, [], ◌∷◌, length, Option, Some, None, refl, sym, ap, subst, arith, ◌∙◌, take-append-drop, some, some-ne-none, get_elem?, DeviceTold, Clock, Entry, Found, Instance, Mark, Configuration, StartsWith, EndValue, EndGoesOn, EndList, HasCameWith, HasLooked, IsOver, IsStore, SyncValue, end_at, told_by, Step, store_content, CanBeStored, CopiesAreShown, Look, AreRun, Terms, StandsIn, Stored, Along, HasStoredIn, AllTookShown, IsLookOf, look_behind, AllStored, IsTaken, CameWith, WasShown}
use Rattle.std.specs.Prelude.{take, drop}
use Rattle.ram_mirrors_sync.specs.Ends.{GoesOn}
use Rattle.nvm_callers.proofs.Looking.{all_took_on}
use Rattle.nvm_callers.proofs.Showing.{copies_have_looks}
use Rattle.nvm_callers.proofs.StoresShown.{shown_are_stored, taken_are_stored}

-- What the driver's end of a block took was stored by one caller, as the history tells, or nothing was stored.
pub record WasStored (c : Configuration) (cap : ℕ) (h : List Entry) (steps : List Step) (block : ℕ) (e : EndValue Along) : Type 0 where
  pub stores : List Stored
  pub got : AllStored stores e.up.got
  pub first : store_content c steps block 0 ≡ Some e.first
  pub by : (stores ≡ []) ⊎ ((caller : ℕ) × (made : ℕ → List Stored) × HasStoredIn c cap h steps caller made × (made block ≡ stores))

-- so of each block
abbrev pub WereStored : Configuration → (cap : ℕ) → List Entry → List Step → EndList Along → Type 0
WereStored c cap h steps ends = (block : ℕ) → IfSome (end_at ends block) (WasStored c cap h steps block)

-- a store of a block that has an end
abbrev pub IsStoreThere : EndList Along → (block number : ℕ) → List ℕ → Type 0
IsStoreThere ends block number x = IsStore ends block number x × (is_some (end_at ends block) ≡ true)

was_there : (a e : Option (EndValue Along)) (n : ℕ) → WasShown a e n → is_some e ≡ true
was_there (Some a) (Some e) n shown = refl
was_there a e n shown = absurd shown

-- nothing is taken of none
none_got : (stores : List Stored) (k : ℕ) (x : Stored) (X : Type 0) → stores ≡ [] → get_elem? stores k ≡ some x → X
none_got stores k x X none at = absurd (some-ne-none x (sym at ∙ ap (λ (l : List Stored). get_elem? l k) none))

module _ (c : Configuration) (cap : ℕ) (h : List Entry) (steps : List Step) (run : AreRun c steps) where
  -- A STORE THAT WAS TAKEN
  of_end : (block number : ℕ) (x : List ℕ) (e : EndValue Along) → length steps < 2 ^ 60 → WasStored c cap h steps block e → IsTaken e number x → store_content c steps block number ≡ Some x
  of_end block number x e few was taken = by was.by taken
    where
      by : (was.stores ≡ []) ⊎ ((caller : ℕ) × (made : ℕ → List Stored) × HasStoredIn c cap h steps caller made × (made block ≡ was.stores)) → IsTaken e number x
          → store_content c steps block number ≡ Some x
      by (inr (caller, made, has, same)) it =
          taken_are_stored c cap h steps caller block number made e x run few has (subst (λ (l : List Stored). AllStored l e.up.got) (sym same) was.got) was.first it
      by (inl none) (inl (zeroth, same)) =
          subst (λ (n : ℕ). store_content c steps block n ≡ Some x) (sym zeroth) (was.first ∙ ap (λ (l : List ℕ). Some l) (sym same))
      by (inl none) (inr (i, along, at)) = let (k, is, here) = was.got i _ at in none_got was.stores k _ (store_content c steps block number ≡ Some x) none here

  of_ends : (ends : EndList Along) → length steps < 2 ^ 60 → WereStored c cap h steps ends → (block number : ℕ) (x : List ℕ) → IsStoreThere ends block number x
      → store_content c steps block number ≡ Some x
  of_ends ends few were block number x is = by (end_at ends block) (were block) is.0 is.1
    where
      by : (o : Option (EndValue Along)) → IfSome o (WasStored c cap h steps block) → IfSome o (λ e. IsTaken e number x) → is_some o ≡ true → store_content c steps block number ≡ Some x
      by (Some e) was taken there = of_end block number x e few was taken
      by None was taken there = absurd (cc there)

  -- A STORE THAT A LOOK SHOWED
  came_later : (holds : Option Along → Type 0) (old new : EndValue Along) (n : ℕ) → GoesOn old new → CameWith holds old n → CameWith holds new n
  came_later holds old new n on (inl none) = inl none
  came_later holds old new n on (inr (i, m, x, at, few, is)) = inr (i, m, x, on.took i (m, x) at, few, is)

  of_shown : (block number : ℕ) (e : EndValue Along) (entry : ℕ) → WasStored c cap h steps block e → CameWith (StandsIn (take entry h)) e number
      → CanBeStored c steps block number (take entry h)
  of_shown block number e entry was came = by was.by came
    where
      begins : StartsWith h (take entry h)
      begins = (drop entry h, sym (take-append-drop entry h))

      by : (was.stores ≡ []) ⊎ ((caller : ℕ) × (made : ℕ → List Stored) × HasStoredIn c cap h steps caller made × (made block ≡ was.stores)) → CameWith (StandsIn (take entry h)) e number
          → CanBeStored c steps block number (take entry h)
      by (inr (caller, made, has, same)) it =
          shown_are_stored c cap h steps caller block number made e (take entry h) run has (subst (λ (l : List Stored). AllStored l e.up.got) (sym same) was.got) begins it
      by (inl none) (inl zeroth) = λ place x at some numbered. absurd (omega (arith, zeroth, numbered))
      by (inl none) (inr (i, m, x, at, few, is)) = let (k, one, here) = was.got i (m, x) at in none_got was.stores k x (CanBeStored c steps block number (take entry h)) none here

  of_look : (old by_then new : EndList Along) (block number entry : ℕ) → WereStored c cap h steps new → HasLooked old new block number
      → EndGoesOn (end_at by_then block) (end_at new block) → HasCameWith (StandsIn (take entry h)) by_then block number → CanBeStored c steps block number (take entry h)
  of_look old by_then new block number entry were between on came = by (end_at old block) (end_at by_then block) (end_at new block) between on came (were block)
    where
      by : (a b e : Option (EndValue Along)) → WasShown a e number → EndGoesOn b e → IfSome b (λ y. CameWith (StandsIn (take entry h)) y number)
          → IfSome e (WasStored c cap h steps block) → CanBeStored c steps block number (take entry h)
      by (Some a) (Some b) (Some e) shown goes with was = of_shown block number e entry was (came_later (StandsIn (take entry h)) b e number goes with)
      by (Some a) None (Some e) shown goes with was = absurd goes
      by a b e shown goes with was = absurd shown

-- ALL OF THEM
module _ {D : Type 0} (told : D → DeviceTold) (clock : D → Clock) (t : Terms) (steps : List Step) (run : AreRun t.config steps) (few : length steps < 2 ^ 60) (marks : List (Instance × Mark)) (ops : ℕ) (more : List Entry)
    (old new : SyncValue Along) (were : WereStored t.config t.cap (Found marks ops ∷ more) steps new.ends) where
  pub stores_are_taken : (looks : List Look)
      → ((l : Look) → Contains looks l → IsLookOf told clock (λ (s : SyncValue Along). map told_by s.ends) (λ (s : SyncValue Along). IsStore s.ends) (λ (x y : SyncValue Along). HasLooked x.ends y.ends) (λ (x y : SyncValue Along). IsOver x y) (λ (s : SyncValue Along) (block number : ℕ) (entries : List Entry). HasCameWith (StandsIn entries) s.ends block number) t (Found marks ops ∷ more) old new l)
      → AllTookShown looks (IsStore new.ends) t.config (Found marks ops ∷ []) more → CopiesAreShown t.config steps looks [] (Found marks ops ∷ more)
  stores_are_taken looks are took =
      copies_have_looks t.config steps looks (IsStoreThere new.ends) marks ops more (of_ends t.config t.cap (Found marks ops ∷ more) steps run new.ends few were)
      (λ l within.
      let is = are l within in
      of_look t.config t.cap (Found marks ops ∷ more) steps run old.ends is.by_then.ends new.ends l.block l.shown l.entry were is.between (is.since.ends l.block) is.stands_in)
      (all_took_on looks looks (IsStore new.ends) (IsStoreThere new.ends) (λ l has. has)
      (λ before block number x has is. (is, was_there (end_at old.ends block) (end_at new.ends block) number (are (look_behind before block number) has).between)) t.config (Found marks ops ∷ []) more took)
