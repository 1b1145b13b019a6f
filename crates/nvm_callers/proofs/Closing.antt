-- A run of callers over mirrors.
use Rattle.nvm_callers.proofs.Common.{map, IsTrue, All, ◌≡◌, ℕ, List, [], ◌∷◌, sym, ap, subst, DeviceTold, Clock, Entry, Ask, Found, Instance, Mark, PlainBlock, AreClosed, AreMade, EndList, EndsGoOn, HasCameWith, HasLooked, IsOver, IsStore, Pairs, SideList, SyncValue, told_by, DeskState, AreSynchronized, View, knows, Step, CopiesAreShown, has_ended, Program, Terms, desk_with, PassValue, SharedState, StandsIn, IsFirst, DriverState, IsDriverOf, driver_of, stack_of, HasDriven, IsLookOf, LooksAreOrdered, AllDealt, AllGathered, IsClosedBy, BeginsUnasked, Along, SidesValue, bytes_at, stores_at, HaveRun, MayRun, Ending, AreProgramsOf, IsBegun, KeepsOrder, WasRun, programs_of, LooksAre, looks_go_on}
use Rattle.driver_moves.specs.nvm_shared.Passes.{IsEntry}
use Rattle.nvm_callers.proofs.Beginning.{may_drive, may_run}
use Rattle.nvm_callers.proofs.Finishing.{keeps_order_of, refuse_none, was_run}
use Rattle.nvm_callers.proofs.Keeping.{driving_keeps}
use Rattle.nvm_callers.proofs.Owned.{sides_in, still_bytes, were_stored}
use Rattle.nvm_callers.proofs.StoresTaken.{WereStored, stores_are_taken}

-- what mirrors showed stays in order
shown_in_order : {N : Type 0} → LooksAreOrdered (λ (old new : SyncValue N). HasLooked old.ends new.ends) (λ (first now : SyncValue N). IsOver first now)
shown_in_order {N} =
    let laws = looks_go_on {N = N} in record {
      itself = laws.itself;
      later = laws.later;
      earlier = laws.earlier;
      ascend = laws.ascend;
    }

module _ {D : Type 0} (told : D → DeviceTold) (clock : D → Clock) (shared : SharedState) (p : PassValue) (r : DriverState D (List PlainBlock)) (begins : IsBegun told shared.terms.config shared p r) where
  -- these programs may be made
  pub may_run_all : (programs : List Program) (steps : List Step) → AreProgramsOf shared.terms.config steps programs → All (MayRun shared.terms.config) programs
  may_run_all programs steps are =
      subst (λ (ps : List Program). All (MayRun shared.terms.config) ps) (sym are.are) (may_run shared.terms.config steps begins.few are.run)

  module _ {N : Type 0} (m : SyncValue N) (mirrors : Pairs) (ends : EndList N) (is : m ≡ record { mirrors = mirrors; ends = ends }) (synchronized : AreSynchronized shared.terms.config (map told_by ends)) (now : DriverState D (SyncValue N)) (swapped : now ≡ driver_of r.device m r.hand) where
    are_synchronized : AreSynchronized shared.terms.config (map told_by m.ends)
    are_synchronized = subst (λ (es : EndList N). AreSynchronized shared.terms.config (map told_by es)) (sym (ap (λ (s : SyncValue N). s.ends) is)) synchronized

    -- the driver may begin its turns with them
    pub may_drive_on : IsDriverOf told clock (λ (s : SyncValue N). map told_by s.ends) shared p now
    may_drive_on =
        subst (λ (x : DriverState D (SyncValue N)). IsDriverOf told clock (λ (s : SyncValue N). map told_by s.ends) shared p x) (sym swapped)
        (may_drive told clock (λ (s : SyncValue N). map told_by s.ends) shared.terms.config shared p r begins m are_synchronized)

    module _ {stands : SyncValue N → ℕ → ℕ → List Entry → Type 0} (h : List Entry) (last : DriverState D (SyncValue N)) (driven : HasDriven told clock (λ (s : SyncValue N). map told_by s.ends) (λ (s : SyncValue N). IsStore s.ends) (λ (x y : SyncValue N). HasLooked x.ends y.ends) (λ (x y : SyncValue N). IsOver x y) stands shared.terms (knows p).seen h now last) (ended : IsTrue (has_ended shared.terms.config h)) (e : Ending) (desk : DeskState) (is_desk : desk ≡ desk_with shared.terms h) where
      -- what was kept
      pub was_run_on : (device : D) → device ≡ last.device → WasRun told clock (stack_of (desk_with shared.terms (knows p).seen) r) e desk device
      was_run_on device is_device =
          was_run told clock (λ (s : SyncValue N). map told_by s.ends) (λ (s : SyncValue N). IsStore s.ends) (λ (x y : SyncValue N). HasLooked x.ends y.ends) (λ (x y : SyncValue N). IsOver x y) stands shared.terms (knows p).seen h r m last e desk device
          (subst (λ (x : DriverState D (SyncValue N)). HasDriven told clock (λ (s : SyncValue N). map told_by s.ends) (λ (s : SyncValue N). IsStore s.ends) (λ (x y : SyncValue N). HasLooked x.ends y.ends) (λ (x y : SyncValue N). IsOver x y) stands shared.terms (knows p).seen h x last) swapped driven)
          are_synchronized (refuse_none m.ends) ended is_desk is_device

-- WITH WHAT CALLERS STORED
abbrev S : Type 0
S = SyncValue Along

abbrev stands_in : S → ℕ → ℕ → List Entry → Type 0
stands_in s block number entries = HasCameWith (StandsIn entries) s.ends block number

abbrev Drove : {D : Type 0} → (told : D → DeviceTold) → (clock : D → Clock) → Terms → (seen seen_new : List Entry) → (old new : DriverState D S) → Type 0
Drove told clock t seen seen_new old new =
    HasDriven told clock (λ (s : S). map told_by s.ends) (λ (s : S). IsStore s.ends) (λ (x y : S). HasLooked x.ends y.ends) (λ (x y : S). IsOver x y) stands_in t seen seen_new old new

-- the driver's copies at the end are those of the same mirrors, and go on from the first ones
pub still_over : {D : Type 0} (told : D → DeviceTold) (clock : D → Clock) (t : Terms) (seen h : List Entry) (old new : DriverState D S) (m : S) → old.copies ≡ m → Drove told clock t seen h old new → IsOver m new.copies
still_over told clock t seen h old new m is driven =
    let kept = driving_keeps told clock (λ (s : S). map told_by s.ends) (λ (s : S). IsStore s.ends) (λ (x y : S). HasLooked x.ends y.ends) (λ (x y : S). IsOver x y) stands_in t seen h old new driven in
    let laws = looks_go_on {N = Along} in
    kept.stays_over m (subst (λ (s : S). IsOver m s) (sym is) (laws.itself m))

module _ {D : Type 0} (told : D → DeviceTold) (clock : D → Clock) (t : Terms) (steps : List Step) (programs : List Program) (are : AreProgramsOf t.config steps programs) (mirrors : Pairs) (ends : EndList Along) (sides left all : SideList Along) (made : AreMade t.config mirrors ends sides)
    (firsts nows : List SidesValue) (dealt : AllDealt programs sides (map sides_in firsts) left) (back : AllGathered (map sides_in nows) left all) where
  -- and in order
  pub keeps_order_on : (seen h : List Entry) → IsFirst seen → (old new : DriverState D S) → Drove told clock t seen h old new → EndsGoOn ends new.copies.ends → AreClosed new.copies.ends all
      → (e : Ending) (v : View Entry Terms) (desk : DeskState)
      → HaveRun (λ (s : SidesValue). bytes_at s.sides) (λ (s : SidesValue). stores_at s.sides) (λ (s : SidesValue). s.mirrors) t programs firsts nows e v → IsClosedBy v desk.entries
      → IsTrue (has_ended t.config h) → desk ≡ desk_with t h → KeepsOrder steps e desk
  keeps_order_on seen h (marks, ops, one) old new driven on shut e v desk ran closed ended is_desk =
      let entries = ap (λ (d : DeskState). d.entries) is_desk in
      let own = subst (λ (l : List Entry). Drove told clock t l h old new) one driven in
      let ran_own = subst (λ (ps : List Program). HaveRun (λ (s : SidesValue). bytes_at s.sides) (λ (s : SidesValue). stores_at s.sides) (λ (s : SidesValue). s.mirrors) t ps firsts nows e v) are.are ran in
      let dealt_own = subst (λ (ps : List Program). AllDealt ps sides (map sides_in firsts) left) are.are dealt in
      let closed_own = subst (λ (l : List Entry). IsClosedBy v l) entries closed in
      keeps_order_of told clock (λ (s : S). map told_by s.ends) (λ (s : S). IsStore s.ends) (λ (x y : S). HasLooked x.ends y.ends) (λ (x y : S). IsOver x y) stands_in t
      (λ (s : SidesValue). bytes_at s.sides) (λ (s : SidesValue). stores_at s.sides) (λ (s : SidesValue). s.mirrors) shown_in_order steps are.run marks ops h old new own firsts nows e v desk ran_own closed_own ended
      (λ looks.
      let were = were_stored t steps are.run mirrors ends sides left all made firsts nows e v h dealt_own ran_own closed_own (unasked marks ops looks.more h looks.grows) new.copies.ends on back (still_bytes t (programs_of t.config steps) mirrors ends sides left made firsts nows e v dealt_own ran_own) shut in
      taken_of marks ops h old new looks were) is_desk
    where
      unasked : (marks : List (Instance × Mark)) (ops : ℕ) (more h : List Entry) → h ≡ Found marks ops ∷ more → BeginsUnasked h
      unasked marks ops more h is caller r reply = subst (λ (l : List Entry). ¬ IsEntry l 0 (Ask caller r reply)) (sym is) (λ is_ask. cc is_ask)

      taken_of : (marks : List (Instance × Mark)) (ops : ℕ) (h : List Entry) (old new : DriverState D S)
          → (looks : LooksAre told clock (λ (s : S). map told_by s.ends) (λ (s : S). IsStore s.ends) (λ (x y : S). HasLooked x.ends y.ends) (λ (x y : S). IsOver x y) stands_in t (Found marks ops ∷ []) h old new)
          → WereStored t.config t.cap h steps new.copies.ends → CopiesAreShown t.config steps looks.looks [] h
      taken_of marks ops h old new looks were =
          let grown : h ≡ Found marks ops ∷ looks.more = looks.grows in
          subst (λ (l : List Entry). CopiesAreShown t.config steps looks.looks [] l) (sym grown)
          (stores_are_taken told clock t steps are.run are.few marks ops looks.more old.copies new.copies
          (subst (λ (l : List Entry). WereStored t.config t.cap l steps new.copies.ends) grown were) looks.looks
          (λ l within. subst (λ (k : List Entry). IsLookOf told clock (λ (s : S). map told_by s.ends) (λ (s : S). IsStore s.ends) (λ (x y : S). HasLooked x.ends y.ends) (λ (x y : S). IsOver x y) stands_in t k old.copies new.copies l) grown (looks.are l within)) looks.took)
