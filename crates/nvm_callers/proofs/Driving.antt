-- What the driver did beside the callers, call by call.
use Rattle.nvm_callers.proofs.Common.{◌≡◌, inl, inr, ℕ, true, List, refl, ◌∙◌, DeviceTold, Clock, Entry, Told, View, knows, Terms, desk_with, PassValue, SharedState, LearnsMore, DriverState, Drives, IsDriverOf, TurnsOn, HasSteered, IsLegal, LearnsTurn, SeesRequests, StaysKeptOver, TellsAlways}
use Rattle.nvm_callers.proofs.Following.{drives_follow}
use Rattle.nvm_callers.proofs.JoinedPasses.{turns_collect}

abbrev V : Type 0
V = View Entry Terms

module _ {D C : Type 0} (told : D → DeviceTold) (clock : D → Clock) (copies : C → List Told) (is_store : C → ℕ → ℕ → List ℕ → Type 0) (looked : C → C → ℕ → ℕ → Type 0) (over : C → C → Type 0) (stands : C → ℕ → ℕ → List Entry → Type 0) (t : Terms) where
  abbrev Steers : (v w : V) → (old new : DriverState D C) → Type 0
  Steers v w old new = HasSteered told clock copies is_store looked over stands t v w old new

  -- nothing
  pub none_steered : (v : V) (old : DriverState D C) → Steers v v old old
  none_steered v old = record { driven = (0, (refl, refl)); shares = λ shares collects. collects; parts = refl }

  -- one behind another
  pub steered_more : (u v w : V) (a b c : DriverState D C) → Steers u v a b → Steers v w b c → Steers u w a c
  steered_more u v w a b c one two = record {
    driven = drives_follow told clock copies is_store looked over stands t u.seen v.seen w.seen a b c one.driven two.driven;
    shares = λ shares collects. two.shares shares (one.shares shares collects);
    parts = two.parts ∙ one.parts;
  }

  -- a turn
  pub turn_steers : (v w : V) (old new : DriverState D C) → TurnsOn told clock copies is_store looked over stands t v.seen w.seen old new → LearnsTurn v w → w.parts ≡ v.parts → Steers v w old new
  turn_steers v w old new turns learns parts = record {
    driven = (1, (v.seen, old, (refl, refl), inl turns));
    shares = λ shares collects. turns_collect shares v w learns collects;
    parts = parts;
  }

  -- no turn, but more that was seen
  pub count_steers : (v w : V) (old : DriverState D C) → LearnsMore v w → LearnsTurn v w → Drives told clock copies t.tells (desk_with t v.seen) old → SeesRequests told clock (desk_with t v.seen) (desk_with t w.seen) old
      → StaysKeptOver told clock copies is_store looked over stands t v.seen w.seen old old → Steers v w old old
  count_steers v w old more learns drives sees keeps = record {
    driven = (1, (v.seen, old, (refl, refl), inr (record { drives = drives; sees = sees; same = refl; keeps = keeps })));
    shares = λ shares collects. turns_collect shares v w learns collects;
    parts = more.parts;
  }

-- where the stack was shared as one that tells what its device holds, and its device tells it, what its pass has seen is legal
pub legal_where_told : {D C : Type 0} (told : D → DeviceTold) (clock : D → Clock) (copies : C → List Told) (shared : SharedState) (pass : PassValue) (s : DriverState D C) → IsDriverOf told clock copies shared pass s → TellsAlways told shared.terms
    → shared.terms.tells ≡ true → IsLegal shared.terms.config shared.terms.cap (knows pass).seen
legal_where_told told clock copies shared pass s driver telling tells = ((driver.drives.kept tells).1.all (telling tells s.device)).keeps.over.legal
