-- The steps and the words of `soak`.
use Rattle.std.specs.Prelude.{nat_le, IfSome, slice_get, option_and_then, option_map}
use Rattle.std.specs.Str.Parse.{digits_value}
use Rattle.std.proofs.Common.{◌≡◌, ◌≤◌, ◌⊎◌, ◌&&◌, ℕ, Bool, true, false, List, [], ◌∷◌, Option, Some, None, if◌then◌else◌, refl, ap, subst, inl, inr}
use Rattle.std.proofs.lemmas.Bool.{leb-true}
use Rattle.nvm_lines.specs.nv_streams.Sink.{Written}
use Rattle.nvm_flash.specs.nv_base.Decimal.{is_numeral, decimal_number_of}
use Rattle.nvm_flash.specs.block_config.Config.{Configuration}
use Rattle.nvm_flash.specs.fls_model.Told.{Told}
use Rattle.nvm_words.specs.Words.{are_words, command_named, command_in, command_of}
use Rattle.nvm_words.specs.declared.words.CommandKind.{CommandKind}
use Rattle.nvm_words.specs.declared.words.CommandKind.TheVariants.{Play, Run, Dump, Check, Soak, Uds}
use Rattle.nvm_script.specs.declared.script.Mode.TheVariants as mode
use Rattle.nvm_script.specs.declared.step.Step.{Step}
use Rattle.nvm_top.specs.declared.runs.RunText.TheVariants.{Summary}
use Rattle.nvm_lines.specs.declared.status.Status.{Status}
use Rattle.nvm_top.specs.Ends.{HasScript}
use Rattle.nvm_top.specs.Play.{IsFlashStop}
use Rattle.nvm_top.specs.Promised.{played_call, EndsIn, HasNoRun, HasRun, HasSoaked}
use Rattle.nvm_top.specs.Soak.{HasStepAt, SoakStopsBy}
use Rattle.nvm_top.proofs.WholeCalls.{sized}

-- FEW ROUNDS

some_is : (a b : ℕ) → Some a ≡ Some b → a ≡ b
some_is a b is = cc

picked : (b d e : Bool) (v n high : ℕ) → (e ≡ true → v ≤ high) → (if b then (if d && e then Some v else None) else None) ≡ Some n → n ≤ high
picked true true true v n high le is = subst (λ (m : ℕ). m ≤ high) (some_is v n is) (le refl)
picked true true false v n high le is = cc
picked true false e v n high le is = cc
picked false d e v n high le is = cc

within : (low high n : ℕ) (text : List ℕ) → decimal_number_of low high text ≡ Some n → n ≤ high
unfolding decimal_number_of
within low high n text is = picked (is_numeral text) (nat_le low (digits_value 10 text)) (nat_le (digits_value 10 text) high) (digits_value 10 text) n high (leb-true (digits_value 10 text) high) is

-- a seed and a count, where both are numbers
abbrev soak_of : Option ℕ → Option ℕ → Option CommandKind
soak_of seed count = option_and_then (λ s. option_map (λ n. Soak s n) count) seed

soak_few : (seed count : Option ℕ) (s n : ℕ) → soak_of seed count ≡ Some (Soak s n) → count ≡ Some n
soak_few None count s n is = cc
soak_few (Some x) None s n is = cc
soak_few (Some x) (Some y) s n is = cc

soak_if : (b : Bool) (o : Option CommandKind) (s n : ℕ) → (if b then o else None) ≡ Some (Soak s n) → o ≡ Some (Soak s n)
soak_if true o s n is = is
soak_if false o s n is = cc

no_soak_if : (b : Bool) (k : CommandKind) (o : Option CommandKind) (s n : ℕ) → (Some k ≡ Some (Soak s n) → ⊥) → (o ≡ Some (Soak s n) → ⊥) → (if b then Some k else o) ≡ Some (Soak s n) → ⊥
no_soak_if true k o s n one other is = one is
no_soak_if false k o s n one other is = other is

not_soak : (word : List ℕ) (s n : ℕ) → command_named word ≡ Some (Soak s n) → ⊥
not_soak word s n = no_soak_if _ Play _ s n (λ e. cc) (no_soak_if _ Run _ s n (λ e. cc) (no_soak_if _ Dump _ s n (λ e. cc) (no_soak_if _ Check _ s n (λ e. cc) (no_soak_if _ Uds None s n (λ e. cc) (λ e. cc)))))

in_few : (words : List (List ℕ)) (s n : ℕ) → command_in words ≡ Some (Soak s n) → n ≤ 10000
in_few [] s n is = cc
in_few (a ∷ []) s n is = cc
in_few (a ∷ word ∷ []) s n is = absurd (not_soak word s n is)
in_few (a ∷ word ∷ x ∷ []) s n is = cc
in_few (a ∷ word ∷ x ∷ y ∷ []) s n is = within 0 10000 n y (soak_few (decimal_number_of 0 4294967295 x) (decimal_number_of 0 10000 y) s n (soak_if _ (soak_of (decimal_number_of 0 4294967295 x) (decimal_number_of 0 10000 y)) s n is))
in_few (a ∷ word ∷ x ∷ y ∷ z ∷ rest) s n is = cc

-- the words name no more than this many
pub few_rounds : (words : List (List ℕ)) (s n : ℕ) → command_of words ≡ Some (Soak s n) → n ≤ 10000
few_rounds words s n is = in_few words s n (soak_if (are_words words) (command_in words) s n is)

-- A CALL

-- the first step stands in this line
pub step_stops : (left : Option (List ℕ)) (c : Configuration) (steps : List Step) (x : Step) → slice_get steps 0 ≡ Some x → IfSome left (λ bytes. HasScript mode.Play bytes c steps) → IfSome left (λ bytes. HasStepAt bytes x.line)
step_stops None c steps x at has = tt
step_stops (Some bytes) c [] x at has = absurd (cc at)
step_stops (Some bytes) c (y ∷ ys) x at has = inr (c, y, ys, has, ap (λ (s : Step). s.line) (same_step y x at))
  where
    same_step : (a b : Step) → Some a ≡ Some b → a ≡ b
    same_step a b is = cc

-- a run's promise is the call's
pub soaked : (left : Option (List ℕ)) (reads reads' : ℕ) (x : Status) (c : Configuration) (made : List Step) (steps : Configuration → List Step) (entry exit : Told) (w w' : Written) → IfSome left (λ bytes. HasScript mode.Play bytes c []) → made ≡ steps c
    → HasRun mode.Play c made (EndsIn Summary (played_call left x entry exit w w')) entry exit ⊎ HasNoRun (IsFlashStop c entry.bytes) w w' x entry exit
    → HasSoaked left steps (played_call left x entry exit w w') ⊎ HasNoRun (SoakStopsBy left reads reads' entry.bytes) w w' x entry exit
soaked left reads reads' x c made steps entry exit w w' has drawn (inl run) = inl (c, has, subst (λ (xs : List Step). HasRun mode.Play c xs (EndsIn Summary (played_call left x entry exit w w')) entry exit) drawn run)
soaked left reads reads' x c made steps entry exit w w' has drawn (inr none) = inr (sized HasStepAt (λ d bytes. HasScript mode.Play bytes d []) left reads reads' c w w' x entry exit has none)
