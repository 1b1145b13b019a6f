-- What a script may have is settled so, and nothing else.
use Rattle.std.proofs.Common.{◌≡◌, ◌==◌, ℕ, Bool, true, false, nat_le, List, length, IfSome, IsSome, Option, Some, None, if◌then◌else◌, refl, sym, ap, ◌∙◌}
use Rattle.std.proofs.lemmas.Bool.{eqb-true, eq-eqb, leb-true, le-leb}
use Rattle.std.specs.Option.{option_map, is_some}
use Rattle.nv_base.specs.declared.request.Request.TheVariants as request
use Rattle.nv_base.specs.declared.geometry.Geometry.{Geometry}
use Rattle.block_config.specs.Config.{Configuration}
use Rattle.nvm_script.specs.declared.step.StepKind.{StepKind}
use Rattle.nvm_script.specs.declared.step.StepKind.TheVariants.{Ask, Store, CutSecond, Refuse, Await}
use Rattle.nvm_script.specs.declared.script.Mode.{Mode}
use Rattle.nvm_script.specs.declared.script.Mode.TheVariants.{Play, Run}
use Rattle.nvm_script.specs.Rules.{sync_length_of, IsPlayed, Allows, settled_put, where_played, where_run, settled}
use Rattle.nvm_script.specs.Spelling.{Spells}
use Rattle.nvm_script.specs.Step.{IsStep}
use Rattle.nvm_script.proofs.SpellingLaws.{read_as}

-- a settled step is the text's
abbrev pub IsSettled : Configuration → Mode → Bool → List ℕ → Option StepKind → Type 0
IsSettled c mode called text o = IfSome o (λ kind. IsStep c mode called text kind)

played_sound : (mode : Mode) (called : Bool) (o : Option StepKind) (P : StepKind → Type 0) → (IsPlayed mode called → IfSome o P) → IfSome (where_played mode called o) P
played_sound Play false o P has = has (refl, refl)
played_sound Play true o P has = tt
played_sound Run called o P has = tt

run_sound : (mode : Mode) (o : Option StepKind) (P : StepKind → Type 0) → (mode ≡ Run → IfSome o P) → IfSome (where_run mode o) P
run_sound Run o P has = has refl
run_sound Play o P has = tt

put_sound : (c : Configuration) (mode : Mode) (called : Bool) (text : List ℕ) (block : ℕ) (content : List ℕ) (o : Option ℕ) → sync_length_of c block ≡ o → Spells (Ask (request.PutRam block content)) text
    → IsSettled c mode called text (settled_put block content o)
put_sound c mode called text block content None e is = (is, e)
put_sound c mode called text block content (Some n) e is = by_length (length content == n) refl
  where
    by_length : (b : Bool) → (length content == n) ≡ b → IsSettled c mode called text (if b then Some (Store block content) else None)
    by_length true same = (is, e ∙ ap Some (sym (eqb-true (length content) n same)))
    by_length false same = tt

refuse_sound : (c : Configuration) (mode : Mode) (called : Bool) (text : List ℕ) (block count : ℕ) (o : Option ℕ) → sync_length_of c block ≡ o → Spells (Refuse block count) text → IsPlayed mode called
    → IsSettled c mode called text (option_map (λ _. Refuse block count) o)
refuse_sound c mode called text block count None e is played = tt
refuse_sound c mode called text block count (Some n) e is played = (is, (played, ap is_some e))

second_sound : (c : Configuration) (mode : Mode) (called : Bool) (text : List ℕ) (nth keep : ℕ) (o : Option Geometry) → c.eeprom ≡ o → Spells (CutSecond nth keep) text → IsPlayed mode called
    → IsSettled c mode called text (option_map (λ _. CutSecond nth keep) o)
second_sound c mode called text nth keep None e is played = tt
second_sound c mode called text nth keep (Some g) e is played = (is, (played, ap is_some e))

await_sound : (c : Configuration) (mode : Mode) (called : Bool) (text : List ℕ) (block : ℕ) (b : Bool) → nat_le block (length c.blocks) ≡ b → Spells (Await block) text → mode ≡ Run
    → IsSettled c mode called text (if b then Some (Await block) else None)
await_sound c mode called text block true within is run = (is, (run, leb-true block (length c.blocks) within))
await_sound c mode called text block false within is run = tt

pub settled-sound : (c : Configuration) (mode : Mode) (called : Bool) (text : List ℕ) (kind : StepKind) → Spells kind text → IsSettled c mode called text (settled c mode called kind)
settled-sound c mode called text (Ask (request.PutRam block content)) is = put_sound c mode called text block content (sync_length_of c block) refl is
settled-sound c mode called text (Ask asked) is = (is, tt)
settled-sound c mode called text (Store block content) is = tt
settled-sound c mode called text (CutSecond nth keep) is =
    played_sound mode called (option_map (λ _. CutSecond nth keep) c.eeprom) (λ kind. IsStep c mode called text kind) (λ played. second_sound c mode called text nth keep c.eeprom refl is played)
settled-sound c mode called text (Refuse block count) is =
    played_sound mode called (option_map (λ _. Refuse block count) (sync_length_of c block)) (λ kind. IsStep c mode called text kind) (λ played. refuse_sound c mode called text block count (sync_length_of c block) refl is played)
settled-sound c mode called text (Await block) is =
    run_sound mode (if nat_le block (length c.blocks) then Some (Await block) else None) (λ kind. IsStep c mode called text kind) (λ run. await_sound c mode called text block (nat_le block (length c.blocks)) refl is run)
settled-sound c mode called text kind is = played_sound mode called (Some kind) (λ kind. IsStep c mode called text kind) (λ played. (is, played))

is_played : (mode : Mode) (called : Bool) (o : Option StepKind) → IsPlayed mode called → where_played mode called o ≡ o
is_played mode called o played = ap (λ (m : Mode). where_played m called o) played.0 ∙ ap (λ (b : Bool). where_played Play b o) played.1

is_run : (mode : Mode) (o : Option StepKind) → mode ≡ Run → where_run mode o ≡ o
is_run mode o run = ap (λ (m : Mode). where_run m o) run

mapped : {A : Type 0} (kind : StepKind) (o : Option A) → IsSome o → option_map (λ _. kind) o ≡ Some kind
mapped kind None has = cc
mapped kind (Some x) has = refl

pub settled-complete : (c : Configuration) (mode : Mode) (called : Bool) (kind : StepKind) → Allows c mode called kind → settled c mode called (read_as kind) ≡ Some kind
settled-complete c mode called (Ask (request.PutRam block content)) may = ap (settled_put block content) may
settled-complete c mode called (Ask asked) may = refl
settled-complete c mode called (Store block content) may = ap (settled_put block content) may ∙ rw (eq-eqb (length content) (length content) refl) refl
settled-complete c mode called (CutSecond nth keep) may =
    is_played mode called (option_map (λ _. CutSecond nth keep) c.eeprom) may.0 ∙ mapped (CutSecond nth keep) c.eeprom may.1
settled-complete c mode called (Refuse block count) may =
    is_played mode called (option_map (λ _. Refuse block count) (sync_length_of c block)) may.0 ∙ mapped (Refuse block count) (sync_length_of c block) may.1
settled-complete c mode called (Await block) may = is_run mode _ may.0 ∙ rw (le-leb block (length c.blocks) may.1) refl
settled-complete c mode called kind may = is_played mode called (Some kind) may
