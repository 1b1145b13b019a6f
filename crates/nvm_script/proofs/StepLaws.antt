-- A step is read exactly where the text is one.
use Rattle.std.proofs.Common.{◌≡◌, ℕ, Bool, List, IfSome, MatchOption, Option, Some, None, refl, ap, ◌∙◌, subst}
use Rattle.block_config.specs.Config.{Configuration}
use Rattle.nvm_script.specs.declared.step.StepKind.{StepKind}
use Rattle.nvm_script.specs.declared.script.Mode.{Mode}
use Rattle.nvm_script.specs.Reading.{spelled}
use Rattle.nvm_script.specs.Rules.{settled}
use Rattle.nvm_script.specs.Spelling.{Spells}
use Rattle.nvm_script.specs.Step.{IsStep}
use Rattle.nvm_script.proofs.RuleLaws.{settled-sound, settled-complete}
use Rattle.nvm_script.proofs.SpellingLaws.{IsSound, read_as, spelled-sound, spelled-complete}

-- the step that the text is, or none where it is no step
abbrev pub IsExact : Configuration → Mode → Bool → List ℕ → Option StepKind → Type 0
IsExact c mode called text o = MatchOption o ((kind : StepKind) → IsStep c mode called text kind → ⊥) (λ kind. IsStep c mode called text kind)

by_settled : (c : Configuration) (mode : Mode) (called : Bool) (text : List ℕ) (read : StepKind) (o : Option StepKind) → spelled text ≡ Some read → settled c mode called read ≡ o → IfSome o (λ kind. IsStep c mode called text kind)
    → IsExact c mode called text o
by_settled c mode called text read None spells settles sound = λ kind is.
    let again : spelled text ≡ Some (read_as kind) = spelled-complete kind text is.0 in
    let same : read ≡ read_as kind = cc in
    let other : settled c mode called read ≡ Some kind = ap (settled c mode called) same ∙ settled-complete c mode called kind is.1 in
    cc
by_settled c mode called text read (Some kind) spells settles sound = sound

pub IsExact-some : (c : Configuration) (mode : Mode) (called : Bool) (text : List ℕ) (read : StepKind) → spelled text ≡ Some read → IsExact c mode called text (settled c mode called read)
IsExact-some c mode called text read spells =
    let spelled_so : Spells read text = subst (λ (o : Option StepKind). IsSound o text) spells (spelled-sound text) in
    by_settled c mode called text read (settled c mode called read) spells refl (settled-sound c mode called text read spelled_so)

pub IsExact-none : (c : Configuration) (mode : Mode) (called : Bool) (text : List ℕ) → spelled text ≡ None → IsExact c mode called text None
IsExact-none c mode called text none = λ kind is. let again : spelled text ≡ Some (read_as kind) = spelled-complete kind text is.0 in cc
