-- The lines of stops.
use Rattle.std.proofs.Common.{◌≡◌, ◌≢◌, ℕ, List, [], ◌∷◌, Option, refl, sym, subst}
use Rattle.nvm_lines.specs.nv_streams.Sink.{Written}
use Rattle.nvm_flash.specs.nv_base.Count.{Rose}
use Rattle.nvm_top.specs.Ends.{ChecksBy, ReadsBy}
use Rattle.nvm_lines.specs.Output.{Writes}
use Rattle.nvm_lines.specs.Reading.{IsCheckStop}
use Rattle.nvm_lines.specs.declared.status.Status.{Status}
use Rattle.nvm_lines.specs.declared.status.Status.TheVariants as status
use Rattle.nvm_lines.specs.declared.stop.Stop.{Stop}
use Rattle.nvm_lines.specs.declared.stop.Stop.TheVariants as stop
use Rattle.nvm_lines.specs.Stop.{status_of, line_of, IsStop}

-- an end of one kind is one of another
pub Writes-as : (P Q : Status → List (List ℕ) → Type 0) (w w' : Written) (x : Status) → ((y : Status) (lines : List (List ℕ)) → P y lines → Q y lines) → Writes P w w' x → Writes Q w w' x
Writes-as P Q w w' status.Memory leads is = is
Writes-as P Q w w' status.WriteFault leads is = (is.0, is.1, leads is.0 is.1 is.2, is.3)
Writes-as P Q w w' x leads is = (is.0, leads x is.0 is.1, is.2)

-- a stop's line is of its status
pub by_stop : (P : Status → List (List ℕ) → Type 0) (why : Stop) (y : Status) (lines : List (List ℕ)) → (why ≢ stop.Memory → P (status_of why) (line_of why ∷ [])) → IsStop why y lines → P y lines
by_stop P why y lines holds is =
    subst (λ (z : Status). P z lines) (sym is.1) (subst (λ (l : List (List ℕ)). P (status_of why) l) (sym is.2) (holds is.0))

-- where the input isn't read
pub read_line : (left : Option (List ℕ)) (reads reads' : ℕ) (why : Stop) → (why ≡ stop.ReadFault → Rose reads reads') → IsCheckStop left why → why ≢ stop.Memory → ReadsBy left reads reads' (status_of why) (line_of why ∷ [])
read_line left reads reads' (stop.BadConfig rule block) fault is other = (rule, block, is, refl)
read_line left reads reads' stop.ReadFault fault is other = (fault refl, refl)
read_line left reads reads' stop.TooLong fault is other = (is, refl)
read_line left reads reads' stop.Memory fault is other = absurd (other refl)
read_line left reads reads' _ fault is other = absurd is

-- nor checked
check_line : (left : Option (List ℕ)) (reads reads' : ℕ) (why : Stop) → (why ≡ stop.ReadFault → Rose reads reads') → IsCheckStop left why → why ≢ stop.Memory → ChecksBy left reads reads' (status_of why) (line_of why ∷ [])
check_line left reads reads' (stop.BadConfig rule block) fault is other = (rule, block, is, refl)
check_line left reads reads' stop.ReadFault fault is other = (fault refl, refl)
check_line left reads reads' stop.TooLong fault is other = (is, refl)
check_line left reads reads' stop.Memory fault is other = absurd (other refl)
check_line left reads reads' _ fault is other = absurd is

pub unchecked_text : (left : Option (List ℕ)) (reads reads' : ℕ) (why : Stop) (w w' : Written) (x : Status) → (why ≡ stop.ReadFault → Rose reads reads') → IsCheckStop left why → Writes (IsStop why) w w' x → Writes (ChecksBy left reads reads') w w' x
unchecked_text left reads reads' why w w' x fault stops is =
    Writes-as (IsStop why) (ChecksBy left reads reads') w w' x (λ y lines at. by_stop (ChecksBy left reads reads') why y lines (check_line left reads reads' why fault stops) at) is

-- only want of memory has its status
pub not_wanting : (why : Stop) → why ≢ stop.Memory → status_of why ≢ status.Memory
not_wanting stop.Memory other e = other refl
not_wanting _ other e = cc
