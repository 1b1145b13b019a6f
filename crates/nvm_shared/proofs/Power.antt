-- What the word of the power tells.
use Rattle.std.specs.Prelude.{nat_lt}
use Rattle.std.specs.Option.{option_and_then}
use Rattle.std.proofs.Common.{◌≡◌, ℕ, ◌<◌, Bool, true, false, if◌then◌else◌, Option, Some, None, refl, sym, ap, ◌∙◌, arith, ltb-true, ne_eqb}
use Rattle.nvm_core.specs.nv_base.Result.{code_of}
use Rattle.nvm_core.specs.block_machine.Words.{Pending, Accepted, Refused, StatusIs, IndexIs, Entry, Ask, Pick, Wrote, Post, Off, Found, Configuration}
use Rattle.nvm_core.specs.block_machine.State.{State}
use Rattle.nvm_core.specs.block_machine.Steps.{step}
use Rattle.nvm_core.proofs.JobPowering.{jobs_keep_power}
use Rattle.nvm_shared.specs.StatusWords.{off_word, told_at, pending_block, gives_by, gives}
use Rattle.nvm_shared.proofs.WordsTold.{told_if}
use Rattle.nvm_shared.proofs.Standing.{asks_leave_power}

none_if : (status block : ℕ) (b : Bool) → nat_lt block off_word ≡ b → gives_by (told_if b status block) off_word ≡ None
none_if status block false test = refl
none_if status block true test =
    let under : block < off_word = ltb-true block off_word test in
    ap (λ (t : Bool). if t then Some status else None) (ne_eqb block off_word (λ same. absurd (omega (arith, under, same))))

none_at : (status block : ℕ) → gives_by (told_at status block) off_word ≡ None
none_at status block = none_if status block (nat_lt block off_word) refl

none_pending : (o : Option ℕ) → gives_by (option_and_then (told_at (code_of Pending)) o) off_word ≡ None
none_pending (Some block) = none_at (code_of Pending) block
none_pending None = refl

-- the power as a number
abbrev pub power_of : State → ℕ
power_of s = if s.off then 1 else 0

-- an entry changes it as it gives a status to its word
pub record TellsPower (s t : State) (given : Option ℕ) : Type 0 where
  pub none : given ≡ None → power_of t ≡ power_of s
  pub some : (x : ℕ) → given ≡ Some x → power_of t ≡ x

quiet : (s t : State) (given : Option ℕ) → given ≡ None → t.off ≡ s.off → TellsPower s t given
quiet s t given nothing same = record { none = λ is. ap (λ (b : Bool). if b then 1 else 0) same; some = λ x is. let never : None ≡ Some x = sym nothing ∙ is in cc }

pub tells_power : (c : Configuration) (s : State) (e : Entry) → TellsPower s (step c s e) (gives e off_word)
tells_power c s (Ask caller r Accepted) = quiet s (step c s (Ask caller r Accepted)) _ (none_pending (pending_block r)) (asks_leave_power c s caller r Accepted).1
tells_power c s (Ask caller r (Refused why)) = quiet s (step c s (Ask caller r (Refused why))) _ refl refl
tells_power c s (Ask caller r (StatusIs status)) = quiet s (step c s (Ask caller r (StatusIs status))) _ refl refl
tells_power c s (Ask caller r (IndexIs index)) = quiet s (step c s (Ask caller r (IndexIs index))) _ refl refl
tells_power c s (Pick block kind t ops) = quiet s (step c s (Pick block kind t ops)) _ (none_at (code_of Pending) block) (jobs_keep_power c s (Pick block kind t ops) refl).off
tells_power c s (Wrote i mark ops) = quiet s (step c s (Wrote i mark ops)) _ refl (jobs_keep_power c s (Wrote i mark ops) refl).off
tells_power c s (Post block r given refused ops) = quiet s (step c s (Post block r given refused ops)) _ (none_at (code_of r) block) (jobs_keep_power c s (Post block r given refused ops) refl).off
tells_power c s (Off ops) = record { none = λ is. cc; some = λ x is. let same : 1 ≡ x = cc in same }
tells_power c s (Found marks ops) = record { none = λ is. cc; some = λ x is. let same : 0 ≡ x = cc in same }
