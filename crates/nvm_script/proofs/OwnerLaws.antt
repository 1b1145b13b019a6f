-- The table of owners keeps up with the steps.
use Rattle.std.proofs.Common.{◌≡◌, ◌≢◌, ◌≤◌, ◌<◌, ◌+◌, ◌==◌, ℕ, zero, suc, Bool, true, false, not, ◌||◌, List, [], ◌∷◌, ◌++◌, length, slice_get, slice_set, replicate, Option, Some, None, if◌then◌else◌, refl, sym, ap, subst, ◌∙◌, arith}
use Rattle.std.proofs.lemmas.Bool.{eqb-true, eq-eqb}
use Rattle.std.proofs.lemmas.List.{length-set, get_or-set_same, get_or-set_other, get_or-replicate, length-replicate}
use Rattle.std.proofs.lemmas.Option.{slice_get-get_or, slice_get_within}
use Rattle.std.specs.Option.{option_and_then, option_map_or, is_some}
use Rattle.block_config.specs.Config.{Configuration}
use Rattle.block_config.specs.declared.block.BlockDesc.{BlockDesc}
use Rattle.nvm_script.specs.declared.step.Step.{Step}
use Rattle.nvm_script.specs.declared.step.StepKind.{StepKind}
use Rattle.nvm_script.specs.declared.script.Mode.{Mode}
use Rattle.nvm_script.specs.declared.script.Mode.TheVariants.{Play, Run}
use Rattle.nvm_script.specs.Owners.{ram_block_of, owner_of, may_own, keeps_owner, owner_in, noted_where, noted_at, noted}
use Rattle.nvm_script.specs.Rules.{length_where_sync, sync_length_of}
use Rattle.nvm_script.specs.ScriptReading.{Owns}

-- a step is of this block
abbrev pub is_block : ℕ → Option ℕ → Bool
is_block block o = option_map_or (λ b. b == block) o false

-- a caller is the owner, if there is one
abbrev pub is_owner : ℕ → Option ℕ → Bool
is_owner caller owner = option_map_or (λ o. o == caller) owner true

-- what a lookup gives
at_place : (table : List (Option ℕ)) (block : ℕ) → block < length table → slice_get table block ≡ Some (owner_in table block)
at_place table block within =
    let e = slice_get-get_or table block None within in
    e ∙ ap Some (sym (ap (λ (o : Option (Option ℕ)). option_and_then (λ o. o) o) e))

pub Owns-empty : (c : Configuration) → Owns c (replicate (length c.blocks + 1) None) []
Owns-empty c = record {
  size = length-replicate (length c.blocks + 1) None;
  owners = λ block le. ap (λ (o : Option (Option ℕ)). option_and_then (λ o. o) o) (slice_get-get_or (replicate (length c.blocks + 1) None) block None (rw length-replicate (omega arith)) ∙ ap Some (get_or-replicate (length c.blocks + 1) block None None (omega arith)));
}

-- the owner behind one more step: as before, or else the step's caller
abbrev pub later : Option ℕ → Step → ℕ → Option ℕ
later (Some owner) s block = Some owner
later None s block = if is_block block (ram_block_of s.kind) then Some s.caller else None

by_first : (b : Bool) (caller : ℕ) (after before : Option ℕ) (s : Step) (block : ℕ) → after ≡ later before s block → (if b then Some caller else after) ≡ later (if b then Some caller else before) s block
by_first true caller after before s block e = refl
by_first false caller after before s block e = e

pub owner_of-append : (steps : List Step) (s : Step) (block : ℕ) → owner_of (steps ++ s ∷ []) block ≡ later (owner_of steps block) s block
owner_of-append [] s block = refl
owner_of-append (x ∷ steps) s block = by_first (is_block block (ram_block_of x.kind)) x.caller (owner_of (steps ++ s ∷ []) block) (owner_of steps block) s block (owner_of-append steps s block)

set_same : (table : List (Option ℕ)) (block caller : ℕ) → block < length table → owner_in (slice_set table block (Some caller)) block ≡ Some caller
set_same table block caller within =
    ap (λ (o : Option (Option ℕ)). option_and_then (λ o. o) o) (slice_get-get_or (slice_set table block (Some caller)) block None (rw length-set within) ∙ ap Some (get_or-set_same table block (Some caller) None within))

set_other : (table : List (Option ℕ)) (block other caller : ℕ) → other ≢ block → other < length table → owner_in (slice_set table block (Some caller)) other ≡ owner_in table other
set_other table block other caller differ within =
    ap (λ (o : Option (Option ℕ)). option_and_then (λ o. o) o) (slice_get-get_or (slice_set table block (Some caller)) other None (rw length-set within) ∙ ap Some (get_or-set_other table block other (Some caller) None differ) ∙ sym (slice_get-get_or table other None within))

none_later : (o : Option ℕ) (s : Step) (block : ℕ) → is_block block (ram_block_of s.kind) ≡ false → later o s block ≡ o
none_later None s block other = rw other refl
none_later (Some owner) s block other = refl

other_later : (table : List (Option ℕ)) (s : Step) (named block : ℕ) → ram_block_of s.kind ≡ Some named → (named == block) ≡ false → later (owner_in table block) s block ≡ owner_in table block
other_later table s named block names other = none_later (owner_in table block) s block (ap (is_block block) names ∙ other)

free_entry : (table : List (Option ℕ)) (s : Step) (named block : ℕ) (b : Bool) → (named == block) ≡ b → slice_get table named ≡ Some None → ram_block_of s.kind ≡ Some named → block < length table
    → owner_in (slice_set table named (Some s.caller)) block ≡ later (owner_in table block) s block
free_entry table s named block true same at_named names within =
    let e : block ≡ named = sym (eqb-true named block same) in
    let free : owner_in table block ≡ None = ap (owner_in table) e ∙ ap (λ (o : Option (Option ℕ)). option_and_then (λ o. o) o) at_named in
    let is : is_block block (ram_block_of s.kind) ≡ true = ap (is_block block) names ∙ same in
    let ours : later None s block ≡ Some s.caller = ap (λ (b : Bool). if b then Some s.caller else None) is in
    ap (owner_in (slice_set table named (Some s.caller))) e ∙ set_same table named s.caller (subst (λ (n : ℕ). n < length table) e within) ∙ sym (ap (λ (o : Option ℕ). later o s block) free ∙ ours)
free_entry table s named block false other at_named names within =
    set_other table named block s.caller (λ e. cc (eq-eqb named block (sym e), other)) within ∙ sym (other_later table s named block names other)

owned_entry : (table : List (Option ℕ)) (s : Step) (named block owner : ℕ) (b : Bool) → (named == block) ≡ b → slice_get table named ≡ Some (Some owner) → ram_block_of s.kind ≡ Some named
    → owner_in table block ≡ later (owner_in table block) s block
owned_entry table s named block owner true same at_named names =
    let e : block ≡ named = sym (eqb-true named block same) in
    let owned : owner_in table block ≡ Some owner = ap (owner_in table) e ∙ ap (λ (o : Option (Option ℕ)). option_and_then (λ o. o) o) at_named in
    owned ∙ sym (ap (λ (o : Option ℕ). later o s block) owned)
owned_entry table s named block owner false other at_named names = sym (other_later table s named block names other)

past_entry : (table : List (Option ℕ)) (s : Step) (named block : ℕ) (b : Bool) → (named == block) ≡ b → slice_get table named ≡ None → ram_block_of s.kind ≡ Some named → block < length table
    → owner_in table block ≡ later (owner_in table block) s block
past_entry table s named block true same at_named names within =
    let e : named ≡ block = eqb-true named block same in
    cc (at_place table block within, at_named, e)
past_entry table s named block false other at_named names within = sym (other_later table s named block names other)

-- an entry of the table after one more step
entry_after : (table : List (Option ℕ)) (s : Step) (named block : ℕ) (slot : Option (Option ℕ)) → slice_get table named ≡ slot → ram_block_of s.kind ≡ Some named → block < length table
    → owner_in (noted_where table s.caller named slot) block ≡ later (owner_in table block) s block
entry_after table s named block (Some None) at_named names within = free_entry table s named block (named == block) refl at_named names within
entry_after table s named block (Some (Some owner)) at_named names within = owned_entry table s named block owner (named == block) refl at_named names
entry_after table s named block None at_named names within = past_entry table s named block (named == block) refl at_named names within

noted_after : (table : List (Option ℕ)) (s : Step) (block : ℕ) (o : Option ℕ) → ram_block_of s.kind ≡ o → block < length table → owner_in (noted_at table s.caller o) block ≡ later (owner_in table block) s block
noted_after table s block None names within = sym (none_later (owner_in table block) s block (ap (is_block block) names))
noted_after table s block (Some named) names within = entry_after table s named block (slice_get table named) refl names within

size_where : (table : List (Option ℕ)) (caller named : ℕ) (slot : Option (Option ℕ)) → length (noted_where table caller named slot) ≡ length table
size_where table caller named (Some None) = length-set table named (Some caller)
size_where table caller named (Some (Some owner)) = refl
size_where table caller named None = refl

size_after : (table : List (Option ℕ)) (caller : ℕ) (o : Option ℕ) → length (noted_at table caller o) ≡ length table
size_after table caller None = refl
size_after table caller (Some named) = size_where table caller named (slice_get table named)

-- the table keeps up
pub Owns-noted : (c : Configuration) (table : List (Option ℕ)) (steps : List Step) (s : Step) → Owns c table steps → Owns c (noted table s.caller s.kind) (steps ++ s ∷ [])
Owns-noted c table steps s owns = record {
  size = size_after table s.caller (ram_block_of s.kind) ∙ owns.size;
  owners = λ block le. noted_after table s block (ram_block_of s.kind) refl (omega (arith, owns.size)) ∙ ap (λ (o : Option ℕ). later o s block) (owns.owners block le) ∙ sym (owner_of-append steps s block);
}

by_slot : (c : Configuration) (i : ℕ) (o : Option BlockDesc) → slice_get c.blocks i ≡ o → is_some (option_and_then (λ b. length_where_sync b.ram b.length) o) ≡ true → suc i ≤ length c.blocks
by_slot c i None e sync = cc
by_slot c i (Some b) e sync = let within = slice_get_within c.blocks i b e in omega arith

-- a synchronized block is one of the configuration's
block_within : (c : Configuration) (block : ℕ) → is_some (sync_length_of c block) ≡ true → block ≤ length c.blocks
block_within c zero sync = omega arith
block_within c (suc i) sync = by_slot c i (slice_get c.blocks i) refl sync

tested : (c : Configuration) (table : List (Option ℕ)) (steps : List Step) (caller block : ℕ) (b : Bool) → is_some (sync_length_of c block) ≡ b → Owns c table steps
    → (not b || is_owner caller (owner_in table block)) ≡ (not b || is_owner caller (owner_of steps block))
tested c table steps caller block true sync owns = ap (is_owner caller) (owns.owners block (block_within c block sync))
tested c table steps caller block false sync owns = refl

own_same : (c : Configuration) (table : List (Option ℕ)) (steps : List Step) (caller : ℕ) (o : Option ℕ) → Owns c table steps → option_map_or (may_own c (owner_in table) caller) o true ≡ option_map_or (may_own c (owner_of steps) caller) o true
own_same c table steps caller None owns = refl
own_same c table steps caller (Some block) owns = tested c table steps caller block (is_some (sync_length_of c block)) refl owns

-- the table tells as the steps do
pub keeps-same : (c : Configuration) (mode : Mode) (table : List (Option ℕ)) (steps : List Step) (caller : ℕ) (kind : StepKind) → Owns c table steps
    → keeps_owner c mode (owner_in table) caller kind ≡ keeps_owner c mode (owner_of steps) caller kind
keeps-same c Play table steps caller kind owns = refl
keeps-same c Run table steps caller kind owns = own_same c table steps caller (ram_block_of kind) owns
