-- The stores of a block stand in its owner's program.
use Rattle.std.specs.Prelude.{slice_get, take}
use Rattle.std.specs.Option.{is_some}
use Rattle.std.proofs.Common.{◌≡◌, ◌==◌, ℕ, zero, suc, true, false, List, [], ◌∷◌, ◌++◌, length, get_or, refl, sym, ap, ◌∙◌, subst, inl, inr, Some}
use Rattle.std.proofs.lemmas.Bool.{cases_Bool, eqb-true, eq-eqb}
use Rattle.std.proofs.lemmas.List.Elements.{filter_map-append}
use Rattle.std.proofs.lemmas.Option.{slice_get_within, get_or_from_slice_get}
use Rattle.nvm_script.specs.Owners.{ram_block_of, owner_of}
use Rattle.nvm_script.specs.Rules.{sync_length_of}
use Rattle.script_walks.specs.Words.{Step, StepKind, AskStep, Store, Turn, Drain, Restart, Cut, CutSecond, Refuse, Await}
use Rattle.script_walks.specs.Walk.{store_by, stores_of}
use Rattle.script_walks.specs.Callers.{program_of}
use Rattle.block_machine.specs.Words.{Configuration}
use Rattle.script_callers.specs.RunScripts.{CanBeRun, IsRunBy, AreRun}
use Rattle.script_callers.specs.Counting.{OwnsStores}
use Rattle.script_callers.specs.Laws.{StoresAreOfOne}

-- each store of the block is this caller's
abbrev pub StoresAreBy : ℕ → ℕ → List Step → Type 0
StoresAreBy caller id steps = (place : ℕ) (y : Step) (content : List ℕ) → slice_get steps place ≡ Some y → y.kind ≡ Store id content → y.caller ≡ caller

pub one_more : (id : ℕ) (x : Step) (xs : List Step) → stores_of id (x ∷ xs) ≡ stores_of id (x ∷ []) ++ stores_of id xs
one_more id x xs = filter_map-append (λ y. store_by id y.caller y.kind) (x ∷ []) xs

-- another caller's step stores nothing into it
none_by : (id line caller : ℕ) (kind : StepKind) → ((content : List ℕ) → kind ≡ Store id content → ⊥) → stores_of id (record { line = line; caller = caller; kind = kind } ∷ []) ≡ []
none_by id line caller (Store block content) other =
    elim (cases_Bool (block == id)) [ inl own ↦ absurd (other content (ap (λ (b : ℕ). Store b content) (eqb-true block id own))) | inr apart ↦ rw apart refl ]
none_by id line caller (AskStep r) other = refl
none_by id line caller (Turn count) other = refl
none_by id line caller Drain other = refl
none_by id line caller Restart other = refl
none_by id line caller (Cut nth keep) other = refl
none_by id line caller (CutSecond nth keep) other = refl
none_by id line caller (Refuse block count) other = refl
none_by id line caller (Await block) other = refl

no_other : (a b : ℕ) → (a == b) ≡ false → a ≡ b → ⊥
no_other a b apart same = let is : (a == b) ≡ true = eq-eqb a b same in cc

pub stores_by : (caller id : ℕ) (steps : List Step) → StoresAreBy caller id steps → stores_of id (program_of caller steps) ≡ stores_of id steps
stores_by caller id [] by = refl
stores_by caller id (x ∷ xs) by =
    let rest : stores_of id (program_of caller xs) ≡ stores_of id xs = stores_by caller id xs (λ place y content at is. by (suc place) y content at is) in
    elim (cases_Bool (x.caller == caller)) [
      | inl own ↦ rw own (one_more id x (program_of caller xs) ∙ ap (λ s. stores_of id (x ∷ []) ++ s) rest ∙ sym (one_more id x xs))
      | inr apart ↦
          let none : stores_of id (x ∷ []) ≡ [] = none_by id x.line x.caller x.kind (λ content is. no_other x.caller caller apart (by zero x content refl is)) in
          rw apart (rest ∙ sym (one_more id x xs ∙ ap (λ s. s ++ stores_of id xs) none))
    ]

pub in_take : (n place : ℕ) (xs : List Step) (y : Step) → slice_get (take n xs) place ≡ Some y → slice_get xs place ≡ Some y
in_take zero place xs y at = absurd (cc at)
in_take (suc n) place [] y at = at
in_take (suc n) zero (x ∷ xs) y at = at
in_take (suc n) (suc place) (x ∷ xs) y at = in_take n place xs y at

pub run_at : (c : Configuration) (steps : List Step) (place : ℕ) (x : Step) → AreRun c steps → slice_get steps place ≡ Some x → IsRunBy c x
run_at c steps place x run at =
    let is : get_or steps place x ≡ x = get_or_from_slice_get steps place x x at in
    subst (λ (y : Step). IsRunBy c y) is (run.each place x (slice_get_within steps place x at))

named : (block : ℕ) (content : List ℕ) (kind : StepKind) → kind ≡ Store block content → ram_block_of kind ≡ Some block
named block content kind is = ap ram_block_of is

pub synchronized : (c : Configuration) (block : ℕ) (content : List ℕ) (kind : StepKind) → kind ≡ Store block content → CanBeRun c kind → is_some (sync_length_of c block) ≡ true
synchronized c block content kind is can =
    let stored : sync_length_of c block ≡ Some (length content) = subst (λ (k : StepKind). CanBeRun c k) is can in
    ap is_some stored

-- whose step stores into a synchronized block or writes it made all stores of the block
of_owner : (c : Configuration) (steps : List Step) (place block : ℕ) (x : Step) → AreRun c steps → slice_get steps place ≡ Some x → is_some (sync_length_of c block) ≡ true → ram_block_of x.kind ≡ Some block
    → StoresAreBy x.caller block steps
of_owner c steps place block x run at sync names other y stored there says =
    let ours : owner_of steps block ≡ Some x.caller = run.owners place block x at sync names in
    let theirs : owner_of steps block ≡ Some y.caller = run.owners other block y there sync (named block stored y.kind says) in
    cc

before : (block : ℕ) (caller place : ℕ) (steps : List Step) → StoresAreBy caller block steps → stores_of block (program_of caller (take place steps)) ≡ stores_of block (take place steps)
before block caller place steps by = stores_by caller block (take place steps) (λ other y stored there says. by other y stored (in_take place other steps y there) says)

pub owns_before : (c : Configuration) (steps : List Step) (place : ℕ) (x : Step) → AreRun c steps → slice_get steps place ≡ Some x → OwnsStores c (take place steps) (program_of x.caller (take place steps)) x.kind
owns_before c steps place x run at block sync names = before block x.caller place steps (of_owner c steps place block x run at sync names)

pub by_owner : (c : Configuration) (steps : List Step) (place block : ℕ) (x : Step) (content : List ℕ) → AreRun c steps → slice_get steps place ≡ Some x → x.kind ≡ Store block content
    → StoresAreBy x.caller block steps
by_owner c steps place block x content run at is = of_owner c steps place block x run at (synchronized c block content x.kind is (run_at c steps place x run at).kind) (named block content x.kind is)

pub stores_are_of_one : StoresAreOfOne
stores_are_of_one c steps place x block content run at is =
    let by = by_owner c steps place block x content run at is in
    (stores_by x.caller block steps by, before block x.caller place steps by)
