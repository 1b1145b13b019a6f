-- What the steps of a caller have it do.
use Rattle.std.specs.Prelude.{◌≡◌, ◌≤◌, ℕ, ◌+◌, List, [], ◌∷◌, ◌++◌, length, Some}
use Rattle.script_walks.specs.Words.{Step, StepKind, AskStep, Store as StoreStep, Await as AwaitStep}
use Rattle.script_walks.specs.Walk.{stores_of, request_after}
use Rattle.nvm_script.specs.Rules.{sync_length_of}
use Rattle.block_machine.specs.Words.{Request, Configuration}
use Rattle.block_machine.specs.Legal.{HasStore}
use Rattle.script_callers.specs.declared.deed.Deed.{Deed}
use Rattle.script_callers.specs.declared.deed.Deed.TheVariants.{Ask, Store, Await}

-- the requests among these
abbrev pub requests_in : List Deed → List Request
requests_in [] = []
requests_in (Ask line r ∷ ds) = r ∷ requests_in ds
requests_in (d ∷ ds) = requests_in ds

-- what a step has its caller do, behind these steps of it
abbrev pub deeds_by : Configuration → List Step → (line caller : ℕ) → StepKind → List Deed
deeds_by c before line caller (AskStep r) = Ask line (request_after c before caller r) ∷ []
deeds_by c before line caller (StoreStep block content) = Store line block (length (stores_of block before) + 1) content ∷ []
deeds_by c before line caller (AwaitStep block) = Await line block ∷ []
deeds_by c before line caller kind = []

abbrev pub deeds_from : Configuration → List Step → List Step → List Deed
deeds_from c before [] = []
deeds_from c before (x ∷ xs) = deeds_by c before x.line x.caller x.kind ++ deeds_from c (before ++ x ∷ []) xs

-- what the steps of a program have its caller do
abbrev pub deeds_of : Configuration → List Step → List Deed
deeds_of c steps = deeds_from c [] steps

-- What a caller may do: a request with its store, a store of a synchronized block's length, and a wait on a block that is there.
abbrev pub MayDo : Configuration → Deed → Type 0
MayDo c (Ask line r) = HasStore c r
MayDo c (Store line block number content) = sync_length_of c block ≡ Some (length content)
MayDo c (Await line block) = block ≤ length c.blocks
