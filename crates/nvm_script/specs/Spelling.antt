-- How a step is written, without its caller.
use Rattle.std.specs.Prelude.{◌≡◌, ◌≤◌, ℕ, List, ◌++◌, codes, Some, None}
use Rattle.std.specs.Fmt.{decimal}
use Rattle.nv_base.specs.declared.request.Request.{Request}
use Rattle.nv_base.specs.declared.request.Request.TheVariants.{Write, PutRam}
use Rattle.block_config.specs.Content.{content_of}
use Rattle.nvm_script.specs.declared.step.StepKind.{StepKind}
use Rattle.nvm_script.specs.declared.step.StepKind.TheVariants as step
use Rattle.nvm_script.specs.Values.{IsBlockNumber, IsRequestValue}
use Rattle.nvm_script.specs.Words.{of_block, of_block_with, request_text}

-- a word and a block
abbrev pub OfBlock : List ℕ → ℕ → List ℕ → Type 0
OfBlock word block text = IsBlockNumber block × (text ≡ of_block word block)

-- a word, a block and a content, in any of its spellings
abbrev pub OfBlockWithContent : List ℕ → ℕ → List ℕ → List ℕ → Type 0
OfBlockWithContent word block content text =
    (field : List ℕ) × (content_of field ≡ Some content) × IsBlockNumber block × (text ≡ of_block_with word block field)

-- the text spells the request: it is as a history has it, but for the spelling of a content; a RAM write gets its store where it is asked
abbrev pub SpellsRequest : Request → List ℕ → Type 0
SpellsRequest (Write block (Some content) store) text = (store ≡ 0) × OfBlockWithContent (codes "write") block content text
SpellsRequest (Write block None store) text = (store ≡ 0) × OfBlock (codes "writeram") block text
SpellsRequest (PutRam block content) text = OfBlockWithContent (codes "ram") block content text
SpellsRequest request text = IsRequestValue request × (text ≡ request_text request)

-- the text spells the step
abbrev pub Spells : StepKind → List ℕ → Type 0
Spells (step.Ask request) text = SpellsRequest request text
Spells (step.Store block content) text = OfBlockWithContent (codes "ram") block content text
Spells (step.Turn count) text = (1 ≤ count) × (count ≤ 100000) × (text ≡ codes "turn " ++ decimal count)
Spells step.Drain text = text ≡ codes "drain"
Spells step.Restart text = text ≡ codes "restart"
Spells (step.Cut nth keep) text = (1 ≤ nth) × (nth ≤ 1000000) × (keep ≤ 256) × (text ≡ codes "cut " ++ (decimal nth ++ (codes " " ++ decimal keep)))
Spells (step.CutSecond nth keep) text = (1 ≤ nth) × (nth ≤ 1000000) × (keep ≤ 256) × (text ≡ codes "cutee " ++ (decimal nth ++ (codes " " ++ decimal keep)))
Spells (step.Refuse block count) text =
    (1 ≤ count) × (count ≤ 1000) × IsBlockNumber block × (text ≡ of_block_with (codes "refuse") block (decimal count))
Spells (step.Await block) text = OfBlock (codes "await") block text
