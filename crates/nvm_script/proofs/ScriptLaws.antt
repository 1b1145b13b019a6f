-- What a line adds, and which lines are wrong.
use Rattle.std.proofs.Common.{sym, subst, ◌++◌, ◌≡◌, ◌≤◌, ◌+◌, ◌==◌, inl, inr, ℕ, Bool, true, false, not, cond, nat_lt, List, [], ◌∷◌, length, map, drop, Option, Some, None, refl, ap, ◌∙◌, arith}
use Rattle.std.proofs.lemmas.Bool.{ltb-true, ltb-false, le-ltb}
use Rattle.std.proofs.lemmas.List.Splits.{slice_split-cons_no, slice_split_first}
use Rattle.std.specs.List.{slice_split, onto_first, position_or_len}
use Rattle.block_config.specs.Config.{Configuration}
use Rattle.nvm_script.specs.declared.step.Step.{Step}
use Rattle.nvm_script.specs.declared.step.StepKind.{StepKind}
use Rattle.nvm_script.specs.declared.script.Mode.{Mode}
use Rattle.nvm_script.specs.Cut.{cut_where, cut_at}
use Rattle.nvm_script.specs.Line.{without_return, IsIdle, IsStepLine}
use Rattle.nvm_script.specs.Owners.{owner_of, keeps_owner}
use Rattle.nvm_script.specs.Script.{lines_of, Follows, IsWrong, IsScript, IsFirstWrong, later_lines}
use Rattle.nvm_script.specs.Readings.{LeadToOne, BreakAtOne, DoOneOfBoth}
use Rattle.nvm_script.proofs.LineLaws.{idle_or_step, one_step}

-- a step of another owner is wrong
pub IsWrong-owned : (c : Configuration) (mode : Mode) (n : ℕ) (line : List ℕ) (before : List Step) (caller : ℕ) (kind : StepKind) → IsStepLine c mode line caller kind → keeps_owner c mode (owner_of before) caller kind ≡ false
    → IsWrong c mode n line before
IsWrong-owned c mode n line before caller kind is other after (inl idle) = idle_or_step c mode line caller kind idle.0 is
IsWrong-owned c mode n line before caller kind is other after (inr step) =
    let same = one_step c mode line caller step.0 kind step.1 is step.2 in
    let keeps : keeps_owner c mode (owner_of before) caller kind ≡ true = ap (λ (k : StepKind). keeps_owner c mode (owner_of before) caller k) same.1 ∙ ap (λ (m : ℕ). keeps_owner c mode (owner_of before) m step.1) same.0 ∙ step.3 in
    cc (keeps, other)

-- a line that is neither idle nor a step is wrong
pub IsWrong-unread : (c : Configuration) (mode : Mode) (n : ℕ) (line : List ℕ) (before : List Step) → ¬ IsIdle line → ((caller : ℕ) (kind : StepKind) → IsStepLine c mode line caller kind → ⊥) → IsWrong c mode n line before
IsWrong-unread c mode n line before busy none after (inl idle) = busy idle.0
IsWrong-unread c mode n line before busy none after (inr step) = none step.0 step.1 step.2

-- the lines that are left
abbrev pub lines_left : Option (List ℕ) → List (List ℕ)
lines_left None = []
lines_left (Some text) = lines_of text

abbrev pub parts_left : ℕ → Option (List ℕ) → List (List ℕ)
parts_left at None = []
parts_left at (Some text) = slice_split (λ b. b == at) text

onto_whole : (at x : ℕ) (xs : List ℕ) (b : Bool) → (x == at) ≡ b → nat_lt (cond (not b) (1 + position_or_len (λ b. b == at) xs) 0) (length (x ∷ xs)) ≡ false
    → (nat_lt (position_or_len (λ b. b == at) xs) (length xs) ≡ false → slice_split (λ b. b == at) xs ≡ xs ∷ []) → slice_split (λ b. b == at) (x ∷ xs) ≡ (x ∷ xs) ∷ []
onto_whole at x xs true same past rest = absurd (omega (arith, ltb-false 0 (length (x ∷ xs)) past))
onto_whole at x xs false other past rest =
    let place : length (x ∷ xs) ≤ 1 + position_or_len (λ b. b == at) xs = ltb-false (1 + position_or_len (λ b. b == at) xs) (length (x ∷ xs)) past in
    let past' : nat_lt (position_or_len (λ b. b == at) xs) (length xs) ≡ false = le-ltb (position_or_len (λ b. b == at) xs) (length xs) (omega arith) in
    slice_split-cons_no (λ b. b == at) x xs other ∙ ap (onto_first x) (rest past')

whole_split : (at : ℕ) (text : List ℕ) → nat_lt (position_or_len (λ b. b == at) text) (length text) ≡ false → slice_split (λ b. b == at) text ≡ text ∷ []
whole_split at [] past = refl
whole_split at (x ∷ xs) past = onto_whole at x xs (x == at) refl past (whole_split at xs)

by_within : (at : ℕ) (text : List ℕ) (b : Bool) → nat_lt (position_or_len (λ b. b == at) text) (length text) ≡ b
    → slice_split (λ b. b == at) text ≡ (cut_where text (cond b (Some (position_or_len (λ b. b == at) text)) None)).0 ∷ parts_left at (cut_where text (cond b (Some (position_or_len (λ b. b == at) text)) None)).1
by_within at text true within = slice_split_first (λ b. b == at) text 0 (ltb-true _ _ within)
by_within at text false past = whole_split at text past

pub split-cut : (at : ℕ) (text : List ℕ) → slice_split (λ b. b == at) text ≡ (cut_at at text).0 ∷ parts_left at (cut_at at text).1
split-cut at text = by_within at text (nat_lt (position_or_len (λ b. b == at) text) (length text)) refl

left-parts : (o : Option (List ℕ)) → map without_return (parts_left 10 o) ≡ lines_left o
left-parts None = refl
left-parts (Some text) = refl

pub lines-cut : (text : List ℕ) → lines_of text ≡ without_return (cut_at 10 text).0 ∷ lines_left (cut_at 10 text).1
lines-cut text = ap (map without_return) (split-cut 10 text) ∙ ap (λ (l : List (List ℕ)). without_return (cut_at 10 text).0 ∷ l) (left-parts (cut_at 10 text).1)

pub later-cut : (input : List ℕ) → later_lines input ≡ lines_left (cut_at 10 input).1
later-cut input = ap (drop 1) (lines-cut input)

-- one line on
pub IsScript-on : (c : Configuration) (mode : Mode) (n : ℕ) (text : List ℕ) (before after steps : List Step) → Follows c mode n (without_return (cut_at 10 text).0) before after
    → IsScript c mode (n + 1) after (lines_left (cut_at 10 text).1) steps → IsScript c mode n before (lines_of text) steps
IsScript-on c mode n text before after steps follows rest = rw lines-cut (after, follows, rest)

pub IsFirstWrong-on : (c : Configuration) (mode : Mode) (n : ℕ) (text : List ℕ) (before after : List Step) (k : ℕ) → Follows c mode n (without_return (cut_at 10 text).0) before after
    → IsFirstWrong c mode (n + 1) after (lines_left (cut_at 10 text).1) k → IsFirstWrong c mode n before (lines_of text) k
IsFirstWrong-on c mode n text before after k follows rest = rw lines-cut (inr (after, follows, rest))

pub IsFirstWrong-here : (c : Configuration) (mode : Mode) (n : ℕ) (text : List ℕ) (before : List Step) → IsWrong c mode n (without_return (cut_at 10 text).0) before → IsFirstWrong c mode n before (lines_of text) n
IsFirstWrong-here c mode n text before wrong = rw lines-cut (inl (refl, wrong))

-- a line leads to one list of steps
one_after : (c : Configuration) (mode : Mode) (n : ℕ) (line : List ℕ) (before a b : List Step) → Follows c mode n line before a → Follows c mode n line before b → a ≡ b
one_after c mode n line before a b (inl one) (inl two) = one.1 ∙ sym two.1
one_after c mode n line before a b (inl one) (inr two) = absurd (idle_or_step c mode line two.0 two.1 one.0 two.2)
one_after c mode n line before a b (inr one) (inl two) = absurd (idle_or_step c mode line one.0 one.1 two.0 one.2)
one_after c mode n line before a b (inr one) (inr two) =
    let same = one_step c mode line one.0 two.0 one.1 two.1 one.2 two.2 in
    one.4 ∙ ap (λ (m : ℕ). before ++ record { line = n; caller = m; kind = one.1 } ∷ []) same.0 ∙ ap (λ (k : StepKind). before ++ record { line = n; caller = two.0; kind = k } ∷ []) same.1 ∙ sym two.4

one_script : (c : Configuration) (mode : Mode) (n : ℕ) (before : List Step) (lines : List (List ℕ)) (a b : List Step) → IsScript c mode n before lines a → IsScript c mode n before lines b → a ≡ b
one_script c mode n before [] a b one two = one ∙ sym two
one_script c mode n before (line ∷ lines) a b one two =
    let same = one_after c mode n line before one.0 two.0 one.1 two.1 in
    one_script c mode (n + 1) one.0 lines a b one.2 (subst (λ (l : List Step). IsScript c mode (n + 1) l lines b) (sym same) two.2)

script_or_wrong : (c : Configuration) (mode : Mode) (n : ℕ) (before : List Step) (lines : List (List ℕ)) (steps : List Step) (k : ℕ) → IsScript c mode n before lines steps → IsFirstWrong c mode n before lines k → ⊥
script_or_wrong c mode n before [] steps k is wrong = wrong
script_or_wrong c mode n before (line ∷ lines) steps k is (inl wrong) = wrong.1 is.0 is.1
script_or_wrong c mode n before (line ∷ lines) steps k is (inr wrong) =
    let same = one_after c mode n line before is.0 wrong.0 is.1 wrong.1 in
    script_or_wrong c mode (n + 1) is.0 lines steps k is.2 (subst (λ (l : List Step). IsFirstWrong c mode (n + 1) l lines k) (sym same) wrong.2)

one_wrong : (c : Configuration) (mode : Mode) (n : ℕ) (before : List Step) (lines : List (List ℕ)) (j k : ℕ) → IsFirstWrong c mode n before lines j → IsFirstWrong c mode n before lines k → j ≡ k
one_wrong c mode n before [] j k one two = absurd one
one_wrong c mode n before (line ∷ lines) j k (inl one) (inl two) = one.0 ∙ sym two.0
one_wrong c mode n before (line ∷ lines) j k (inl one) (inr two) = absurd (one.1 two.0 two.1)
one_wrong c mode n before (line ∷ lines) j k (inr one) (inl two) = absurd (two.1 one.0 one.1)
one_wrong c mode n before (line ∷ lines) j k (inr one) (inr two) =
    let same = one_after c mode n line before one.0 two.0 one.1 two.1 in
    one_wrong c mode (n + 1) one.0 lines j k one.2 (subst (λ (l : List Step). IsFirstWrong c mode (n + 1) l lines k) (sym same) two.2)

-- A SCRIPT HAS ONE READING
pub lead_to_one : LeadToOne
lead_to_one c mode lines a b = one_script c mode 2 [] lines a b

pub break_at_one : BreakAtOne
break_at_one c mode lines j k = one_wrong c mode 2 [] lines j k

pub do_one_of_both : DoOneOfBoth
do_one_of_both c mode lines steps k = script_or_wrong c mode 2 [] lines steps k
