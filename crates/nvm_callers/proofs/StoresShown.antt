-- Which stores the driver was shown, and what it took.
use Rattle.nvm_callers.proofs.Common.{slice_get, is_some, IsSome, ◌≡◌, ◌==◌, inl, inr, ℕ, suc, ◌+◌, ◌<◌, ◌≤◌, ◌^◌, ◌∙◌, true, false, List, [], ◌∷◌, ◌++◌, length, take, drop, Option, Some, refl, sym, ap, subst, arith, append_assoc, length-take, cases_Bool, eqb-true, eq-eqb, some, get_elem?, Entry, Configuration, View, StartsWith, Terms, gives, StandsIn, store_of, Step, StepKind, StoreStep, store_content, program_of, CanBeMade, CanBeStored, Deed, StoreDeed, deeds_by, deeds_from, AreRun, Stored, TellsDone, IsStoreOf, stores_in, HasStoredIn, length-map, map-append, filter_map-append, IsWithin, store_number, store_by, stores_of, stores_are_few, by_owner, one_more, stores_are_of_one, HasOneOwner, shown_can_be_stored, IsStoreStep, ShownAreStored, TakenAreStored}
use Rattle.std.specs.Prelude.{option_map}
use Rattle.std.proofs.Common.{map}
use Rattle.nvm_callers.proofs.Ordering.{at_length, split_at}
use Rattle.nvm_callers.proofs.Shown.{notes_tell_made, deeds_are_steps}

-- THE STORES OF A PROGRAM
module _ (block : ℕ) where
  -- the contents of a step's stores
  of_step : (c : Configuration) (acc : List Step) (line caller : ℕ) (kind : StepKind) (ds : List Deed)
      → stores_in block (deeds_by c acc line caller kind ++ ds) ≡ map (λ (p : ℕ × List ℕ). p.1) (stores_of block (record { line = line; caller = caller; kind = kind } ∷ [])) ++ stores_in block ds
  of_step c acc line caller (StoreStep b content) ds = elim (cases_Bool (b == block)) [ inl own ↦ rw own refl | inr other ↦ rw other refl ]
  of_step c acc line caller kind ds = refl

  of_program : (c : Configuration) (acc program : List Step) → stores_in block (deeds_from c acc program) ≡ map (λ (p : ℕ × List ℕ). p.1) (stores_of block program)
  of_program c acc [] = refl
  of_program c acc (x ∷ xs) =
      of_step c acc x.line x.caller x.kind (deeds_from c (acc ++ x ∷ []) xs)
      ∙ ap (λ (l : List (List ℕ)). map (λ (p : ℕ × List ℕ). p.1) (stores_of block (x ∷ [])) ++ l) (of_program c (acc ++ x ∷ []) xs)
      ∙ sym (map-append (λ (p : ℕ × List ℕ). p.1) (stores_of block (x ∷ [])) (stores_of block xs))
      ∙ ap (map (λ (p : ℕ × List ℕ). p.1)) (sym (one_more block x xs))

-- ONE OWNER
stored_by : (block caller : ℕ) (kind : StepKind) → IsSome (store_by block caller kind) → (content : List ℕ) × (kind ≡ StoreStep block content)
stored_by block caller (StoreStep b content) it = elim (cases_Bool (b == block)) [
  | inl own ↦ (content, ap (λ (n : ℕ). StoreStep n content) (eqb-true b block own))
  | inr other ↦ absurd (let no_ : false ≡ true = rw other at it in cc no_)
]
stored_by block caller kind it = cc

one_owner : (c : Configuration) (steps : List Step) (block : ℕ) → AreRun c steps → HasOneOwner steps block
one_owner c steps block run i j x y first second =
    let (content, kind) = stored_by block x.caller x.kind first.stores in
    let (other, same) = stored_by block y.caller y.kind second.stores in
    sym (by_owner c steps i block x content run first.at kind j y other second.at same)

-- a store of the script
store_is : (block caller : ℕ) (kind : StepKind) (content : List ℕ) → kind ≡ StoreStep block content → IsSome (store_by block caller kind)
store_is block caller kind content is =
    let own : (block == block) ≡ true = eq-eqb block block refl in
    let some : is_some (store_by block caller (StoreStep block content)) ≡ true = rw own refl in subst (λ (k : StepKind). IsSome (store_by block caller k)) (sym is) some

one_store : (block line caller : ℕ) (kind : StepKind) (content : List ℕ) → kind ≡ StoreStep block content → stores_of block (record { line = line; caller = caller; kind = kind } ∷ []) ≡ (caller, content) ∷ []
one_store block line caller kind content is =
    let own : (block == block) ≡ true = eq-eqb block block refl in
    let here : stores_of block (record { line = line; caller = caller; kind = StoreStep block content } ∷ []) ≡ (caller, content) ∷ [] = rw own refl in
    ap (λ (k : StepKind). stores_of block (record { line = line; caller = caller; kind = k } ∷ [])) is ∙ here

-- what one of the stores tells
module _ (c : Configuration) (cap : ℕ) (all : List Entry) (steps : List Step) (caller block k : ℕ) (made : ℕ → List Stored) (x : Stored) (run : AreRun c steps) (has : HasStoredIn c cap all steps caller made)
    (at : get_elem? (made block) k ≡ some x) where
  this : IsStoreOf c cap has.own has.seen has.notes caller has.deeds block k x
  this = has.stored block k x at

  step_of : IsStoreStep c steps caller this.before block x.content
  step_of = deeds_are_steps c steps caller this.before (this.after ++ has.rest) this.line block this.number x.content
      (has.program ∙ ap (λ (l : List Deed). l ++ has.rest) this.is ∙ append_assoc this.before (StoreDeed this.line block this.number x.content ∷ this.after) has.rest)

  abbrev first_steps : List Step
  first_steps = take step_of.place steps

  -- so many stores came before it
  count : length (stores_of block first_steps) ≡ k
  unfolding step_of
  count =
      let one = (stores_are_of_one c steps step_of.place step_of.step block x.content run step_of.at step_of.kind).1 in
      ap (λ (l : List (ℕ × List ℕ)). length l) (sym one) ∙ ap (λ (who : ℕ). length (stores_of block (program_of who first_steps))) step_of.of
      ∙ sym (length-map (stores_of block (program_of caller first_steps)) (λ (p : ℕ × List ℕ). p.1)) ∙ ap (λ (l : List (List ℕ)). length l) (sym (of_program block c [] (program_of caller first_steps)))
      ∙ ap (λ (ds : List Deed). length (stores_in block ds)) step_of.earlier ∙ sym this.place

  pub can_be : (number : ℕ) (h : List Entry) → number ≤ store_number (k + 1) → StartsWith all h → StandsIn h x.note → CanBeStored c steps block number h
  can_be number h few begins stands =
      let within : IsWithin gives h this.note = subst (λ (o : Option (View Entry Terms)). StandsIn h o) this.along stands in
      shown_can_be_stored Terms gives (λ l. StartsWith all l) c steps block step_of.place number step_of.step this.note h (one_owner c steps block run)
      (record { at = step_of.at; stores = store_is block step_of.step.caller step_of.step.kind x.content step_of.kind })
      (omega (arith, few, count))
      (λ l lawful is_in. subst (λ (who : ℕ). CanBeMade c who (program_of who first_steps) l) (sym step_of.of)
      (notes_tell_made c cap all has.own has.seen has.notes caller has.deeds (program_of caller first_steps) this.note has.done has.starts has.every
      (subst (λ (ds : List Deed). TellsDone c cap has.own has.seen has.notes caller ds this.note) (sym step_of.earlier) this.done) l lawful is_in))
      begins within

  abbrev last_steps : List Step
  last_steps = drop (suc step_of.place) steps

  -- and it is the script's with that number
  stores_are : stores_of block steps ≡ stores_of block first_steps ++ (step_of.step.caller, x.content) ∷ stores_of block last_steps
  stores_are =
      ap (λ (l : List Step). stores_of block l) (split_at steps step_of.place step_of.step step_of.at) ∙ filter_map-append (λ (y : Step). store_by block y.caller y.kind) first_steps (step_of.step ∷ last_steps)
      ∙ ap (λ (l : List (ℕ × List ℕ)). stores_of block first_steps ++ l)
      (one_more block step_of.step last_steps ∙ ap (λ (l : List (ℕ × List ℕ)). l ++ stores_of block last_steps) (one_store block step_of.step.line step_of.step.caller step_of.step.kind x.content step_of.kind))

  pub content_is : (number : ℕ) → length steps < 2 ^ 60 → number ≡ store_number (k + 1) → store_content c steps block number ≡ Some x.content
  content_is number few is =
      let below = stores_are_few block first_steps in
      let next : number ≡ suc k = omega (arith, is, few, below, count, length-take step_of.place steps) in
      let here : slice_get (stores_of block steps) k ≡ Some (step_of.step.caller, x.content) =
      subst (λ (n : ℕ). slice_get (stores_of block steps) n ≡ Some (step_of.step.caller, x.content)) count
      (ap (λ (l : List (ℕ × List ℕ)). slice_get l (length (stores_of block first_steps))) stores_are
      ∙ at_length (stores_of block first_steps) (step_of.step.caller, x.content) (stores_of block last_steps)) in
      subst (λ (n : ℕ). store_content c steps block n ≡ Some x.content) (sym next) (ap (option_map (λ (p : ℕ × List ℕ). p.1)) here)

pub shown_are_stored : ShownAreStored
shown_are_stored c cap all steps caller block number made e h run has stored begins (inl none) = λ place x at some numbered. absurd (omega (arith, none, numbered))
shown_are_stored c cap all steps caller block number made e h run has stored begins (inr (i, m, x, at, few, stands)) =
    let (k, is, here) = stored i (m, x) at in
    can_be c cap all steps caller block k made x run has here number h (omega (arith, few, is)) begins stands

pub taken_are_stored : TakenAreStored
taken_are_stored c cap all steps caller block number made e x run few has stored first (inl (none, same)) =
    subst (λ (n : ℕ). store_content c steps block n ≡ Some x) (sym none) (first ∙ ap (λ (l : List ℕ). Some l) (sym same))
taken_are_stored c cap all steps caller block number made e x run few has stored first (inr (i, note, at)) =
    let (k, is, here) = stored i (number, store_of x note) at in
    content_is c cap all steps caller block k made (store_of x note) run has here number few is
