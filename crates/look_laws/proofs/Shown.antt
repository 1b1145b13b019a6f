-- Which stores can have been made when a look showed one.
use Rattle.std.specs.Prelude.{slice_get, take, filter_map, IsSome}
use Rattle.std.proofs.Common.{◌≡◌, ◌==◌, ◌<◌, ◌≤◌, ℕ, zero, suc, ◌+◌, List, [], ◌∷◌, ◌++◌, length, Option, Some, None, refl, sym, ap, ◌∙◌, subst, arith, length-append, lt_of_not-le}
use Rattle.std.proofs.lemmas.List.{append-nil, append_assoc}
use Rattle.std.proofs.lemmas.List.Elements.{filter-append, filter_map-append}
use Rattle.std.proofs.lemmas.Option.{slice_get_within}
use mathlib.Core.Logic.{dite}
use native.Mathlib.Decide.{dec_le}
use Rattle.block_machine.specs.Words.{Request, Configuration}
use Rattle.script_walks.specs.Words.{Step}
use Rattle.script_walks.specs.Walk.{store_by, stores_of}
use Rattle.script_walks.specs.Callers.{program_of, requests_from, requests_of, request_of_step, WaitedFor}
use Rattle.script_walks.specs.Looks.{CanBeMade}
use Rattle.script_walks.proofs.RunsGrow.{take_more}
use Rattle.look_laws.specs.Shown.{FewerCanBeMade, IsStoreAt, store_number_at, EarlierCanBeStored, ShownCanBeStored}

-- BEGINNINGS

no_less : (n : ℕ) → n < 0 → ⊥
no_less n less = omega arith

take_front : {X : Type 0} (n : ℕ) (xs ys : List X) → n ≤ length xs → take n (xs ++ ys) ≡ take n xs
take_front zero xs ys few = refl
take_front (suc n) [] ys few = absurd (no_less n few)
take_front (suc n) (x ∷ xs) ys few = ap (λ zs. x ∷ zs) (take_front n xs ys (omega arith))

get_front : {X : Type 0} (n : ℕ) (xs ys : List X) (x : X) → slice_get xs n ≡ Some x → slice_get (xs ++ ys) n ≡ Some x
get_front n [] ys x at = absurd (no_less n (slice_get_within [] n x at))
get_front zero (y ∷ xs) ys x at = at
get_front (suc n) (y ∷ xs) ys x at = get_front n xs ys x at

-- a later beginning goes on from an earlier one
take_begins : {X : Type 0} (p q : ℕ) (xs : List X) → p ≤ q → (more : List X) × (take q xs ≡ take p xs ++ more)
take_begins zero q xs less = (take q xs, refl)
take_begins (suc p) zero xs less = absurd (no_less p less)
take_begins (suc p) (suc q) [] less = ([], refl)
take_begins (suc p) (suc q) (x ∷ xs) less = let (more, is) = take_begins p q xs (omega arith) in (more, ap (λ zs. x ∷ zs) is)

requests_more : (c : Configuration) (before xs ys : List Step) → requests_from c before (xs ++ ys) ≡ requests_from c before xs ++ requests_from c (before ++ xs) ys
requests_more c before [] ys = ap (λ (b : List Step). requests_from c b ys) (sym (append-nil before))
requests_more c before (x ∷ xs) ys =
    let head : List Request = request_of_step c before x.caller x.kind in
    ap (λ (rs : List Request). head ++ rs) (requests_more c (before ++ x ∷ []) xs ys)
    ∙ sym (append_assoc head (requests_from c (before ++ x ∷ []) xs) (requests_from c ((before ++ x ∷ []) ++ xs) ys))
    ∙ ap (λ (b : List Step). (head ++ requests_from c (before ++ x ∷ []) xs) ++ requests_from c b ys) (append_assoc before (x ∷ []) xs)

pub fewer_can_be_made : FewerCanBeMade
fewer_can_be_made c caller done more h made = record {
  requests =
      let few = made.requests in
      let l : length (requests_of c (done ++ more)) ≡ length (requests_of c done) + length (requests_from c done more) =
      ap (λ (rs : List Request). length rs) (requests_more c [] done more) ∙ length-append (requests_of c done) (requests_from c done more) in
      omega (arith, few, l);
  waits = λ n block x at kind.
      let in_it : n < length done = slice_get_within done n x at in
      subst (λ (xs : List Step). WaitedFor caller block (length (requests_of c xs)) h) (take_front n done more (omega (arith, in_it)))
      (made.waits n block x (get_front n done more x at) kind);
}

-- STORES

one_by : {X Y : Type 0} (h : X → Option Y) (x : X) (o : Option Y) → h x ≡ o → IsSome o → length (filter_map h (x ∷ [])) ≡ 1
one_by h x None is some = cc
one_by h x (Some y) is some = rw is refl

-- a store adds one
one_more : (id : ℕ) (xs : List Step) (x : Step) → IsSome (store_by id x.caller x.kind) → length (stores_of id (xs ++ x ∷ [])) ≡ length (stores_of id xs) + 1
one_more id xs x some =
    ap (λ (l : List (ℕ × List ℕ)). length l) (filter_map-append (λ (y : Step). store_by id y.caller y.kind) xs (x ∷ []))
    ∙ length-append (stores_of id xs) (stores_of id (x ∷ []))
    ∙ ap (λ (n : ℕ). length (stores_of id xs) + n) (one_by (λ (y : Step). store_by id y.caller y.kind) x (store_by id x.caller x.kind) refl some)

-- later beginnings have as many stores, or more
as_many : (id p q : ℕ) (steps : List Step) → p ≤ q → length (stores_of id (take p steps)) ≤ length (stores_of id (take q steps))
as_many id p q steps less =
    let (more, is) = take_begins p q steps less in
    let l : length (stores_of id (take q steps)) ≡ length (stores_of id (take p steps)) + length (stores_of id more) =
    ap (λ (xs : List Step). length (stores_of id xs)) is
    ∙ ap (λ (l : List (ℕ × List ℕ)). length l) (filter_map-append (λ (y : Step). store_by id y.caller y.kind) (take p steps) more)
    ∙ length-append (stores_of id (take p steps)) (stores_of id more) in
    omega (arith, l)

-- a store of a number that isn't greater stands no later
no_later : (steps : List Step) (id p q : ℕ) (y : Step) → IsStoreAt steps id q y → store_number_at steps id p ≤ store_number_at steps id q → p ≤ q
no_later steps id p q y store less = dite (dec_le p q) (λ it. it) (λ other.
    let after : suc q ≤ p = lt_of_not-le other in
    let many = as_many id (suc q) p steps after in
    let grew : length (stores_of id (take (suc q) steps)) ≡ length (stores_of id (take q steps)) + 1 =
    ap (λ (xs : List Step). length (stores_of id xs)) (take_more q steps y store.at) ∙ one_more id (take q steps) y store.stores in
    absurd (omega (arith, many, grew, less)))

pub earlier_can_be_stored : EarlierCanBeStored
earlier_can_be_stored c steps id place number y h one store few made at x is stores numbered =
    let here : IsStoreAt steps id at x = record { at = is; stores = stores } in
    let before : at ≤ place = no_later steps id at place y store (omega (arith, few, numbered)) in
    let (more, goes) = take_begins at place steps before in
    let same : y.caller ≡ x.caller = one place at y x store here in
    let mine : CanBeMade c x.caller (program_of x.caller (take place steps)) h = subst (λ (who : ℕ). CanBeMade c who (program_of who (take place steps)) h) same made in
    fewer_can_be_made c x.caller (program_of x.caller (take at steps)) (program_of x.caller more) h
    (subst (λ (xs : List Step). CanBeMade c x.caller xs h) (ap (λ (xs : List Step). program_of x.caller xs) goes ∙ filter-append (λ (z : Step). z.caller == x.caller) (take at steps) more) mine)

pub shown_can_be_stored : ShownCanBeStored
shown_can_be_stored R gives IsLawful c steps id place number x note before one store few knows lawful within =
    earlier_can_be_stored c steps id place number x before one store few (knows before lawful within)
