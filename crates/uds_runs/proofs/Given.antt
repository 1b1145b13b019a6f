-- What a Post gives in a legal history.
use Rattle.std.specs.Prelude.{◌==◌, ◌&&◌, ◌-◌, ◌<◌, not, length, map, find, is_some, unwrap_or, option_map, IsSome, IfSome}
use Rattle.std.specs.Option.{option_eq}
use Rattle.std.specs.Str.{bytes_eq}
use Rattle.std.proofs.Common.{◌≡◌, ℕ, Bool, true, false, if◌then◌else◌, List, [], ◌∷◌, ◌++◌, Option, Some, None, refl, sym, ap, subst, inl, inr, arith}
use Rattle.std.proofs.lemmas.Bool.{cases_Bool, and_parts, eqb-true}
use Rattle.std.proofs.lemmas.Slice.Eq.{bytes_eq-Decides}
use Rattle.uds_gateway.specs.block_config.Rules.{IsLegalConfig}
use Rattle.uds_gateway.specs.block_machine.Words.{NotOk, Mark, Content, Invalid, Erased, Accepted, GivenFrom, FromNowhere, FromDevice, FromDefaults, FromRom, Entry, Ask, Post, Configuration}
use Rattle.uds_gateway.specs.block_machine.State.{State, InstanceState, Job}
use Rattle.uds_gateway.specs.block_machine.Blocks.{desc_of, is_in, instance_at, indices_of, settled_at, asked_block, job_block, kind_of}
use Rattle.uds_gateway.specs.block_machine.ResultTable.{table}
use Rattle.uds_gateway.specs.block_machine.Results.{Answer, own_of, outcomes_of, content_of, device_content, given_by, with_content, took_none, checked_id, checks_id, result_of, open_sets, same_answer}
use Rattle.uds_gateway.specs.block_machine.StartUp.{at_first}
use Rattle.uds_gateway.specs.block_machine.Steps.{step, after, after_from}
use Rattle.uds_gateway.specs.block_machine.History.{MayStandIn}
use Rattle.uds_gateway.specs.block_machine.Legal.{IsPost, MayPost, IsLegal, IsLegalFrom}
use Rattle.uds_gateway.proofs.HistoryLaws.{histories_go_on}
use Rattle.uds_gateway.proofs.WholeContents.{GivesLength, FitsDesc, desc_fits}
use Rattle.uds_gateway.proofs.WholeSteps.{marks_are_accepted}
use Rattle.uds_gateway.specs.Causes.{before_end}
use Rattle.uds_gateway.proofs.Causes.{legal_parts, posted_hand}
use Rattle.uds_runs.specs.Given.{PostsGiveLengths, NoneGivesTooMuch}

-- A SETTLED MARK

content_length : (n : ℕ) (bytes : List ℕ) → (length bytes == n) ≡ true → length bytes ≡ n
content_length n bytes is = eqb-true (length bytes) n is

-- what an instance holds has its block's length
mark_gives : (c : Configuration) (cap : ℕ) (h : List Entry) → IsLegalConfig c → IsLegal c cap h → (id index : ℕ) → GivesLength (desc_of c id).length (content_of (settled_at (after c h) (record { block = id; index = index })))
mark_gives c cap h rules legal id index = by (instance_at (after c h) (record { block = id; index = index })) refl
  where
    held : (mark : Mark) → MayStandIn (instance_at (after c h) (record { block = id; index = index })) mark → GivesLength (desc_of c id).length (content_of mark)
    held (Content bytes) stands = content_length (desc_of c id).length bytes (marks_are_accepted c cap h (record { block = id; index = index }) (Content bytes) rules legal stands).whole
    held Invalid stands = tt
    held Erased stands = tt

    by : (o : Option InstanceState) → instance_at (after c h) (record { block = id; index = index }) ≡ o → GivesLength (desc_of c id).length (content_of (unwrap_or (option_map (λ (x : InstanceState). x.cell.settled) (instance_at (after c h) (record { block = id; index = index }))) Erased))
    by None is = rw is tt
    by (Some x) is = rw is (held x.cell.settled (rw is (inl refl)))

-- WHAT IS GIVEN

-- the device gives one of these marks' contents
device_gives : (n : ℕ) (g : ℕ → Mark) (ns failed : List ℕ) → ((k : ℕ) → GivesLength n (content_of (g k))) → GivesLength n (device_content (map (λ (k : ℕ). (k, g k)) ns) failed)
device_gives n g [] failed each = tt
device_gives n g (k ∷ ns) failed each = elim (cases_Bool (is_some (content_of (g k)) && not (is_in failed k))) [
  | inl here ↦ rw here (each k)
  | inr other ↦ rw other (device_gives n g ns failed each)
]

given_from : (c : Configuration) (s : State) (id : ℕ) (failed : List ℕ) (from : GivenFrom) → FitsDesc (desc_of c id) → ((k : ℕ) → GivesLength (desc_of c id).length (content_of (settled_at s (record { block = id; index = k }))))
    → GivesLength (desc_of c id).length (given_by (own_of c s id) failed from)
given_from c s id failed FromNowhere fits marks = tt
given_from c s id failed FromDevice fits marks = device_gives (desc_of c id).length (λ (k : ℕ). settled_at s (record { block = id; index = k })) (indices_of c s id) failed marks
given_from c s id failed FromDefaults fits marks = fits.defaults
given_from c s id failed FromRom fits marks = fits.rom ((own_of c s id).state.index - (desc_of c id).nv)

answer_gives : (n : ℕ) (took checks : Bool) (a : Answer) (id : Option (List ℕ)) → GivesLength n a.1 → GivesLength n id → let b : Answer = (NotOk, None) in GivesLength n (if took then b else (if checks then checked_id id a else a)).1
answer_gives n true checks a id gives own = tt
answer_gives n false false a id gives own = gives
answer_gives n false true a id gives own = elim (cases_Bool (option_eq bytes_eq a.1 id)) [
  | inl same ↦ rw same gives
  | inr other ↦ rw other own
]

result_gives : (c : Configuration) (s : State) (j : Job) (failed : List ℕ) → FitsDesc (desc_of c (job_block j)) → ((k : ℕ) → GivesLength (desc_of c (job_block j)).length (content_of (settled_at s (record { block = job_block j; index = k }))))
    → GivesLength (desc_of c (job_block j)).length (result_of (own_of c s (job_block j)) j failed).1
result_gives c s j failed fits marks =
    let o = own_of c s (job_block j) in
    let e = table (is_some o.desc.defaults) (kind_of j) (outcomes_of (kind_of j) o.marks failed) in
    answer_gives (desc_of c (job_block j)).length (took_none j.taken) (checks_id j (kind_of j)) (with_content o failed e) o.desc.defaults (given_from c s (job_block j) failed e.1 fits marks) fits.defaults

same_length : (n : ℕ) (x y : Option (List ℕ)) → option_eq bytes_eq x y ≡ true → GivesLength n x → GivesLength n y
same_length n None None is gives = tt
same_length n None (Some y) is gives = absurd (cc is)
same_length n (Some x) None is gives = absurd (cc is)
same_length n (Some x) (Some y) is gives = subst (λ (bytes : List ℕ). length bytes ≡ n) ((bytes_eq-Decides x y).0 is) gives

one_passes : {X : Type 0} (test : X → Bool) (xs : List X) → IsSome (find test xs) → (x : X) × (test x ≡ true)
one_passes test [] some = absurd (cc some)
one_passes test (x ∷ xs) some = elim (cases_Bool (test x)) [
  | inl on ↦ (x, on)
  | inr off ↦ one_passes test xs (rw off at some)
]

-- a Post of a job in hand
post_gives : (c : Configuration) (s : State) (j : Job) (block refused : ℕ) (answer : Answer) → FitsDesc (desc_of c (job_block j)) → ((k : ℕ) → GivesLength (desc_of c (job_block j)).length (content_of (settled_at s (record { block = job_block j; index = k }))))
    → IsPost c s j block answer refused → GivesLength (desc_of c (job_block j)).length answer.1
post_gives c s j block refused answer fits marks post = elim post.results [
  | inl kept ↦
      let o = own_of c s (job_block j) in
      let (failed, is) = one_passes (λ failed. same_answer (result_of o j failed) answer) (open_sets o j (kind_of j)) kept.1 in
      same_length (desc_of c (job_block j)).length (result_of o j failed).1 answer.1 (and_parts _ (option_eq bytes_eq (result_of o j failed).1 answer.1) is).1 (result_gives c s j failed fits marks)
  | inr copies ↦ subst (λ (a : Answer). GivesLength (desc_of c (job_block j)).length a.1) (sym copies.fails) tt
]

-- THE LAWS

legal_join : (c : Configuration) (most : ℕ) (s : State) (es more : List Entry) → IsLegalFrom c most s es → IsLegalFrom c most (after_from c s es) more → IsLegalFrom c most s (es ++ more)
legal_join c most s [] more first rest = rest
legal_join c most s (e ∷ es) more first rest = (first.0, legal_join c most (step c s e) es more first.1 rest)

pub posts_give_lengths : PostsGiveLengths
posts_give_lengths c most h asked piece rules legal none own p =
    let e = Post (asked_block asked) p.result p.given p.refused p.ops in
    let t = before_end c (after c h) asked p.ends.way in
    let begin = Ask 0 asked Accepted ∷ p.ends.way in
    let behind = (legal_parts c most at_first h piece legal).1 in
    let parts = legal_parts c most (after c h) begin (e ∷ []) (subst (λ (es : List Entry). IsLegalFrom c most (after c h) es) p.ends.is behind) in
    let before : IsLegal c most (h ++ begin) = legal_join c most at_first h begin (legal_parts c most at_first h piece legal).0 parts.0 in
    let same : after c (h ++ begin) ≡ t = histories_go_on c at_first h begin in
    let hand = posted_hand c most asked (after c h) piece p own none behind in
    let id = job_block hand.job in
    let marks : (k : ℕ) → GivesLength (desc_of c id).length (content_of (settled_at t (record { block = id; index = k }))) =
    λ k. subst (λ (s : State). GivesLength (desc_of c id).length (content_of (settled_at s (record { block = id; index = k })))) same (mark_gives c most (h ++ begin) rules before id k) in
    let post = subst (λ (o : Option Job). MayPost c t (asked_block asked) (p.result, p.given) p.refused o) hand.hand parts.1.0.1 in
    subst (λ (k : ℕ). GivesLength (desc_of c k).length p.given) (ap asked_block hand.request) (post_gives c t hand.job (asked_block asked) p.refused (p.result, p.given) (desc_fits c id rules) marks post)

too_much : (n : ℕ) (given : Option (List ℕ)) → IfSome given (λ bytes. length bytes ≡ n) → n < length (unwrap_or given []) → ⊥
too_much n None gives more = omega (arith, more)
too_much n (Some bytes) gives more = omega (arith, gives, more)

pub none_gives_too_much : NoneGivesTooMuch
none_gives_too_much c most h asked piece rules legal none own much =
    too_much (desc_of c (asked_block asked)).length much.0.given (posts_give_lengths c most h asked piece rules legal none own much.0) much.1
