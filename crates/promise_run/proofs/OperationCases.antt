-- Operations of an urgent write, one by one.
use Rattle.std.specs.Prelude.{if◌then◌else◌, Contains, ◌*◌}
use Rattle.std.proofs.Common.{◌≡◌, ◌⊎◌, ◌≤◌, ◌+◌, ℕ, zero, suc, Bool, true, false, List, [], ◌∷◌, is_some, Option, Some, None, refl, sym, ap, subst, ◌∙◌, inl, inr, arith}
use Rattle.block_machine.specs.State.{State}
use Rattle.block_machine.specs.Blocks.{indices_of, job_block}
use Rattle.block_machine.specs.Words.{Found}
use Rattle.block_machine.specs.Steps.{after_from}
use Rattle.promise_device.specs.FlashRun.{FlashRun}
use Rattle.promise_run.specs.Promise.{making_of}
use Rattle.promise_blocks.specs.Moves.{Move, entry_list}
use Rattle.promise_blocks.specs.Work.{Work, Effort, IsWorked, EndsTry, MayBegin, adds_most, begun_adds, loss_adds}
use Rattle.promise_run.specs.Operations.{costs_of, has_free}
use Rattle.promise_run.specs.UrgentCases.{urgent, roomy, half_full, full, at, accepts, fault_at, picks}
use Rattle.promise_run.specs.OperationCases.{AreWorkedFrom, HasWorkBehind, HasWorkOver, Tries, first_state, never_worn, operation, started_again, written_with}
use Rattle.promise_run.proofs.OneByOne.{some_same}
use Rattle.promise_run.proofs.Operations.{begun_from}
use Rattle.promise_run.proofs.Efforts.{may_begin, none_began, began, waits, rests, goes, ends, begins, none_some}

abbrev asked_state : State
asked_state = after_from urgent first_state (entry_list accepts.entry)

abbrev picked_state : State
picked_state = after_from urgent asked_state (entry_list picks.entry)

may_try : MayBegin urgent picked_state (record { left = 0; trying = None; tries = 1 }) 128
may_try = record { none = refl; job = _; hand = refl; writes = λ is. cc is; index = 0; one = (0, omega arith, refl); number_is = refl }

-- WITH ROOM
one_adds : (room : Bool) → 4 ≤ 0 + ((if room then 4 else 27) + 0)
one_adds true = omega arith
one_adds false = omega arith

pub four : HasWorkOver roomy (written_with [] 4)
four = record {
  left = 0;
  few = omega arith;
  efforts = none_began 0 None ∷ may_begin 0 1 ∷ began 128 3 ∷ none_began 2 (Some 128) ∷ none_began 1 (Some 128) ∷ none_began 0 None ∷ none_began 0 None ∷ [];
  are = (rests _ _ _ _ _ _ _ _ _ refl (omega arith), (waits _ _ _ _ _ _ _ _ _ 1 (omega arith) refl (omega arith), (begins _ _ _ _ _ _ _ _ _ 128 refl (omega arith) may_try (λ test. one_adds (test 4)), (goes _ _ _ _ _ _ _ _ _ 128 refl refl (omega arith), (goes _ _ _ _ _ _ _ _ _ 128 refl refl (omega arith), (ends _ _ _ _ _ _ _ _ _ 128 refl refl (omega arith) (inl refl), (rests _ _ _ _ _ _ _ _ _ refl (omega arith), tt)))))));
}

-- WITHOUT ROOM
switch_adds : (room : Bool) → (room ≡ true → false ≡ true) → 27 ≤ 0 + ((if room then 4 else 27) + 0)
switch_adds true none = let never = none refl in cc never
switch_adds false none = omega arith

pub switches : HasWorkOver full (written_with (operation 4 ∷ []) 5)
switches = record {
  left = 0;
  few = omega arith;
  efforts = none_began 0 None ∷ may_begin 0 1 ∷ began 128 26 ∷ none_began 25 (Some 128) ∷ none_began 24 (Some 128) ∷ none_began 23 (Some 128) ∷ none_began 22 None ∷ none_began 22 None ∷ [];
  are = (rests _ _ _ _ _ _ _ _ _ refl (omega arith), (waits _ _ _ _ _ _ _ _ _ 1 (omega arith) refl (omega arith), (switch, (goes _ _ _ _ _ _ _ _ _ 128 refl refl (omega arith), (goes _ _ _ _ _ _ _ _ _ 128 refl refl (omega arith), (goes _ _ _ _ _ _ _ _ _ 128 refl refl (omega arith), (ends _ _ _ _ _ _ _ _ _ 128 refl refl (omega arith) (inl refl), (rests _ _ _ _ _ _ _ _ _ refl (omega arith), tt))))))));
}
  where
    switch : IsWorked (costs_of urgent) (λ k n. has_free (making_of urgent) full k n ≡ true) never_worn urgent (at 0 0) picked_state (record { left = 0; trying = None; tries = 1 }) (operation 1) (began 128 26)
    switch = record {
      begins = λ k is. let same : 128 ≡ k = cc is in subst (MayBegin urgent picked_state (record { left = 0; trying = None; tries = 1 })) same may_try;
      adds = λ test has. switch_adds (test 4) (has 4);
      ends = λ k is. inl is;
      none = λ is. none_some 128 (sym is);
      over = λ posted. cc posted;
      tries = omega arith;
    }

-- A SWITCH FOR NOTHING
abbrev Steps : FlashRun → ℕ → State → Work → Move → Effort → Type 0
Steps held k s w m e = IsWorked (costs_of urgent) (λ k n. has_free (making_of urgent) held k n ≡ true) never_worn urgent (at 0 k) s w m e

no_more : (held : FlashRun) (k : ℕ) (s : State) (w : Work) (m : Move) (e : Effort) → loss_adds (costs_of urgent) (at 0 k) m ≡ 0 → Steps held k s w m e → e.begins ≡ None → m.behind.ops + e.behind.left ≤ k + w.left
no_more held k s w m e lossless one none =
    let sum : m.behind.ops + e.behind.left ≤ k + w.left + adds_most (costs_of urgent) (λ p. false) urgent (at 0 k) s m e = one.adds (λ p. false) (λ p is. cc is) in
    let begun : begun_adds (costs_of urgent) (λ p. false) urgent (at 0 k) s e.begins ≡ 0 = ap (begun_adds (costs_of urgent) (λ p. false) urgent (at 0 k) s) none in omega (arith, sum, lossless, begun)

-- while one is open none begins
none_begins : (held : FlashRun) (k b : ℕ) (s : State) (w : Work) (m : Move) (e : Effort) → w.trying ≡ Some b → Steps held k s w m e → e.begins ≡ None
none_begins held k b s w m e trying one = by e.begins refl
  where
    by : (o : Option ℕ) → e.begins ≡ o → e.begins ≡ None
    by None none = none
    by (Some c) some = none_some b (sym (one.begins c some).none ∙ trying)

-- and it goes on
on : (held : FlashRun) (k n b : ℕ) (s : State) (w : Work) (e : Effort) → w.trying ≡ Some b → Steps held k s w (operation n) e → (e.behind.trying ≡ Some b) × (n + e.behind.left ≤ k + w.left)
on held k n b s w e trying one =
    let none = none_begins held k b s w (operation n) e trying one in
    (still (one.ends b (ap (λ (o : Option ℕ). if is_some o then o else w.trying) none ∙ trying)), no_more held k s w (operation n) e refl one none)
  where
    still : (e.behind.trying ≡ Some b) ⊎ ((e.behind.trying ≡ None) × EndsTry never_worn urgent s b (at 0 k) (operation n)) → e.behind.trying ≡ Some b
    still (inl is) = is
    still (inr (over, inl why)) = cc why
    still (inr (over, inr never)) = absurd never.2

-- where no job is in hand none begins
quiet : (held : FlashRun) (s : State) (w : Work) (m : Move) (e : Effort) → s.hand ≡ None → w.trying ≡ None → Steps held 0 s w m e → (e.behind.trying ≡ None) × (e.begins ≡ None)
quiet held s w m e hand trying one = by e.begins refl
  where
    by : (o : Option ℕ) → e.begins ≡ o → (e.behind.trying ≡ None) × (e.begins ≡ None)
    by None none = (one.none (ap (λ (o : Option ℕ). if is_some o then o else w.trying) none ∙ trying), none)
    by (Some c) some = let may = one.begins c some in let never : None ≡ Some may.job = sym hand ∙ may.hand in cc never

one_index : (index : ℕ) → Contains (0 ∷ []) index → index ≡ 0
one_index index (zero, few, is) = sym is
one_index index (suc k, few, is) = absurd (omega (arith, few))

number_is : (w : Work) (b : ℕ) → MayBegin urgent picked_state w b → b ≡ 128
number_is w b may =
    let block : job_block may.job ≡ 2 = sym (ap job_block (some_same _ may.job may.hand)) in
    let index = one_index may.index (subst (λ (id : ℕ). Contains (indices_of urgent picked_state id) may.index) block may.one) in
    may.number_is ∙ ap (λ (id : ℕ). id * 64 + may.index) block ∙ ap (λ (i : ℕ). 2 * 64 + i) index

-- the first operation is one of a try, which adds the pages of its record
begun : (held : FlashRun) (w : Work) (e : Effort) → has_free (making_of urgent) held 0 4 ≡ true → w.left ≤ 0 → Steps held 0 picked_state w (operation 1) e → (e.behind.trying ≡ Some 128) × (1 + e.behind.left ≤ 4)
begun held w e free few one = by e.begins refl
  where
    still : (e.behind.trying ≡ Some 128) ⊎ ((e.behind.trying ≡ None) × EndsTry never_worn urgent picked_state 128 (at 0 0) (operation 1)) → e.behind.trying ≡ Some 128
    still (inl is) = is
    still (inr (over, inl why)) = cc why
    still (inr (over, inr never)) = absurd never.2

    by : (o : Option ℕ) → e.begins ≡ o → (e.behind.trying ≡ Some 128) × (1 + e.behind.left ≤ 4)
    by None none = let less = no_more held 0 picked_state w (operation 1) e refl one none in absurd (omega (arith, less, few))
    by (Some b) some =
        let is : e.begins ≡ Some 128 = some ∙ ap (λ (n : ℕ). Some n) (number_is w b (one.begins b some)) in
        let sum = one.adds (has_free (making_of urgent) held 0) (λ p is. is) in
        let four : begun_adds (costs_of urgent) (has_free (making_of urgent) held 0) urgent (at 0 0) picked_state e.begins ≡ 4 = ap (begun_adds (costs_of urgent) (has_free (making_of urgent) held 0) urgent (at 0 0) picked_state) is ∙ ap (λ (room : Bool). if room then 4 else 27) free in
        (still (one.ends 128 (ap (λ (o : Option ℕ). if is_some o then o else w.trying) is)), omega (arith, sum, four, few))

-- where four pages are free, no fifth operation comes
no_fifth : (held : FlashRun) → has_free (making_of urgent) held 0 4 ≡ true → HasWorkOver held (written_with (operation 4 ∷ []) 5) → ⊥
no_fifth held free has = by has.efforts has.are
  where
    none : has.left ≤ 0
    none = has.few

    by : (es : List Effort) → AreWorkedFrom has.left held (written_with (operation 4 ∷ []) 5) es → ⊥
    by (a ∷ b ∷ c ∷ d ∷ e ∷ f ∷ g ∷ es) (one, (two, (three, (four, (five, (six, (seven, rest))))))) =
        let asks = quiet held first_state _ accepts a refl refl one in
        let asked = no_more held 0 first_state _ accepts a refl one asks.1 in
        let picks_it = quiet held asked_state _ picks b refl asks.0 two in
        let picked = no_more held 0 asked_state _ picks b refl two picks_it.1 in
        let first = begun held b.behind c free (omega (arith, none, asked, picked)) three in
        let second = on held 1 2 128 _ c.behind d first.0 four in
        let third = on held 2 3 128 _ d.behind e second.0 five in
        let fourth = on held 3 4 128 _ e.behind f third.0 six in
        let last = no_more held 4 _ f.behind _ g refl seven (none_begins held 4 128 _ f.behind _ g fourth.0 seven) in
        omega (arith, first.1, second.1, third.1, fourth.1, last)
    by [] are = are
    by (a ∷ []) are = are.1
    by (a ∷ b ∷ []) are = are.1.1
    by (a ∷ b ∷ c ∷ []) are = are.1.1.1
    by (a ∷ b ∷ c ∷ d ∷ []) are = are.1.1.1.1
    by (a ∷ b ∷ c ∷ d ∷ e ∷ []) are = are.1.1.1.1.1
    by (a ∷ b ∷ c ∷ d ∷ e ∷ f ∷ []) are = are.1.1.1.1.1.1

pub not_for_nothing : HasWorkOver roomy (written_with (operation 4 ∷ []) 5) → ⊥
not_for_nothing = no_fifth roomy refl

pub not_for_the_reserve : HasWorkOver half_full (written_with (operation 4 ∷ []) 5) → ⊥
not_for_the_reserve = no_fifth half_full refl

-- BEHIND A START-UP
-- none is left by the first start-up
pub none_behind : HasWorkOver roomy (operation 1 ∷ []) → ⊥
none_behind has = by has.efforts has.are
  where
    none : has.left ≤ 0
    none = has.few

    by : (es : List Effort) → AreWorkedFrom has.left roomy (operation 1 ∷ []) es → ⊥
    by (a ∷ es) (one, rest) =
        let quiet_one = quiet roomy first_state _ (operation 1) a refl refl one in
        let sum = no_more roomy 0 first_state _ (operation 1) a refl one quiet_one.1 in omega (arith, sum, none)
    by [] are = are

-- nor by a further one
pub none_behind_another : HasWorkOver roomy (started_again 0) → ⊥
none_behind_another has = by has.efforts has.are
  where
    none : has.left ≤ 0
    none = has.few

    by : (es : List Effort) → AreWorkedFrom has.left roomy (started_again 0) es → ⊥
    by (a ∷ b ∷ es) (one, (two, rest)) =
        let found : Move = record { entry = Some (Found [] 0); behind = at 0 0 } in
        let starts = quiet roomy first_state _ found a refl refl one in
        let started = no_more roomy 0 first_state _ found a refl one starts.1 in
        let works = quiet roomy (after_from urgent first_state (entry_list found.entry)) _ (operation 1) b refl starts.0 two in
        let sum = no_more roomy 0 _ _ (operation 1) b refl two works.1 in omega (arith, started, sum, none)
    by [] are = are
    by (a ∷ []) are = are.1

-- where a fault was counted a switch may go on behind both
abbrev turned_behind : Move
turned_behind = record { entry = None; behind = at 1 1 }

pub fault_behind : HasWorkBehind 1 roomy (turned_behind ∷ [])
fault_behind = record { left = 22; few = omega arith; efforts = none_began 21 None ∷ []; are = (rests _ _ _ _ _ _ _ _ _ refl (omega arith), tt) }

pub fault_behind_another : HasWorkOver roomy (started_again 1)
fault_behind_another = record { left = 0; few = omega arith; efforts = none_began 22 None ∷ none_began 21 None ∷ []; are = (starts, (rests _ _ _ _ _ _ _ _ _ refl (omega arith), tt)) }
  where
    starts : IsWorked (costs_of urgent) (λ k n. has_free (making_of urgent) roomy k n ≡ true) never_worn urgent (at 0 0) first_state (record { left = 0; trying = None; tries = 0 }) (record { entry = Some (Found [] 0); behind = at 1 0 }) (none_began 22 None)
    starts = record {
      begins = λ n is. none_some n is;
      adds = λ test has. omega arith;
      ends = λ n is. none_some n is;
      none = λ is. refl;
      over = λ posted. cc posted;
      tries = omega arith;
    }

-- THE TRIES
failed_adds : (room : Bool) → 4 ≤ 0 + ((if room then 4 else 27) + 23)
failed_adds true = omega arith
failed_adds false = omega arith

pub tries_once : Tries 1
tries_once = (
  none_began 0 None ∷ may_begin 0 1 ∷ began 128 3 ∷ none_began 2 None ∷ [],
  (rests _ _ _ _ _ _ _ _ _ refl (omega arith), (waits _ _ _ _ _ _ _ _ _ 1 (omega arith) refl (omega arith), (begins _ _ _ _ _ _ _ _ _ 128 refl (omega arith) may_try (λ test. failed_adds (test 4)), (ends _ _ _ _ _ _ _ _ _ 128 refl refl (omega arith) (inl refl), tt)))),
  refl,
)

pub no_second_try : Tries 2 → ⊥
no_second_try (es, are, two) =
    let few = begun_from (costs_of urgent) (λ k n. has_free (making_of urgent) roomy k n ≡ true) never_worn urgent (at 0 0) first_state (record { left = 0; trying = None; tries = 0 }) (accepts ∷ picks ∷ fault_at 1 ∷ fault_at 2 ∷ []) es are in omega (arith, few, two)
