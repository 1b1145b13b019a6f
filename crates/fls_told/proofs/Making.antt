-- What ties a device to its flash is kept by each call.
use Rattle.std.specs.Prelude.{slice_get, unwrap_or, IsTrue, IfSome, option_map, drop, count_by, min}
use Rattle.std.specs.List.{list_all, list_any}
use Rattle.std.proofs.Common.{◌≡◌, ◌⊎◌, inl, inr, ℕ, zero, suc, ◌<◌, ◌≤◌, ◌+◌, Bool, true, false, List, [], ◌∷◌, ◌++◌, length, Option, Some, None, refl, sym, ap, ◌∙◌, subst, cond, arith}
use Rattle.std.proofs.lemmas.List.Sums.{sum_by-cons}
use Rattle.std.proofs.lemmas.Bool.{cases_lt, and_parts, and_from, or_cases, false≢true}
use Rattle.nv_base.specs.Count.{last_count, next_count, Rose, WereCounted}
use Rattle.nv_base.specs.Plan.{Planning, withheld_by}
use Rattle.nv_base.specs.declared.geometry.Geometry.{Geometry}
use Rattle.fls_model.specs.declared.flash.FlashAnswer.{FlashAnswer}
use Rattle.fls_model.specs.declared.flash.FlashAnswer.TheVariants.{Done, Failed, Off}
use Rattle.fls_model.specs.Attach.{IsFilled}
use Rattle.fls_model.specs.Op.{Op, MayLeave}
use Rattle.fls_model.specs.Plan.{PlanGoes}
use Rattle.fls_model.specs.Step.{IsChanged, Leaves, Notes, HasCause}
use Rattle.fls_model.specs.Told.{Told, ToldBytes, Change, TellsFor, IfBothTold, bytes_now, changes_in}
use Rattle.promise_device.specs.Bridge.{is_failed, has_failed}
use Rattle.promise_device.specs.FlashRun.{TellsBytes, IsChain, IsCutImage, is_none_done}
use Rattle.promise_device.specs.Image.{attached}
use Rattle.promise_device.specs.Reading.{Reading}
use Rattle.fls_told.specs.Device.{FlashDevice, flash_run, tells_held}
use Rattle.fls_told.specs.Clock.{MakesNone, Makes, change_of}
use Rattle.fls_told.specs.Runs.{CountsCuts, CountsWithheld, IsWornSince, HasRun, RunsBegin, KeepsRun, RunsStay, counts_fault, LeavesSound, KeepsWorn, RunsGoOn}
use Rattle.fls_told.proofs.Clocks.{some_if, if_some, IsTold, now_of, held_told, tells_of, early, last, one_more, get_below, some_is, told_before, before_is}
use Rattle.fls_told.proofs.Runs.{told_sound, any_last}

-- IT IS MADE
alike_made : (g : Geometry) (x y : Option ToldBytes) → IfBothTold x y (IsFilled g) → IfBothTold x y (λ a b. Unit {0})
alike_made g (Some x) (Some y) both = tt
alike_made g (Some x) None both = absurd both
alike_made g None (Some y) both = absurd both
alike_made g None None both = tt

filled : (g : Geometry) (x y : Option ToldBytes) (first end : List ℕ) → IfBothTold x y (IsFilled g) → option_map now_of x ≡ Some first → option_map now_of y ≡ Some end → end ≡ attached g first
filled g (Some x) (Some y) first end both at is =
    let a : x.now ≡ first = some_is x.now first at in
    let b : y.now ≡ end = some_is y.now end is in
    sym b ∙ both.bytes ∙ ap (attached g) a
filled g (Some x) None first end both at is = absurd both
filled g None (Some y) first end both at is = absurd both
filled g None None first end both at is = cc

filled_before : (g : Geometry) (x y : Option ToldBytes) (end : List ℕ) → IfBothTold x y (IsFilled g) → option_map now_of y ≡ Some end → IsTold (option_map now_of x)
filled_before g (Some x) (Some y) end both is = record { bytes = x.now; is = refl }
filled_before g (Some x) None end both is = absurd both
filled_before g None (Some y) end both is = absurd both
filled_before g None None end both is = cc

none_made : (x y : Option ToldBytes) (g : Geometry) → IfBothTold x y (IsFilled g) → IfSome (changes_in y) (λ (c : List Change). c ≡ [])
none_made (Some x) (Some y) g both = both.changes
none_made (Some x) None g both = absurd both
none_made None (Some y) g both = absurd both
none_made None None g both = tt

if_same : (o : Option (List Change)) (a b : List Change) → b ≡ a → IfSome o (λ (c : List Change). c ≡ a) → IfSome o (λ (c : List Change). c ≡ b)
if_same o a b same holds = subst (λ (l : List Change). IfSome o (λ (c : List Change). c ≡ l)) (sym same) holds

room_begun : (x y : Option ToldBytes) (g : Geometry) (m n : ℕ) → m ≡ n → IfBothTold x y (IsFilled g) → IfSome x (TellsFor m) → IfSome y (TellsFor n)
room_begun (Some x) (Some y) g m n is both tells = both.room n (tells.0, omega (arith, is, tells.1))
room_begun (Some x) None g m n is both tells = absurd both
room_begun None (Some y) g m n is both tells = absurd both
room_begun None None g m n is both tells = tt

no_get : (k : ℕ) (x : Change) → slice_get [] k ≡ Some x → ⊥
no_get zero x is = cc
no_get (suc k) x is = cc

pub runs_begin : RunsBegin
runs_begin d made attaches cuts =
    let r = d.reading in
    let g = r.geometry in
    let at = made.attaches in
    record {
      alike = alike_made g d.entry.bytes d.flash.bytes at.bytes;
      chain = λ t. subst (λ (l : List Change). IsChain (attached g t.first) l t.last) (sym made.operations) (filled g d.entry.bytes d.flash.bytes t.first t.last at.bytes t.entry t.exit);
      changes = if_same (changes_in d.flash.bytes) [] d.operations made.operations (none_made d.entry.bytes d.flash.bytes g at.bytes);
      room = λ n. room_begun d.entry.bytes d.flash.bytes g (length d.operations + n) n (omega (arith, ap length made.operations)) at.bytes;
      sound = λ told. some_if (bytes_now d.flash) (λ image. IsTrue (r.is_sound image)) (λ end is.
          let first = filled_before g d.entry.bytes d.flash.bytes end at.bytes is in
          let same = filled g d.entry.bytes d.flash.bytes first.bytes end at.bytes first.is is in
          subst (λ (image : List ℕ). IsTrue (r.is_sound image)) (sym same) (attaches first.bytes (told_sound d first.bytes first.is told)));
      sound_cut = λ told k image (x, get, leaves). (let none : slice_get [] k ≡ Some x = ap (λ (l : List Change). slice_get l k) (sym made.operations) ∙ get in absurd (no_get k x none));
      faults = inl (omega (arith, made.faults, at.faults));
      failed = λ failed. absurd (false≢true (subst (λ (l : List Change). IsTrue (has_failed l)) made.operations failed));
      more = omega (arith, at.faults);
      cuts = cuts;
      worn = λ n since is. absurd (let none : Some since ≡ None = sym is ∙ made.worn n in cc none);
      counted = inl (let none : length d.operations ≡ 0 = ap length made.operations in let ops = at.ops in omega arith);
      withheld = λ zero'. subst CountsWithheld (sym at.planning) zero';
      none = λ is. (at.ops, at.cuts);
    }

-- COUNTS
counted_same : (e e' s s' : Told) (n n' : ℕ) → e ≡ e' → s'.ops ≡ s.ops → n' ≡ n → (s.ops + 0 ≡ e.ops + n) ⊎ (last_count ≤ e.ops + n) → (s'.ops + 0 ≡ e'.ops + n') ⊎ (last_count ≤ e'.ops + n')
counted_same e e' s s' n n' entry ops many (inl all) = (let same : e.ops ≡ e'.ops = ap (λ (x : Told). x.ops) entry in inl (omega arith))
counted_same e e' s s' n n' entry ops many (inr big) = (let same : e.ops ≡ e'.ops = ap (λ (x : Told). x.ops) entry in inr (omega arith))

counted_more : (e a b n n' e' : ℕ) → e' ≡ e → b ≡ next_count a → n' ≡ n + 1 → (a + 0 ≡ e + n) ⊎ (last_count ≤ e + n) → (b + 0 ≡ e' + n') ⊎ (last_count ≤ e' + n')
counted_more e a b n n' e' entry next more (inl all) = elim (cases_lt a last_count) [ inl small ↦ inl (omega arith) | inr full ↦ inr (omega arith) ]
counted_more e a b n n' e' entry next more (inr big) = inr (omega arith)

count_push : (xs : List ℕ) (k : ℕ) → count_by is_none_done (xs ++ k ∷ []) ≡ count_by is_none_done xs + count_by is_none_done (k ∷ [])
count_push [] k = omega arith
count_push (x ∷ xs) k =
    let h : count_by is_none_done (xs ++ k ∷ []) ≡ count_by is_none_done xs + count_by is_none_done (k ∷ []) = count_push xs k in
    let one : count_by is_none_done (x ∷ xs ++ k ∷ []) ≡ cond (is_none_done x) 1 0 + count_by is_none_done (xs ++ k ∷ []) = sum_by-cons (λ (n : ℕ). cond (is_none_done n) 1 0) x (xs ++ k ∷ []) in
    let other : count_by is_none_done (x ∷ xs) ≡ cond (is_none_done x) 1 0 + count_by is_none_done xs = sum_by-cons (λ (n : ℕ). cond (is_none_done n) 1 0) x xs in
    omega (arith, one, other, h)

behind_withheld : (k n : ℕ) (xs : List ℕ) → n ≡ min (count_by is_none_done xs) last_count → withheld_by k n ≡ min (count_by is_none_done (xs ++ k ∷ [])) last_count
behind_withheld zero n xs is = (let h : count_by is_none_done (xs ++ 0 ∷ []) ≡ count_by is_none_done xs + 1 = count_push xs 0 in omega (arith, h, is))
behind_withheld (suc k) n xs is = (let h : count_by is_none_done (xs ++ suc k ∷ []) ≡ count_by is_none_done xs + 0 = count_push xs (suc k) in omega (arith, h, is))

withheld_more : (answer : FlashAnswer) (p q : Planning) → PlanGoes answer p q → CountsWithheld p → CountsWithheld q
withheld_more Done p q nears is = subst CountsWithheld (sym nears.planning) is
withheld_more Failed p q (inl nears) is = subst CountsWithheld (sym nears.planning) is
withheld_more Failed p q (inr same) is = subst CountsWithheld (sym same) is
withheld_more Off p q (inl comes) is = subst CountsWithheld (sym comes.planning) (behind_withheld comes.plan.keep p.withheld p.came is)
withheld_more Off p q (inr cut) is = cut.withheld ∙ is ∙ ap (λ (l : List ℕ). min (count_by is_none_done l) last_count) (sym cut.came)

-- WITHOUT AN OPERATION
rose_more : (a b c : ℕ) → Rose a b → b ≤ c → Rose a c
rose_more a b c (inl less) le = inl (omega arith)
rose_more a b c (inr (big, more)) le = inr (big, omega arith)

module _ (d t : FlashDevice) (has : HasRun d) (keeps : KeepsRun d t) where
  none : MakesNone d t
  none = keeps.none

  abbrev told_in : TellsBytes (flash_run t) → TellsBytes (flash_run d)
  told_in b = record { first = b.first; entry = ap bytes_now (sym none.entry) ∙ b.entry; last = b.last; exit = sym none.bytes ∙ b.exit }

  geometry : t.reading.geometry ≡ d.reading.geometry
  geometry = ap (λ (r : Reading). r.geometry) none.reading

  is_told : IsTrue (tells_held t) → IsTrue (tells_held d)
  is_told told = sym (tells_of d t none.reading none.entry) ∙ told

  worn_in : (n since : ℕ) → IsWornSince d n since → IsWornSince t n since
  worn_in n since was = record {
    last = subst (λ (r : Reading). IfSome (bytes_now t.flash) (λ image. IsTrue (r.is_last n image))) (sym none.reading) (subst (λ (o : Option (List ℕ)). IfSome o (λ image. IsTrue (d.reading.is_last n image))) (sym none.bytes) was.last);
    follow = λ small. subst (λ (r : Reading). IsTrue (list_all (λ (x : Change). r.may_follow n x.op) (drop since t.operations))) (sym none.reading)
        (subst (λ (l : List Change). IsTrue (list_all (λ (x : Change). d.reading.may_follow n x.op) (drop since l))) (sym none.operations) (was.follow small));
  }

  worn_by : (n since : ℕ) → (d.worn n ≡ Some since) ⊎ IsWornSince t n since → IsWornSince t n since
  worn_by n since (inl was) = worn_in n since (has.worn n since was)
  worn_by n since (inr new) = new

  stays : HasRun t
  stays = record {
    alike = subst (λ (e : Told). IfBothTold e.bytes t.flash.bytes (λ a b. Unit {0})) (sym none.entry) (subst (λ (o : Option ToldBytes). IfBothTold d.entry.bytes o (λ a b. Unit {0})) (sym keeps.bytes) has.alike);
    chain = λ b. subst (λ (g : Geometry). IsChain (attached g b.first) t.operations b.last) (sym geometry)
        (subst (λ (l : List Change). IsChain (attached d.reading.geometry b.first) l b.last) (sym none.operations) (has.chain (told_in b)));
    changes = if_same (changes_in t.flash.bytes) d.operations t.operations none.operations (subst (λ (o : Option ToldBytes). IfSome (changes_in o) (λ (c : List Change). c ≡ d.operations)) (sym keeps.bytes) has.changes);
    room = λ n tells. subst (λ (o : Option ToldBytes). IfSome o (TellsFor n)) (sym keeps.bytes)
        (has.room n (subst (λ (e : Told). IfSome e.bytes (TellsFor (length d.operations + n))) none.entry (subst (λ (l : List Change). IfSome t.entry.bytes (TellsFor (length l + n))) none.operations tells)));
    sound = λ told. subst (λ (r : Reading). IfSome (bytes_now t.flash) (λ image. IsTrue (r.is_sound image))) (sym none.reading) (subst (λ (o : Option (List ℕ)). IfSome o (λ image. IsTrue (d.reading.is_sound image))) (sym none.bytes) (has.sound (is_told told)));
    sound_cut = λ told k image (x, get, leaves). subst (λ (r : Reading). IsTrue (r.is_sound image)) (sym none.reading) (has.sound_cut (is_told told) k image (x, ap (λ (l : List Change). slice_get l k) (sym none.operations) ∙ get, leaves));
    faults = keeps.faults;
    failed = λ failed. subst (λ (e : Told). Rose e.faults t.flash.faults) (sym none.entry)
        (rose_more d.entry.faults d.flash.faults t.flash.faults (has.failed (subst (λ (l : List Change). IsTrue (has_failed l)) none.operations failed)) keeps.flash_faults);
    more = subst (λ (e : Told). e.faults ≤ t.flash.faults) (sym none.entry) (omega (arith, has.more, keeps.flash_faults));
    cuts = keeps.cuts;
    worn = λ n since is. worn_by n since (keeps.worn n since is);
    counted = counted_same d.entry t.entry d.flash t.flash (length d.operations) (length t.operations) (sym none.entry) keeps.counts.0 (ap length none.operations) has.counted;
    withheld = λ zero'. (
        let was : CountsWithheld d.flash.planning = has.withheld (subst (λ (e : Told). e.planning.withheld ≡ 0) none.entry zero') in
        keeps.came.1 ∙ was ∙ ap (λ (l : List ℕ). min (count_by is_none_done l) last_count) (sym keeps.came.0));
    none = λ is.
        let was = has.none (sym none.operations ∙ is) in
        (keeps.counts.0 ∙ was.0 ∙ ap (λ (e : Told). e.ops) (sym none.entry), keeps.counts.1 ∙ was.1 ∙ ap (λ (e : Told). e.cuts) (sym none.entry));
  }

pub runs_stay : RunsStay
runs_stay d t has keeps = stays d t has keeps

-- BY AN OPERATION
chain_more : (first : List ℕ) (xs : List Change) (end new : List ℕ) (x : Change) → IsChain first xs end → x.before ≡ end → Leaves x.op x.answer end new → IsChain first (xs ++ x ∷ []) new
chain_more first [] end new x chain before leaves = (before ∙ chain, (new, subst (λ (b : List ℕ). Leaves x.op x.answer b new) (sym before) leaves, refl))
chain_more first (y ∷ ys) end new x (at, (next, left, rest)) before leaves = (at, (next, left, chain_more next ys end new x rest before leaves))

all_more : (P : Change → Bool) (n : ℕ) (xs : List Change) (x : Change) → IsTrue (list_all P (drop n xs)) → IsTrue (P x) → IsTrue (list_all P (drop n (xs ++ x ∷ [])))
all_more P zero [] x all is = and_from (P x) true is refl
all_more P (suc zero) [] x all is = refl
all_more P (suc (suc n)) [] x all is = refl
all_more P zero (y ∷ ys) x all is =
    let parts = and_parts (P y) (list_all P ys) all in
    and_from (P y) (list_all P (ys ++ x ∷ [])) parts.0 (all_more P zero ys x parts.1 is)
all_more P (suc n) (y ∷ ys) x all is = all_more P n ys x all is

counts_more : (answer : FlashAnswer) (s t : Told) (own own' entry : ℕ) → HasCause answer s t → own' ≡ counts_fault answer own → WereCounted own entry s.faults → WereCounted own' entry t.faults
counts_more Done s t own own' entry cause is (inl fits) = inl (omega (arith, cause.0))
counts_more Done s t own own' entry cause is (inr big) = inr (omega (arith, cause.0))
counts_more Off s t own own' entry cause is (inl fits) = inl (omega (arith, cause.0))
counts_more Off s t own own' entry cause is (inr big) = inr (omega (arith, cause.0))
counts_more Failed s t own own' entry (inl less, c, o) is (inl fits) = inl (omega arith)
counts_more Failed s t own own' entry (inl less, c, o) is (inr big) = inr (omega arith)
counts_more Failed s t own own' entry (inr (big, le), c, o) is fits = inr (omega arith)

flash_more : (answer : FlashAnswer) (s t : Told) → HasCause answer s t → s.faults ≤ t.faults
flash_more Done s t cause = omega (arith, cause.0)
flash_more Off s t cause = cause.0
flash_more Failed s t (inl less, c, o) = omega arith
flash_more Failed s t (inr (big, le), c, o) = le

any_more : (P : Change → Bool) (xs : List Change) (x : Change) → IsTrue (list_any P (xs ++ x ∷ [])) → IsTrue (list_any P xs) ⊎ IsTrue (P x)
any_more P [] x has = elim (or_cases (P x) false has) [ inl here ↦ inr here | inr none ↦ absurd (false≢true none) ]
any_more P (y ∷ ys) x has = elim (or_cases (P y) (list_any P (ys ++ x ∷ [])) has) [
  | inl here ↦ inl (rw here refl)
  | inr rest ↦ elim (any_more P ys x rest) [ inl more ↦ inl (any_last (P y) (list_any P ys) more) | inr is ↦ inr is ]
]

rose_from : (a b c : ℕ) → a ≤ b → Rose b c → Rose a c
rose_from a b c le (inl less) = inl (omega arith)
rose_from a b c le (inr (big, more)) = elim (cases_lt a c) [ inl less ↦ inl less | inr ge ↦ inr (omega arith, omega arith) ]

failed_rose : (answer : FlashAnswer) (s t : Told) → HasCause answer s t → IsTrue (is_failed answer) → Rose s.faults t.faults
failed_rose Done s t cause is = absurd (false≢true is)
failed_rose Off s t cause is = absurd (false≢true is)
failed_rose Failed s t cause is = cause.0

failed_more : (answer : FlashAnswer) (d t : FlashDevice) → HasRun d → HasCause answer d.flash t.flash → IsTrue (has_failed d.operations) ⊎ IsTrue (is_failed answer) → Rose d.entry.faults t.flash.faults
failed_more answer d t has cause (inl before) = rose_more d.entry.faults d.flash.faults t.flash.faults (has.failed before) (flash_more answer d.flash t.flash cause)
failed_more answer d t has cause (inr now) = rose_from d.entry.faults d.flash.faults t.flash.faults has.more (failed_rose answer d.flash t.flash cause now)

alike_more : (op : Op) (answer : FlashAnswer) (e x y : Option ToldBytes) → IfBothTold e x (λ a b. Unit {0}) → IfBothTold x y (IsChanged op answer) → IfBothTold e y (λ a b. Unit {0})
alike_more op answer (Some e) (Some x) (Some y) alike both = tt
alike_more op answer e (Some x) None alike both = absurd both
alike_more op answer e None (Some y) alike both = absurd both
alike_more op answer None None None alike both = tt
alike_more op answer (Some e) None None alike both = absurd alike
alike_more op answer None (Some x) (Some y) alike both = absurd alike

noted : (c : Change) (old new : List Change) → new ≡ old ++ c ∷ [] → (a b : Option (List Change)) → Notes c a b → IfSome a (λ (l : List Change). l ≡ old) → IfSome b (λ (l : List Change). l ≡ new)
noted c old new more (Some a) (Some b) is same = is ∙ ap (λ (l : List Change). l ++ c ∷ []) same ∙ sym more
noted c old new more None (Some b) is same = absurd is
noted c old new more (Some a) None is same = tt
noted c old new more None None is same = tt

noted_more : (op : Op) (answer : FlashAnswer) (s : Told) (x y : Option ToldBytes) (old new : List Change) → s.bytes ≡ x → new ≡ old ++ change_of op s answer ∷ [] → IfBothTold x y (IsChanged op answer)
    → IfSome (changes_in x) (λ (c : List Change). c ≡ old) → IfSome (changes_in y) (λ (c : List Change). c ≡ new)
noted_more op answer s (Some x) (Some y) old new is more both same =
    noted (record { op = op; before = x.now; answer = answer }) old new (more ∙ ap (λ (o : Option ToldBytes). old ++ record { op = op; before = unwrap_or (option_map now_of o) []; answer = answer } ∷ []) is) x.changes y.changes both.changes same
noted_more op answer s (Some x) None old new is more both same = absurd both
noted_more op answer s None (Some y) old new is more both same = absurd both
noted_more op answer s None None old new is more both same = tt

room_less : (op : Op) (answer : FlashAnswer) (x y : Option ToldBytes) (n : ℕ) → IfBothTold x y (IsChanged op answer) → IfSome x (TellsFor (n + 1)) → IfSome y (TellsFor n)
room_less op answer (Some x) (Some y) n both tells = both.room n tells
room_less op answer (Some x) None n both tells = absurd both
room_less op answer None (Some y) n both tells = absurd both
room_less op answer None None n both tells = tt

module _ (op : Op) (answer : FlashAnswer) (d t : FlashDevice) (has : HasRun d) (makes : Makes op answer d t) where
  abbrev change : Change
  change = change_of op d.flash answer

  same_geometry : t.reading.geometry ≡ d.reading.geometry
  same_geometry = ap (λ (r : Reading). r.geometry) makes.reading

  was_told : IsTrue (tells_held t) → IsTrue (tells_held d)
  was_told told = sym (tells_of d t makes.reading makes.entry) ∙ told

  -- what its operation made of the bytes
  changed : (x y : Option ToldBytes) (old new : List ℕ) → IfBothTold x y (IsChanged op answer) → option_map now_of x ≡ Some old → option_map now_of y ≡ Some new → Leaves op answer old new × MayLeave op old new
  changed (Some x) (Some y) old new both at is =
      let a : x.now ≡ old = some_is x.now old at in
      let b : y.now ≡ new = some_is y.now new is in (
        subst (λ (n : List ℕ). Leaves op answer old n) b (subst (λ (o : List ℕ). Leaves op answer o y.now) a both.bytes),
        subst (λ (n : List ℕ). MayLeave op old n) b (subst (λ (o : List ℕ). MayLeave op o y.now) a both.within),
      )
  changed (Some x) None old new both at is = absurd both
  changed None (Some y) old new both at is = absurd both
  changed None None old new both at is = cc

  goes_chain : (b : TellsBytes (flash_run t)) → IsChain (attached t.reading.geometry b.first) t.operations b.last
  goes_chain b =
      let was = told_before op answer d t has.alike makes d.flash.bytes t.flash.bytes b.last makes.asked.bytes b.exit in
      let told : TellsBytes (flash_run d) = record { first = b.first; entry = ap bytes_now (sym makes.entry) ∙ b.entry; last = was.bytes; exit = was.is } in
      let leaves = changed d.flash.bytes t.flash.bytes was.bytes b.last makes.asked.bytes was.is b.exit in
      subst (λ (g : Geometry). IsChain (attached g b.first) t.operations b.last) (sym same_geometry)
      (subst (λ (l : List Change). IsChain (attached d.reading.geometry b.first) l b.last) (sym makes.operations)
      (chain_more (attached d.reading.geometry b.first) d.operations was.bytes b.last change (has.chain told) (before_is op answer d t has.alike makes was.bytes was.is) leaves.0))

  module _ (sound : LeavesSound op d) where
    leaves_sound : (bytes image : List ℕ) → IsTrue (tells_held d) → bytes_now d.flash ≡ Some bytes → MayLeave op bytes image → IsTrue (t.reading.is_sound image)
    leaves_sound bytes image told is leaves =
        subst (λ (r : Reading). IsTrue (r.is_sound image)) (sym makes.reading)
        (if_some (bytes_now d.flash) (λ b. (i : List ℕ) → MayLeave op b i → IsTrue (d.reading.is_sound i)) bytes is (sound told) image leaves)

    goes_sound : IsTrue (tells_held t) → IfSome (bytes_now t.flash) (λ image. IsTrue (t.reading.is_sound image))
    goes_sound told = some_if (bytes_now t.flash) (λ image. IsTrue (t.reading.is_sound image)) (λ new is.
        let was = told_before op answer d t has.alike makes d.flash.bytes t.flash.bytes new makes.asked.bytes is in
        leaves_sound was.bytes new (was_told told) was.is (changed d.flash.bytes t.flash.bytes was.bytes new makes.asked.bytes was.is is).1)

    goes_cut : IsTrue (tells_held t) → (k : ℕ) (image : List ℕ) → IsCutImage (flash_run t) k image → IsTrue (t.reading.is_sound image)
    goes_cut told k image (x, get, leaves) = elim (cases_lt k (length d.operations)) [
      | inl lt ↦
          subst (λ (r : Reading). IsTrue (r.is_sound image)) (sym makes.reading)
          (has.sound_cut (was_told told) k image (x, sym (early op answer d t has.alike makes k lt) ∙ get, leaves))
      | inr ge ↦
          let below : k < length t.operations = get_below t.operations k x get in
          let here : k ≡ length d.operations = omega (arith, one_more op answer d t has.alike makes) in
          let same : change ≡ x = some_is change x (sym (last op answer d t has.alike makes) ∙ ap (λ (n : ℕ). slice_get t.operations n) (sym here) ∙ get) in
          let b = held_told d has.alike (was_told told) in
          leaves_sound b.bytes image (was_told told) b.is
          (subst (λ (o : List ℕ). MayLeave op o image) (before_is op answer d t has.alike makes b.bytes b.is) (subst (λ (c : Change). MayLeave c.op c.before image) (sym same) leaves))
    ]

    goes_on : t.faults ≡ counts_fault answer d.faults → CountsCuts t.entry t.flash → KeepsWorn op d t → HasRun t
    goes_on counted cuts worn = record {
      alike = subst (λ (e : Told). IfBothTold e.bytes t.flash.bytes (λ a b. Unit {0})) (sym makes.entry) (alike_more op answer d.entry.bytes d.flash.bytes t.flash.bytes has.alike makes.asked.bytes);
      chain = goes_chain;
      changes = noted_more op answer d.flash d.flash.bytes t.flash.bytes d.operations t.operations refl makes.operations makes.asked.bytes has.changes;
      room = λ n tells.
          let at : length t.operations + n ≡ length d.operations + (n + 1) = omega (arith, one_more op answer d t has.alike makes) in
          room_less op answer d.flash.bytes t.flash.bytes n makes.asked.bytes
          (has.room (n + 1) (subst (λ (k : ℕ). IfSome d.entry.bytes (TellsFor k)) at (subst (λ (e : Told). IfSome e.bytes (TellsFor (length t.operations + n))) makes.entry tells)));
      sound = goes_sound;
      sound_cut = goes_cut;
      faults = subst (λ (e : Told). WereCounted t.faults e.faults t.flash.faults) (sym makes.entry) (counts_more answer d.flash t.flash d.faults t.faults d.entry.faults makes.asked.cause counted has.faults);
      failed = λ failed. subst (λ (e : Told). Rose e.faults t.flash.faults) (sym makes.entry)
          (failed_more answer d t has makes.asked.cause (any_more (λ (x : Change). is_failed x.answer) d.operations change (subst (λ (l : List Change). IsTrue (has_failed l)) makes.operations failed)));
      more = subst (λ (e : Told). e.faults ≤ t.flash.faults) (sym makes.entry) (omega (arith, has.more, flash_more answer d.flash t.flash makes.asked.cause));
      cuts = cuts;
      worn = λ n since is.
          let at = sym (makes.worn n) ∙ is in
          let was = has.worn n since at in
          let keeps = worn n since at in
          record {
            last = subst (λ (r : Reading). IfSome (bytes_now t.flash) (λ image. IsTrue (r.is_last n image))) (sym makes.reading) keeps.1;
            follow = λ small. subst (λ (r : Reading). IsTrue (list_all (λ (x : Change). r.may_follow n x.op) (drop since t.operations))) (sym makes.reading)
                (subst (λ (l : List Change). IsTrue (list_all (λ (x : Change). d.reading.may_follow n x.op) (drop since l))) (sym makes.operations)
                (all_more (λ (x : Change). d.reading.may_follow n x.op) since d.operations change (was.follow small) keeps.0));
          };
      counted = counted_more d.entry.ops d.flash.ops t.flash.ops (length d.operations) (length t.operations) t.entry.ops (ap (λ (e : Told). e.ops) makes.entry) makes.asked.ops (one_more op answer d t has.alike makes) has.counted;
      withheld = λ zero'. withheld_more answer d.flash.planning t.flash.planning makes.asked.planning (has.withheld (subst (λ (e : Told). e.planning.withheld ≡ 0) makes.entry zero'));
      none = λ is. absurd (let zero : length t.operations ≡ 0 = ap length is in omega (arith, one_more op answer d t has.alike makes, zero));
    }

pub runs_go_on : RunsGoOn
runs_go_on op answer d t has makes counted cuts sound worn = goes_on op answer d t has makes sound counted cuts worn
