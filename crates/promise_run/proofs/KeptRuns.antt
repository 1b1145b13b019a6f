-- Runs that keep the promise.
use Rattle.std.specs.Prelude.{Contains, IfSome}
use Rattle.std.proofs.Common.{◌≡◌, ◌==◌, ℕ, zero, suc, ◌≤◌, ◌<◌, true, IsTrue, List, [], ◌∷◌, replicate, Option, Some, None, refl, sym, ap, subst, ◌∙◌, inl, arith, ◌⊎◌, inr}
use Rattle.std.proofs.lemmas.Bool.{cases_Bool}
use Rattle.block_machine.specs.nv_base.declared.instance.DeviceNumber.{DeviceNumber}
use Rattle.block_machine.specs.nv_base.Count.{last_count, next_count}
use Rattle.block_machine.specs.nv_base.Entry.{ops_of}
use Rattle.block_machine.specs.nv_base.Marks.{instance_of}
use Rattle.block_machine.specs.block_config.Lengths.{lengths_of}
use Rattle.fls_model.specs.Bytes.{Grown}
use Rattle.fls_model.specs.Op.{Erase, MayLeave}
use Rattle.fls_model.specs.declared.flash.FlashAnswer.TheVariants.{Off as FlashOff}
use Rattle.fls_model.specs.Told.{Change}
use Rattle.memif.specs.Told.{length_of, more_writes}
use Rattle.block_machine.specs.Words.{Instance, Mark, Erased, Entry, Found}
use Rattle.block_machine.specs.Blocks.{instance_at}
use Rattle.block_machine.specs.History.{MayStandIn, up_to}
use Rattle.block_machine.specs.Accepted.{IsAccepted, IsNotOlder}
use Rattle.block_machine.specs.Steps.{after}
use Rattle.block_machine.specs.StartUp.{listed_mark}
use Rattle.block_machine.specs.Legal.{IsLegal}
use Rattle.fee_format.specs.declared.bank_head.BankHead.{BankHead}
use Rattle.block_machine.specs.nv_base.Held.{Held, never_written}
use Rattle.fee_image.specs.Image.{Layout, active_of, found_held, held_of_bank}
use Rattle.fee_image.specs.Laws.{BlankIsSound, BlankHasErased, NoActiveComputes, TornErasesSetBits, TornErasesKeepSound, TornErasesMakeNoBank}
use Rattle.promise_blocks.specs.Counts.{KeepsCounts, MayCountIn, count_due}
use Rattle.promise_blocks.specs.Marks.{KeepsMarks, Lists}
use Rattle.promise_blocks.specs.OverDevice.{HasOffAt, TellsAtMost}
use Rattle.promise_device.specs.Making.{banks_of}
use Rattle.promise_device.specs.Image.{attached, held_as}
use Rattle.promise_device.specs.FlashRun.{IsCutImage, IsChain, AreSeen, WentOff, bytes_after}
use Rattle.fee_image.specs.Sound.{IsSoundImage}
use Rattle.promise_run.specs.Run.{cap}
use Rattle.promise_run.specs.Refusals.{RefusesAsAsked}
use Rattle.promise_run.specs.Promise.{CutsCount, Promise, Keeps, counts_by, StartUpsFind, found_by, making_of}
use Rattle.promise_run.specs.Cases.{small, blank, taken, kept_write}

-- a fact on each entry of a list
abbrev pub Every : (Entry → Type 0) → List Entry → Type 0
Every P [] = Unit {0}
Every P (x ∷ xs) = P x × Every P xs

pub every : (P : Entry → Type 0) (h : List Entry) → Every P h → (e : Entry) → Contains h e → P e
every P [] all e (k, few, is) = absurd (omega (arith, few))
every P (x ∷ xs) (p, ps) e (zero, few, is) = subst P is p
every P (x ∷ xs) (p, ps) e (suc k, few, is) = every P xs ps e (k, omega (arith, few), is)

-- the entries tell of no more operations
abbrev pub Tells : ℕ → Entry → Type 0
Tells n e = (ops : ℕ) → ops_of e ≡ Some ops → ops ≤ n

pub at_most : (n : ℕ) (h : List Entry) → Every (Tells n) h → TellsAtMost n h
at_most n h all e ops has is = every (Tells n) h all e has ops is

some_is : (a b : ℕ) → Some a ≡ Some b → a ≡ b
some_is a b is = cc

pub some_list : (a b : List ℕ) → Some a ≡ Some b → a ≡ b
some_list a b is = cc

some_change : (a b : Change) → Some a ≡ Some b → a ≡ b
some_change a b is = cc

pub some_changes : (a b : List Change) → Some a ≡ Some b → a ≡ b
some_changes a b is = cc

pub tells : (n m : ℕ) → m ≤ n → (ops : ℕ) → Some m ≡ Some ops → ops ≤ n
tells n m small_enough ops is = omega (arith, some_is m ops is)

-- MARKS THAT ARE ALL ERASED
pub each : (P : DeviceNumber × ℕ → Type 0) → P (record { 0 = 64 }, 2) → P (record { 0 = 65 }, 2) → P (record { 0 = 128 }, 4) → (x : DeviceNumber × ℕ) → Contains (lengths_of small) x → P x
each P a b c x (zero, few, is) = subst P is a
each P a b c x (suc zero, few, is) = subst P is b
each P a b c x (suc (suc zero), few, is) = subst P is c
each P a b c x (suc (suc (suc k)), few, is) = absurd (omega (arith, few))

abbrev pub Stands : List Entry → DeviceNumber × ℕ → Type 0
Stands h x = MayStandIn (instance_at (after small h) (instance_of x.0)) Erased

pub keeps_erased : (h : List Entry) (found : ℕ → Mark) → ((n : ℕ) → found n ≡ Erased) → ((x : DeviceNumber × ℕ) → Contains (lengths_of small) x → Stands h x)
    → ((i : Instance) → IsAccepted small h i Erased) → ((i : Instance) → IsNotOlder small h i Erased) → KeepsMarks small h found
keeps_erased h found erased stands accepted newest = record {
  stands = λ x has. subst (λ (m : Mark). MayStandIn (instance_at (after small h) (instance_of x.0)) m) (sym (erased x.0.0)) (stands x has);
  accepted = λ x has. subst (λ (m : Mark). IsAccepted small h (instance_of x.0) m) (sym (erased x.0.0)) (accepted (instance_of x.0));
  newest = λ x has. subst (λ (m : Mark). IsNotOlder small h (instance_of x.0) m) (sym (erased x.0.0)) (newest (instance_of x.0));
}

all_erased : (l : Layout) (image : List ℕ) (n : ℕ) (length : Option ℕ) → ((size : ℕ) → found_held l image n size ≡ never_written) → held_as l image n length ≡ never_written
all_erased l image n None erased = refl
all_erased l image n (Some size) erased = erased size

abbrev Finds : List ℕ → ℕ → Held
Finds image n = held_as (banks_of (making_of small)) (attached small.geometry image) n (length_of (lengths_of small) n)

blank_holds : BlankHasErased → (n : ℕ) → Finds blank n ≡ never_written
blank_holds erased n = all_erased (banks_of (making_of small)) blank n (length_of (lengths_of small) n) (erased (banks_of (making_of small)) 320 n)

pub blank_found : BlankHasErased → (n : ℕ) → found_by small blank n ≡ Erased
blank_found erased n = ap (λ (h : Held). h.mark) (blank_holds erased n)

-- A TORN ERASE OF A BLANK FLASH
grown_same : (n : ℕ) → Grown (replicate n 255) (replicate n 255)
grown_same zero = tt
grown_same (suc n) = (refl, (λ is. is), grown_same n)

not_empty : (image : List ℕ) → Grown blank image → attached small.geometry image ≡ image
not_empty [] grown = absurd grown
not_empty (x ∷ xs) grown = refl

finds_none : NoActiveComputes → TornErasesMakeNoBank → BlankIsSound → (image : List ℕ) → Grown blank image → active_of (banks_of (making_of small)) image ≡ None
finds_none computes makes sound image grown =
    let l = banks_of (making_of small) in
    (computes l image).0 (λ k h few stands. (computes l blank).1 refl k h few (makes l blank image k h (omega arith) (sound l 320) grown few stands))

torn_holds : NoActiveComputes → TornErasesMakeNoBank → BlankIsSound → (image : List ℕ) → Grown blank image → (n : ℕ) → Finds image n ≡ never_written
torn_holds computes makes sound image grown n =
    let l = banks_of (making_of small) in
    subst (λ (bytes : List ℕ). held_as l bytes n (length_of (lengths_of small) n) ≡ never_written) (sym (not_empty image grown))
    (all_erased l image n (length_of (lengths_of small) n) (λ size. ap (λ (a : Option (ℕ × BankHead)). held_of_bank l image n size a) (finds_none computes makes sound image grown)))

torn_found : NoActiveComputes → TornErasesMakeNoBank → BlankIsSound → (image : List ℕ) → Grown blank image → (n : ℕ) → found_by small image n ≡ Erased
torn_found computes makes sound image grown n = ap (λ (h : Held). h.mark) (torn_holds computes makes sound image grown n)

-- THE WRITE
abbrev whole : List Entry
whole = kept_write.history

torn_keeps : NoActiveComputes → TornErasesMakeNoBank → TornErasesKeepSound → BlankIsSound → (image : List ℕ) → Grown blank image → Keeps small taken image
torn_keeps computes makes stays sound image grown = record {
  marks = keeps_erased taken (found_by small image) (torn_found computes makes sound image grown) (each (Stands taken) (inl refl) (inl refl) (inl refl))
      (λ i. record { whole = refl; brought = inl refl }) (λ i. (λ a is. inl is, (λ a none. absurd none, (λ a none. absurd none, tt))));
  sound = subst (λ (bytes : List ℕ). IsSoundImage (banks_of (making_of small)) bytes) (sym (not_empty image grown)) (stays (banks_of (making_of small)) blank image (sound (banks_of (making_of small)) 320) grown);
}

cuts_keep : NoActiveComputes → TornErasesMakeNoBank → TornErasesKeepSound → TornErasesSetBits → BlankIsSound → (k : ℕ) (image : List ℕ) → IsCutImage kept_write.flash k image → Keeps small (up_to k whole) image
cuts_keep computes makes stays bits sound zero image (x, at, may) =
    let same : record { op = Erase 0 160; before = blank; answer = FlashOff } ≡ x = some_change _ x at in
    torn_keeps computes makes stays sound image (bits 0 160 blank image (subst (λ (y : Change). MayLeave y.op y.before image) (sym same) may))
cuts_keep computes makes stays bits sound (suc k) image (x, at, may) = absurd (cc at)

-- no count
same_count : (n : ℕ) (image : List ℕ) → Finds image n ≡ never_written → counts_by small image n ≡ 0
same_count n image is = ap (λ (h : Held). h.count) is

taken_counts : (image : List ℕ) → ((n : ℕ) → counts_by small image n ≡ 0) → ((n : ℕ) → counts_by small blank n ≡ 0) → KeepsCounts small taken (counts_by small blank) (counts_by small image)
taken_counts image none nothing = each (λ x. MayCountIn (instance_at (after small taken) (instance_of x.0)) (count_due taken (counts_by small blank) x.0.0) (counts_by small image x.0.0))
    (inl (none 64 ∙ sym (ap (more_writes 0) (nothing 64)))) (inl (none 65 ∙ sym (ap (more_writes 0) (nothing 65)))) (inl (none 128 ∙ sym (ap (more_writes 0) (nothing 128))))

cuts_count : NoActiveComputes → TornErasesMakeNoBank → TornErasesSetBits → BlankIsSound → BlankHasErased → CutsCount kept_write
cuts_count computes makes bits sound erased zero ops image small_k (x, at, may) last =
    let same : record { op = Erase 0 160; before = blank; answer = FlashOff } ≡ x = some_change _ x at in
    let grown = bits 0 160 blank image (subst (λ (y : Change). MayLeave y.op y.before image) (sym same) may) in
    let first : 0 ≡ ops = some_is 0 ops last in
    subst (λ (m : ℕ). IfSome (bytes_after kept_write.flash m) (λ b. KeepsCounts small taken (counts_by small b) (counts_by small image))) first
    (taken_counts image (λ n. same_count n image (torn_holds computes makes sound image grown n)) (λ n. same_count n blank (blank_holds erased n)))
cuts_count computes makes bits sound erased (suc k) ops image small_k (x, at, may) last = absurd (cc at)

exit_keeps : BlankIsSound → BlankHasErased → Keeps small whole blank
exit_keeps sound erased = record {
  marks = keeps_erased whole (found_by small blank) (blank_found erased) (each (Stands whole) (inl refl) (inl refl) (inl refl))
      (λ i. record { whole = refl; brought = inl refl })
      (λ i. (λ a is. inl is, (λ a none. absurd none, (λ a none. absurd none, (λ a none. absurd none, (λ a is. inl is, tt))))));
  sound = sound (banks_of (making_of small)) 320;
}

abbrev FindsNothing : Entry → Type 0
FindsNothing e = (marks : List (Instance × Mark)) (ops : ℕ) → e ≡ Found marks ops → marks ≡ []

founds : (e : Entry) → Contains whole e → FindsNothing e
founds = every FindsNothing whole
    ((λ marks ops is. sym (cc is)), ((λ marks ops is. absurd (cc is)), ((λ marks ops is. absurd (cc is)), ((λ marks ops is. absurd (cc is)), ((λ marks ops is. sym (cc is)), tt)))))

lists_nothing : BlankHasErased → (marks : List (Instance × Mark)) → marks ≡ [] → Lists small marks (found_by small blank)
lists_nothing erased marks none x has = ap (λ (ms : List (Instance × Mark)). listed_mark ms (instance_of x.0)) none ∙ sym (blank_found erased x.0.0)

start_ups_find : BlankHasErased → StartUpsFind kept_write
start_ups_find erased marks zero has few = lists_nothing erased marks (founds (Found marks zero) has marks zero refl)
start_ups_find erased marks (suc ops) has few = lists_nothing erased marks (founds (Found marks (suc ops)) has marks (suc ops) refl)

chains : (first last : List ℕ) → [] ≡ first → blank ≡ last → IsChain (attached small.geometry first) kept_write.flash.operations last
chains first last a b = subst (λ (f : List ℕ). IsChain (attached small.geometry f) kept_write.flash.operations last) a
    (subst (λ (l : List ℕ). IsChain blank kept_write.flash.operations l) b (refl, (blank, (record { size = refl; front = refl; back = refl }, grown_same 160), refl)))

stays_back : (last : List ℕ) (changes : List Change) → blank ≡ last → [] ≡ changes
    → AreSeen (λ k. IsTrue true × ((last_count ≤ k) ⊎ HasOffAt whole (next_count k))) 0 last kept_write.flash.operations (0 ∷ []) changes
stays_back last changes a b =
    subst (λ (cs : List Change). AreSeen (λ k. IsTrue true × ((last_count ≤ k) ⊎ HasOffAt whole (next_count k))) 0 last kept_write.flash.operations (0 ∷ []) cs) b
    (inr ([], [], record { off = ((refl, inr refl), refl); keep = 0; first = refl; part = (refl, sym a) }, (refl, refl)))

no_refusals : (id : ℕ) → RefusesAsAsked small kept_write.course whole id
no_refusals id = elim (cases_Bool (2 == id)) [
  | inl own ↦ rw own (0, (0, refl, (0, (tt, refl), (0, (tt, (tt, refl)), (0, (tt, refl), refl)))))
  | inr other ↦ rw other (0, (0, refl, (0, (tt, refl), (0, (tt, (tt, refl)), (0, (tt, refl), refl)))))
]

is_legal : IsLegal small cap whole
is_legal = (
  record { room = omega arith; grows = omega arith; lists = refl; lengths = refl; stands = tt },
  (
    record { started = refl; caller_small = omega arith; store = refl; room = refl; replies = refl },
    (
      (record { started = refl; on = refl; grows = omega arith }, record { free = tt; same_block = refl; same_kind = refl; takes = refl }),
      (
        record { started = refl; on = refl; grows = omega arith },
        (record { room = omega arith; grows = omega arith; lists = refl; lengths = refl; stands = (inl refl, (inl refl, (inl refl, tt))) }, tt),
      ),
    ),
  ),
)

-- the one operation in which the power went off has its Off
all_told : (k : ℕ) → k < last_count → WentOff kept_write.flash k → HasOffAt whole (next_count k)
all_told zero small off = refl
all_told (suc k) small (x, at, off) = absurd (cc at)

pub write_keeps : NoActiveComputes → TornErasesMakeNoBank → TornErasesKeepSound → TornErasesSetBits → BlankIsSound → BlankHasErased → Promise kept_write
write_keeps computes makes stays bits sound erased = record {
  order = ((refl, ((refl, tt, tt), (((refl, refl), (tt, tt), (tt, tt)), ((record { played = refl; ends = refl }, (tt, (tt, tt)), (tt, (tt, tt))), ((tt, (tt, tt), (tt, tt)), tt))))), ((λ no. no), ((λ no. cc no), ((λ no. no), ((λ no. omega (arith, no)), tt)))), refl);
  power_cut = λ told from k image few cut. cuts_keep computes makes stays bits sound k image cut;
  counts = λ told from. cuts_count computes makes bits sound erased;
  found = λ told from. start_ups_find erased;
  at_exit = λ told from started few. exit_keeps sound erased;
  block_machine = is_legal;
  faults = record { faults = 0; counted = inl (omega arith); pay = inl (omega arith, inl (omega arith, inl (omega arith, inl (omega arith, inl (omega arith, tt))))) };
  wear = λ told from. refl;
  refusals = no_refusals;
  off = (0, inl (_, [], refl, inl (omega arith), refl, (refl, refl)), inl (omega arith));
  power = all_told;
  operations = λ started. record {
    told_alike = tt;
    chain = λ t. chains t.first t.last (some_list [] t.first t.entry) (some_list blank t.last t.exit);
    seen = λ t. stays_back t.bytes.last t.changes (some_list blank t.bytes.last t.bytes.exit) (some_changes [] t.changes t.told);
    counted = inl refl;
    told = λ room. record { bytes = room.bytes; changes = []; told = refl };
  };
  begins = refl;
  counted = at_most 1 whole (tells 1 0 (omega arith), ((λ ops is. absurd (cc is)), (tells 1 0 (omega arith), (tells 1 1 (omega arith), (tells 1 1 (omega arith), tt)))));
}
