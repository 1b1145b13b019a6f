-- The halves of the promise of a run of callers.
use Rattle.std.specs.Prelude.{IsTrue, ◌==◌, ◌&&◌, not, if◌then◌else◌, map}
use Rattle.std.specs.List.{list_all}
use Rattle.std.specs.Option.{option_map_or}
use Rattle.std.proofs.Common.{◌≡◌, ◌+◌, ◌⊎◌, ℕ, zero, suc, Bool, true, false, List, [], ◌∷◌, Option, Some, None, refl, sym, subst, inl, inr, arith}
use Rattle.std.proofs.lemmas.Bool.{cases_Bool}
use Rattle.std.proofs.lemmas.Bool.Decides.{leb_tells}
use Rattle.memif.specs.Told.{First}
use Rattle.memif.specs.Clock.{Clock}
use Rattle.block_machine.specs.Words.{ReqResult, JobKind, Taken, TookNothing, TookContent, TookRefused, TookStale, Entry, Ask, Pick, Wrote, Post, Off, Found, Configuration}
use Rattle.block_machine.specs.State.{State}
use Rattle.block_machine.specs.Blocks.{desc_of, is_synchronized, names_ram}
use Rattle.block_machine.specs.Next.{next_of}
use Rattle.block_machine.specs.StartUp.{at_first}
use Rattle.block_machine.specs.Steps.{step}
use Rattle.block_machine.specs.nv_base.Entry.{ops_behind}
use Rattle.script_walks.specs.Words.{Step}
use Rattle.script_walks.specs.Looks.{Look}
use Rattle.promise_blocks.specs.OverDevice.{HasStarted}
use Rattle.promise_device.specs.FlashRun.{AreOperations, AreSeen}
use Rattle.fls_model.specs.Told.{Change}
use Rattle.promise_run.specs.Run.{Run, Course, Ran, RunsBy, Follows, HasOrder, Added, events_in, CutsAre, has_cutter}
use Rattle.promise_run.specs.Refusals.{copied_out, copied_in, has_content, copy_told, IsAsAsked, left_by, AreAsAsked, RefusesAsAsked}
use Rattle.promise_device.specs.Bridge.{Bridges, reading_of, cuts_of}
use Rattle.promise_run.specs.Promise.{making_of}
use Rattle.promise_run.specs.Halves.{beyond_end}
use Rattle.promise_run.specs.RunHalves.{tells_no_refusal, offs_in, CallersMakeHalf, UncutBridges, CallersKeepPromise}
use Rattle.promise_run.proofs.Composition.{halves_make_the_promise}

-- NO COPY IS REFUSED

-- nothing is told of a copy, or one was made
abbrev IsMade : Option ℕ → Type 0
IsMade copy = (copy ≡ None) ⊎ (copy ≡ Some 0)

where_own : (own : Bool) (copy : Option ℕ) → IsMade copy → IsMade (if own then copy else None)
where_own true copy made = made
where_own false copy made = inl refl

made_out : (copies : Bool) (block : ℕ) (kind : JobKind) (t : Taken) (ops : ℕ) → tells_no_refusal (Pick block kind t ops) ≡ true → IsMade (copied_out copies t)
made_out copies block kind (TookRefused count) ops none = absurd (cc none)
made_out copies block kind (TookStale wanted got count) ops none = inr refl
made_out true block kind (TookContent bytes number) ops none = inr refl
made_out false block kind (TookContent bytes number) ops none = inl refl
made_out true block kind TookNothing ops none = inl refl
made_out false block kind TookNothing ops none = inl refl

made_in : (ram : Bool) (block : ℕ) (r : ReqResult) (given : Option (List ℕ)) (refused ops : ℕ) → tells_no_refusal (Post block r given refused ops) ≡ true → IsMade (copied_in ram given refused)
made_in ram block r given (suc refused) ops none = absurd (cc none)
made_in true block r (Some content) zero ops none = inr refl
made_in true block r None zero ops none = inl refl
made_in false block r (Some content) zero ops none = inl refl
made_in false block r None zero ops none = inl refl

is_made : (c : Configuration) (id : ℕ) (s : State) (e : Entry) → tells_no_refusal e ≡ true → IsMade (copy_told c id s e)
is_made c id s (Pick block kind t ops) none =
    where_own (block == id) (copied_out (is_synchronized (desc_of c block).ram && not (has_content (next_of c s))) t) (made_out (is_synchronized (desc_of c block).ram && not (has_content (next_of c s))) block kind t ops none)
is_made c id s (Post block r given refused ops) none =
    where_own (block == id) (copied_in (option_map_or (λ j. names_ram j.request) s.hand true && is_synchronized (desc_of c block).ram) given refused) (made_in (option_map_or (λ j. names_ram j.request) s.hand true && is_synchronized (desc_of c block).ram) block r given refused ops none)
is_made c id s (Ask caller r reply) none = inl refl
is_made c id s (Wrote i mark ops) none = inl refl
is_made c id s (Off ops) none = inl refl
is_made c id s (Found marks ops) none = inl refl

none_left : (n : ℕ) (copy : Option ℕ) → IsMade copy → IsAsAsked (n + 1) 0 copy × (left_by (n + 1) 0 copy ≡ 0)
none_left n None made = (tt, refl)
none_left n (Some zero) made =
    (elim (leb_tells (n + 1) 0) [ inl all ↦ absurd (let few = all.1 in omega (arith, few)) | inr few ↦ rw few.0 refl ], omega arith)
none_left n (Some (suc m)) (inl made) = absurd (cc made)
none_left n (Some (suc m)) (inr made) = absurd (cc made)

pub as_asked : (c : Configuration) (id : ℕ) (s : State) (es : List Entry) → list_all tells_no_refusal es ≡ true → AreAsAsked c id s 0 es 0
as_asked c id s [] none = refl
as_asked c id s (e ∷ es) none = elim (cases_Bool (tells_no_refusal e)) [
  | inl one ↦
      let first = none_left (desc_of c id).repeats (copy_told c id s e) (is_made c id s e one) in
      (first.0, subst (λ (left : ℕ). AreAsAsked c id (step c s e) left es 0) (sym first.1) (as_asked c id (step c s e) es (rw one at none)))
  | inr other ↦ let no_ : false ≡ true = rw other at none in absurd (cc no_)
]

-- NO CUT WAS PLANNED

pub unplanned : (ops : ℕ) (es : List Entry) → CutsAre None ops (map Added es) [] (offs_in es)
unplanned ops [] = (refl, refl)
unplanned ops (Off now ∷ es) = inr (offs_in es, refl, unplanned now es)
unplanned ops (Ask caller r reply ∷ es) = unplanned (ops_behind ops (Ask caller r reply ∷ [])) es
unplanned ops (Pick block kind t now ∷ es) = unplanned (ops_behind ops (Pick block kind t now ∷ [])) es
unplanned ops (Wrote i mark now ∷ es) = unplanned (ops_behind ops (Wrote i mark now ∷ [])) es
unplanned ops (Post block r given refused now ∷ es) = unplanned (ops_behind ops (Post block r given refused now ∷ [])) es
unplanned ops (Found marks now ∷ es) = unplanned (ops_behind ops (Found marks now ∷ [])) es

-- THE ORDER

in_order : (r : Run) (steps : List Step) (looks : List Look) (h : List Entry) → r.course ≡ Ran steps looks → HasStarted h → RunsBy r.configuration r.most steps looks r.end h → HasOrder r h
in_order r steps looks [] is started runs = absurd started
in_order r steps looks (e ∷ es) is started runs = subst (λ (x : Course). Follows r x (e ∷ es)) (sym is) runs

pub callers_make_half : (clock : Clock) → CallersMakeHalf clock
callers_make_half clock r steps looks before now keeps = record {
  alone = keeps.alone;
  order = in_order r steps looks r.history keeps.course keeps.started keeps.order;
  over = keeps.over;
  refusals = λ id. subst (λ (x : Course). RefusesAsAsked r.configuration x r.history id) (sym keeps.course) (as_asked r.configuration id at_first r.history keeps.no_refusal);
  off = (
    offs_in r.history,
    subst (λ (x : Course). CutsAre None 0 (events_in x r.history) r.cuts (offs_in r.history)) (sym keeps.course)
        (subst (λ (cuts : List ℕ). CutsAre None 0 (map Added r.history) cuts (offs_in r.history)) (sym keeps.uncut) (unplanned 0 r.history)),
    keeps.offs,
  );
  came = subst (λ (x : Course). cuts_of (has_cutter x) now ≡ r.cuts) (sym keeps.course) (sym keeps.uncut);
  one = keeps.one;
}

-- WITHOUT A CUTTER

all_seen : (P Q : ℕ → Type 0) (k : ℕ) (last : List ℕ) (xs seen : List Change) → AreSeen P k last xs [] seen → AreSeen Q k last xs [] seen
all_seen P Q k last [] seen is = is
all_seen P Q k last (x ∷ xs) seen (inl (rest, first, more)) = inl (rest, first, all_seen P Q (k + 1) last xs rest more)
all_seen P Q k last (x ∷ xs) seen (inr (cuts, rest, cut, more)) = absurd (cc cut.first)

pub uncut_bridges : (clock : Clock) → UncutBridges clock
uncut_bridges clock r f before now none b = record {
  after = b.after;
  cut = b.cut;
  tells = b.tells;
  slots = b.slots;
  sound = b.sound;
  sound_cut = b.sound_cut;
  operations =
      let all : AreOperations r.geometry f (λ k. IsTrue true × clock.off_in k) [] = subst (λ (cuts : List ℕ). AreOperations r.geometry f (λ k. IsTrue true × clock.off_in k) cuts) none b.operations in
      record {
        told_alike = all.told_alike;
        chain = all.chain;
        seen = λ t. all_seen (λ k. IsTrue true × clock.off_in k) (λ k. IsTrue false × clock.off_in k) 0 t.bytes.last f.operations t.changes (all.seen t);
        counted = all.counted;
        told = all.told;
      };
  ops = b.ops;
  faults = b.faults;
  failed = b.failed;
  went_off = b.went_off;
  cuts = b.cuts;
  off = b.off;
  withheld = b.withheld;
  worn = b.worn;
  was = b.was;
  spare = b.spare;
}

-- BOTH
pub callers_keep_promise : (clock : Clock) → CallersKeepPromise clock
callers_keep_promise clock r steps looks before now keeps none bridges wear =
    halves_make_the_promise clock r before now (callers_make_half clock r steps looks before now keeps)
    (subst (λ (x : Course). Bridges (reading_of (making_of r.configuration)) (has_cutter x) r.flash (before First) now (beyond_end clock)) (sym keeps.course)
    (uncut_bridges (beyond_end clock) (reading_of (making_of r.configuration)) r.flash (before First) now none bridges)) wear
