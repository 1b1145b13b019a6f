-- The halves of a turn, behind requests of others.
use Rattle.std.proofs.Common.{◌≡◌, inl, inr, ℕ, ◌^◌, Bool, true, false, List, [], ◌∷◌, ◌++◌, length, Option, Some, refl, sym, ap, ◌∙◌, subst}
use Rattle.std.proofs.lemmas.List.{append-nil}
use Rattle.nvm_core.specs.memif.Told.{DeviceTold, Part, PartTold}
use Rattle.nvm_core.specs.memif.Clock.{Clock}
use Rattle.nvm_core.specs.block_machine.Words.{Entry, Ask, Configuration}
use Rattle.nvm_core.specs.block_machine.Steps.{step}
use Rattle.nvm_core.specs.nvm_laws.DueLaws.{AreReplied}
use Rattle.nvm_core.specs.block_machine.State.{State}
use Rattle.nvm_core.specs.block_machine.StartUp.{at_first}
use Rattle.nvm_core.specs.nv_desk.Desk.{DeskState, state_of}
use Rattle.nvm_core.specs.job_progress.Hand.{HandState}
use Rattle.nvm_core.specs.job_progress.JobInHand.{HandFits}
use Rattle.nvm_core.specs.nvm_laws.Ties.{IsTied}
use Rattle.nvm_core.specs.nvm_device_laws.Turn.{TellsSlots}
use Rattle.nvm_core.specs.nvm_laws.Keeps.{StackKeepsAsTold}
use Rattle.atomic_table.proofs.Lists.{at_last, at_longer}
use Rattle.turn_gate.specs.Entries.{Note, StartsWith, AllAgree, OpenFrom}
use Rattle.turn_gate.specs.Pass.{IsKin, grown, went_out}
use Rattle.nvm_shared.specs.StatusWords.{gives, is_ask}
use Rattle.nvm_shared.specs.Written.{AreWritten}
use Rattle.nvm_shared.specs.Behind.{AreAsks, HandIsPending, StandsBehind, with_more}
use Rattle.nvm_shared.specs.declared.terms.Terms.{Terms}
use Rattle.nvm_shared.specs.Locked.{LockedState, desk_with, terms_of}
use Rattle.nvm_shared.specs.Passes.{IsExtended, IsInformed, LearnsHalf, IsEntry}
use Rattle.nvm_shared.proofs.Asking.{V, starts_on}
use Rattle.nvm_shared.proofs.Writing.{Writes}
use Rattle.nvm_shared.proofs.WritingLegal.{rests_are_written}
use Rattle.nvm_shared.proofs.Opened.{open_are_asks}
use Rattle.nvm_shared.proofs.Standing.{asks_stand_behind}

-- what the marked pass v finds under the lock, and knows as u
pub record Enters (t : Terms) (v u : V) (x : LockedState) : Type 0 where
  pub own : v.root ≡ Some t
  pub root : v.root ≡ Some (terms_of x)
  pub seen : u.seen ≡ x.desk.entries
  pub starts : StartsWith x.desk.entries v.seen
  pub agree : AllAgree gives x.desk.entries v.notes
  pub mark : v.mark ≡ true
  pub open_now : v.mark ≡ true → OpenFrom is_ask x.desk.entries (length v.seen)
  pub kin : IsKin v u
  pub alone : v.parts ≡ 2 ^ 64 → x.desk.entries ≡ v.seen
  pub written : AreWritten x.tells x.desk.config x.desk.cap at_first x.desk.entries

-- requests stand behind what it knew
pub record Behind (t : Terms) (seen : List Entry) (x : LockedState) (hand : Option HandState) (d : DeviceTold) (clock : Clock) : Type 0 where
  pub asks : List Entry
  pub are : AreAsks asks
  pub terms : terms_of x ≡ t
  pub desk : x.desk ≡ with_more (desk_with t seen) asks
  pub replied : AreReplied (desk_with t seen).config (desk_with t seen).cap (state_of (desk_with t seen)) asks
  pub stands : StandsBehind (desk_with t seen) x.desk hand d clock

-- requests that were written have the machine's replies
pub replied_by : (tells : Bool) (c : Configuration) (cap : ℕ) (s : State) (es : List Entry) → AreAsks es → AreWritten tells c cap s es → AreReplied c cap s es
replied_by tells c cap s [] are written = tt
replied_by tells c cap s (Ask caller r reply ∷ es) are written = (written.0.replies, replied_by tells c cap (step c s (Ask caller r reply)) es are.1 written.1)
replied_by tells c cap s (e ∷ es) are written = let off : false ≡ true = are.0 in cc

pub same_terms : (o : Option Terms) (s t : Terms) → o ≡ Some s → o ≡ Some t → s ≡ t
same_terms o s t one other = cc

pub behind : (t : Terms) (v u : V) (x : LockedState) (hand : Option HandState) (d : DeviceTold) (clock : Clock) → Enters t v u x → HandIsPending (state_of (desk_with t v.seen)) → IsTied (desk_with t v.seen) hand d → Behind t v.seen x hand d clock
behind t v u x hand d clock enters pending tied =
    let terms : terms_of x ≡ t = same_terms v.root (terms_of x) t enters.root enters.own in
    let (asks, is) = enters.starts in
    let desk : x.desk ≡ with_more (desk_with t v.seen) asks = ap (λ (s : Terms). desk_with s x.desk.entries) terms ∙ ap (desk_with t) is in
    let are = open_are_asks v.seen asks (subst (λ (l : List Entry). OpenFrom is_ask l (length v.seen)) is (enters.open_now enters.mark)) in
    let written : AreWritten t.tells t.config t.cap at_first (v.seen ++ asks) =
    subst (λ (s : Terms). AreWritten s.tells s.config s.cap at_first (v.seen ++ asks)) terms (subst (λ (l : List Entry). AreWritten x.tells x.desk.config x.desk.cap at_first l) is enters.written) in record {
      asks = asks;
      are = are;
      terms = terms;
      desk = desk;
      replied = replied_by t.tells t.config t.cap (state_of (desk_with t v.seen)) asks are (rests_are_written t.tells t.config t.cap at_first v.seen asks written);
      stands = subst (λ (y : DeskState). StandsBehind (desk_with t v.seen) y hand d clock) (sym desk)
          (asks_stand_behind d clock t.tells (desk_with t v.seen) hand asks are (rests_are_written t.tells t.config t.cap at_first v.seen asks written) pending tied);
    }

-- the job in hand still fits what the device holds
pub fits_behind : (t : Terms) (seen : List Entry) (x : LockedState) (hand : Option HandState) (d : DeviceTold) (clock : Clock) → Behind t seen x hand d clock
    → (t.tells ≡ true → (before : Part → PartTold) × StackKeepsAsTold before (desk_with t seen) hand d clock) → (t.tells ≡ true → TellsSlots d) → x.tells ≡ true → HandFits x.desk.config (state_of x.desk) hand d
fits_behind t seen x hand d clock behind kept telling told =
    let tells : t.tells ≡ true = ap (λ (s : Terms). s.tells) (sym behind.terms) ∙ told in
    let (before, keeps) = kept tells in ((behind.stands.kept.kept before keeps).all (telling tells)).fits

-- WHAT THE PASS LEARNS
-- w is the pass u outside, with an entry more or none
pub record Leaves (u w : V) (log : List Entry) : Type 0 where
  pub same : log ≡ u.seen → w ≡ went_out u
  pub more : (e : Entry) → log ≡ u.seen ++ e ∷ [] → w ≡ went_out (grown u log)

pub record Left (v w : V) (log : List Entry) : Type 0 where
  pub seen : w.seen ≡ log
  pub root : w.root ≡ v.root
  pub learns : LearnsHalf v w

agree_on : (log : List Entry) (e : Entry) (notes : List Note) → AllAgree gives log notes → AllAgree gives (log ++ e ∷ []) notes
agree_on log e notes agree i n at = let (x, here, is) = agree i n at in (x, at_longer log (e ∷ []) n.1 x here, is)

-- a pass that is told nothing
pub same_informed : (u : V) → IsInformed u u
same_informed u = record { root = refl; seen = refl; own = refl; notes = ([], sym (append-nil u.notes)); heard = ([], sym (append-nil u.heard)); mark = refl; parts = refl }

-- the pass u was told what n knows
pub extended : (t : Terms) (v u n : V) (x y : LockedState) (tells : Bool) → Enters t v u x → IsInformed u n → Writes tells x.desk y.desk → IsExtended n y.desk.entries
extended t v u n x y tells enters told (inl same) = inl (ap (λ (d : DeskState). d.entries) same ∙ sym (told.seen ∙ enters.seen))
extended t v u n x y tells enters told (inr (e, adds, written, driven)) = inr (
  e,
  ap (λ (d : DeskState). d.entries) adds ∙ ap (λ (l : List Entry). l ++ e ∷ []) (sym (told.seen ∙ enters.seen)),
  (λ off. let on : n.mark ≡ true = told.mark ∙ enters.kin.3 ∙ enters.mark in cc),
  driven.1,
)

-- what began with a list begins with the same
begins_on : {A : Type 0} (v u n w : List A) → u ≡ v → StartsWith n u → w ≡ n → StartsWith w v
begins_on {A} v u n w first (rest, is) last = (rest, last ∙ is ∙ ap (λ (l : List A). l ++ rest) first)

module _ (t : Terms) (v u n w : V) (x y : LockedState) (tells : Bool) (enters : Enters t v u x) (told : IsInformed u n) (leaves : Leaves n w y.desk.entries) where
  learned_notes : w.notes ≡ n.notes → StartsWith w.notes v.notes
  learned_notes is = begins_on v.notes u.notes n.notes w.notes enters.kin.2 told.notes is

  learned_heard : w.heard ≡ n.heard → StartsWith w.heard v.heard
  learned_heard is = begins_on v.heard u.heard n.heard w.heard enters.kin.5 told.heard is

  pub left : Writes tells x.desk y.desk → Left v w y.desk.entries
  left (inl same) =
      let seen : n.seen ≡ x.desk.entries = told.seen ∙ enters.seen in
      let entries : y.desk.entries ≡ n.seen = ap (λ (d : DeskState). d.entries) same ∙ sym seen in
      let is = leaves.same entries in
      let log : x.desk.entries ≡ w.seen = sym seen ∙ ap (λ (z : V). z.seen) (sym is) in record {
        seen = ap (λ (z : V). z.seen) is ∙ sym entries;
        root = ap (λ (z : V). z.root) is ∙ told.root ∙ enters.kin.0;
        learns = record {
          starts = subst (λ (l : List Entry). StartsWith l v.seen) log enters.starts;
          agree = subst (λ (l : List Entry). AllAgree gives l v.notes) log enters.agree;
          own = inl (ap (λ (z : V). z.own) is ∙ told.own ∙ enters.kin.1);
          alone = λ all. inl (sym log ∙ enters.alone all);
          notes = learned_notes (ap (λ (z : V). z.notes) is);
          heard = learned_heard (ap (λ (z : V). z.heard) is);
          mark = ap (λ (z : V). z.mark) is ∙ told.mark ∙ enters.kin.3;
          parts = ap (λ (z : V). z.parts) is ∙ told.parts ∙ enters.kin.4;
        };
      }
  left (inr (e, adds, written, driven)) =
      let grew : y.desk.entries ≡ x.desk.entries ++ e ∷ [] = ap (λ (d : DeskState). d.entries) adds in
      let seen : n.seen ≡ x.desk.entries = told.seen ∙ enters.seen in
      let is = leaves.more e (grew ∙ ap (λ (l : List Entry). l ++ e ∷ []) (sym seen)) in
      let log : x.desk.entries ++ e ∷ [] ≡ w.seen = sym grew ∙ ap (λ (z : V). z.seen) (sym is) in record {
        seen = ap (λ (z : V). z.seen) is;
        root = ap (λ (z : V). z.root) is ∙ told.root ∙ enters.kin.0;
        learns = record {
          starts = subst (λ (l : List Entry). StartsWith l v.seen) log (starts_on x.desk.entries v.seen e enters.starts);
          agree = subst (λ (l : List Entry). AllAgree gives l v.notes) log (agree_on x.desk.entries e v.notes enters.agree);
          own = inr (
            length n.seen,
            ap (λ (z : V). z.own) is ∙ ap (λ (l : List ℕ). l ++ length n.seen ∷ []) (told.own ∙ enters.kin.1),
            (e, subst (λ (l : List Entry). IsEntry l (length n.seen) e) log (at_last x.desk.entries e (length n.seen) (ap length (sym seen))), driven.0, driven.1),
          );
          alone = λ all. inr (e, sym log ∙ ap (λ (l : List Entry). l ++ e ∷ []) (enters.alone all), driven.0);
          notes = learned_notes (ap (λ (z : V). z.notes) is);
          heard = learned_heard (ap (λ (z : V). z.heard) is);
          mark = ap (λ (z : V). z.mark) is ∙ told.mark ∙ enters.kin.3;
          parts = ap (λ (z : V). z.parts) is ∙ told.parts ∙ enters.kin.4;
        };
      }

-- the desk behind it
pub desk_behind : (t : Terms) (x y : LockedState) (seen : List Entry) → terms_of x ≡ t → terms_of y ≡ terms_of x → seen ≡ y.desk.entries → y.desk ≡ desk_with t seen
desk_behind t x y seen terms same entries = ap (λ (s : Terms). desk_with s y.desk.entries) (same ∙ terms) ∙ ap (desk_with t) (sym entries)
