use Rattle.std.proofs.Common.{◌≡◌, true, ap, subst}
use Rattle.nvm_core.specs.block_machine.Legal.{IsLegal}
use Rattle.nvm_core.specs.nvm_laws.declared.turned.FoundAnswer.TheVariants as found
use Rattle.nvm_core.specs.Stack.{StackState, first_stack}
use Rattle.nvm_core.specs.StartUps.{StartsKeep, StartsUp}
use Rattle.nvm_shared.specs.declared.opening.ShareFault.TheVariants as why
use Rattle.nvm_shared.specs.Opening.{IsMade, IsShared, WhyNot}
use Rattle.nvm_shared.proofs.Making.{if_err, if_ok, legal, made, one, started}
use Rattle.nvm_shared.proofs.opening.make.Goals as goal

pub share-requires : goal.share-requires
share-requires g c =
    let told = g.D.MemDevice.told in
    let clock = g.D.MemDevice.clock in
    let new = c.start.new.self in
    let first : StackState g.row.D.Denot g.row.C.Denot = first_stack c.args.config c.args.cap c.args.device c.args.copies in
    let up : StartsUp told first new = subst (λ (s : StackState g.row.D.Denot g.row.C.Denot). StartsUp told s new) c.in-Ok.ensures.made c.in-Ready.ensures.starts in
    let ready : new.ready ≡ true = ap (λ (s : StackState g.row.D.Denot g.row.C.Denot). s.ready) up.only in
    let legal_now : g.tells ≡ true → IsLegal new.desk.config new.desk.cap new.desk.entries = λ tells.
    legal told clock g.C.SyncCalls.told c.args.config c.args.cap c.args.device c.args.copies new up
    (subst (λ (s : StackState g.row.D.Denot g.row.C.Denot). StartsKeep found.Ready s.desk (told s.device) (clock s.device) new.desk (told new.device) (clock new.device)) c.in-Ok.ensures.made c.in-Ready.ensures.keeps)
    (c.requires.1.1.1.1 tells) in
    λ κs within. (within.0, (within.1, (ready, (one told clock g.C.SyncCalls.told c.args.config c.args.cap c.args.device c.args.copies new up, legal_now))))

pub returns-in-Ready-clause-made : goal.returns-in-Ready-clause-made
returns-in-Ready-clause-made g c =
    let told = g.D.MemDevice.told in
    let clock = g.D.MemDevice.clock in
    let copies = g.C.SyncCalls.told in
    let new = c.start.new.self in
    let first : StackState g.row.D.Denot g.row.C.Denot = first_stack c.args.config c.args.cap c.args.device c.args.copies in
    let up : StartsUp told first new = subst (λ (s : StackState g.row.D.Denot g.row.C.Denot). StartsUp told s new) c.in-Ok.ensures.made c.in-Ready.ensures.starts in
    let keeps : StartsKeep found.Ready first.desk (told first.device) (clock first.device) new.desk (told new.device) (clock new.device) =
    subst (λ (s : StackState g.row.D.Denot g.row.C.Denot). StartsKeep found.Ready s.desk (told s.device) (clock s.device) new.desk (told new.device) (clock new.device)) c.in-Ok.ensures.made c.in-Ready.ensures.keeps in
    if_ok (λ r. IsShared told copies new g.tells r.0 r.1 r.2) (λ r. IsMade told clock copies first g.tells r.0 r.1 r.2)
    (λ r is. made told clock copies c.args.config c.args.cap c.args.device c.args.copies new up keeps g.tells c.requires.1.1.1.1 r.0 r.1 r.2 is) c.share.result c.share.ensures.shared

pub returns-in-Ready-clause-why : goal.returns-in-Ready-clause-why
returns-in-Ready-clause-why g c =
    let told = g.D.MemDevice.told in
    let new = c.start.new.self in
    let first : StackState g.row.D.Denot g.row.C.Denot = first_stack c.args.config c.args.cap c.args.device c.args.copies in
    let up : StartsUp told first new = subst (λ (s : StackState g.row.D.Denot g.row.C.Denot). StartsUp told s new) c.in-Ok.ensures.made c.in-Ready.ensures.starts in
    if_err (λ f. (f.fault ≡ why.Memory) × (f.device ≡ new.device)) (λ f. WhyNot (told c.args.device) c.args.cap f.fault (told f.device))
    (λ f is. started told c.args.device new.device f.device up.marks c.args.cap f.fault up.finds is) c.share.result c.share.ensures.fault
