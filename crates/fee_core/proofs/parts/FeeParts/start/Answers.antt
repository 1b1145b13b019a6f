use Rattle.std.proofs.Common.{◌≡◌, ◌+◌, List, [], ◌∷◌, ◌++◌, length, ap, ◌∙◌}
use Rattle.std.proofs.lemmas.List.{length-append}
use Rattle.fee_core.proofs.Started.{IsLoaded, ready_ends, failed_ends}
use Rattle.fee_core.proofs.parts.FeeParts.start.Goals as goal

one_more : (old new : List (Unit {0})) → new ≡ old ++ tt ∷ [] → length new ≡ length old + 1
one_more old new is = ap length is ∙ length-append old (tt ∷ [])

pub returns-in-Ready-clause-sound : goal.returns-in-Ready-clause-sound
returns-in-Ready-clause-sound g c =
    let e = c.start-answer.ensures in
    let is = c.in-Ready.is in
    let loaded : IsLoaded c.self.inside.banks c.start-answer.new.self = record { format = e.format; blank = e.blank is; clear = e.clear is; idle = e.idle is } in
    (ready_ends c.self.view_is c.requires c.power_on.ensures e.same e.closed c.active-active.ensures.state e.flash_of loaded (rw is at e.flash) (e.ready is) (e.loaded is) (one_more _ _ c.with-self-inside.ensures)).0

pub returns-in-Ready-clause-start : goal.returns-in-Ready-clause-start
returns-in-Ready-clause-start g c =
    let e = c.start-answer.ensures in
    let is = c.in-Ready.is in
    let loaded : IsLoaded c.self.inside.banks c.start-answer.new.self = record { format = e.format; blank = e.blank is; clear = e.clear is; idle = e.idle is } in
    (ready_ends c.self.view_is c.requires c.power_on.ensures e.same e.closed c.active-active.ensures.state e.flash_of loaded (rw is at e.flash) (e.ready is) (e.loaded is) (one_more _ _ c.with-self-inside.ensures)).1

pub returns-in-Failed-clause-sound : goal.returns-in-Failed-clause-sound
returns-in-Failed-clause-sound g c =
    let e = c.start-answer.ensures in
    let flash = rw c.in-Failed.is at e.flash in
    (failed_ends c.self.view_is c.requires c.power_on.ensures e.same e.closed c.active-active.ensures.state e.flash_of flash.1 flash.0 c.saturating_add-self-inside.ensures (one_more _ _ c.with-self-inside.ensures)).0

pub returns-in-Failed-clause-start : goal.returns-in-Failed-clause-start
returns-in-Failed-clause-start g c =
    let e = c.start-answer.ensures in
    let flash = rw c.in-Failed.is at e.flash in
    (failed_ends c.self.view_is c.requires c.power_on.ensures e.same e.closed c.active-active.ensures.state e.flash_of flash.1 flash.0 c.saturating_add-self-inside.ensures (one_more _ _ c.with-self-inside.ensures)).1
