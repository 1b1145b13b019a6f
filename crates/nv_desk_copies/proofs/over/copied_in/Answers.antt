use Rattle.nv_desk_copies.proofs.over.copied_in.Goals as goal

pub returns-then-copy_in-clause-stays : goal.returns-then-copy_in-clause-stays
returns-then-copy_in-clause-stays g c =
    let is = c.copy_in.ensures in
    record { sizes = is.sizes; refuses = is.refuses; stores_stay = is.stores_stay; stays_over = is.stays_over }

pub returns-clause-stays : goal.returns-clause-stays
returns-clause-stays g c =
    let is = c.copy_in.ensures in
    record { sizes = is.sizes; refuses = is.refuses; stores_stay = is.stores_stay; stays_over = is.stays_over }
