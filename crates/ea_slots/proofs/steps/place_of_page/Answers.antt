use Rattle.ea_slots.proofs.Places.{page_aligned}
use Rattle.ea_slots.proofs.steps.place_of_page.Goals as goal

pub returns-clause-aligned : goal.returns-clause-aligned
returns-clause-aligned c = page_aligned c.args.geometry c.args.sector c.args.page c.requires.legal
