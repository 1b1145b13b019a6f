use Rattle.script_walks.proofs.Looks.{no_stale, no_other_entry, no_other_store, no_content_look, no_way_back}
use Rattle.script_walks.proofs.run_cases.copies_are_shown.Goals as goal

pub returns-clause-stale : goal.returns-clause-stale
returns-clause-stale c = no_stale

pub returns-clause-in_another_entry : goal.returns-clause-in_another_entry
returns-clause-in_another_entry c = no_other_entry

pub returns-clause-shown_another : goal.returns-clause-shown_another
returns-clause-shown_another c = no_other_store

pub returns-clause-content_without_a_look : goal.returns-clause-content_without_a_look
returns-clause-content_without_a_look c = no_content_look

pub returns-clause-goes_back : goal.returns-clause-goes_back
returns-clause-goes_back c = no_way_back
