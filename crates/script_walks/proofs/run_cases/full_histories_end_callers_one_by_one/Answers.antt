use Rattle.script_walks.proofs.FullRuns.{full, not_all_stop, no_job_in_hand, room_for_all}
use Rattle.script_walks.proofs.run_cases.full_histories_end_callers_one_by_one.Goals as goal

pub returns-clause-full : goal.returns-clause-full
returns-clause-full c = full

pub returns-clause-all_stop : goal.returns-clause-all_stop
returns-clause-all_stop c = not_all_stop

pub returns-clause-job_in_hand : goal.returns-clause-job_in_hand
returns-clause-job_in_hand c = no_job_in_hand

pub returns-clause-has_room : goal.returns-clause-has_room
returns-clause-has_room c = room_for_all
