-- The state of the block machine: what the NVRAM Manager is, without its queues, its device and its flash.
use Rattle.std.specs.Prelude.{ℕ, Bool, List, ◌++◌, option_to_list, Option}
use Rattle.nv_base.specs.Cell.{Cell}
use Rattle.block_machine.specs.Words.{ReqResult, Request, Instance, Taken}

-- A block. Id 0 stands for the requests on all blocks, and of it only the status means something.
pub record BlockState : Type 0 where
  -- PENDING while a job is, else the result of the last one, or OK where none was posted since the start-up
  pub status : ReqResult
  -- the data index
  pub index : ℕ
  pub locked : Bool
  pub protected : Bool
  -- what the RAM block holds, where the manager keeps one; whether it is valid, and whether it is changed
  pub ram : List ℕ
  pub valid : Bool
  pub changed : Bool

-- A stored instance: the mark that it holds for certain, and beside it those that jobs took for it since that one was settled.
pub record InstanceState : Type 0 where
  pub instance : Instance
  pub cell : Cell

-- A job on one block, from the acceptance of its request, or as a member of a sweep from its Pick, to its Post.
pub record Job : Type 0 where
  -- the number of the entry that accepted its request; of a member, that of the request on all blocks
  pub number : ℕ
  -- what was asked for; for a member a read to RAM, or a write of RAM
  pub request : Request
  -- it is a member of a sweep
  pub member : Bool
  -- of a write: what it writes, with the number of its store. A write that names RAM has none before it took one.
  pub content : Option (List ℕ × ℕ)
  -- the entries that are still reserved for it
  pub reserved : ℕ
  -- what its last Pick took; none before the first
  pub taken : Option Taken
  -- the indices of the instances that were written since its last Pick
  pub written : List ℕ

-- A request on all blocks, from its acceptance to the Post of id 0.
pub record Sweep : Type 0 where
  -- the number of the entry that accepted it
  pub number : ℕ
  -- it is a WriteAll, else a ReadAll
  pub writes : Bool
  -- it was picked
  pub under_way : Bool
  -- a CancelWriteAll was accepted
  pub canceled : Bool
  -- the members that are still to come, in order
  pub left : List ℕ
  -- of a ReadAll: block 1 gave a content that is the configuration id
  pub same : Bool
  -- a member was posted with 1, 3, 5 or 7
  pub spoiled : Bool

pub record State : Type 0 where
  -- a start-up stands
  pub started : Bool
  -- the power went off since the last start-up
  pub off : Bool
  -- the number of entries so far
  pub count : ℕ
  -- the changing flash operations up to the last driver entry
  pub ops : ℕ
  -- by id, from 0 on
  pub blocks : List BlockState
  -- ascending by device number
  pub instances : List InstanceState
  -- the jobs on one block that wait, and the one in hand
  pub waiting : List Job
  pub hand : Option Job
  pub sweep : Option Sweep

-- all jobs on one block that are pending
abbrev pub jobs_of : State → List Job
jobs_of s = option_to_list s.hand ++ s.waiting
