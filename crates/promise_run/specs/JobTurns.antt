-- How many turns a job takes at most, where nothing fails: a number of the configuration and the job.
use Rattle.std.specs.Prelude.{ℕ, ◌+◌, ◌-◌, ◌*◌, ◌==◌, not, Bool, if◌then◌else◌, sum_by}
use Rattle.std.specs.Option.{option_map_or}
use Rattle.block_machine.specs.nv_base.Geometry.{sectors_of_bank}
use Rattle.block_machine.specs.nv_base.Marks.{number_of}
use Rattle.block_machine.specs.nv_base.Pages.{record_pages_of, body_pages_of}
use Rattle.block_machine.specs.block_config.Lengths.{lengths_of}
use Rattle.block_machine.specs.block_config.Sizes.{measures_of}
use Rattle.block_machine.specs.Words.{JobKind, ReadJob, WriteJob, EraseJob, InvalidateJob, Configuration, Instance}
use Rattle.block_machine.specs.State.{State, Job}
use Rattle.block_machine.specs.Blocks.{desc_of, indices_of, job_block, kind_of}
use Rattle.block_machine.specs.Prices.{device_tries}
use Rattle.memif.specs.Told.{length_of}

-- A switch of banks erases each sector of a bank, reads each instance and programs its record by pages, makes way for one more
-- record, and programs a head and a gate.
abbrev pub switch_at_most : Configuration → ℕ
switch_at_most c =
    let m = measures_of c.geometry.page c.blocks in
    sectors_of_bank c.geometry c.banks + m.instances + m.all + m.greatest + 2

-- a record of so many bytes: its pages, the gate that is owed before it, and a switch
abbrev pub record_at_most : Configuration → ℕ → ℕ
record_at_most c length = record_pages_of length c.geometry.page + 1 + switch_at_most c

-- One try of a job of this kind on an instance of so many bytes: a read takes one turn, an erase and an invalidation program a
-- record without bytes, and a restore does nothing at the device.
abbrev pub try_at_most : Configuration → JobKind → ℕ → ℕ
try_at_most c ReadJob length = 1
try_at_most c WriteJob length = record_at_most c length
try_at_most c EraseJob length = record_at_most c 0
try_at_most c InvalidateJob length = record_at_most c 0
try_at_most c kind length = 0

-- on this instance, if it is configured
abbrev pub try_on : Configuration → JobKind → Instance → ℕ
try_on c kind i = option_map_or (try_at_most c kind) (length_of (lengths_of c) (number_of i)) 0

-- a job in hand: a switch that goes on, each try on each of its instances, and its Post
abbrev pub job_turns : Configuration → State → Job → ℕ
job_turns c s j =
    switch_at_most c
    + device_tries (desc_of c (job_block j)) (kind_of j) * sum_by (λ index. try_on c (kind_of j) (record { block = job_block j; index = index })) (indices_of c s (job_block j))
    + 1

-- URGENT WRITES

-- the pages of the record of an instance, if it is configured
abbrev pub pages_on : Configuration → Instance → ℕ
pages_on c i = option_map_or (λ length. record_pages_of length c.geometry.page) (length_of (lengths_of c) (number_of i)) 0

-- those of all records of a write of a block, at its data index
abbrev pub write_pages : Configuration → State → ℕ → ℕ
write_pages c s block = sum_by (λ index. pages_on c (record { block = block; index = index })) (indices_of c s block)

-- OVER TWO DEVICES

-- a block is stored by the second device
abbrev pub is_second : Configuration → ℕ → Bool
is_second c block = not ((desc_of c block).device == 0)

-- a switch copies the instances of the first device
abbrev pub switch_of_first : Configuration → ℕ
switch_of_first c =
    let m = measures_of c.geometry.page c.blocks in
    sectors_of_bank c.geometry c.banks + (m.instances - m.second) + m.all + m.greatest + 2

-- a content in a slot: it erases the slot's two sectors and programs the pages of its body, its head and its gate
abbrev pub slot_pages : Configuration → (length : ℕ) → ℕ
slot_pages c length = option_map_or (λ g. body_pages_of length g.page) c.eeprom 0 + 4

-- a try of a job of this kind on an instance of so many bytes: of the second device each but a read takes as many turns
abbrev pub slot_at_most : Configuration → JobKind → ℕ → ℕ
slot_at_most c ReadJob length = 1
slot_at_most c WriteJob length = slot_pages c length
slot_at_most c EraseJob length = slot_pages c length
slot_at_most c InvalidateJob length = slot_pages c length
slot_at_most c kind length = 0

-- and of the first one as over it alone, but for the switch
abbrev pub try_of_first : Configuration → JobKind → ℕ → ℕ
try_of_first c ReadJob length = 1
try_of_first c WriteJob length = record_pages_of length c.geometry.page + 1 + switch_of_first c
try_of_first c EraseJob length = record_pages_of 0 c.geometry.page + 1 + switch_of_first c
try_of_first c InvalidateJob length = record_pages_of 0 c.geometry.page + 1 + switch_of_first c
try_of_first c kind length = 0

-- on this instance, by the device of its block
abbrev pub try_of_both : Configuration → JobKind → Instance → ℕ
try_of_both c kind i =
    option_map_or (λ length. if is_second c i.block then slot_at_most c kind length else try_of_first c kind length) (length_of (lengths_of c) (number_of i)) 0

-- the pages of its record, or those that a write of it takes in a slot
abbrev pub pages_of_both : Configuration → Instance → ℕ
pages_of_both c i =
    option_map_or (λ length. if is_second c i.block then slot_pages c length else record_pages_of length c.geometry.page) (length_of (lengths_of c) (number_of i)) 0

-- a job in hand, as over one device
abbrev pub job_turns_of_both : Configuration → State → Job → ℕ
job_turns_of_both c s j =
    switch_of_first c
    + device_tries (desc_of c (job_block j)) (kind_of j) * sum_by (λ index. try_of_both c (kind_of j) (record { block = job_block j; index = index })) (indices_of c s (job_block j))
    + 1
