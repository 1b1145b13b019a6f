pub mod OnePointer
pub mod AtHeap
pub mod AsRoom
pub mod UnitLaws
pub mod StandingMarks
pub mod SoundImages
pub mod CallLaws
