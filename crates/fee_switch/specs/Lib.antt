pub mod Banks
pub mod Copy
pub mod Start
pub mod Target
pub mod Active
pub mod StartLaws
pub mod Reading
pub mod Inside
