pub mod Cleared
pub mod FreshCopies
pub mod Made
pub mod PlainCopies
pub mod Spending
pub mod Trying
