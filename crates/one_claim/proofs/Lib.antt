pub mod Trial
pub mod TrialTree
