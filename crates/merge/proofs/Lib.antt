-- The laws of a merge of one run.
pub mod One
