-- What the merge of one run promises.
pub mod One
