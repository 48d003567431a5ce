-- What each refusal tells its caller.
pub mod Table
