-- Laws that the proofs of several functions cite, `pub` where other crates cite them too. Assumes nothing.
pub mod PutLaws
pub mod NumberLaws
