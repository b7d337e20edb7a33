-- Laws of a table of identities, and of new identities.
pub mod IdentityLaws
pub mod RowLaws
