-- What a table of identities holds, and which identities of a list are new.
pub mod Identities
pub mod Rows
