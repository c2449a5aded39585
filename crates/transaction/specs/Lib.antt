-- A signed transaction: slots, credentials, plans, the AVM's rows, entries, and what is proved of the format
pub mod Slots
pub mod Credentials
pub mod Signed
pub mod Entries
pub mod Plan
pub mod Form
pub mod Family
pub mod Avm
pub mod Codec
pub mod FirstBroken
pub mod Answer
pub mod Transaction
pub mod PlainBytes
pub mod Accepted
-- proved: laws that the definitions carry
pub mod laws
-- what functions below the public calls answer; no claim rests on it
pub mod code
