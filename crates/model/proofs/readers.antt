-- What follows for readers: of the definitions, and of the claim.
pub mod PendingDrives
pub mod PendingCalls
pub mod HeldSectors
pub mod MachineTransfers
pub mod AnyCall
pub mod Sessions
pub mod Labels
