-- The laws meant for the crates above, each with its statement and proof in the module named.

-- ---- The sector at an address
-- found: where the search went on, a slot of the drive, the first that holds it
pub use Rattle.sectors.proofs.Founds.{found_there, found_slot, found_first}
-- two addresses never share a slot
pub use Rattle.sectors.proofs.Founds.{slots_apart}
-- not found: the code
pub use Rattle.sectors.proofs.Founds.{found_fault}
-- ---- Transfers of n sectors
-- what holds of the next sector where it is found and where it is not holds of the transfer
pub use Rattle.sectors.proofs.Onwards.{onward_has}
-- so it does of two transfers that find the same sector
pub use Rattle.sectors.proofs.Onwards.{onward_both}
-- how many are read, the bytes handed over, and the last sector
pub use Rattle.sectors.proofs.Readings.{Handed, reading_handed}
-- how many are written
pub use Rattle.sectors.proofs.WriteLoops.{Counted, writing_counted, written_most}
-- their code, and the last sector
pub use Rattle.sectors.proofs.Takings.{Taken, writing_taken}
-- the last of some sectors that lie one behind the other: what lies behind them does not count; what a transfer says of it
pub use Rattle.sectors.proofs.Lasts.{last_front, last_is}
-- ---- Lists
-- what is put at the front of a part lent is put at the part's place
pub use Rattle.sectors.proofs.ReadLoops.{front_lent}
-- the end of a front is a part
pub use Rattle.sectors.proofs.WriteLoops.{drop_take}
