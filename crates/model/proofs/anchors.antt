-- Facts that pin claim and definitions where the claim alone would not show a slip.
pub mod Order
pub mod CopyOrder
pub mod Assigning
pub mod Moving
pub mod Formatting
pub mod Configurations
pub mod Initializing
pub mod Precompensation
pub mod Damage
pub mod DamageEnds
pub mod CopyDamage
pub mod Session
pub mod Floppies
pub mod Leaves
pub mod Naming
