-- Whether a copy goes on.
use mathlib.Core.Path.{◌≡◌, refl, sym, ap}
use mathlib.Core.Bool.{Bool, true, false, true≢false}
use Prim.Native.Nat.{ℕ}
use Rattle.copying.specs.Ends.{End}
use Rattle.copying.specs.Ends.{Going, SourceFault, TargetFault, Short}

is_going : End → Bool
is_going Going = true
is_going (SourceFault code) = false
is_going (TargetFault code) = false
is_going Short = false

pub source_ended : (code : ℕ) → SourceFault code ≡ Going → ⊥
unfolding is_going
source_ended code z = true≢false (sym (ap is_going z))

pub target_ended : (code : ℕ) → TargetFault code ≡ Going → ⊥
unfolding is_going
target_ended code z = true≢false (sym (ap is_going z))

short_ended : Short ≡ Going → ⊥
unfolding is_going
short_ended z = true≢false (sym (ap is_going z))

-- Going, or not
pub going_or_not : (e : End) → Dec (e ≡ Going)
going_or_not Going = yes refl
going_or_not (SourceFault code) = no (source_ended code)
going_or_not (TargetFault code) = no (target_ended code)
going_or_not Short = no short_ended
