use mathlib.Core.Path.{◌≡◌, refl}
use mathlib.Core.Bool.{false}
use Rattle.model.specs.declared.table.Command.{Command}
use Rattle.model.specs.declared.table.Command.TheVariants.{Free, OnDisk, Copy, Unknown}
use Rattle.model.specs.Checks.{is_unknown}
use Rattle.checks.proofs.order.is_unknown.Goals as goal

pub returns-in-Unknown : goal.returns-in-Unknown
unfolding is_unknown
returns-in-Unknown c = simp c.in-Unknown.is

known : (command : Command) → (command ≡ Unknown → ⊥) → false ≡ is_unknown command
unfolding is_unknown
known (Free work) other = refl
known (OnDisk work) other = refl
known Copy other = refl
known Unknown other = absurd (other refl)

pub returns-in_default : goal.returns-in_default
returns-in_default c = known _ c.in_default.not-Unknown
