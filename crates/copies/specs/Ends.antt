-- What is known of a copy that has ended: its counts and addresses fit the answer.
use Rattle.std.specs.Prelude.{◌+◌, ◌≤◌, ◌<◌, ◌≡◌}
use Rattle.copying.specs.declared.route.Copied.{Copied}
use Rattle.copying.specs.Ends.{Short, as_end}
use Rattle.model.specs.declared.block.CopyBlock.{CopyBlock}
use Rattle.model.specs.Premises.{address_limit, WellFormed}

pub record CanEnd (k : CopyBlock) (c : Copied) : Type 0 where
  pub from : WellFormed k.from
  pub to : WellFormed k.to
  pub few : c.done ≤ 1024
  pub source_below : k.from.address.0 + c.read < address_limit
  pub target_below : k.to.address.0 + c.done < address_limit
  pub short_some : as_end c.fault ≡ Short → 1 ≤ c.done
