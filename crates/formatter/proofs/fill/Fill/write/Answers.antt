use mathlib.Core.Path.{sym, ◌∙◌}
use Rattle.base.proofs.Ones.{one_some, one_is}
use Rattle.formatter.proofs.fill.Fill.write.Goals as goal

pub bounds-bytes-0 : goal.bounds-bytes-0
bounds-bytes-0 c = one_some _ (sym c.args.self.told ∙ c.if-self.true)

pub returns-then-self : goal.returns-then-self
returns-then-self c = c.set_bytes.ensures ∙ rw c.requires (one_is _ (sym c.args.self.told ∙ c.if-self.true))
