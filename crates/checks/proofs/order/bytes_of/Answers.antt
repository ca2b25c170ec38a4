use borrow.Author.Rules.{rules}
use native.Mathlib.Omega.{arith}
use Rattle.model.specs.Checks.{bytes_of}
use Rattle.checks.proofs.Orders.{bytes_most}
use Rattle.checks.proofs.order.bytes_of.Goals as goal

pub overflow_mul-result : goal.overflow_mul-result
overflow_mul-result c =
    rw (c.count_of.ensures.0, c.size_in.ensures) (let m = bytes_most c.args.b c.args.setting (search rules) c.requires in omega arith)

pub returns-in-Nothing : goal.returns-in-Nothing
unfolding bytes_of
returns-in-Nothing c = simp c.in-Nothing.is

pub returns-in-Sense : goal.returns-in-Sense
unfolding bytes_of
returns-in-Sense c = simp c.in-Sense.is

pub returns-in-Alternate : goal.returns-in-Alternate
unfolding bytes_of
returns-in-Alternate c = simp c.in-Alternate.is

pub returns-in-Configuration : goal.returns-in-Configuration
unfolding bytes_of
returns-in-Configuration c = simp c.in-Configuration.is

pub returns-in-Buffer : goal.returns-in-Buffer
unfolding bytes_of
returns-in-Buffer c = simp c.in-Buffer.is

pub returns-in-Sectors : goal.returns-in-Sectors
unfolding bytes_of
returns-in-Sectors c = simp (c.in-Sectors.is, c.count_of.ensures.0, c.size_in.ensures)
