use native.Mathlib.Omega.{arith}
use Rattle.formatter.proofs.IdChecks.{right_none, right_small, right_more, right_miss, right_all}
use Rattle.formatter.proofs.check.ids_are.Goals as goal

pub loop-k-init : goal.loop-k-init
loop-k-init c = right_none _ _ _ _ _ record {
  number = c.id_number-first.ensures;
  long = c.args.track.whole;
  many = c.requires.0;
  zeroth = c.requires.2;
  narrow = record { mark = omega arith; cylinder = omega arith; head = omega arith; flag = omega arith; partner = c.requires.1 };
  sectors = λ k. (c.type_inv.map k).fits;
}

pub overflow_add-right : goal.overflow_add-right
overflow_add-right c = omega (arith, right_small _ _ _ _ _ _ c.loop-k.invariant)

pub returns-then-number_of-right : goal.returns-then-number_of-right
returns-then-number_of-right c =
    right_miss _ _ _ _ _ _ c.loop-k.invariant c.loop-k-test.true _ c.id.ensures.0 _ c.number_of.ensures.0 c.number_of.ensures.1 c.if-number_of-right.true

pub loop-k-preserved : goal.loop-k-preserved
loop-k-preserved c =
    right_more _ _ _ _ _ _ c.loop-k.invariant c.loop-k-test.true _ c.id.ensures.0 _ c.number_of.ensures.0 c.number_of.ensures.1 c.if-number_of-right.false

pub returns : goal.returns
returns c = right_all _ _ _ _ _ _ c.loop-k.invariant c.loop-k-test.false
