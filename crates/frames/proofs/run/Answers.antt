use native.Mathlib.Omega.{arith}
use mathlib.Core.Logic.{inr}
use lib.ListN.{length-replicate}
use Prim.Native.Nat.{ℕ}
use Rattle.std.proofs.lemmas.Result.{on_ok_weaker, on_err_weaker}
use Rattle.lines.proofs.Standing.{talking_first}
use Rattle.frames.proofs.Going.{at_first, heard_fits, heard_text, gone_on, served, cut_at_end}
use Rattle.frames.proofs.run.Goals as goal

pub begin-first-requires : goal.begin-first-requires
begin-first-requires g c = rw c.shared.ensures at_first

pub converse-last-requires-clause-talking : goal.converse-last-requires-clause-talking
converse-last-requires-clause-talking g c = talking_first _ (rw c.shared.ensures at c.begin-first.ensures)

pub say-requires : goal.say-requires
say-requires g c = heard_fits _ c.close-heard.result _ _ _ _ _ c.close-heard.ensures.speaks

pub returns-clause-served : goal.returns-clause-served
returns-clause-served g c =
    let last = c.converse-last.ensures in
    let ended = gone_on c.in-Ok.is last.end (omega (arith, length-replicate {A = ℕ} 4096 0)) in
    on_ok_weaker c.say.result
    (served (rw c.shared.ensures at c.begin-first.ensures) (gone_on c.in-Ok.is last.onward) ended _ _ (heard_text _ c.close-heard.result _ _ _ _ _ c.close-heard.ensures.speaks))
    c.say.ensures.ok

pub returns-clause-failed : goal.returns-clause-failed
returns-clause-failed g c =
    let last = c.converse-last.ensures in
    let ended = gone_on c.in-Ok.is last.end (omega (arith, length-replicate {A = ℕ} 4096 0)) in
    on_err_weaker c.say.result
    (λ w. inr (cut_at_end (rw c.shared.ensures at c.begin-first.ensures) (gone_on c.in-Ok.is last.onward) ended _ _ (heard_text _ c.close-heard.result _ _ _ _ _ c.close-heard.ensures.speaks) w))
    c.say.ensures.err
