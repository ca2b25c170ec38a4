-- What the checks see of a drive is legal, and what they say fits an answer.
use mathlib.Core.Path.{◌≡◌, sym, ◌∙◌}
use mathlib.Core.Bool.{Bool, true, false}
use Prim.Native.Nat.{ℕ, ◌<◌}
use native.Mathlib.Omega.{arith}
use Rattle.base.specs.Pick.{pick}
use Rattle.geometry.specs.declared.params.Lba.{Lba}
use Rattle.geometry.specs.declared.medium.Medium.{Medium}
use Rattle.geometry.specs.Config.{Setting}
use Rattle.std.specs.Prelude.{None}
use Rattle.geometry.proofs.Settings.{setting_within, setting_some}
use Rattle.model.specs.declared.block.Block.{Block}
use Rattle.model.specs.declared.record.Drive.{Drive}
use Rattle.model.specs.declared.verdict.View.{View}
use Rattle.model.specs.Verdicts.{Verdict, Faulty}
use Rattle.model.specs.Checks.{in_order, judge_over}
use Rattle.model.specs.Record.{setting_in}
use Rattle.model.specs.Engine.{view_of}
use Rattle.model.specs.Premises.{address_limit}
use Rattle.model.proofs.engine.Judged.{fault_in, fault_past, fault_none}
use Rattle.checks.specs.Legal.{Legal, AtLeast128}

-- ---- a drive's setting
legal_pick : (known : Bool) (s : Setting) → Legal s → Legal (pick known s None)
unfolding pick
legal_pick true s l = l
legal_pick false s l = λ p e. absurd (let z : ◌≡◌ {A = ℕ} 0 1 = cc in omega arith)

at_least_128_pick : (known : Bool) (s : Setting) → AtLeast128 s → AtLeast128 (pick known s None)
unfolding pick
at_least_128_pick true s l = l
at_least_128_pick false s l = λ p e. absurd (let z : ◌≡◌ {A = ℕ} 0 1 = cc in omega arith)

module _ (medium : Medium) (entry : Drive) (image : ℕ) (v : View) (is : v ≡ view_of medium entry image) where
  pub view_legal : Legal v.setting
  unfolding view_of setting_in
  view_legal = rw is (legal_pick entry.known _ (λ p e. (setting_within medium _ _ p e).0))

  pub view_at_least_128 : AtLeast128 v.setting
  unfolding view_of setting_in
  view_at_least_128 = rw is (at_least_128_pick entry.known _ (λ p e. setting_some medium _ _ p e))

-- ---- the codes of a drive's row are below 80h, and all go with the block's address
pub fault_over : (b : Block) (reach : ℕ) (v : View) (given area : ℕ) (verdict : Verdict) → verdict ≡ judge_over b reach v given area
    → (code : ℕ) (at : Lba) → verdict ≡ Faulty code at → b.address.0 < address_limit → (code < 0x80) × (at.0 < address_limit)
unfolding in_order
fault_over b reach v given area verdict is code at e h =
    let P : ℕ → Lba → Type 0 = λ k l. (k < 0x80) × (l.0 < address_limit) in
    fault_in P code at _ _ _ _ (omega arith, h) (λ _.
    fault_in P code at _ _ _ _ (omega arith, h) (λ _.
    fault_in P code at _ _ _ _ (omega arith, h) (λ _.
    fault_in P code at _ _ _ _ (omega arith, h) (λ _.
    fault_in P code at _ _ _ _ (omega arith, h) (λ _.
    fault_in P code at _ _ _ _ (omega arith, h) (λ _.
    fault_in P code at _ _ _ _ (omega arith, h) (λ _.
    fault_past P code at _ _ _ (λ _. fault_past P code at _ _ _ (λ _. fault_none P code at)))))))))
    (sym is ∙ e)
