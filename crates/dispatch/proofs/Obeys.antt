-- What a command leaves on its drive, by the verdict of the order of checks.
use mathlib.Core.Path.{◌≡◌, refl, sym, ap, ◌∙◌}
use mathlib.Core.List.{List}
use Prim.Native.Nat.{ℕ, ◌<◌}
use lib.ListN.{length}
use Rattle.geometry.specs.declared.params.Lba.{Lba}
use Rattle.geometry.specs.Medium.{medium_of}
use Rattle.model.specs.declared.block.Block.{Block}
use Rattle.model.specs.declared.table.Command.{Command}
use Rattle.model.specs.declared.record.Drive.{Drive}
use Rattle.model.specs.declared.record.Ending.{Ending}
use Rattle.model.specs.declared.verdict.View.{View}
use Rattle.model.specs.Verdicts.{Verdict, Refused, Faulty, Passed}
use Rattle.model.specs.Table.{row_for}
use Rattle.model.specs.Checks.{judge}
use Rattle.model.specs.Record.{setting_in, refused, failed, unless_named}
use Rattle.model.specs.Commands.{carry_out}
use Rattle.model.specs.Engine.{view_of, obey}
use Rattle.model.specs.Premises.{address_limit, WellFormed}
use Rattle.checks.proofs.Views.{fault_over}
use Rattle.endings.specs.Left.{Left, left_now, left_by}
use Rattle.dispatch.specs.Ready.{Admitted}
use Rattle.dispatch.proofs.Carries.{left_unhanded}

-- ---- the codes of the order are below 80h, and all go with the block's address
pub fault_below : (b : Block) (v : View) (given area : ℕ) (verdict : Verdict) → verdict ≡ judge b v given area
    → (code : ℕ) (at : Lba) → verdict ≡ Faulty code at → b.address.0 < address_limit → (code < 0x80) × (at.0 < address_limit)
unfolding judge
fault_below b v given area verdict is code at e h = fault_over b _ v given area verdict is code at e h

-- ---- the verdict on a command, by what the checks see of its drive
module _ (b : Block) (given : List ℕ) (entry : Drive) (area image : List ℕ) (v : View) (ev : v ≡ view_of (medium_of b.drive) entry (length image)) where
  pub setting_is : setting_in (medium_of b.drive) entry (length image) ≡ v.setting
  unfolding view_of
  setting_is = rw ev refl

  module _ (verdict : Verdict) (is : verdict ≡ judge b v (length given) (length area)) where
    judged_by : judge b (view_of (medium_of b.drive) entry (length image)) (length given) (length area) ≡ verdict
    judged_by = sym (is ∙ ap (λ (w : View). judge b w (length given) (length area)) ev)

    pub admitted : WellFormed b → verdict ≡ Passed → Admitted b entry (length given) (length area) (length image)
    admitted block e = record { block = block; passed = judged_by ∙ e }

    -- ---- what is left
    pub obey_refused : (buffer : List ℕ) (r : Ending) (number : ℕ) → verdict ≡ Refused number → r ≡ refused number entry
        → left_now r buffer area image ≡ left_by (obey b given (length area) entry buffer image) area
    unfolding obey unless_named
    obey_refused buffer r number e er = left_unhanded _ r buffer area image (rw (judged_by ∙ e, er))

    pub obey_failed : (buffer : List ℕ) (r : Ending) (code : ℕ) (at : Lba) → verdict ≡ Faulty code at
        → r ≡ failed b.drive b.drive code at 0 0 entry → left_now r buffer area image ≡ left_by (obey b given (length area) entry buffer image) area
    unfolding obey unless_named
    obey_failed buffer r code at e er = left_unhanded _ r buffer area image (rw (judged_by ∙ e, er))

    pub obey_carried : (buffer : List ℕ) (command : Command) (x : Left) → verdict ≡ Passed → (row_for b.opcode).command ≡ command
        → x ≡ left_by (carry_out b v.setting given entry buffer image command) area → x ≡ left_by (obey b given (length area) entry buffer image) area
    unfolding obey unless_named
    obey_carried buffer command x e ec h = rw (judged_by ∙ e, ec, ← ev) h
