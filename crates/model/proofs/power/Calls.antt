-- What a call of six bytes leaves, by what its command leaves of its drive.
use Prim.Native.Nat.{ℕ, ◌<◌}
use mathlib.Core.Path.{◌≡◌, sym, ap, ◌∙◌}
use mathlib.Core.Bool.{true, false}
use mathlib.Core.List.{List}
use native.Mathlib.Decide.{dec_lt}
use native.Mathlib.Omega.{arith}
use lib.ListN.{length, get_or-eq_default}
use Rattle.base.specs.Pick.{pick}
use Rattle.base.specs.Part.{splice}
use Rattle.geometry.specs.declared.params.Params.{Params}
use Rattle.std.specs.Prelude.{Some}
use Rattle.geometry.specs.Medium.{medium_of}
use Rattle.model.specs.declared.block.Block.{Block}
use Rattle.model.specs.declared.record.Drive.{Drive}
use Rattle.model.specs.declared.record.Controller.{Controller}
use Rattle.model.specs.Block.{block_of, is_copy, is_whole}
use Rattle.model.specs.Record.{blank_drive, drive_at, setting_in, Effect}
use Rattle.model.specs.Engine.{Result, image_of, obey, left, execute}
use Rattle.model.proofs.engine.Assembled.{own_entry}
use Rattle.model.proofs.records.Calls.{one_drive, its_answer, its_image}

module _ (c : Controller) (block given area : List ℕ) (images : List (List ℕ)) (whole : is_whole block ≡ true) (one : is_copy block ≡ false) where
  abbrev b : Block
  b = block_of block

  abbrev effect : Effect
  effect = obey b given (length area) (drive_at c b.drive) c.buffer (image_of b.drive images)

  pub call_answer : (execute c block given area images).outcome.answer ≡ effect.ending.answer
  call_answer = ap (λ (r : Result). r.outcome.answer) (one_drive c block given area images whole one) ∙ its_answer c block given area images

  pub call_area : (execute c block given area images).area ≡ splice 0 effect.handed area
  unfolding left
  call_area = ap (λ (r : Result). r.area) (one_drive c block given area images whole one)

  pub call_image : image_of b.drive (execute c block given area images).images ≡ effect.image
  call_image = ap (λ (r : Result). image_of b.drive r.images) (one_drive c block given area images whole one) ∙ its_image c block given area images

  pub call_entry : b.drive < length c.drives → drive_at (execute c block given area images).outcome.controller b.drive ≡ effect.ending.entry
  call_entry h =
      ap (λ (r : Result). drive_at r.outcome.controller b.drive) (one_drive c block given area images whole one)
      ∙ own_entry b.drive effect c area images h

-- a drive with parameters in force has an entry
pub has_entry : (c : Controller) (d image : ℕ) (p : Params) → setting_in (medium_of d) (drive_at c d) image ≡ Some p → d < length c.drives
unfolding drive_at setting_in blank_drive pick
has_entry c d image p force = by (dec_lt d (length c.drives))
  where
    blank : setting_in (medium_of d) blank_drive image ≡ Some p → ⊥
    blank e = let z : ◌≡◌ {A = ℕ} 0 1 = cc in omega arith

    by : Dec (d < length c.drives) → d < length c.drives
    by (yes l) = l
    by (no l) = absurd (blank (ap (λ (x : Drive). setting_in (medium_of d) x image) (sym (get_or-eq_default c.drives blank_drive (omega arith))) ∙ force))
