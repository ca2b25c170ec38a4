-- Request E5, 20h Copy Blocks: what it leaves of the source drive's entry, the buffer and the images.
use Rattle.std.specs.Prelude.{ℕ, ◌-◌, List}
use Rattle.base.specs.Part.{splice}
use Rattle.geometry.specs.declared.params.Params.{Params}
use Rattle.geometry.specs.Config.{Setting}
use Rattle.std.specs.Prelude.{Some, None}
use Rattle.geometry.specs.Params.{further}
use Rattle.copying.specs.declared.route.Route.{Route}
use Rattle.copying.specs.Ends.{End}
use Rattle.copying.specs.Ends.{Going, SourceFault, TargetFault, Short}
use Rattle.copying.specs.Copying.{Copying, copied}
use Rattle.model.specs.declared.block.CopyBlock.{CopyBlock}
use Rattle.model.specs.declared.record.Drive.{Drive}
use Rattle.model.specs.declared.record.Ending.{Ending}
use Rattle.model.specs.Block.{count_of}
use Rattle.model.specs.Record.{good, failed}

-- The destination drive's entry stays, and nothing is handed over.
pub record CopyEffect : Type 0 where
  pub ending : Ending
  pub buffer : List ℕ
  pub images : List (List ℕ)

abbrev pub copy_effect : Ending → (buffer : List ℕ) → (images : List (List ℕ)) → CopyEffect
copy_effect ending buffer images = record { ending = ending; buffer = buffer; images = images }

abbrev pub route_of : CopyBlock → (p q : Params) → Route
route_of k p q =
    record { source = k.from.drive; target = k.to.drive; p = p; q = q; a = k.from.address; b = k.to.address }

-- Status and sense are the source drive's; sense bytes 1-3 name the drive and the sector that failed, for 23h the last
-- destination sector. The destination sectors done are counted.
unfoldable pub copy_ending : CopyBlock → (read done : ℕ) → End → Drive → Ending
copy_ending k read done Going entry = good k.from.drive done 0 entry
copy_ending k read done (SourceFault code) entry =
    failed k.from.drive k.from.drive code (further k.from.address read) done 0 entry
copy_ending k read done (TargetFault code) entry =
    failed k.from.drive k.to.drive code (further k.to.address done) done 0 entry
copy_ending k read done Short entry =
    failed k.from.drive k.to.drive 0x23 (further k.to.address (done - 1)) done 0 entry

-- The buffer changes in its front alone: the last destination sector written, if any.
unfoldable pub copy_left : CopyBlock → Drive → (buffer : List ℕ) → Copying → CopyEffect
copy_left k entry buffer x =
    copy_effect (copy_ending k x.read x.done x.end entry) (splice 0 x.last buffer) x.images

-- Without parameters on either drive it is 0Ah, which has been tested for before.
unfoldable pub copy_with : CopyBlock → (from to : Setting) → Drive → (buffer : List ℕ) → (images : List (List ℕ)) → CopyEffect
copy_with k None to entry buffer images =
    copy_effect (failed k.from.drive k.from.drive 0x0A k.from.address 0 0 entry) buffer images
copy_with k (Some p) None entry buffer images =
    copy_effect (failed k.from.drive k.to.drive 0x0A k.to.address 0 0 entry) buffer images
copy_with k (Some p) (Some q) entry buffer images =
    copy_left k entry buffer (copied (route_of k p q) (count_of k.from) images)
