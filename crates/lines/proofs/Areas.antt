-- A call hands over no more than its data area holds, so that the area keeps its length.
use Prim.Native.Nat.{ℕ, ◌*◌, ◌≤◌}
use mathlib.Core.Path.{◌≡◌, refl, ap, subst, ◌∙◌}
use mathlib.Core.List.{List, []}
use native.Mathlib.Omega.{arith}
use native.Mathlib.Nat.{mul-le-mul_right}
use lib.ListN.{length}
use Rattle.base.proofs.Parts.{length_splice}
use Rattle.geometry.specs.declared.params.Params.{Params}
use Rattle.geometry.specs.Config.{Setting}
use Rattle.std.specs.Prelude.{Some, None}
use Rattle.geometry.specs.Medium.{medium_of}
use Rattle.geometry.proofs.Settings.{setting_within}
use Rattle.track.specs.Image.{Fits}
use Rattle.sectors.specs.Transfer.{begun, reading}
use Rattle.sectors.proofs.Laws.{reading_handed}
use Rattle.model.specs.declared.block.Block.{Block}
use Rattle.model.specs.declared.record.Drive.{Drive}
use Rattle.model.specs.declared.record.Controller.{Controller}
use Rattle.model.specs.declared.table.Command.{Command}
use Rattle.model.specs.declared.table.Command.TheVariants.{Free, OnDisk}
use Rattle.model.specs.declared.table.FreeCommand.TheVariants.{RequestSense, ReadBuffer}
use Rattle.model.specs.declared.table.DiskCommand.TheVariants.{SectorWork}
use Rattle.model.specs.declared.table.SectorCommand.TheVariants.{Read}
use Rattle.model.specs.declared.verdict.View.{View}
use Rattle.model.specs.Verdicts.{Verdict}
use Rattle.model.specs.Verdicts.{Refused, Faulty, Passed}
use Rattle.model.specs.Block.{block_of, count_of}
use Rattle.model.specs.Table.{is_among, check_number, TableRow, row_for}
use Rattle.model.specs.Checks.{size_in, bytes_of, judge}
use Rattle.model.specs.Record.{Effect, effect, unless, unless_named, drive_at}
use Rattle.model.specs.Commands.{read, transferred, do_sectors, do_disk, carry_out}
use Rattle.model.specs.Engine.{Result, view_of, obey, image_of, left, on_drive, execute}
use Rattle.model.proofs.engine.Known.{setting_known}
use Rattle.model.proofs.engine.Checked.{opcode_for, row_of, Cleared, cleared, area_enough, count_cleared}
use Rattle.model.proofs.engine.Blocks.{by_block}
use Rattle.model.proofs.engine.CopyLeaves.{copy_leaves}
use Rattle.model.proofs.engine.Leaving.{Hands, nothing, no_sense, own_sense, no_buffer, own_buffer, read_out, Obeyed, answered, denied, obeyed}

module _ (b : Block) (given : List ℕ) (area : ℕ) (entry : Drive) (buffer image : List ℕ)
    (four : length entry.sense ≡ 4) (whole : length buffer ≡ 512) where
  abbrev view : View
  view = view_of (medium_of b.drive) entry (length image)

  abbrev after : Effect
  after = obey b given area entry buffer image

  -- the row of the command, by an opcode that has it
  row : (command : Command) → (row_for b.opcode).command ≡ command → row_for b.opcode ≡ row_for (opcode_for command)
  row command is = row_of b.opcode ∙ ap (λ (k : Command). row_for (opcode_for k)) is

  module _ (passed : judge b view (length given) area ≡ Passed) where
    -- the area has as many bytes as the row says
    enough : (command : Command) → (row_for b.opcode).command ≡ command
        → bytes_of (row_for (opcode_for command)).gives b view.setting ≤ area
    enough command is =
        subst (λ (r : TableRow). bytes_of r.gives b view.setting ≤ area) (row command is)
        (area_enough b view (length given) area passed)

    after_passed : after ≡ carry_out b view.setting given entry buffer image (row_for b.opcode).command
    unfolding obey unless_named
    after_passed =
        ap (λ (v : Verdict). unless v b.drive entry (λ e. effect e buffer [] image)
        (carry_out b view.setting given entry buffer image (row_for b.opcode).command)) passed

    module _ (is : (row_for b.opcode).command ≡ OnDisk (SectorWork Read)) where
      sectors_fit : (p : Params) → view.setting ≡ Some p → length (reading p (count_of b) b.address (begun image)).handed ≤ area
      unfolding view_of row_for opcode_for is_among check_number bytes_of size_in
      sectors_fit p e =
          let known = setting_known (medium_of b.drive) entry (length image) p e in
          let w = setting_within (medium_of b.drive) entry.config (length image) p known in
          let fits : Fits p image = record { within = w.0; long = w.1 } in
          let clear : Cleared (row_for (opcode_for (OnDisk (SectorWork Read)))) b p view.pending (length given) =
          subst (λ (r : TableRow). Cleared r b p view.pending (length given)) (row _ is) (cleared b view (length given) area passed p e) in
          let h = reading_handed p image fits (count_of b) b.address (count_cleared w.0 clear refl refl) in
          let room : count_of b * p.size ≤ area = subst (λ (s : Setting). bytes_of (row_for 8).gives b s ≤ area) e (enough _ is) in
          omega (arith, h.long, mul-le-mul_right p.size h.most)

      read_fits : (s : Setting) → view.setting ≡ s → length (carry_out b s given entry buffer image (OnDisk (SectorWork Read))).handed ≤ area
      unfolding carry_out do_disk do_sectors read transferred
      read_fits None e = omega arith
      read_fits (Some p) e = sectors_fit p e

    hands_fit : (command : Command) (status : ℕ) (handed : List ℕ) → (row_for b.opcode).command ≡ command → after.handed ≡ handed
        → Hands b entry buffer command status handed → length handed ≤ area
    unfolding row_for opcode_for bytes_of
    hands_fit command status [] is e (nothing quiet) = omega arith
    hands_fit (Free RequestSense) status [] is e no_sense = omega arith
    hands_fit (Free RequestSense) status handed is e own_sense = omega (arith, four, enough _ is)
    hands_fit (Free ReadBuffer) status [] is e no_buffer = omega arith
    hands_fit (Free ReadBuffer) status handed is e own_buffer = omega (arith, whole, enough _ is)
    hands_fit (OnDisk (SectorWork Read)) status handed is e (read_out bytes) =
        let done : after ≡ carry_out b view.setting given entry buffer image (OnDisk (SectorWork Read)) =
        after_passed ∙ ap (carry_out b view.setting given entry buffer image) is in
        rw (← e, done) (read_fits is view.setting refl)

    passed_fits : Obeyed b given entry buffer image (row_for b.opcode).command after → length after.handed ≤ area
    passed_fits (answered ends) = hands_fit _ _ _ refl refl ends.hands
    passed_fits (denied number low high e) = rw e (omega arith)

  by_verdict : (v : Verdict) → judge b view (length given) area ≡ v → length after.handed ≤ area
  unfolding obey unless_named
  by_verdict (Refused number) e = rw e (omega arith)
  by_verdict (Faulty code at) e = rw e (omega arith)
  by_verdict Passed e = passed_fits e (obeyed b given area entry buffer image)

  pub handed_fits : length after.handed ≤ area
  handed_fits = by_verdict (judge b view (length given) area) refl

-- ---- a call
module _ (c : Controller) (block given area : List ℕ) (images : List (List ℕ)) (whole : length c.buffer ≡ 512)
    (four : length (drive_at c (block_of block).drive).sense ≡ 4) where
  drive_keeps : length (on_drive (block_of block) given c area images).area ≡ length area
  unfolding on_drive left
  drive_keeps =
      let entry = drive_at c (block_of block).drive in
      let h = handed_fits (block_of block) given (length area) entry c.buffer (image_of (block_of block).drive images) four whole in
      length_splice 0 _ area (omega (arith, h))

  pub area_keeps : length (execute c block given area images).area ≡ length area
  area_keeps =
      by_block c block given area images (λ (r : Result). length r.area ≡ length area)
      (λ whole copy. ap length (copy_leaves c block area images copy).untouched) (λ whole other. drive_keeps) (λ none. refl)
