-- A Read on two images with the same contents at its addresses, by entries with the same view: it answers alike, whatever the buffers.
use Prim.Native.Nat.{ℕ, ◌+◌, ◌≤◌, ◌<◌}
use mathlib.Core.Path.{◌≡◌, refl}
use mathlib.Core.Bool.{Bool, true, false}
use mathlib.Core.List.{List, []}
use native.Mathlib.Omega.{arith}
use lib.ListN.{length}
use lib.Dec.{eqb}
use Rattle.base.specs.Pick.{pick}
use Rattle.geometry.specs.declared.params.Params.{Params}
use Rattle.std.specs.Prelude.{Some}
use Rattle.geometry.specs.Params.{Within, OnDrive, address_count, further}
use Rattle.geometry.specs.Medium.{medium_of}
use Rattle.sectors.specs.Transfer.{Transfer, begun}
use Rattle.contents.specs.Content.{content_of}
use Rattle.contents.proofs.Laws.{Alike, begun_alike, reading_alike}
use Rattle.model.specs.declared.block.Block.{Block}
use Rattle.model.specs.declared.table.Command.TheVariants.{OnDisk}
use Rattle.model.specs.declared.table.DiskCommand.TheVariants.{SectorWork}
use Rattle.model.specs.declared.table.SectorCommand.TheVariants.{Read}
use Rattle.model.specs.declared.record.Drive.{Drive}
use Rattle.model.specs.declared.record.Ending.{Ending}
use Rattle.model.specs.Verdicts.{Verdict}
use Rattle.model.specs.Verdicts.{Passed}
use Rattle.model.specs.Block.{count_of}
use Rattle.model.specs.Table.{check_number, is_among, row_for}
use Rattle.model.specs.Checks.{judge}
use Rattle.model.specs.Record.{setting_in, sensed, refused, failed, good, Effect, effect, unless_named, unless}
use Rattle.model.specs.Commands.{transfer_ending, transferred, read, do_sectors, do_disk, carry_out}
use Rattle.model.specs.Engine.{view_of, obey}
use Rattle.model.proofs.engine.Checked.{opcode_for, count_cleared}
use Rattle.model.proofs.engine.Beyond.{clear}
use Rattle.model.proofs.engine.Leaving.{Verdicts, second, third, fault, pass, judge_by}

-- what is compared: the answer, the bytes handed over, and, unless the call is refused, the sense
pub record SameRead (x y : Effect) : Type 0 where
  pub answer : x.ending.answer ≡ y.ending.answer
  pub handed : x.handed ≡ y.handed
  pub sense : y.ending.answer.number ≡ 0 → x.ending.entry.sense ≡ y.ending.entry.sense

-- ---- how a transfer ends goes by its count and its code
module _ (b : Block) (one other : Drive) (sectors code bytes : ℕ) where
  abbrev SameEnd : (x y : Ending) → Type 0
  SameEnd x y = (x.answer ≡ y.answer) × (x.entry.sense ≡ y.entry.sense)

  by_code : (none : Bool) → SameEnd (pick none (good b.drive sectors bytes one) (failed b.drive b.drive code (further b.address sectors) sectors bytes one))
      (pick none (good b.drive sectors bytes other) (failed b.drive b.drive code (further b.address sectors) sectors bytes other))
  unfolding pick good failed sensed
  by_code true = (refl, refl)
  by_code false = (refl, refl)

  end_same : SameEnd (transfer_ending b sectors code bytes one) (transfer_ending b sectors code bytes other)
  unfolding transfer_ending
  end_same = by_code (eqb code 0)

transfer_same : (b : Block) (one other : Drive) (here there : List ℕ) (x y : Transfer) → Alike x y → SameRead (transferred b one here x) (transferred b other there y)
unfolding transferred
transfer_same b one other here there x y same =
    let end = end_same b one other y.done y.code (length y.handed) in
    record {
      answer = rw (same.done, same.code, same.handed) end.0;
      handed = same.handed;
      sense = λ zero. rw (same.done, same.code, same.handed) end.1;
    }

-- ---- by the checks
module _ (drive : ℕ) (one other : Drive) (here there image cut : List ℕ) (x y : Effect) where
  by_both : {v : Verdict} → Verdicts true v → (v ≡ Passed → SameRead x y)
      → SameRead (unless v drive one (λ e. effect e here [] cut) x) (unless v drive other (λ e. effect e there [] image) y)
  unfolding unless_named refused failed sensed
  by_both second new = record { answer = refl; handed = refl; sense = λ zero. absurd (omega (arith, zero)) }
  by_both third new = record { answer = refl; handed = refl; sense = λ zero. absurd (omega (arith, zero)) }
  by_both (fault code at some) new = record { answer = refl; handed = refl; sense = λ zero. refl }
  by_both pass new = new refl

module _ (b : Block) (given : List ℕ) (area : ℕ) (one other : Drive) (here there image cut : List ℕ) (p : Params) (w : Within p)
    (is : (row_for b.opcode).command ≡ OnDisk (SectorWork Read))
    (view : view_of (medium_of b.drive) one (length cut) ≡ view_of (medium_of b.drive) other (length image))
    (valid : setting_in (medium_of b.drive) other (length image) ≡ Some p)
    (same : (i : ℕ) → i < count_of b → OnDrive p (further b.address i) → content_of p (further b.address i) cut ≡ content_of p (further b.address i) image) where
  on_drive_lem : judge b (view_of (medium_of b.drive) other (length image)) (length given) area ≡ Passed → b.address.0 + count_of b ≤ address_count p
  unfolding row_for opcode_for is_among check_number
  on_drive_lem passed = count_cleared w (clear b given area other there image passed p valid (OnDisk (SectorWork Read)) is) refl refl

  done_same : judge b (view_of (medium_of b.drive) other (length image)) (length given) area ≡ Passed
      → SameRead (carry_out b (Some p) given one here cut (OnDisk (SectorWork Read))) (carry_out b (Some p) given other there image (OnDisk (SectorWork Read)))
  unfolding carry_out do_disk do_sectors read begun
  done_same passed =
      transfer_same b one other here there _ _
      (reading_alike p (count_of b) b.address (begun cut) (begun image) (begun_alike cut image) (λ i l. same i l (omega (arith, l, on_drive_lem passed))))

  setting : (view_of (medium_of b.drive) other (length image)).setting ≡ Some p
  unfolding view_of
  setting = valid

  pub read_same : SameRead (obey b given area one here cut) (obey b given area other there image)
  unfolding obey
  read_same =
      rw (view, is)
      (by_both b.drive one other here there image cut _ _ (judge_by b _ (length given) area) (λ passed. rw setting (done_same passed)))
