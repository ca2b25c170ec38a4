-- Format Drive: the only command that stores a configuration, and that goes on while parameters are pending.
use Prim.Native.Nat.{ℕ, ◌<◌}
use mathlib.Core.Path.{◌≡◌, refl, sym, ap, subst, ◌∙◌}
use mathlib.Core.Logic.{◌⊎◌, inl, inr}
use mathlib.Core.Bool.{false}
use mathlib.Core.List.{List, [], ◌++◌}
use native.Mathlib.Omega.{arith}
use lib.ListN.{length}
use Rattle.base.specs.Part.{part}
use Rattle.geometry.specs.declared.params.Track.{Track}
use Rattle.geometry.specs.declared.params.Params.{Params}
use Rattle.geometry.specs.declared.medium.Medium.{Medium}
use Rattle.std.specs.Prelude.{Some}
use Rattle.geometry.specs.Params.{track_count, track_of, track}
use Rattle.geometry.specs.Medium.{medium_of}
use Rattle.geometry.specs.Config.{setting_of, label_rest}
use Rattle.geometry.proofs.Settings.{setting_ten}
use Rattle.geometry.proofs.Labels.{label_made}
use Rattle.track.specs.Pair.{pair_split}
use Rattle.model.specs.declared.block.Block.{Block}
use Rattle.model.specs.declared.record.Drive.{Drive}
use Rattle.model.specs.Commands.{drive_formatted, pending_ended, as_effect}
use Rattle.model.specs.Commands.{format_drive as format_on}
use Rattle.model.specs.Machine.{Disk, Machine, with_disk, some_parted, filling, reformatted, format_drive}
use Rattle.model.proofs.claim.Mirrors.{Mirrors}
use Rattle.model.proofs.claim.States.{split_zero, parted_zero, split_mirrored}
use Rattle.model.proofs.engine.Outside.{drive_length, drive_label}
use Rattle.model.proofs.claim.Remaking.{drive_remade}
use Rattle.model.proofs.claim.Agrees.{Stored, something, Drives, InStep, Follows}
use Rattle.model.proofs.claim.Ends.{done_drive, well_follows, made_follows}
use Rattle.model.proofs.engine.Judged.{passed_on}
use Rattle.model.proofs.claim.Current.{InForce, mirrored}
use Rattle.model.proofs.claim.OneTrack.{fill_same, fill_sized}

-- the drive after it: what was in force is stored, and not pending
module _ (medium : Medium) (entry : Drive) (image : List ℕ) (u : Disk) (drive : Drives medium entry image u) (p : Params)
    (force : InForce medium entry image u p)
    (s : Track) (inter : ℕ) (fill after : List ℕ) where
  drive_settled : length after ≡ length image → part 0 16 after ≡ entry.config ++ label_rest
      → Mirrors p (reformatted p s inter fill u).kind (reformatted p s inter fill u).inter (reformatted p s inter fill u).held after
      → Drives medium (pending_ended entry) after (reformatted p s inter fill u)
  unfolding pending_ended reformatted
  drive_settled len label mirror =
      let valid : setting_of medium entry.config (length after) ≡ Some p = ap (setting_of medium entry.config) len ∙ force.setting in
      let made = label_made medium entry.config after p label valid in
      record {
        len = drive.len ∙ sym len;
        force = drive.force;
        pending = refl;
        current = λ e. refl;
        stored = subst (Stored medium (reformatted p s inter fill u) after) (sym force.is)
            (something entry.config p valid made.0 made.1 mirror);
      }

module _ (b : Block) (area : List ℕ) (entry : Drive) (buffer image : List ℕ) (m : Machine) (alike : InStep b.drive entry buffer image m)
    (p : Params) (force : InForce (medium_of b.drive) entry image (m.disks b.drive) p)
    (calm : ((m.disks b.drive).pending ≡ false) ⊎ ((track_of p b.address).0 ≡ 0))
    (ours : (track_of p b.address).0 < track_count p) (inter : (0 < b.extra) × (b.extra < p.sectors)) where
  -- both find the same pair split
  split_same : pair_split p (track_of p b.address) image ≡ some_parted (m.disks b.drive).kind (track_of p b.address) (track_count p)
  split_same = by calm
    where
      by : ((m.disks b.drive).pending ≡ false) ⊎ ((track_of p b.address).0 ≡ 0)
          → pair_split p (track_of p b.address) image ≡ some_parted (m.disks b.drive).kind (track_of p b.address) (track_count p)
      by (inl e) = split_mirrored p force.within _ _ _ image (mirrored _ _ _ _ alike.drive p force e) (track_of p b.address)
      by (inr e) =
          ap (λ (k : ℕ). pair_split p (track k) image) e ∙ split_zero p image
          ∙ sym (ap (λ (k : ℕ). some_parted (m.disks b.drive).kind (track k) (track_count p)) e ∙ parted_zero (m.disks b.drive).kind (track_count p))

  -- tracks below s are as before
  below : 0 < (track_of p b.address).0 → Mirrors p (m.disks b.drive).kind (m.disks b.drive).inter (m.disks b.drive).held image
  below h = by calm
    where
      by : ((m.disks b.drive).pending ≡ false) ⊎ ((track_of p b.address).0 ≡ 0)
          → Mirrors p (m.disks b.drive).kind (m.disks b.drive).inter (m.disks b.drive).held image
      by (inl e) = mirrored _ _ _ _ alike.drive p force e
      by (inr e) = absurd (omega arith)

  pub drive_follows : Follows b.drive area image m (as_effect buffer (format_on b p buffer entry image)) (format_drive b p m (m.disks b.drive))
  unfolding format_on format_drive as_effect
  drive_follows =
      let u = m.disks b.drive in
      let s = track_of p b.address in
      let fill = filling b p m in
      let lf = fill_sized b p entry buffer image m alike force.within in
      let ten = setting_ten (medium_of b.drive) entry.config (length image) p force.setting in
      let after = drive_formatted b p entry.config fill image in
      let len = drive_length b p force.within image force.fits entry.config fill ten (omega (arith, lf)) ours in
      rw (split_same, fill_same b p entry buffer image m alike)
      (made_follows b area image m entry buffer alike _ _ _ (λ e.
      well_follows b area image m (pending_ended entry) buffer after (with_disk b.drive (reformatted p s b.extra fill u) m)
      (done_drive _ entry buffer image m alike (pending_ended entry) after (reformatted p s b.extra fill u)
      (drive_settled _ entry image u alike.drive p force s b.extra fill after len
      (drive_label b p force.within image force.fits entry.config fill ten (omega (arith, lf)) ours)
      (drive_remade b p force.within inter fill lf u image force.fits entry.config ten ours
      (λ h. (below h, (passed_on _ _ _ _ e).0)))) len) 0 []))
