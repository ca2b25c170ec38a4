-- The commands on one track: Check Track, Format Track, Format Bad Track, Assign Alternate.
use Prim.Native.Nat.{ℕ, ◌<◌}
use mathlib.Core.Path.{◌≡◌, refl, sym, ap, ◌∙◌}
use mathlib.Core.Bool.{Bool, true, false, not, ◌&&◌, and-true, and-false, true≢false}
use mathlib.Core.List.{List, []}
use native.Mathlib.Omega.{arith}
use lib.ListN.{length, take}
use borrow.Author.Tests.{eqb-false, leb-false}
use Rattle.base.specs.Pick.{pick}
use Rattle.base.specs.Part.{part}
use Rattle.base.specs.Byte.{byte}
use Rattle.base.proofs.Parts.{length_part}
use Rattle.base.proofs.Decide.{pick-false, pick-both}
use Rattle.base.proofs.Bools.{or_off}
use Rattle.geometry.specs.declared.params.Lba.{Lba}
use Rattle.geometry.specs.declared.params.Track.{Track}
use Rattle.geometry.specs.declared.params.Params.{Params}
use Rattle.geometry.specs.declared.medium.Medium.{Medium}
use Rattle.geometry.specs.declared.medium.Medium.TheVariants.{HardDisk, Floppy}
use Rattle.geometry.specs.Params.{Within, track_count, track_of, OnDrive}
use Rattle.geometry.specs.Medium.{medium_of, is_floppy}
use Rattle.geometry.proofs.Addresses.{track_in}
use Rattle.interleave.specs.Layout.{layout_of}
use Rattle.track.specs.declared.state.State.TheVariants.{Sound, Bad}
use Rattle.model.specs.declared.block.Block.{Block}
use Rattle.model.specs.declared.record.Drive.{Drive}
use Rattle.model.specs.Verdicts.{Passed}
use Rattle.model.specs.Block.{from_buffer, keeps, alternate_of}
use Rattle.model.specs.Checks.{judged}
use Rattle.model.specs.Record.{good, made}
use Rattle.keeping.specs.Keep.{kept}
use Rattle.model.specs.Commands.{plain_byte, plain_fill, fill_of, assigned, missing_in, alternated, as_effect}
use Rattle.model.specs.Commands.{check_track as check_on, format_track as format_on, assign_alternate as assign_on}
use Rattle.model.specs.Machine.{Kind, stateless, sound, bad, moved, taken, Disk, Machine, with_disk, becomes, filled, moving, paired, unassignable, is_bad, is_moved, is_taken, well, filling_on, filling, check_track, format_track, format_bad_track, address_given, assign_to, assign_alternate}
use Rattle.model.proofs.claim.Mirrors.{Mirrors}
use Rattle.model.proofs.claim.States.{alone_mirrored, check_mirrored, assign_mirrored}
use Rattle.model.proofs.engine.Outside.{plain_length}
use Rattle.model.proofs.claim.Remaking.{Remade, sound_remade, bad_remade, assign_remade}
use Rattle.model.proofs.claim.Keeping.{keep_remade, sound_keepable}
use Rattle.model.proofs.claim.Passages.{OnlyHeld}
use Rattle.model.proofs.claim.Agrees.{InStep, Follows}
use Rattle.model.proofs.claim.Ends.{done_drive, well_follows, done_follows, made_follows, ending_follows}
use Rattle.model.proofs.engine.Judged.{passed_on}
use Rattle.model.proofs.claim.Current.{InForce, mirrored, drive_again}

-- ---- the fill
-- one fill, on either medium
fill_on : (medium : Medium) (b : Block) (p : Params) (m : Machine)
    → pick (from_buffer b && not (is_floppy medium)) (take p.size m.buffer) (plain_fill medium p) ≡ filling_on medium b p m
unfolding is_floppy plain_fill plain_byte filling_on
fill_on HardDisk b p m = rw (and-true (from_buffer b))
fill_on Floppy b p m = rw (and-false (from_buffer b)) (pick-false false _ _ refl)

module _ (b : Block) (p : Params) (entry : Drive) (buffer image : List ℕ) (m : Machine) (alike : InStep b.drive entry buffer image m) where
  pub fill_same : fill_of b p buffer ≡ filling b p m
  unfolding fill_of filling part
  fill_same = rw alike.buffered (fill_on (medium_of b.drive) b p m)

  pub fill_sized : Within p → length (filling b p m) ≡ p.size
  unfolding fill_of
  fill_sized w =
      ap length (sym fill_same)
      ∙ pick-both (λ (l : List ℕ). length l ≡ p.size) _ _ _ (length_part 0 p.size buffer (omega (arith, w.size_most, alike.whole)))
      (plain_length (medium_of b.drive) p)

paired_passed : (kind : Kind) (a : Lba) → judged (paired kind a) ≡ Passed → (is_moved kind ≡ false) × (is_taken kind ≡ false)
unfolding paired
paired_passed kind a e = let t = passed_on _ _ _ _ e in (t.0, (passed_on _ _ _ _ t.1).0)

-- tracks A and B at addresses a and b, where an assignment is not denied
record Assignable (kind : Track → Kind) (p : Params) (keep : Bool) (a b : Lba) : Type 0 where
  inside : OnDrive p b
  apart : (track_of p a).0 ≡ (track_of p b).0 → ⊥
  moved_a : is_moved (kind (track_of p a)) ≡ false
  taken_a : is_taken (kind (track_of p a)) ≡ false
  taken_b : is_taken (kind (track_of p b)) ≡ false
  moved_b : is_moved (kind (track_of p b)) ≡ false
  bad_b : is_bad (kind (track_of p b)) ≡ false
  bad_a : (keep && is_bad (kind (track_of p a))) ≡ false

assignable : (kind : Track → Kind) (p : Params) (keep : Bool) (first : ℕ) (a b : Lba) → judged (unassignable kind p keep first a b) ≡ Passed → Assignable kind p keep a b
unfolding unassignable
assignable kind p keep first a b e =
    let t₁ = passed_on _ _ _ _ e in
    let t₂ = passed_on _ _ _ _ t₁.1 in
    let t₃ = passed_on _ _ _ _ t₂.1 in
    let t₄ = passed_on _ _ _ _ t₃.1 in
    let t₅ = passed_on _ _ _ _ t₄.1 in
    let t₆ = passed_on _ _ _ _ t₅.1 in
    let t₇ = passed_on _ _ _ _ t₆.1 in
    let t₈ = passed_on _ _ _ _ t₇.1 in
    record {
      inside = leb-false _ _ t₂.0;
      apart = eqb-false _ _ t₅.0;
      moved_a = t₃.0;
      taken_a = t₄.0;
      taken_b = t₆.0;
      moved_b = (or_off _ _ t₇.0).0;
      bad_b = (or_off (is_moved (kind (track_of p b))) _ t₇.0).1;
      bad_a = t₈.0;
    }

-- a track with a state that is neither bad, moved nor taken is sound
only_sound : (k : Kind) → (k ≡ stateless → ⊥) → is_bad k ≡ false → is_moved k ≡ false → is_taken k ≡ false → k ≡ sound
unfolding is_bad is_moved is_taken
only_sound stateless s b m t = absurd (s refl)
only_sound sound s b m t = refl
only_sound bad s b m t = absurd (true≢false b)
only_sound (moved u) s b m t = absurd (true≢false m)
only_sound (taken u) s b m t = absurd (true≢false t)

-- ---- a format leaves length, configurations and pending
becomes_only : (t : Track) (kind : Kind) (inter : ℕ) (u : Disk) → OnlyHeld u (becomes t kind inter u)
unfolding becomes
becomes_only t kind inter u = record { len = refl; stored = refl; force = refl; pending = refl }

filled_only : (p : Params) (t : Track) (fill : List ℕ) (kind : Kind) (inter : ℕ) (u : Disk) → OnlyHeld u (filled p t fill (becomes t kind inter u))
unfolding becomes filled
filled_only p t fill kind inter u = record { len = refl; stored = refl; force = refl; pending = refl }

moving_only : (A B : Track) (inter : ℕ) (u : Disk) → OnlyHeld u (moving A B inter u)
unfolding becomes moving
moving_only A B inter u = record { len = refl; stored = refl; force = refl; pending = refl }

assign_only : (p : Params) (A B : Track) (inter : ℕ) (fill : List ℕ) (u : Disk) → OnlyHeld u (filled p A fill (moving A B inter u))
unfolding becomes filled moving
assign_only p A B inter fill u = record { len = refl; stored = refl; force = refl; pending = refl }

-- ---- a command on parameters in force that are not pending
module _ (b : Block) (area : List ℕ) (entry : Drive) (buffer image : List ℕ) (m : Machine) (alike : InStep b.drive entry buffer image m)
    (p : Params) (force : InForce (medium_of b.drive) entry image (m.disks b.drive) p) (calm : (m.disks b.drive).pending ≡ false) where
  mirror : Mirrors p (m.disks b.drive).kind (m.disks b.drive).inter (m.disks b.drive).held image
  mirror = mirrored _ _ _ _ alike.drive p force calm

  remade_follows : (v : Disk) (after : List ℕ) → OnlyHeld (m.disks b.drive) v → Remade p v image after
      → Follows b.drive area image m (as_effect buffer (made (good b.drive 0 0 entry) after)) (well b 0 [] (with_disk b.drive v m))
  unfolding as_effect
  remade_follows v after same made =
      well_follows b area image m entry buffer after (with_disk b.drive v m)
      (done_drive _ entry buffer image m alike entry after v
      (drive_again _ _ _ _ alike.drive p force calm v after same made.keeps made.mirror) made.keeps.len) 0 []

  module _ (ours : (track_of p b.address).0 < track_count p) (inter : (0 < b.extra) × (b.extra < p.sectors)) where
    pub check_follows : Follows b.drive area image m (as_effect buffer (made (check_on b p entry image) image)) (check_track b p m (m.disks b.drive))
    unfolding check_on check_track as_effect
    check_follows =
        rw (check_mirrored p force.within _ _ _ image mirror (track_of p b.address) b.address b.extra ours inter)
        (ending_follows b area image m entry buffer alike _ _ _ (λ e. done_follows b area image m entry buffer alike))

    pub sound_follows : Follows b.drive area image m (as_effect buffer (format_on b p Sound (fill_of b p buffer) entry image)) (format_track b p m (m.disks b.drive))
    unfolding format_on format_track
    sound_follows =
        let u = m.disks b.drive in
        let t = track_of p b.address in
        rw (alone_mirrored p force.within _ _ _ image mirror t b.address ours, fill_same b p entry buffer image m alike)
        (made_follows b area image m entry buffer alike _ _ _ (λ e.
        let free = paired_passed (u.kind t) b.address e in
        remade_follows (filled p t (filling b p m) (becomes t sound b.extra u)) _ (filled_only p t _ sound b.extra u)
        (sound_remade b p force.within inter (filling b p m) (fill_sized b p entry buffer image m alike force.within) u image force.fits mirror
        t ours free.0 free.1)))

    pub bad_follows : Follows b.drive area image m (as_effect buffer (format_on b p Bad (plain_fill (medium_of b.drive) p) entry image))
        (format_bad_track b p m (m.disks b.drive))
    unfolding format_on format_bad_track
    bad_follows =
        let u = m.disks b.drive in
        let t = track_of p b.address in
        rw (alone_mirrored p force.within _ _ _ image mirror t b.address ours)
        (made_follows b area image m entry buffer alike _ _ _ (λ e.
        let free = paired_passed (u.kind t) b.address e in
        remade_follows (becomes t bad b.extra u) _ (becomes_only t bad b.extra u)
        (bad_remade b p force.within inter (plain_fill (medium_of b.drive) p) (plain_length (medium_of b.drive) p) u image force.fits mirror
        t ours free.0 free.1)))

    -- ---- Assign Alternate, with keep and without
    module _ (given : List ℕ) where
      abbrev A : Track
      A = track_of p b.address

      abbrev B : Track
      B = track_of p (alternate_of given)

      abbrev u : Disk
      u = m.disks b.drive

      kept_follows : Assignable u.kind p true b.address (alternate_of given) → Follows b.drive area image m
          (as_effect buffer (made (good b.drive 0 0 entry) (kept p A B (layout_of p.sectors b.extra) image))) (well b 0 [] (with_disk b.drive (moving A B b.extra u) m))
      kept_follows free =
          let w = force.within in
          let h_b = track_in p w (alternate_of given) free.inside in
          let whole = only_sound (u.kind A) (mirror.stated A ours) free.bad_a free.moved_a free.taken_a in
          let other = only_sound (u.kind B) (mirror.stated B h_b) free.bad_b free.moved_b free.taken_b in
          remade_follows (moving A B b.extra u) _ (moving_only A B b.extra u)
          (keep_remade p w b.extra inter u image force.fits mirror A B (sound_keepable p w u.kind u.inter u.held image force.fits mirror A B ours h_b free.apart whole other)
          free.moved_a free.taken_a free.moved_b free.taken_b whole)

      assigned_follows : Assignable u.kind p false b.address (alternate_of given) → Follows b.drive area image m
          (as_effect buffer (made (good b.drive 0 0 entry) (assigned b p A B (filling b p m) image))) (well b 0 [] (with_disk b.drive (filled p A (filling b p m) (moving A B b.extra u)) m))
      assigned_follows free =
          remade_follows (filled p A (filling b p m) (moving A B b.extra u)) _ (assign_only p A B b.extra (filling b p m) u)
          (assign_remade b p force.within inter (filling b p m) (fill_sized b p entry buffer image m alike force.within) u image force.fits mirror
          A B ours (track_in p force.within (alternate_of given) free.inside) free.apart
          free.moved_a free.taken_a free.taken_b free.moved_b)

      either_follows : (keep : Bool) → Assignable u.kind p keep b.address (alternate_of given) → Follows b.drive area image m
          (as_effect buffer (made (good b.drive 0 0 entry) (pick keep (kept p A B (layout_of p.sectors b.extra) image) (assigned b p A B (filling b p m) image))))
          (well b 0 [] (with_disk b.drive (pick keep (moving A B b.extra u) (filled p A (filling b p m) (moving A B b.extra u))) m))
      unfolding pick
      either_follows true free = kept_follows free
      either_follows false free = assigned_follows free

      pub assign_follows : Follows b.drive area image m (as_effect buffer (assign_on b p buffer given entry image)) (assign_alternate b p given m u)
      unfolding assign_on assign_alternate alternate_of address_given missing_in alternated assign_to
      assign_follows =
          rw (assign_mirrored p force.within _ _ _ image mirror (keeps b) (byte given 0) b.address (alternate_of given) ours, fill_same b p entry buffer image m alike)
          (made_follows b area image m entry buffer alike _ _ _ (λ e.
          either_follows (keeps b) (assignable u.kind p (keeps b) (byte given 0) b.address (alternate_of given) e)))
