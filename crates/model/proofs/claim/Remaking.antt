-- Formats and assignments: the image made anew mirrors the machine made anew, and keeps the rest.
use Prim.Native.Nat.{ℕ, ◌<◌, ◌≤◌}
use mathlib.Core.Path.{◌≡◌, sym, ◌∙◌}
use mathlib.Core.Bool.{false}
use mathlib.Core.List.{List, ◌++◌}
use lib.ListN.{length}
use Rattle.geometry.specs.declared.params.Track.{Track}
use Rattle.geometry.specs.declared.params.Params.{Params}
use Rattle.geometry.specs.Params.{Within, image_length, track_count, track_of}
use Rattle.geometry.specs.Medium.{medium_of}
use Rattle.geometry.specs.Config.{label_rest}
use Rattle.geometry.proofs.Labels.{sixteen}
use Rattle.track.specs.declared.state.State.TheVariants.{Sound, Bad, Moved, Taken}
use Rattle.model.specs.declared.block.Block.{Block}
use Rattle.model.specs.Commands.{made_at, plain_fill, drive_formatted, assigned}
use Rattle.model.specs.Machine.{Disk, sound, bad, moved, taken, becomes, filled, reformatted, some_parted, is_moved, is_taken, moving}
use Rattle.model.proofs.claim.Mirrors.{state_for, Mirrors, KeepsLabel}
use Rattle.model.proofs.claim.Change.{shaped, fills, sound_anew, bad_anew, moved_anew, taken_anew, mirrors_but}
use Rattle.model.proofs.claim.Making.{keeps_then, anew_then, label_then, filled_here, filled_keeps, filled_anew, made_label, made_anew, made_keeps, past_made}
use Rattle.model.proofs.claim.Sweeping.{mirrors_swept}
use Rattle.model.proofs.engine.Outside.{plain_length}

-- What is to be shown of a disk and an image after a command.
pub record Remade (p : Params) (u : Disk) (before after : List ℕ) : Type 0 where
  pub mirror : Mirrors p u.kind u.inter u.held after
  pub keeps : KeepsLabel before after

module _ (b : Block) (p : Params) (w : Within p) (hf : (0 < b.extra) × (b.extra < p.sectors)) (fill : List ℕ) (lf : length fill ≡ p.size)
    (u : Disk) (image : List ℕ) (fits : image_length p ≤ length image) where
  module _ (mirror : Mirrors p u.kind u.inter u.held image) where
    pub sound_remade : (t : Track) → t.0 < track_count p → is_moved (u.kind t) ≡ false → is_taken (u.kind t) ≡ false
        → Remade p (filled p t fill (becomes t sound b.extra u)) image (made_at b p t Sound fill image)
    unfolding state_for filled
    sound_remade t h nm nt =
        let u₁ = becomes t sound b.extra u in
        let image₁ = made_at b p t Sound fill image in
        let anew =
        sound_anew p w (filled p t fill u₁) image₁ b.extra hf t fill lf
        (filled_anew p t fill u₁ image₁ t sound b.extra fill (made_anew b p w t h sound fill lf image fits u)) (filled_here p t fill u₁) in
        record {
          mirror = mirrors_but p w u (filled p t fill u₁) image image₁ mirror t t nm nt nm nt anew anew
              (λ v hv ne same. keeps_then p u u₁ (filled p t fill u₁) image image₁ image₁ v
              (made_keeps b p w t h sound fill lf image fits u v hv ne) (filled_keeps p t fill u₁ image₁ v ne))
              (past_made p t sound b.extra u h);
          keeps = made_label b p w t h sound fill lf image fits;
        }

    pub bad_remade : (t : Track) → t.0 < track_count p → is_moved (u.kind t) ≡ false → is_taken (u.kind t) ≡ false
        → Remade p (becomes t bad b.extra u) image (made_at b p t Bad fill image)
    unfolding state_for
    bad_remade t h nm nt =
        let u₁ = becomes t bad b.extra u in
        let image₁ = made_at b p t Bad fill image in
        let anew = bad_anew p w u₁ image₁ b.extra hf t fill lf (made_anew b p w t h bad fill lf image fits u) in
        record {
          mirror = mirrors_but p w u u₁ image image₁ mirror t t nm nt nm nt anew anew
              (λ v hv ne same. made_keeps b p w t h bad fill lf image fits u v hv ne) (past_made p t bad b.extra u h);
          keeps = made_label b p w t h bad fill lf image fits;
        }

    pub assign_remade : (A B : Track) → A.0 < track_count p → B.0 < track_count p → (A.0 ≡ B.0 → ⊥)
        → is_moved (u.kind A) ≡ false → is_taken (u.kind A) ≡ false → is_taken (u.kind B) ≡ false → is_moved (u.kind B) ≡ false
        → Remade p (filled p A fill (moving A B b.extra u)) image (assigned b p A B fill image)
    unfolding moving assigned state_for filled
    assign_remade A B h_a h_b ne m_a t_a t_b m_b =
        let f = b.extra in
        let plain = plain_fill (medium_of b.drive) p in
        let u₁ = becomes A (moved B) f u in
        let image₁ = made_at b p A (Moved B) plain image in
        let u₂ = becomes B (taken A) f u₁ in
        let image₂ = made_at b p B (Taken A) fill image₁ in
        let u₃ = filled p A fill u₂ in
        let label₁ = made_label b p w A h_a (moved B) plain (plain_length (medium_of b.drive) p) image fits in
        let fits₁ : image_length p ≤ length image₁ = rw label₁.len fits in
        let keeps₁ = made_keeps b p w A h_a (moved B) plain (plain_length (medium_of b.drive) p) image fits u in
        let keeps₂ = made_keeps b p w B h_b (taken A) fill lf image₁ fits₁ u₁ in
        let plain-sized = plain_length (medium_of b.drive) p in
        let is_a =
        filled_anew p A fill u₂ image₂ A (moved B) f plain
        (anew_then p u₁ u₂ image₁ image₂ A (moved B) f plain (made_anew b p w A h_a (moved B) plain (plain_length (medium_of b.drive) p) image fits u) (keeps₂ A h_a ne)) in
        let is_b = filled_anew p A fill u₂ image₂ B (taken A) f fill (made_anew b p w B h_b (taken A) fill lf image₁ fits₁ u₁) in
        record {
          mirror = mirrors_but p w u u₃ image image₂ mirror A B m_a t_a m_b t_b
              (moved_anew p w u₃ image₂ f hf A B h_a h_b (shaped p w u₃ image₂ f hf A (moved B) plain plain-sized is_a) (shaped p w u₃ image₂ f hf B (taken A) fill lf is_b)
              (λ a l at. fills p w u₃ image₂ f hf B (taken A) fill lf is_b a ∙ sym (filled_here p A fill u₂ a at)))
              (taken_anew p w u₃ image₂ f hf A B h_a h_b (shaped p w u₃ image₂ f hf A (moved B) plain plain-sized is_a) (shaped p w u₃ image₂ f hf B (taken A) fill lf is_b))
              (λ v hv not_a not_b. keeps_then p u u₁ u₃ image image₁ image₂ v (keeps₁ v hv not_a)
              (keeps_then p u₁ u₂ u₃ image₁ image₂ image₂ v (keeps₂ v hv not_b) (filled_keeps p A fill u₂ image₂ v not_a)))
              (λ v l. past_made p B (taken A) f u₁ h_b v l ∙ past_made p A (moved B) f u h_a v l);
          keeps = label_then image image₁ image₂ label₁ (made_label b p w B h_b (taken A) fill lf image₁ fits₁);
        }

  -- Format Drive: below s the image must mirror the machine before, and no pair may be split; from track 0 on nothing is asked.
  pub drive_remade : (config : List ℕ) → length config ≡ 10 → (track_of p b.address).0 < track_count p
      → (0 < (track_of p b.address).0 → Mirrors p u.kind u.inter u.held image × (some_parted u.kind (track_of p b.address) (track_count p) ≡ false))
      → Mirrors p (reformatted p (track_of p b.address) b.extra fill u).kind (reformatted p (track_of p b.address) b.extra fill u).inter
      (reformatted p (track_of p b.address) b.extra fill u).held (drive_formatted b p config fill image)
  unfolding drive_formatted
  drive_remade config ten h below =
      mirrors_swept p w b.extra fill lf image fits (track_of p b.address) h (config ++ label_rest) (sixteen config ten) u hf below
