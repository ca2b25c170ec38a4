-- Assign Alternate with keep (request E7): what A held is in B, the image mirrors the machine with A moved to B, and the rest is kept.
use Prim.Native.Nat.{ℕ, ◌≤◌, ◌<◌}
use mathlib.Core.Path.{◌≡◌, refl, sym, ap, ◌∙◌}
use mathlib.Core.Logic.{inl}
use mathlib.Core.Bool.{false}
use mathlib.Core.List.{List}
use native.Mathlib.Omega.{arith}
use lib.ListN.{length}
use borrow.Author.Tests.{eq-eqb, ne_eqb}
use Rattle.base.proofs.Decide.{pick_true, pick-false}
use Rattle.geometry.specs.declared.params.Lba.{Lba}
use Rattle.geometry.specs.declared.params.Track.{Track}
use Rattle.geometry.specs.declared.params.Params.{Params}
use Rattle.geometry.specs.Params.{Within, image_length, track_count, track_of, sector_of, OnDrive}
use Rattle.geometry.proofs.Addresses.{sector_in_lem}
use Rattle.interleave.specs.Layout.{layout_of}
use Rattle.interleave.proofs.Slots.{slot_of, slot_lt, sector_slot}
use Rattle.track.specs.declared.state.State.TheVariants.{Sound, Moved}
use Rattle.track.specs.Image.{Fits, track_bytes, slot_data}
use Rattle.track.specs.Pair.{state_of}
use Rattle.formatter.proofs.Laws.{found_sound}
use Rattle.contents.specs.Content.{read_bytes, content_at}
use Rattle.keeping.specs.Keep.{kept, Mapped, Keepable}
use Rattle.keeping.proofs.Laws.{content_slot, may_keep, sound_code, same_length, same_beyond, same_track_in, layout_maps, kept_late, kept_there, kept_moved, kept_taken}
use Rattle.model.specs.Machine.{Kind, Disk, sound, moved, taken, becomes, moving, is_moved, is_taken}
use Rattle.model.specs.Claim.{is_held}
use Rattle.model.proofs.claim.Mirrors.{state_for, home_of, Mirrors}
use Rattle.model.proofs.claim.Finding.{sound_formed}
use Rattle.model.proofs.claim.States.{state_mirrored}
use Rattle.model.proofs.claim.Change.{Keeps, Shaped, mirrors_at, moved_anew, taken_anew, mirrors_but}
use Rattle.model.proofs.claim.Making.{past_made}
use Rattle.model.proofs.claim.Remaking.{Remade}

sound_moved : (u : Track) → Sound ≡ Moved u → ⊥
sound_moved u e = let z : ◌≡◌ {A = ℕ} 0 1 = cc in omega arith

-- ---- the machine: A is moved to B, B taken by A, every other track keeps its state
module _ (A B : Track) (f : ℕ) (u : Disk) (ne : A.0 ≡ B.0 → ⊥) where
  moving_first : ((moving A B f u).kind A ≡ moved B) × ((moving A B f u).inter A ≡ f)
  unfolding moving becomes
  moving_first = (
    pick-false _ _ _ (ne_eqb A.0 B.0 ne) ∙ pick_true _ _ _ (eq-eqb A.0 A.0 refl),
    pick-false _ _ _ (ne_eqb A.0 B.0 ne) ∙ pick_true _ _ _ (eq-eqb A.0 A.0 refl),
  )

  moving_second : ((moving A B f u).kind B ≡ taken A) × ((moving A B f u).inter B ≡ f)
  unfolding moving becomes
  moving_second = (pick_true _ _ _ (eq-eqb B.0 B.0 refl), pick_true _ _ _ (eq-eqb B.0 B.0 refl))

  moving_other : (v : Track) → (v.0 ≡ A.0 → ⊥) → (v.0 ≡ B.0 → ⊥) → ((moving A B f u).kind v ≡ u.kind v) × ((moving A B f u).inter v ≡ u.inter v)
  unfolding moving becomes
  moving_other v na nb = (
    pick-false _ _ _ (ne_eqb v.0 B.0 nb) ∙ pick-false _ _ _ (ne_eqb v.0 A.0 na),
    pick-false _ _ _ (ne_eqb v.0 B.0 nb) ∙ pick-false _ _ _ (ne_eqb v.0 A.0 na),
  )

moving_held : (A B : Track) (f : ℕ) (u : Disk) (a : Lba) → (moving A B f u).held a ≡ u.held a
unfolding moving becomes
moving_held A B f u a = refl

-- ---- the image
module _ (p : Params) (w : Within p) (f : ℕ) (hf : (0 < f) × (f < p.sectors)) (u : Disk) (image : List ℕ) (fits : image_length p ≤ length image)
    (mirror : Mirrors p u.kind u.inter u.held image) (A B : Track) (may : Keepable p A B image)
    (m_a : is_moved (u.kind A) ≡ false) (t_a : is_taken (u.kind A) ≡ false) (m_b : is_moved (u.kind B) ≡ false) (t_b : is_taken (u.kind B) ≡ false)
    (whole : u.kind A ≡ sound) where
  abbrev map : List ℕ
  map = layout_of p.sectors f

  abbrev after : List ℕ
  after = kept p A B map image

  some : 0 < p.sectors
  some = omega (arith, w.sectors_some)

  fit : Fits p image
  fit = record { within = w; long = fits }

  maps : Mapped p.sectors map
  maps = layout_maps p.sectors f some

  shaped_a : Shaped p (moving A B f u) after A (moved B) f
  unfolding state_for
  shaped_a = let r = moving_first A B f u may.apart in record { kind = r.0; inter = r.1; forms = kept_moved p A B map image fit maps may f refl }

  shaped_b : Shaped p (moving A B f u) after B (taken A) f
  unfolding state_for
  shaped_b = let r = moving_second A B f u may.apart in record { kind = r.0; inter = r.1; forms = kept_taken p A B map image fit maps may f refl }

  -- what A held at an address
  home_sound : track_bytes p (home_of A (u.kind A)) image ≡ track_bytes p A image
  unfolding home_of
  home_sound = rw whole

  was : (a : Lba) → OnDrive p a → track_of p a ≡ A → read_bytes (content_at p A (sector_of p a) image) ≡ u.held a
  unfolding read_bytes is_held
  was a h is =
      let s = sector_of p a in
      let form = sound_formed p u.kind u.inter u.held image mirror A may.from_in whole in
      ap read_bytes (content_slot p A A s _ image (found_sound p A (u.inter A) s image some (sector_in_lem p w a) form))
      ∙ ap (slot_data p (slot_of p.sectors (u.inter A) s)) (sym home_sound) ∙ (mirrors_at p u image mirror A may.from_in).kept a h is (rw whole)

  -- it is in B, in the slot of its sector
  now : (a : Lba) → OnDrive p a → track_of p a ≡ A → slot_data p (slot_of p.sectors f (sector_of p a)) (track_bytes p B after) ≡ (moving A B f u).held a
  now a h is =
      let s = sector_of p a in
      let hs = sector_in_lem p w a in
      kept_there p A B map image fit maps may (slot_of p.sectors f s) (slot_lt p.sectors f s hs)
      ∙ ap (λ (i : ℕ). read_bytes (content_at p A i image)) (sector_slot p.sectors f s hs) ∙ was a h is ∙ sym (moving_held A B f u a)

  others : (v : Track) → v.0 < track_count p → (v.0 ≡ A.0 → ⊥) → (v.0 ≡ B.0 → ⊥) → Keeps p u (moving A B f u) image after v
  others v hv na nb =
      let r = moving_other A B f u may.apart v na nb in
      record {
        kind = r.0;
        inter = r.1;
        held = λ a is. moving_held A B f u a;
        bytes = same_track_in p A B map image fit maps may after (kept_late p A B map image fit maps may) v hv na nb;
      }

  past : (v : Track) → track_count p ≤ v.0 → (moving A B f u).kind v ≡ u.kind v
  unfolding moving
  past v l = past_made p B (taken A) f (becomes A (moved B) f u) may.to_in v l ∙ past_made p A (moved B) f u may.from_in v l

  pub keep_remade : Remade p (moving A B f u) image after
  keep_remade =
      let late = kept_late p A B map image fit maps may in
      record {
        mirror = mirrors_but p w u (moving A B f u) image after mirror A B m_a t_a m_b t_b
            (moved_anew p w (moving A B f u) after f hf A B may.from_in may.to_in shaped_a shaped_b now)
            (taken_anew p w (moving A B f u) after f hf A B may.from_in may.to_in shaped_a shaped_b) others past;
        keeps = record {
          len = same_length p A B map image fit maps may after late;
          label = λ at size h. same_beyond p A B map image fit maps may after late at size (inl h);
        };
      }

-- ---- sound tracks of the machine can be moved so
pub sound_keepable : (p : Params) (w : Within p) (kind : Track → Kind) (inter : Track → ℕ) (held : Lba → List ℕ) (image : List ℕ) → image_length p ≤ length image → Mirrors p kind inter held image
    → (A B : Track) → A.0 < track_count p → B.0 < track_count p → (A.0 ≡ B.0 → ⊥) → kind A ≡ sound → kind B ≡ sound → Keepable p A B image
unfolding state_for
sound_keepable p w kind inter held image fits mirror A B h_a h_b ne e_a e_b =
    let some : 0 < p.sectors = omega (arith, w.sectors_some) in
    let state : (t : Track) → t.0 < track_count p → kind t ≡ sound → state_of p t image ≡ Sound =
    λ t h e. state_mirrored p w kind inter held image mirror t h ∙ ap state_for e in
    may_keep p A B image (record { within = w; long = fits }) h_a h_b ne (inl (state B h_b e_b)) (λ u e. sound_moved u (sym (state A h_a e_a) ∙ e))
    (sound_code p A (inter A) image some (sound_formed p kind inter held image mirror A h_a e_a))
