-- Where an image mirrors the machine, finding a sector goes as the machine's states say.
use Prim.Native.Nat.{ℕ, ◌<◌, ◌≤◌}
use mathlib.Core.Path.{◌≡◌, refl, sym, ap, ◌∙◌, subst}
use mathlib.Core.List.{List}
use native.Mathlib.Omega.{arith}
use lib.ListN.{length}
use Rattle.base.specs.Pick.{pick}
use Rattle.geometry.specs.declared.params.Lba.{Lba}
use Rattle.geometry.specs.declared.params.Track.{Track}
use Rattle.geometry.specs.declared.params.Params.{Params}
use Rattle.geometry.specs.Params.{Within, image_length, track_count, track_of, sector_of, OnDrive}
use Rattle.interleave.proofs.Slots.{slot_of}
use Rattle.track.specs.declared.state.State.TheVariants.{Sound, Bad, Moved, Taken}
use Rattle.track.specs.Image.{track_bytes, slot_data}
use Rattle.track.specs.Find.{Slot, Fault}
use Rattle.track.specs.Find.{sector_found}
use Rattle.formatter.proofs.Laws.{Formed, found_sound, found_moved, found_bad, found_taken}
use Rattle.model.specs.Verdicts.{Faulty, Passed}
use Rattle.model.specs.Checks.{judged}
use Rattle.model.specs.Machine.{Kind, stateless, sound, bad, moved, taken, is_bad, is_taken, denied}
use Rattle.model.specs.Claim.{is_held}
use Rattle.model.proofs.claim.Mirrors.{state_for, home_of, Mirrors}
use mathlib.Core.Bool.{true, false≢true}
use Rattle.geometry.proofs.Addresses.{track_in, sector_in_lem, same_track}

-- Either the machine uses its bytes and finding gives the slot that has them, or both give one code.
pub data Found (p : Params) (kind : Track → Kind) (inter : Track → ℕ) (held : Lba → List ℕ) (image : List ℕ) (a : Lba) : Type 0 where
  goes : is_held (kind (track_of p a)) ≡ true → judged (denied (kind (track_of p a)) a) ≡ Passed
      → sector_found p (track_of p a) (sector_of p a) image
      ≡ Slot (home_of (track_of p a) (kind (track_of p a))) (slot_of p.sectors (inter (track_of p a)) (sector_of p a))
      → slot_data p (slot_of p.sectors (inter (track_of p a)) (sector_of p a)) (track_bytes p (home_of (track_of p a) (kind (track_of p a))) image) ≡ held a
      → Found p kind inter held image a
  stops : (code : ℕ) → (code ≡ 0 → ⊥) → judged (denied (kind (track_of p a)) a) ≡ Faulty code a
      → sector_found p (track_of p a) (sector_of p a) image ≡ Fault code → Found p kind inter held image a

-- ---- what a track's kind says by itself
module _ (t : Track) (a : Lba) (state : Kind) where
  goes_sound : state ≡ sound → (is_held state ≡ true) × (judged (denied state a) ≡ Passed) × (home_of t state ≡ t)
  unfolding is_held judged denied is_bad is_taken pick home_of
  goes_sound e = rw e (refl, refl, refl)

  goes_moved : (u : Track) → state ≡ moved u → (is_held state ≡ true) × (judged (denied state a) ≡ Passed) × (home_of t state ≡ u)
  unfolding is_held judged denied is_bad is_taken pick home_of
  goes_moved u e = rw e (refl, refl, refl)

  stops_bad : state ≡ bad → judged (denied state a) ≡ Faulty 0x19 a
  unfolding judged denied is_bad is_taken pick
  stops_bad e = rw e

  stops_taken : (u : Track) → state ≡ taken u → judged (denied state a) ≡ Faulty 0x1C a
  unfolding judged denied is_bad is_taken pick
  stops_taken u e = rw e

-- The track whose sectors are in track t.
unfoldable owner_of : Track → Kind → Track
owner_of t stateless = t
owner_of t sound = t
owner_of t bad = t
owner_of t (moved u) = t
owner_of t (taken u) = u

-- ---- the tracks of each kind, as they are formed
module _ (p : Params) (kind : Track → Kind) (inter : Track → ℕ) (held : Lba → List ℕ) (image : List ℕ) (mirror : Mirrors p kind inter held image)
    (t : Track) (h : t.0 < track_count p) where
  formed_for : (k : Kind) → kind t ≡ k → Formed p t (state_for k) (inter t) image
  formed_for k e = rw e at (mirror.formed t h)

  pub sound_formed : kind t ≡ sound → Formed p t Sound (inter t) image
  unfolding state_for
  sound_formed = formed_for sound

  pub bad_formed : kind t ≡ bad → Formed p t Bad (inter t) image
  unfolding state_for
  bad_formed = formed_for bad

  pub taken_formed : (u : Track) → kind t ≡ taken u → Formed p t (Taken u) (inter t) image
  unfolding state_for
  taken_formed u = formed_for (taken u)

  pub moved_formed : (u : Track) → kind t ≡ moved u → Formed p t (Moved u) (inter t) image
  unfolding state_for
  moved_formed u = formed_for (moved u)

module _ (p : Params) (w : Within p) (kind : Track → Kind) (inter : Track → ℕ) (held : Lba → List ℕ) (image : List ℕ)
    (fits : image_length p ≤ length image) (mirror : Mirrors p kind inter held image) where
  some_sector : 0 < p.sectors
  some_sector = omega (arith, w.sectors_some)

  -- a moved track's partner, with the interleave of both
  partner_formed : (t u : Track) → t.0 < track_count p → kind t ≡ moved u → Formed p u (Taken t) (inter t) image
  partner_formed t u h e =
      let pair = mirror.moves t u h e in
      subst (λ (f : ℕ). Formed p u (Taken t) f image) pair.inters (taken_formed p kind inter held image mirror u pair.ours t pair.returned)

  module _ (a : Lba) (h : OnDrive p a) where
    here : (track_of p a).0 < track_count p
    here = track_in p w a h

    found_kind : (k : Kind) → kind (track_of p a) ≡ k → Found p kind inter held image a
    found_kind stateless e = absurd (mirror.stated (track_of p a) here e)
    found_kind sound e =
        let t = track_of p a in
        let k = goes_sound t a (kind t) e in
        goes k.0 k.1
        (rw k.2
        (found_sound p t (inter t) (sector_of p a) image some_sector (sector_in_lem p w a) (sound_formed p kind inter held image mirror t here e)))
        (mirror.kept a h k.0)
    found_kind bad e =
        let t = track_of p a in
        stops 0x19 (λ z. omega (arith, z)) (stops_bad t a (kind t) e)
        (found_bad p t (inter t) (sector_of p a) image some_sector (sector_in_lem p w a) (bad_formed p kind inter held image mirror t here e))
    found_kind (moved u) e =
        let t = track_of p a in
        let k = goes_moved t a (kind t) u e in
        goes k.0 k.1
        (rw k.2
        (found_moved p t (inter t) (sector_of p a) image some_sector (sector_in_lem p w a) u (inter t) (mirror.moves t u here e).ours
        (moved_formed p kind inter held image mirror t here u e) (partner_formed t u here e)))
        (mirror.kept a h k.0)
    found_kind (taken u) e =
        let t = track_of p a in
        stops 0x1C (λ z. omega (arith, z)) (stops_taken t a (kind t) u e)
        (found_taken p t (inter t) (sector_of p a) image some_sector (sector_in_lem p w a) u (taken_formed p kind inter held image mirror t here u e))

  pub found_by : (a : Lba) → OnDrive p a → Found p kind inter held image a
  found_by a h = found_kind a h (kind (track_of p a)) refl

  -- ---- the home of a held track is one of the drive, and no two held addresses share a slot
  home_kind : (t : Track) (k : Kind) → t.0 < track_count p → kind t ≡ k → (home_of t k).0 < track_count p
  unfolding home_of
  home_kind t stateless h e = h
  home_kind t sound h e = h
  home_kind t bad h e = h
  home_kind t (moved u) h e = (mirror.moves t u h e).ours
  home_kind t (taken u) h e = h

  pub home_ours : (t : Track) → t.0 < track_count p → (home_of t (kind t)).0 < track_count p
  home_ours t h = home_kind t (kind t) h refl

  -- the home says whose it is
  owned : (t : Track) (k : Kind) → t.0 < track_count p → kind t ≡ k → is_held k ≡ true → owner_of (home_of t k) (kind (home_of t k)) ≡ t
  unfolding home_of is_held owner_of
  owned t stateless h e held = absurd (false≢true held)
  owned t sound h e held = rw e
  owned t bad h e held = absurd (false≢true held)
  owned t (moved u) h e held = rw (mirror.moves t u h e).returned
  owned t (taken u) h e held = absurd (false≢true held)

  pub home_apart : (t v : Track) → t.0 < track_count p → v.0 < track_count p → is_held (kind t) ≡ true → is_held (kind v) ≡ true
      → (t.0 ≡ v.0 → ⊥) → (home_of t (kind t)).0 ≡ (home_of v (kind v)).0 → ⊥
  home_apart t v ht hv kt kv ne e =
      let one : t ≡ v =
      sym (owned t (kind t) ht refl kt) ∙ ap (λ (x : Track). owner_of x (kind x)) (same_track _ _ e) ∙ owned v (kind v) hv refl kv in
      ne (ap (λ (x : Track). x.0) one)
