-- Finding depends on ID bytes only; so a write of data, which keeps every ID, changes no outcome of finding.
use mathlib.Core.Path.{◌≡◌, refl, sym, ap, ◌∙◌}
use mathlib.Core.List.{List}
use Prim.Native.Nat.{ℕ, ◌≤◌, ◌<◌}
use native.Mathlib.Omega.{arith}
use native.Mathlib.Decide.{dec_lt, ℕ_discrete}
use lib.ListN.{length}
use borrow.Author.Tests.{le-ltb}
use Rattle.geometry.specs.declared.params.Params.{Params}
use Rattle.geometry.specs.declared.params.Track.{Track}
use Rattle.geometry.specs.Params.{track_count, track_size, image_length, track}
use Rattle.track.specs.declared.id.Id.{Id}
use Rattle.track.specs.Find.{Where}
use Rattle.track.specs.Find.{On, Off}
use Rattle.track.specs.Id.{id_in, own_id}
use Rattle.track.specs.Image.{track_bytes, with_track, slot_id, with_data, first_id}
use Rattle.track.specs.Find.{taken_by, where_by, where_of, slot_used, sector_in, sector_from, sector_found}
use Rattle.track.proofs.Images.{length_track, track_same, track_other, length_with_data, id_kept}
use Rattle.track.proofs.Alike.{slot_alike}
use Rattle.track.proofs.Takens.{taken_past}
use Rattle.track.proofs.Finds.{where_in}

-- two images with the same ID in every slot of every track
pub record SameIds (p : Params) (a b : List ℕ) : Type 0 where
  pub ids : (t : Track) (k : ℕ) → t.0 < track_count p → k < p.sectors → slot_id p k (track_bytes p t a) ≡ slot_id p k (track_bytes p t b)

module _ (p : Params) (a b : List ℕ) (some_sector : 0 < p.sectors) (same : SameIds p a b) where
  first_id_same : (t : Track) → t.0 < track_count p → first_id p t a ≡ first_id p t b
  unfolding first_id
  first_id_same t h = ap id_in (same.ids t 0 h some_sector)

  -- a partner past the last track is not looked at
  taken_same : (t u : Track) → taken_by p t u (first_id p u a) ≡ taken_by p t u (first_id p u b)
  taken_same t u = by (dec_lt u.0 (track_count p))
    where
      by : Dec (u.0 < track_count p) → taken_by p t u (first_id p u a) ≡ taken_by p t u (first_id p u b)
      by (yes l) = ap (taken_by p t u) (first_id_same u l)
      by (no l) =
          let past = le-ltb u.0 (track_count p) (omega arith) in
          taken_past p t u (first_id p u a) past ∙ sym (taken_past p t u (first_id p u b) past)

  pub where_same : (t : Track) → t.0 < track_count p → where_of p t a ≡ where_of p t b
  unfolding where_of
  where_same t h =
      let e = first_id_same t h in
      ap (λ (id : Id). where_by t id (own_id p t id) (taken_by p t id.partner (first_id p id.partner a))) e
      ∙ ap (where_by t (first_id p t b) (own_id p t (first_id p t b))) (taken_same t (first_id p t b).partner)

  used_same : (s : ℕ) (u : Track) → u.0 < track_count p → slot_used p s (track_bytes p u a) ≡ slot_used p s (track_bytes p u b)
  used_same s u h = slot_alike p (track_bytes p u a) (track_bytes p u b) (λ k hk. same.ids u k h hk) s

  from_same : (s : ℕ) (w : Where) → ((u : Track) → w ≡ On u → u.0 < track_count p) → sector_from p s a w ≡ sector_from p s b w
  unfolding sector_from
  from_same s (Off code) h = refl
  from_same s (On u) h = ap (sector_in u) (used_same s u (h u refl))

  pub found_same : (s : ℕ) (t : Track) → t.0 < track_count p → sector_found p t s a ≡ sector_found p t s b
  unfolding sector_found
  found_same s t h =
      from_same s (where_of p t a) (where_in p t a (where_of p t a) refl h)
      ∙ ap (sector_from p s b) (where_same t h)

-- a write of data keeps every ID
pub data_keeps : (p : Params) (image : List ℕ) (u : Track) (k : ℕ) (sector : List ℕ) → image_length p ≤ length image → u.0 < track_count p → k < p.sectors → length sector ≡ p.size
    → SameIds p (with_track p u (with_data p k sector (track_bytes p u image)) image) image
data_keeps p image u k sector fits hu hk ls = record { ids = λ t j ht hj. by t j ht hj (ℕ_discrete u.0 t.0) }
  where
    lt : length (track_bytes p u image) ≡ track_size p
    lt = length_track p image fits u hu

    lw : length (with_data p k sector (track_bytes p u image)) ≡ track_size p
    lw = length_with_data p (track_bytes p u image) lt k sector hk ls

    by : (t : Track) (j : ℕ) → t.0 < track_count p → j < p.sectors → Dec (u.0 ≡ t.0)
        → slot_id p j (track_bytes p t (with_track p u (with_data p k sector (track_bytes p u image)) image)) ≡ slot_id p j (track_bytes p t image)
    by t j ht hj (yes e) =
        ap (λ (i : ℕ). slot_id p j (track_bytes p (track i) (with_track p u (with_data p k sector (track_bytes p u image)) image))) (sym e)
        ∙ ap (slot_id p j) (track_same p image fits u (with_data p k sector (track_bytes p u image)) hu lw)
        ∙ id_kept p (track_bytes p u image) lt k sector hk ls j hj
        ∙ ap (λ (i : ℕ). slot_id p j (track_bytes p (track i) image)) e
    by t j ht hj (no ne) = ap (slot_id p j) (track_other p image fits u (with_data p k sector (track_bytes p u image)) hu lw t ht ne)
