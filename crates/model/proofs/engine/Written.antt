-- What a Write leaves in any image: label, IDs, bytes past the drive, and the data of every slot that it did not find.
use Prim.Native.Nat.{ℕ, zero, suc, ◌+◌, ◌*◌, ◌≤◌, ◌<◌}
use mathlib.Core.Path.{◌≡◌, refl, sym, ap, ap₂, subst, ◌∙◌}
use mathlib.Core.List.{List}
use native.Mathlib.Omega.{arith}
use native.Mathlib.Decide.{ℕ_discrete}
use native.Mathlib.Nat.{add-zero}
use lib.ListN.{length, take, drop, length-drop}
use lib.Seq.{length-take-le}
use Rattle.geometry.specs.declared.params.Lba.{Lba}
use Rattle.geometry.specs.declared.params.Track.{Track}
use Rattle.geometry.specs.declared.params.Params.{Params}
use Rattle.std.specs.Prelude.{Some}
use Rattle.geometry.specs.Params.{Within, track_count, track_size, image_length, track_of, address_count, OnDrive, further, next}
use Rattle.geometry.proofs.Addresses.{track_in, same_track, further_next}
use Rattle.track.specs.Image.{track_bytes, with_track, slot_id, slot_data, with_data}
use Rattle.track.specs.Find.{Sector}
use Rattle.track.specs.Find.{Slot, Fault}
use Rattle.track.proofs.Laws.{length_track, track_same, track_other, length_with_data, data_other, SameIds, found_same, data_keeps}
use Rattle.sectors.specs.Transfer.{Transfer, ended, write_slot, onward, found, writing}
use Rattle.sectors.proofs.Laws.{found_slot}
use Rattle.model.proofs.engine.Outside.{Outside, outside_self, outside_then, track_outside}

-- ---- What n sectors written from address a on leave
-- the i-th of them finds slot k of track t
abbrev Finds : Params → Lba → (i : ℕ) → (image : List ℕ) → (t : Track) → (k : ℕ) → Type 0
Finds p a i image t k = found p (further a i) image ≡ Slot t k

pub record Written (p : Params) (n : ℕ) (a : Lba) (before after : List ℕ) : Type 0 where
  pub outside : Outside 16 (Some p) before after
  pub ids : (t : Track) (k : ℕ) → t.0 < track_count p → k < p.sectors → slot_id p k (track_bytes p t after) ≡ slot_id p k (track_bytes p t before)
  pub others : (t : Track) (k : ℕ) → t.0 < track_count p → k < p.sectors → ((i : ℕ) → i < n → Finds p a i before t k → ⊥)
      → slot_data p k (track_bytes p t after) ≡ slot_data p k (track_bytes p t before)

pub written_none : (p : Params) (n : ℕ) (a : Lba) (image : List ℕ) → Written p n a image image
written_none p n a image = record { outside = outside_self 16 (Some p) image; ids = λ t k ht hk. refl; others = λ t k ht hk no. refl }

-- one sector in slot j of track u
module _ (p : Params) (image : List ℕ) (fits : image_length p ≤ length image) (u : Track) (j : ℕ) (hu : u.0 < track_count p) (hj : j < p.sectors)
    (sector : List ℕ) (ls : length sector ≡ p.size) where
  abbrev stored : List ℕ
  stored = with_track p u (with_data p j sector (track_bytes p u image)) image

  lt : length (track_bytes p u image) ≡ track_size p
  lt = length_track p image fits u hu

  lw : length (with_data p j sector (track_bytes p u image)) ≡ track_size p
  lw = length_with_data p (track_bytes p u image) lt j sector hj ls

  stored_outside : Outside 16 (Some p) image stored
  stored_outside = track_outside 16 p image fits (omega arith) u _ hu (omega (arith, lw))

  stored_ids : SameIds p stored image
  stored_ids = data_keeps p image u j sector fits hu hj ls

  stored_others : (t : Track) (k : ℕ) → t.0 < track_count p → k < p.sectors → ((t ≡ u) × (k ≡ j) → ⊥)
      → slot_data p k (track_bytes p t stored) ≡ slot_data p k (track_bytes p t image)
  stored_others t k ht hk ne = by (ℕ_discrete u.0 t.0) (ℕ_discrete j k)
    where
      by : Dec (u.0 ≡ t.0) → Dec (j ≡ k) → slot_data p k (track_bytes p t stored) ≡ slot_data p k (track_bytes p t image)
      by (no apart) d = ap (slot_data p k) (track_other p image fits u _ hu lw t ht apart)
      by (yes same) (yes slot) = absurd (ne (same_track t u (sym same), sym slot))
      by (yes same) (no apart) =
          subst (λ (v : Track). slot_data p k (track_bytes p v stored) ≡ slot_data p k (track_bytes p v image)) (same_track u t same)
          (ap (slot_data p k) (track_same p image fits u _ hu lw) ∙ data_other p (track_bytes p u image) lt j sector hj ls k hk apart)

module _ (p : Params) (w : Within p) where
  -- finding goes by IDs
  found_again : (a : Lba) (before after : List ℕ) → OnDrive p a → SameIds p after before
      → found p a after ≡ found p a before
  unfolding found
  found_again a before after h same =
      found_same p after before (omega (arith, w.sectors_some)) same _ (track_of p a)
      (track_in p w a h)

  module _ (n : ℕ) (a : Lba) (image : List ℕ) (fits : image_length p ≤ length image) (inside : a.0 + suc n ≤ address_count p)
      (u : Track) (j : ℕ) (here : found p a image ≡ Slot u j) (hu : u.0 < track_count p) (hj : j < p.sectors)
      (sector : List ℕ) (ls : length sector ≡ p.size) where
    abbrev now : List ℕ
    now = stored p image fits u j hu hj sector ls

    later : (i : ℕ) (t : Track) (k : ℕ) → i < n → Finds p (next a) i now t k → Finds p a (suc i) image t k
    later i t k l q =
        ap (λ (b : Lba). found p b image) (sym (further_next a i))
        ∙ sym (found_again (further (next a) i) image now (omega arith) (stored_ids p image fits u j hu hj sector ls)) ∙ q

    first : (t : Track) (k : ℕ) → (t ≡ u) × (k ≡ j) → Finds p a 0 image t k
    first t k e = rw (add-zero a.0) (here ∙ sym (ap₂ {C = Sector} (λ (x : Track) (y : ℕ). Slot x y) e.0 e.1))

    written_more : (after : List ℕ) → Written p n (next a) now after → Written p (suc n) a image after
    written_more after rest = record {
      outside = outside_then 16 (Some p) image now after (stored_outside p image fits u j hu hj sector ls) rest.outside;
      ids = λ t k ht hk. rest.ids t k ht hk ∙ (stored_ids p image fits u j hu hj sector ls).ids t k ht hk;
      others = λ t k ht hk no.
          rest.others t k ht hk (λ i l q. no (suc i) (omega arith) (later i t k l q))
          ∙ stored_others p image fits u j hu hj sector ls t k ht hk (λ e. no 0 (omega arith) (first t k e));
    }

  module _ (n : ℕ) (a : Lba) (given : List ℕ) (x : Transfer) (fits : image_length p ≤ length x.image) (inside : a.0 + suc n ≤ address_count p)
      (enough : suc n * p.size ≤ length given) where
    abbrev on : Transfer → Transfer
    on = writing p n (next a) (drop p.size given)

    step : ((y : Transfer) → image_length p ≤ length y.image → Written p n (next a) y.image (on y).image)
        → (s : Sector) → found p a x.image ≡ s
        → Written p (suc n) a x.image (onward x (λ t k. on (write_slot p (take p.size given) x t k)) s).image
    unfolding onward ended write_slot found
    step rest (Fault code) e = written_none p (suc n) a x.image
    step rest (Slot u j) e =
        let whole : length (take p.size given) ≡ p.size = length-take-le p.size given (omega arith) in
        let at = found_slot p a x.image u j w (omega arith) e in
        let kept = stored_outside p x.image fits u j at.0 at.1 (take p.size given) whole in
        written_more n a x.image fits inside u j e at.0 at.1 (take p.size given) whole _ (rest _ (rw kept.len fits))

  pub writes : (n : ℕ) (a : Lba) (given : List ℕ) (x : Transfer) → image_length p ≤ length x.image → a.0 + n ≤ address_count p
      → n * p.size ≤ length given → Written p n a x.image (writing p n a given x).image
  unfolding writing
  writes zero a given x fits inside enough = written_none p 0 a x.image
  writes (suc n) a given x fits inside enough =
      step n a given x fits inside enough
      (λ y f. writes n (next a) (drop p.size given) y f (omega arith) (rw (length-drop p.size given) (omega arith)))
      (found p a x.image) refl
