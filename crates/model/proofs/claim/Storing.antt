-- D bytes put in the slot of a held address, in the image, mirror D bytes stored at that address, in the machine.
use Prim.Native.Nat.{ℕ, ◌+◌, ◌*◌, ◌<◌, ◌≤◌}
use mathlib.Core.Path.{◌≡◌, sym, ap, ap₂, ◌∙◌}
use mathlib.Core.Bool.{true}
use mathlib.Core.List.{List}
use native.Mathlib.Decide.{ℕ_discrete}
use native.Mathlib.Nat.{div-add-mod'}
use lib.ListN.{length}
use lib.Dec.{eqb}
use borrow.Author.Tests.{eq-eqb, ne_eqb}
use Rattle.base.specs.Pick.{pick}
use Rattle.base.proofs.Decide.{pick_true, pick-false}
use Rattle.geometry.specs.declared.params.Lba.{Lba}
use Rattle.geometry.specs.declared.params.Track.{Track}
use Rattle.geometry.specs.declared.params.Params.{Params}
use Rattle.geometry.specs.Params.{Within, image_length, track_size, track_count, track_of, sector_of, OnDrive}
use Rattle.geometry.proofs.Addresses.{track_in, sector_in_lem, same_lba}
use Rattle.interleave.proofs.Slots.{sector_at, slot_of, slot_lt, sector_slot}
use Rattle.track.specs.Image.{track_bytes, with_track, slot_data, with_data}
use Rattle.track.proofs.Laws.{length_track, length_with_track, track_same, track_other, label_kept, length_data, length_with_data, data_same}
use Rattle.track.proofs.Laws.{data_other, SameIds, data_keeps}
use Rattle.model.specs.Machine.{Kind}
use Rattle.model.specs.Claim.{is_held}
use Rattle.model.proofs.claim.Mirrors.{home_of, Mirrors, KeepsLabel}
use Rattle.model.proofs.claim.Finding.{home_ours, home_apart}

-- two sectors have two slots
other_slot : (n f r s : ℕ) → r < n → s < n → (r ≡ s → ⊥) → slot_of n f r ≡ slot_of n f s → ⊥
other_slot n f r s hr hs ne e = ne (sym (sector_slot n f r hr) ∙ ap (sector_at n f) e ∙ sector_slot n f s hs)

-- track and sector give the address
same_address : (p : Params) (a b : Lba) → (track_of p a).0 ≡ (track_of p b).0 → sector_of p a ≡ sector_of p b → a.0 ≡ b.0
same_address p a b et es =
    sym (div-add-mod' a.0 p.sectors) ∙ ap₂ {C = ℕ} (λ (t s : ℕ). t * p.sectors + s) et es ∙ div-add-mod' b.0 p.sectors

module _ (p : Params) (w : Within p) (kind : Track → Kind) (inter : Track → ℕ) (held : Lba → List ℕ) (image : List ℕ)
    (fits : image_length p ≤ length image) (mirror : Mirrors p kind inter held image) where
  -- where address a has its bytes
  abbrev home : Lba → Track
  home a = home_of (track_of p a) (kind (track_of p a))

  abbrev slot : Lba → ℕ
  slot a = slot_of p.sectors (inter (track_of p a)) (sector_of p a)

  module _ (a : Lba) (ha : OnDrive p a) where
    pub home_in : (home a).0 < track_count p
    home_in = home_ours p w kind inter held image fits mirror (track_of p a) (track_in p w a ha)

    pub slot_in : slot a < p.sectors
    slot_in = slot_lt p.sectors (inter (track_of p a)) (sector_of p a) (sector_in_lem p w a)

  module _ (a : Lba) (ha : OnDrive p a) (ka : is_held (kind (track_of p a)) ≡ true) where
    pub length_held : length (held a) ≡ p.size
    length_held =
        rw (← mirror.kept a ha ka)
        (length_data p (track_bytes p (home a) image) (length_track p image fits (home a) (home_in a ha)) (slot a) (slot_in a ha))

    module _ (sector : List ℕ) (ls : length sector ≡ p.size) where
      -- the track and the image with the sector in its slot
      abbrev bytes : List ℕ
      bytes = with_data p (slot a) sector (track_bytes p (home a) image)

      abbrev pub stored : List ℕ
      stored = with_track p (home a) bytes image

      lt : length (track_bytes p (home a) image) ≡ track_size p
      lt = length_track p image fits (home a) (home_in a ha)

      lb : length bytes ≡ track_size p
      lb = length_with_data p (track_bytes p (home a) image) lt (slot a) sector (slot_in a ha) ls

      pub stored_keeps : KeepsLabel image stored
      stored_keeps = record {
        len = length_with_track p image fits (home a) bytes (home_in a ha) lb;
        label = label_kept p image fits (home a) bytes (home_in a ha) lb;
      }

      -- the slot of every held address
      stored_here : slot_data p (slot a) (track_bytes p (home a) stored) ≡ sector
      stored_here =
          ap (slot_data p (slot a)) (track_same p image fits (home a) bytes (home_in a ha) lb)
          ∙ data_same p (track_bytes p (home a) image) lt (slot a) sector (slot_in a ha) ls

      stored_other : (k : ℕ) → k < p.sectors → (slot a ≡ k → ⊥)
          → slot_data p k (track_bytes p (home a) stored) ≡ slot_data p k (track_bytes p (home a) image)
      stored_other k hk ne =
          ap (slot_data p k) (track_same p image fits (home a) bytes (home_in a ha) lb)
          ∙ data_other p (track_bytes p (home a) image) lt (slot a) sector (slot_in a ha) ls k hk ne

      stored_kept : (b : Lba) → OnDrive p b → is_held (kind (track_of p b)) ≡ true → (a.0 ≡ b.0 → ⊥)
          → slot_data p (slot b) (track_bytes p (home b) stored) ≡ slot_data p (slot b) (track_bytes p (home b) image)
      stored_kept b hb kb ne = by (ℕ_discrete (track_of p a).0 (track_of p b).0)
        where
          by : Dec ((track_of p a).0 ≡ (track_of p b).0)
              → slot_data p (slot b) (track_bytes p (home b) stored) ≡ slot_data p (slot b) (track_bytes p (home b) image)
          by (yes e) =
              let n = p.sectors in
              let f = inter (track_of p a) in
              rw (← e)
              (stored_other (slot_of n f (sector_of p b)) (slot_lt n f (sector_of p b) (sector_in_lem p w b))
              (other_slot n f (sector_of p a) (sector_of p b) (sector_in_lem p w a) (sector_in_lem p w b) (λ es. ne (same_address p a b e es))))
          by (no ne') =
              ap (slot_data p (slot b))
              (track_other p image fits (home a) bytes (home_in a ha) lb (home b) (home_in b hb)
              (home_apart p w kind inter held image fits mirror (track_of p a) (track_of p b) (track_in p w a ha) (track_in p w b hb) ka kb ne'))

      pub stored_mirrors : Mirrors p kind inter (λ b. pick (eqb b.0 a.0) sector (held b)) stored
      stored_mirrors = record {
        formed = λ t h. record { ids = λ k hk. same_ids.ids t k h hk ∙ (mirror.formed t h).ids k hk };
        inters = mirror.inters;
        stated = mirror.stated;
        past = mirror.past;
        moves = mirror.moves;
        takes = mirror.takes;
        kept = λ b hb kb. by b hb kb (ℕ_discrete b.0 a.0);
      }
        where
          same_ids : SameIds p stored image
          same_ids = data_keeps p image (home a) (slot a) sector fits (home_in a ha) (slot_in a ha) ls

          by : (b : Lba) → OnDrive p b → is_held (kind (track_of p b)) ≡ true → Dec (b.0 ≡ a.0)
              → slot_data p (slot b) (track_bytes p (home b) stored) ≡ pick (eqb b.0 a.0) sector (held b)
          by b hb kb (yes e) =
              ap (λ (c : Lba). slot_data p (slot c) (track_bytes p (home c) stored)) (same_lba b a e)
              ∙ stored_here ∙ sym (pick_true _ _ _ (eq-eqb _ _ e))
          by b hb kb (no ne) = stored_kept b hb kb (λ e. ne (sym e)) ∙ mirror.kept b hb kb ∙ sym (pick-false _ _ _ (ne_eqb _ _ ne))
