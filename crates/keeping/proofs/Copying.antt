-- A move before A's slot 0 is written: the image differs from the old one in B's stretch alone, and B's slot 0 is old or taken by A.
use mathlib.Core.Path.{◌≡◌, refl, sym, ap, ◌∙◌}
use mathlib.Core.Logic.{◌⊎◌, inl, inr}
use mathlib.Core.List.{List}
use Prim.Native.Nat.{ℕ, zero, suc, ◌+◌, ◌*◌, ◌≤◌, ◌<◌}
use native.Mathlib.Omega.{arith}
use native.Mathlib.Decide.{ℕ_discrete}
use lib.ListN.{length, get_or}
use Rattle.geometry.specs.declared.params.Params.{Params}
use Rattle.geometry.specs.declared.params.Track.{Track}
use Rattle.geometry.specs.Params.{track_size}
use Rattle.track.specs.declared.state.State.TheVariants.{Taken}
use Rattle.track.specs.Id.{id_bytes, id_for}
use Rattle.track.specs.Image.{Fits, track_bytes, with_track, slot_id, slot_data, with_data}
use Rattle.track.proofs.Laws.{id_length, track_back, length_track, length_with_data, data_same, data_other, id_kept}
use Rattle.contents.specs.Content.{content_at, read_bytes}
use Rattle.keeping.specs.Keep.{Body, after_write, copy_id, copy_body, sectors_of, write_of, after_writes, Mapped, Keepable}
use Rattle.keeping.proofs.Writes.{with_id, length_with_id, id_same, id_other, data_kept, id_in_track, body_in_track}
use Rattle.keeping.proofs.Reading.{content_length}
use Rattle.keeping.proofs.Order.{halves, write_id, write_body}

-- the ID and the data that B's slot k is to have
abbrev pub new_id : Params → (from to : Track) → (map : List ℕ) → (k : ℕ) → List ℕ
new_id p from to map k = id_bytes (id_for p to (Taken from) (get_or map k 0))

abbrev pub new_body : Params → (from : Track) → (map image : List ℕ) → (k : ℕ) → List ℕ
new_body p from map image k = read_bytes (content_at p from (get_or map k 0) image)

-- `now` is the old image with another stretch for B
pub record Unmoved (p : Params) (from to : Track) (map image now : List ℕ) : Type 0 where
  pub stretch : List ℕ
  pub long : length stretch ≡ track_size p
  pub is : now ≡ with_track p to stretch image
  pub first : (slot_id p 0 stretch ≡ slot_id p 0 (track_bytes p to image)) ⊎ (slot_id p 0 stretch ≡ new_id p from to map 0)

-- the first i writes have reached B's stretch
pub record Copied (p : Params) (from to : Track) (map image stretch : List ℕ) (i : ℕ) : Type 0 where
  pub ids : (k : ℕ) → k < p.sectors → k * 2 < i → slot_id p k stretch ≡ new_id p from to map k
  pub bodies : (k : ℕ) → k < p.sectors → k * 2 + 1 < i → slot_data p k stretch ≡ new_body p from map image k

module _ (p : Params) (from to : Track) (map image : List ℕ) (fits : Fits p image) (maps : Mapped p.sectors map) (may : Keepable p from to image) where
  pub body_length : (k : ℕ) → k < p.sectors → length (new_body p from map image k) ≡ p.size
  body_length k h =
      let w = may.whole (get_or map k 0) (maps.below k h) in
      content_length p from from (get_or map k 0) image may.home fits.long may.from_in w.0 w.1

  unmoved_none : Unmoved p from to map image image
  unmoved_none = record {
    stretch = track_bytes p to image;
    long = length_track p image fits.long to may.to_in;
    is = sym (track_back p image fits.long to may.to_in);
    first = inl refl;
  }

  module _ (now : List ℕ) (u : Unmoved p from to map image now) (k : ℕ) (h : k < p.sectors) where
    -- B's slot k gets its ID
    unmoved_id : Unmoved p from to map image (after_write p (copy_id p from to map k) now)
    unmoved_id = record {
      stretch = with_id p k (new_id p from to map k) u.stretch;
      long = length_with_id p u.stretch u.long k (new_id p from to map k) h (id_length _);
      is = ap (after_write p (copy_id p from to map k)) u.is ∙ id_in_track p to k (new_id p from to map k) u.stretch image fits.long may.to_in h u.long (id_length _);
      first = by (ℕ_discrete k 0) u.first;
    }
      where
        by : Dec (k ≡ 0) → (slot_id p 0 u.stretch ≡ slot_id p 0 (track_bytes p to image)) ⊎ (slot_id p 0 u.stretch ≡ new_id p from to map 0)
            → (slot_id p 0 (with_id p k (new_id p from to map k) u.stretch) ≡ slot_id p 0 (track_bytes p to image)) ⊎ (slot_id p 0 (with_id p k (new_id p from to map k) u.stretch) ≡ new_id p from to map 0)
        by (yes e) f =
            inr (ap (λ (j : ℕ). slot_id p j (with_id p k (new_id p from to map k) u.stretch)) (sym e)
            ∙ id_same p u.stretch u.long k (new_id p from to map k) h (id_length _) ∙ ap (new_id p from to map) e)
        by (no ne) (inl f) = inl (id_other p u.stretch u.long k (new_id p from to map k) h (id_length _) 0 ne ∙ f)
        by (no ne) (inr f) = inr (id_other p u.stretch u.long k (new_id p from to map k) h (id_length _) 0 ne ∙ f)

    -- B's slot k gets data, whatever they are
    pub unmoved_body : (any : List ℕ) → length any ≡ p.size → Unmoved p from to map image (after_write p (Body to k any) now)
    unmoved_body any e = record {
      stretch = with_data p k any u.stretch;
      long = length_with_data p u.stretch u.long k any h e;
      is = ap (after_write p (Body to k any)) u.is ∙ body_in_track p to k any u.stretch image fits.long may.to_in h u.long e;
      first = by u.first;
    }
      where
        stays : slot_id p 0 (with_data p k any u.stretch) ≡ slot_id p 0 u.stretch
        stays = id_kept p u.stretch u.long k any h e 0 (omega arith)

        by : (slot_id p 0 u.stretch ≡ slot_id p 0 (track_bytes p to image)) ⊎ (slot_id p 0 u.stretch ≡ new_id p from to map 0)
            → (slot_id p 0 (with_data p k any u.stretch) ≡ slot_id p 0 (track_bytes p to image)) ⊎ (slot_id p 0 (with_data p k any u.stretch) ≡ new_id p from to map 0)
        by (inl f) = inl (stays ∙ f)
        by (inr f) = inr (stays ∙ f)

    -- ---- and so one write more has reached B's stretch
    copied_id : Copied p from to map image u.stretch (k * 2) → Copied p from to map image unmoved_id.stretch (suc (k * 2))
    unfolding unmoved_id
    copied_id c = record {
      ids = λ j hj l. id j hj l (ℕ_discrete k j);
      bodies = λ j hj l. data_kept p u.stretch u.long k (new_id p from to map k) h (id_length _) j ∙ c.bodies j hj (omega arith);
    }
      where
        id : (j : ℕ) → j < p.sectors → j * 2 < suc (k * 2) → Dec (k ≡ j) → slot_id p j (with_id p k (new_id p from to map k) u.stretch) ≡ new_id p from to map j
        id j hj l (yes e) =
            ap (λ (j : ℕ). slot_id p j (with_id p k (new_id p from to map k) u.stretch)) (sym e)
            ∙ id_same p u.stretch u.long k (new_id p from to map k) h (id_length _) ∙ ap (new_id p from to map) e
        id j hj l (no ne) = id_other p u.stretch u.long k (new_id p from to map k) h (id_length _) j ne ∙ c.ids j hj (omega arith)

    copied_body : Copied p from to map image u.stretch (k * 2 + 1)
        → Copied p from to map image (unmoved_body (new_body p from map image k) (body_length k h)).stretch (suc (k * 2 + 1))
    unfolding unmoved_body
    copied_body c = record {
      ids = λ j hj l. id_kept p u.stretch u.long k (new_body p from map image k) h (body_length k h) j hj ∙ c.ids j hj (omega arith);
      bodies = λ j hj l. body j hj l (ℕ_discrete k j);
    }
      where
        body : (j : ℕ) → j < p.sectors → j * 2 + 1 < suc (k * 2 + 1) → Dec (k ≡ j) → slot_data p j (with_data p k (new_body p from map image k) u.stretch) ≡ new_body p from map image j
        body j hj l (yes e) =
            ap (λ (j : ℕ). slot_data p j (with_data p k (new_body p from map image k) u.stretch)) (sym e)
            ∙ data_same p u.stretch u.long k (new_body p from map image k) h (body_length k h) ∙ ap (new_body p from map image) e
        body j hj l (no ne) = data_other p u.stretch u.long k (new_body p from map image k) h (body_length k h) j hj ne ∙ c.bodies j hj (omega arith)

  -- ---- the first i writes
  abbrev pub CopiedAt : (now : List ℕ) → (i : ℕ) → Type 0
  CopiedAt now i = (u : Unmoved p from to map image now) × Copied p from to map image u.stretch i

  next : (now : List ℕ) (i k : ℕ) → k < p.sectors → (i ≡ k * 2) ⊎ (i ≡ k * 2 + 1) → CopiedAt now i → CopiedAt (after_write p (write_of p from to map image i) now) (suc i)
  next now i k h (inl e) c =
      let w : write_of p from to map image i ≡ copy_id p from to map k = ap (write_of p from to map image) e ∙ write_id p from to map image k h in
      rw (w, e) (unmoved_id now c.0 k h, copied_id now c.0 k h (rw e at c.1))
  next now i k h (inr e) c =
      let w : write_of p from to map image i ≡ copy_body to map (sectors_of p from image) k = ap (write_of p from to map image) e ∙ write_body p from to map image k h in
      rw (w, e) (unmoved_body now c.0 k h (new_body p from map image k) (body_length k h), copied_body now c.0 k h (rw e at c.1))

  pub copied : (i : ℕ) → i ≤ p.sectors * 2 → CopiedAt (after_writes p from to map image i) i
  unfolding after_writes
  copied zero h = (unmoved_none, record { ids = λ k hk l. absurd (omega arith); bodies = λ k hk l. absurd (omega arith) })
  copied (suc i) h = let k = halves i in next (after_writes p from to map image i) i k.0 (below k.0 k.1) k.1 (copied i (omega arith))
    where
      below : (k : ℕ) → (i ≡ k * 2) ⊎ (i ≡ k * 2 + 1) → k < p.sectors
      below k (inl e) = omega arith
      below k (inr e) = omega arith
