-- A move from A's slot 0 on: B is whole, and the image differs from the old one in A's and B's stretches alone.
use mathlib.Core.Path.{◌≡◌, sym, ap, ◌∙◌}
use mathlib.Core.List.{List}
use Prim.Native.Nat.{ℕ, zero, suc, ◌+◌, ◌*◌, ◌≤◌, ◌<◌}
use native.Mathlib.Omega.{arith}
use native.Mathlib.Decide.{ℕ_discrete}
use native.Mathlib.Nat.{add-zero}
use lib.ListN.{length, get_or}
use Rattle.geometry.specs.declared.params.Params.{Params}
use Rattle.geometry.specs.declared.params.Track.{Track}
use Rattle.geometry.specs.Params.{track_count, track_size, image_length}
use Rattle.track.specs.declared.state.State.TheVariants.{Moved}
use Rattle.track.specs.Id.{id_bytes, id_for}
use Rattle.track.specs.Image.{Fits, track_bytes, with_track, slot_id}
use Rattle.track.proofs.Laws.{id_length, track_back, length_track, length_with_track, track_same, track_other}
use Rattle.keeping.specs.Keep.{after_write, leave_id, after_writes, Mapped, Keepable}
use Rattle.keeping.proofs.Writes.{with_id, length_with_id, id_same, id_other, id_in_track}
use Rattle.keeping.proofs.Order.{leave_more}
use Rattle.keeping.proofs.Copying.{Copied, CopiedAt, copied}
use Rattle.keeping.proofs.Before.{unmoved_track}

-- the ID that A's slot k is to have
abbrev pub left_id : Params → (from to : Track) → (map : List ℕ) → (k : ℕ) → List ℕ
left_id p from to map k = id_bytes (id_for p from (Moved to) (get_or map k 0))

-- B is whole, and A's first j IDs say where it has moved
pub record Left (p : Params) (from to : Track) (map image now : List ℕ) (j : ℕ) : Type 0 where
  pub there : List ℕ
  pub here : List ℕ
  pub there_long : length there ≡ track_size p
  pub here_long : length here ≡ track_size p
  pub is : now ≡ with_track p from here (with_track p to there image)
  pub copied : Copied p from to map image there (p.sectors * 2)
  pub ids : (k : ℕ) → k < p.sectors → k < j → slot_id p k here ≡ left_id p from to map k

module _ (p : Params) (from to : Track) (map image : List ℕ) (fits : Fits p image) (maps : Mapped p.sectors map) (may : Keepable p from to image) where
  pub there_fits : (there : List ℕ) → length there ≡ track_size p → image_length p ≤ length (with_track p to there image)
  there_fits there l = omega (arith, fits.long, length_with_track p image fits.long to there may.to_in l)

  -- all of B is written, nothing of A
  left_none : (now : List ℕ) → CopiedAt p from to map image fits maps may now (p.sectors * 2) → Left p from to map image now 0
  left_none now c =
      let u = c.0 in
      let same = unmoved_track p from to map image now fits may u from may.from_in may.apart in
      let other : List ℕ = with_track p to u.stretch image in
      let same' : track_bytes p from other ≡ track_bytes p from image = ap (track_bytes p from) (sym u.is) ∙ same in
      record {
        there = u.stretch;
        here = track_bytes p from image;
        there_long = u.long;
        here_long = length_track p image fits.long from may.from_in;
        is = u.is ∙ sym (ap (λ (bytes : List ℕ). with_track p from bytes other) (sym same') ∙ track_back p other (there_fits u.stretch u.long) from may.from_in);
        copied = c.1;
        ids = λ k h l. absurd (omega arith);
      }

  left_more : (now next : List ℕ) (j : ℕ) → next ≡ after_write p (leave_id p from to map j) now → j < p.sectors → Left p from to map image now j → Left p from to map image next (suc j)
  left_more now next j e hj x = record {
    there = x.there;
    here = with_id p j (left_id p from to map j) x.here;
    there_long = x.there_long;
    here_long = length_with_id p x.here x.here_long j (left_id p from to map j) hj (id_length _);
    is = e ∙ ap (after_write p (leave_id p from to map j)) x.is
        ∙ id_in_track p from j (left_id p from to map j) x.here (with_track p to x.there image) (there_fits x.there x.there_long) may.from_in hj x.here_long (id_length _);
    copied = x.copied;
    ids = λ k h l. by k h l (ℕ_discrete j k);
  }
    where
      by : (k : ℕ) → k < p.sectors → k < suc j → Dec (j ≡ k) → slot_id p k (with_id p j (left_id p from to map j) x.here) ≡ left_id p from to map k
      by k h l (yes e) =
          ap (λ (k : ℕ). slot_id p k (with_id p j (left_id p from to map j) x.here)) (sym e)
          ∙ id_same p x.here x.here_long j (left_id p from to map j) hj (id_length _) ∙ ap (left_id p from to map) e
      by k h l (no ne) = id_other p x.here x.here_long j (left_id p from to map j) hj (id_length _) k ne ∙ x.ids k h (omega arith)

  -- after B's writes and j of A's
  pub left : (j : ℕ) → j ≤ p.sectors → Left p from to map image (after_writes p from to map image (p.sectors * 2 + j)) j
  left zero h = rw add-zero (left_none (after_writes p from to map image (p.sectors * 2)) (copied p from to map image fits maps may (p.sectors * 2) (omega arith)))
  left (suc j) h = left_more _ _ j (leave_more p from to map image j (omega arith)) (omega arith) (left j (omega arith))

  -- ---- the stretches of such an image
  module _ (now : List ℕ) (j : ℕ) (x : Left p from to map image now j) where
    pub left_here : track_bytes p from now ≡ x.here
    left_here = ap (track_bytes p from) x.is ∙ track_same p (with_track p to x.there image) (there_fits x.there x.there_long) from x.here may.from_in x.here_long

    others : (t : Track) → t.0 < track_count p → (t.0 ≡ from.0 → ⊥) → track_bytes p t now ≡ track_bytes p t (with_track p to x.there image)
    others t h ne =
        ap (track_bytes p t) x.is
        ∙ track_other p (with_track p to x.there image) (there_fits x.there x.there_long) from x.here may.from_in x.here_long t h (λ e. ne (sym e))

    pub left_there : track_bytes p to now ≡ x.there
    left_there = others to may.to_in (λ e. may.apart (sym e)) ∙ track_same p image fits.long to x.there may.to_in x.there_long

    pub left_other : (t : Track) → t.0 < track_count p → (t.0 ≡ from.0 → ⊥) → (t.0 ≡ to.0 → ⊥) → track_bytes p t now ≡ track_bytes p t image
    left_other t h nf nt = others t h nf ∙ track_other p image fits.long to x.there may.to_in x.there_long t h (λ e. nt (sym e))
