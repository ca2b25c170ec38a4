-- A move before A's slot 0 is written: every track but B reads as before, and the move can be made from there.
use mathlib.Core.Path.{◌≡◌, sym, ap, ◌∙◌}
use mathlib.Core.Logic.{◌⊎◌, inl, inr}
use mathlib.Core.List.{List}
use Prim.Native.Nat.{ℕ, ◌<◌}
use native.Mathlib.Omega.{arith}
use lib.ListN.{length, get_or}
use Rattle.geometry.specs.declared.params.Params.{Params}
use Rattle.geometry.specs.declared.params.Track.{Track}
use Rattle.geometry.specs.Params.{track_count}
use Rattle.track.specs.declared.id.Id.{Id}
use Rattle.track.specs.declared.state.State.TheVariants.{Sound, Taken}
use Rattle.track.specs.Find.{On}
use Rattle.track.specs.Id.{id_in, id_for, own_id}
use Rattle.track.specs.Image.{Fits, track_bytes, slot_id, first_id}
use Rattle.track.specs.Find.{where_of}
use Rattle.track.specs.Pair.{state_by, state_of}
use Rattle.track.proofs.Laws.{id_back, length_with_track, track_same, track_other, taken_one, home_same, state_written}
use Rattle.contents.specs.Content.{content_at}
use Rattle.contents.proofs.Laws.{first_same, Free, free_same, free_written}
use Rattle.keeping.specs.Keep.{Keepable}
use Rattle.keeping.proofs.Reading.{content_home}
use Rattle.keeping.proofs.Copying.{new_id, Unmoved}
use Rattle.keeping.proofs.Apart.{free_from, free_to}

module _ (p : Params) (from to : Track) (map image now : List ℕ) (fits : Fits p image) (may : Keepable p from to image) (u : Unmoved p from to map image now) where
  pub unmoved_length : length now ≡ length image
  unmoved_length = ap length u.is ∙ length_with_track p image fits.long to u.stretch may.to_in u.long

  pub unmoved_fits : Fits p now
  unmoved_fits = record { within = fits.within; long = omega (arith, fits.long, unmoved_length) }

  pub unmoved_track : (t : Track) → t.0 < track_count p → (t.0 ≡ to.0 → ⊥) → track_bytes p t now ≡ track_bytes p t image
  unmoved_track t h ne = ap (track_bytes p t) u.is ∙ track_other p image fits.long to u.stretch may.to_in u.long t h (λ e. ne (sym e))

  -- ---- A
  pub from_first : first_id p from now ≡ first_id p from image
  from_first = first_same p from now image (unmoved_track from may.from_in may.apart)

  pub unmoved_home : where_of p from now ≡ On from
  unmoved_home = home_same p from image now may.home from_first

  pub unmoved_reads : (s : ℕ) → content_at p from s now ≡ content_at p from s image
  unmoved_reads s = content_home p from s image now may.home unmoved_home (unmoved_track from may.from_in may.apart)

  pub unmoved_from : Free p from from now
  unmoved_from = free_same p from from image now from_first (free_from p from to image may)

  -- ---- B: its slot 0 is old or new
  to_first : (first_id p to now ≡ first_id p to image) ⊎ (first_id p to now ≡ id_for p to (Taken from) (get_or map 0 0))
  unfolding first_id
  to_first = by u.first
    where
      here : first_id p to now ≡ id_in (slot_id p 0 u.stretch)
      here = ap (λ (bytes : List ℕ). id_in (slot_id p 0 bytes)) (ap (track_bytes p to) u.is ∙ track_same p image fits.long to u.stretch may.to_in u.long)

      by : (slot_id p 0 u.stretch ≡ slot_id p 0 (track_bytes p to image)) ⊎ (slot_id p 0 u.stretch ≡ new_id p from to map 0)
          → (first_id p to now ≡ first_id p to image) ⊎ (first_id p to now ≡ id_for p to (Taken from) (get_or map 0 0))
      by (inl e) = inl (here ∙ ap id_in e)
      by (inr e) = inr (here ∙ ap id_in e ∙ id_back _)

  pub unmoved_to : Free p from to now
  unmoved_to = by to_first
    where
      by : (first_id p to now ≡ first_id p to image) ⊎ (first_id p to now ≡ id_for p to (Taken from) (get_or map 0 0)) → Free p from to now
      by (inl e) = free_same p from to image now e (free_to p from to image may)
      by (inr e) = free_written p from to (Taken from) _ now e (λ t z. sym (taken_one from t z))

  to_state : first_id p to now ≡ first_id p to image → state_of p to now ≡ state_of p to image
  unfolding state_of
  to_state e = ap (λ (id : Id). state_by id (own_id p to id)) e

  -- ---- the move can be made from there
  pub unmoved_keepable : Keepable p from to now
  unmoved_keepable = record {
    from_in = may.from_in;
    to_in = may.to_in;
    apart = may.apart;
    home = unmoved_home;
    whole = λ s h. let w = may.whole s h in (w.0, unmoved_reads s ∙ w.1);
    free = by to_first may.free;
  }
    where
      by : (first_id p to now ≡ first_id p to image) ⊎ (first_id p to now ≡ id_for p to (Taken from) (get_or map 0 0)) → (state_of p to image ≡ Sound) ⊎ (state_of p to image ≡ Taken from)
          → (state_of p to now ≡ Sound) ⊎ (state_of p to now ≡ Taken from)
      by (inl e) (inl f) = inl (to_state e ∙ f)
      by (inl e) (inr f) = inr (to_state e ∙ f)
      by (inr e) f = inr (state_written p to (Taken from) _ now e)
