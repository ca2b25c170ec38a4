-- Request E7's promise, of the image: whenever power fails during a move, every address outside B reads as before; and the move can be
-- made again, or A is moved.
use mathlib.Core.Path.{◌≡◌, refl, sym, ap, ◌∙◌}
use mathlib.Core.Logic.{inl, inr}
use mathlib.Core.List.{List}
use Prim.Native.Nat.{ℕ, ◌<◌}
use native.Mathlib.Omega.{arith}
use native.Mathlib.Decide.{ℕ_discrete}
use lib.ListN.{get_or}
use Rattle.geometry.specs.declared.params.Params.{Params}
use Rattle.geometry.specs.declared.params.Track.{Track}
use Rattle.geometry.specs.declared.params.Lba.{Lba}
use Rattle.geometry.specs.Params.{OnDrive, track_of, sector_of}
use Rattle.geometry.proofs.Addresses.{same_track, sector_in_lem}
use Rattle.track.specs.declared.id.Id.{Id}
use Rattle.track.specs.declared.state.State.TheVariants.{Moved}
use Rattle.track.specs.Find.{On}
use Rattle.track.specs.Id.{id_for}
use Rattle.track.specs.State.{flag_of}
use Rattle.track.specs.Image.{Fits, first_id}
use Rattle.track.specs.Find.{where_of}
use Rattle.track.specs.Pair.{state_of}
use Rattle.track.proofs.Laws.{home_parts, on_same}
use Rattle.track.specs.Find.{Slot}
use Rattle.sectors.specs.Transfer.{found}
use Rattle.sectors.proofs.Laws.{found_there}
use Rattle.contents.specs.Content.{Bytes, content_at, content_of}
use Rattle.contents.proofs.Laws.{content_fault, by_found, Free, pair_elsewhere, missing_bytes, content_at_lem}
use Rattle.keeping.specs.Keep.{kept, Mapped, Keepable}
use Rattle.keeping.specs.Power.{Interrupted}
use Rattle.keeping.proofs.Apart.{free_from, free_to}
use Rattle.keeping.proofs.Before.{from_first, unmoved_from, unmoved_to, unmoved_reads, unmoved_keepable}
use Rattle.keeping.proofs.After.{first_here, moved_from, moved_to, moved_where, moved_state_lem, moved_reads}
use Rattle.keeping.proofs.Again.{unmoved_again}
use Rattle.keeping.proofs.Outside.{same_track_in}
use Rattle.keeping.proofs.Phases.{Phase, phase}

moved_flag : (p : Params) (t u : Track) (s : ℕ) → (id_for p t (Moved u) s).flag ≡ 2
unfolding id_for flag_of
moved_flag p t u s = refl

module _ (p : Params) (from to : Track) (map image : List ℕ) (fits : Fits p image) (maps : Mapped p.sectors map) (may : Keepable p from to image) (after : List ℕ)
    (x : Interrupted p from to map image after) where
  at_cut : Phase p from to map image fits maps may after
  at_cut = phase p from to map image fits maps may after x

  -- ---- every address outside B reads as before
  free_here : Phase p from to map image fits maps may after → Free p from from after × Free p from to after
  free_here (inl u) = (unmoved_from p from to map image after fits may u, unmoved_to p from to map image after fits may u)
  free_here (inr l) = (moved_from p from to map image after fits maps may l.0 l.1 l.2, moved_to p from to map image after fits maps may l.0 l.1 l.2)

  home_reads : Phase p from to map image fits maps may after → (s : ℕ) → s < p.sectors → content_at p from s after ≡ content_at p from s image
  home_reads (inl u) s h = unmoved_reads p from to map image after fits may u s
  home_reads (inr l) s h = moved_reads p from to map image after fits maps may l.0 l.1 l.2 s h

  pub power : (a : Lba) → OnDrive p a → ((track_of p a).0 ≡ to.0 → ⊥) → content_of p a after ≡ content_of p a image
  power a h ne = by (ℕ_discrete (track_of p a).0 from.0)
    where
      by : Dec ((track_of p a).0 ≡ from.0) → content_of p a after ≡ content_of p a image
      by (yes e) =
          let t = same_track (track_of p a) from e in
          content_at_lem p a after ∙ ap (λ (v : Track). content_at p v (sector_of p a) after) t ∙ home_reads at_cut (sector_of p a) (sector_in_lem p fits.within a)
          ∙ ap (λ (v : Track). content_at p v (sector_of p a) image) (sym t) ∙ sym (content_at_lem p a image)
      by (no d) =
          let free = free_here at_cut in
          pair_elsewhere p from to image after fits.within (same_track_in p from to map image fits maps may after x)
          (free_from p from to image may) (free_to p from to image may) free.0 free.1 a h d ne

  -- ---- as long as A's slot 0 is the old one, the move can be made again, with any map, and ends as from the old image
  pub again : first_id p from after ≡ first_id p from image
      → Keepable p from to after × ((next : List ℕ) → Mapped p.sectors next → kept p from to next after ≡ kept p from to next image)
  again e = by at_cut
    where
      by : Phase p from to map image fits maps may after
          → Keepable p from to after × ((next : List ℕ) → Mapped p.sectors next → kept p from to next after ≡ kept p from to next image)
      by (inl u) = (unmoved_keepable p from to map image after fits may u, unmoved_again p from to map image after fits may u)
      by (inr l) =
          let new : (first_id p from after).flag ≡ 2 =
          ap (λ (id : Id). id.flag) (first_here p from to map image after fits maps may l.0 l.1 l.2) ∙ moved_flag p from to (get_or map 0 0) in
          absurd (omega (arith, new, ap (λ (id : Id). id.flag) e, (home_parts p from image may.home).2))

  -- ---- once it is another, A is moved to B: its sectors are read there
  moved : (first_id p from after ≡ first_id p from image → ⊥) → (state_of p from after ≡ Moved to) × (where_of p from after ≡ On to)
  moved ne = by at_cut
    where
      by : Phase p from to map image fits maps may after → (state_of p from after ≡ Moved to) × (where_of p from after ≡ On to)
      by (inl u) = absurd (ne (from_first p from to map image after fits may u))
      by (inr l) =
          (moved_state_lem p from to map image after fits maps may l.0 l.1 l.2, moved_where p from to map image after fits maps may l.0 l.1 l.2)

  -- each of A's addresses is found there, with the contents that it had
  pub moved_found : (first_id p from after ≡ first_id p from image → ⊥) → (a : Lba) → OnDrive p a → track_of p a ≡ from
      → (k : ℕ) × (found p a after ≡ Slot to k) × (content_of p a after ≡ content_of p a image)
  moved_found ne a h its =
      let same = power a h (λ e. may.apart (sym (ap (λ (t : Track). t.0) its) ∙ e)) in
      let was = may.whole (sector_of p a) (sector_in_lem p fits.within a) in
      let held : content_of p a after ≡ Bytes was.0 = same ∙ content_at_lem p a image ∙ ap (λ (t : Track). content_at p t (sector_of p a) image) its ∙ was.1 in
      by_found p a after ((k : ℕ) × (found p a after ≡ Slot to k) × (content_of p a after ≡ content_of p a image))
      (λ code e. absurd (missing_bytes code _ (sym (content_fault p a after code e) ∙ held)))
      (λ u k e. (k, e ∙ ap (λ (t : Track). Slot t k) (on_same u to (sym (there a u k e its) ∙ (moved ne).1)), same))
    where
      there : (a : Lba) (u : Track) (k : ℕ) → found p a after ≡ Slot u k → track_of p a ≡ from → where_of p from after ≡ On u
      there a u k e its = ap (λ (t : Track). where_of p t after) (sym its) ∙ (found_there p a after u k e).0
