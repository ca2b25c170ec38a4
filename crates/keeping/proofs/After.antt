-- A move from A's slot 0 on: A's sectors are read on B, with A's data.
use mathlib.Core.Path.{◌≡◌, refl, sym, ap, ◌∙◌}
use mathlib.Core.Bool.{true≢false}
use mathlib.Core.Option.{Option, none, some}
use mathlib.Core.List.{List}
use Prim.Native.Nat.{ℕ, ◌<◌}
use native.Mathlib.Omega.{arith}
use lib.ListN.{get_or}
use lib.Dec.{eqb}
use borrow.Author.Tests.{eq-eqb, eqb-true}
use Rattle.geometry.specs.declared.params.Params.{Params}
use Rattle.geometry.specs.declared.params.Track.{Track}
use Rattle.track.specs.declared.state.State.TheVariants.{Moved, Taken}
use Rattle.track.specs.Find.{On}
use Rattle.track.specs.Id.{id_in, id_for}
use Rattle.track.specs.Image.{Fits, track_bytes, slot_id, slot_data, first_id}
use Rattle.track.specs.Find.{where_of, holds, slot_used}
use Rattle.track.specs.Pair.{state_of}
use Rattle.track.proofs.Laws.{id_back, used_holds, unused, taken_one, moved_taken, state_written, moved_written, holds_written}
use Rattle.contents.specs.Content.{Bytes, read_bytes, content_at}
use Rattle.keeping.specs.Keep.{Mapped, Keepable}
use Rattle.keeping.proofs.Reading.{bytes_back, content_some}
use Rattle.contents.proofs.Laws.{Free, free_written}
use Rattle.keeping.proofs.Leaving.{Left, left_here, left_there}

module _ (p : Params) (from to : Track) (map image now : List ℕ) (fits : Fits p image) (maps : Mapped p.sectors map) (may : Keepable p from to image)
    (j : ℕ) (some_id : 0 < j) (x : Left p from to map image now j) where
  some_sector : 0 < p.sectors
  some_sector = omega (arith, fits.within.sectors_some)

  pub first_here : first_id p from now ≡ id_for p from (Moved to) (get_or map 0 0)
  unfolding first_id
  first_here = ap (λ (bytes : List ℕ). id_in (slot_id p 0 bytes)) (left_here p from to map image fits maps may now j x) ∙ ap id_in (x.ids 0 some_sector some_id) ∙ id_back _

  first_there : first_id p to now ≡ id_for p to (Taken from) (get_or map 0 0)
  unfolding first_id
  first_there =
      ap (λ (bytes : List ℕ). id_in (slot_id p 0 bytes)) (left_there p from to map image fits maps may now j x)
      ∙ ap id_in (x.copied.ids 0 some_sector (omega (arith, some_sector))) ∙ id_back _

  -- none but A has taken A or B
  pub moved_from : Free p from from now
  moved_from = free_written p from from (Moved to) _ now first_here (λ t z. absurd (moved_taken to t z))

  pub moved_to : Free p from to now
  moved_to = free_written p from to (Taken from) _ now first_there (λ t z. sym (taken_one from t z))

  -- ---- A
  pub moved_state_lem : state_of p from now ≡ Moved to
  moved_state_lem = state_written p from (Moved to) (get_or map 0 0) now first_here

  pub moved_where : where_of p from now ≡ On to
  moved_where = moved_written p from (get_or map 0 0) now to (get_or map 0 0) may.to_in first_here first_there

  there_holds : (s k : ℕ) → k < p.sectors → holds p s (track_bytes p to now) k ≡ eqb (get_or map k 0) s
  there_holds s k h =
      holds_written p to (Taken from) (get_or map k 0) s (track_bytes p to now) k
      (ap (slot_id p k) (left_there p from to map image fits maps may now j x) ∙ x.copied.ids k h (omega arith))

  -- the slot that is used for a sector has it
  there_used : (s : ℕ) → s < p.sectors → (k : ℕ) × (k < p.sectors) × (get_or map k 0 ≡ s) × (slot_used p s (track_bytes p to now) ≡ some k)
  there_used s h = by (slot_used p s (track_bytes p to now)) refl
    where
      by : (o : Option ℕ) → slot_used p s (track_bytes p to now) ≡ o → (k : ℕ) × (k < p.sectors) × (get_or map k 0 ≡ s) × (slot_used p s (track_bytes p to now) ≡ some k)
      by none e =
          let r = maps.has s h in
          absurd (true≢false (sym (eq-eqb _ _ r.2) ∙ sym (there_holds s r.0 r.1) ∙ unused p s (track_bytes p to now) e r.0 r.1))
      by (some k) e =
          let r = used_holds p s (track_bytes p to now) k e in
          (k, r.0, eqb-true _ _ (sym (there_holds s k r.0) ∙ r.1), e)

  -- its sectors have their data there
  pub moved_reads : (s : ℕ) → s < p.sectors → content_at p from s now ≡ content_at p from s image
  moved_reads s h =
      let r = there_used s h in
      let w = may.whole s h in
      content_some p from to s now moved_where r.0 r.3
      ∙ ap (λ (bytes : List ℕ). Bytes (slot_data p r.0 bytes)) (left_there p from to map image fits maps may now j x)
      ∙ ap Bytes (x.copied.bodies r.0 r.1 (omega (arith, r.1)))
      ∙ ap (λ (q : ℕ). Bytes (read_bytes (content_at p from q image))) r.2 ∙ bytes_back _ w.0 w.1
