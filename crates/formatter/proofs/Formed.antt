-- Tracks whose IDs are those of a format: what finding, the format commands and Check Track see in them.
use mathlib.Core.Path.{◌≡◌, refl, sym, ap, ◌∙◌}
use mathlib.Core.Bool.{Bool, true, false, true≢false}
use mathlib.Core.Option.{Option, none, some}
use mathlib.Core.List.{List}
use Prim.Native.Nat.{ℕ, ◌<◌}
use native.Mathlib.Omega.{arith}
use native.Mathlib.Decide.{ℕ_discrete}
use lib.ListN.{length, get_or}
use lib.Dec.{eqb}
use borrow.Author.Tests.{eq-eqb, ne_eqb, eqb-true}
use Rattle.base.specs.Pick.{pick}
use Rattle.base.specs.Same.{same_bytes}
use Rattle.base.proofs.Decide.{pick_true, pick-false}
use Rattle.base.proofs.Firsts.{every_true, every_at}
use Rattle.base.proofs.Sames.{same_self, same_eq}
use Rattle.geometry.specs.declared.params.Params.{Params}
use Rattle.geometry.specs.declared.params.Track.{Track}
use Rattle.geometry.specs.Params.{track_count}
use Rattle.interleave.specs.Layout.{layout_of}
use Rattle.interleave.proofs.Layouts.{layout_length}
use Rattle.interleave.proofs.Slots.{sector_at, slot_of, slot_lt, sector_slot, slot_sector, slot_one}
use Rattle.track.specs.declared.state.State.{State}
use Rattle.track.specs.declared.state.State.TheVariants.{Sound, Bad, Moved, Taken}
use Rattle.track.specs.Find.{On, Off}
use Rattle.track.specs.Id.{id_bytes, id_in, id_for, with_sector}
use Rattle.track.specs.Image.{track_bytes, slot_id, slot_data, first_id}
use Rattle.track.specs.Find.{Slot, Fault}
use Rattle.track.specs.Find.{where_of, holds, slot_used, sector_in, sector_from, sector_found}
use Rattle.track.specs.Pair.{state_of}
use Rattle.track.proofs.Laws.{id_back, sector_for, state_written, sound_written, bad_written, taken_written, moved_written, holds_written, used_holds, unused}
use Rattle.formatter.specs.Format.{formatted}
use Rattle.formatter.specs.Check.{id_is, ids_are, home_state, checked_on, check_code}
use Rattle.formatter.proofs.Formats.{id_formatted, data_formatted}

-- every slot of track t has the ID that a format with this state and interleave writes there
pub record Formed (p : Params) (t : Track) (state : State) (f : ℕ) (image : List ℕ) : Type 0 where
  pub ids : (k : ℕ) → k < p.sectors → slot_id p k (track_bytes p t image) ≡ id_bytes (id_for p t state (sector_at p.sectors f k))

-- ---- a track that has the bytes of a format is such a track, with the fill in every slot
module _ (p : Params) (t : Track) (state : State) (f : ℕ) (fill image : List ℕ) (some_sector : 0 < p.sectors) (lf : length fill ≡ p.size) where
  long : length (layout_of p.sectors f) ≡ p.sectors
  long = layout_length p.sectors f some_sector

  module _ (made : track_bytes p t image ≡ formatted p t state (layout_of p.sectors f) fill) where
    pub format_forms : Formed p t state f image
    format_forms = record { ids = λ k h. ap (slot_id p k) made ∙ id_formatted p t state (layout_of p.sectors f) fill long lf k h }

    pub format_fills : (k : ℕ) → k < p.sectors → slot_data p k (track_bytes p t image) ≡ fill
    format_fills k h = ap (slot_data p k) made ∙ data_formatted p t state (layout_of p.sectors f) fill long lf k h

-- ---- slot 0
pub first_formed : (p : Params) (t : Track) (state : State) (f : ℕ) (image : List ℕ) → 0 < p.sectors → Formed p t state f image
    → first_id p t image ≡ id_for p t state (sector_at p.sectors f 0)
unfolding first_id
first_formed p t state f image h form = ap id_in (form.ids 0 h) ∙ id_back (id_for p t state (sector_at p.sectors f 0))

-- the state that the format commands see is the state formatted
pub state_formed : (p : Params) (t : Track) (state : State) (f : ℕ) (image : List ℕ) → 0 < p.sectors → Formed p t state f image → state_of p t image ≡ state
state_formed p t state f image h form = state_written p t state _ image (first_formed p t state f image h form)

-- ---- where the search goes on
module _ (p : Params) (t : Track) (f : ℕ) (image : List ℕ) (some_sector : 0 < p.sectors) where
  pub where_sound : Formed p t Sound f image → where_of p t image ≡ On t
  where_sound form = sound_written p t _ image (first_formed p t Sound f image some_sector form)

  pub where_bad : Formed p t Bad f image → where_of p t image ≡ Off 0x19
  where_bad form = bad_written p t _ image (first_formed p t Bad f image some_sector form)

  pub where_taken : (u : Track) → Formed p t (Taken u) f image → where_of p t image ≡ Off 0x1C
  where_taken u form = taken_written p t _ image u (first_formed p t (Taken u) f image some_sector form)

  pub where_moved : (u : Track) (g : ℕ) → u.0 < track_count p → Formed p t (Moved u) f image → Formed p u (Taken t) g image → where_of p t image ≡ On u
  where_moved u g hu form form' =
      moved_written p t _ image u _ hu (first_formed p t (Moved u) f image some_sector form) (first_formed p u (Taken t) g image some_sector form')

-- ---- the slot that is used for a sector: its own in the layout
holds_formed : (p : Params) (t : Track) (state : State) (f s : ℕ) (image : List ℕ) (k : ℕ) → Formed p t state f image → k < p.sectors
    → holds p s (track_bytes p t image) k ≡ eqb (sector_at p.sectors f k) s
holds_formed p t state f s image k form h = holds_written p t state _ s (track_bytes p t image) k (form.ids k h)

module _ (p : Params) (t : Track) (state : State) (f s : ℕ) (image : List ℕ) (form : Formed p t state f image) (hs : s < p.sectors) where
  -- a slot that holds s is its slot in the layout
  its_own : (k : ℕ) → k < p.sectors → holds p s (track_bytes p t image) k ≡ true → k ≡ slot_of p.sectors f s
  its_own k h e = sym (slot_sector p.sectors f k h) ∙ ap (slot_of p.sectors f) (eqb-true _ _ (sym (holds_formed p t state f s image k form h) ∙ e))

  used_own : (o : Option ℕ) → slot_used p s (track_bytes p t image) ≡ o → o ≡ some (slot_of p.sectors f s)
  used_own none e =
      let k = slot_of p.sectors f s in
      let l = slot_lt p.sectors f s hs in
      absurd (true≢false (sym (eq-eqb _ _ (sector_slot p.sectors f s hs)) ∙ sym (holds_formed p t state f s image k form l) ∙ unused p s (track_bytes p t image) e k l))
  used_own (some k) e = let r = used_holds p s (track_bytes p t image) k e in ap some (its_own k r.0 r.1)

  pub used_formed : slot_used p s (track_bytes p t image) ≡ some (slot_of p.sectors f s)
  used_formed = used_own _ refl

-- ---- what is formatted is found: a sound track's sector in its layout slot, a moved track's on its partner
module _ (p : Params) (t : Track) (f s : ℕ) (image : List ℕ) (some_sector : 0 < p.sectors) (hs : s < p.sectors) where
  pub found_sound : Formed p t Sound f image → sector_found p t s image ≡ Slot t (slot_of p.sectors f s)
  unfolding sector_found sector_from sector_in
  found_sound form = rw (where_sound p t f image some_sector form, used_formed p t Sound f s image form hs)

  pub found_moved : (u : Track) (g : ℕ) → u.0 < track_count p → Formed p t (Moved u) g image → Formed p u (Taken t) f image
      → sector_found p t s image ≡ Slot u (slot_of p.sectors f s)
  unfolding sector_found sector_from sector_in
  found_moved u g hu form form' = rw (where_moved p t g image some_sector u f hu form form', used_formed p u (Taken t) f s image form' hs)

  pub found_bad : Formed p t Bad f image → sector_found p t s image ≡ Fault 0x19
  unfolding sector_found sector_from
  found_bad form = rw (where_bad p t f image some_sector form)

  pub found_taken : (u : Track) → Formed p t (Taken u) f image → sector_found p t s image ≡ Fault 0x1C
  unfolding sector_found sector_from
  found_taken u form = rw (where_taken p t f image some_sector u form)

-- ---- Check Track passes exactly for the interleave formatted with
id_true : (p : Params) (t : Track) (state : State) (s : ℕ) (bytes : List ℕ) → bytes ≡ id_bytes (id_for p t state s) → same_bytes bytes (id_bytes (with_sector (id_for p t state 0) s)) ≡ true
id_true p t state s bytes e = rw (e, sector_for p t state 0 s) (same_self (id_bytes (id_for p t state s)))

id_eq : (p : Params) (t : Track) (state : State) (map bytes : List ℕ) (k : ℕ) → id_is p (id_for p t state 0) map bytes k ≡ true → slot_id p k bytes ≡ id_bytes (id_for p t state (get_or map k 0))
unfolding id_is
id_eq p t state map bytes k e = same_eq _ _ e ∙ ap id_bytes (sector_for p t state 0 (get_or map k 0))

sector_is : (p : Params) (t : Track) (state : State) (a b : ℕ) → id_bytes (id_for p t state a) ≡ id_bytes (id_for p t state b) → a ≡ b
unfolding id_bytes id_for
sector_is p t state a b e = ap (λ (l : List ℕ). get_or l 4 0) e

module _ (p : Params) (t : Track) (state : State) (f g : ℕ) (image : List ℕ) (form : Formed p t state g image)
    (hf : (0 < f) × (f < p.sectors)) (hg : (0 < g) × (g < p.sectors)) where
  ids_true : f ≡ g → ids_are p (id_for p t state 0) (layout_of p.sectors f) (track_bytes p t image) ≡ true
  unfolding ids_are id_is
  ids_true e =
      every_true (id_is p (id_for p t state 0) (layout_of p.sectors f) (track_bytes p t image)) (length (layout_of p.sectors f))
      (λ k h. id_true p t state (sector_at p.sectors f k) _ (form.ids k (omega (arith, layout_length p.sectors f (omega arith))) ∙ ap (λ (i : ℕ). id_bytes (id_for p t state (sector_at p.sectors i k))) (sym e)))

  -- slot f has sector 1 in layout f: if the IDs are those of f too, f is g
  ids_only : ids_are p (id_for p t state 0) (layout_of p.sectors f) (track_bytes p t image) ≡ true → f ≡ g
  unfolding ids_are
  ids_only e =
      let n = p.sectors in
      let at_f = every_at (id_is p (id_for p t state 0) (layout_of n f) (track_bytes p t image)) (length (layout_of n f)) e f (omega (arith, layout_length n f (omega arith))) in
      let same : sector_at n f f ≡ sector_at n g f = sector_is p t state _ _ (sym (id_eq p t state (layout_of n f) (track_bytes p t image) f at_f) ∙ form.ids f hf.1) in
      let one : sector_at n f f ≡ 1 = ap (sector_at n f) (sym (slot_one n f hf.0 hf.1)) ∙ sector_slot n f 1 (omega arith) in
      sym (slot_sector n g f hf.1) ∙ ap (slot_of n g) (sym same ∙ one) ∙ slot_one n g hg.0 hg.1

  pub ids_formed : ids_are p (id_for p t state 0) (layout_of p.sectors f) (track_bytes p t image) ≡ eqb f g
  ids_formed = by (ℕ_discrete f g) _ refl
    where
      by : Dec (f ≡ g) → (b : Bool) → ids_are p (id_for p t state 0) (layout_of p.sectors f) (track_bytes p t image) ≡ b
          → ids_are p (id_for p t state 0) (layout_of p.sectors f) (track_bytes p t image) ≡ eqb f g
      by (yes z) b e = ids_true z ∙ sym (eq-eqb f g z)
      by (no z) false e = e ∙ sym (ne_eqb f g z)
      by (no z) true e = absurd (z (ids_only e))

module _ (p : Params) (t : Track) (f g : ℕ) (image : List ℕ) (hf : (0 < f) × (f < p.sectors)) (hg : (0 < g) × (g < p.sectors)) where
  pub check_sound : Formed p t Sound g image → check_code p t (layout_of p.sectors f) image ≡ pick (eqb f g) 0 0x1A
  unfolding check_code checked_on home_state
  check_sound form =
      rw (where_sound p t g image (omega arith) form, eq-eqb t.0 t.0 refl, pick_true true Sound (Taken t) refl, ids_formed p t Sound f g image form hf hg)

  pub check_moved : (u : Track) (h : ℕ) → u.0 < track_count p → (u.0 ≡ t.0 → ⊥) → Formed p t (Moved u) h image → Formed p u (Taken t) g image
      → check_code p t (layout_of p.sectors f) image ≡ pick (eqb f g) 0 0x1A
  unfolding check_code checked_on home_state
  check_moved u h hu ne form form' =
      rw (where_moved p t h image (omega arith) u g hu form form', ne_eqb u.0 t.0 ne, pick-false false Sound (Taken t) refl, ids_formed p u (Taken t) f g image form' hf hg)

  pub check_bad : Formed p t Bad g image → check_code p t (layout_of p.sectors f) image ≡ 0x19
  unfolding check_code checked_on
  check_bad form = rw (where_bad p t g image (omega arith) form)

  pub check_taken : (u : Track) → Formed p t (Taken u) g image → check_code p t (layout_of p.sectors f) image ≡ 0x1C
  unfolding check_code checked_on
  check_taken u form = rw (where_taken p t g image (omega arith) u form)
