-- No other record: formats change the content of no address outside the tracks formatted, in any image.
use mathlib.Core.Path.{◌≡◌, refl, sym, ap, ◌∙◌}
use mathlib.Core.Bool.{Bool, true, false, not, true≢false}
use mathlib.Core.List.{List}
use Prim.Native.Nat.{ℕ, zero, suc, ◌+◌, ◌-◌, ◌*◌, ◌≤◌, ◌<◌}
use native.Mathlib.Omega.{arith}
use native.Mathlib.Decide.{dec_lt}
use native.Mathlib.Nat.{zero-mul}
use lib.ListN.{length, get_or}
use lib.Dec.{eqb, ltb}
use borrow.Author.Tests.{eq-eqb, ne_eqb, eqb-true, ltb-true, lt-ltb}
use Rattle.base.specs.Part.{part, splice}
use Rattle.base.proofs.Bools.{not-true, not-false}
use Rattle.base.proofs.Parts.{length_splice, part_same, part_after, part_part, other_cell, cell_in}
use Rattle.geometry.specs.declared.params.Params.{Params}
use Rattle.geometry.specs.declared.params.Lba.{Lba}
use Rattle.geometry.specs.declared.params.Track.{Track}
use Rattle.geometry.specs.Params.{track_count, slot_size, track_size, track_start, track_of, OnDrive, next_track}
use Rattle.geometry.proofs.Addresses.{same_track}
use Rattle.track.specs.declared.state.State.{State}
use Rattle.track.specs.declared.state.State.TheVariants.{Sound, Bad, Moved, Taken}
use Rattle.track.specs.Id.{id_in, id_for}
use Rattle.track.specs.Image.{Fits, track_bytes, with_track, slot_id, first_id}
use Rattle.track.specs.Find.{taken_by}
use Rattle.track.specs.Pair.{pair_split}
use Rattle.track.proofs.Laws.{id_back, track_room, taken_in_lem, state_taken, taken_made, taken_one, sound_taken, bad_taken, moved_taken, whole_pairs}
use Rattle.formatter.specs.Format.{formatted, sound_from}
use Rattle.formatter.proofs.Laws.{formatted_most, formatted_least, formatted_front}
use Rattle.contents.specs.Content.{content_of}
use Rattle.contents.proofs.Terms.{ForTracks, NotTaken, FreeFor, track_made, pair_made, drive_made}
use Rattle.contents.proofs.Elsewhere.{Keeps, first_same, content_kept}
use Rattle.contents.proofs.Pair.{free_state, free_written, pair_elsewhere}

-- the front of a stretch that was replaced
front_of : (at size : ℕ) (ys xs : List ℕ) → size ≤ length ys → at + length ys ≤ length xs → part (at + 0) size (splice at ys xs) ≡ part 0 size ys
front_of at size ys xs h room =
    sym (part_part at (length ys) 0 size (splice at ys xs) (omega arith)) ∙ ap (part 0 size) (part_same at (length ys) ys xs refl room)

-- ---- one track made
-- every track but t
unfoldable all_but : Track → Track → Bool
all_but t v = not (eqb v.0 t.0)

but_kept : (t v : Track) → all_but t v ≡ true → v.0 ≡ t.0 → ⊥
unfolding all_but
but_kept t v k e = true≢false (sym (eq-eqb v.0 t.0 e) ∙ not-true _ k)

but_changed : (t v : Track) → all_but t v ≡ false → v ≡ t
unfolding all_but
but_changed t v k = same_track v t (eqb-true _ _ (not-false _ k))

kept_but : (t v : Track) → (v.0 ≡ t.0 → ⊥) → all_but t v ≡ true
unfolding all_but
kept_but t v ne = ap not (ne_eqb v.0 t.0 ne)

module _ (p : Params) (map fill image : List ℕ) (f : Fits p image) (m : ForTracks p map fill) where
  some_slot : 0 < length map
  some_slot = omega (arith, f.within.sectors_some, m.slots)

  module _ (t : Track) (ht : t.0 < track_count p) (state : State) where
    abbrev made : List ℕ
    made = track_made p t state map fill image

    room : track_start p t + length (formatted p t state map fill) ≤ length image
    room = omega (arith, formatted_most p map fill m.slots m.most t state, track_room p t (length image) ht f.long)

    pub made_length : length made ≡ length image
    unfolding with_track
    made_length = length_splice (track_start p t) (formatted p t state map fill) image room

    pub made_fits : Fits p made
    made_fits = record { within = f.within; long = rw made_length f.long }

    pub made_other : (u : Track) → (u.0 ≡ t.0 → ⊥) → track_bytes p u made ≡ track_bytes p u image
    unfolding track_bytes with_track
    made_other u ne =
        other_cell (track_size p) t.0 u.0 (track_start p t) (track_start p u) (track_size p) 16 (formatted p t state map fill) image (λ e. ne (sym e))
        (omega arith) (omega (arith, formatted_most p map fill m.slots m.most t state)) (omega arith) (omega arith) room

    -- what slot 0 says after it
    pub made_first : first_id p t made ≡ id_for p t state (get_or map 0 0)
    unfolding first_id slot_id track_bytes with_track
    made_first =
        let bytes = formatted p t state map fill in
        let none = zero-mul (slot_size p) in
        let inside : 0 * slot_size p + 8 ≤ track_size p = omega (arith, none, cell_in (slot_size p) 0 p.sectors (omega (arith, f.within.sectors_some))) in
        ap id_in
        (part_part (track_start p t) (track_size p) (0 * slot_size p) 8 (splice (track_start p t) bytes image) inside
        ∙ ap (λ (i : ℕ). part (track_start p t + i) 8 (splice (track_start p t) bytes image)) none
        ∙ front_of (track_start p t) 8 bytes image (formatted_least p t state map fill some_slot) room
        ∙ formatted_front p t state map fill some_slot)
        ∙ id_back (id_for p t state (get_or map 0 0))

    -- by whom it is taken after it
    made_taken : (v : Track) → taken_by p v t (first_id p t made) ≡ true → state ≡ Taken v
    made_taken = taken_made p t state (get_or map 0 0) (first_id p t made) made_first

    made_keeps : NotTaken p t image → ((u : Track) → state ≡ Taken u → ⊥) → Keeps p (all_but t) image made
    made_keeps free alone = record {
      same = λ u hu k. made_other u (but_kept t u k);
      none_before = λ v u kv ku e. free v (state_taken p v t image (rw (but_changed t u ku) at e));
      none_after = λ v u kv ku e. alone v (made_taken v (rw (but_changed t u ku) at e));
    }

  -- ---- Format Track, Format Bad Track: every address outside the track
  module _ (t : Track) (ht : t.0 < track_count p) (free : NotTaken p t image) (a : Lba) (ha : OnDrive p a) (out : (track_of p a).0 ≡ t.0 → ⊥) where
    pub format_track_elsewhere : content_of p a (track_made p t Sound map fill image) ≡ content_of p a image
    format_track_elsewhere =
        content_kept p (all_but t) image _ (made_keeps t ht Sound free sound_taken) f.within a ha (kept_but t _ out)

    pub format_bad_track_elsewhere : content_of p a (track_made p t Bad map fill image) ≡ content_of p a image
    format_bad_track_elsewhere =
        content_kept p (all_but t) image _ (made_keeps t ht Bad free bad_taken) f.within a ha (kept_but t _ out)

-- ---- two tracks made
module _ (p : Params) (map plain fill image : List ℕ) (f : Fits p image) (mp : ForTracks p map plain) (mf : ForTracks p map fill)
    (A B : Track) (ha : A.0 < track_count p) (hb : B.0 < track_count p) (ne : B.0 ≡ A.0 → ⊥) where
  abbrev half : List ℕ
  half = track_made p A (Moved B) map plain image

  half_fits : Fits p half
  half_fits = made_fits p map plain image f mp A ha (Moved B)

  -- what slot 0 of A says in the end
  moved_first : first_id p A (pair_made p A B map plain fill image) ≡ id_for p A (Moved B) (get_or map 0 0)
  moved_first =
      first_same p A _ half (made_other p map fill half half_fits mf B hb (Taken A) A (λ e. ne (sym e)))
      ∙ made_first p map plain image f mp A ha (Moved B)

  -- ---- Assign Alternate: every address outside both
  pub assign_elsewhere : NotTaken p A image → FreeFor p A B image → (a : Lba) → OnDrive p a
      → ((track_of p a).0 ≡ A.0 → ⊥) → ((track_of p a).0 ≡ B.0 → ⊥) → content_of p a (pair_made p A B map plain fill image) ≡ content_of p a image
  assign_elsewhere free_a free_b =
      pair_elsewhere p A B image _ f.within
      (λ u hu out_a out_b. made_other p map fill half half_fits mf B hb (Taken A) u out_b ∙ made_other p map plain image f mp A ha (Moved B) u out_a)
      (free_state p A A image (λ u e. absurd (free_a u e))) (free_state p A B image free_b)
      (free_written p A A (Moved B) _ _ moved_first (λ u e. absurd (moved_taken B u e)))
      (free_written p A B (Taken A) _ _ (made_first p map fill half half_fits mf B hb (Taken A)) (λ u e. sym (taken_one A u e)))

-- ---- all tracks from s on made
-- every track before s
unfoldable all_before : (s : Track) → Track → Bool
all_before s v = ltb v.0 s.0

before_lt : (s v : Track) → all_before s v ≡ true → v.0 < s.0
unfolding all_before
before_lt s v e = ltb-true _ _ e

before_is : (s v : Track) → v.0 < s.0 → all_before s v ≡ true
unfolding all_before
before_is s v l = lt-ltb _ _ l

before_ge : (s v : Track) → all_before s v ≡ false → s.0 ≤ v.0
unfolding all_before
before_ge s v e = by (dec_lt v.0 s.0)
  where
    by : Dec (v.0 < s.0) → s.0 ≤ v.0
    by (yes l) = absurd (true≢false (sym (lt-ltb _ _ l) ∙ e))
    by (no l) = omega arith

-- n tracks from t on, made sound: those before stay, and slot 0 of each of them says so
record Swept (p : Params) (map : List ℕ) (n : ℕ) (t : Track) (before after : List ℕ) : Type 0 where
  pub len : length after ≡ length before
  pub kept : (u : Track) → u.0 < t.0 → track_bytes p u after ≡ track_bytes p u before
  pub first : (u : Track) → t.0 ≤ u.0 → u.0 < t.0 + n → first_id p u after ≡ id_for p u Sound (get_or map 0 0)

swept_more : (p : Params) (map : List ℕ) (n : ℕ) (t : Track) (before one after : List ℕ) → length one ≡ length before
    → ((u : Track) → (u.0 ≡ t.0 → ⊥) → track_bytes p u one ≡ track_bytes p u before) → first_id p t one ≡ id_for p t Sound (get_or map 0 0)
    → Swept p map n (next_track t) one after → Swept p map (suc n) t before after
swept_more p map n t before one after len other its r = record {
  len = r.len ∙ len;
  kept = λ u l. r.kept u (omega arith) ∙ other u (omega arith);
  first = λ u l h. by u l h (dec_lt t.0 u.0);
}
  where
    same : first_id p t after ≡ first_id p t one
    same = first_same p t after one (r.kept t (omega arith))

    by : (u : Track) → t.0 ≤ u.0 → u.0 < t.0 + suc n → Dec (t.0 < u.0) → first_id p u after ≡ id_for p u Sound (get_or map 0 0)
    by u l h (yes past) = r.first u (omega arith) (omega arith)
    by u l h (no not-past) = let e : u ≡ t = same_track u t (omega arith) in rw e (same ∙ its)

module _ (p : Params) (map fill : List ℕ) (m : ForTracks p map fill) where
  sweeps : (n : ℕ) (t : Track) (image : List ℕ) → Fits p image → t.0 + n ≤ track_count p → Swept p map n t image (sound_from p map fill n t image)
  unfolding sound_from
  sweeps zero t image f h = record { len = refl; kept = λ u l. refl; first = λ u l k. absurd (omega arith) }
  sweeps (suc n) t image f h =
      let ht : t.0 < track_count p = omega arith in
      swept_more p map n t image _ _ (made_length p map fill image f m t ht Sound) (made_other p map fill image f m t ht Sound)
      (made_first p map fill image f m t ht Sound)
      (sweeps n (next_track t) _ (made_fits p map fill image f m t ht Sound) (omega arith))

module _ (p : Params) (map fill label image : List ℕ) (f : Fits p image) (m : ForTracks p map fill) (sixteen : length label ≡ 16) (s : Track) (hs : s.0 ≤ track_count p) where
  abbrev swept : List ℕ
  swept = sound_from p map fill (track_count p - s.0) s image

  is_swept : Swept p map (track_count p - s.0) s image swept
  is_swept = sweeps p map fill m (track_count p - s.0) s image f (omega arith)

  -- the label is before every track
  pub label_apart : (u : Track) → track_bytes p u (drive_made p s map fill label image) ≡ track_bytes p u swept
  unfolding track_bytes
  label_apart u = part_after (track_start p u) (track_size p) 0 label swept (omega arith) (omega (arith, is_swept.len, f.long))

  drive_first : (u : Track) → u.0 < track_count p → s.0 ≤ u.0 → first_id p u (drive_made p s map fill label image) ≡ id_for p u Sound (get_or map 0 0)
  drive_first u hu l = first_same p u _ swept (label_apart u) ∙ is_swept.first u l (omega arith)

  drive_keeps : pair_split p s image ≡ false → Keeps p (all_before s) image (drive_made p s map fill label image)
  drive_keeps whole = record {
    same = λ u hu k. label_apart u ∙ is_swept.kept u (before_lt s u k);
    none_before = λ v u kv ku e. whole_pairs p s image whole v u (before_lt s v kv) (before_ge s u ku) e;
    none_after = λ v u kv ku e.
        sound_taken v (taken_made p u Sound (get_or map 0 0) _ (drive_first u (taken_in_lem p v u _ e) (before_ge s u ku)) v e);
  }

  -- ---- Format Drive from track s: every address on a track before s
  pub format_drive_elsewhere : pair_split p s image ≡ false → (a : Lba) → OnDrive p a → (track_of p a).0 < s.0
      → content_of p a (drive_made p s map fill label image) ≡ content_of p a image
  format_drive_elsewhere whole a ha l = content_kept p (all_before s) image _ (drive_keeps whole) f.within a ha (before_is s _ l)
