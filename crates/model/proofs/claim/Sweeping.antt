-- A drive formatted from track s on: the tracks from s on are made anew, those below are kept, the label is written.
use Prim.Native.Nat.{ℕ, zero, suc, ◌+◌, ◌-◌, ◌<◌, ◌≤◌}
use mathlib.Core.Path.{◌≡◌, ap, ◌∙◌}
use mathlib.Core.Logic.{inl, inr}
use mathlib.Core.Bool.{true, false, ◌&&◌}
use mathlib.Core.List.{List}
use native.Mathlib.Omega.{arith}
use native.Mathlib.Decide.{ℕ_discrete}
use lib.ListN.{length}
use lib.Dec.{leb, ltb}
use borrow.Author.Tests.{le-ltb, leb-true, leb-false, lt-ltb, le-leb, lt-leb}
use Rattle.base.specs.Part.{splice}
use Rattle.base.proofs.Bools.{or_off}
use Rattle.base.proofs.Decide.{pick_true, pick-false}
use Rattle.base.proofs.Parts.{part_after}
use Rattle.geometry.specs.declared.params.Lba.{Lba}
use Rattle.geometry.specs.declared.params.Track.{Track}
use Rattle.geometry.specs.declared.params.Params.{Params}
use Rattle.geometry.specs.Params.{Within, image_length, track_count, track_size, track_start, track_of, track}
use Rattle.interleave.specs.Layout.{layout_of}
use Rattle.interleave.proofs.Layouts.{layout_length}
use Rattle.track.specs.Image.{track_bytes}
use Rattle.formatter.specs.Format.{sound_from}
use Rattle.formatter.proofs.Laws.{length_sound, sound_before, sound_in}
use Rattle.model.specs.Machine.{Kind, stateless, sound, Disk, parted, parted_by, some_parted, from_on, reformatted}
use Rattle.model.proofs.claim.Mirrors.{state_for, Mirrors}
use Rattle.model.proofs.claim.Change.{Partner, Keeps, Anew, mirrors_at, sound_anew, mirrors_changed}

-- ---- No pair is split: the partner of a track below s is below s
none_parted : (kind : Track → Kind) (s : Track) (n : ℕ) (t : Track) → some_parted kind s n ≡ false → t.0 < n → parted_by s t (kind t) ≡ false
unfolding some_parted
none_parted kind s zero t e h = absurd (omega arith)
none_parted kind s (suc n) t e h = by (ℕ_discrete t.0 n) (λ l. none_parted kind s n t neither.1 l)
  where
    neither : (parted_by s (track n) (kind (track n)) ≡ false) × (some_parted kind s n ≡ false)
    neither = or_off (parted_by s (track n) (kind (track n))) (some_parted kind s n) e

    by : Dec (t.0 ≡ n) → (t.0 < n → parted_by s t (kind t) ≡ false) → parted_by s t (kind t) ≡ false
    by (yes z) ih = ap (λ (i : ℕ). parted_by s (track i) (kind (track i))) z ∙ neither.0
    by (no z) ih = ih (omega arith)

not_parted : (s t v : Track) → parted s t v ≡ false → t.0 < s.0 → v.0 < s.0
unfolding parted
not_parted s t v e h =
    let whole : (ltb t.0 s.0 && leb s.0 v.0) ≡ false =
    (or_off (ltb t.0 s.0 && leb s.0 v.0) (ltb v.0 s.0 && leb s.0 t.0) e).0 in
    leb-false s.0 v.0 (rw (lt-ltb t.0 s.0 h) at whole)

partner_below : (kind : Track → Kind) (s : Track) (n : ℕ) (t v : Track) → some_parted kind s n ≡ false → t.0 < n → t.0 < s.0 → Partner kind t v → v.0 < s.0
unfolding parted_by
partner_below kind s n t v e h l (inl is) = not_parted s t v (rw is at (none_parted kind s n t e h)) l
partner_below kind s n t v e h l (inr is) = not_parted s t v (rw is at (none_parted kind s n t e h)) l

-- ---- Which tracks are formatted
from_on_lem : (p : Params) (s t : Track) → t.0 < track_count p → s.0 ≤ t.0 → from_on p s t ≡ true
unfolding from_on
from_on_lem p s t h l = rw (le-leb s.0 t.0 l, lt-ltb t.0 (track_count p) h)

not_from_on : (p : Params) (s t : Track) → t.0 < s.0 → from_on p s t ≡ false
unfolding from_on
not_from_on p s t l = rw (lt-leb s.0 t.0 l)

module _ (p : Params) (w : Within p) (f : ℕ) (fill : List ℕ) (lf : length fill ≡ p.size) (image : List ℕ) (fits : image_length p ≤ length image)
    (s : Track) (hs : s.0 < track_count p) (label : List ℕ) (sixteen : length label ≡ 16) where
  -- ---- The image
  swept : List ℕ
  swept = sound_from p (layout_of p.sectors f) fill (track_count p - s.0) s image

  long : length (layout_of p.sectors f) ≡ p.sectors
  long = layout_length p.sectors f (omega (arith, w.sectors_some))

  room : s.0 + (track_count p - s.0) ≤ track_count p
  room = omega arith

  length_swept : length swept ≡ length image
  unfolding swept
  length_swept = length_sound p (layout_of p.sectors f) fill long lf s image fits (track_count p - s.0) room

  enough : 0 + length label ≤ length swept
  enough = omega (arith, length_swept)

  track_behind : (t : Track) → track_bytes p t (splice 0 label swept) ≡ track_bytes p t swept
  unfolding track_bytes
  track_behind t = part_after (track_start p t) (track_size p) 0 label swept (omega arith) enough

  -- ---- The machine
  module _ (u : Disk) where
    swept_anew : (t : Track) → t.0 < track_count p → s.0 ≤ t.0 → Anew p (reformatted p s f fill u) (splice 0 label swept) t sound f fill
    unfolding swept reformatted state_for
    swept_anew t h l = record {
      kind = pick_true _ _ _ (lt-ltb t.0 (track_count p) h) ∙ pick_true _ _ _ (le-leb s.0 t.0 l);
      inter = pick_true _ _ _ (from_on_lem p s t h l);
      bytes = track_behind t ∙ sound_in p (layout_of p.sectors f) fill long lf s image fits (track_count p - s.0) t room l (omega arith);
    }

    swept_held : (t : Track) → t.0 < track_count p → s.0 ≤ t.0 → (a : Lba) → track_of p a ≡ t → (reformatted p s f fill u).held a ≡ fill
    unfolding reformatted
    swept_held t h l a is = pick_true _ _ _ (ap (λ (v : Track). from_on p s v) is ∙ from_on_lem p s t h l)

    swept_keeps : (t : Track) → t.0 < track_count p → t.0 < s.0 → Keeps p u (reformatted p s f fill u) image (splice 0 label swept) t
    unfolding swept reformatted
    swept_keeps t h l = record {
      kind = pick_true _ _ _ (lt-ltb t.0 (track_count p) h) ∙ pick-false _ _ _ (lt-leb s.0 t.0 l);
      inter = pick-false _ _ _ (not_from_on p s t l);
      held = λ a is. pick-false _ _ _ (ap (λ (v : Track). from_on p s v) is ∙ not_from_on p s t l);
      bytes = track_behind t ∙ sound_before p (layout_of p.sectors f) fill long lf s image fits (track_count p - s.0) t room l;
    }

    swept_past : (t : Track) → track_count p ≤ t.0 → (reformatted p s f fill u).kind t ≡ stateless
    unfolding reformatted
    swept_past t h = pick-false _ _ _ (le-ltb t.0 (track_count p) h)

    -- From track 0 on there is none below, so nothing is asked of the image before.
    pub mirrors_swept : (0 < f) × (f < p.sectors)
        → (0 < s.0 → Mirrors p u.kind u.inter u.held image × (some_parted u.kind s (track_count p) ≡ false))
        → Mirrors p (reformatted p s f fill u).kind (reformatted p s f fill u).inter (reformatted p s f fill u).held
        (splice 0 label (sound_from p (layout_of p.sectors f) fill (track_count p - s.0) s image))
    unfolding swept
    mirrors_swept hf below =
        let u' = reformatted p s f fill u in
        let before : (t : Track) → leb s.0 t.0 ≡ false → t.0 < s.0 = λ t e. leb-false s.0 t.0 e in
        let since : (t : Track) → leb s.0 t.0 ≡ true → s.0 ≤ t.0 = λ t e. leb-true s.0 t.0 e in
        let some : (t : Track) → leb s.0 t.0 ≡ false → 0 < s.0 = λ t e. omega (arith, before t e) in
        mirrors_changed p w u u' image (splice 0 label swept) (λ i. leb s.0 i)
        (λ t h e. sound_anew p w u' (splice 0 label swept) f hf t fill lf (swept_anew t h (since t e)) (swept_held t h (since t e)))
        (λ t h e. mirrors_at p u image (below (some t e)).0 t h)
        (λ t h e. swept_keeps t h (before t e))
        (λ t v h e is. lt-leb s.0 v.0 (partner_below u.kind s (track_count p) t v (below (some t e)).1 h (before t e) is))
        swept_past
