-- Some tracks made anew, the others kept: the one law behind formats and assignments.
use Prim.Native.Nat.{ℕ, ◌≤◌, ◌<◌}
use mathlib.Core.Path.{◌≡◌, refl, sym, ap, subst, ◌∙◌}
use mathlib.Core.Logic.{◌⊎◌, inl, inr}
use mathlib.Core.Bool.{Bool, true, false, ◌||◌, true≢false, false≢true}
use mathlib.Core.List.{List}
use native.Mathlib.Omega.{arith}
use lib.ListN.{length}
use lib.Dec.{eqb}
use borrow.Author.Tests.{eqb-true, eqb-false, ne_eqb}
use Rattle.base.proofs.Bools.{or_off}
use Rattle.geometry.specs.declared.params.Lba.{Lba}
use Rattle.geometry.specs.declared.params.Track.{Track}
use Rattle.geometry.specs.declared.params.Params.{Params}
use Rattle.geometry.specs.Params.{Within, track_count, track_of, sector_of, OnDrive}
use Rattle.geometry.proofs.Addresses.{same_track, track_in, sector_in_lem}
use Rattle.interleave.specs.Layout.{layout_of}
use Rattle.interleave.proofs.Slots.{slot_of, slot_lt}
use Rattle.track.specs.Image.{track_bytes, slot_id, slot_data}
use Rattle.formatter.specs.Format.{formatted}
use Rattle.formatter.proofs.Laws.{Formed, format_forms, format_fills}
use Rattle.model.specs.Machine.{Kind, stateless, sound, bad, moved, taken, Disk, is_moved, is_taken}
use Rattle.model.specs.Claim.{is_held}
use Rattle.model.proofs.claim.Mirrors.{state_for, home_of, Paired, Mirrors}

apart : ◌≡◌ {A = ℕ} 0 1 → ⊥
apart e = omega arith

-- What mirroring asks of one track.
pub record TrackMirrors (p : Params) (u : Disk) (image : List ℕ) (t : Track) : Type 0 where
  pub formed : Formed p t (state_for (u.kind t)) (u.inter t) image
  pub inters : (0 < u.inter t) × (u.inter t < p.sectors)
  pub stated : u.kind t ≡ stateless → ⊥
  pub moves : (v : Track) → u.kind t ≡ moved v → Paired p u.kind u.inter t v (taken t)
  pub takes : (v : Track) → u.kind t ≡ taken v → Paired p u.kind u.inter t v (moved t)
  pub kept : (a : Lba) → OnDrive p a → track_of p a ≡ t → is_held (u.kind t) ≡ true
      → slot_data p (slot_of p.sectors (u.inter t) (sector_of p a)) (track_bytes p (home_of t (u.kind t)) image) ≡ u.held a

pub mirrors_by : (p : Params) (w : Within p) (u : Disk) (image : List ℕ) → ((t : Track) → t.0 < track_count p → TrackMirrors p u image t)
    → ((t : Track) → track_count p ≤ t.0 → u.kind t ≡ stateless) → Mirrors p u.kind u.inter u.held image
mirrors_by p w u image each past = record {
  formed = λ t h. (each t h).formed;
  inters = λ t h. (each t h).inters;
  stated = λ t h. (each t h).stated;
  past = past;
  moves = λ t v h. (each t h).moves v;
  takes = λ t v h. (each t h).takes v;
  kept = λ a h. (each (track_of p a) (track_in p w a h)).kept a h refl;
}

pub mirrors_at : (p : Params) (u : Disk) (image : List ℕ) → Mirrors p u.kind u.inter u.held image
    → (t : Track) → t.0 < track_count p → TrackMirrors p u image t
mirrors_at p u image mirror t h = record {
  formed = mirror.formed t h;
  inters = mirror.inters t h;
  stated = mirror.stated t h;
  moves = λ v. mirror.moves t v h;
  takes = λ v. mirror.takes t v h;
  kept = λ a l is.
      subst (λ (v : Track). is_held (u.kind v) ≡ true
      → slot_data p (slot_of p.sectors (u.inter v) (sector_of p a)) (track_bytes p (home_of v (u.kind v)) image) ≡ u.held a)
      is (mirror.kept a l);
}

-- ---- A track that is kept
abbrev pub Partner : (Track → Kind) → (t v : Track) → Type 0
Partner kind t v = (kind t ≡ moved v) ⊎ (kind t ≡ taken v)

-- Nothing of track t is changed.
pub record Keeps (p : Params) (u u' : Disk) (image image' : List ℕ) (t : Track) : Type 0 where
  pub kind : u'.kind t ≡ u.kind t
  pub inter : u'.inter t ≡ u.inter t
  pub held : (a : Lba) → track_of p a ≡ t → u'.held a ≡ u.held a
  pub bytes : track_bytes p t image' ≡ track_bytes p t image

module _ (p : Params) (u u' : Disk) (image image' : List ℕ) (t : Track) (was : TrackMirrors p u image t) (own : Keeps p u u' image image' t)
    (partner : (v : Track) → v.0 < track_count p → Partner u.kind t v → Keeps p u u' image image' v) where
  pair_kept : (v : Track) (back : Kind) → Partner u.kind t v → Paired p u.kind u.inter t v back → Paired p u'.kind u'.inter t v back
  pair_kept v back is pair = record {
    ours = pair.ours;
    returned = (partner v pair.ours is).kind ∙ pair.returned;
    inters = (partner v pair.ours is).inter ∙ pair.inters ∙ sym own.inter;
  }

  home_kept : (κ : Kind) → u.kind t ≡ κ → track_bytes p (home_of t κ) image' ≡ track_bytes p (home_of t κ) image
  unfolding home_of
  home_kept stateless e = own.bytes
  home_kept sound e = own.bytes
  home_kept bad e = own.bytes
  home_kept (moved v) e = (partner v (was.moves v e).ours (inl e)).bytes
  home_kept (taken v) e = own.bytes

  -- A track that is kept, and its partner with it, is mirrored as before.
  pub track_kept : TrackMirrors p u' image' t
  track_kept = record {
    formed = rw (own.kind, own.inter) (record { ids = λ k h. ap (slot_id p k) own.bytes ∙ was.formed.ids k h });
    inters = rw own.inter was.inters;
    stated = λ e. was.stated (sym own.kind ∙ e);
    moves = λ v e. let is = sym own.kind ∙ e in pair_kept v (taken t) (inl is) (was.moves v is);
    takes = λ v e. let is = sym own.kind ∙ e in pair_kept v (moved t) (inr is) (was.takes v is);
    kept = λ a l is some.
        rw (own.kind, own.inter, own.held a is, home_kept (u.kind t) refl) (was.kept a l is (ap is_held (sym own.kind) ∙ some));
  }

-- No track's partner is one that is neither moved nor taken.
pub not_partner : (p : Params) (u : Disk) (image : List ℕ) (t v w : Track) → TrackMirrors p u image t → Partner u.kind t v
    → is_moved (u.kind w) ≡ false → is_taken (u.kind w) ≡ false → v.0 ≡ w.0 → ⊥
unfolding is_moved is_taken
not_partner p u image t v w was (inl e) m k is =
    true≢false (sym (ap is_taken (ap u.kind (sym (same_track v w is)) ∙ (was.moves v e).returned)) ∙ k)
not_partner p u image t v w was (inr e) m k is =
    true≢false (sym (ap is_moved (ap u.kind (sym (same_track v w is)) ∙ (was.takes v e).returned)) ∙ m)

-- ---- A track that is made anew
-- Track t has a state, an interleave and the IDs of its format.
pub record Shaped (p : Params) (u : Disk) (image : List ℕ) (t : Track) (κ : Kind) (f : ℕ) : Type 0 where
  pub kind : u.kind t ≡ κ
  pub inter : u.inter t ≡ f
  pub forms : Formed p t (state_for κ) f image

-- And the fill: the bytes of its format.
pub record Anew (p : Params) (u : Disk) (image : List ℕ) (t : Track) (κ : Kind) (f : ℕ) (fill : List ℕ) : Type 0 where
  pub kind : u.kind t ≡ κ
  pub inter : u.inter t ≡ f
  pub bytes : track_bytes p t image ≡ formatted p t (state_for κ) (layout_of p.sectors f) fill

module _ (p : Params) (w : Within p) (u : Disk) (image : List ℕ) (f : ℕ) (hf : (0 < f) × (f < p.sectors)) where
  module _ (t : Track) (κ : Kind) (fill : List ℕ) (lf : length fill ≡ p.size) (is : Anew p u image t κ f fill) where
    some : 0 < p.sectors
    some = omega (arith, w.sectors_some)

    pub shaped : Shaped p u image t κ f
    shaped = record { kind = is.kind; inter = is.inter; forms = format_forms p t (state_for κ) f fill image some lf is.bytes }

    -- the fill is in each sector's slot
    pub fills : (a : Lba) → slot_data p (slot_of p.sectors f (sector_of p a)) (track_bytes p t image) ≡ fill
    fills a = format_fills p t (state_for κ) f fill image some lf is.bytes (slot_of p.sectors f (sector_of p a)) (slot_lt p.sectors f _ (sector_in_lem p w a))

  module _ (t : Track) (κ : Kind) (is : Shaped p u image t κ f) where
    track_anew : (κ ≡ stateless → ⊥) → ((v : Track) → κ ≡ moved v → Paired p u.kind u.inter t v (taken t))
        → ((v : Track) → κ ≡ taken v → Paired p u.kind u.inter t v (moved t))
        → ((a : Lba) → OnDrive p a → track_of p a ≡ t → is_held κ ≡ true
        → slot_data p (slot_of p.sectors f (sector_of p a)) (track_bytes p (home_of t κ) image) ≡ u.held a)
        → TrackMirrors p u image t
    track_anew stated moves takes kept = record {
      formed = rw (is.kind, is.inter) is.forms;
      inters = rw is.inter hf;
      stated = λ e. stated (sym is.kind ∙ e);
      moves = λ v e. moves v (sym is.kind ∙ e);
      takes = λ v e. takes v (sym is.kind ∙ e);
      kept = λ a l at some. rw (is.kind, is.inter) (kept a l at (ap is_held (sym is.kind) ∙ some));
    }

  module _ (t : Track) (fill : List ℕ) (lf : length fill ≡ p.size) where
    pub sound_anew : Anew p u image t sound f fill → ((a : Lba) → track_of p a ≡ t → u.held a ≡ fill) → TrackMirrors p u image t
    unfolding home_of
    sound_anew is held =
        track_anew t sound (shaped t sound fill lf is) (λ e. apart (cc)) (λ v e. absurd (apart (cc))) (λ v e. absurd (apart (cc)))
        (λ a l at some. fills t sound fill lf is a ∙ sym (held a at))

    pub bad_anew : Anew p u image t bad f fill → TrackMirrors p u image t
    unfolding is_held
    bad_anew is =
        track_anew t bad (shaped t bad fill lf is) (λ e. apart (cc)) (λ v e. absurd (apart (cc))) (λ v e. absurd (apart (cc)))
        (λ a l at some. absurd (false≢true some))

  -- A moved to B, B taken by A; what A holds is in B
  module _ (A B : Track) (h_a : A.0 < track_count p) (h_b : B.0 < track_count p) (is_a : Shaped p u image A (moved B) f) (is_b : Shaped p u image B (taken A) f) where
    paired-A : (v : Track) → moved B ≡ moved v → Paired p u.kind u.inter A v (taken A)
    paired-A v e =
        let z : B ≡ v = cc in
        rw (← z) (record { ours = h_b; returned = is_b.kind; inters = is_b.inter ∙ sym is_a.inter })

    paired-B : (v : Track) → taken A ≡ taken v → Paired p u.kind u.inter B v (moved B)
    paired-B v e =
        let z : A ≡ v = cc in
        rw (← z) (record { ours = h_a; returned = is_a.kind; inters = is_a.inter ∙ sym is_b.inter })

    pub moved_anew : ((a : Lba) → OnDrive p a → track_of p a ≡ A → slot_data p (slot_of p.sectors f (sector_of p a)) (track_bytes p B image) ≡ u.held a) → TrackMirrors p u image A
    unfolding home_of
    moved_anew held = track_anew A (moved B) is_a (λ e. apart (cc)) paired-A (λ v e. absurd (apart (cc))) (λ a l at some. held a l at)

    pub taken_anew : TrackMirrors p u image B
    unfolding is_held
    taken_anew = track_anew B (taken A) is_b (λ e. apart (cc)) (λ v e. absurd (apart (cc))) paired-B (λ a l at some. absurd (false≢true some))

-- ---- The law: each track is made anew or kept, and a kept track's partner is kept
module _ (p : Params) (w : Within p) (u u' : Disk) (image image' : List ℕ) (new : ℕ → Bool)
    (anew : (t : Track) → t.0 < track_count p → new t.0 ≡ true → TrackMirrors p u' image' t)
    (was : (t : Track) → t.0 < track_count p → new t.0 ≡ false → TrackMirrors p u image t)
    (keeps : (t : Track) → t.0 < track_count p → new t.0 ≡ false → Keeps p u u' image image' t)
    (closed : (t v : Track) → t.0 < track_count p → new t.0 ≡ false → Partner u.kind t v → new v.0 ≡ false)
    (past : (t : Track) → track_count p ≤ t.0 → u'.kind t ≡ stateless) where
  each : (t : Track) → t.0 < track_count p → (b : Bool) → new t.0 ≡ b → TrackMirrors p u' image' t
  each t h true e = anew t h e
  each t h false e = track_kept p u u' image image' t (was t h e) (keeps t h e) (λ v hv is. keeps v hv (closed t v h e is))

  pub mirrors_changed : Mirrors p u'.kind u'.inter u'.held image'
  mirrors_changed = mirrors_by p w u' image' (λ t h. each t h _ refl) past

-- Two tracks, or one, made anew that were neither moved nor taken before: no other is their partner.
module _ (p : Params) (w : Within p) (u u' : Disk) (image image' : List ℕ) (mirror : Mirrors p u.kind u.inter u.held image) (A B : Track)
    (m_a : is_moved (u.kind A) ≡ false) (t_a : is_taken (u.kind A) ≡ false) (m_b : is_moved (u.kind B) ≡ false) (t_b : is_taken (u.kind B) ≡ false)
    (anew_a : TrackMirrors p u' image' A) (anew_b : TrackMirrors p u' image' B)
    (keeps : (v : Track) → v.0 < track_count p → (v.0 ≡ A.0 → ⊥) → (v.0 ≡ B.0 → ⊥) → Keeps p u u' image image' v)
    (past : (v : Track) → track_count p ≤ v.0 → u'.kind v ≡ u.kind v) where
  abbrev new : ℕ → Bool
  new i = eqb i A.0 || eqb i B.0

  anew_one : (t : Track) (a b : Bool) → eqb t.0 A.0 ≡ a → eqb t.0 B.0 ≡ b → (a || b) ≡ true → TrackMirrors p u' image' t
  anew_one t true b ea eb e = rw (same_track t A (eqb-true _ _ ea)) anew_a
  anew_one t false true ea eb e = rw (same_track t B (eqb-true _ _ eb)) anew_b
  anew_one t false false ea eb e = absurd (false≢true e)

  pub mirrors_but : Mirrors p u'.kind u'.inter u'.held image'
  mirrors_but =
      let was : (t : Track) → t.0 < track_count p → TrackMirrors p u image t = mirrors_at p u image mirror in
      let other : (t v X : Track) → t.0 < track_count p → Partner u.kind t v → is_moved (u.kind X) ≡ false → is_taken (u.kind X) ≡ false
      → eqb v.0 X.0 ≡ false =
      λ t v X h is m k. ne_eqb v.0 X.0 (not_partner p u image t v X (was t h) is m k) in
      mirrors_changed p w u u' image image' new
      (λ t h e. anew_one t _ _ refl refl e)
      (λ t h e. was t h)
      (λ t h e. let z = or_off _ _ e in keeps t h (eqb-false _ _ z.0) (eqb-false _ _ z.1))
      (λ t v h e is. rw (other t v A h is m_a t_a) (other t v B h is m_b t_b))
      (λ v h. past v h ∙ mirror.past v h)
