-- Where some tracks are kept, and no other is taken by one of them, the addresses on the tracks kept read as before.
use mathlib.Core.Path.{◌≡◌, refl, sym, ap, ◌∙◌}
use mathlib.Core.Bool.{Bool, true, false}
use mathlib.Core.List.{List}
use Prim.Native.Nat.{ℕ, ◌<◌}
use native.Mathlib.Omega.{arith}
use native.Mathlib.Decide.{dec_lt}
use borrow.Author.Tests.{le-ltb}
use Rattle.geometry.specs.declared.params.Params.{Params}
use Rattle.geometry.specs.declared.params.Lba.{Lba}
use Rattle.geometry.specs.declared.params.Track.{Track}
use Rattle.geometry.specs.Params.{Within, track_count, track_of, sector_of, OnDrive}
use Rattle.geometry.proofs.Addresses.{track_in}
use Rattle.track.specs.declared.id.Id.{Id}
use Rattle.track.specs.Find.{Where}
use Rattle.track.specs.Find.{On, Off}
use Rattle.track.specs.Id.{id_in, own_id}
use Rattle.track.specs.Image.{track_bytes, slot_id, slot_data, first_id}
use Rattle.track.specs.Find.{Slot}
use Rattle.track.specs.Find.{taken_by, where_by, where_of, slot_used, sector_in, sector_from, sector_found}
use Rattle.track.proofs.Laws.{taken_past, where_in, off_on, on_same, where_has}
use Rattle.sectors.proofs.Laws.{found_there}
use Rattle.sectors.specs.Transfer.{found}
use Rattle.contents.specs.Content.{Bytes, content_in, content_of}
use Rattle.contents.proofs.Puts.{by_found}

-- ---- tracks kept while others change, and apart from them: no track that changes is taken by one that is kept, before or after
abbrev pub NoneTaken : Params → (kept : Track → Bool) → (image : List ℕ) → Type 0
NoneTaken p kept image = (t u : Track) → kept t ≡ true → kept u ≡ false → taken_by p t u (first_id p u image) ≡ true → ⊥

pub record Keeps (p : Params) (kept : Track → Bool) (before after : List ℕ) : Type 0 where
  pub same : (u : Track) → u.0 < track_count p → kept u ≡ true → track_bytes p u after ≡ track_bytes p u before
  pub none_before : NoneTaken p kept before
  pub none_after : NoneTaken p kept after

-- what slot 0 says goes by the track's bytes
pub first_same : (p : Params) (u : Track) (a b : List ℕ) → track_bytes p u a ≡ track_bytes p u b → first_id p u a ≡ first_id p u b
unfolding first_id
first_same p u a b e = ap (λ (l : List ℕ). id_in (slot_id p 0 l)) e

-- two tests that neither hold agree
neither : (a b : Bool) → (a ≡ true → ⊥) → (b ≡ true → ⊥) → a ≡ b
neither true b h k = absurd (h refl)
neither false true h k = absurd (k refl)
neither false false h k = refl

module _ (p : Params) (kept : Track → Bool) (before after : List ℕ) (keeps : Keeps p kept before after) where
  first_kept : (u : Track) → u.0 < track_count p → kept u ≡ true → first_id p u after ≡ first_id p u before
  first_kept u hu k = first_same p u after before (keeps.same u hu k)

  -- a partner is taken by a kept track after if it was before
  taken_kept : (t u : Track) → kept t ≡ true → taken_by p t u (first_id p u after) ≡ taken_by p t u (first_id p u before)
  taken_kept t u kt = by (dec_lt u.0 (track_count p)) (kept u) refl
    where
      by : Dec (u.0 < track_count p) → (b : Bool) → kept u ≡ b → taken_by p t u (first_id p u after) ≡ taken_by p t u (first_id p u before)
      by (no l) b e =
          let past = le-ltb u.0 (track_count p) (omega arith) in
          taken_past p t u (first_id p u after) past ∙ sym (taken_past p t u (first_id p u before) past)
      by (yes l) true e = ap (taken_by p t u) (first_kept u l e)
      by (yes l) false e = neither _ _ (keeps.none_after t u kt e) (keeps.none_before t u kt e)

  where_kept : (t : Track) → t.0 < track_count p → kept t ≡ true → where_of p t after ≡ where_of p t before
  unfolding where_of
  where_kept t h k =
      ap (λ (id : Id). where_by t id (own_id p t id) (taken_by p t id.partner (first_id p id.partner after))) (first_kept t h k)
      ∙ ap (where_by t (first_id p t before) (own_id p t (first_id p t before))) (taken_kept t (first_id p t before).partner k)

  -- the track where the search goes on is kept
  there_kept : (t u : Track) → kept t ≡ true → where_of p t before ≡ On u → kept u ≡ true
  unfolding where_of
  there_kept t u k e =
      let id = first_id p t before in
      where_has (λ w. w ≡ On u → kept u ≡ true) t id _ _
      (λ code z. absurd (off_on code u z))
      (λ flag z. ap kept (sym (on_same t u z)) ∙ k)
      (λ taken z. ap kept (sym (on_same id.partner u z)) ∙ by id.partner taken (kept id.partner) refl)
      e
    where
      by : (v : Track) → taken_by p t v (first_id p v before) ≡ true → (b : Bool) → kept v ≡ b → kept v ≡ true
      by v taken true z = z
      by v taken false z = absurd (keeps.none_before t v k z taken)

  module _ (w : Within p) (a : Lba) (ha : OnDrive p a) (ka : kept (track_of p a) ≡ true) where
    abbrev home : Track
    home = track_of p a

    in_drive : home.0 < track_count p
    in_drive = track_in p w a ha

    from_kept : (s : ℕ) (x : Where) → where_of p home before ≡ x → sector_from p s after x ≡ sector_from p s before x
    unfolding sector_from
    from_kept s (Off code) e = refl
    from_kept s (On u) e =
        ap (λ (l : List ℕ). sector_in u (slot_used p s l))
        (keeps.same u (where_in p home before (where_of p home before) refl in_drive u e) (there_kept home u ka e))

    pub found_kept : found p a after ≡ found p a before
    unfolding found sector_found
    found_kept =
        ap (sector_from p (sector_of p a) after) (where_kept home in_drive ka)
        ∙ from_kept (sector_of p a) (where_of p home before) refl

    content_slot_kept : (u : Track) (k : ℕ) → found p a before ≡ Slot u k → content_in p after (Slot u k) ≡ content_in p before (Slot u k)
    unfolding content_in
    content_slot_kept u k e =
        let on = (found_there p a before u k e).0 in
        ap (λ (l : List ℕ). Bytes (slot_data p k l))
        (keeps.same u (where_in p home before (where_of p home before) refl in_drive u on) (there_kept home u ka on))

    pub content_kept : content_of p a after ≡ content_of p a before
    unfolding content_of content_in
    content_kept =
        ap (content_in p after) found_kept
        ∙ by_found p a before (content_in p after (found p a before) ≡ content_in p before (found p a before))
        (λ code e. rw e refl) (λ u k e. rw e (content_slot_kept u k e))
