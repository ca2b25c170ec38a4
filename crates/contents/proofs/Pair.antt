-- Two tracks, A and B, change and no other does: as long as none but A has taken either of them, before and after, every address outside
-- both reads as before.
use mathlib.Core.Path.{◌≡◌, refl, sym, ap, ◌∙◌}
use mathlib.Core.Logic.{◌⊎◌, inl, inr}
use mathlib.Core.Bool.{Bool, true, false, not, ◌&&◌, true≢false}
use mathlib.Core.List.{List}
use Prim.Native.Nat.{ℕ, ◌<◌}
use lib.Dec.{eqb}
use borrow.Author.Tests.{eqb-true, eqb-false, ne_eqb}
use Rattle.base.proofs.Bools.{both_true, not-true}
use Rattle.geometry.specs.declared.params.Params.{Params}
use Rattle.geometry.specs.declared.params.Lba.{Lba}
use Rattle.geometry.specs.declared.params.Track.{Track}
use Rattle.geometry.specs.Params.{Within, OnDrive, track_count, track_of}
use Rattle.geometry.proofs.Addresses.{same_track}
use Rattle.track.specs.declared.state.State.{State}
use Rattle.track.specs.declared.state.State.TheVariants.{Taken}
use Rattle.track.specs.Id.{id_for}
use Rattle.track.specs.Image.{track_bytes, first_id}
use Rattle.track.specs.Find.{taken_by}
use Rattle.track.proofs.Laws.{state_taken, taken_made}
use Rattle.contents.specs.Content.{content_of}
use Rattle.contents.proofs.Terms.{FreeFor}
use Rattle.contents.proofs.Elsewhere.{NoneTaken, content_kept}

-- none but A has taken track u
abbrev pub Free : Params → (A u : Track) → (image : List ℕ) → Type 0
Free p A u image = (t : Track) → (t.0 ≡ A.0 → ⊥) → taken_by p t u (first_id p u image) ≡ true → ⊥

-- so by the state that the format commands see
pub free_state : (p : Params) (A u : Track) (image : List ℕ) → FreeFor p A u image → Free p A u image
free_state p A u image none t ne taken = ne (none t (state_taken p t u image taken))

-- by slot 0 alone
pub free_same : (p : Params) (A u : Track) (image now : List ℕ) → first_id p u now ≡ first_id p u image → Free p A u image → Free p A u now
free_same p A u image now e free t ne taken = free t ne (ap (taken_by p t u) (sym e) ∙ taken)

-- where slot 0 is one that a format writes
pub free_written : (p : Params) (A u : Track) (state : State) (s : ℕ) (now : List ℕ) → first_id p u now ≡ id_for p u state s
    → ((t : Track) → state ≡ Taken t → t.0 ≡ A.0) → Free p A u now
free_written p A u state s now e none t ne taken = ne (none t (taken_made p u state s (first_id p u now) e t taken))

-- ---- every track but A and B
unfoldable other : (A B : Track) → Track → Bool
other A B t = not (eqb t.0 A.0) && not (eqb t.0 B.0)

is_other : (A B t : Track) → other A B t ≡ true → (t.0 ≡ A.0 → ⊥) × (t.0 ≡ B.0 → ⊥)
unfolding other
is_other A B t e = let b = both_true _ _ e in (eqb-false _ _ (not-true _ b.0), eqb-false _ _ (not-true _ b.1))

others : (A B t : Track) → (t.0 ≡ A.0 → ⊥) → (t.0 ≡ B.0 → ⊥) → other A B t ≡ true
unfolding other
others A B t na nb = rw (ne_eqb _ _ na, ne_eqb _ _ nb)

either : (x y : Bool) → (not x && not y) ≡ false → (x ≡ true) ⊎ (y ≡ true)
either true y e = inl refl
either false true e = inr refl
either false false e = absurd (true≢false e)

one_of : (A B u : Track) → other A B u ≡ false → (u ≡ A) ⊎ (u ≡ B)
unfolding other
one_of A B u k = by (either _ _ k)
  where
    by : (eqb u.0 A.0 ≡ true) ⊎ (eqb u.0 B.0 ≡ true) → (u ≡ A) ⊎ (u ≡ B)
    by (inl e) = inl (same_track u A (eqb-true _ _ e))
    by (inr e) = inr (same_track u B (eqb-true _ _ e))

none_taken : (p : Params) (A B : Track) (image : List ℕ) → Free p A A image → Free p A B image → NoneTaken p (other A B) image
none_taken p A B image fa fb t u kt ku taken = by (one_of A B u ku)
  where
    ne : t.0 ≡ A.0 → ⊥
    ne = (is_other A B t kt).0

    by : (u ≡ A) ⊎ (u ≡ B) → ⊥
    by (inl e) = fa t ne (rw e at taken)
    by (inr e) = fb t ne (rw e at taken)

pub pair_elsewhere : (p : Params) (A B : Track) (image now : List ℕ) → Within p
    → ((t : Track) → t.0 < track_count p → (t.0 ≡ A.0 → ⊥) → (t.0 ≡ B.0 → ⊥) → track_bytes p t now ≡ track_bytes p t image)
    → Free p A A image → Free p A B image → Free p A A now → Free p A B now
    → (a : Lba) → OnDrive p a → ((track_of p a).0 ≡ A.0 → ⊥) → ((track_of p a).0 ≡ B.0 → ⊥) → content_of p a now ≡ content_of p a image
pair_elsewhere p A B image now within same ba bb na nb a h ea eb =
    content_kept p (other A B) image now
    (record {
      same = λ u hu k. let r = is_other A B u k in same u hu r.0 r.1;
      none_before = none_taken p A B image ba bb;
      none_after = none_taken p A B now na nb;
    })
    within a h (others A B (track_of p a) ea eb)
