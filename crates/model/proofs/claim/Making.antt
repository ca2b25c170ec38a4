-- One track formatted, in the image and in the machine: that track is made anew, each other and the label are kept.
use Prim.Native.Nat.{ℕ, ◌<◌, ◌≤◌}
use mathlib.Core.Path.{◌≡◌, refl, sym, ap, ◌∙◌}
use mathlib.Core.List.{List}
use native.Mathlib.Omega.{arith}
use lib.ListN.{length}
use borrow.Author.Tests.{eq-eqb, ne_eqb}
use Rattle.base.proofs.Decide.{pick_true, pick-false}
use Rattle.geometry.specs.declared.params.Lba.{Lba}
use Rattle.geometry.specs.declared.params.Track.{Track}
use Rattle.geometry.specs.declared.params.Params.{Params}
use Rattle.geometry.specs.Params.{Within, image_length, track_count, track_size, track_of}
use Rattle.interleave.specs.Layout.{layout_of}
use Rattle.interleave.proofs.Layouts.{layout_length}
use Rattle.track.proofs.Laws.{length_with_track, track_same, track_other, label_kept}
use Rattle.formatter.specs.Format.{formatted}
use Rattle.formatter.proofs.Laws.{length_formatted}
use Rattle.model.specs.declared.block.Block.{Block}
use Rattle.model.specs.Commands.{made_at}
use Rattle.model.specs.Machine.{Kind, Disk, becomes, filled}
use Rattle.model.proofs.claim.Mirrors.{state_for, KeepsLabel}
use Rattle.model.proofs.claim.Change.{Keeps, Anew}

-- ---- One change after another
pub keeps_then : (p : Params) (u u' u'' : Disk) (image image' image'' : List ℕ) (t : Track)
    → Keeps p u u' image image' t → Keeps p u' u'' image' image'' t → Keeps p u u'' image image'' t
keeps_then p u u' u'' image image' image'' t one two = record {
  kind = two.kind ∙ one.kind;
  inter = two.inter ∙ one.inter;
  held = λ a is. two.held a is ∙ one.held a is;
  bytes = two.bytes ∙ one.bytes;
}

pub anew_then : (p : Params) (u u' : Disk) (image image' : List ℕ) (t : Track) (κ : Kind) (f : ℕ) (fill : List ℕ)
    → Anew p u image t κ f fill → Keeps p u u' image image' t → Anew p u' image' t κ f fill
anew_then p u u' image image' t κ f fill is keeps =
    record { kind = keeps.kind ∙ is.kind; inter = keeps.inter ∙ is.inter; bytes = keeps.bytes ∙ is.bytes }

pub label_then : (image image' image'' : List ℕ) → KeepsLabel image image' → KeepsLabel image' image'' → KeepsLabel image image''
label_then image image' image'' one two =
    record { len = two.len ∙ one.len; label = λ at size h. two.label at size h ∙ one.label at size h }

-- ---- The fill at each address of track t
pub filled_here : (p : Params) (t : Track) (fill : List ℕ) (u : Disk) (a : Lba) → track_of p a ≡ t → (filled p t fill u).held a ≡ fill
unfolding filled
filled_here p t fill u a is = pick_true _ _ _ (eq-eqb _ _ (ap (λ (v : Track). v.0) is))

module _ (p : Params) (t : Track) (fill : List ℕ) (u : Disk) (image : List ℕ) where
  pub filled_keeps : (v : Track) → (v.0 ≡ t.0 → ⊥) → Keeps p u (filled p t fill u) image image v
  unfolding filled
  filled_keeps v ne = record {
    kind = refl;
    inter = refl;
    held = λ a is. pick-false _ _ _ (ne_eqb _ _ (λ e. ne (ap (λ (v : Track). v.0) (sym is) ∙ e)));
    bytes = refl;
  }

  pub filled_anew : (v : Track) (κ : Kind) (f : ℕ) (plain : List ℕ) → Anew p u image v κ f plain → Anew p (filled p t fill u) image v κ f plain
  unfolding filled
  filled_anew v κ f plain is = record { kind = is.kind; inter = is.inter; bytes = is.bytes }

-- ---- Tracks past the last have no part in it
pub past_made : (p : Params) (t : Track) (κ : Kind) (f : ℕ) (u : Disk) → t.0 < track_count p
    → (v : Track) → track_count p ≤ v.0 → (becomes t κ f u).kind v ≡ u.kind v
unfolding becomes
past_made p t κ f u h v l = pick-false _ _ _ (ne_eqb v.0 t.0 (omega arith))

-- ---- A track formatted
module _ (b : Block) (p : Params) (w : Within p) (t : Track) (h : t.0 < track_count p) (κ : Kind) (fill : List ℕ) (lf : length fill ≡ p.size)
    (image : List ℕ) (fits : image_length p ≤ length image) where
  bytes : List ℕ
  bytes = formatted p t (state_for κ) (layout_of p.sectors b.extra) fill

  long : length bytes ≡ track_size p
  unfolding bytes
  long =
      length_formatted p t (state_for κ) (layout_of p.sectors b.extra) fill
      (layout_length p.sectors b.extra (omega (arith, w.sectors_some))) lf

  pub made_label : KeepsLabel image (made_at b p t (state_for κ) fill image)
  unfolding made_at bytes
  made_label = record { len = length_with_track p image fits t bytes h long; label = label_kept p image fits t bytes h long }

  module _ (u : Disk) where
    pub made_anew : Anew p (becomes t κ b.extra u) (made_at b p t (state_for κ) fill image) t κ b.extra fill
    unfolding becomes made_at bytes
    made_anew = record {
      kind = pick_true _ _ _ (eq-eqb t.0 t.0 refl);
      inter = pick_true _ _ _ (eq-eqb t.0 t.0 refl);
      bytes = track_same p image fits t bytes h long;
    }

    pub made_keeps : (v : Track) → v.0 < track_count p → (v.0 ≡ t.0 → ⊥)
        → Keeps p u (becomes t κ b.extra u) image (made_at b p t (state_for κ) fill image) v
    unfolding becomes made_at bytes
    made_keeps v hv ne = record {
      kind = pick-false _ _ _ (ne_eqb v.0 t.0 ne);
      inter = pick-false _ _ _ (ne_eqb v.0 t.0 ne);
      held = λ a is. refl;
      bytes = track_other p image fits t bytes h long v hv (λ e. ne (sym e));
    }
