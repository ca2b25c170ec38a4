-- A drive on which engine and machine agree: the checks see one view, parameters in force fit the image, and what is not
-- pending is what is stored.
use Prim.Native.Nat.{ℕ, ◌≤◌}
use mathlib.Core.Path.{◌≡◌, refl, sym, ap, subst, ◌∙◌}
use mathlib.Core.Bool.{Bool, true, false}
use mathlib.Core.Option.{Option, none, some}
use mathlib.Core.List.{List}
use native.Mathlib.Omega.{arith}
use lib.ListN.{length}
use Rattle.base.specs.Pick.{pick}
use Rattle.geometry.specs.declared.params.Params.{Params}
use Rattle.geometry.specs.declared.medium.Medium.{Medium}
use Rattle.std.specs.Prelude.{Some, None}
use Rattle.geometry.specs.Params.{Within, image_length}
use Rattle.geometry.specs.Config.{setting_of, label_setting}
use Rattle.geometry.proofs.Settings.{setting_within}
use Rattle.model.specs.declared.record.Drive.{Drive}
use Rattle.model.specs.Record.{setting_in}
use Rattle.model.specs.Engine.{view_of}
use Rattle.model.specs.Machine.{Disk, in_force, setting_with, seen}
use Rattle.model.proofs.engine.Known.{known_valid}
use Rattle.model.proofs.claim.Mirrors.{Mirrors, KeepsLabel}
use Rattle.model.proofs.claim.Passages.{OnlyHeld}
use Rattle.model.proofs.claim.Agrees.{Stored, nothing, something, Drives}

-- ---- one view
setting_by_lem : (medium : Medium) (known : Bool) (config : List ℕ) (len : ℕ)
    → setting_with medium (pick known (some config) none) len ≡ pick known (setting_of medium config len) None
unfolding pick setting_with
setting_by_lem medium true config len = refl
setting_by_lem medium false config len = refl

module _ (medium : Medium) (entry : Drive) (image : List ℕ) (u : Disk) (drive : Drives medium entry image u) where
  setting_same : setting_in medium entry (length image) ≡ setting_with medium u.force u.len
  unfolding setting_in
  setting_same = rw (drive.force, drive.len) (sym (setting_by_lem medium entry.known entry.config (length image)))

  pub view_same : view_of medium entry (length image) ≡ seen medium u
  unfolding view_of seen
  view_same = rw (setting_same, drive.pending, drive.len)

-- ---- parameters in force
pub record InForce (medium : Medium) (entry : Drive) (image : List ℕ) (u : Disk) (p : Params) : Type 0 where
  pub is : u.force ≡ some entry.config
  pub setting : setting_of medium entry.config (length image) ≡ Some p
  pub within : Within p
  pub fits : image_length p ≤ length image

pub label_same : (medium : Medium) (image after : List ℕ) → KeepsLabel image after → label_setting medium after ≡ label_setting medium image
unfolding label_setting
label_same medium image after keeps = rw (keeps.label 10 6 (omega arith), keeps.label 0 10 (omega arith), keeps.len)

-- what is stored, where it is a configuration that gives p
module _ (medium : Medium) (u : Disk) (image config : List ℕ) (p : Params) (setting : setting_of medium config (length image) ≡ Some p) where
  stored_mirrors : {o : Option (List ℕ)} → Stored medium u image o → o ≡ some config → Mirrors p u.kind u.inter u.held image
  stored_mirrors (nothing i) e = absurd (let z : ◌≡◌ {A = ℕ} 0 1 = cc in omega arith)
  stored_mirrors (something before q s l i mirror) e =
      let same : before ≡ config = cc in
      let valid : Some q ≡ Some p = sym s ∙ ap (λ (k : List ℕ). setting_of medium k (length image)) same ∙ setting in
      let eq : q ≡ p = cc in
      subst (λ (r : Params). Mirrors r u.kind u.inter u.held image) eq mirror

  stored_again : (v : Disk) (after : List ℕ) → KeepsLabel image after → Mirrors p v.kind v.inter v.held after
      → {o : Option (List ℕ)} → Stored medium u image o → o ≡ some config → Stored medium v after o
  stored_again v after keeps mirror (nothing i) e = absurd (let z : ◌≡◌ {A = ℕ} 0 1 = cc in omega arith)
  stored_again v after keeps mirror (something before q s l i m) e =
      let same : before ≡ config = cc in
      let valid : setting_of medium before (length image) ≡ Some p = ap (λ (k : List ℕ). setting_of medium k (length image)) same ∙ setting in
      something before p (ap (setting_of medium before) keeps.len ∙ valid) (keeps.label 0 10 (omega arith) ∙ l)
      (label_same medium image after keeps ∙ i ∙ sym s ∙ valid) mirror

module _ (medium : Medium) (entry : Drive) (image : List ℕ) (u : Disk) (drive : Drives medium entry image u) (p : Params) where
  pub in_force_lem : (seen medium u).setting ≡ Some p → InForce medium entry image u p
  unfolding seen setting_in
  in_force_lem e =
      let k = known_valid medium entry.known entry.config (length image) p (setting_same medium entry image u drive ∙ e) in
      let w = setting_within medium entry.config (length image) p k.1 in
      record { is = drive.force ∙ k.0; setting = k.1; within = w.0; fits = w.1 }

  module _ (force : InForce medium entry image u p) (calm : u.pending ≡ false) where
    kept_config : u.stored ≡ some entry.config
    kept_config = sym (drive.current calm) ∙ force.is

    pub mirrored : Mirrors p u.kind u.inter u.held image
    mirrored = stored_mirrors medium u image entry.config p force.setting drive.stored kept_config

    -- a disk that differs in states, interleaves and bytes only, and an image that mirrors it
    pub drive_again : (v : Disk) (after : List ℕ) → OnlyHeld u v → KeepsLabel image after → Mirrors p v.kind v.inter v.held after
        → Drives medium entry after v
    drive_again v after same keeps mirror = record {
      len = same.len ∙ drive.len ∙ sym keeps.len;
      force = same.force ∙ drive.force;
      pending = same.pending ∙ drive.pending;
      current = λ e. same.force ∙ drive.current (sym same.pending ∙ e) ∙ sym same.stored;
      stored =
          subst (Stored medium v after) (sym same.stored)
          (stored_again medium u image entry.config p force.setting v after keeps mirror drive.stored kept_config);
    }

-- what is in force does not bear on what is stored
pub stored_forced : (medium : Medium) (u : Disk) (image : List ℕ) (force : Option (List ℕ)) (pending : Bool) {o : Option (List ℕ)} → Stored medium u image o
    → Stored medium (in_force force pending u) image o
unfolding in_force
stored_forced medium u image force pending (nothing i) = nothing i
stored_forced medium u image force pending (something config p s l i mirror) = something config p s l i mirror
