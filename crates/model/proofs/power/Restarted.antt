-- A Reset on images of which one was cut short, but for its label: a label that held the parameters in force puts them in force again.
use Prim.Native.Nat.{ℕ, ◌+◌, ◌≤◌, ◌<◌}
use mathlib.Core.Path.{◌≡◌, refl, ap, ◌∙◌}
use mathlib.Core.Bool.{Bool, true, false, false≢true}
use mathlib.Core.List.{List, []}
use native.Mathlib.Decide.{dec_lt}
use native.Mathlib.Omega.{arith}
use lib.ListN.{length, set, replicate, get_or-eq_default}
use lib.Seq.{get_or-set_same}
use Rattle.base.specs.Pick.{pick}
use Rattle.base.specs.Part.{part}
use Rattle.base.specs.Same.{same_bytes}
use Rattle.base.proofs.Bools.{both_true}
use Rattle.base.proofs.Sames.{same_eq}
use Rattle.geometry.specs.declared.params.Params.{Params}
use Rattle.geometry.specs.declared.medium.Medium.{Medium}
use Rattle.geometry.specs.Config.{Setting}
use Rattle.std.specs.Prelude.{Some, None}
use Rattle.geometry.specs.Medium.{medium_of}
use Rattle.geometry.specs.Config.{setting_of, is_valid, label_config, label_setting, label_holds}
use Rattle.geometry.proofs.Settings.{setting_within}
use Rattle.geometry.proofs.Labels.{holds_own}
use Rattle.model.specs.declared.record.Drive.{Drive}
use Rattle.model.specs.Record.{drive_at, setting_in}
use Rattle.model.specs.Engine.{image_of, view_of, loaded_by, loaded, fresh}
use Rattle.model.proofs.engine.Assembled.{fresh_drive}
use Rattle.model.proofs.engine.Known.{setting_known}

-- a setting that is valid was not refused for the zeros
by_zeros : (zeros : Bool) (s : Setting) → is_valid (pick zeros s None) ≡ true → pick zeros s None ≡ s
unfolding pick is_valid
by_zeros true s e = refl
by_zeros false s e = absurd (false≢true e)

-- ---- a label that holds a configuration with which p is in force
module _ (medium : Medium) (image config : List ℕ) (p : Params) (setting : setting_of medium config (length image) ≡ Some p) (label : label_holds medium image config ≡ true) where
  its_parts : (is_valid (label_setting medium image) ≡ true) × (same_bytes (label_config image) config ≡ true)
  unfolding label_holds
  its_parts = both_true _ _ label

  label_config_lem : label_config image ≡ config
  label_config_lem = same_eq _ _ its_parts.1

  label_valid : label_setting medium image ≡ Some p
  unfolding label_setting
  label_valid = by_zeros _ _ its_parts.0 ∙ ap (λ (l : List ℕ). setting_of medium l (length image)) label_config_lem ∙ setting

-- ---- drive d's image replaced by one with the same label and length
module _ (d : ℕ) (h : d < 4) (images : List (List ℕ)) (cut : List ℕ) (entry : Drive) (p : Params)
    (long : length cut ≡ length (image_of d images)) (same : (at size : ℕ) → at + size ≤ 16 → part at size cut ≡ part at size (image_of d images))
    (force : setting_in (medium_of d) entry (length (image_of d images)) ≡ Some p) (label : label_holds (medium_of d) (image_of d images) entry.config ≡ true) where
  abbrev medium : Medium
  medium = medium_of d

  abbrev image : List ℕ
  image = image_of d images

  abbrev left : List (List ℕ)
  left = set images d cut

  setting : setting_of medium entry.config (length image) ≡ Some p
  setting = setting_known medium entry (length image) p force

  -- an image that is lent
  lent : d < length images
  unfolding image_of
  lent = by (dec_lt d (length images))
    where
      by : Dec (d < length images) → d < length images
      by (yes l) = l
      by (no l) =
          let none : image ≡ [] = get_or-eq_default images [] (omega arith) in
          absurd (omega (arith, (setting_within medium _ _ p setting).1, ap length none))

  pub left_image : image_of d left ≡ cut
  unfolding image_of
  left_image = get_or-set_same images d cut [] lent

  cut_config : label_config cut ≡ entry.config
  cut_config = same 0 10 (omega arith) ∙ label_config_lem medium image entry.config p setting label

  cut_valid : label_setting medium cut ≡ Some p
  unfolding label_setting
  cut_valid = rw (same 10 6 (omega arith), same 0 10 (omega arith), long) (label_valid medium image entry.config p setting label)

  -- the entry after it
  abbrev again : Drive
  again = record { sense = replicate 4 0; config = entry.config; known = true; pending = false }

  pub loaded_again : drive_at (fresh left) d ≡ again
  unfolding loaded loaded_by
  loaded_again = fresh_drive left d h ∙ rw (left_image, cut_valid, cut_config)

  pub again_force : setting_in medium again (length cut) ≡ Some p
  unfolding setting_in pick
  again_force = rw long setting

  pub again_label : label_holds medium cut entry.config ≡ true
  again_label = holds_own medium cut entry.config p cut_valid cut_config

  -- a drive that was not pending is seen as before
  pub again_view : entry.pending ≡ false → view_of medium again (length cut) ≡ view_of medium entry (length image)
  unfolding view_of
  again_view calm = rw (again_force, force, long, calm)
