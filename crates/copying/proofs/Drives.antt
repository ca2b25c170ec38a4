-- One drive's image replaced: that drive has the new one, every other its own.
use mathlib.Core.Path.{◌≡◌, sym, ap, ◌∙◌}
use mathlib.Core.List.{List, []}
use Prim.Native.Nat.{ℕ, ◌<◌}
use native.Mathlib.Omega.{arith}
use native.Mathlib.Decide.{dec_lt, ℕ_discrete}
use lib.ListN.{length, set, get_or-eq_default}
use lib.Seq.{get_or-set_same, get_or-set_other, set-get_or}
use Rattle.geometry.specs.declared.params.Params.{Params}
use Rattle.track.specs.Image.{Fits}
use Rattle.copying.specs.declared.route.Route.{Route}
use Rattle.copying.specs.Images.{image_of}
use Rattle.copying.specs.Listwise.{Fitting}

pub image_same : (drive : ℕ) (images : List (List ℕ)) (image : List ℕ) → drive < length images → image_of drive (set images drive image) ≡ image
unfolding image_of
image_same drive images image l = get_or-set_same images drive image [] l

pub image_other : (drive other : ℕ) (images : List (List ℕ)) (image : List ℕ) → (other ≡ drive → ⊥)
    → image_of other (set images drive image) ≡ image_of other images
unfolding image_of
image_other drive other images image ne = get_or-set_other images drive other image [] ne

-- its own
pub image_kept : (drive : ℕ) (images : List (List ℕ)) → set images drive (image_of drive images) ≡ images
unfolding image_of
image_kept drive images = set-get_or images drive []

-- an image that fits is in the list
pub fits_there : (q : Params) (drive : ℕ) (images : List (List ℕ)) → Fits q (image_of drive images) → drive < length images
unfolding image_of
fits_there q drive images f = by (dec_lt drive (length images))
  where
    by : Dec (drive < length images) → drive < length images
    by (yes l) = l
    by (no l) =
        let none : length (image_of drive images) ≡ 0 = ap length (get_or-eq_default images [] {n = drive} (omega arith)) in
        absurd (omega (arith, f.long, none))

-- ---- the image of the target replaced by one that is as long
pub fits_still : (p : Params) (drive target : ℕ) (images : List (List ℕ)) (image : List ℕ) → target < length images → length image ≡ length (image_of target images)
    → Fits p (image_of drive images) → Fits p (image_of drive (set images target image))
fits_still p drive target images image there long f = by (ℕ_discrete drive target)
  where
    by : Dec (drive ≡ target) → Fits p (image_of drive (set images target image))
    by (yes e) =
        let is : image_of drive (set images target image) ≡ image = ap (λ (d : ℕ). image_of d (set images target image)) e ∙ image_same target images image there in
        let same : length (image_of drive images) ≡ length image = ap (λ (d : ℕ). length (image_of d images)) e ∙ sym long in
        rw is (record { within = f.within; long = omega (arith, f.long, same) })
    by (no ne) = rw (image_other target drive images image ne) f

pub fitting_still : (r : Route) (n : ℕ) (images : List (List ℕ)) → Fitting r n images → (image : List ℕ) → length image ≡ length (image_of r.target images)
    → Fitting r n (set images r.target image)
fitting_still r n images fit image long =
    let there = fits_there r.q r.target images fit.target_fits in
    record {
      source_fits = fits_still r.p r.source r.target images image there long fit.source_fits;
      target_fits = fits_still r.q r.target r.target images image there long fit.target_fits;
      source_some = fit.source_some;
      target_some = fit.target_some;
      source_on = fit.source_on;
      target_on = fit.target_on;
      apart = fit.apart;
    }
