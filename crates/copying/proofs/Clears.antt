-- Where the ranges fit, what a Copy puts is not seen at its source addresses.
use mathlib.Core.Path.{◌≡◌, sym, ap, ◌∙◌}
use mathlib.Core.Logic.{inl, inr}
use mathlib.Core.List.{List}
use Prim.Native.Nat.{ℕ, ◌+◌, ◌<◌}
use native.Mathlib.Omega.{arith}
use native.Mathlib.Decide.{ℕ_discrete}
use lib.ListN.{length, set}
use Rattle.geometry.specs.declared.params.Lba.{Lba}
use Rattle.geometry.specs.Params.{OnDrive, further}
use Rattle.track.specs.Image.{Fits}
use Rattle.contents.specs.Content.{content_of, put}
use Rattle.contents.proofs.Laws.{put_other}
use Rattle.copying.specs.declared.route.Route.{Route}
use Rattle.copying.specs.Images.{image_of}
use Rattle.copying.specs.Listwise.{filled_by, Apart, Fitting}
use Rattle.copying.proofs.Drives.{image_same, image_other, fits_there}
use Rattle.copying.proofs.Follows.{SameSource, Clear}

other : (n a b m i j : ℕ) → i < n → j < m → Apart a n b m → b + j ≡ a + i → ⊥
other n a b m i j h l (inl z) e = omega arith
other n a b m i j h l (inr z) e = omega arith

module _ (r : Route) (n : ℕ) (images : List (List ℕ)) (fit : Fitting r n images) where
  abbrev most : ℕ
  most = filled_by n r.p.size r.q.size

  target_there : r.target < length images
  target_there = fits_there r.q r.target images fit.target_fits

  -- two drives
  other_drive : (r.source ≡ r.target → ⊥) → (image other : List ℕ) → SameSource r images n image other
  other_drive ne image other i h =
      ap (content_of r.p (further r.a i))
      (image_other r.target r.source images other ne ∙ sym (image_other r.target r.source images image ne))

  -- one drive
  same_drive : r.source ≡ r.target → (image : List ℕ) → Fits r.q image → (sector : List ℕ) → length sector ≡ r.q.size → (j : ℕ) → j < most
      → SameSource r images n image (put r.q (further r.b j) sector image)
  same_drive e image f sector long j l i h =
      let same = (fit.apart e).0 in
      let there : (image : List ℕ) → image_of r.source (set images r.target image) ≡ image =
      λ image. ap (λ (d : ℕ). image_of d (set images r.target image)) e ∙ image_same r.target images image target_there
      in
      let on : OnDrive r.p (further r.a i) = omega (arith, fit.source_on) in
      let on_target : OnDrive r.q (further r.b j) = omega (arith, fit.target_on) in
      let on_source : OnDrive r.q (further r.a i) = rw same at on in
      let ne : further r.b j ≡ further r.a i → ⊥ =
      λ z. other n r.a.0 r.b.0 most i j h l (fit.apart e).1 (ap (λ (c : Lba). c.0) z)
      in
      rw (there (put r.q (further r.b j) sector image), there image, same)
      (put_other r.q image f (further r.b j) on_target sector long (further r.a i) on_source ne)

  pub clear_of : Clear r images n most
  clear_of = record {
    there = target_there;
    target_on = fit.target_on;
    unseen = λ image f sector long j l. by (ℕ_discrete r.source r.target) image f sector long j l;
  }
    where
      by : Dec (r.source ≡ r.target) → (image : List ℕ) → Fits r.q image → (sector : List ℕ) → length sector ≡ r.q.size → (j : ℕ) → j < most
          → SameSource r images n image (put r.q (further r.b j) sector image)
      by (yes e) image f sector long j l = same_drive e image f sector long j l
      by (no ne) image f sector long j l = other_drive ne image _
