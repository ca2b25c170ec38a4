-- One of the images, by its drive.
use mathlib.Core.Path.{◌≡◌, sym, ap, ◌∙◌}
use mathlib.Core.List.{List, []}
use Prim.Native.Nat.{ℕ}
use lib.ListN.{get_or, set, get_or-map}
use Rattle.std.specs.Prelude.{map}
use Rattle.std.proofs.Common.{Bor}
use Rattle.geometry.specs.declared.params.Params.{Params}
use Rattle.geometry.specs.declared.params.Lba.{Lba}
use Rattle.track.specs.Image.{Fits}
use Rattle.sectors.specs.declared.transfer.Done.{Done}
use Rattle.sectors.specs.Transfer.{begun, writing}
use Rattle.sectors.specs.Promises.{HasRead, HasWritten}
use Rattle.copying.specs.Images.{image_of}
use Rattle.pouring.specs.declared.images.Images.{Images}
use Rattle.pouring.specs.Lent.{SameLent}
use Rattle.pouring.specs.Promises.{WrittenOn}

module _ (p : Params) (images : List (List ℕ)) (drive k : ℕ) (e : drive ≡ k) where
  pub fits_on : Fits p (image_of drive images) → Fits p (get_or images k [])
  unfolding image_of
  fits_on f = rw e at f

  module _ (n : ℕ) (a : Lba) (done : Done) where
    pub written_there : (given after : List ℕ) → HasWritten p n a given done (get_or images k []) after
        → WrittenOn drive (writing p n a given (begun (image_of drive images))) done images (set images k after)
    unfolding image_of
    written_there given after h =
        rw e (record { sectors = h.sectors; code = h.code; images = ap (set images k) h.image })

-- ---- the struct, lent again and again
pub same_more : (a b c : Images) → SameLent a b → SameLent b c → SameLent a c
same_more a b c s t = record {
  name0 = t.name0 ∙ s.name0;
  name1 = t.name1 ∙ s.name1;
  name2 = t.name2 ∙ s.name2;
  name3 = t.name3 ∙ s.name3;
  length0 = t.length0 ∙ s.length0;
  length1 = t.length1 ∙ s.length1;
  length2 = t.length2 ∙ s.length2;
  length3 = t.length3 ∙ s.length3;
}

-- ---- four images lent to be read: the one at place i, which is the drive's
module _ (images : List (Bor (List ℕ))) (drive i : ℕ) (e : i ≡ drive) where
  image_there : (get_or images i (record { ref_ptr = (0, 0); now = [] })).now ≡ image_of drive (map (λ (b : Bor (List ℕ)). b.now) images)
  unfolding image_of
  image_there = rw e (sym (get_or-map (λ (b : Bor (List ℕ)). b.now) images drive (record { ref_ptr = (0, 0); now = [] })))

  pub fits_there : (p : Params) → Fits p (image_of drive (map (λ (b : Bor (List ℕ)). b.now) images)) → Fits p (get_or images i (record { ref_ptr = (0, 0); now = [] })).now
  fits_there p f = rw image_there f

  pub read_there : (p : Params) (n : ℕ) (a : Lba) (done : Done) (before after : List ℕ)
      → HasRead p n a (get_or images i (record { ref_ptr = (0, 0); now = [] })).now done before after
      → HasRead p n a (image_of drive (map (λ (b : Bor (List ℕ)). b.now) images)) done before after
  read_there p n a done before after h = rw image_there at h
