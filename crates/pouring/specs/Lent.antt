-- The four images that a call is lent, behind the struct that it is lent.
use Rattle.std.specs.Prelude.{ℕ, ◌≡◌, List, length}
use Rattle.copying.specs.Images.{images_of}
use Rattle.pouring.specs.declared.images.Images.{Images}

-- as a list: drive d's is at place d
abbrev pub lent : Images → List (List ℕ)
lent i = images_of i.image0.now i.image1.now i.image2.now i.image3.now

-- The struct still lends what it lent, each image as long as before.
pub record SameLent (before after : Images) : Type 0 where
  pub name0 : after.image0.ghost_name ≡ before.image0.ghost_name
  pub name1 : after.image1.ghost_name ≡ before.image1.ghost_name
  pub name2 : after.image2.ghost_name ≡ before.image2.ghost_name
  pub name3 : after.image3.ghost_name ≡ before.image3.ghost_name
  pub length0 : length after.image0.now ≡ length before.image0.now
  pub length1 : length after.image1.now ≡ length before.image1.now
  pub length2 : length after.image2.now ≡ length before.image2.now
  pub length3 : length after.image3.now ≡ length before.image3.now
