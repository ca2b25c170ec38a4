-- The images that a call is lent, as a list: drive d's is at place d.
use Rattle.std.specs.Prelude.{ℕ, List, [], ◌∷◌, get_or}

abbrev pub images_of : (image0 image1 image2 image3 : List ℕ) → List (List ℕ)
images_of image0 image1 image2 image3 = image0 ∷ image1 ∷ image2 ∷ image3 ∷ []

-- A drive for which no image is lent has one of no bytes, so that it is absent.
unfoldable pub image_of : (drive : ℕ) → (images : List (List ℕ)) → List ℕ
image_of drive images = get_or images drive []
