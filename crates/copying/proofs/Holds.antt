-- The bytes that source sectors hold, one behind the other.
use mathlib.Core.Path.{◌≡◌, refl, ◌∙◌}
use mathlib.Core.List.{List, [], ◌++◌}
use Prim.Native.Nat.{ℕ, zero, suc, ◌+◌, ◌≤◌, ◌<◌}
use native.Mathlib.Omega.{arith}
use native.Mathlib.Nat.{add-zero}
use lib.ListN.{length}
use Rattle.geometry.specs.declared.params.Params.{Params}
use Rattle.geometry.specs.declared.params.Lba.{Lba}
use Rattle.geometry.specs.Params.{address_count, further, next}
use Rattle.geometry.proofs.Addresses.{same_lba, further_next}
use Rattle.track.specs.Image.{Fits}
use Rattle.contents.specs.Content.{read_bytes, Bytes, content_in, content_of}
use Rattle.contents.proofs.Laws.{Stands, stands, bytes_at, content_length}

first_of : (s : Lba) → further s 0 ≡ s
first_of s = same_lba (further s 0) s (add-zero s.0)

-- c sectors from address s on hold these bytes
pub data Holds (p : Params) (image : List ℕ) : (c : ℕ) → Lba → List ℕ → Type 0 where
  none_held : {s : Lba} → Holds p image zero s []
  one_held : {c : ℕ} {s : Lba} {more : List ℕ} (sector : List ℕ) → content_of p s image ≡ Bytes sector → length sector ≡ p.size → Holds p image c (next s) more
      → Holds p image (suc c) s (sector ++ more)

-- in another image with the same contents
pub holds_still : (p : Params) (image other : List ℕ) (c : ℕ) (s : Lba) (bytes : List ℕ) → Holds p image c s bytes
    → ((i : ℕ) → i < c → content_of p (further s i) other ≡ content_of p (further s i) image) → Holds p other c s bytes
holds_still p image other zero s bytes none_held same = none_held
holds_still p image other (suc c) s bytes (one_held {more = more} sector e l h) same =
    one_held sector (rw (first_of s) at (same 0 (omega arith)) ∙ e) l
    (holds_still p image other c (next s) more h (λ i z. rw (further_next s i) (same (suc i) (omega arith))))

module _ (p : Params) (image : List ℕ) (f : Fits p image) where
  its_bytes : (s : Lba) → Stands p s image → content_of p s image ≡ Bytes (read_bytes (content_of p s image))
  unfolding content_of content_in read_bytes
  its_bytes s (stands t k e) = rw e refl

  -- sectors that are found hold what is read there
  pub found_holds : (c : ℕ) (s : Lba) → s.0 + c ≤ address_count p → ((i : ℕ) → i < c → Stands p (further s i) image) → Holds p image c s (bytes_at p c s image)
  unfolding bytes_at
  found_holds zero s on finds = none_held
  found_holds (suc c) s on finds =
      let is = its_bytes s (rw (first_of s) at (finds 0 (omega arith))) in
      one_held (read_bytes (content_of p s image)) is (content_length p image f s (omega arith) _ is)
      (found_holds c (next s) (omega arith) (λ i z. rw (further_next s i) (finds (suc i) (omega arith))))
