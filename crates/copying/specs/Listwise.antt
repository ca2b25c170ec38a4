-- Copy as a Read of the whole source and then a Write of what was read.
use Rattle.std.specs.Prelude.{ℕ, suc, ◌+◌, ◌-◌, ◌*◌, ◌/◌, ◌%◌, ◌≤◌, ◌<◌, min, ◌≡◌, ◌⊎◌, List, [], ◌++◌, set, replicate, eqb, ltb}
use Rattle.base.specs.Pick.{pick}
use Rattle.geometry.specs.Params.{address_count}
use Rattle.track.specs.Image.{Fits}
use Rattle.sectors.specs.Transfer.{Transfer, begun, reading, writing}
use Rattle.copying.specs.declared.route.Route.{Route}
use Rattle.copying.specs.Ends.{End}
use Rattle.copying.specs.Ends.{Going, SourceFault, TargetFault, Short}
use Rattle.copying.specs.Images.{image_of}
use Rattle.copying.specs.Copying.{Copying}

-- how many sectors of dd bytes n sectors of ds bytes fill, the last perhaps in part
abbrev pub filled_by : (n ds dd : ℕ) → ℕ
filled_by n ds dd = (n * ds + (dd - 1)) / dd

-- the Read
abbrev pub read_all : Route → (n : ℕ) → (images : List (List ℕ)) → Transfer
read_all r n images = reading r.p n r.a (begun (image_of r.source images))

-- as many sectors as are filled by the sectors read: by all of them the last perhaps in part
unfoldable pub sectors_for : Route → (n read : ℕ) → ℕ
sectors_for r n read = pick (eqb read n) (filled_by n r.p.size r.q.size) (read * r.p.size / r.q.size)

-- the Write
abbrev pub write_all : Route → (n : ℕ) → (images : List (List ℕ)) → Transfer → Transfer
write_all r n images x =
    writing r.q (sectors_for r n x.done) r.b (x.handed ++ replicate r.q.size 0) (begun (image_of r.target images))

-- the Write's fault, else the Read's, else 23h where the last sector is not full
unfoldable pub end_of : Route → (n : ℕ) → (x w : Transfer) → End
end_of r n x w =
    pick (ltb w.done (sectors_for r n x.done)) (TargetFault w.code)
    (pick (ltb x.done n) (SourceFault x.code) (pick (eqb (n * r.p.size % r.q.size) 0) Going Short))

-- reading 17 of E5: at a destination fault, the sectors whose bytes were needed up to that sector
unfoldable pub read_of : Route → (n : ℕ) → (x w : Transfer) → ℕ
read_of r n x w =
    pick (ltb w.done (sectors_for r n x.done)) (min n (filled_by (suc w.done) r.q.size r.p.size)) x.done

abbrev pub left_by : Route → (n : ℕ) → (images : List (List ℕ)) → (x w : Transfer) → Copying
left_by r n images x w = record {
  read = read_of r n x w;
  done = w.done;
  rest = [];
  last = w.last;
  images = set images r.target w.image;
  end = end_of r n x w;
}

abbrev pub copied_at_once : Route → (n : ℕ) → (images : List (List ℕ)) → Copying
copied_at_once r n images = left_by r n images (read_all r n images) (write_all r n images (read_all r n images))

-- no address in common
abbrev pub Apart : (a n b m : ℕ) → Type 0
Apart a n b m = (a + n ≤ b) ⊎ (b + m ≤ a)

-- Both ranges lie on their drives; on one drive they have no address in common.
pub record Fitting (r : Route) (n : ℕ) (images : List (List ℕ)) : Type 0 where
  pub source_fits : Fits r.p (image_of r.source images)
  pub target_fits : Fits r.q (image_of r.target images)
  pub source_some : 0 < r.p.size
  pub target_some : 0 < r.q.size
  pub source_on : r.a.0 + n ≤ address_count r.p
  pub target_on : r.b.0 + filled_by n r.p.size r.q.size ≤ address_count r.q
  pub apart : r.source ≡ r.target → (r.p ≡ r.q) × Apart r.a.0 n r.b.0 (filled_by n r.p.size r.q.size)
