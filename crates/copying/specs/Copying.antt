-- Request E5, Copy Blocks, step by step: each source sector is read, then every destination sector whose bytes are now there
-- is searched for and written, before the next source sector.
use Rattle.std.specs.Prelude.{ℕ, zero, suc, ◌/◌, List, [], ◌∷◌, ◌++◌, length, take, drop, set, replicate}
use Rattle.geometry.specs.Params.{further}
use Rattle.track.specs.Find.{Sector}
use Rattle.track.specs.Find.{Slot, Fault}
use Rattle.sectors.specs.Transfer.{found}
use Rattle.contents.specs.Content.{Content, Bytes, Missing, content_of, put}
use Rattle.copying.specs.declared.route.Route.{Route}
use Rattle.copying.specs.Ends.{End}
use Rattle.copying.specs.Ends.{Going, SourceFault, TargetFault, Short}
use Rattle.copying.specs.Images.{image_of}

-- What is done so far: source sectors read, destination sectors written, bytes read and not written, the last sector written.
pub record Copying : Type 0 where
  pub read : ℕ
  pub done : ℕ
  pub rest : List ℕ
  pub last : List ℕ
  pub images : List (List ℕ)
  pub end : End

abbrev pub copy_begun : (images : List (List ℕ)) → Copying
copy_begun images = record { read = 0; done = 0; rest = []; last = []; images = images; end = Going }

-- ended, and bytes that wait are dropped
abbrev pub stopped : End → Copying → Copying
stopped end x = record { read = x.read; done = x.done; rest = []; last = x.last; images = x.images; end = end }

abbrev pub with_rest : (rest : List ℕ) → Copying → Copying
with_rest rest x = record { read = x.read; done = x.done; rest = rest; last = x.last; images = x.images; end = x.end }

-- one source sector more
abbrev pub taken : (sector : List ℕ) → Copying → Copying
taken sector x =
    record { read = suc x.read; done = x.done; rest = x.rest ++ sector; last = x.last; images = x.images; end = x.end }

-- on, unless it has ended
unfoldable pub on_by : Copying → (Copying → Copying) → End → Copying
on_by x next Going = next x
on_by x next (SourceFault code) = x
on_by x next (TargetFault code) = x
on_by x next Short = x

abbrev pub unless_ended : Copying → (Copying → Copying) → Copying
unless_ended x next = on_by x next x.end

-- ---- one destination sector, at the address behind those done
unfoldable pub store_in : Route → (sector : List ℕ) → Copying → Sector → Copying
store_in r sector x (Fault code) = stopped (TargetFault code) x
store_in r sector x (Slot t k) = record {
  read = x.read;
  done = suc x.done;
  rest = x.rest;
  last = sector;
  images = set x.images r.target (put r.q (further r.b x.done) sector (image_of r.target x.images));
  end = Going;
}

unfoldable pub store : Route → (sector : List ℕ) → Copying → Copying
store r sector x = store_in r sector x (found r.q (further r.b x.done) (image_of r.target x.images))

-- m of them, off the front of the bytes that wait
unfoldable pub stores : Route → (m : ℕ) → Copying → Copying
stores r zero x = x
stores r (suc m) x =
    unless_ended (store r (take r.q.size x.rest) (with_rest (drop r.q.size x.rest) x)) (λ y. stores r m y)

-- ---- n source sectors more
unfoldable pub poured_by : Route → Copying → (Copying → Copying) → Content → Copying
poured_by r x next (Missing code) = stopped (SourceFault code) x
poured_by r x next (Bytes sector) = unless_ended (stores r (length (x.rest ++ sector) / r.q.size) (taken sector x)) next

unfoldable pub copying : Route → (n : ℕ) → Copying → Copying
copying r zero x = x
copying r (suc n) x = poured_by r x (λ y. copying r n y) (content_of r.p (further r.a x.read) (image_of r.source x.images))

-- ---- a partly filled last sector is completed with zeros
abbrev pub filled : (size : ℕ) → (rest : List ℕ) → List ℕ
filled size rest = take size (rest ++ replicate size 0)

unfoldable pub completed_by : Route → Copying → (rest : List ℕ) → Copying
completed_by r x [] = x
completed_by r x (byte ∷ more) =
    unless_ended (store r (filled r.q.size (byte ∷ more)) (with_rest [] x)) (λ y. stopped Short y)

unfoldable pub completed : Route → Copying → Copying
completed r x = unless_ended x (λ y. completed_by r y y.rest)

-- all of it
abbrev pub copied : Route → (n : ℕ) → (images : List (List ℕ)) → Copying
copied r n images = completed r (copying r n (copy_begun images))
