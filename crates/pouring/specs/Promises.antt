-- What copying on the four images promises, and what its parts promise each other.
use Rattle.std.specs.Prelude.{ℕ, zero, suc, ◌+◌, ◌*◌, ◌≤◌, ◌<◌, ◌≡◌, List, [], length, take, set, Option, Some, None}
use Rattle.codes.specs.declared.Code.{Code}
use Rattle.codes.specs.Numbers.{code_number}
use Rattle.base.specs.Part.{splice}
use Rattle.geometry.specs.Params.{further}
use Rattle.sectors.specs.declared.transfer.Done.{Done}
use Rattle.sectors.specs.Transfer.{Transfer, begun, reading, writing}
use Rattle.copying.specs.declared.route.Route.{Route}
use Rattle.copying.specs.declared.route.Copied.{Copied}
use Rattle.copying.specs.declared.route.CopyFault.{CopyFault}
use Rattle.copying.specs.declared.route.CopyFault.TheVariants.{AtSource, AtTarget, PartlyFilled}
use Rattle.copying.specs.Ends.{Going, as_end}
use Rattle.copying.specs.Images.{image_of}
use Rattle.copying.specs.Copying.{Copying, copying, completed}
use Rattle.copying.specs.Listwise.{filled_by, Fitting}
use Rattle.pouring.specs.declared.turn.Progress.{Progress}

-- ---- all of it
-- Two of the four drives, at most 256 source sectors, both ranges on their drives and apart.
pub record RouteReady (r : Route) (n : ℕ) (images : List (List ℕ)) : Type 0 where
  pub source_there : r.source < 4
  pub target_there : r.target < 4
  pub most : n ≤ 256
  pub fitting : Fitting r n images

-- How far it came and why it ended, the front of the buffer, and every byte of the images: as the copy x says.
pub record CopiedBy (x : Copying) (copied : Copied) (before after : List ℕ) (images : List (List ℕ)) : Type 0 where
  pub read : copied.read ≡ x.read
  pub done : copied.done ≡ x.done
  pub end : as_end copied.fault ≡ x.end
  pub front : after ≡ splice 0 x.last before
  pub left : images ≡ x.images

-- The same but for the buffer.
pub record WentAs (x : Copying) (copied : Copied) (images : List (List ℕ)) : Type 0 where
  pub read : copied.read ≡ x.read
  pub done : copied.done ≡ x.done
  pub end : as_end copied.fault ≡ x.end
  pub left : images ≡ x.images

-- ---- sectors of one of the images
-- How far it came and why it ended, and the images, of which one is changed: as the transfer x says.
pub record WrittenOn (drive : ℕ) (x : Transfer) (done : Done) (before after : List (List ℕ)) : Type 0 where
  pub sectors : done.sectors ≡ x.done
  pub code : code_number done.fault ≡ x.code
  pub images : after ≡ set before drive x.image

-- n destination sectors behind `done`
abbrev pub StoredBy : Route → (done n : ℕ) → (given : List ℕ) → (images : List (List ℕ)) → Done → (left : List (List ℕ)) → Type 0
StoredBy r done n given images d left =
    WrittenOn r.target (writing r.q n (further r.b done) given (begun (image_of r.target images))) d images left

-- what a Read of the last destination sector done hands over
unfoldable pub last_read : Route → (done : ℕ) → (images : List (List ℕ)) → List ℕ
last_read r zero images = []
last_read r (suc m) images = (reading r.q 1 (further r.b m) (begun (image_of r.target images))).handed

-- ---- a turn
-- source bytes of one turn, at the most
abbrev pub turn_most : ℕ
turn_most = 17 * 512

-- the scratch has room for them, and for one sector more
abbrev pub scratch_length : ℕ
scratch_length = turn_most + 512

-- the Copy that stands here, where the last sector written was `last`
abbrev pub standing : (s : Progress) → (scratch : List ℕ) → (images : List (List ℕ)) → (last : List ℕ) → Copying
standing s scratch images last =
    record { read = s.read; done = s.done; rest = take s.held scratch; last = last; images = images; end = as_end s.fault }

-- A copy of n source sectors can go on from here: every byte read is written or waits, and less than a sector waits.
pub record Underway (r : Route) (n : ℕ) (s : Progress) (scratch : List ℕ) (images : List (List ℕ)) : Type 0 where
  pub source_there : r.source < 4
  pub target_there : r.target < 4
  pub few : n ≤ 256
  pub fitting : Fitting r n images
  pub most : as_end s.fault ≡ Going → s.read ≤ n
  pub even : as_end s.fault ≡ Going → s.read * r.p.size ≡ s.done * r.q.size + s.held
  pub short : s.held < r.q.size
  pub none : (as_end s.fault ≡ Going → ⊥) → s.held ≡ 0
  pub scratch_long : length scratch ≡ scratch_length

-- how far a turn came, by its Read and its Write, with `held` bytes left
abbrev pub read_turn : Progress → (source target : Done) → (held : ℕ) → Option Code → Progress
read_turn s source target held None =
    record { read = s.read + source.sectors; done = s.done + target.sectors; held = held; fault = None }
read_turn s source target held (Some code) =
    record { read = s.read + source.sectors; done = s.done + target.sectors; held = 0; fault = Some (AtSource code) }

abbrev pub written_turn : Route → Progress → (source target : Done) → (held : ℕ) → Option Code → Progress
written_turn r s source target held None = read_turn s source target held source.fault
written_turn r s source target held (Some code) = record {
  read = filled_by (s.done + target.sectors + 1) r.q.size r.p.size;
  done = s.done + target.sectors;
  held = 0;
  fault = Some (AtTarget code);
}

abbrev pub after_turn : Route → Progress → (source target : Done) → (held : ℕ) → Progress
after_turn r s source target held = written_turn r s source target held target.fault

-- the Copy y stands here, whatever it wrote last
pub record Stood (y : Copying) (t : Progress) (scratch : List ℕ) (images : List (List ℕ)) : Type 0 where
  pub last : List ℕ
  pub is : y ≡ standing t scratch images last

-- A turn: some source sectors more, whatever was written last.
pub record TurnedTo (r : Route) (n : ℕ) (s : Progress) (scratch : List ℕ) (images : List (List ℕ))
    (t : Progress) (scratched : List ℕ) (left : List (List ℕ)) : Type 0 where
  pub count : ℕ
  pub some : 1 ≤ count
  pub most : s.read + count ≤ n
  pub counted : as_end t.fault ≡ Going → t.read ≡ s.read + count
  pub under : Underway r n t scratched left
  pub on : (last : List ℕ) → Stood (copying r count (standing s scratch images last)) t scratched left

-- ---- the end
-- by the Write of the last sector
abbrev pub last_fault : Option Code → CopyFault
last_fault None = PartlyFilled
last_fault (Some code) = AtTarget code

abbrev pub ended_by : Progress → (target : Done) → Copied
ended_by s target = record { read = s.read; done = s.done + target.sectors; fault = Some (last_fault target.fault) }

-- the copy has ended, or all its source sectors are read
pub record NoTurnLeft (r : Route) (s : Progress) (scratch : List ℕ) (images : List (List ℕ)) : Type 0 where
  pub count : ℕ
  pub under : Underway r count s scratch images
  pub all : as_end s.fault ≡ Going → s.read ≡ count

-- The copy is complete, whatever was written last.
abbrev pub CompletedTo : Route → Progress → (scratch : List ℕ) → (images : List (List ℕ)) → Copied → (left : List (List ℕ)) → Type 0
CompletedTo r s scratch images c left = (last : List ℕ) → WentAs (completed r (standing s scratch images last)) c left
