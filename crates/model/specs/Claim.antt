-- Demand 3 of document 01, one claim about every list of commands and resets: the engine answers as the plain machine does,
-- and at the end it holds what the machine holds.
use Rattle.std.specs.Prelude.{ℕ, ◌<◌, ◌≡◌, Bool, true, false, List, [], ◌∷◌, map, length, take}
use Rattle.std.proofs.Math.Option.{some}
use Rattle.geometry.specs.declared.params.Lba.{Lba}
use Rattle.geometry.specs.declared.params.Track.{Track}
use Rattle.geometry.specs.declared.params.Params.{Params}
use Rattle.geometry.specs.declared.medium.Medium.{Medium}
use Rattle.std.specs.Prelude.{Some, None}
use Rattle.geometry.specs.Params.{track_of, sector_of}
use Rattle.geometry.specs.Medium.{medium_of}
use Rattle.geometry.specs.Config.{setting_of, label_setting}
use Rattle.track.specs.Image.{track_bytes, slot_data}
use Rattle.track.specs.Find.{Slot}
use Rattle.track.specs.Find.{sector_found}
use Rattle.model.specs.declared.record.Controller.{Controller}
use Rattle.model.specs.declared.record.Answer.{Answer}
use Rattle.model.specs.Feed.{Feed, reset, command, Reply}
use Rattle.model.specs.Engine.{Result, image_of, execute, fresh, reset_of}
use Rattle.model.specs.Machine.{Kind, stateless, sound, bad, moved, taken, Disk, Machine, fresh_machine, step}

-- ---- The plain machine, fed call by call: its replies, and what it is at the end
unfoldable pub replies : Machine → List Feed → List Reply
replies m [] = []
replies m (feed ∷ feeds) = (step m feed).0 ∷ replies (step m feed).1 feeds

unfoldable pub at_end : Machine → List Feed → Machine
at_end m [] = m
at_end m (feed ∷ feeds) = at_end (step m feed).1 feeds

-- ---- The engine: the controller and the images lent
pub record System : Type 0 where
  pub controller : Controller
  pub images : List (List ℕ)

-- A Reset, or a command of any bytes and lengths; of the data area its old bytes.
pub data Call : Type 0 where
  Reset : Call
  Command : (block given area : List ℕ) → Call

-- Of the data area the machine is fed the length.
unfoldable pub fed : Call → Feed
fed Reset = reset
fed (Command block given area) = command block given (length area)

-- What is compared: the answer, and the bytes handed over, which are the front of the data area.
unfoldable pub reply_of : Answer → (area : List ℕ) → Reply
reply_of answer area = record {
  number = answer.number;
  status = answer.status;
  message = answer.message;
  sectors = answer.sectors;
  bytes = answer.bytes;
  handed = take answer.bytes area;
}

-- What a call replies, and what it leaves for the next.
unfoldable pub replied : Result → Reply × System
replied r = (
  reply_of r.outcome.answer r.area,
  record { controller = r.outcome.controller; images = r.images },
)

-- One call: what `reset` and `execute` promise to leave. Reset is lent no data area.
unfoldable pub left_by : System → Call → Result
left_by s Reset = record { outcome = reset_of s.images; area = []; images = s.images }
left_by s (Command block given area) = execute s.controller block given area s.images

unfoldable pub called : System → Call → Reply × System
called s call = replied (left_by s call)

-- A list of calls, each of which gets the controller and the images that the call before left: its replies, and what is left
-- at the end.
unfoldable pub engine_replies : System → List Call → List Reply
engine_replies s [] = []
engine_replies s (call ∷ calls) = (called s call).0 ∷ engine_replies (called s call).1 calls

unfoldable pub engine_at_end : System → List Call → System
engine_at_end s [] = s
engine_at_end s (call ∷ calls) = engine_at_end (called s call).1 calls

-- ---- From a fresh controller and images without a valid label, such as zeros: no configuration is stored
unfoldable pub begin : (images : List (List ℕ)) → System
begin images = record { controller = fresh images; images = images }

-- The machine is fed the image lengths.
unfoldable pub begin_machine : (images : List (List ℕ)) → Machine
begin_machine images = fresh_machine (λ drive. length (image_of drive images))

-- ---- What is held
unfoldable pub is_held : Kind → Bool
is_held stateless = false
is_held sound = true
is_held bad = false
is_held (moved u) = true
is_held (taken u) = false

-- The stored configuration is valid with the image, and for each address on a sound or moved track under it finding gives no
-- error but a slot whose D bytes are the machine's.
unfoldable pub Holds : Medium → Disk → (image : List ℕ) → Type 0
Holds medium u image =
    (config : List ℕ) → u.stored ≡ some config
    → (p : Params) × (setting_of medium config (length image) ≡ Some p)
    × ((a : Lba) → is_held (u.kind (track_of p a)) ≡ true
    → (t : Track) × (k : ℕ) × (sector_found p (track_of p a) (sector_of p a) image ≡ Slot t k)
    × (slot_data p k (track_bytes p t image) ≡ u.held a))

-- ---- The claim: over the images of the four drives
unfoldable pub Claim : Type 0
Claim =
    (images : List (List ℕ)) → ((drive : ℕ) → drive < 4 → label_setting (medium_of drive) (image_of drive images) ≡ None)
    → (calls : List Call)
    → let s = engine_at_end (begin images) calls in
    (engine_replies (begin images) calls ≡ replies (begin_machine images) (map fed calls))
    × ((drive : ℕ) → drive < 4
    → Holds (medium_of drive) ((at_end (begin_machine images) (map fed calls)).disks drive) (image_of drive s.images))
