-- The search for a track's sectors: slots are noted by sector as they are looked at.
use Rattle.std.specs.Prelude.{ℕ, ◌<◌, ◌≡◌, ◌&&◌, List, get_or, set, eqb, ltb, is_none}
use Rattle.std.specs.declared.option.Option.{Option}
use Rattle.std.specs.declared.option.Option.TheVariants.{Some, None}
use Rattle.std.proofs.Math.Option as Math
use Rattle.std.proofs.Math.Option.{none, some}
use Rattle.base.specs.Pick.{pick}
use Rattle.base.specs.First.{first_below}
use Rattle.geometry.specs.declared.params.Params.{Params}
use Rattle.track.specs.declared.id.Id.{Id}
use Rattle.track.specs.Find.{holds}

-- What is noted for a sector: its slot, or none.
abbrev pub Note : Type 0
Note = Option ℕ

unfoldable pub note_of : Math.Option ℕ → Note
note_of none = None
note_of (some k) = Some k

-- Slot k with this ID is noted, unless one is noted for its sector.
unfoldable pub noted : Id → (k : ℕ) → (slots : List Note) → List Note
noted id k slots =
    pick (eqb id.mark 0xA1 && (ltb id.sector 32 && is_none (get_or slots id.sector None))) (set slots id.sector (Some k)) slots

-- The first `looked` slots are noted, the first one of each sector.
unfoldable pub Noted : Params → (bytes : List ℕ) → (slots : List Note) → (looked : ℕ) → Type 0
Noted p bytes slots looked = (s : ℕ) → s < 32 → get_or slots s None ≡ note_of (first_below (holds p s bytes) looked)
