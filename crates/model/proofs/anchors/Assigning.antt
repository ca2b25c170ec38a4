-- Assign Alternate's own checks in their order, in the engine's tests and in the machine's; each fault as sense bytes.
use Prim.Native.Nat.{ℕ}
use mathlib.Core.Path.{◌≡◌, refl}
use mathlib.Core.Bool.{Bool, true, false}
use mathlib.Core.List.{List, [], ◌∷◌, map}
use lib.Dec.{eqb}
use Rattle.base.specs.Pick.{pick}
use Rattle.base.specs.Byte.{byte}
use Rattle.geometry.specs.declared.params.Lba.{Lba}
use Rattle.geometry.specs.declared.params.Track.{Track}
use Rattle.geometry.specs.declared.params.Params.{Params}
use Rattle.geometry.specs.Params.{track_of, track}
use Rattle.track.specs.State.{is_bad as bad_state, is_moved as moved_state, is_taken as taken_state, is_taken_by_other as taken_by_other}
use Rattle.model.specs.Verdicts.{Verdict}
use Rattle.model.specs.Verdicts.{Refused, Faulty, Passed}
use Rattle.model.specs.Block.{alternate_of}
use Rattle.model.specs.Checks.{judged}
use Rattle.model.specs.Sense.{addressed, sense_of}
use Rattle.model.specs.Commands.{assign_tests}
use Rattle.model.specs.Machine.{Kind, stateless, sound, bad, moved, taken, is_bad, is_moved, is_taken, address_given, unassignable}
use Rattle.model.proofs.claim.Mirrors.{state_for}

-- 32 sectors a track: track 0 sound, 1 bad, 2 moved to 3, 3 taken by 2, 4 never formatted
p : Params
p = record { cylinders = 5; heads = 1; sectors = 32; size = 256 }

kinds : Track → Kind
kinds t =
    pick (eqb t.0 0) sound
    (pick (eqb t.0 1) bad
    (pick (eqb t.0 2) (moved (track 3))
    (pick (eqb t.0 3) (taken (track 2))
    stateless)))

-- A at this address, B in these three bytes, whether A's contents are kept, the code of what is missing in A then; what is left in the
-- sense, or nothing
record Case : Type 0 where
  at : ℕ
  given : List ℕ
  keep : Bool
  missing : ℕ
  sense : List ℕ

assign : (at : ℕ) → (a b c : ℕ) → (sense : List ℕ) → Case
assign at a b c sense = record { at = at; given = a ∷ b ∷ c ∷ []; keep = false; missing = 0; sense = sense }

keeping : (at : ℕ) → (a b c : ℕ) → (missing : ℕ) → (sense : List ℕ) → Case
keeping at a b c missing sense = record { at = at; given = a ∷ b ∷ c ∷ []; keep = true; missing = missing; sense = sense }

four : (a b c d : ℕ) → List ℕ
four a b c d = a ∷ b ∷ c ∷ d ∷ []

cases : List Case
cases =
    -- first byte above 1Fh, 22h; B out of range, 21h; A moved, 1Dh; A taken, 1Ch: whatever comes later
    assign 65 0x20 0 66 (four 0x22 0 0 0)
    ∷ assign 65 0x1F 0 66 (four 0xA1 0x1F 0 66)
    ∷ assign 65 0 0 160 (four 0xA1 0 0 160)
    ∷ assign 65 0 0 66 (four 0x9D 0 0 65)
    ∷ assign 65 0 0 97 (four 0x9D 0 0 65)
    ∷ assign 97 0 0 98 (four 0x9C 0 0 97)
    ∷ assign 97 0 0 66 (four 0x9C 0 0 97)
    -- B = A, by tracks, 22h; B taken, 1Dh; B moved or bad, 1Fh, with B's address
    ∷ assign 0 0 0 31 (four 0x22 0 0 0)
    ∷ assign 32 0 0 33 (four 0x22 0 0 0)
    ∷ assign 128 0 0 128 (four 0x22 0 0 0)
    ∷ assign 5 0 0 100 (four 0x9D 0 0 100)
    ∷ assign 5 0 0 70 (four 0x9F 0 0 70)
    ∷ assign 5 0 0 40 (four 0x9F 0 0 40)
    -- A may be bad; either may be sound or never formatted
    ∷ assign 40 0 0 5 []
    ∷ assign 5 0 0 159 []
    ∷ assign 159 0 0 5 []
    -- with keep (request E7): a sound A passes; a bad one is 19h, with the block's address, after all other checks
    ∷ keeping 5 0 0 159 0 []
    ∷ keeping 40 0 0 5 0x19 (four 0x99 0 0 40)
    ∷ keeping 40 0x20 0 5 0x19 (four 0x22 0 0 0)
    ∷ keeping 40 0 0 160 0x19 (four 0xA1 0 0 160)
    ∷ keeping 40 0 0 39 0x19 (four 0x22 0 0 0)
    ∷ keeping 40 0 0 100 0x19 (four 0x9D 0 0 100)
    ∷ keeping 40 0 0 70 0x19 (four 0x9F 0 0 70)
    ∷ keeping 65 0 0 5 0 (four 0x9D 0 0 65)
    ∷ keeping 97 0 0 5 0x1C (four 0x9C 0 0 97)
    ∷ []

-- images that no list from a fresh start leaves: track 5 is taken by track 0, which is not moved, and so is free for track 0 alone, with
-- keep and without; with keep a sector is missing in track 0
ends : Params
ends = record { cylinders = 6; heads = 1; sectors = 32; size = 256 }

halfway : Track → Kind
halfway t = pick (eqb t.0 5) (taken (track 0)) (kinds t)

damaged : List Case
damaged =
    assign 5 0 0 165 []
    ∷ keeping 5 0 0 165 0 []
    ∷ assign 130 0 0 165 (four 0x9D 0 0 165)
    ∷ keeping 130 0 0 165 0 (four 0x9D 0 0 165)
    ∷ keeping 5 0 0 165 0x14 (four 0x94 0 0 5)
    ∷ keeping 31 0 0 159 0x12 (four 0x92 0 0 31)
    ∷ keeping 5 0 0 40 0x14 (four 0x9F 0 0 40)
    ∷ keeping 5 0 0 100 0x14 (four 0x9D 0 0 100)
    ∷ []

says : Verdict → List ℕ
says (Refused number) = number ∷ []
says (Faulty code at) = sense_of code 0 at
says Passed = []

lba : ℕ → Lba
lba a = record { 0 = a }

engine : Params → (Track → Kind) → Case → List ℕ
engine p kinds c =
    says (judged (assign_tests p (byte c.given 0) (lba c.at) (alternate_of c.given)
    (state_for (kinds (track_of p (lba c.at)))) (state_for (kinds (track_of p (alternate_of c.given)))) c.missing))

machine : Case → List ℕ
machine c = says (judged (unassignable kinds p c.keep (byte c.given 0) (lba c.at) (address_given c.given)))

senses : List Case → List (List ℕ)
senses = map (λ (c : Case). c.sense)

assigning : (map (engine p kinds) cases ≡ senses cases) × (map machine cases ≡ senses cases) × (map (engine ends halfway) damaged ≡ senses damaged)
unfolding p kinds ends halfway assign keeping four cases damaged says lba engine machine senses judged assign_tests unassignable alternate_of address_given state_for pick
    bad_state moved_state taken_state taken_by_other is_bad is_moved is_taken addressed sense_of
assigning = (refl, refl, refl)
