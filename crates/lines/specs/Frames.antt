-- Document 01, the program frames as its readers know it: lines in, an answer a line.
use Rattle.std.specs.Prelude.{ℕ, ◌≡◌, List, [], ◌∷◌, ◌++◌, replicate, eqb}
use Rattle.base.specs.Pick.{pick}
use Rattle.model.specs.Engine.{fresh}
use Rattle.hex_text.specs.Line.{line_now, started, line_of}
use Rattle.lines.specs.Said.{Said, line_said}
use Rattle.lines.specs.Talk.{Talk, Spoken, talked, closed}

-- The lines of an input: each ends at a line feed; what is behind the last one is a line too, if there is any of it.
unfoldable pub with_first : (c : ℕ) → (lines : List (List ℕ)) → List (List ℕ)
with_first c [] = (c ∷ []) ∷ []
with_first c (line ∷ lines) = (c ∷ line) ∷ lines

unfoldable pub lines_of : (input : List ℕ) → List (List ℕ)
lines_of [] = []
lines_of (c ∷ input) = pick (eqb c 0x0A) ([] ∷ lines_of input) (with_first c (lines_of input))

-- Line after line, none of more than `room` bytes: each is answered with what the line before left.
unfoldable pub said_behind : (text : List ℕ) → Said → Said
said_behind text said = record { controller = said.controller; text = text ++ said.text; area = said.area; images = said.images }

unfoldable pub lines_said : (room : ℕ) → Said → (lines : List (List ℕ)) → Said
lines_said room before [] = before
lines_said room before (line ∷ lines) =
    lines_said room (said_behind before.text (line_said before.controller (line_of room line) before.area before.images)) lines

-- It starts fresh with two zero images of 25,360 bytes, and lends drives 2 and 3 empty ones (E3). The data area has 1,024 bytes,
-- and a line at most 1,030.
unfoldable pub first_images : List (List ℕ)
first_images = replicate 25360 0 ∷ replicate 25360 0 ∷ [] ∷ [] ∷ []

unfoldable pub frames_said : (input : List ℕ) → Said
frames_said input =
    lines_said 1030 (record { controller = fresh first_images; text = []; area = replicate 1024 0; images = first_images }) (lines_of input)

-- The same start, as the program stands before the first character.
unfoldable pub first_talk : Talk
first_talk = record { controller = fresh first_images; reading = line_now started (replicate 1030 0); area = replicate 1024 0; images = first_images }

-- The program stands where some input from its start has left it.
pub record Talking (x : Talk) : Type 0 where
  pub heard : List ℕ
  pub is : x ≡ (talked first_talk heard).talk

-- ---- The input in pieces, cut anywhere: each is heard from where the one before left it, and then the input ends.
unfoldable pub spoken_behind : (text : List ℕ) → Spoken → Spoken
spoken_behind text spoken = record { talk = spoken.talk; text = text ++ spoken.text }

unfoldable pub pieces_talked : Talk → (pieces : List (List ℕ)) → Spoken
pieces_talked x [] = record { talk = x; text = [] }
pieces_talked x (piece ∷ pieces) = spoken_behind (talked x piece).text (pieces_talked (talked x piece).talk pieces)

unfoldable pub joined : (pieces : List (List ℕ)) → List ℕ
joined [] = []
joined (piece ∷ pieces) = piece ++ joined pieces

unfoldable pub end_said : Spoken → Said
end_said spoken =
    let last = closed spoken.talk in
    record { controller = last.talk.controller; text = spoken.text ++ last.text; area = last.talk.area; images = last.talk.images }

unfoldable pub pieces_said : (pieces : List (List ℕ)) → Said
pieces_said pieces = end_said (pieces_talked first_talk pieces)
