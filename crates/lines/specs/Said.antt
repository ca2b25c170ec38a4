-- Document 01, the program frames: what a line is answered by, and what it leaves.
use Rattle.std.specs.Prelude.{ℕ, ◌≡◌, List, [], ◌∷◌, ◌++◌, length, take, drop}
use Rattle.std.proofs.Math.Option.{Option, none, some}
use Rattle.base.specs.Pick.{pick}
use Rattle.base.specs.Part.{splice}
use Rattle.model.specs.declared.record.Answer.{Answer}
use Rattle.model.specs.declared.record.Controller.{Controller}
use Rattle.model.specs.Block.{block_length}
use Rattle.model.specs.Record.{bare_answer}
use Rattle.model.specs.Engine.{Result, execute, reset_of}
use Rattle.hex_text.specs.Hex.{encoded}
use Rattle.hex_text.specs.Frame.{is_reset}
use Rattle.lines.specs.declared.answer.Told.{Told}

-- Number, status, message, data; then a line feed.
unfoldable pub answer_text : Answer → (handed : List ℕ) → List ℕ
answer_text answer handed = encoded (answer.number ∷ answer.status ∷ answer.message ∷ handed) ++ (0x0A ∷ [])

-- Zeros, and nothing handed over.
unfoldable pub reset_text : List ℕ
reset_text = answer_text (bare_answer 0) []

-- FF
abbrev pub bad_text : List ℕ
bad_text = 0x46 ∷ 0x46 ∷ 0x0A ∷ []

-- Controller, text, data area and images after a line.
pub record Said : Type 0 where
  pub controller : Controller
  pub text : List ℕ
  pub area : List ℕ
  pub images : List (List ℕ)

abbrev pub said_now : Told → (text area : List ℕ) → (images : List (List ℕ)) → Said
said_now told text area images = record { controller = told.controller; text = take told.length text; area = area; images = images }

-- What a call leaves is this: the text stands at the front of the slice that was lent for it, whose rest stays.
abbrev pub Says : Said → Told → (before text area : List ℕ) → (images : List (List ℕ)) → Type 0
Says said told before text area images =
    (said_now told text area images ≡ said) × (told.length ≡ length said.text) × (text ≡ splice 0 said.text before)

unfoldable pub result_said : Result → Said
result_said result = record {
  controller = result.outcome.controller;
  text = answer_text result.outcome.answer (take result.outcome.answer.bytes result.area);
  area = result.area;
  images = result.images;
}

-- The first six bytes are the block, of a frame that begins with 20h the first ten (request E5), the rest data.
unfoldable pub frame_said : Controller → (frame area : List ℕ) → (images : List (List ℕ)) → Said
frame_said c frame area images =
    result_said (execute c (take (block_length frame) frame) (drop (block_length frame) frame) area images)

unfoldable pub reset_said : (area : List ℕ) → (images : List (List ℕ)) → Said
reset_said area images =
    record { controller = (reset_of images).controller; text = reset_text; area = area; images = images }

unfoldable pub bad_said : Controller → (area : List ℕ) → (images : List (List ℕ)) → Said
bad_said c area images = record { controller = c; text = bad_text; area = area; images = images }

-- A line's bytes, or none where it is bad hex or has too many: then FF, and nothing changes.
unfoldable pub line_said : Controller → Option (List ℕ) → (area : List ℕ) → (images : List (List ℕ)) → Said
line_said c none area images = bad_said c area images
line_said c (some frame) area images = pick (is_reset frame) (reset_said area images) (frame_said c frame area images)
