-- The program frames, its input taken a character at a time: what is said, and where the program stands.
use Rattle.std.specs.Prelude.{ℕ, List, [], ◌∷◌, ◌++◌, eqb}
use Rattle.base.specs.Pick.{pick}
use Rattle.model.specs.declared.record.Controller.{Controller}
use Rattle.hex_text.specs.Line.{Reading, line_now, started, accepted, is_begun, whole_of}
use Rattle.lines.specs.Said.{line_said}

-- Between two characters: the controller, what is read of the line under way, the data area, the images.
pub record Talk : Type 0 where
  pub controller : Controller
  pub reading : Reading
  pub area : List ℕ
  pub images : List (List ℕ)

-- What is said, and where the program stands then.
pub record Spoken : Type 0 where
  pub talk : Talk
  pub text : List ℕ

-- A line has ended: it is answered, and the next one begins.
unfoldable pub answered : Talk → Spoken
answered x =
    let said = line_said x.controller (whole_of x.reading) x.area x.images in
    record {
      talk = record { controller = said.controller; reading = line_now started x.reading.bytes; area = said.area; images = said.images };
      text = said.text;
    }

-- A character: a line feed ends the line, any other is of it.
unfoldable pub heard : Talk → (c : ℕ) → Spoken
heard x c =
    pick (eqb c 0x0A) (answered x)
    (record {
      talk = record { controller = x.controller; reading = accepted x.reading c; area = x.area; images = x.images };
      text = [];
    })

-- One character after the other.
unfoldable pub talked : Talk → (input : List ℕ) → Spoken
talked x [] = record { talk = x; text = [] }
talked x (c ∷ input) =
    let rest = talked (heard x c).talk input in
    record { talk = rest.talk; text = (heard x c).text ++ rest.text }

-- The input has ended: a last line without a line feed counts.
unfoldable pub closed : Talk → Spoken
closed x = pick (is_begun x.reading.line) (answered x) (record { talk = x; text = [] })
