-- A line read one character at a time.
use Rattle.std.specs.Prelude.{ℕ, ◌+◌, ◌*◌, Bool, true, false, ◌||◌, List, [], ◌∷◌, Some, None, is_some, length, take, set, leb, ltb}
use Rattle.std.specs.Prelude as std
use Rattle.std.proofs.Math.Option.{Option, none, some}
use Rattle.base.specs.Pick.{pick}
use Rattle.hex_text.specs.declared.line.Line.{Line}
use Rattle.hex_text.specs.Hex.{value_of, decoded}

-- The line so far, and the slice that its bytes are put into.
pub record Reading : Type 0 where
  pub line : Line
  pub bytes : List ℕ

abbrev pub line_now : Line → (bytes : List ℕ) → Reading
line_now line bytes = record { line = line; bytes = bytes }

abbrev pub started : Line
started = record { count = 0; high = None; bad = false }

unfoldable pub spoilt_line : Line → Line
spoilt_line line = record { count = line.count; high = line.high; bad = true }

unfoldable pub spoilt : Reading → Reading
spoilt x = record { line = spoilt_line x.line; bytes = x.bytes }

-- A first digit waits; with the second a byte is put behind the others, if there is room.
unfoldable pub taken_behind : (high : std.Option ℕ) → Reading → (value : ℕ) → Reading
taken_behind None x value = record { line = record { count = x.line.count; high = Some value; bad = false }; bytes = x.bytes }
taken_behind (Some high) x value =
    pick (ltb x.line.count (length x.bytes))
    (record {
      line = record { count = x.line.count + 1; high = None; bad = false };
      bytes = set x.bytes x.line.count (high * 16 + value);
    })
    (spoilt x)

unfoldable pub taken_in : Reading → (value : ℕ) → Reading
taken_in x value = taken_behind x.line.high x value

-- A character by its value, if it is a digit.
unfoldable pub accepted_as : (value : std.Option ℕ) → Reading → Reading
accepted_as None x = spoilt x
accepted_as (Some value) x = taken_in x value

unfoldable pub accepted : Reading → (c : ℕ) → Reading
accepted x c = pick x.line.bad x (accepted_as (value_of c) x)

unfoldable pub accepted_all : Reading → (text : List ℕ) → Reading
accepted_all x [] = x
accepted_all x (c ∷ text) = accepted_all (accepted x c) text

-- A character of the line has been read.
unfoldable pub is_begun : Line → Bool
is_begun line = line.bad || (is_some line.high || ltb 0 line.count)

-- What has been read, as a whole: its bytes, or none where the line is bad.
unfoldable pub whole_of : Reading → Option (List ℕ)
whole_of x = pick (x.line.bad || is_some x.line.high) none (some (take x.line.count x.bytes))

-- What a line is: its bytes, none where it is bad hex or has more than there is room for.
unfoldable pub within : (room : ℕ) → Option (List ℕ) → Option (List ℕ)
within room none = none
within room (some bytes) = pick (leb (length bytes) room) (some bytes) none

unfoldable pub line_of : (room : ℕ) → (text : List ℕ) → Option (List ℕ)
line_of room text = within room (decoded text)
