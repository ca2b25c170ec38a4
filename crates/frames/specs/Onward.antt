-- What the program has read and what it has written, wherever the bytes of its reader and of its writer are known.
use Rattle.std.specs.Prelude.{ℕ, ◌≡◌, List, ◌++◌, ◌⊎◌, Option}
use Rattle.std.specs.Io.KnownBytes.{Appends, Consumes, IsAtEnd}
use Rattle.lines.specs.Talk.{Talk, talked}
use Rattle.lines.specs.Frames.{first_talk, frames_said}

-- A writer that held `held` has got a front of the text, if not all of it.
pub record WritesFront (held holds : Option (List ℕ)) (text : List ℕ) : Type 0 where
  pub front : List ℕ
  pub rest : List ℕ
  pub is : text ≡ front ++ rest
  pub written : Appends held holds front

-- Some input has brought the program from where it stood to where it stands: the reader gave it, and what is said to it is written.
pub record Onward (from here : Talk) (given left held holds : Option (List ℕ)) : Type 0 where
  pub heard : List ℕ
  pub is : here ≡ (talked from heard).talk
  pub read : Consumes given left heard
  pub written : Appends held holds (talked from heard).text

-- A read or a write has failed: of what is said to the input that the reader gave a front is written. A last line without a line
-- feed is not answered.
pub record CutOff (from : Talk) (given left held holds : Option (List ℕ)) : Type 0 where
  pub heard : List ℕ
  pub read : Consumes given left heard
  pub written : WritesFront held holds (talked from heard).text

-- The whole input is read, and what its lines are answered by, one after the other, is written.
pub record Served (given left held holds : Option (List ℕ)) : Type 0 where
  pub heard : List ℕ
  pub read : Consumes given left heard
  pub ended : IsAtEnd left
  pub written : Appends held holds (frames_said heard).text

-- A write has failed after the whole input was read: a front of those answers is written.
pub record CutAtEnd (given left held holds : Option (List ℕ)) : Type 0 where
  pub heard : List ℕ
  pub read : Consumes given left heard
  pub ended : IsAtEnd left
  pub written : WritesFront held holds (frames_said heard).text

-- A run that has failed.
abbrev pub Failed : (given left held holds : Option (List ℕ)) → Type 0
Failed given left held holds = CutOff first_talk given left held holds ⊎ CutAtEnd given left held holds
