-- A byte of a list, by its place; past the end 0.
use Rattle.std.specs.Prelude.{ℕ, List, get_or}

abbrev pub byte : List ℕ → (place : ℕ) → ℕ
byte bytes place = get_or bytes place 0
