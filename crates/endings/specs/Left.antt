-- What a command leaves of all that it is lent, as a contract sees it.
use Rattle.std.specs.Prelude.{ℕ, List}
use Rattle.model.specs.declared.record.Ending.{Ending}
use Rattle.model.specs.Record.{Effect, area_after}

pub record Left : Type 0 where
  pub ending : Ending
  pub buffer : List ℕ
  pub area : List ℕ
  pub image : List ℕ

abbrev pub left_now : Ending → (buffer area image : List ℕ) → Left
left_now ending buffer area image = record { ending = ending; buffer = buffer; area = area; image = image }

unfoldable pub left_by : Effect → (area : List ℕ) → Left
left_by e area = record { ending = e.ending; buffer = e.buffer; area = area_after e area; image = e.image }
