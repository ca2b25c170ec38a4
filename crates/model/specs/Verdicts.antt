-- What the checks say of a command: a refusal's number; a sense code and the address that goes with it; or passed.
use Rattle.std.specs.Prelude.{ℕ, Result, Ok, Err}
use Rattle.codes.specs.Numbers.{number_of, refusal_number}
use Rattle.geometry.specs.declared.params.Lba.{Lba}
use Rattle.model.specs.declared.verdict.Stop.{Stop}
use Rattle.model.specs.declared.verdict.Stop.TheVariants.{Refuse, Fail}
use Rattle.model.specs.declared.verdict.NamedStop.{NamedStop}

pub data Verdict : Type 0 where
  Refused : ℕ → Verdict
  Faulty : ℕ → Lba → Verdict
  Passed : Verdict

-- What the checks of Copy say, and of which drive.
pub record Judgement : Type 0 where
  pub named : ℕ
  pub verdict : Verdict

-- ---- What the code says, in these terms
abbrev pub stop_verdict : Stop → Verdict
stop_verdict (Refuse refusal) = Refused (refusal_number refusal)
stop_verdict (Fail code at) = Faulty (number_of code) at

abbrev pub as_verdict : {T : Type 0} → Result T Stop → Verdict
as_verdict (Ok x) = Passed
as_verdict (Err stop) = stop_verdict stop

-- Where all is passed, nothing is said of the other drive.
abbrev pub as_judgement : {T : Type 0} → (drive : ℕ) → Result T NamedStop → Judgement
as_judgement drive (Ok x) = record { named = drive; verdict = Passed }
as_judgement drive (Err said) = record { named = said.named; verdict = stop_verdict said.stop }
