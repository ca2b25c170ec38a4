use Rattle.hex_text.proofs.Characters.{accept_none, accept_digit}
use Rattle.hex_text.proofs.line.accept.Goals as goal

pub returns-in-None : goal.returns-in-None
returns-in-None c = accept_none _ _ _ _ c.if-line.false c.requires c.in-None.ensures c.spoilt.ensures

pub returns-in-Some : goal.returns-in-Some
returns-in-Some c = accept_digit _ _ _ _ c.if-line.false c.requires _ _ c.in-Some.ensures c.take_value.ensures
