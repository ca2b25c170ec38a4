-- What holds wherever the program stands: the line under way fits its slice, and the data area has its 1,024 bytes. For the latter the
-- controller has to be whole (what Request Sense and Read Buffer hand over is of it), which the claim about every list knows.
use Prim.Native.Nat.{ℕ, zero, suc, ◌+◌, ◌*◌, ◌≤◌, ◌<◌}
use mathlib.Core.Path.{◌≡◌, refl, sym, ap, ◌∙◌}
use mathlib.Core.Bool.{Bool, true, false}
use mathlib.Core.Option.{Option, none, some}
use mathlib.Core.List.{List, [], ◌∷◌, ◌++◌}
use native.Mathlib.Omega.{arith}
use lib.ListN.{length, take, drop, length-replicate}
use lib.Dec.{eqb}
use Rattle.base.specs.Pick.{pick}
use Rattle.base.specs.Part.{part}
use Rattle.base.specs.Same.{same_bytes}
use Rattle.base.proofs.Decide.{pick-both}
use Rattle.std.specs.Prelude.{None}
use Rattle.geometry.specs.Medium.{medium_of, is_in, ranges_of}
use Rattle.geometry.specs.Config.{fields_in, setting_by, setting_of, label_setting}
use Rattle.model.specs.declared.record.Controller.{Controller}
use Rattle.model.specs.Block.{block_of, block_length}
use Rattle.model.specs.Engine.{image_of}
use Rattle.model.specs.Machine.{Machine}
use Rattle.model.specs.Claim.{System, Reset, Command, left_by, called, replied}
use Rattle.model.proofs.engine.Assembled.{drive_below}
use Rattle.model.proofs.claim.Agrees.{Agrees}
use Rattle.model.proofs.claim.Restarted.{agree_fresh}
use Rattle.model.proofs.claim.Called.{call_answered}
use Rattle.hex_text.specs.Line.{whole_of}
use Rattle.hex_text.proofs.Digits.{IsDigit}
use Rattle.hex_text.proofs.Rooms.{accepted_high, accepted_room}
use Rattle.lines.specs.Said.{Said, line_said, reset_said, bad_said, frame_said, result_said}
use Rattle.lines.specs.Talk.{Talk, Spoken, answered, heard, talked}
use Rattle.lines.specs.Frames.{first_images, first_talk, spoken_behind, Talking}
use Rattle.lines.proofs.Areas.{area_keeps}
use Rattle.lines.proofs.Talks.{heard_feed, heard_plain, talked_cut}

-- ---- a line's answer leaves the area's length and a whole controller
pub record Whole (c : Controller) (area : List ℕ) (images : List (List ℕ)) : Type 0 where
  pub long : length area ≡ 1024
  pub machine : Machine
  pub agrees : Agrees c (λ d. image_of d images) machine

WholeSaid : Said → Type 0
WholeSaid said = Whole said.controller said.area said.images

module _ (c : Controller) (area : List ℕ) (images : List (List ℕ)) (w : Whole c area images) where
  abbrev system : System
  system = record { controller = c; images = images }

  reset_whole : WholeSaid (reset_said area images)
  unfolding WholeSaid reset_said called left_by replied
  reset_whole = record { long = w.long; machine = _; agrees = (call_answered system Reset w.machine w.agrees).agree }

  frame_whole : (frame : List ℕ) → WholeSaid (frame_said c frame area images)
  unfolding WholeSaid frame_said result_said called left_by replied
  frame_whole frame =
      let block = take (block_length frame) frame in
      let given = drop (block_length frame) frame in
      let entry = w.agrees.drives (block_of block).drive (drive_below block) in
      record {
        long = area_keeps c block given area images entry.whole entry.four ∙ w.long;
        machine = _;
        agrees = (call_answered system (Command block given area) w.machine w.agrees).agree;
      }

  line_whole : (line : Option (List ℕ)) → WholeSaid (line_said c line area images)
  unfolding line_said WholeSaid bad_said
  line_whole none = w
  line_whole (some frame) = pick-both WholeSaid _ _ _ reset_whole (frame_whole frame)

-- ---- the program
pub record Stands (x : Talk) : Type 0 where
  pub small : IsDigit x.reading.line.high
  pub room : x.reading.line.count ≤ length x.reading.bytes
  pub whole : Whole x.controller x.area x.images

answered_stands : (x : Talk) → Stands x → Stands (answered x).talk
unfolding answered WholeSaid
answered_stands x s = record {
  small = tt;
  room = omega arith;
  whole = line_whole x.controller x.area x.images s.whole (whole_of x.reading);
}

heard_stands : (x : Talk) (c : ℕ) → Stands x → Stands (heard x c).talk
heard_stands x c s = by (eqb c 0x0A) refl
  where
    by : (b : Bool) → eqb c 0x0A ≡ b → Stands (heard x c).talk
    by true e = rw (heard_feed x c e) (answered_stands x s)
    by false e = rw (heard_plain x c e) (record {
      small = accepted_high x.reading c s.small;
      room = accepted_room x.reading c s.room;
      whole = s.whole;
    })

talked_stands : (input : List ℕ) (x : Talk) → Stands x → Stands (talked x input).talk
unfolding talked
talked_stands [] x s = s
talked_stands (c ∷ input) x s = talked_stands input (heard x c).talk (heard_stands x c s)

-- zeros are no label, nor is an empty image
zeros_none : (d : ℕ) → d < 4 → label_setting (medium_of d) (image_of d first_images) ≡ None
unfolding first_images image_of medium_of label_setting setting_of setting_by fields_in ranges_of is_in same_bytes part pick
zeros_none zero h = refl
zeros_none (suc zero) h = refl
zeros_none (suc (suc zero)) h = refl
zeros_none (suc (suc (suc zero))) h = refl
zeros_none (suc (suc (suc (suc d)))) h = absurd (omega arith)

first_stands : Stands first_talk
unfolding first_talk
first_stands = record {
  small = tt;
  room = omega arith;
  whole = record { long = length-replicate {A = ℕ} 1024 0; machine = _; agrees = agree_fresh first_images zeros_none };
}

pub stands : {x : Talk} → Talking x → Stands x
stands t = rw t.is (talked_stands t.heard first_talk first_stands)

-- ---- from there on
pub talking_on : {x : Talk} (y : Talk) (input : List ℕ) → Talking x → y ≡ (talked x input).talk → Talking y
unfolding spoken_behind
talking_on y input t e = record {
  heard = t.heard ++ input;
  is = e ∙ (rw t.is (sym (ap (λ (s : Spoken). s.talk) (talked_cut first_talk t.heard input))));
}

pub talking_first : (x : Talk) → x ≡ first_talk → Talking x
unfolding talked
talking_first x e = record { heard = []; is = e }

-- ---- room for any answer
pub text_room : {x : Talk} (n : ℕ) → Talking x → 2055 ≤ n → 7 + 2 * length x.area ≤ n
text_room n t h = omega (arith, (stands t).whole.long)
