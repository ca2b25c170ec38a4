-- What the functions that take the input leave: the characters up to a line feed are of the line under way, then it is answered.
use Prim.Native.Nat.{ℕ, suc, ◌+◌, ◌-◌, ◌≤◌, ◌<◌}
use mathlib.Core.Path.{◌≡◌, refl, sym, ap, subst, ◌∙◌}
use mathlib.Core.Bool.{Bool, true, false}
use mathlib.Core.List.{List, [], ◌∷◌}
use native.Mathlib.Omega.{arith}
use native.Mathlib.Nat.{sub-zero}
use lib.ListN.{length, take, get_or}
use lib.Seq.{take_all}
use borrow.Author.Tests.{eq-eqb, ne_eqb}
use Rattle.std.specs.Prelude.{eqb}
use Rattle.std.specs.List.{position_or_len}
use Rattle.std.proofs.lemmas.List.Sums.{position_or_len_is}
use Rattle.base.specs.Pick.{pick}
use Rattle.base.specs.Part.{splice}
use Rattle.base.proofs.Decide.{pick_true, pick-false}
use Rattle.base.proofs.Parts.{splice_none}
use Rattle.model.specs.Engine.{fresh}
use Rattle.hex_text.specs.declared.line.Line.{Line}
use Rattle.hex_text.specs.Line.{Reading, line_now, started, accepted_all, is_begun, whole_of}
use Rattle.hex_text.proofs.Rooms.{all_room}
use Rattle.lines.specs.declared.answer.Told.{Told}
use Rattle.lines.specs.declared.talk.Session.{Session}
use Rattle.lines.specs.declared.talk.Heard.{Heard}
use Rattle.lines.specs.Said.{Says, line_said}
use Rattle.lines.specs.Talk.{Talk, answered, talked, closed}
use Rattle.lines.specs.Frames.{first_talk, Talking}
use Rattle.lines.specs.Hearing.{talk_now, Speaks, AtFirst, feed_at, line_end}
use Rattle.lines.proofs.Talks.{with_reading, quiet, feed_within, heard_open, heard_line}
use Rattle.lines.proofs.Standing.{stands}

-- ---- before the first character
pub begun_first : (r : Session) (bytes area : List ℕ) (images : List (List ℕ)) → AtFirst bytes area images
    → r.controller ≡ fresh images → r.line ≡ started → talk_now r bytes area images ≡ first_talk
unfolding first_talk
begun_first r bytes area images first c l = rw (c, l, first.0, first.1, first.2)

-- ---- the first line feed, as `position` finds it
pub feed_first : (input : List ℕ) → position_or_len (λ c. eqb c 0x0A) input ≡ feed_at input
unfolding feed_at pick
feed_first [] = refl
feed_first (c ∷ input) = by (eqb c 0x0A) refl (feed_first input)
  where
    by : (b : Bool) → eqb c 0x0A ≡ b → position_or_len (λ c. eqb c 0x0A) input ≡ feed_at input → position_or_len (λ c. eqb c 0x0A) (c ∷ input) ≡ feed_at (c ∷ input)
    by true e h = rw e refl
    by false e h =
        let n = position_or_len (λ c. eqb c 0x0A) input in
        let one : 1 + n ≡ suc n = omega arith in
        rw e (one ∙ ap suc h)

pub first_is : (input : List ℕ) (n : ℕ) → n ≤ length input → ((k : ℕ) → k < n → get_or input k 0 ≡ 0x0A → ⊥) → (n < length input → get_or input n 0 ≡ 0x0A)
    → n ≡ feed_at input
first_is input n l before here =
    sym (position_or_len_is (λ c. eqb c 0x0A) input n 0 l (λ k h. ne_eqb _ _ (before k h)) (λ h. eq-eqb _ _ (here h))) ∙ feed_first input

-- ---- a line that has ended
pub line_answered : (session : Session) (bytes area area' text text' : List ℕ) (images images' : List (List ℕ)) (told : Told)
    (line : Line) (taken : ℕ)
    → Says (line_said session.controller (whole_of (line_now session.line bytes)) area images) told text text' area' images'
    → line ≡ started
    → Speaks (answered (talk_now session bytes area images))
    (record { session = record { controller = told.controller; line = line }; taken = taken; length = told.length })
    text text' bytes area' images'
unfolding answered
line_answered session bytes area area' text text' images images' told line taken says e = (rw (e, ← says.0), says.1, says.2)

-- ---- nothing is said
quiet_said : (text : List ℕ) → text ≡ splice 0 [] text
quiet_said text = sym (splice_none text)

-- ---- the input up to its first line feed
module _ (session : Session) (input bytes area text : List ℕ) (images : List (List ℕ)) (end : ℕ) (line : Line) (bytes' : List ℕ)
    (found : end ≡ feed_at input) (read : line_now line bytes' ≡ accepted_all (line_now session.line bytes) (take (end - 0) input)) where
  abbrev x : Talk
  x = talk_now session bytes area images

  abbrev next : Session
  next = record { controller = session.controller; line = line }

  reads : accepted_all (line_now session.line bytes) (take (feed_at input) input) ≡ line_now line bytes'
  reads = sym (read ∙ rw (sub-zero end, found))

  -- there is none: all is taken, and nothing is said
  open_talked : end ≡ length input → talked x (take end input) ≡ quiet (talk_now next bytes' area images)
  open_talked e =
      let all : take end input ≡ input = take_all end input (omega arith) in
      let same : take (feed_at input) input ≡ input = take_all (feed_at input) input (omega arith) in
      rw all (heard_open input x (sym found ∙ e)) ∙ ap (λ (r : Reading). quiet (with_reading x r)) (rw same at reads)

  pub open_heard : end ≡ length input
      → (end ≡ line_end input) × Speaks (talked x (take end input)) (record { session = next; taken = end; length = 0 }) text text bytes' area images
  unfolding line_end
  open_heard e = (omega arith, rw (open_talked e) (refl, refl, quiet_said text))

  -- there is one: the line is answered
  line_talked : (end ≡ length input → ⊥) → talked x (take (end + 1) input) ≡ answered (talk_now next bytes' area images)
  line_talked ne =
      let n : end + 1 ≡ suc (feed_at input) = omega arith in
      let h : feed_at input < length input = (let w = feed_within input in omega arith) in
      rw n (heard_line input x h) ∙ ap (λ (r : Reading). answered (with_reading x r)) reads

  pub line_heard : (end ≡ length input → ⊥) → (r : Heard) (text' area' : List ℕ) (images' : List (List ℕ)) → r.taken ≡ end + 1
      → Speaks (answered (talk_now next bytes' area images)) r text text' bytes' area' images'
      → (r.taken ≡ line_end input) × Speaks (talked x (take r.taken input)) r text text' bytes' area' images'
  unfolding line_end
  line_heard ne r text' area' images' t speaks =
      let w = feed_within input in
      (omega arith, rw (t, line_talked ne) speaks)

  -- the line still fits its slice
  pub still_fits : Talking x → line.count ≤ length bytes'
  still_fits t =
      subst (λ (r : Reading). r.line.count ≤ length r.bytes) (sym read)
      (all_room (line_now session.line bytes) (take (end - 0) input) (stands t).room)

-- ---- the end of the input
module _ (session : Session) (bytes area text : List ℕ) (images : List (List ℕ)) (begun : Bool) (is : begun ≡ is_begun session.line) where
  abbrev last : Talk
  last = talk_now session bytes area images

  closed_line : begun ≡ true → closed last ≡ answered last
  unfolding closed
  closed_line e = pick_true _ _ _ (sym is ∙ e)

  closed_quiet : begun ≡ false → closed last ≡ quiet last
  unfolding closed
  closed_quiet e = pick-false _ _ _ (sym is ∙ e)

  pub close_line : begun ≡ true → (r : Heard) (text' area' : List ℕ) (images' : List (List ℕ))
      → Speaks (answered last) r text text' bytes area' images' → Speaks (closed last) r text text' bytes area' images'
  close_line e r text' area' images' speaks = rw (closed_line e) speaks

  pub close_quiet : begun ≡ false → Speaks (closed last) (record { session = session; taken = 0; length = 0 }) text text bytes area images
  close_quiet e = rw (closed_quiet e) (refl, refl, quiet_said text)
