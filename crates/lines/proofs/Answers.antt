-- What a line is answered by: Reset, a frame or bad hex.
use Prim.Native.Nat.{ℕ, ◌+◌, ◌-◌, ◌*◌, ◌≤◌, ◌<◌, min}
use mathlib.Core.Path.{◌≡◌, sym, ap, ◌∙◌}
use mathlib.Core.Bool.{Bool, true, false, or-true}
use mathlib.Core.Option.{none, some}
use mathlib.Core.List.{List, []}
use native.Mathlib.Omega.{arith}
use native.Mathlib.Decide.{dec_lt}
use native.Mathlib.Nat.{sub-zero}
use lib.ListN.{length, take, drop, length-take, length-drop, drop_of_length-le}
use lib.Seq.{take_all}
use Rattle.base.specs.Part.{splice}
use Rattle.base.proofs.Decide.{pick_true, pick-false}
use Rattle.model.specs.declared.record.Controller.{Controller}
use Rattle.model.specs.declared.record.Outcome.{Outcome}
use Rattle.model.specs.Block.{block_length}
use Rattle.model.specs.Engine.{execute, reset_of}
use Rattle.engine.specs.Results.{result_now}
use Rattle.std.specs.Prelude.{is_some}
use Rattle.hex_text.specs.declared.line.Line.{Line}
use Rattle.hex_text.specs.Line.{line_now, whole_of}
use Rattle.hex_text.specs.Frame.{is_reset}
use Rattle.lines.specs.Said.{answer_text, reset_text, bad_text, Said, Says, result_said, frame_said, reset_said, bad_said, line_said}
use Rattle.lines.specs.declared.answer.Told.{Told}
use Rattle.lines.proofs.AnswerTexts.{told_length, length_reset, front_taken}

-- ---- the answer to Reset
pub reset_answered : (images : List (List ℕ)) (text after : List ℕ) (outcome : Outcome) (n : ℕ) → outcome ≡ reset_of images
    → (n ≡ 7) × (after ≡ splice 0 (answer_text outcome.answer []) text)
    → (outcome.controller ≡ (reset_of images).controller) × (n ≡ 7) × (after ≡ splice 0 reset_text text)
unfolding reset_text reset_of
reset_answered images text after outcome n e told = (
  ap (λ (o : Outcome). o.controller) e,
  told.0,
  told.1 ∙ ap (λ (o : Outcome). splice 0 (answer_text o.answer []) text) e,
)

-- ---- as many as there are
take_most : (n : ℕ) (xs : List ℕ) → take (min n (length xs)) xs ≡ take n xs
take_most n xs = by (dec_lt n (length xs))
  where
    by : Dec (n < length xs) → take (min n (length xs)) xs ≡ take n xs
    by (yes h) = let e : min n (length xs) ≡ n = omega arith in rw e
    by (no h) = take_all (min n (length xs)) xs (omega arith) ∙ sym (take_all n xs (omega arith))

-- the rest of a list, taken as far as it goes
drop_most : (n : ℕ) (xs : List ℕ) → take (length xs - min n (length xs)) (drop (min n (length xs)) xs) ≡ drop n xs
drop_most n xs = take_all (length xs - min n (length xs)) (drop (min n (length xs)) xs) (simp length-drop (omega arith)) ∙ by (dec_lt n (length xs))
  where
    by : Dec (n < length xs) → drop (min n (length xs)) xs ≡ drop n xs
    by (yes h) = let e : min n (length xs) ≡ n = omega arith in rw e
    by (no h) = drop_of_length-le xs {i = min n (length xs)} (omega arith) ∙ sym (drop_of_length-le xs {i = n} (omega arith))

-- ---- the answer to a frame: a part lent from the front is `take (k - 0)`. The images that `execute` is given and those that it leaves
-- are known by equations, so that a struct which lends them again is proved the same way.
pub frame_answered : (c : Controller) (frame area area' text after : List ℕ) (images images' given left : List (List ℕ)) (outcome : Outcome)
    (long k m n : ℕ) → given ≡ images → images' ≡ left
    → 7 + 2 * length area ≤ length text → length area' ≡ length area
    → long ≡ block_length frame → k ≡ min long (length frame) → m ≡ min outcome.answer.bytes (length area')
    → result_now outcome area' left ≡ execute c (take (k - 0) frame) (take (length frame - k) (drop k frame)) area given
    → (n ≡ 7 + 2 * length (take (m - 0) area')) × (after ≡ splice 0 (answer_text outcome.answer (take (m - 0) area')) text)
    → Says (frame_said c frame area images) (record { controller = outcome.controller; length = n }) text after area' images'
unfolding frame_said result_said
frame_answered c frame area area' text after images images' given left outcome long k m n lent_is left_is room same el ek em done told =
    let handed : List ℕ = take (m - 0) area' in
    let l : length handed ≤ length area = rw (length-take (m - 0) area') (omega arith) in
    let all : handed ≡ take outcome.answer.bytes area' = rw (sub-zero m, em) (take_most outcome.answer.bytes area') in
    let block : take (k - 0) frame ≡ take (block_length frame) frame = rw (sub-zero k, ek, el) (take_most (block_length frame) frame) in
    let rest : take (length frame - k) (drop k frame) ≡ drop (block_length frame) frame = rw (ek, el) (drop_most (block_length frame) frame) in
    let result : result_now outcome area' images' ≡ execute c (take (block_length frame) frame) (drop (block_length frame) frame) area images =
    rw (← block, ← rest, ← lent_is, left_is) done in
    let count : n ≡ length (answer_text outcome.answer handed) = told_length outcome.answer handed text (omega arith) n told.0 in
    let written = front_taken (answer_text outcome.answer handed) text after n count told.1 in
    rw (← result, ← all) (rw written, count, told.1)

-- ---- the answer to a line: what is said, by what the line is
module _ (c : Controller) (line : Line) (bytes area : List ℕ) (images : List (List ℕ)) where
  abbrev said : Said
  said = line_said c (whole_of (line_now line bytes)) area images

  none_said : whole_of (line_now line bytes) ≡ none → said ≡ bad_said c area images
  unfolding line_said
  none_said e = rw e

  module _ (told : Told) (text after : List ℕ) where
    -- FF, and nothing changes
    spoilt_answered : said ≡ bad_said c area images → (told.controller ≡ c) × (told.length ≡ 3) × (after ≡ splice 0 bad_text text)
        → Says said told text after area images
    unfolding bad_said
    spoilt_answered e is =
        rw e (rw (is.0, front_taken bad_text text after told.length is.1 is.2), is.1, is.2)

    module _ (is : (told.controller ≡ c) × (told.length ≡ 3) × (after ≡ splice 0 bad_text text)) where
      pub bad_answered : line.bad ≡ true → Says said told text after area images
      unfolding whole_of
      bad_answered e = spoilt_answered (none_said (pick_true _ _ _ (rw e))) is

      pub half_answered : is_some line.high ≡ true → Says said told text after area images
      unfolding whole_of
      half_answered e = spoilt_answered (none_said (pick_true _ _ _ (rw (e, or-true line.bad)))) is

  module _ (bad : line.bad ≡ false) (half : is_some line.high ≡ false) (reset : Bool) (is : reset ≡ is_reset (take (line.count - 0) bytes)) where
    whole_line : whole_of (line_now line bytes) ≡ some (take (line.count - 0) bytes)
    unfolding whole_of
    whole_line = rw (sub-zero line.count) (pick-false _ _ _ (rw (bad, half)))

    reset_said_lem : reset ≡ true → said ≡ reset_said area images
    unfolding line_said
    reset_said_lem e = rw whole_line (pick_true _ _ _ (sym is ∙ e))

    frame_said_lem : reset ≡ false → said ≡ frame_said c (take (line.count - 0) bytes) area images
    unfolding line_said
    frame_said_lem e = rw whole_line (pick-false _ _ _ (sym is ∙ e))

    module _ (told : Told) (text after : List ℕ) where
      pub line_reset : reset ≡ true
          → (told.controller ≡ (reset_of images).controller) × (told.length ≡ 7) × (after ≡ splice 0 reset_text text)
          → Says said told text after area images
      unfolding reset_said
      line_reset e h =
          let l : told.length ≡ length reset_text = h.1 ∙ sym length_reset in
          rw (reset_said_lem e) (rw (h.0, front_taken reset_text text after told.length l h.2), l, h.2)

      pub line_frame : (area' : List ℕ) (images' : List (List ℕ)) → reset ≡ false
          → Says (frame_said c (take (line.count - 0) bytes) area images) told text after area' images' → Says said told text after area' images'
      line_frame area' images' e h = rw (frame_said_lem e) h
