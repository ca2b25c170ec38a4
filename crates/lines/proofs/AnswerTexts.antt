-- Laws of the text that answers a line: its digits and its line feed, put one behind the other at the front.
use Prim.Native.Nat.{ℕ, ◌+◌, ◌*◌, ◌≤◌, ◌<◌}
use mathlib.Core.Path.{◌≡◌, refl, sym, ap, ◌∙◌}
use mathlib.Core.List.{List, [], ◌∷◌, ◌++◌, append_assoc}
use native.Mathlib.Omega.{arith}
use native.Mathlib.Numerals.{add-one}
use lib.ListN.{length, take, drop, set, length-append}
use lib.Seq.{take_at, take-append_seam, drop-append-add, drop-drop, set_split}
use Rattle.base.specs.Part.{splice}
use Rattle.base.proofs.Parts.{length_splice}
use Rattle.model.specs.declared.record.Answer.{Answer}
use Rattle.model.specs.Record.{bare_answer}
use Rattle.hex_text.specs.Hex.{encoded}
use Rattle.lines.specs.Said.{answer_text, reset_text, bad_text}

-- ---- one text behind another
front_more : (ys zs xs : List ℕ) → splice (length ys) zs (splice 0 ys xs) ≡ splice 0 (ys ++ zs) xs
unfolding splice
front_more ys zs xs =
    let n : 0 + length ys + length zs ≡ 0 + length (ys ++ zs) = rw (length-append ys zs) (omega arith) in
    let D : List ℕ = drop (0 + length ys) xs in
    rw (take-append_seam ys D, drop-append-add ys D (length zs), drop-drop (length zs) (0 + length ys) xs, n)
    (sym (append_assoc ys zs (drop (0 + length (ys ++ zs)) xs)))

-- the same where the place is known as a number
front_at : (n : ℕ) (ys zs xs : List ℕ) → length ys ≡ n → splice n zs (splice 0 ys xs) ≡ splice 0 (ys ++ zs) xs
front_at n ys zs xs e = rw (← e) (front_more ys zs xs)

set_splice : (n x : ℕ) (xs : List ℕ) → n < length xs → set xs n x ≡ splice n (x ∷ []) xs
unfolding splice
set_splice n x xs h = rw add-one (set_split xs n x h)

take_front : (n : ℕ) (ys xs : List ℕ) → length ys ≡ n → take n (splice 0 ys xs) ≡ ys
unfolding splice
take_front n ys xs e = take_at ys (drop (0 + length ys) xs) n e

-- ---- digits
pub length_encoded : (bytes : List ℕ) → length (encoded bytes) ≡ 2 * length bytes
unfolding encoded
length_encoded [] = refl
length_encoded (b ∷ bytes) = omega (arith, length_encoded bytes)

length_answer : (answer : Answer) (handed : List ℕ) → length (answer_text answer handed) ≡ 7 + 2 * length handed
unfolding answer_text encoded
length_answer answer handed =
    length-append (encoded (answer.number ∷ answer.status ∷ answer.message ∷ handed)) (0x0A ∷ [])
    ∙ omega (arith, length_encoded handed)

pub length_reset : length reset_text ≡ 7
unfolding reset_text
length_reset = length_answer (bare_answer 0) []

-- ---- what `tell` writes
module _ (answer : Answer) (handed text : List ℕ) (room : 7 + 2 * length handed ≤ length text) where
  abbrev head : List ℕ
  head = answer.number ∷ answer.status ∷ answer.message ∷ []

  abbrev whole : List ℕ
  whole = encoded (answer.number ∷ answer.status ∷ answer.message ∷ handed)

  length_whole : length whole ≡ 6 + 2 * length handed
  length_whole = length_encoded (answer.number ∷ answer.status ∷ answer.message ∷ handed) ∙ omega arith

  digits : splice 6 (encoded handed) (splice 0 (encoded head) text) ≡ splice 0 whole text
  unfolding encoded
  digits = front_at 6 (encoded head) (encoded handed) text (length_encoded head)

  length_answered : length (splice 0 (answer_text answer handed) text) ≡ length text
  length_answered = length_splice 0 (answer_text answer handed) text (omega (arith, length_answer answer handed))

  module _ (text₁ text₂ : List ℕ) (e₁ : text₁ ≡ splice 0 (encoded head) text) (e₂ : text₂ ≡ splice 6 (encoded handed) text₁) where
    pub tell_written : set text₂ (6 + 2 * length handed) 0x0A ≡ splice 0 (answer_text answer handed) text
    unfolding answer_text
    tell_written =
        let e : text₂ ≡ splice 0 whole text = e₂ ∙ rw e₁ digits in
        let l : length (splice 0 whole text) ≡ length text = length_splice 0 whole text (omega (arith, length_whole)) in
        rw e (set_splice (6 + 2 * length handed) 0x0A (splice 0 whole text) (omega arith)
        ∙ front_at (6 + 2 * length handed) whole (0x0A ∷ []) text length_whole)

    pub tell_length : length (set text₂ (6 + 2 * length handed) 0x0A) ≡ length text
    tell_length = rw tell_written length_answered

  -- what its caller reads of it
  pub told_length : (n : ℕ) → n ≡ 7 + 2 * length handed → n ≡ length (answer_text answer handed)
  told_length n e = e ∙ sym (length_answer answer handed)

-- ---- FF and its line feed
pub bad_written : (text : List ℕ) → 3 ≤ length text → set (set (set text 0 0x46) 1 0x46) 2 0x0A ≡ splice 0 bad_text text
unfolding splice
bad_written [] h = absurd (omega arith)
bad_written (x ∷ []) h = absurd (omega arith)
bad_written (x ∷ y ∷ []) h = absurd (omega arith)
bad_written (x ∷ y ∷ z ∷ text) h = refl

-- ---- a text that stands at the front
module _ (said before text : List ℕ) (n : ℕ) (e : n ≡ length said) (is : text ≡ splice 0 said before) where
  pub front_taken : take n text ≡ said
  front_taken = rw is (take_front n said before (sym e))

  pub front_fits : n ≤ length text
  unfolding splice
  front_fits =
      let l : length text ≡ length said + length (drop (0 + length said) before) = ap length is ∙ length-append said (drop (0 + length said) before) in
      omega arith
