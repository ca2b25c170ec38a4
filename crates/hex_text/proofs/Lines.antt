-- A line read one character at a time is what its text decodes to.
use Prim.Native.Nat.{ℕ, ◌+◌, ◌-◌, ◌*◌, ◌≤◌, ◌<◌}
use mathlib.Core.Path.{◌≡◌, refl, sym, ap, ◌∙◌}
use mathlib.Core.Bool.{true, false}
use mathlib.Core.Option.{Option, none, some}
use mathlib.Core.List.{List, [], ◌∷◌, ◌++◌, append-nil}
use native.Mathlib.Omega.{arith}
use native.Mathlib.Decide.{dec_lt}
use native.Mathlib.Nat.{sub-zero}
use native.Mathlib.Numerals.{add-one}
use lib.ListN.{length, take, set, length-set}
use lib.Seq.{take-suc-set, append_snoc}
use borrow.Author.Tests.{le-leb, lt-leb}
use Rattle.std.specs.Prelude.{Some, None}
use Rattle.std.specs.Prelude as std
use Rattle.base.specs.Pick.{pick}
use Rattle.hex_text.specs.declared.line.Line.{Line}
use Rattle.hex_text.specs.Hex.{value_of, before, digits_before, decoded}
use Rattle.hex_text.specs.Line.{Reading, line_now, started, spoilt_line, accepted, accepted_all, whole_of, within, line_of}
use Rattle.hex_text.proofs.Characters.{taken_first, taken_full, taken_byte, accepted_bad, accepted_none, accepted_digit}

-- whole bytes so far, and a first digit behind them
abbrev ready : ℕ → Line
ready k = record { count = k; high = None; bad = false }

abbrev waiting : ℕ → ℕ → Line
waiting k v = record { count = k; high = Some v; bad = false }

-- ---- one character from each of the two
module _ (k : ℕ) (bytes : List ℕ) where
  ready_digit : (c v : ℕ) → value_of c ≡ Some v → accepted (line_now (ready k) bytes) c ≡ line_now (waiting k v) bytes
  ready_digit c v h = sym (taken_first (ready k) bytes v refl ∙ accepted_digit (ready k) bytes c refl v h)

  module _ (high d v : ℕ) (h : value_of d ≡ Some v) where
    waiting_byte : k < length bytes → accepted (line_now (waiting k high) bytes) d ≡ line_now (ready (k + 1)) (set bytes k (high * 16 + v))
    waiting_byte l = sym (taken_byte (waiting k high) bytes v high refl l ∙ accepted_digit (waiting k high) bytes d refl v h)

    waiting_full : length bytes ≤ k → accepted (line_now (waiting k high) bytes) d ≡ line_now (spoilt_line (waiting k high)) bytes
    waiting_full l = sym (taken_full (waiting k high) bytes v high refl l ∙ accepted_digit (waiting k high) bytes d refl v h)

-- ---- reading on from a state
read_on : (x y : Reading) (c : ℕ) (text : List ℕ) → accepted x c ≡ y → whole_of (accepted_all x (c ∷ text)) ≡ whole_of (accepted_all y text)
unfolding accepted_all
read_on x y c text e = ap (λ (z : Reading). whole_of (accepted_all z text)) e

bad_stays : (line : Line) (bytes text : List ℕ) → line.bad ≡ true → whole_of (accepted_all (line_now line bytes) text) ≡ none
unfolding accepted_all whole_of pick
bad_stays line bytes [] e = rw e
bad_stays line bytes (c ∷ text) e = read_on _ _ c text (sym (accepted_bad line bytes c e)) ∙ bad_stays line bytes text e

spoilt_stays : (line : Line) (bytes text : List ℕ) → whole_of (accepted_all (line_now (spoilt_line line) bytes) text) ≡ none
unfolding spoilt_line
spoilt_stays line bytes text = bad_stays (spoilt_line line) bytes text refl

no_digit : (line : Line) (bytes : List ℕ) (c : ℕ) (text : List ℕ) → line.bad ≡ false → value_of c ≡ None
    → whole_of (accepted_all (line_now line bytes) (c ∷ text)) ≡ none
no_digit line bytes c text e h = read_on _ _ c text (sym (accepted_none line bytes c e h)) ∙ spoilt_stays line bytes text

-- ---- what is decoded
-- two characters that are digits, and then the rest
two_digits : (c d : ℕ) (text : List ℕ) (high low : ℕ) → value_of c ≡ Some high → value_of d ≡ Some low
    → decoded (c ∷ d ∷ text) ≡ before (high * 16 + low) (decoded text)
unfolding decoded digits_before
two_digits c d text high low h k = rw (h, k)

first_none : (c d : ℕ) (text : List ℕ) → value_of c ≡ None → decoded (c ∷ d ∷ text) ≡ none
unfolding decoded digits_before
first_none c d text e = rw e

second_none : (c d : ℕ) (text : List ℕ) (high : ℕ) → value_of c ≡ Some high → value_of d ≡ None → decoded (c ∷ d ∷ text) ≡ none
unfolding decoded digits_before
second_none c d text high h e = rw (h, e)

within_fits : (room : ℕ) (bytes : List ℕ) → length bytes ≤ room → within room (some bytes) ≡ some bytes
unfolding within pick
within_fits room bytes h = rw (le-leb (length bytes) room h)

within_over : (room : ℕ) (bytes : List ℕ) → room < length bytes → within room (some bytes) ≡ none
unfolding within pick
within_over room bytes h = rw (lt-leb (length bytes) room h)

-- ---- what the rest makes of the bytes so far
unfoldable joined : List ℕ → Option (List ℕ) → Option (List ℕ)
joined done none = none
joined done (some rest) = some (done ++ rest)

joined_nil : (o : Option (List ℕ)) → joined [] o ≡ o
unfolding joined
joined_nil none = refl
joined_nil (some rest) = refl

-- one byte more, where there is room for it and where there is none
more_some : (done : List ℕ) (b room : ℕ) (rest : List ℕ) → Dec (room < length rest)
    → joined (done ++ (b ∷ [])) (within room (some rest)) ≡ joined done (within (room + 1) (some (b ∷ rest)))
unfolding joined
more_some done b room rest (yes l) = rw (within_over room rest l, within_over (room + 1) (b ∷ rest) (omega arith))
more_some done b room rest (no l) =
    rw (within_fits room rest (omega arith), within_fits (room + 1) (b ∷ rest) (omega arith)) (ap some (append_snoc done b rest))

joined_more : (done : List ℕ) (b room : ℕ) (o : Option (List ℕ))
    → joined (done ++ (b ∷ [])) (within room o) ≡ joined done (within (room + 1) (before b o))
unfolding joined within before
joined_more done b room none = refl
joined_more done b room (some rest) = more_some done b room rest (dec_lt room (length rest))

full_none : (b : ℕ) (o : Option (List ℕ)) → within 0 (before b o) ≡ none
unfolding within before
full_none b none = refl
full_none b (some rest) = within_over 0 (b ∷ rest) (omega arith)

-- ---- the line from any number of whole bytes on
module _ (k : ℕ) (bytes : List ℕ) where
  Read : (text : List ℕ) → Type 0
  Read text = whole_of (accepted_all (line_now (ready k) bytes) text) ≡ joined (take k bytes) (within (length bytes - k) (decoded text))

  both_none : (text : List ℕ) → whole_of (accepted_all (line_now (ready k) bytes) text) ≡ none → decoded text ≡ none → Read text
  unfolding Read joined within
  both_none text e z = e ∙ rw z

  read_end : Read []
  unfolding Read decoded accepted_all whole_of joined pick
  read_end = rw (within_fits (length bytes - k) [] (omega arith)) (ap some (sym (append-nil (take k bytes))))

  half_none : (v : ℕ) → whole_of (accepted_all (line_now (waiting k v) bytes) []) ≡ none
  unfolding accepted_all whole_of pick
  half_none v = refl

  read_one : (c : ℕ) (value : std.Option ℕ) → value_of c ≡ value → Read (c ∷ [])
  unfolding decoded
  read_one c (Some v) e = both_none (c ∷ []) (read_on _ _ c [] (ready_digit k bytes c v e) ∙ half_none v) refl
  read_one c None e = both_none (c ∷ []) (no_digit (ready k) bytes c [] refl e) refl

-- a byte more
module _ (k : ℕ) (bytes : List ℕ) (c d : ℕ) (text : List ℕ) where
  -- the rest stands behind one byte more
  byte_joined : (byte : ℕ) → k < length bytes
      → joined (take (k + 1) (set bytes k byte)) (within (length (set bytes k byte) - (k + 1)) (decoded text))
      ≡ joined (take k bytes) (within (length bytes - k) (before byte (decoded text)))
  byte_joined byte l =
      let n : length bytes - (k + 1) + 1 ≡ length bytes - k = omega arith in
      let m : length (set bytes k byte) - (k + 1) ≡ length bytes - (k + 1) = ap (λ (i : ℕ). i - (k + 1)) (length-set bytes k byte) in
      let t : take (k + 1) (set bytes k byte) ≡ take k bytes ++ (byte ∷ []) = rw add-one (take-suc-set bytes k byte l) in
      rw (t, m) (joined_more (take k bytes) byte (length bytes - (k + 1)) (decoded text) ∙ rw n)

  first : (high : ℕ) → value_of c ≡ Some high
      → whole_of (accepted_all (line_now (ready k) bytes) (c ∷ d ∷ text)) ≡ whole_of (accepted_all (line_now (waiting k high) bytes) (d ∷ text))
  first high h = read_on _ _ c (d ∷ text) (ready_digit k bytes c high h)

  module _ (ih : (after : List ℕ) → Read (k + 1) after text) where
    read_two : (high low : ℕ) → value_of c ≡ Some high → value_of d ≡ Some low → Dec (k < length bytes) → Read k bytes (c ∷ d ∷ text)
    unfolding Read joined
    read_two high low h h' (yes l) =
        first high h ∙ read_on _ _ d text (waiting_byte k bytes high d low h' l) ∙ ih (set bytes k (high * 16 + low))
        ∙ rw (two_digits c d text high low h h') (byte_joined (high * 16 + low) l)
    read_two high low h h' (no l) =
        let z : length bytes - k ≡ 0 = omega arith in
        first high h ∙ read_on _ _ d text (waiting_full k bytes high d low h' (omega arith)) ∙ spoilt_stays (waiting k high) bytes text
        ∙ rw (two_digits c d text high low h h', z, full_none (high * 16 + low) (decoded text))

    -- two characters, digits or not
    read_pair : (high low : std.Option ℕ) → value_of c ≡ high → value_of d ≡ low → Read k bytes (c ∷ d ∷ text)
    read_pair None low h h' = both_none k bytes (c ∷ d ∷ text) (no_digit (ready k) bytes c (d ∷ text) refl h) (first_none c d text h)
    read_pair (Some high) None h h' =
        both_none k bytes (c ∷ d ∷ text) (first high h ∙ no_digit (waiting k high) bytes d text refl h') (second_none c d text high h h')
    read_pair (Some high) (Some low) h h' = read_two high low h h' (dec_lt k (length bytes))

ready_read : (text : List ℕ) (k : ℕ) (bytes : List ℕ) → Read k bytes text
ready_read [] k bytes = read_end k bytes
ready_read (c ∷ []) k bytes = read_one k bytes c (value_of c) refl
ready_read (c ∷ d ∷ text) k bytes = read_pair k bytes c d text (λ after. ready_read text (k + 1) after) (value_of c) (value_of d) refl refl

pub line_read : (text bytes : List ℕ) → whole_of (accepted_all (line_now started bytes) text) ≡ line_of (length bytes) text
unfolding line_of Read
line_read text bytes = ready_read text 0 bytes ∙ joined_nil _ ∙ rw sub-zero
