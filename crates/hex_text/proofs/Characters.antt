-- Laws of one character of a line: what it makes of the line, case by case; and whether a line is begun.
use Prim.Native.Nat.{ℕ, ◌+◌, ◌*◌, ◌≤◌, ◌<◌}
use mathlib.Core.Path.{◌≡◌, refl, sym, ap, ◌∙◌}
use mathlib.Core.Bool.{Bool, true, false}
use mathlib.Core.List.{List}
use lib.ListN.{length, set}
use lib.Dec.{ltb}
use borrow.Author.Tests.{lt-ltb, le-ltb}
use Rattle.std.specs.Prelude.{Option, Some, None}
use Rattle.base.specs.Pick.{pick}
use Rattle.hex_text.specs.declared.line.Line.{Line}
use Rattle.hex_text.specs.Hex.{value_of}
use Rattle.hex_text.specs.Line.{Reading, line_now, spoilt_line, spoilt, taken_behind, taken_in, accepted_as, accepted}
use Rattle.hex_text.proofs.Digits.{IsDigit, value_small}

module _ (line : Line) (bytes : List ℕ) (v : ℕ) where
  -- a first digit
  pub taken_first : line.high ≡ None → line_now (record { count = line.count; high = Some v; bad = false }) bytes ≡ taken_in (line_now line bytes) v
  unfolding taken_in taken_behind
  taken_first e = rw e

  module _ (high : ℕ) (e : line.high ≡ Some high) where
    -- a second one for which there is no room
    pub taken_full : length bytes ≤ line.count → line_now (spoilt_line line) bytes ≡ taken_in (line_now line bytes) v
    unfolding taken_in taken_behind spoilt pick
    taken_full h = rw (e, le-ltb line.count (length bytes) h)

    -- a second one
    pub taken_byte : line.count < length bytes
        → line_now (record { count = line.count + 1; high = None; bad = false }) (set bytes line.count (high * 16 + v)) ≡ taken_in (line_now line bytes) v
    unfolding taken_in taken_behind pick
    taken_byte h = rw (e, lt-ltb line.count (length bytes) h)

-- the digit that waits stays a digit
behind_digit : (high : Option ℕ) (x : Reading) (v : ℕ) (room : Bool) → ltb x.line.count (length x.bytes) ≡ room
    → IsDigit x.line.high → v < 16 → IsDigit (taken_behind high x v).line.high
unfolding taken_behind spoilt spoilt_line pick
behind_digit None x v room r h k = k
behind_digit (Some high) x v true r h k = rw r tt
behind_digit (Some high) x v false r h k = rw r h

taken_digit : (x : Reading) (v : ℕ) → IsDigit x.line.high → v < 16 → IsDigit (taken_in x v).line.high
unfolding taken_in
taken_digit x v = behind_digit x.line.high x v _ refl

module _ (line : Line) (bytes : List ℕ) (c : ℕ) where
  pub accepted_bad : line.bad ≡ true → line_now line bytes ≡ accepted (line_now line bytes) c
  unfolding accepted pick
  accepted_bad e = rw e

  module _ (good : line.bad ≡ false) where
    pub accepted_none : value_of c ≡ None → line_now (spoilt_line line) bytes ≡ accepted (line_now line bytes) c
    unfolding accepted accepted_as spoilt pick
    accepted_none h = rw (good, h)

    pub accepted_digit : (v : ℕ) → value_of c ≡ Some v → taken_in (line_now line bytes) v ≡ accepted (line_now line bytes) c
    unfolding accepted accepted_as pick
    accepted_digit v h = rw (good, h)

-- ---- what the functions say of their ways
module _ (line r : Line) (bytes : List ℕ) (c : ℕ) (good : line.bad ≡ false) (digit : IsDigit line.high) where
  pub accept_none : None ≡ value_of c → r ≡ spoilt_line line → (line_now r bytes ≡ accepted (line_now line bytes) c) × IsDigit r.high
  unfolding spoilt_line
  accept_none h e =
      let s : line_now r bytes ≡ line_now (spoilt_line line) bytes = ap (λ (l : Line). line_now l bytes) e in
      (s ∙ accepted_none line bytes c good (sym h), rw e digit)

  pub accept_digit : (v : ℕ) (after : List ℕ) → Some v ≡ value_of c → line_now r after ≡ taken_in (line_now line bytes) v
      → (line_now r after ≡ accepted (line_now line bytes) c) × IsDigit r.high
  accept_digit v after h e = (
    e ∙ accepted_digit line bytes c good v (sym h),
    rw (ap (λ (x : Reading). x.line.high) e) (taken_digit (line_now line bytes) v digit (value_small c v (sym h))),
  )

pub ruleset takes = (taken_first, taken_full, taken_byte)

pub ruleset accepts = (accepted_bad, value_small)
