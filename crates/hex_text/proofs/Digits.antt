-- Laws of one digit: what each range of characters means, and which values there are.
use Prim.Native.Nat.{ℕ, ◌+◌, ◌-◌, ◌≤◌, ◌<◌}
use mathlib.Core.Path.{◌≡◌, refl, ap}
use mathlib.Core.Bool.{Bool, true, false, ◌&&◌, false≢true}
use native.Mathlib.Omega.{arith}
use lib.Dec.{leb}
use Rattle.std.specs.Prelude.{Option, Some, None, IfSome}
use borrow.Author.Tests.{le-leb, lt-leb, lt-ltb, le-ltb, leb-true}
use Rattle.base.specs.Pick.{pick}
use Rattle.hex_text.specs.Hex.{value_of, digit_for}

-- ---- a character lies in a range, under it or over it
module _ (a b c : ℕ) where
  between : a ≤ c → c ≤ b → (leb a c && leb c b) ≡ true
  between h k = rw (le-leb a c h, le-leb c b k)

  under : c < a → (leb a c && leb c b) ≡ false
  under h = rw (lt-leb a c h)

  over : b < c → a ≤ c → (leb a c && leb c b) ≡ false
  over h k = rw (le-leb a c k, lt-leb c b h)

-- ---- the value of a character by where it lies
module _ (c : ℕ) where
  pub value_decimal : 0x30 ≤ c → c ≤ 0x39 → Some (c - 0x30) ≡ value_of c
  unfolding value_of pick
  value_decimal h k = rw (between 0x30 0x39 c h k)

  pub value_upper : 0x41 ≤ c → c ≤ 0x46 → Some (c - 0x41 + 10) ≡ value_of c
  unfolding value_of pick
  value_upper h k = rw (over 0x30 0x39 c (omega arith) (omega arith), between 0x41 0x46 c h k) (ap Some (omega arith))

  pub value_lower : 0x61 ≤ c → c ≤ 0x66 → Some (c - 0x61 + 10) ≡ value_of c
  unfolding value_of pick
  value_lower h k =
      rw (over 0x30 0x39 c (omega arith) (omega arith), over 0x41 0x46 c (omega arith) (omega arith), between 0x61 0x66 c h k) (ap Some (omega arith))

  -- no digit: before the decimals, between them and the capitals, between the capitals and the small letters, behind those
  pub value_below : c < 0x30 → None ≡ value_of c
  unfolding value_of pick
  value_below h = rw (under 0x30 0x39 c h, under 0x41 0x46 c (omega arith), under 0x61 0x66 c (omega arith))

  pub value_past_decimal : 0x39 < c → c < 0x41 → None ≡ value_of c
  unfolding value_of pick
  value_past_decimal h k = rw (over 0x30 0x39 c h (omega arith), under 0x41 0x46 c k, under 0x61 0x66 c (omega arith))

  pub value_past_upper : 0x46 < c → c < 0x61 → None ≡ value_of c
  unfolding value_of pick
  value_past_upper h k = rw (over 0x30 0x39 c (omega arith) (omega arith), over 0x41 0x46 c h (omega arith), under 0x61 0x66 c k)

  pub value_past_lower : 0x66 < c → None ≡ value_of c
  unfolding value_of pick
  value_past_lower h =
      rw (over 0x30 0x39 c (omega arith) (omega arith), over 0x41 0x46 c (omega arith) (omega arith), over 0x61 0x66 c h (omega arith))

pub ruleset values = (value_decimal, value_upper, value_lower, value_below, value_past_decimal, value_past_upper, value_past_lower)

-- ---- every value is below 16
in_range : (a b c : ℕ) → (leb a c && leb c b) ≡ true → (a ≤ c) × (c ≤ b)
in_range a b c e = go (leb a c) (leb c b) refl refl e where
  go : (s t : Bool) → leb a c ≡ s → leb c b ≡ t → (s && t) ≡ true → (a ≤ c) × (c ≤ b)
  go true true p q e = (leb-true a c p, leb-true c b q)
  go true false p q e = absurd (false≢true e)
  go false t p q e = absurd (false≢true e)

-- a digit's value, if there is one
abbrev pub IsDigit : Option ℕ → Type 0
IsDigit value = IfSome value (λ v. v < 16)

pick_digit : (t : Bool) (x : ℕ) (y : Option ℕ) → (t ≡ true → x < 16) → IsDigit y → IsDigit (pick t (Some x) y)
unfolding pick
pick_digit true x y h k = h refl
pick_digit false x y h k = k

pub value_digit : (c : ℕ) → IsDigit (value_of c)
unfolding value_of
value_digit c =
    pick_digit _ _ _ (λ e. let p = in_range 0x30 0x39 c e in omega arith)
    (pick_digit _ _ _ (λ e. let p = in_range 0x41 0x46 c e in omega arith)
    (pick_digit _ _ _ (λ e. let p = in_range 0x61 0x66 c e in omega arith) tt))

pub value_small : (c v : ℕ) → value_of c ≡ Some v → v < 16
value_small c v e = rw e at (value_digit c)

-- ---- the character of a value
pub digit_decimal : (v : ℕ) → v < 10 → 0x30 + v ≡ digit_for v
unfolding digit_for pick
digit_decimal v h = rw (lt-ltb v 10 h) (omega arith)

pub digit_letter : (v : ℕ) → 10 ≤ v → 0x41 + (v - 10) ≡ digit_for v
unfolding digit_for pick
digit_letter v h = rw (le-ltb v 10 h) (omega arith)

pub ruleset digits = (digit_decimal, digit_letter)
