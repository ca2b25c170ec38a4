-- What holds of a line after each character: its bytes stay in their slice, and the digit that waits is one.
use Prim.Native.Nat.{ℕ, suc, ◌+◌, ◌*◌, ◌≤◌, ◌<◌}
use mathlib.Core.Path.{◌≡◌, refl, ap, ◌∙◌}
use mathlib.Core.Bool.{Bool, true, false}
use mathlib.Core.List.{List, [], ◌∷◌, ◌++◌}
use native.Mathlib.Omega.{arith}
use native.Mathlib.Numerals.{add-one}
use lib.ListN.{length, drop, get_or, set, length-set, drop_of_length-le}
use lib.Seq.{drop-cons}
use lib.Dec.{ltb}
use borrow.Author.Tests.{ltb-true}
use Rattle.std.specs.Prelude.{Option, Some, None}
use Rattle.base.specs.Pick.{pick}
use Rattle.hex_text.specs.Hex.{value_of}
use Rattle.hex_text.specs.Line.{Reading, line_now, spoilt_line, spoilt, taken_behind, taken_in, accepted_as, accepted, accepted_all}
use Rattle.hex_text.proofs.Digits.{IsDigit, value_digit}

-- what holds whatever the test says, each way with what the test has shown
pick_by {ℓ} : {A : Type ℓ} (P : A → Type 0) (t : Bool) (x y : A) → (t ≡ true → P x) → (t ≡ false → P y) → P (pick t x y)
unfolding pick
pick_by P true x y hx hy = hx refl
pick_by P false x y hx hy = hy refl

-- ---- the four ways of a character: the line is bad, it becomes bad, a first digit waits, a byte is whole
module _ (P : Reading → Type 0) (x : Reading) (spoils : P (spoilt x))
    (first : (v : ℕ) → v < 16 → P (line_now (record { count = x.line.count; high = Some v; bad = false }) x.bytes))
    (second : (high v : ℕ) → x.line.count < length x.bytes
    → P (line_now (record { count = x.line.count + 1; high = None; bad = false }) (set x.bytes x.line.count (high * 16 + v)))) where
  by_high : (high : Option ℕ) (v : ℕ) → v < 16 → P (taken_behind high x v)
  unfolding taken_behind
  by_high None v h = first v h
  by_high (Some high) v h = pick_by P (ltb x.line.count (length x.bytes)) _ _ (λ room. second high v (ltb-true _ _ room)) (λ _. spoils)

  by_value : (value : Option ℕ) → IsDigit value → P (accepted_as value x)
  unfolding accepted_as taken_in
  by_value None h = spoils
  by_value (Some v) h = by_high x.line.high v h

pub accepted_by : (P : Reading → Type 0) (x : Reading) (c : ℕ)
    → (x.line.bad ≡ true → P x)
    → P (spoilt x)
    → ((v : ℕ) → v < 16 → P (line_now (record { count = x.line.count; high = Some v; bad = false }) x.bytes))
    → ((high v : ℕ) → x.line.count < length x.bytes
    → P (line_now (record { count = x.line.count + 1; high = None; bad = false }) (set x.bytes x.line.count (high * 16 + v))))
    → P (accepted x c)
unfolding accepted
accepted_by P x c bad spoils first second = pick_by P x.line.bad _ _ bad (λ _. by_value P x spoils first second (value_of c) (value_digit c))

pub accepted_room : (x : Reading) (c : ℕ) → x.line.count ≤ length x.bytes → (accepted x c).line.count ≤ length (accepted x c).bytes
unfolding spoilt spoilt_line
accepted_room x c h =
    accepted_by (λ y. y.line.count ≤ length y.bytes) x c (λ _. h) h (λ _ _. h)
    (λ high v room. omega (arith, length-set x.bytes x.line.count (high * 16 + v)))

pub accepted_high : (x : Reading) (c : ℕ) → IsDigit x.line.high → IsDigit (accepted x c).line.high
unfolding spoilt spoilt_line
accepted_high x c h = accepted_by (λ y. IsDigit y.line.high) x c (λ _. h) h (λ v digit. digit) (λ _ _ _. tt)

pub accepted_length : (x : Reading) (c : ℕ) → length (accepted x c).bytes ≡ length x.bytes
unfolding spoilt spoilt_line
accepted_length x c =
    accepted_by (λ y. length y.bytes ≡ length x.bytes) x c (λ _. refl) refl (λ _ _. refl)
    (λ high v _. length-set x.bytes x.line.count (high * 16 + v))

-- ---- characters one after the other
pub all_length : (x : Reading) (text : List ℕ) → length (accepted_all x text).bytes ≡ length x.bytes
unfolding accepted_all
all_length x [] = refl
all_length x (c ∷ text) = all_length (accepted x c) text ∙ accepted_length x c

pub all_room : (x : Reading) (text : List ℕ) → x.line.count ≤ length x.bytes
    → (accepted_all x text).line.count ≤ length (accepted_all x text).bytes
unfolding accepted_all
all_room x [] h = h
all_room x (c ∷ text) h = all_room (accepted x c) text (accepted_room x c h)

pub all_append : (x : Reading) (text more : List ℕ) → accepted_all x (text ++ more) ≡ accepted_all (accepted_all x text) more
unfolding accepted_all
all_append x [] more = refl
all_append x (c ∷ text) more = all_append (accepted x c) text more

-- ---- the loop: what is left, taken in from here, makes the whole
pub record Taken (x₀ : Reading) (text : List ℕ) (x : Reading) (i : ℕ) : Type 0 where
  pub most : i ≤ length text
  pub small : IsDigit x.line.high
  pub same : length x.bytes ≡ length x₀.bytes
  pub rest : accepted_all x (drop i text) ≡ accepted_all x₀ text

module _ (x₀ : Reading) (text : List ℕ) where
  pub taken_none : IsDigit x₀.line.high → Taken x₀ text x₀ 0
  taken_none h = record { most = omega arith; small = h; same = refl; rest = refl }

  module _ (x : Reading) (i : ℕ) (t : Taken x₀ text x i) where
    pub taken_all : length text ≤ i → (x ≡ accepted_all x₀ text) × IsDigit x.line.high
    unfolding accepted_all
    taken_all h = ((rw (drop_of_length-le text {i = i} h) at t.rest), t.small)

    pub taken_more : (y : Reading) → i < length text → (y ≡ accepted x (get_or text i 0)) × IsDigit y.line.high → Taken x₀ text y (i + 1)
    unfolding accepted_all
    taken_more y h e =
        let next : drop i text ≡ get_or text i 0 ∷ drop (suc i) text = drop-cons text i 0 h in
        record {
          most = omega arith;
          small = e.1;
          same = ap (λ (z : Reading). length z.bytes) e.0 ∙ accepted_length x (get_or text i 0) ∙ t.same;
          rest = rw (add-one i) (ap (λ (z : Reading). accepted_all z (drop (suc i) text)) e.0 ∙ (rw next at t.rest));
        }
