-- Laws of the loop that writes digits.
use Prim.Native.Nat.{ℕ, suc, ◌+◌, ◌*◌, ◌/◌, ◌%◌, ◌≤◌, ◌<◌}
use mathlib.Core.Path.{◌≡◌, refl, sym, ◌∙◌}
use mathlib.Core.List.{List, [], ◌∷◌, ◌++◌}
use native.Mathlib.Omega.{arith}
use native.Mathlib.Nat.{add-zero}
use native.Mathlib.Numerals.{add-one}
use lib.ListN.{length, take, drop, get_or, set, length-set, take-append-drop, drop_of_length-le}
use lib.Seq.{drop-cons, take-suc-set, drop-set-lt, append_snoc}
use Rattle.base.specs.Part.{splice}
use Rattle.hex_text.specs.Hex.{digit_for, encoded}

-- ---- one element stored is the first of those that are put there
put_nil : (to : ℕ) (text : List ℕ) → splice to [] text ≡ text
unfolding splice
put_nil to text = rw add-zero (take-append-drop to text)

put_one : (to x : ℕ) (ys text : List ℕ) → to < length text → splice (to + 1) ys (set text to x) ≡ splice to (x ∷ ys) text
unfolding splice
put_one to x ys text h =
    let n : to + 1 + length ys ≡ to + suc (length ys) = omega arith in
    rw (n, drop-set-lt (to + suc (length ys)) text to x (omega arith), add-one, take-suc-set text to x h)
    (append_snoc (take to text) x (ys ++ drop (to + suc (length ys)) text))

put_two : (to x y : ℕ) (ys text : List ℕ) → to + 1 < length text → splice (to + 2) ys (set (set text to x) (to + 1) y) ≡ splice to (x ∷ y ∷ ys) text
put_two to x y ys text h =
    let n : to + 2 ≡ to + 1 + 1 = omega arith in
    let l : length (set text to x) ≡ length text = length-set text to x in
    rw n (put_one (to + 1) y ys (set text to x) (omega arith) ∙ put_one to x (y ∷ ys) text (omega arith))

-- ---- the loop: what is left, written from here, makes the whole
pub record Written (text₀ : List ℕ) (at : ℕ) (bytes text : List ℕ) (i : ℕ) : Type 0 where
  pub most : i ≤ length bytes
  pub same : length text ≡ length text₀
  pub rest : splice (at + 2 * i) (encoded (drop i bytes)) text ≡ splice at (encoded bytes) text₀

module _ (text₀ : List ℕ) (at : ℕ) (bytes : List ℕ) where
  pub written_none : Written text₀ at bytes text₀ 0
  written_none = let z : at + 2 * 0 ≡ at = omega arith in record { most = omega arith; same = refl; rest = rw z }

  module _ (text : List ℕ) (i : ℕ) (w : Written text₀ at bytes text i) where
    pub written_all : length bytes ≤ i → text ≡ splice at (encoded bytes) text₀
    unfolding encoded
    written_all h = sym (put_nil (at + 2 * i) text) ∙ (rw (drop_of_length-le bytes {i = i} h) at w.rest)

    pub written_more : (high low : ℕ) → at + 2 * length bytes ≤ length text₀ → i < length bytes
        → high ≡ digit_for (get_or bytes i 0 / 16) → low ≡ digit_for (get_or bytes i 0 % 16)
        → Written text₀ at bytes (set (set text (at + 2 * i) high) (at + 2 * i + 1) low) (i + 1)
    unfolding encoded
    written_more high low room h p q =
        let l : at + 2 * i + 1 < length text = omega (arith, w.same) in
        let n : at + 2 * (i + 1) ≡ at + 2 * i + 2 = omega arith in
        let next : drop i bytes ≡ get_or bytes i 0 ∷ drop (suc i) bytes = drop-cons bytes i 0 h in
        record {
          most = omega arith;
          same = simp length-set w.same;
          rest = rw (n, add-one i) (put_two (at + 2 * i) high low (encoded (drop (suc i) bytes)) text l ∙ rw (p, q) (rw next at w.rest));
        }
