-- Laws of `one_byte`, and of the loop that looks for it.
use mathlib.Core.Path.{◌≡◌, refl, sym, ap, ◌∙◌}
use mathlib.Core.Bool.{Bool, true, false, not, ◌&&◌, and-true, and_comm, false≢true}
use mathlib.Core.List.{List, [], ◌∷◌}
use Prim.Native.Nat.{ℕ, zero, suc, ◌+◌, ◌≤◌, ◌<◌}
use native.Mathlib.Nat.{le_of_suc-le-suc, not-suc-le-zero}
use native.Mathlib.Numerals.{add-one}
use native.Mathlib.Omega.{arith}
use lib.ListN.{length, take, get_or, replicate}
use lib.Seq.{take_all}
use lib.Dec.{eqb}
use borrow.Author.Tests.{eq-eqb, ne_eqb}
use Rattle.base.specs.Same.{same_bytes, one_byte}
use Rattle.base.proofs.Sames.{same_eq}

swap : (a b c : Bool) → (a && (b && c)) ≡ (b && (a && c))
swap true b c = refl
swap false true c = refl
swap false false c = refl

-- i bytes are `b`, and one more
same_suc : (bytes : List ℕ) (b i : ℕ) → i < length bytes
    → same_bytes (take (suc i) bytes) (replicate (suc i) b) ≡ (eqb (get_or bytes i 0) b && same_bytes (take i bytes) (replicate i b))
unfolding same_bytes
same_suc [] b i h = absurd (not-suc-le-zero h)
same_suc (x ∷ xs) b zero h = refl
same_suc (x ∷ xs) b (suc i) h = ap (λ (r : Bool). eqb x b && r) (same_suc xs b i (le_of_suc-le-suc h)) ∙ swap (eqb x b) (eqb (get_or xs i 0) b) (same_bytes (take i xs) (replicate i b))

-- there are bytes, and they are all the first
all_first : (bytes : List ℕ) → one_byte bytes ≡ (not (eqb (length bytes) 0) && same_bytes bytes (replicate (length bytes) (get_or bytes 0 0)))
unfolding one_byte same_bytes
all_first [] = refl
all_first (b ∷ bytes) = rw (ne_eqb (suc (length bytes)) 0 (λ e. omega arith), eq-eqb b b refl)

pub one_some : (bytes : List ℕ) → one_byte bytes ≡ true → 0 < length bytes
unfolding one_byte
one_some [] e = absurd (false≢true e)
one_some (b ∷ bytes) e = omega arith

pub one_is : (bytes : List ℕ) → one_byte bytes ≡ true → replicate (length bytes) (get_or bytes 0 0) ≡ bytes
unfolding one_byte
one_is [] e = refl
one_is (b ∷ bytes) e = ap (λ (l : List ℕ). b ∷ l) (sym (same_eq bytes (replicate (length bytes) b) e))

-- ---- the loop
pub record Seen (bytes : List ℕ) (i : ℕ) (same : Bool) : Type 0 where
  pub most : i ≤ length bytes
  pub is : same ≡ (not (eqb (length bytes) 0) && same_bytes (take i bytes) (replicate i (get_or bytes 0 0)))

module _ (bytes : List ℕ) where
  pub seen_none : Seen bytes 0 (not (eqb (length bytes) 0))
  unfolding same_bytes
  seen_none = record { most = omega arith; is = sym (and-true (not (eqb (length bytes) 0))) }

  module _ (i : ℕ) (same : Bool) (s : Seen bytes i same) where
    pub seen_more : i < length bytes → Seen bytes (i + 1) (same && eqb (get_or bytes i 0) (get_or bytes 0 0))
    seen_more h =
        let b : ℕ = get_or bytes 0 0 in
        let some : Bool = not (eqb (length bytes) 0) in
        let back : (eqb (get_or bytes i 0) b && (some && same_bytes (take i bytes) (replicate i b))) ≡ (some && same_bytes (take (suc i) bytes) (replicate (suc i) b)) =
        swap (eqb (get_or bytes i 0) b) some (same_bytes (take i bytes) (replicate i b)) ∙ ap (λ (r : Bool). some && r) (sym (same_suc bytes b i h)) in
        record { most = omega arith; is = and_comm same _ ∙ ap (λ (r : Bool). eqb (get_or bytes i 0) b && r) s.is ∙ rw add-one back }

    pub seen_all : length bytes ≤ i → same ≡ one_byte bytes
    seen_all h =
        let n : i ≡ length bytes = omega (arith, s.most) in
        s.is ∙ rw (n, take_all (length bytes) bytes (omega arith)) (sym (all_first bytes))

pub ruleset seen = (seen_none, seen_more, seen_all)
