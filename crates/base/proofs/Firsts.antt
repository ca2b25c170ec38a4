-- Laws of the first number that passes a test.
use mathlib.Core.Path.{◌≡◌, refl, sym, ap, ◌∙◌}
use mathlib.Core.Bool.{Bool, true, false, not, true≢false}
use mathlib.Core.Option.{Option, none, some}
use Prim.Native.Nat.{ℕ, zero, suc, ◌+◌, ◌-◌, ◌≤◌, ◌<◌}
use native.Mathlib.Omega.{arith}
use native.Mathlib.Nat.{sub-zero}
use native.Mathlib.Numerals.{add-one}
use native.Mathlib.Decide.{ℕ_discrete}
use Rattle.base.specs.Pick.{pick}
use Rattle.base.specs.First.{first_from, first_below, is_some, some_below, every_below}
use Rattle.base.proofs.Bools.{not-false, not-true}

-- ---- a loop that looks for the first: what is left, looked at from k on, gives what the whole gives
pub record Sought (test : ℕ → Bool) (n k : ℕ) : Type 0 where
  pub most : k ≤ n
  pub rest : first_from test k (n - k) ≡ first_below test n

module _ (test : ℕ → Bool) (n : ℕ) where
  pub sought_none : Sought test n 0
  unfolding first_below
  sought_none = record { most = omega arith; rest = rw sub-zero }

  module _ (k : ℕ) (w : Sought test n k) where
    pub sought_hit : k < n → test k ≡ true → first_below test n ≡ some k
    unfolding first_from pick
    sought_hit l e = let c : n - k ≡ suc (n - (k + 1)) = omega arith in sym w.rest ∙ rw (c, e)

    pub sought_more : k < n → test k ≡ false → Sought test n (k + 1)
    unfolding first_from pick
    sought_more l e =
        let c : n - k ≡ suc (n - (k + 1)) = omega arith in
        let on : first_from test k (suc (n - (k + 1))) ≡ first_from test (suc k) (n - (k + 1)) = rw e in
        record { most = omega arith; rest = ap (λ (i : ℕ). first_from test i (n - (k + 1))) (add-one k) ∙ sym on ∙ ap (first_from test k) (sym c) ∙ w.rest }

    pub sought_all : n ≤ k → first_below test n ≡ none
    unfolding first_from
    sought_all l = let c : n - k ≡ 0 = omega arith in sym w.rest ∙ rw c

-- ---- tests that agree find the same first
pub first_same : (x y : ℕ → Bool) (k c : ℕ) → ((i : ℕ) → i < k + c → x i ≡ y i) → first_from x k c ≡ first_from y k c
unfolding first_from
first_same x y k zero h = refl
first_same x y k (suc c) h = rw (h k (omega arith), first_same x y (suc k) c (λ i l. h i (omega arith)))

-- ---- what the first is
step_some : (test : ℕ → Bool) (k c i : ℕ) (b : Bool) → test k ≡ b → pick b (some k) (first_from test (suc k) c) ≡ some i
    → (first_from test (suc k) c ≡ some i → (suc k ≤ i) × (i < suc k + c) × (test i ≡ true)) → (k ≤ i) × (i < k + suc c) × (test i ≡ true)
unfolding pick
step_some test k c i true z e ih = let q : k ≡ i = cc in (omega arith, omega arith, ap test (sym q) ∙ z)
step_some test k c i false z e ih = let r = ih e in (omega (arith, r.0), omega (arith, r.1), r.2)

from_some : (test : ℕ → Bool) (k c i : ℕ) → first_from test k c ≡ some i → (k ≤ i) × (i < k + c) × (test i ≡ true)
unfolding first_from
from_some test k zero i e = absurd (let z : ◌≡◌ {A = ℕ} 0 1 = cc in omega arith)
from_some test k (suc c) i e = step_some test k c i (test k) refl e (λ e'. from_some test (suc k) c i e')

step_none : (test : ℕ → Bool) (k c i : ℕ) (b : Bool) → test k ≡ b → pick b (some k) (first_from test (suc k) c) ≡ none → k ≤ i → i < k + suc c
    → (first_from test (suc k) c ≡ none → suc k ≤ i → i < suc k + c → test i ≡ false) → Dec (i ≡ k) → test i ≡ false
unfolding pick
step_none test k c i true z e l h ih d = absurd (let q : ◌≡◌ {A = ℕ} 0 1 = cc in omega arith)
step_none test k c i false z e l h ih (yes q) = ap test q ∙ z
step_none test k c i false z e l h ih (no q) = ih e (omega arith) (omega arith)

from_none : (test : ℕ → Bool) (k c i : ℕ) → first_from test k c ≡ none → k ≤ i → i < k + c → test i ≡ false
unfolding first_from
from_none test k zero i e l h = absurd (omega arith)
from_none test k (suc c) i e l h = step_none test k c i (test k) refl e l h (λ e' l' h'. from_none test (suc k) c i e' l' h') (ℕ_discrete i k)

step_before : (test : ℕ → Bool) (k c i j : ℕ) (b : Bool) → test k ≡ b → pick b (some k) (first_from test (suc k) c) ≡ some i → k ≤ j → j < i
    → (first_from test (suc k) c ≡ some i → suc k ≤ j → test j ≡ false) → Dec (j ≡ k) → test j ≡ false
unfolding pick
step_before test k c i j true z e l h ih d = let q : k ≡ i = cc in absurd (omega arith)
step_before test k c i j false z e l h ih (yes q) = ap test q ∙ z
step_before test k c i j false z e l h ih (no q) = ih e (omega arith)

from_before : (test : ℕ → Bool) (k c i j : ℕ) → first_from test k c ≡ some i → k ≤ j → j < i → test j ≡ false
unfolding first_from
from_before test k zero i j e l h = absurd (let z : ◌≡◌ {A = ℕ} 0 1 = cc in omega arith)
from_before test k (suc c) i j e l h = step_before test k c i j (test k) refl e l h (λ e' l'. from_before test (suc k) c i j e' l' h) (ℕ_discrete j k)

none_from : (test : ℕ → Bool) (k c : ℕ) → ((i : ℕ) → k ≤ i → i < k + c → test i ≡ false) → first_from test k c ≡ none
unfolding first_from pick
none_from test k zero h = refl
none_from test k (suc c) h = rw (h k (omega arith) (omega arith)) (none_from test (suc k) c (λ i l l'. h i (omega arith) (omega arith)))

module _ (test : ℕ → Bool) (n : ℕ) where
  pub first_some : (i : ℕ) → first_below test n ≡ some i → (i < n) × (test i ≡ true)
  unfolding first_below
  first_some i e = let r = from_some test 0 n i e in (omega (arith, r.1), r.2)

  -- and none before it passes
  pub first_before : (i : ℕ) → first_below test n ≡ some i → (j : ℕ) → j < i → test j ≡ false
  unfolding first_below
  first_before i e j h = from_before test 0 n i j e (omega arith) h

  pub first_none : first_below test n ≡ none → (i : ℕ) → i < n → test i ≡ false
  unfolding first_below
  first_none e i h = from_none test 0 n i e (omega arith) (omega arith)

  pub none_first : ((i : ℕ) → i < n → test i ≡ false) → first_below test n ≡ none
  unfolding first_below
  none_first h = none_from test 0 n (λ i l l'. h i (omega arith))

-- ---- some and every
found_some : (o : Option ℕ) → is_some o ≡ false → o ≡ none
unfolding is_some
found_some none e = refl
found_some (some k) e = absurd (true≢false e)

module _ (test : ℕ → Bool) (n : ℕ) where
  pub some_hit : (i : ℕ) → first_below test n ≡ some i → some_below test n ≡ true
  unfolding some_below is_some
  some_hit i e = rw e

  pub some_none : first_below test n ≡ none → some_below test n ≡ false
  unfolding some_below is_some
  some_none e = rw e

  pub none_some : some_below test n ≡ false → (i : ℕ) → i < n → test i ≡ false
  unfolding some_below
  none_some e = first_none test n (found_some (first_below test n) e)

module _ (test : ℕ → Bool) (n : ℕ) where
  pub every_none : first_below (λ k. not (test k)) n ≡ none → every_below test n ≡ true
  unfolding every_below
  every_none e = ap not (some_none (λ k. not (test k)) n e)

  pub every_true : ((i : ℕ) → i < n → test i ≡ true) → every_below test n ≡ true
  every_true h = every_none (none_first (λ k. not (test k)) n (λ i l. ap not (h i l)))

  pub every_at : every_below test n ≡ true → (i : ℕ) → i < n → test i ≡ true
  unfolding every_below
  every_at e i h = not-false (test i) (none_some (λ k. not (test k)) n (not-true _ e) i h)
