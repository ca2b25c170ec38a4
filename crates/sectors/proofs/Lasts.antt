-- The last of some sectors that lie one behind the other.
use mathlib.Core.Path.{◌≡◌, refl, ap, ◌∙◌}
use mathlib.Core.List.{List, [], ◌++◌}
use Prim.Native.Nat.{ℕ, zero, suc, ◌+◌, ◌-◌, ◌*◌, ◌≤◌}
use native.Mathlib.Omega.{arith}
use native.Mathlib.Nat.{zero-add}
use lib.ListN.{length, take, drop}
use Rattle.base.specs.Part.{part, splice}
use Rattle.base.proofs.Parts.{cell_in, part_lent, part_left}
use Rattle.sectors.specs.Last.{last_of}

pub last_none : (n size : ℕ) (moved buffer : List ℕ) → n ≡ 0 → buffer ≡ splice 0 (last_of n size moved) buffer
unfolding splice last_of
last_none n size moved buffer e = rw e refl

-- the last of some, k behind the first, over the front
pub last_lent : (n k size : ℕ) (moved buffer new : List ℕ) → 1 ≤ n → k ≡ n - 1 → length new ≡ size → new ≡ take (k * size + size - k * size) (drop (k * size) moved)
    → new ++ drop size buffer ≡ splice 0 (last_of n size moved) buffer
unfolding splice last_of
last_lent zero k size moved buffer new some ek l e = absurd (omega arith)
last_lent (suc n) k size moved buffer new some ek l e =
    let same : k ≡ n = omega arith in
    let is : new ≡ part (n * size) size moved = e ∙ part_lent (k * size) (k * size + size) size moved refl ∙ ap (λ (i : ℕ). part (i * size) size moved) same in
    rw (← is, l, zero-add) refl

-- what lies behind the sectors does not count
pub last_front : (n size : ℕ) (xs ys : List ℕ) → n * size ≤ length xs → last_of n size (splice 0 xs ys) ≡ last_of n size xs
unfolding last_of splice
last_front zero size xs ys h = refl
last_front (suc n) size xs ys h = part_left (n * size) size xs (drop (0 + length xs) ys) (omega (arith, cell_in size n (suc n) (omega arith)))

-- what a transfer says of its last sector
pub last_is : (n size : ℕ) (xs last : List ℕ) → (n ≡ 0 → last ≡ []) → ((k : ℕ) → n ≡ suc k → last ≡ part (k * size) size xs) → last ≡ last_of n size xs
unfolding last_of
last_is zero size xs last none some = none refl
last_is (suc n) size xs last none some = some n refl
