-- What holds of each row of a list at its place, and of another row past the last, holds at every place.
use Prim.Native.Nat.{ℕ, zero, suc, ◌≤◌}
use mathlib.Core.List.{List, [], ◌∷◌}
use native.Mathlib.Omega.{arith}
use lib.ListN.{length, get_or}
use Rattle.model.specs.Table.{TableRow}

pub data Each : (ℕ → TableRow → Type 0) → List TableRow → Type 1 where
  none : {P : ℕ → TableRow → Type 0} → Each P []
  also : {P : ℕ → TableRow → Type 0} {e : TableRow} {es : List TableRow} → P 0 e → Each (λ n. P (suc n)) es → Each P (e ∷ es)

pub each_row : (P : ℕ → TableRow → Type 0) (es : List TableRow) (e : TableRow) → Each P es → ((n : ℕ) → length es ≤ n → P n e) → (n : ℕ) → P n (get_or es n e)
each_row P [] e none past n = past n (omega arith)
each_row P (x ∷ es) e (also y ys) past zero = y
each_row P (x ∷ es) e (also y ys) past (suc n) = each_row (λ k. P (suc k)) es e ys (λ k l. past (suc k) (omega arith)) n
