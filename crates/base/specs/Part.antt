-- Parts of a list: the only ways in which images are taken apart and changed.
use Rattle.std.specs.Prelude.{List, [], ◌++◌, ℕ, zero, suc, ◌+◌, length, take, drop}

-- `size` elements from place `at` on
unfoldable pub part : (at size : ℕ) → List ℕ → List ℕ
part at size xs = take size (drop at xs)

-- xs with ys in the place of as many elements from `at` on
unfoldable pub splice : (at : ℕ) → (ys xs : List ℕ) → List ℕ
splice at ys xs = take at xs ++ (ys ++ drop (at + length ys) xs)

-- the first n rows, one behind the other
unfoldable pub rows : (row : ℕ → List ℕ) → (n : ℕ) → List ℕ
rows row zero = []
rows row (suc n) = rows row n ++ row n
