-- The code's table of rows, says what the definition's says.
use mathlib.Core.Path.{◌≡◌, refl, sym, ap, subst, ◌∙◌}
use mathlib.Core.List.{List, [], ◌∷◌, map}
use Prim.Native.Nat.{ℕ, zero, suc, ◌+◌, ◌-◌, ◌≤◌, ◌<◌}
use native.Mathlib.Omega.{arith}
use native.Mathlib.Nat.{le_of_suc-le-suc, not-suc-le-zero, zero-add, suc-add}
use lib.ListN.{length, take, drop, get_or}
use Rattle.model.specs.Table.{Check, HardOnly, Control, FillBit, Present, Parameters, Interleave, Address, Counted, Settled, SparedWhole, KeepBit, is_among, TableRow, row, address_checks, table, unknown, row_for}
use Rattle.model.specs.declared.table.Command.TheVariants.{Copy}
use Rattle.model.specs.declared.table.Data.TheVariants.{Nothing}
use Rattle.table.specs.declared.rows.Checks.{Checks}
use Rattle.table.specs.declared.rows.Row.{Row}
use Rattle.table.specs.Rows.{has, Says}

-- An element of what each element stands for: where there is one, or with a default that stands for the default.
row_read : {A B : Type 0} (f : A → B) (l : List A) (i : ℕ) (d₁ : A) (d₂ : B) → i < length l → f (get_or l i d₁) ≡ get_or (map f l) i d₂
row_read f [] i d₁ d₂ h = absurd (not-suc-le-zero h)
row_read f (x ∷ xs) zero d₁ d₂ h = refl
row_read f (x ∷ xs) (suc i) d₁ d₂ h = row_read f xs i d₁ d₂ (le_of_suc-le-suc h)

-- ---- the code's table: the definition's, its checks as fields
unfoldable pub checks_of : List Check → Checks
checks_of checks = record {
  hard_only = is_among HardOnly checks;
  control = is_among Control checks;
  fill_bit = is_among FillBit checks;
  keep_bit = is_among KeepBit checks;
  present = is_among Present checks;
  parameters = is_among Parameters checks;
  interleave = is_among Interleave checks;
  address = is_among Address checks;
  counted = is_among Counted checks;
  settled = is_among Settled checks;
  spared_whole = is_among SparedWhole checks;
}

has_each : (checks : List Check) (check : Check) → has (checks_of checks) check ≡ is_among check checks
unfolding checks_of
has_each checks HardOnly = refl
has_each checks Control = refl
has_each checks FillBit = refl
has_each checks Present = refl
has_each checks Parameters = refl
has_each checks Interleave = refl
has_each checks Address = refl
has_each checks Counted = refl
has_each checks Settled = refl
has_each checks SparedWhole = refl
has_each checks KeepBit = refl

unfoldable pub row_from : TableRow → Row
row_from e = record { command = e.command; checks = checks_of e.checks; takes = e.takes; gives = e.gives }

unfoldable pub rows : List Row
rows = map row_from (take 18 table)

row_says : (opcode : ℕ) → Says (row_from (row_for opcode)) (row_for opcode)
unfolding row_from
row_says opcode = record { command = refl; takes = refl; gives = refl; checks = has_each (row_for opcode).checks }

-- the code's table ends behind 11h
front_read : {A : Type 0} (l : List A) (n i : ℕ) (d : A) → i < n → get_or (take n l) i d ≡ get_or l i d
front_read l zero i d h = absurd (not-suc-le-zero h)
front_read [] (suc n) i d h = refl
front_read (x ∷ xs) (suc n) zero d h = refl
front_read (x ∷ xs) (suc n) (suc i) d h = front_read xs n i d (le_of_suc-le-suc h)

pub rows_read : (opcode : ℕ) (d : Row) → opcode < 18 → Says (get_or rows opcode d) (row_for opcode)
unfolding rows row_for
rows_read opcode d h =
    subst (λ (row : Row). Says row (row_for opcode))
    (ap row_from (sym (front_read table 18 opcode unknown h)) ∙ row_read row_from (take 18 table) opcode unknown d h) (row_says opcode)

abbrev pub copy_row : TableRow
copy_row = row Copy (Counted ∷ address_checks) Nothing Nothing

pub row_copy : (opcode : ℕ) → opcode ≡ 0x20 → Says (row_from copy_row) (row_for opcode)
unfolding row_for
row_copy opcode e = rw e (row_says 0x20)

-- behind it only 20h is known
rest_read : {A : Type 0} (l : List A) (n i : ℕ) (d : A) → get_or l (n + i) d ≡ get_or (drop n l) i d
rest_read l zero i d = rw zero-add refl
rest_read [] (suc n) i d = refl
rest_read (x ∷ xs) (suc n) i d = rw suc-add (rest_read xs n i d)

behind : (k : ℕ) → (k ≡ 14 → ⊥) → get_or (drop 18 table) k unknown ≡ unknown
behind zero ne = refl
behind (suc zero) ne = refl
behind (suc (suc zero)) ne = refl
behind (suc (suc (suc zero))) ne = refl
behind (suc (suc (suc (suc zero)))) ne = refl
behind (suc (suc (suc (suc (suc zero))))) ne = refl
behind (suc (suc (suc (suc (suc (suc zero)))))) ne = refl
behind (suc (suc (suc (suc (suc (suc (suc zero))))))) ne = refl
behind (suc (suc (suc (suc (suc (suc (suc (suc zero)))))))) ne = refl
behind (suc (suc (suc (suc (suc (suc (suc (suc (suc zero))))))))) ne = refl
behind (suc (suc (suc (suc (suc (suc (suc (suc (suc (suc zero)))))))))) ne = refl
behind (suc (suc (suc (suc (suc (suc (suc (suc (suc (suc (suc zero))))))))))) ne = refl
behind (suc (suc (suc (suc (suc (suc (suc (suc (suc (suc (suc (suc zero)))))))))))) ne = refl
behind (suc (suc (suc (suc (suc (suc (suc (suc (suc (suc (suc (suc (suc zero))))))))))))) ne = refl
behind (suc (suc (suc (suc (suc (suc (suc (suc (suc (suc (suc (suc (suc (suc zero)))))))))))))) ne = absurd (ne refl)
behind (suc (suc (suc (suc (suc (suc (suc (suc (suc (suc (suc (suc (suc (suc (suc k))))))))))))))) ne = refl

pub rows_past : (opcode : ℕ) → 18 ≤ opcode → (opcode ≡ 0x20 → ⊥) → Says (row_from unknown) (row_for opcode)
unfolding row_for
rows_past opcode h ne =
    let at : opcode ≡ 18 + (opcode - 18) = omega arith in
    let none : get_or table opcode unknown ≡ unknown =
    ap (λ (i : ℕ). get_or table i unknown) at ∙ rest_read table 18 (opcode - 18) unknown ∙ behind (opcode - 18) (λ e. ne (omega (arith, at, e)))
    in
    subst (λ (e : TableRow). Says (row_from e) (row_for opcode)) none (row_says opcode)
