-- What a valid setting says: the parameters are within their ranges and fit the image, and the configuration has ten bytes.
use mathlib.Core.Path.{◌≡◌, refl, sym, ap, subst, ◌∙◌}
use mathlib.Core.Bool.{Bool, true, false, not, ◌&&◌, false≢true}
use mathlib.Core.List.{List}
use Prim.Native.Nat.{ℕ, zero, suc, ◌+◌, ◌*◌, ◌≤◌, ◌<◌}
use native.Mathlib.Omega.{arith}
use lib.ListN.{length, get_or}
use borrow.Author.Tests.{eq-eqb, eqb-true, leb-true}
use Rattle.base.specs.Pick.{pick}
use Rattle.base.specs.Byte.{byte}
use Rattle.base.proofs.Decide.{pick_true, pick-false}
use Rattle.base.proofs.Bools.{both_true, test_on, test_off}
use Rattle.geometry.specs.declared.params.Params.{Params}
use Rattle.geometry.specs.declared.medium.Medium.{Medium}
use Rattle.geometry.specs.declared.medium.Medium.TheVariants.{HardDisk, Floppy}
use Rattle.geometry.specs.declared.medium.Range.{Range}
use Rattle.geometry.specs.declared.medium.Ranges.{Ranges}
use Rattle.geometry.specs.declared.config.Size.{Size}
use Rattle.std.specs.Prelude.{Some, None, is_some}
use Rattle.geometry.specs.Params.{Within, image_length}
use Rattle.geometry.specs.Medium.{is_in, ranges_of}
use Rattle.geometry.specs.Config.{Setting, is_valid, sizes, size_for, params_of, fitted_to, fields_in, setting_by, setting_of}

-- ---- whether there are parameters, as Option asks
pub valid_some : (setting : Setting) → is_some setting ≡ is_valid setting
unfolding is_valid
valid_some None = refl
valid_some (Some p) = refl

-- ---- the rows of the sizes
row_same : (d₁ d₂ : Size) (k : ℕ) → k < 3 → get_or sizes k d₁ ≡ get_or sizes k d₂
row_same d₁ d₂ zero h = refl
row_same d₁ d₂ (suc zero) h = refl
row_same d₁ d₂ (suc (suc zero)) h = refl
row_same d₁ d₂ (suc (suc (suc k))) h = absurd (omega arith)

pub record Sized (s : Size) : Type 0 where
  pub sectors_some : 2 ≤ s.sectors
  pub sectors_most : s.sectors ≤ 32
  pub bytes_some : 128 ≤ s.bytes
  pub bytes_most : s.bytes ≤ 512

sized_row : (k : ℕ) → Sized (get_or sizes k (record { bytes = 128; sectors = 16 }))
sized_row zero = record { sectors_some = omega arith; sectors_most = omega arith; bytes_some = omega arith; bytes_most = omega arith }
sized_row (suc zero) = record { sectors_some = omega arith; sectors_most = omega arith; bytes_some = omega arith; bytes_most = omega arith }
sized_row (suc (suc zero)) = record { sectors_some = omega arith; sectors_most = omega arith; bytes_some = omega arith; bytes_most = omega arith }
sized_row (suc (suc (suc k))) = record { sectors_some = omega arith; sectors_most = omega arith; bytes_some = omega arith; bytes_most = omega arith }

pub size_sized : (byte : ℕ) → Sized (size_for byte)
unfolding size_for
size_sized byte = sized_row byte

-- ---- the ranges of either medium
pub record Ranged (ranges : Ranges) : Type 0 where
  pub cylinders_some : 1 ≤ ranges.cylinders.least
  pub cylinders_most : ranges.cylinders.most ≤ 1024
  pub heads_some : 1 ≤ ranges.heads.least
  pub heads_most : ranges.heads.most ≤ 7
  pub size_most : ranges.size.most ≤ 2

pub ranged : (medium : Medium) → Ranged (ranges_of medium)
unfolding ranges_of
ranged HardDisk = record {
  cylinders_some = omega arith;
  cylinders_most = omega arith;
  heads_some = omega arith;
  heads_most = omega arith;
  size_most = omega arith;
}
ranged Floppy = record {
  cylinders_some = omega arith;
  cylinders_most = omega arith;
  heads_some = omega arith;
  heads_most = omega arith;
  size_most = omega arith;
}

pub in_range : (range : Range) (value : ℕ) → is_in range value ≡ true → (range.least ≤ value) × (value ≤ range.most)
unfolding is_in
in_range range value e = let t = both_true _ _ e in (leb-true _ _ t.0, leb-true _ _ t.1)

-- ---- fields that are in the ranges
all_true : (a b c d e f : Bool) → (a && b && c && d && e && f) ≡ true → (a ≡ true) × (b ≡ true) × (e ≡ true)
all_true true true true true true f z = (refl, refl, refl)
all_true false b c d e f z = absurd (false≢true z)
all_true true false c d e f z = absurd (false≢true z)
all_true true true false d e f z = absurd (false≢true z)
all_true true true true false e f z = absurd (false≢true z)
all_true true true true true false f z = absurd (false≢true z)

module _ (medium : Medium) (cylinders heads step size burst : ℕ) (fit : fields_in (ranges_of medium) cylinders heads step size burst ≡ true) where
  fits : (is_in (ranges_of medium).cylinders cylinders ≡ true) × (is_in (ranges_of medium).heads heads ≡ true)
      × (is_in (ranges_of medium).size size ≡ true)
  unfolding fields_in
  fits = all_true _ _ _ _ _ _ fit

  pub size_below : size ≤ 2
  size_below = omega (arith, (ranged medium).size_most, (in_range _ _ fits.2).1)

  pub size_within : (s : Size) → s ≡ size_for size → Within (params_of cylinders heads s)
  size_within s e =
      let z : Sized s = rw e (size_sized size) in
      let ranges = ranged medium in
      let in_c = in_range _ _ fits.0 in
      let in_h = in_range _ _ fits.1 in
      record {
        cylinders_some = omega (arith, ranges.cylinders_some, in_c.0);
        cylinders_most = omega (arith, ranges.cylinders_most, in_c.1);
        heads_some = omega (arith, ranges.heads_some, in_h.0);
        heads_most = omega (arith, ranges.heads_most, in_h.1);
        sectors_some = z.sectors_some;
        sectors_most = z.sectors_most;
        size_most = z.bytes_most;
      }

-- ---- as the code decides on the fields
module _ (medium : Medium) (cylinders heads step size burst : ℕ) (ranges : Ranges) (is : ranges ≡ ranges_of medium)
    (fit : Bool) (fits-is : fit ≡ fields_in ranges cylinders heads step size burst) where
  pub fields_fit : not fit ≡ false → fields_in (ranges_of medium) cylinders heads step size burst ≡ true
  fields_fit e = rw (← is) (test_on fit _ fits-is e)

  pub unfit_invalid : (image : ℕ) → not fit ≡ true → None ≡ setting_by medium cylinders heads step size burst image
  unfolding setting_by
  unfit_invalid image e = sym (pick-false _ _ _ (rw (← is) (test_off fit _ fits-is e)))

  pub fit_setting : (image : ℕ) → not fit ≡ false → (s : Size) → s ≡ size_for size → (p : Params) → p ≡ params_of cylinders heads s
      → (r : Setting) → r ≡ fitted_to p image → r ≡ setting_by medium cylinders heads step size burst image
  unfolding setting_by
  fit_setting image e s es p ep r er = er ∙ ap (λ (q : Params). fitted_to q image) (ep ∙ ap (params_of cylinders heads) es) ∙ sym (pick_true _ _ _ (fields_fit e))

pub setting_of_ten : (medium : Medium) (config : List ℕ) (image : ℕ) → length config ≡ 10 → (cylinders : ℕ) → cylinders ≡ byte config 0 * 256 + byte config 1
    → (r : Setting) → r ≡ setting_by medium cylinders (byte config 2) (byte config 3) (byte config 4) (byte config 9) image
    → r ≡ setting_of medium config image
unfolding setting_of
setting_of_ten medium config image ten cylinders ec r er =
    er ∙ ap (λ (n : ℕ). setting_by medium n (byte config 2) (byte config 3) (byte config 4) (byte config 9) image) ec ∙ sym (pick_true _ _ _ (eq-eqb _ _ ten))

-- ---- what a valid setting says
pick_valid : (b : Bool) (s : Setting) (p : Params) → pick b s None ≡ Some p → (b ≡ true) × (s ≡ Some p)
unfolding pick
pick_valid true s p e = (refl, e)
pick_valid false s p e = absurd (let z : ◌≡◌ {A = ℕ} 0 1 = cc in omega arith)

valid_same : (p q : Params) → Some p ≡ Some q → p ≡ q
valid_same p q e = cc

fitted_valid : (q : Params) (image : ℕ) (p : Params) → fitted_to q image ≡ Some p → (q ≡ p) × (image_length q ≤ image)
unfolding fitted_to
fitted_valid q image p e =
    let v = pick_valid _ _ p e in
    (valid_same q p v.1, leb-true _ _ v.0)

by_some : (medium : Medium) (cylinders heads step size burst image : ℕ) (p : Params) → setting_by medium cylinders heads step size burst image ≡ Some p
    → 128 ≤ p.size
unfolding setting_by
by_some medium cylinders heads step size burst image p e =
    let f = fitted_valid _ image p (pick_valid _ _ p e).1 in
    subst (λ (q : Params). 128 ≤ q.size) f.0 (size_sized size).bytes_some

by_within : (medium : Medium) (cylinders heads step size burst image : ℕ) (p : Params) → setting_by medium cylinders heads step size burst image ≡ Some p
    → Within p × (image_length p ≤ image)
unfolding setting_by
by_within medium cylinders heads step size burst image p e =
    let v = pick_valid _ _ p e in
    let f = fitted_valid _ image p v.1 in
    let w = size_within medium cylinders heads step size burst v.0 (size_for size) refl in
    subst (λ (q : Params). Within q × (image_length q ≤ image)) f.0 (w, f.1)

pub setting_within : (medium : Medium) (config : List ℕ) (image : ℕ) (p : Params) → setting_of medium config image ≡ Some p
    → Within p × (image_length p ≤ image)
unfolding setting_of
setting_within medium c image p e = by_within medium _ _ _ _ _ image p (pick_valid _ _ p e).1

pub setting_some : (medium : Medium) (config : List ℕ) (image : ℕ) (p : Params) → setting_of medium config image ≡ Some p → 128 ≤ p.size
unfolding setting_of
setting_some medium c image p e = by_some medium _ _ _ _ _ image p (pick_valid _ _ p e).1

pub setting_ten : (medium : Medium) (config : List ℕ) (image : ℕ) (p : Params) → setting_of medium config image ≡ Some p → length config ≡ 10
unfolding setting_of
setting_ten medium c image p e = eqb-true _ _ (pick_valid _ _ p e).0
