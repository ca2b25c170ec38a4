-- What a label gives, as the code decides on it. An image under 16 bytes has no six bytes from place 10 on.
use mathlib.Core.Path.{◌≡◌, refl, sym, ap, ◌∙◌}
use mathlib.Core.Bool.{Bool, true, false, not}
use mathlib.Core.List.{List, [], ◌∷◌, ◌++◌}
use Prim.Native.Nat.{ℕ, ◌+◌, ◌≤◌, ◌<◌}
use native.Mathlib.Omega.{arith}
use native.Mathlib.Decide.{ℕ_discrete, dec_lt}
use lib.ListN.{length, take, drop, get_or, length-take, length-drop, length-append}
use lib.Seq.{take_all, drop-cons}
use lib.Dec.{eqb}
use lib.Pointwise.{pointwise}
use borrow.Author.Tests.{eq-eqb, ne_eqb}
use Rattle.std.specs.Int.{from_be_bytes, w64}
use Rattle.base.specs.Part.{part}
use Rattle.base.specs.Same.{same_bytes}
use Rattle.base.proofs.Decide.{pick_true, pick-false}
use Rattle.base.proofs.Parts.{part_left, part_right, part_part}
use Rattle.base.proofs.Bools.{not-true, not-false}
use Rattle.base.proofs.Sames.{same_self, same_eq, same_pointwise}
use Rattle.geometry.specs.declared.params.Params.{Params}
use Rattle.geometry.specs.declared.medium.Medium.{Medium}
use Rattle.geometry.specs.Config.{Setting}
use Rattle.std.specs.Prelude.{Some, None}
use Rattle.geometry.specs.Config.{setting_of, is_valid, label_config, label_rest, label_setting, label_holds}
use Rattle.geometry.proofs.Settings.{setting_ten}

-- lists of two lengths are not the same
pub not_same : (a b : List ℕ) → (length a ≡ length b → ⊥) → same_bytes a b ≡ false
not_same a b ne = by (same_bytes a b) refl
  where
    by : (r : Bool) → same_bytes a b ≡ r → r ≡ false
    by true e = absurd (ne (ap length (same_eq a b e)))
    by false e = refl

pub part_short : (at size : ℕ) (xs : List ℕ) → 0 < size → length xs < at + size → (length (part at size xs) ≡ size → ⊥)
unfolding part
part_short at size xs s h e = omega (arith, simp (length-take, length-drop) at e)

-- the six bytes behind the configuration
six : (image : List ℕ) → 16 ≤ length image
    → part 10 6 image ≡ get_or image 10 0 ∷ get_or image 11 0 ∷ get_or image 12 0 ∷ get_or image 13 0 ∷ get_or image 14 0 ∷ get_or image 15 0 ∷ []
unfolding part
six image h =
    rw (
      drop-cons image 10 0 (omega arith),
      drop-cons image 11 0 (omega arith),
      drop-cons image 12 0 (omega arith),
      drop-cons image 13 0 (omega arith),
      drop-cons image 14 0 (omega arith),
      drop-cons image 15 0 (omega arith),
    )

-- whose number is 0, they are zeros
all_zero : (a b c d e f : ℕ) → from_be_bytes w64 (0 ∷ 0 ∷ a ∷ b ∷ c ∷ d ∷ e ∷ f ∷ []) ≡ 0 → (a ∷ b ∷ c ∷ d ∷ e ∷ f ∷ []) ≡ label_rest
all_zero a b c d e f z =
    let za : a ≡ 0 = omega arith in
    let zb : b ≡ 0 = omega arith in
    let zc : c ≡ 0 = omega arith in
    let zd : d ≡ 0 = omega arith in
    let ze : e ≡ 0 = omega arith in
    let zf : f ≡ 0 = omega arith in
    cc

-- they are zeros exactly if it is 0
six_zeros : (a b c d e f : ℕ) → same_bytes (a ∷ b ∷ c ∷ d ∷ e ∷ f ∷ []) label_rest ≡ eqb (from_be_bytes w64 (0 ∷ 0 ∷ a ∷ b ∷ c ∷ d ∷ e ∷ f ∷ [])) 0
six_zeros a b c d e f = by (ℕ_discrete number 0) _ refl
  where
    bytes : List ℕ
    bytes = a ∷ b ∷ c ∷ d ∷ e ∷ f ∷ []

    number : ℕ
    number = from_be_bytes w64 (0 ∷ 0 ∷ bytes)

    by : Dec (number ≡ 0) → (same : Bool) → same_bytes bytes label_rest ≡ same → same_bytes bytes label_rest ≡ eqb number 0
    by (yes z) same q = ap (λ (l : List ℕ). same_bytes l label_rest) (all_zero a b c d e f z) ∙ same_self label_rest ∙ sym (eq-eqb number 0 z)
    by (no ne) true q = absurd (ne (ap (λ (l : List ℕ). from_be_bytes w64 (0 ∷ 0 ∷ l)) (same_eq bytes label_rest q)))
    by (no ne) false q = q ∙ sym (ne_eqb number 0 ne)

module _ (medium : Medium) (image : List ℕ) where
  pub label_short : length image < 16 → None ≡ label_setting medium image
  unfolding label_setting
  label_short h = sym (pick-false _ _ _ (not_same _ _ (part_short 10 6 image (omega arith) h)))

  -- told by a slice's `!=` of the six bytes, whatever the image's length: for other crates, and for what follows
  module _ (differ : Bool) (is : differ ≡ not (pointwise eqb (take 6 (drop 10 image)) label_rest)) where
    zeros : (b : Bool) → pointwise eqb (take 6 (drop 10 image)) label_rest ≡ b → same_bytes (part 10 6 image) label_rest ≡ b
    unfolding part
    zeros b e = sym (same_pointwise _ _) ∙ e

    pub label_other : differ ≡ true → None ≡ label_setting medium image
    unfolding label_setting
    label_other t = sym (pick-false _ _ _ (zeros false (not-true _ (sym is ∙ t))))

    pub label_zeros : differ ≡ false → (config : List ℕ) → config ≡ label_config image → (s : Setting) → s ≡ setting_of medium config (length image)
        → s ≡ label_setting medium image
    unfolding label_setting
    label_zeros t config c s e =
        e ∙ ap (λ (l : List ℕ). setting_of medium l (length image)) c ∙ sym (pick_true _ _ _ (zeros true (not-false _ (sym is ∙ t))))

  -- told by the six bytes as one number, high byte first, as the code compares them
  module _ (long : 16 ≤ length image) (number : ℕ)
      (is : number ≡ from_be_bytes w64 (0 ∷ 0 ∷ get_or image 10 0 ∷ get_or image 11 0 ∷ get_or image 12 0 ∷ get_or image 13 0 ∷ get_or image 14 0 ∷ get_or image 15 0 ∷ [])) where
    zeros_by_number : same_bytes (part 10 6 image) label_rest ≡ eqb number 0
    zeros_by_number = ap (λ (l : List ℕ). same_bytes l label_rest) (six image long) ∙ six_zeros _ _ _ _ _ _ ∙ ap (λ (n : ℕ). eqb n 0) (sym is)

    -- the number is other than 0 exactly where the slices differ
    compared : not (eqb number 0) ≡ not (pointwise eqb (take 6 (drop 10 image)) label_rest)
    unfolding part
    compared = ap not (sym zeros_by_number ∙ sym (same_pointwise _ _))

    pub label_other_by_number : (number ≡ 0 → ⊥) → None ≡ label_setting medium image
    label_other_by_number ne = label_other (not (eqb number 0)) compared (ap not (ne_eqb number 0 ne))

    pub label_zeros_by_number : number ≡ 0 → (config : List ℕ) → config ≡ label_config image
        → (s : Setting) → s ≡ setting_of medium config (length image) → s ≡ label_setting medium image
    label_zeros_by_number z = label_zeros (not (eqb number 0)) compared (ap not (eq-eqb number 0 z))

-- ---- A valid label, and what it holds
not_valid : (p : Params) → None ≡ Some p → ⊥
not_valid p e = let z : ◌≡◌ {A = ℕ} 0 1 = cc in omega arith

module _ (medium : Medium) (image : List ℕ) (setting : Setting) (is : setting ≡ label_setting medium image) where
  pub label_long : (p : Params) → setting ≡ Some p → 10 ≤ length image
  label_long p e = by (dec_lt (length image) 16)
    where
      by : Dec (length image < 16) → 10 ≤ length image
      by (yes h) = absurd (not_valid p (label_short medium image h ∙ sym is ∙ e))
      by (no n) = omega arith

  pub holds_none : (config : List ℕ) → setting ≡ None → false ≡ label_holds medium image config
  unfolding label_holds is_valid
  holds_none config e = rw (← is, e)

  pub holds_same : (p : Params) (config : List ℕ) → setting ≡ Some p → same_bytes (label_config image) config ≡ label_holds medium image config
  unfolding label_holds is_valid
  holds_same p config e = rw (← is, e)

  -- as the code compares
  pub holds_ten : (p : Params) (config : List ℕ) → setting ≡ Some p → (same : Bool) → (held : List ℕ) → held ≡ label_config image
      → same ≡ pointwise eqb held config → same ≡ label_holds medium image config
  holds_ten p config e same held h compared =
      compared ∙ same_pointwise held config ∙ ap (λ (l : List ℕ). same_bytes l config) h ∙ holds_same p config e

pub holds_own : (medium : Medium) (image config : List ℕ) (p : Params) → label_setting medium image ≡ Some p → label_config image ≡ config
    → label_holds medium image config ≡ true
holds_own medium image config p valid is =
    sym (holds_same medium image (label_setting medium image) refl p config valid) ∙ ap (λ (l : List ℕ). same_bytes l config) is ∙ same_self config

-- ---- A label that is written: ten configuration bytes, then six zeros
pub sixteen : (config : List ℕ) → length config ≡ 10 → length (config ++ label_rest) ≡ 16
sixteen config ten = length-append config label_rest ∙ ap (λ (n : ℕ). n + 6) ten

rest_of : part 0 6 label_rest ≡ label_rest
unfolding part
rest_of = refl

ten_of : (config : List ℕ) → length config ≡ 10 → part 0 10 config ≡ config
unfolding part
ten_of config ten = take_all 10 config (omega arith)

module _ (medium : Medium) (config image : List ℕ) (p : Params) (is : part 0 16 image ≡ config ++ label_rest)
    (valid : setting_of medium config (length image) ≡ Some p) where
  ten : length config ≡ 10
  ten = setting_ten medium config (length image) p valid

  front : part 0 10 image ≡ config
  front = sym (part_part 0 16 0 10 image (omega arith)) ∙ ap (part 0 10) is ∙ part_left 0 10 config label_rest (omega (arith, ten)) ∙ ten_of config ten

  behind : part 10 6 image ≡ label_rest
  behind = sym (part_part 0 16 10 6 image (omega arith)) ∙ ap (part 10 6) is ∙ part_right 0 6 10 config label_rest ten ∙ rest_of

  pub label_made : (label_config image ≡ config) × (label_setting medium image ≡ Some p)
  unfolding label_setting
  label_made = (
    front,
    pick_true _ _ _ (ap (λ (l : List ℕ). same_bytes l label_rest) behind ∙ same_self label_rest)
        ∙ ap (λ (l : List ℕ). setting_of medium l (length image)) front ∙ valid,
  )
