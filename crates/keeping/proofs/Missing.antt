-- The code of a track's first missing sector: 0 where none is missing, and only there.
use mathlib.Core.Path.{◌≡◌, refl, sym, ap, ◌∙◌}
use mathlib.Core.Logic.{◌⊎◌, inl, inr}
use mathlib.Core.List.{List}
use Prim.Native.Nat.{ℕ, zero, suc, ◌+◌, ◌≤◌, ◌<◌}
use native.Mathlib.Omega.{arith}
use native.Mathlib.Decide.{ℕ_discrete}
use borrow.Author.Tests.{eq-eqb, ne_eqb}
use Rattle.base.proofs.Decide.{pick_true, pick-false, pick-both}
use Rattle.geometry.specs.declared.params.Params.{Params}
use Rattle.geometry.specs.declared.params.Track.{Track}
use Rattle.geometry.specs.Params.{Within}
use Rattle.track.specs.Find.{Off}
use Rattle.track.specs.Find.{Sector}
use Rattle.track.specs.Find.{Slot, Fault}
use Rattle.track.specs.Find.{where_of, sector_found}
use Rattle.track.proofs.Laws.{sector_off, located_code}
use Rattle.contents.specs.Content.{Content, Missing, content_in, content_at}
use Rattle.keeping.specs.Keep.{code_of, first_missing, keep_code}
use Rattle.keeping.proofs.Reading.{content_off}

-- every code is below 80h
code_below : (p : Params) (t : Track) (s : ℕ) (image : List ℕ) (f : Sector) → sector_found p t s image ≡ f → code_of (content_in p image f) < 0x80
unfolding content_in code_of
code_below p t s image (Slot u k) e = omega arith
code_below p t s image (Fault code) e = (located_code p t s image code e).1

pub missing_code : (c : Content) (code : ℕ) → c ≡ Missing code → code_of c ≡ code
unfolding code_of
missing_code c code e = rw e

module _ (p : Params) (t : Track) (image : List ℕ) where
  coded_from : (m s : ℕ) → first_missing p t image m s ≡ 0 → (i : ℕ) → s ≤ i → i < s + m → code_of (content_at p t i image) ≡ 0
  unfolding first_missing
  coded_from zero s e i l h = absurd (omega arith)
  coded_from (suc m) s e i l h = by (ℕ_discrete (code_of (content_at p t s image)) 0) (ℕ_discrete i s) (λ e' l'. coded_from m (suc s) e' i l' (omega arith))
    where
      by : Dec (code_of (content_at p t s image) ≡ 0) → Dec (i ≡ s) → (first_missing p t image m (suc s) ≡ 0 → suc s ≤ i → code_of (content_at p t i image) ≡ 0)
          → code_of (content_at p t i image) ≡ 0
      by (no z) d ih = absurd (z (sym (pick-false _ _ _ (ne_eqb _ _ z)) ∙ e))
      by (yes z) (yes d) ih = ap (λ (j : ℕ). code_of (content_at p t j image)) d ∙ z
      by (yes z) (no d) ih = ih (sym (pick_true _ _ _ (eq-eqb _ _ z)) ∙ e) (omega arith)

  pub none_missing : keep_code p t image ≡ 0 → (s : ℕ) → s < p.sectors → code_of (content_at p t s image) ≡ 0
  unfolding keep_code
  none_missing e s h = coded_from p.sectors 0 e s (omega arith) (omega arith)

  from_none : (m s : ℕ) → ((i : ℕ) → i < s + m → code_of (content_at p t i image) ≡ 0) → first_missing p t image m s ≡ 0
  unfolding first_missing
  from_none zero s h = refl
  from_none (suc m) s h = pick_true _ _ _ (eq-eqb _ _ (h s (omega arith))) ∙ from_none m (suc s) (λ i l. h i (omega arith))

  pub missing_none : ((s : ℕ) → s < p.sectors → code_of (content_at p t s image) ≡ 0) → keep_code p t image ≡ 0
  unfolding keep_code
  missing_none h = from_none p.sectors 0 (λ i l. h i (omega arith))

  from_below : (m s : ℕ) → first_missing p t image m s < 0x80
  unfolding first_missing content_at
  from_below zero s = omega arith
  from_below (suc m) s = pick-both (λ (n : ℕ). n < 0x80) _ _ _ (from_below m (suc s)) (code_below p t s image _ refl)

  pub missing_below : keep_code p t image < 0x80
  unfolding keep_code
  missing_below = from_below p.sectors 0

  -- ---- one code for every sector that is missing
  module _ (code : ℕ) where
    from_one : (m s : ℕ) → ((i : ℕ) → i < s + m → (code_of (content_at p t i image) ≡ 0) ⊎ (code_of (content_at p t i image) ≡ code))
        → (first_missing p t image m s ≡ 0) ⊎ (first_missing p t image m s ≡ code)
    unfolding first_missing
    from_one zero s h = inl refl
    from_one (suc m) s h = by (ℕ_discrete (code_of (content_at p t s image)) 0) (h s (omega arith)) (from_one m (suc s) (λ i l. h i (omega arith)))
      where
        by : Dec (code_of (content_at p t s image) ≡ 0) → (code_of (content_at p t s image) ≡ 0) ⊎ (code_of (content_at p t s image) ≡ code)
            → (first_missing p t image m (suc s) ≡ 0) ⊎ (first_missing p t image m (suc s) ≡ code)
            → (first_missing p t image (suc m) s ≡ 0) ⊎ (first_missing p t image (suc m) s ≡ code)
        by (yes z) d (inl ih) = inl (pick_true _ _ _ (eq-eqb _ _ z) ∙ ih)
        by (yes z) d (inr ih) = inr (pick_true _ _ _ (eq-eqb _ _ z) ∙ ih)
        by (no z) (inl d) ih = absurd (z d)
        by (no z) (inr d) ih = inr (pick-false _ _ _ (ne_eqb _ _ z) ∙ d)

    pub missing_one : ((s : ℕ) → s < p.sectors → (code_of (content_at p t s image) ≡ 0) ⊎ (code_of (content_at p t s image) ≡ code))
        → (keep_code p t image ≡ 0) ⊎ (keep_code p t image ≡ code)
    unfolding keep_code
    missing_one h = from_one p.sectors 0 (λ i l. h i (omega arith))

    -- an error of slot 0
    module _ (off : where_of p t image ≡ Off code) where
      pub off_some : 0 < code
      off_some = (located_code p t 0 image code (sector_off p t 0 image code off)).0

      off_code : (s : ℕ) → code_of (content_at p t s image) ≡ code
      off_code s = missing_code _ code (content_off p t s image code off)

      pub missing_off : Within p → keep_code p t image ≡ code
      missing_off within = by (missing_one (λ s h. inr (off_code s)))
        where
          by : (keep_code p t image ≡ 0) ⊎ (keep_code p t image ≡ code) → keep_code p t image ≡ code
          by (inl e) = absurd (omega (arith, off_some, off_code 0, none_missing e 0 (omega (arith, within.sectors_some))))
          by (inr e) = e
