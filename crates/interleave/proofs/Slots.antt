-- The slot of a sector: each sector below n has exactly one slot, each slot one sector, and sector 1 has slot f.
use mathlib.Core.Path.{◌≡◌, refl, sym, ◌∙◌}
use mathlib.Core.Bool.{true, false}
use mathlib.Core.Option.{Option, none, some}
use Prim.Native.Nat.{ℕ, ◌<◌}
use native.Mathlib.Omega.{arith}
use lib.ListN.{get_or}
use lib.Dec.{eqb}
use borrow.Author.Tests.{eq-eqb, eqb-true}
use Rattle.base.specs.First.{first_below}
use Rattle.base.proofs.Firsts.{first_some, first_none}
use Rattle.interleave.specs.Layout.{layout_of}
use Rattle.interleave.proofs.Layouts.{layout_below, layout_has, layout_one, layout_first}

-- the sector in slot k
abbrev pub sector_at : (n f k : ℕ) → ℕ
sector_at n f k = get_or (layout_of n f) k 0

or_zero : Option ℕ → ℕ
or_zero none = 0
or_zero (some k) = k

-- the slot that has sector s
pub slot_of : (n f s : ℕ) → ℕ
slot_of n f s = or_zero (first_below (λ k. eqb (sector_at n f k) s) n)

module _ (n f : ℕ) where
  its_slot : (s : ℕ) → s < n → (o : Option ℕ) → first_below (λ k. eqb (sector_at n f k) s) n ≡ o → (or_zero o < n) × (sector_at n f (or_zero o) ≡ s)
  unfolding or_zero
  its_slot s h none e =
      let r = layout_has n f (omega arith) s h in
      absurd (let z : true ≡ false = sym (eq-eqb _ _ r.2) ∙ first_none (λ k. eqb (sector_at n f k) s) n e r.0 r.1 in let y : ◌≡◌ {A = ℕ} 0 1 = cc in omega arith)
  its_slot s h (some k) e = let r = first_some (λ k. eqb (sector_at n f k) s) n k e in (r.0, eqb-true _ _ r.1)

  pub sector_lt : (k : ℕ) → k < n → sector_at n f k < n
  sector_lt k h = layout_below n f (omega arith) k h

  pub slot_lt : (s : ℕ) → s < n → slot_of n f s < n
  unfolding slot_of
  slot_lt s h = (its_slot s h _ refl).0

  pub sector_slot : (s : ℕ) → s < n → sector_at n f (slot_of n f s) ≡ s
  unfolding slot_of
  sector_slot s h = (its_slot s h _ refl).1

  pub slot_sector : (k : ℕ) → k < n → slot_of n f (sector_at n f k) ≡ k
  slot_sector k h =
      layout_one n f (omega arith) (slot_of n f (sector_at n f k)) k (slot_lt (sector_at n f k) (sector_lt k h)) h (sector_slot (sector_at n f k) (sector_lt k h))

  pub slot_one : 0 < f → f < n → slot_of n f 1 ≡ f
  slot_one h k = layout_one n f (omega arith) (slot_of n f 1) f (slot_lt 1 (omega arith)) k (sector_slot 1 (omega arith) ∙ sym (layout_first n f h k))
