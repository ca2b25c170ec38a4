-- Laws of a block's bytes: how many there are, and Copy's two drives.
use mathlib.Core.Path.{◌≡◌, refl, sym, ap, ◌∙◌}
use mathlib.Core.Bool.{Bool, true, false, not}
use mathlib.Core.List.{List}
use Prim.{⊥}
use Prim.Native.Nat.{ℕ}
use lib.ListN.{length}
use lib.Dec.{eqb}
use Rattle.base.proofs.Parts.{length_none}
use borrow.Author.Tests.{ne_eqb}
use Rattle.base.specs.Pick.{pick}
use Rattle.base.proofs.Decide.{pick_true, pick-false}
use Rattle.model.specs.declared.block.Block.{Block}
use Rattle.model.specs.declared.block.CopyBlock.{CopyBlock}
use Rattle.model.specs.Block.{is_copy, block_length, is_whole}

pub none_copies : (block : List ℕ) → length block ≡ 0 → false ≡ is_copy block
unfolding is_copy
none_copies block none = ap is_copy (sym (length_none block none))

module _ (block : List ℕ) {copy : Bool} (is : copy ≡ is_copy block) where
  pub copy_long : copy ≡ true → 10 ≡ block_length block
  unfolding block_length
  copy_long e = sym (pick_true (is_copy block) 10 6 (sym is ∙ e))

  pub other_long : copy ≡ false → 6 ≡ block_length block
  unfolding block_length
  other_long e = sym (pick-false (is_copy block) 10 6 (sym is ∙ e))

-- ---- By the length first
by_six : (n : ℕ) (copy : Bool) → n ≡ 6 → not copy ≡ eqb n (pick copy 10 6)
unfolding pick
by_six n true e = ap (λ m. eqb m 10) (sym e)
by_six n false e = ap (λ m. eqb m 6) (sym e)

by_ten : (n : ℕ) (copy : Bool) → n ≡ 10 → copy ≡ eqb n (pick copy 10 6)
unfolding pick
by_ten n true e = ap (λ m. eqb m 10) (sym e)
by_ten n false e = ap (λ m. eqb m 6) (sym e)

by_none : (n : ℕ) (copy : Bool) → (n ≡ 6 → ⊥) → (n ≡ 10 → ⊥) → eqb n 10 ≡ eqb n (pick copy 10 6)
unfolding pick
by_none n true six ten = refl
by_none n false six ten = ne_eqb n 10 ten ∙ sym (ne_eqb n 6 six)

module _ (block : List ℕ) where
  pub six_whole : {copy : Bool} → copy ≡ is_copy block → length block ≡ 6 → not copy ≡ is_whole block
  unfolding is_whole block_length
  six_whole is e = ap not is ∙ by_six (length block) (is_copy block) e

  pub ten_whole : {copy : Bool} → copy ≡ is_copy block → length block ≡ 10 → copy ≡ is_whole block
  unfolding is_whole block_length
  ten_whole is e = is ∙ by_ten (length block) (is_copy block) e

  pub none_whole : (length block ≡ 6 → ⊥) → (length block ≡ 10 → ⊥) → eqb (length block) 10 ≡ is_whole block
  unfolding is_whole block_length
  none_whole = by_none (length block) (is_copy block)

pub copy_same : {from to from' to' : Block} → from ≡ from' → to ≡ to' → ◌≡◌ {A = CopyBlock} (record { from = from; to = to }) (record { from = from'; to = to' })
copy_same f t = cc
