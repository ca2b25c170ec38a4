-- Which call a block makes: a Copy, a command of one drive, or none.
use Prim.Native.Nat.{ℕ}
use mathlib.Core.Path.{◌≡◌, refl, sym, ap, ◌∙◌}
use mathlib.Core.Bool.{Bool, true, false}
use mathlib.Core.List.{List}
use lib.ListN.{length}
use borrow.Author.Tests.{eqb-true, eq-eqb}
use Rattle.base.specs.Pick.{pick}
use Rattle.base.specs.Byte.{byte}
use Rattle.base.proofs.Decide.{pick_true, pick-false}
use Rattle.model.specs.declared.table.Command.{Command}
use Rattle.model.specs.declared.table.Command.TheVariants.{Copy}
use Rattle.model.specs.declared.record.Controller.{Controller}
use Rattle.model.specs.Block.{block_of, is_copy, block_length, is_whole, copy_of}
use Rattle.model.specs.Table.{row_for}
use Rattle.model.specs.Engine.{Result, on_drive, on_drives, execute}
use Rattle.model.proofs.engine.Leaving.{unmoved}

module _ {ℓ} {A : Type ℓ} (P : A → Type 0) where
  pick_by : (b : Bool) (x y : A) → (b ≡ true → P x) → (b ≡ false → P y) → P (pick b x y)
  unfolding pick
  pick_by true x y hx hy = hx refl
  pick_by false x y hx hy = hy refl

module _ (c : Controller) (block given area : List ℕ) (images : List (List ℕ)) where
  -- one of three
  pub by_block : (P : Result → Type 0)
      → (is_whole block ≡ true → is_copy block ≡ true → P (on_drives (copy_of block) c area images))
      → (is_whole block ≡ true → is_copy block ≡ false → P (on_drive (block_of block) given c area images))
      → (is_whole block ≡ false → P (unmoved c area images 1))
      → P (execute c block given area images)
  unfolding execute
  by_block P two one none =
      pick_by P (is_whole block) _ _ (λ whole. pick_by P (is_copy block) _ _ (λ copy. two whole copy) (λ other. one whole other)) none

  pub copies : is_whole block ≡ true → is_copy block ≡ true → execute c block given area images ≡ on_drives (copy_of block) c area images
  unfolding execute
  copies whole copy = pick_true _ _ _ whole ∙ pick_true _ _ _ copy

  pub of_one_drive : is_whole block ≡ true → is_copy block ≡ false → execute c block given area images ≡ on_drive (block_of block) given c area images
  unfolding execute
  of_one_drive whole other = pick_true _ _ _ whole ∙ pick-false _ _ _ other

  pub not_whole : is_whole block ≡ false → execute c block given area images ≡ unmoved c area images 1
  unfolding execute
  not_whole e = pick-false _ _ _ e

-- Six bytes that do not begin with 20h are whole, and other than six are not.
module _ (block : List ℕ) (other : is_copy block ≡ false) where
  six_long : block_length block ≡ 6
  unfolding block_length
  six_long = pick-false _ _ _ other

  pub six_whole : length block ≡ 6 → is_whole block ≡ true
  unfolding is_whole
  six_whole six = rw six_long (eq-eqb _ _ six)

  pub whole_six : is_whole block ≡ true → length block ≡ 6
  unfolding is_whole
  whole_six whole = eqb-true _ _ whole ∙ six_long

-- The row of a Copy.
pub copy_row_lem : (block : List ℕ) → is_copy block ≡ true → (row_for (block_of block).opcode).command ≡ Copy
unfolding is_copy block_of row_for
copy_row_lem block e =
    let is : byte block 0 ≡ 0x20 = eqb-true _ _ e in
    ap (λ (opcode : ℕ). (row_for opcode).command) is

-- The row of another command is not Copy's.
pub other_row : (block : List ℕ) (command : Command) → (row_for (block_of block).opcode).command ≡ command → (Copy ≡ command → ⊥) → is_copy block ≡ false
other_row block command is ne = by (is_copy block) refl
  where
    by : (copy : Bool) → is_copy block ≡ copy → is_copy block ≡ false
    by true e = absurd (ne (sym (copy_row_lem block e) ∙ is))
    by false e = e
