use mathlib.Core.Path.{refl, sym, ◌∙◌}
use native.Mathlib.Omega.{arith}
use Rattle.engine.proofs.Executes.{block_formed, copy_formed, is_six, is_ten, named_copy, command_left, execute_copy, execute_one}
use borrow.Author.Rules.{rules}
use Rattle.engine.proofs.run.run_block.Goals as goal

pub decode_copy-k-requires : goal.decode_copy-k-requires
decode_copy-k-requires c = is_ten _ (sym c.requires) c.is_copy.ensures refl c.if-is_copy.true

pub copy_apart-requires : goal.copy_apart-requires
copy_apart-requires c =
    copy_formed _ _ c.decode_copy-k.ensures (sym c.is_copy.ensures ∙ c.if-is_copy.true)
    (λ i. omega (arith, c.shared_slice_known-1.given i))

pub returns-then-is_copy-clause-left : goal.returns-then-is_copy-clause-left
returns-then-is_copy-clause-left c =
    rw (← named_copy _ _ c.decode_copy-k.ensures)
    (execute_copy _ _ _ _ _ (sym c.requires) refl c.is_copy.ensures c.if-is_copy.true _ c.decode_copy-k.ensures _ _ c.copy_apart.ensures.ran)

pub decode-b-requires : goal.decode-b-requires
decode-b-requires c = is_six _ (sym c.requires) c.is_copy.ensures refl c.if-is_copy.false

pub drive_at-before-requires : goal.drive_at-before-requires
drive_at-before-requires c = (block_formed _ _ c.decode-b.ensures (λ i. omega (arith, c.shared_slice_known-1.given i))).drive

pub on_images-requires : goal.on_images-requires
on_images-requires c =
    block_formed _ _ c.decode-b.ensures (λ i. omega (arith, c.shared_slice_known-1.given i))

pub returns-clause-left : goal.returns-clause-left
returns-clause-left c =
    rw (← c.decode-b.ensures)
    (execute_one _ _ _ _ _ (sym c.requires) refl c.is_copy.ensures c.if-is_copy.false _ c.decode-b.ensures _
    (command_left _ _ _ _ _ _ c.drive_at-before.ensures _ c.on_images.ensures.left _ refl))
