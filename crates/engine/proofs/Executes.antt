-- A call put together: a block that is not whole, or what the command leaves for the drives that it names.
use mathlib.Core.Path.{◌≡◌, refl, sym, ap, ◌∙◌}
use mathlib.Core.Bool.{Bool, true, false, not}
use mathlib.Core.List.{List, [], ◌∷◌}
use Prim.Native.Nat.{ℕ, zero, suc, ◌<◌}
use native.Mathlib.Omega.{arith}
use lib.ListN.{length, get_or, set}
use borrow.Author.Tests.{eqb-true}
use Rattle.base.specs.Pick.{pick}
use Rattle.base.specs.Byte.{byte}
use Rattle.base.proofs.Bools.{test_on, test_off}
use Rattle.base.proofs.Decide.{pick_true}
use Rattle.model.specs.declared.block.Block.{Block}
use Rattle.model.specs.declared.block.CopyBlock.{CopyBlock}
use Rattle.model.specs.declared.record.Drive.{Drive}
use Rattle.model.specs.declared.record.Controller.{Controller}
use Rattle.model.specs.declared.record.Answer.{Answer}
use Rattle.model.specs.declared.record.Ending.{Ending}
use Rattle.model.specs.declared.record.Outcome.{Outcome}
use Rattle.model.specs.Block.{block_of, is_copy, block_length, is_whole, copy_of}
use Rattle.model.specs.Record.{blank_drive, drive_at, bare_answer, Effect}
use Rattle.model.specs.Engine.{obey, image_of, Result, left, on_drive, execute}
use Rattle.model.specs.Premises.{WellFormed}
use Rattle.model.proofs.engine.Blocks.{copies, of_one_drive, not_whole, whole_six}
use Rattle.model.proofs.engine.CopyLeaves.{from_copy, to_copy}
use Rattle.endings.specs.Left.{Left, left_now, left_by}
use Rattle.copies.specs.Runs.{IsCopy, CopyRan}
use Rattle.engine.specs.Results.{result_now, Lent, lent_now, lent_by, obeyed}

-- ---- the fields of a block
pub block_formed : (bytes : List ℕ) (b : Block) → b ≡ block_of bytes → ((i : ℕ) → byte bytes i < 256) → WellFormed b
unfolding block_of
block_formed bytes b e below = rw e (record { drive = omega arith; address = omega (arith, below 2, below 3) })

-- ---- on the image of drive k, from what the command leaves there
lent_put : (drive : ℕ) (e : Effect) (area : List ℕ) (images : List (List ℕ)) (l : Left) → l ≡ left_by e area
    → lent_now l.ending l.buffer l.area (set images drive l.image) ≡ lent_by drive e area images
unfolding lent_by left_by
lent_put drive e area images l h = rw h

pub on_image : (b : Block) (given : List ℕ) (entry : Drive) (buffer area : List ℕ) (images : List (List ℕ)) (r : Ending) (buffered after image : List ℕ) (k : ℕ)
    → b.drive ≡ k → left_now r buffered after image ≡ left_by (obey b given (length area) entry buffer (get_or images k [])) area
    → lent_now r buffered after (set images k image) ≡ obeyed b given entry buffer area images
unfolding image_of obeyed
on_image b given entry buffer area images r buffered after image k e h =
    lent_put k _ area images _ h
    ∙ ap (λ (n : ℕ). lent_by n (obey b given (length area) entry buffer (image_of n images)) area images) (sym e)

pub copy_formed : (bytes : List ℕ) (k : CopyBlock) → k ≡ copy_of bytes → is_copy bytes ≡ true → ((i : ℕ) → byte bytes i < 256) → IsCopy k
unfolding copy_of
copy_formed bytes k e copy below =
    rw e
    (record {
      from = block_formed _ _ refl (six (below 0) (below 1) (below 2) (below 3) (below 4) (below 9));
      to = block_formed _ _ refl (six (below 0) (below 5) (below 6) (below 7) (below 4) (omega arith));
      from_copy = from_copy bytes copy;
      to_copy = to_copy bytes copy;
    })
  where
    six : {a b c d e f : ℕ} → a < 256 → b < 256 → c < 256 → d < 256 → e < 256 → f < 256 → (i : ℕ) → byte (a ∷ b ∷ c ∷ d ∷ e ∷ f ∷ []) i < 256
    six a b c d e f zero = a
    six a b c d e f (suc zero) = b
    six a b c d e f (suc (suc zero)) = c
    six a b c d e f (suc (suc (suc zero))) = d
    six a b c d e f (suc (suc (suc (suc zero)))) = e
    six a b c d e f (suc (suc (suc (suc (suc zero))))) = f
    six a b c d e f (suc (suc (suc (suc (suc (suc i)))))) = omega arith

longer : (copy : Bool) (n : ℕ) → n ≡ pick copy 10 6 → 1 < n
unfolding pick
longer true n e = omega (arith, e)
longer false n e = omega (arith, e)

-- ---- how many bytes it has, by the tests that the code has made
module _ (block : List ℕ) {whole copy : Bool} (ew : whole ≡ is_whole block) (ec : copy ≡ is_copy block) (is : not whole ≡ false) where
  pub is_six : copy ≡ false → length block ≡ 6
  is_six other = whole_six block (sym ec ∙ other) (test_on whole (is_whole block) ew is)

  pub is_ten : copy ≡ true → length block ≡ 10
  unfolding is_whole block_length
  is_ten yes-copy = eqb-true _ _ (test_on whole (is_whole block) ew is) ∙ pick_true (is_copy block) 10 6 (sym ec ∙ yes-copy)

pub whole_two : (block : List ℕ) → is_whole block ≡ true → 1 < length block
unfolding is_whole block_length
whole_two block e = longer (is_copy block) (length block) (eqb-true _ _ e)

-- byte 1 has the drive of either kind, a Copy's source
pub named_copy : (block : List ℕ) (k : CopyBlock) → k ≡ copy_of block → k.from.drive ≡ (block_of block).drive
unfolding copy_of block_of
named_copy block k e = ap (λ (j : CopyBlock). j.from.drive) e

-- ---- the record
module _ (c : Controller) (area : List ℕ) (images : List (List ℕ)) where
  left_put : (drive : ℕ) (e : Effect) (drives : List Drive) (l : Lent) → l ≡ lent_by drive e area images
      → drives ≡ set c.drives drive l.ending.entry
      → result_now (record { controller = record { buffer = l.buffer; drives = drives }; answer = l.ending.answer }) l.area l.images
      ≡ left drive e c area images
  unfolding left lent_by
  left_put drive e drives l h ed = rw (ed, h)

  -- of a command of one drive
  pub command_left : (b : Block) (given : List ℕ) (entry : Drive) → entry ≡ get_or c.drives b.drive blank_drive
      → (l : Lent) → l ≡ obeyed b given entry c.buffer area images → (drives : List Drive) → drives ≡ set c.drives b.drive l.ending.entry
      → result_now (record { controller = record { buffer = l.buffer; drives = drives }; answer = l.ending.answer }) l.area l.images
      ≡ on_drive b given c area images
  unfolding on_drive drive_at obeyed
  command_left b given entry ee l h drives ed = rw (← ee) (left_put b.drive _ drives l h ed)

-- ---- the call
module _ (c : Controller) (block given area : List ℕ) (images : List (List ℕ)) {whole : Bool} (ew : whole ≡ is_whole block) where
  pub execute_refused : (answer : Answer) → not whole ≡ true → answer ≡ bare_answer 1
      → result_now (record { controller = c; answer = answer }) area images ≡ execute c block given area images
  execute_refused answer off e = rw (not_whole c block given area images (test_off whole (is_whole block) ew off), e)

  module _ (is : not whole ≡ false) {copy : Bool} (ec : copy ≡ is_copy block) where
    pub execute_copy : copy ≡ true → (k : CopyBlock) → k ≡ copy_of block → (outcome : Outcome) (after : List (List ℕ)) → CopyRan k c images outcome after
        → result_now outcome area after ≡ execute c block given area images
    execute_copy yes-copy k ek outcome after ran =
        ran area
        ∙ rw ek (sym (copies c block given area images (test_on whole (is_whole block) ew is) (sym ec ∙ yes-copy)))

    pub execute_one : copy ≡ false → (b : Block) → b ≡ block_of block → (x : Result) → x ≡ on_drive b given c area images → x ≡ execute c block given area images
    execute_one other b eb x ex =
        ex ∙ rw eb (sym (of_one_drive c block given area images (test_on whole (is_whole block) ew is) (sym ec ∙ other)))
