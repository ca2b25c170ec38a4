-- What Write leaves.
use mathlib.Core.Path.{◌≡◌, refl, sym, ap, ◌∙◌}
use mathlib.Core.List.{List, []}
use Prim.Native.Nat.{ℕ}
use lib.ListN.{length}
use Rattle.codes.specs.Numbers.{code_number}
use Rattle.base.specs.Part.{splice}
use Rattle.geometry.specs.declared.params.Params.{Params}
use Rattle.sectors.specs.Transfer.{begun, writing}
use Rattle.sectors.specs.declared.transfer.Done.{Done}
use Rattle.sectors.specs.Promises.{HasWritten}
use Rattle.sectors.proofs.Laws.{writing_taken}
use Rattle.model.specs.declared.block.Block.{Block}
use Rattle.model.specs.declared.record.Drive.{Drive}
use Rattle.model.specs.declared.record.Ending.{Ending}
use Rattle.model.specs.Block.{count_of}
use Rattle.model.specs.Commands.{transfer_ending, transferred, write}
use Rattle.model.specs.Record.{effect}
use Rattle.sectors.specs.Last.{last_of}
use Rattle.transfers.proofs.Finishes.{transfer_is}

-- ---- 0Ah Write
module _ (b : Block) (p : Params) (entry : Drive) (given image₀ image before after : List ℕ) (n : ℕ) (done : Done) (r : Ending) where
  pub write_leaves : n ≡ count_of b → HasWritten p n b.address given done image₀ image
      → after ≡ splice 0 (last_of done.sectors p.size given) before → r ≡ transfer_ending b done.sectors (code_number done.fault) 0 entry
      → effect r after [] image ≡ write b p given entry before image₀
  unfolding write
  write_leaves en w ea er =
      let x = writing p n b.address given (begun image₀) in
      let h = writing_taken p n b.address given image₀ in
      let none : 0 ≡ length x.handed = sym (ap length h.none) in
      let last : last_of done.sectors p.size given ≡ x.last = rw w.sectors (sym h.last) in
      let is : effect r after x.handed x.image ≡ transferred b entry before x =
      transfer_is b entry x _ _ _ _ before after r ea er w.sectors w.code none last in
      let moved : effect r after [] image ≡ effect r after x.handed x.image = rw (w.image, h.none) refl in
      rw (← en) (moved ∙ is)
