-- What Read leaves.
use mathlib.Core.Path.{◌≡◌, refl, sym, ap, ◌∙◌}
use mathlib.Core.List.{List}
use Prim.Native.Nat.{ℕ, ◌+◌, ◌*◌, ◌≤◌}
use native.Mathlib.Omega.{arith}
use native.Mathlib.Nat.{mul-le-mul}
use lib.ListN.{length}
use Rattle.codes.specs.Numbers.{code_number}
use Rattle.base.specs.Part.{splice}
use Rattle.geometry.specs.declared.params.Params.{Params}
use Rattle.geometry.specs.Params.{address_count}
use Rattle.track.specs.Image.{Fits}
use Rattle.sectors.specs.Transfer.{begun, reading}
use Rattle.sectors.specs.declared.transfer.Done.{Done}
use Rattle.sectors.specs.Promises.{HasRead}
use Rattle.sectors.proofs.Laws.{Handed, reading_handed}
use Rattle.model.specs.declared.block.Block.{Block}
use Rattle.model.specs.declared.record.Drive.{Drive}
use Rattle.model.specs.declared.record.Ending.{Ending}
use Rattle.model.specs.Block.{count_of}
use Rattle.model.specs.Record.{Effect}
use Rattle.model.specs.Commands.{transfer_ending, read}
use Rattle.endings.specs.Left.{left_now, left_by}
use Rattle.sectors.specs.Last.{last_of}
use Rattle.sectors.proofs.Laws.{last_front, last_is}
use Rattle.transfers.proofs.Finishes.{transfer_is}

pub bytes_most : (k size : ℕ) → k ≤ 256 → size ≤ 512 → k * size ≤ 131072
bytes_most k size h l = mul-le-mul {n₂ = 256} {m₂ = 512} h l

-- ---- 08 Read
module _ (b : Block) (p : Params) (area₀ area image : List ℕ) (n : ℕ) (done : Done) (fits : Fits p image)
    (h : b.address.0 + count_of b ≤ address_count p) (en : n ≡ count_of b) (m : HasRead p n b.address image done area₀ area) where
  has_read : Handed p n image (reading p n b.address (begun image))
  has_read = reading_handed p image fits n b.address (omega arith)

  pub read_most : done.sectors ≤ n
  read_most = rw m.sectors has_read.most

  pub read_leaves : (entry : Drive) (buffer₀ buffer : List ℕ) (r : Ending) → buffer ≡ splice 0 (last_of done.sectors p.size area) buffer₀
      → r ≡ transfer_ending b done.sectors (code_number done.fault) (done.sectors * p.size) entry
      → left_now r buffer area image ≡ left_by (read b p entry buffer₀ image) area₀
  unfolding read left_by
  read_leaves entry buffer₀ buffer r eb er =
      let x = reading p n b.address (begun image) in
      let long : done.sectors * p.size ≡ length x.handed = rw m.sectors (sym has_read.long) in
      let last : last_of done.sectors p.size area ≡ x.last =
      rw (m.sectors, m.area) (last_front x.done p.size x.handed area₀ (omega (arith, has_read.long)) ∙ sym (last_is _ _ _ _ has_read.last_none has_read.last)) in
      let is = transfer_is b entry x _ _ _ _ buffer₀ buffer r eb er m.sectors m.code long last in
      let moved : left_now r buffer area image ≡ left_now r buffer (splice 0 x.handed area₀) x.image = rw (m.area, has_read.same) refl in
      rw (← en) (moved ∙ ap (λ (y : Effect). left_by y area₀) is)
