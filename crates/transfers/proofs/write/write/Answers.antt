use borrow.Author.Rules.{rules}
use mathlib.Core.Path.{◌≡◌}
use lib.ListN.{length}
use Prim.Native.Nat.{◌≤◌, ◌<◌}
use native.Mathlib.Nat.{le_trans}
use native.Mathlib.Omega.{arith}
use Rattle.geometry.proofs.Sizes.{sectors_most}
use Rattle.sectors.proofs.Laws.{written_most}
use Rattle.transfers.proofs.Finishes.{count_most, room_all, room_done}
use Rattle.transfers.proofs.WriteEnds.{write_leaves}
use Rattle.transfers.proofs.write.write.Goals as goal

pub write_sectors-done-requires : goal.write_sectors-done-requires
write_sectors-done-requires c =
    (c.requires.fits, omega (arith, c.requires.inside, c.count_of.ensures.0), room_all _ _ _ _ c.count_of.ensures.0 c.requires.enough)

pub keep_last-requires : goal.keep_last-requires
keep_last-requires c = (
  omega (arith, c.requires.fits.within.size_most, (let whole : length c.args.buffer.now ≡ 512 = search rules in whole)),
  room_done _ _ _ _ _ (let most : c.write_sectors-done.result.sectors ≤ c.count_of.result = written_most _ _ _ _ _ _ _ c.write_sectors-done.ensures in most) c.count_of.ensures.0 c.requires.enough,
)

pub finish-requires : goal.finish-requires
finish-requires c = (
  c.requires.block.drive,
  (let few : c.write_sectors-done.result.sectors ≤ 256 =
      le_trans (let most : c.write_sectors-done.result.sectors ≤ c.count_of.result = written_most _ _ _ _ _ _ _ c.write_sectors-done.ensures in most) (count_most c.args.b _ (let extra : c.args.b.extra < 256 = omega arith in extra) c.count_of.ensures.0) in few),
  omega (arith, c.requires.inside, sectors_most c.args.p c.requires.fits.within),
)

pub returns : goal.returns
returns c =
    write_leaves c.args.b c.args.p c.args.entry _ _ _ _ _ _ _ _
    c.count_of.ensures.0 c.write_sectors-done.ensures c.keep_last.ensures c.finish.ensures
