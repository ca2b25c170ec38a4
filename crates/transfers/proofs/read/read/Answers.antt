use mathlib.Core.Path.{◌≡◌}
use lib.ListN.{length}
use Prim.Native.Nat.{◌*◌, ◌≤◌, ◌<◌}
use native.Mathlib.Nat.{le_trans}
use native.Mathlib.Omega.{arith}
use Rattle.geometry.proofs.Sizes.{sectors_most}
use Rattle.transfers.proofs.Finishes.{count_most, room_all, room_done}
use Rattle.transfers.proofs.ReadEnds.{read_most, read_leaves, bytes_most}
use borrow.Author.Rules.{rules}
use Rattle.transfers.proofs.read.read.Goals as goal

pub read_sectors-done-requires : goal.read_sectors-done-requires
read_sectors-done-requires c =
    (c.requires.fits, omega (arith, c.requires.inside, c.count_of.ensures.0), room_all _ _ _ _ c.count_of.ensures.0 c.requires.enough)

pub overflow_mul-bytes : goal.overflow_mul-bytes
overflow_mul-bytes c = omega (
  arith,
  (let bytes : c.read_sectors-done.result.sectors * c.args.p.size ≤ 131072 = bytes_most _ _ (let few : c.read_sectors-done.result.sectors ≤ 256 =
      le_trans (let most : c.read_sectors-done.result.sectors ≤ c.count_of.result =
      read_most c.args.b c.args.p _ _ _ _ _ c.requires.fits c.requires.inside c.count_of.ensures.0 c.read_sectors-done.ensures in most) (count_most c.args.b _ (let extra : c.args.b.extra < 256 = omega arith in extra) c.count_of.ensures.0) in few) c.requires.fits.within.size_most in bytes),
)

pub keep_last-requires : goal.keep_last-requires
keep_last-requires c =
    let long : length c.read_sectors-done.new.area ≡ length c.args.area.now = search rules in (
      omega (arith, c.requires.fits.within.size_most, (let whole : length c.args.buffer.now ≡ 512 = search rules in whole)),
      room_done _ _ _ _ _ (let most : c.read_sectors-done.result.sectors ≤ c.count_of.result =
          read_most c.args.b c.args.p _ _ _ _ _ c.requires.fits c.requires.inside c.count_of.ensures.0 c.read_sectors-done.ensures in most) c.count_of.ensures.0 (rw long c.requires.enough),
    )

pub overflow_cast-bytes : goal.overflow_cast-bytes
overflow_cast-bytes c = omega (
  arith,
  (let bytes : c.read_sectors-done.result.sectors * c.args.p.size ≤ 131072 = bytes_most _ _ (let few : c.read_sectors-done.result.sectors ≤ 256 =
      le_trans (let most : c.read_sectors-done.result.sectors ≤ c.count_of.result =
      read_most c.args.b c.args.p _ _ _ _ _ c.requires.fits c.requires.inside c.count_of.ensures.0 c.read_sectors-done.ensures in most) (count_most c.args.b _ (let extra : c.args.b.extra < 256 = omega arith in extra) c.count_of.ensures.0) in few) c.requires.fits.within.size_most in bytes),
)

pub finish-requires : goal.finish-requires
finish-requires c = (
  c.requires.block.drive,
  (let few : c.read_sectors-done.result.sectors ≤ 256 =
      le_trans (let most : c.read_sectors-done.result.sectors ≤ c.count_of.result =
      read_most c.args.b c.args.p _ _ _ _ _ c.requires.fits c.requires.inside c.count_of.ensures.0 c.read_sectors-done.ensures in most) (count_most c.args.b _ (let extra : c.args.b.extra < 256 = omega arith in extra) c.count_of.ensures.0) in few),
  omega (arith, c.requires.inside, sectors_most c.args.p c.requires.fits.within),
)

pub returns : goal.returns
returns c =
    read_leaves c.args.b c.args.p _ _ _ _ _ c.requires.fits c.requires.inside
    c.count_of.ensures.0 c.read_sectors-done.ensures
    _ _ _ _ c.keep_last.ensures c.finish.ensures
