use Prim.Native.Nat.{◌+◌, ◌*◌, ◌≤◌}
use native.Mathlib.Omega.{arith}
use Rattle.pouring.specs.Lent.{lent}
use Rattle.pouring.specs.Promises.{scratch_length}
use Rattle.pouring.proofs.Rooms.{read_fits, read_few, done_bytes, done_few}
use Rattle.pouring.proofs.TurnEnds.{read_most, lent_long, stores_given, stores_on, stored_most, turned_to}
use Rattle.pouring.proofs.turn.turn.Goals as goal

pub overflow_mul-filled : goal.overflow_mul-filled
overflow_mul-filled c = omega (
  arith,
  (let within : c.args.s.held + c.read-source.result.sectors * c.args.r.p.size ≤ scratch_length = read_fits _ _ _ _ _ c.requires.0 c.requires.1 _ c.chunk-m.ensures c.requires.2 _ (let few : c.read-source.result.sectors ≤ c.chunk-m.result =
      read_most _ _ _ _ _ c.requires.0 c.requires.1 c.requires.2 _ c.chunk-m.ensures _ c.further-a.ensures _ _ c.read-source.ensures in few) in within),
)

pub overflow_add-filled : goal.overflow_add-filled
overflow_add-filled c = omega (
  arith,
  (let within : c.args.s.held + c.read-source.result.sectors * c.args.r.p.size ≤ scratch_length = read_fits _ _ _ _ _ c.requires.0 c.requires.1 _ c.chunk-m.ensures c.requires.2 _ (let few : c.read-source.result.sectors ≤ c.chunk-m.result =
      read_most _ _ _ _ _ c.requires.0 c.requires.1 c.requires.2 _ c.chunk-m.ensures _ c.further-a.ensures _ _ c.read-source.ensures in few) in within),
)

pub slice_bounds-store_sectors-end : goal.slice_bounds-store_sectors-end
slice_bounds-store_sectors-end c =
    let long = lent_long _ _ _ _ _ c.requires.0 c.requires.1 c.requires.2 _ c.chunk-m.ensures _ c.further-a.ensures _ _ c.read-source.ensures in
    omega (
      arith,
      long,
      (let within : c.args.s.held + c.read-source.result.sectors * c.args.r.p.size ≤ scratch_length = read_fits _ _ _ _ _ c.requires.0 c.requires.1 _ c.chunk-m.ensures c.requires.2 _ (let few : c.read-source.result.sectors ≤ c.chunk-m.result =
          read_most _ _ _ _ _ c.requires.0 c.requires.1 c.requires.2 _ c.chunk-m.ensures _ c.further-a.ensures _ _ c.read-source.ensures in few) in within),
    )

pub store_sectors-target-requires : goal.store_sectors-target-requires
store_sectors-target-requires c = (
  c.requires.0.target_there,
  c.requires.0.fitting.target_fits,
  stores_on _ _ _ _ _ c.requires.0 c.requires.1 c.requires.2 _ c.chunk-m.ensures _ c.further-a.ensures _ _ c.read-source.ensures,
  stores_given _ _ _ _ _ c.requires.0 c.requires.1 c.requires.2 _ c.chunk-m.ensures _ c.further-a.ensures _ _ c.read-source.ensures,
)

pub after_turn-requires : goal.after_turn-requires
after_turn-requires c =
    let most = stored_most _ _ _ _ _ c.requires.0 c.requires.1 c.requires.2 _ c.chunk-m.ensures _ c.further-a.ensures _ _ c.read-source.ensures _ (lent c.store_sectors-target.new.images) c.store_sectors-target.ensures.stored in (
      c.requires.0.fitting.source_some,
      c.requires.0.fitting.source_fits.within.size_most,
      c.requires.0.fitting.target_fits.within.size_most,
      read_few _ _ _ _ _ c.requires.0 c.requires.1 _ c.chunk-m.ensures c.requires.2 _ (let few : c.read-source.result.sectors ≤ c.chunk-m.result =
          read_most _ _ _ _ _ c.requires.0 c.requires.1 c.requires.2 _ c.chunk-m.ensures _ c.further-a.ensures _ _ c.read-source.ensures in few),
      done_few _ _ _ _ _ c.requires.0 c.requires.1 _ c.chunk-m.ensures c.requires.2 _ (let few : c.read-source.result.sectors ≤ c.chunk-m.result =
          read_most _ _ _ _ _ c.requires.0 c.requires.1 c.requires.2 _ c.chunk-m.ensures _ c.further-a.ensures _ _ c.read-source.ensures in few) _ most,
      done_bytes _ _ _ _ _ c.requires.0 c.requires.1 _ c.chunk-m.ensures c.requires.2 _ (let few : c.read-source.result.sectors ≤ c.chunk-m.result =
          read_most _ _ _ _ _ c.requires.0 c.requires.1 c.requires.2 _ c.chunk-m.ensures _ c.further-a.ensures _ _ c.read-source.ensures in few) _ most,
    )

pub returns-clause-turned : goal.returns-clause-turned
returns-clause-turned c =
    turned_to _ _ _ _ _ c.requires.0 c.requires.1 c.requires.2 _ c.chunk-m.ensures _ c.further-a.ensures _ _ c.read-source.ensures _ (lent c.store_sectors-target.new.images) c.store_sectors-target.ensures.stored _ c.move_front.ensures _ c.after_turn.ensures
