-- A Write Buffer with bit 7 not set and 512 bytes given passes the checks on any drive, and leaves those bytes in the buffer.
use Prim.Native.Nat.{ℕ, ◌≤◌}
use mathlib.Core.Path.{◌≡◌, refl}
use mathlib.Core.Bool.{true, false, and-false}
use mathlib.Core.List.{List}
use native.Mathlib.Omega.{arith}
use lib.ListN.{length}
use lib.Dec.{ltb, eqb}
use borrow.Author.Tests.{eqb-true, le-ltb, leb-true, ltb-true, lt-leb}
use Rattle.base.specs.Pick.{pick}
use Rattle.base.specs.Part.{part}
use Rattle.base.specs.Byte.{byte}
use Rattle.base.proofs.Bools.{both_true}
use Rattle.geometry.specs.Medium.{medium_of}
use Rattle.model.specs.declared.block.Block.{Block}
use Rattle.model.specs.declared.record.Drive.{Drive}
use Rattle.model.specs.declared.verdict.View.{View}
use Rattle.model.specs.Verdicts.{Passed}
use Rattle.model.specs.Block.{block_of}
use Rattle.model.specs.Table.{check_number, is_among, row_for}
use Rattle.model.specs.Checks.{judged, is_unknown, block_wrong, reach_of, bytes_of, hits_of, in_order, judge}
use Rattle.model.specs.Record.{unless_named}
use Rattle.model.specs.Commands.{do_free, carry_out}
use Rattle.model.specs.Engine.{view_of, obey}
use Rattle.model.specs.Turns.{fills_buffer}

module _ (b : Block) (is : b.opcode ≡ 0x0F) (low : b.top ≡ false) where
  passes : (v : View) (given area : ℕ) → 512 ≤ given → judge b v given area ≡ Passed
  unfolding judge judged in_order hits_of row_for is_unknown block_wrong is_among check_number bytes_of reach_of pick
  passes v given area enough = rw (is, low, and-false v.pending, le-ltb given 512 enough, le-ltb area 0 (omega arith)) refl

  fills : (given : List ℕ) (area : ℕ) (entry : Drive) (buffer image : List ℕ) → 512 ≤ length given
      → (obey b given area entry buffer image).buffer ≡ part 0 512 given
  unfolding obey unless_named carry_out do_free row_for
  fills given area entry buffer image enough =
      rw (passes (view_of (medium_of b.drive) entry (length image)) (length given) area enough, is) refl

pub obey_fills : (block given : List ℕ) (area : ℕ) (entry : Drive) (buffer image : List ℕ) → fills_buffer block given ≡ true
    → (obey (block_of block) given area entry buffer image).buffer ≡ part 0 512 given
unfolding fills_buffer block_of
obey_fills block given area entry buffer image on =
    let is = both_true (eqb (byte block 0) 0x0F) _ on in
    let rest = both_true (ltb (byte block 1) 128) _ is.1 in
    fills (block_of block) (eqb-true _ _ is.0) (lt-leb 128 (byte block 1) (ltb-true _ _ rest.0)) given area entry buffer image (leb-true _ _ rest.1)
