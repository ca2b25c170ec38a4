-- Document 01, 'Commands': the fields of a block.
use Rattle.std.specs.Prelude.{ℕ, ◌/◌, ◌%◌, Bool, List, [], ◌∷◌, length, leb, eqb}
use Rattle.base.specs.Pick.{pick}
use Rattle.base.specs.Byte.{byte}
use Rattle.geometry.specs.declared.params.Lba.{Lba}
use Rattle.geometry.specs.Params.{lba_of}
use Rattle.model.specs.declared.block.Block.{Block}
use Rattle.model.specs.declared.block.CopyBlock.{CopyBlock}

-- Opcode; bit 7, bits 6-5 drive, bits 4-0 address high; address middle; low; interleave or count; control.
unfoldable pub block_of : List ℕ → Block
block_of bytes = record {
  opcode = byte bytes 0;
  top = leb 128 (byte bytes 1);
  drive = byte bytes 1 / 32 % 4;
  address = lba_of (byte bytes 1 % 32) (byte bytes 2) (byte bytes 3);
  extra = byte bytes 4;
  control = byte bytes 5;
}

-- ---- Request E5: a block that begins with 20h has ten bytes, any other six.
unfoldable pub is_copy : (block : List ℕ) → Bool
is_copy block = eqb (byte block 0) 0x20

unfoldable pub block_length : (block : List ℕ) → ℕ
block_length block = pick (is_copy block) 10 6

unfoldable pub is_whole : (block : List ℕ) → Bool
is_whole block = eqb (length block) (block_length block)

-- Bytes 1-3 source drive and address; 4 count; 5-7 destination drive and address; 8 spare; 9 control, which goes with the source.
unfoldable pub copy_of : List ℕ → CopyBlock
copy_of bytes = record {
  from = block_of (byte bytes 0 ∷ byte bytes 1 ∷ byte bytes 2 ∷ byte bytes 3 ∷ byte bytes 4 ∷ byte bytes 9 ∷ []);
  to = block_of (byte bytes 0 ∷ byte bytes 5 ∷ byte bytes 6 ∷ byte bytes 7 ∷ byte bytes 4 ∷ 0 ∷ []);
}

-- Count 0 means 256.
unfoldable pub count_of : Block → ℕ
count_of b = pick (eqb b.extra 0) 256 b.extra

-- Control bit 5: the fill comes from the buffer.
unfoldable pub from_buffer : Block → Bool
from_buffer b = eqb (b.control / 32 % 2) 1

-- Control bit 4: A's contents are kept (request E7).
unfoldable pub keeps : Block → Bool
keeps b = eqb (b.control / 16 % 2) 1

-- The alternate track's address, in the three bytes given.
unfoldable pub alternate_of : (given : List ℕ) → Lba
alternate_of given = lba_of (byte given 0) (byte given 1) (byte given 2)
