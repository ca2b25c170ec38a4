-- Document 01, 'Parameters', and request E3: which kind of drive a number names, and what its configuration bytes may be.
use Rattle.std.specs.Prelude.{Bool, true, false, ◌&&◌, ℕ, leb, ltb}
use Rattle.base.specs.Pick.{pick}
use Rattle.geometry.specs.declared.medium.Medium.{Medium}
use Rattle.geometry.specs.declared.medium.Medium.TheVariants.{HardDisk, Floppy}
use Rattle.geometry.specs.declared.medium.Range.{Range}
use Rattle.geometry.specs.declared.medium.Ranges.{Ranges}

-- Drives 0 and 1 are hard disks, drives 2 and 3 floppies.
unfoldable pub medium_of : (drive : ℕ) → Medium
medium_of drive = pick (ltb drive 2) HardDisk Floppy

unfoldable pub is_floppy : Medium → Bool
is_floppy HardDisk = false
is_floppy Floppy = true

abbrev pub between : (least most : ℕ) → Range
between least most = record { least = least; most = most }

unfoldable pub is_in : Range → (value : ℕ) → Bool
is_in range value = leb range.least value && leb value range.most

-- Hard disks: C is 1 to 1,024 and H 1 to 7; byte 3 has a step option of 0 to 4 in its high nibble, bits 3-1 zero and bit 0
-- either; byte 4 is 1 or 2; byte 9 is 0 to 11. Floppies: byte 0 is zero and C 1 to 255, H is 1 or 2; byte 3 has any high nibble
-- and low nibble 1; byte 4 is zero; byte 9 is any. Bytes 5 to 8 are any on both; of 7 and 8 Initialize asks more (`precompensation_in`,
-- request E8).
unfoldable pub ranges_of : Medium → Ranges
ranges_of HardDisk = record {
  cylinders = between 1 1024;
  heads = between 1 7;
  step = between 0 4;
  nibble = between 0 1;
  size = between 1 2;
  burst = between 0 11;
}
ranges_of Floppy = record {
  cylinders = between 1 255;
  heads = between 1 2;
  step = between 0 15;
  nibble = between 1 1;
  size = between 0 0;
  burst = between 0 255;
}
