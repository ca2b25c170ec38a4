-- Which configurations and labels are valid, byte by byte, from document 01, 'Parameters', and request E3 (engine and machine
-- share what is said of configurations); and what a label holds.
use Prim.Native.Nat.{ℕ}
use mathlib.Core.Path.{◌≡◌, refl}
use mathlib.Core.Bool.{Bool, true, false}
use mathlib.Core.List.{List, [], ◌∷◌, ◌++◌, map}
use lib.ListN.{set, take, replicate}
use Rattle.base.specs.Pick.{pick}
use Rattle.base.specs.Part.{part}
use Rattle.base.specs.Same.{same_bytes}
use Rattle.geometry.specs.declared.medium.Medium.{Medium}
use Rattle.geometry.specs.declared.medium.Medium.TheVariants.{HardDisk, Floppy}
use Rattle.geometry.specs.Config.{Setting}
use Rattle.std.specs.Prelude.{Some, None}
use Rattle.geometry.specs.Medium.{medium_of, is_floppy, is_in, ranges_of}
use Rattle.geometry.specs.Config.{size_for, fitted_to, fields_in, setting_by, setting_of, is_valid, label_setting, label_holds}

-- C, H, n and D; or nothing
gives : Setting → List ℕ
gives None = []
gives (Some p) = p.cylinders ∷ p.heads ∷ p.sectors ∷ p.size ∷ []

-- one cylinder, one head, 256 bytes a sector; bytes 5 to 8 are any
plain : List ℕ
plain = 0 ∷ 1 ∷ 1 ∷ 0 ∷ 1 ∷ 0xFF ∷ 0xFF ∷ 0xFF ∷ 0xFF ∷ 11 ∷ []

-- the same on a floppy: byte 3 is 1, byte 4 zero, bytes 5 to 9 are any
floppy_plain : List ℕ
floppy_plain = 0 ∷ 1 ∷ 1 ∷ 1 ∷ 0 ∷ 0xFF ∷ 0xFF ∷ 0xFF ∷ 0xFF ∷ 0xFF ∷ []

own : Medium → List ℕ
own HardDisk = plain
own Floppy = floppy_plain

-- whether such a one is valid with byte i changed to each of these, in an image that is long enough
valid : Medium → (i : ℕ) → List ℕ → List Bool
valid medium i = map (λ (v : ℕ). is_valid (setting_of medium (set (own medium) i v) 100000000))

configurations :
    -- cylinders, high byte first, 1 to 1,024
    (valid HardDisk 1 (0 ∷ 1 ∷ 255 ∷ []) ≡ false ∷ true ∷ true ∷ [])
    × (map (λ (c : List ℕ). gives (setting_of HardDisk (c ++ (7 ∷ 0 ∷ 2 ∷ 0 ∷ 0 ∷ 0 ∷ 0 ∷ 0 ∷ [])) 100000000))
    ((4 ∷ 0 ∷ []) ∷ (4 ∷ 1 ∷ []) ∷ (1 ∷ 2 ∷ []) ∷ (0 ∷ 0 ∷ []) ∷ [])
    ≡ (1024 ∷ 7 ∷ 17 ∷ 512 ∷ []) ∷ [] ∷ (258 ∷ 7 ∷ 17 ∷ 512 ∷ []) ∷ [] ∷ [])
    -- heads, 1 to 7
    × (valid HardDisk 2 (0 ∷ 1 ∷ 7 ∷ 8 ∷ []) ≡ false ∷ true ∷ true ∷ false ∷ [])
    -- step option 0 to 4 in the high nibble, bits 3-1 zero, bit 0 either
    × (valid HardDisk 3 (0x00 ∷ 0x01 ∷ 0x02 ∷ 0x04 ∷ 0x08 ∷ 0x40 ∷ 0x41 ∷ 0x42 ∷ 0x50 ∷ 0xF0 ∷ [])
    ≡ true ∷ true ∷ false ∷ false ∷ false ∷ true ∷ true ∷ false ∷ false ∷ false ∷ [])
    -- 1 for 256 bytes and 32 sectors, 2 for 512 and 17
    × (valid HardDisk 4 (0 ∷ 1 ∷ 2 ∷ 3 ∷ []) ≡ false ∷ true ∷ true ∷ false ∷ [])
    × (gives (setting_of HardDisk plain 100000000) ≡ 1 ∷ 1 ∷ 32 ∷ 256 ∷ [])
    -- byte 9, 0 to 11
    × (valid HardDisk 9 (0 ∷ 11 ∷ 12 ∷ 255 ∷ []) ≡ true ∷ true ∷ false ∷ false ∷ [])
    -- ten bytes
    × (map (λ (c : List ℕ). is_valid (setting_of HardDisk c 100000000)) (take 9 plain ∷ plain ∷ (plain ++ (0 ∷ [])) ∷ []) ≡ false ∷ true ∷ false ∷ [])
    -- an image of at least 16 + C × H × n × (8 + D) bytes
    × (map (λ (n : ℕ). is_valid (setting_of HardDisk plain n)) (0 ∷ 8463 ∷ 8464 ∷ 8465 ∷ []) ≡ false ∷ false ∷ true ∷ true ∷ [])
unfolding gives plain own valid is_valid setting_of setting_by fields_in is_in ranges_of size_for fitted_to pick
configurations = (refl, refl, refl, refl, refl, refl, refl, refl, refl)

floppies :
    -- byte 0 zero; cylinders 1 to 255; heads 1 or 2
    (valid Floppy 0 (0 ∷ 1 ∷ 4 ∷ 255 ∷ []) ≡ true ∷ false ∷ false ∷ false ∷ [])
    × (valid Floppy 1 (0 ∷ 1 ∷ 255 ∷ []) ≡ false ∷ true ∷ true ∷ [])
    × (valid Floppy 2 (0 ∷ 1 ∷ 2 ∷ 3 ∷ 7 ∷ []) ≡ false ∷ true ∷ true ∷ false ∷ false ∷ [])
    -- any high nibble and low nibble 1
    × (valid Floppy 3 (0x00 ∷ 0x01 ∷ 0x02 ∷ 0x03 ∷ 0x09 ∷ 0x10 ∷ 0x41 ∷ 0x51 ∷ 0x53 ∷ 0xF1 ∷ 0xFF ∷ [])
    ≡ false ∷ true ∷ false ∷ false ∷ false ∷ false ∷ true ∷ true ∷ false ∷ true ∷ false ∷ [])
    -- byte 4 zero
    × (valid Floppy 4 (0 ∷ 1 ∷ 2 ∷ 128 ∷ []) ≡ true ∷ false ∷ false ∷ false ∷ [])
    -- bytes 5 to 9 any
    × (map (λ (i : ℕ). valid Floppy i (0 ∷ 12 ∷ 255 ∷ [])) (5 ∷ 6 ∷ 7 ∷ 8 ∷ 9 ∷ []) ≡ replicate 5 (replicate 3 true))
    -- 16 sectors of 128 bytes a track, and at least 16 + cylinders × heads × 2,176 bytes
    × (gives (setting_of Floppy (set (set floppy_plain 1 255) 2 2) 1109776) ≡ 255 ∷ 2 ∷ 16 ∷ 128 ∷ [])
    × (map (λ (n : ℕ). is_valid (setting_of Floppy (set (set floppy_plain 1 255) 2 2) n)) (1109775 ∷ 1109776 ∷ []) ≡ false ∷ true ∷ [])
    × (map (λ (n : ℕ). is_valid (setting_of Floppy floppy_plain n)) (0 ∷ 2191 ∷ 2192 ∷ 2193 ∷ []) ≡ false ∷ false ∷ true ∷ true ∷ [])
    -- ten bytes
    × (map (λ (c : List ℕ). is_valid (setting_of Floppy c 100000000)) (take 9 floppy_plain ∷ floppy_plain ∷ (floppy_plain ++ (0 ∷ [])) ∷ [])
    ≡ false ∷ true ∷ false ∷ [])
    -- neither is valid on the other medium
    × (is_valid (setting_of Floppy plain 100000000) ≡ false)
    × (is_valid (setting_of HardDisk floppy_plain 100000000) ≡ false)
    -- which drives are floppies
    × (map (λ (drive : ℕ). is_floppy (medium_of drive)) (0 ∷ 1 ∷ 2 ∷ 3 ∷ []) ≡ false ∷ false ∷ true ∷ true ∷ [])
unfolding gives plain floppy_plain own valid is_valid setting_of setting_by fields_in is_in ranges_of is_floppy medium_of size_for fitted_to pick
floppies = (refl, refl, refl, refl, refl, refl, refl, refl, refl, refl, refl, refl, refl)

-- a label: the configuration, then six zeros
labelled : (label : List ℕ) → Bool
labelled label = is_valid (label_setting HardDisk (label ++ replicate 8448 0xEE))

labels :
    (labelled (plain ++ replicate 6 0) ≡ true)
    × (map (λ (i : ℕ). labelled (plain ++ set (replicate 6 0) i 1)) (0 ∷ 1 ∷ 2 ∷ 3 ∷ 4 ∷ 5 ∷ []) ≡ replicate 6 false)
    × (labelled (set plain 2 8 ++ replicate 6 0) ≡ false)
    -- one byte short; under 16 bytes
    × (is_valid (label_setting HardDisk (plain ++ replicate 6 0 ++ replicate 8447 0xEE)) ≡ false)
    × (map (λ (n : ℕ). is_valid (label_setting HardDisk (take n (plain ++ replicate 6 0)))) (0 ∷ 9 ∷ 10 ∷ 15 ∷ 16 ∷ []) ≡ replicate 5 false)
    -- a floppy's label too ends in six zeros, and a hard disk's is none
    × (map (λ (label : List ℕ). is_valid (label_setting Floppy (label ++ replicate 2176 0xEE)))
    ((floppy_plain ++ replicate 6 0) ∷ (floppy_plain ++ set (replicate 6 0) 5 1) ∷ (plain ++ replicate 6 0) ∷ []) ≡ true ∷ false ∷ false ∷ [])
unfolding plain floppy_plain labelled is_valid label_setting part same_bytes setting_of setting_by fields_in is_in ranges_of size_for fitted_to pick
labels = (refl, refl, refl, refl, refl, refl)

-- what a label holds: its ten bytes and no others, if it is valid as a whole
held : (label config : List ℕ) → Bool
held label = label_holds HardDisk (label ++ replicate 8448 0xEE)

holdings :
    (held (plain ++ replicate 6 0) plain ≡ true)
    -- each of the ten bytes counts
    × (map (λ (i : ℕ). held (plain ++ replicate 6 0) (set plain i 7)) (0 ∷ 1 ∷ 2 ∷ 3 ∷ 4 ∷ 5 ∷ 6 ∷ 7 ∷ 8 ∷ 9 ∷ []) ≡ replicate 10 false)
    -- nine bytes, and eleven
    × (map (held (plain ++ replicate 6 0)) (take 9 plain ∷ (plain ++ (0 ∷ [])) ∷ []) ≡ replicate 2 false)
    -- each of the six zeros counts
    × (map (λ (i : ℕ). held (plain ++ set (replicate 6 0) i 1) plain) (0 ∷ 1 ∷ 2 ∷ 3 ∷ 4 ∷ 5 ∷ []) ≡ replicate 6 false)
    -- the same bytes, not valid; an image one byte short; no bytes
    × (held (set plain 2 8 ++ replicate 6 0) (set plain 2 8) ≡ false)
    × (label_holds HardDisk (plain ++ replicate 6 0 ++ replicate 8447 0xEE) plain ≡ false)
    × (map (label_holds HardDisk []) ([] ∷ plain ∷ []) ≡ replicate 2 false)
    -- a floppy's label: each of the ten bytes counts there too, those that are not read among them
    × (map (λ (config : List ℕ). label_holds Floppy (floppy_plain ++ (replicate 6 0 ++ replicate 2176 0xEE)) config)
    (floppy_plain ∷ set floppy_plain 5 0 ∷ set floppy_plain 9 0 ∷ set floppy_plain 3 0xF1 ∷ []) ≡ true ∷ false ∷ false ∷ false ∷ [])
unfolding plain floppy_plain held label_holds is_valid label_setting part same_bytes setting_of setting_by fields_in is_in ranges_of size_for fitted_to pick
holdings = (refl, refl, refl, refl, refl, refl, refl, refl)
