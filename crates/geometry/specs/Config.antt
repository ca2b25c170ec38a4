-- Document 01, 'Parameters': when ten configuration bytes are valid with an image, and when a label is.
use Rattle.std.specs.Prelude.{Bool, true, false, ◌&&◌, ◌||◌, List, [], ◌∷◌, ℕ, ◌+◌, ◌*◌, ◌/◌, ◌%◌, length, get_or, leb, eqb}
use Rattle.base.specs.Byte.{byte}
use Rattle.base.specs.Pick.{pick}
use Rattle.base.specs.Part.{part}
use Rattle.base.specs.Same.{same_bytes}
use Rattle.geometry.specs.declared.params.Params.{Params}
use Rattle.geometry.specs.declared.medium.Medium.{Medium}
use Rattle.geometry.specs.declared.medium.Ranges.{Ranges}
use Rattle.std.specs.Prelude.{Option, Some, None}
use Rattle.geometry.specs.declared.config.Size.{Size}
use Rattle.geometry.specs.Params.{image_length}
use Rattle.geometry.specs.Medium.{is_floppy, is_in, ranges_of}

-- What a configuration gives with an image of some length: parameters, if it is valid.
abbrev pub Setting : Type 0
Setting = Option Params

-- Byte 4: 0 for D = 128 data bytes and n = 16 sectors a track, 1 for D = 256 and n = 32, 2 for D = 512 and n = 17.
abbrev pub sizes : List Size
sizes = record { bytes = 128; sectors = 16 } ∷ record { bytes = 256; sectors = 32 } ∷ record { bytes = 512; sectors = 17 } ∷ []

unfoldable pub size_for : (byte : ℕ) → Size
size_for byte = get_or sizes byte (record { bytes = 128; sectors = 16 })

abbrev pub params_of : (cylinders heads : ℕ) → Size → Params
params_of cylinders heads s = record { cylinders = cylinders; heads = heads; sectors = s.sectors; size = s.bytes }

-- The image must have at least the length that the parameters give.
unfoldable pub fitted_to : Params → (image : ℕ) → Setting
fitted_to p image = pick (leb (image_length p) image) (Some p) None

-- Each field is in its range: byte 3 by its two nibbles.
unfoldable pub fields_in : Ranges → (cylinders heads step size burst : ℕ) → Bool
fields_in ranges cylinders heads step size burst =
    is_in ranges.cylinders cylinders && is_in ranges.heads heads && is_in ranges.step (step / 16)
    && is_in ranges.nibble (step % 16) && is_in ranges.size size && is_in ranges.burst burst

unfoldable pub setting_by : Medium → (cylinders heads step size burst image : ℕ) → Setting
setting_by medium cylinders heads step size burst image =
    pick (fields_in (ranges_of medium) cylinders heads step size burst)
    (fitted_to (params_of cylinders heads (size_for size)) image)
    None

-- What ten configuration bytes give with an image of this length: cylinders high byte first.
unfoldable pub setting_of : Medium → (config : List ℕ) → (image : ℕ) → Setting
setting_of medium c image =
    pick (eqb (length c) 10)
    (setting_by medium (byte c 0 * 256 + byte c 1) (byte c 2) (byte c 3) (byte c 4) (byte c 9) image)
    None

unfoldable pub is_valid : Setting → Bool
is_valid None = false
is_valid (Some p) = true

-- Bytes 0-15 of the image are the label: ten configuration bytes, then six zeros.
abbrev pub label_config : (image : List ℕ) → List ℕ
label_config image = part 0 10 image

abbrev pub label_rest : List ℕ
label_rest = 0 ∷ 0 ∷ 0 ∷ 0 ∷ 0 ∷ 0 ∷ []

unfoldable pub label_setting : Medium → (image : List ℕ) → Setting
label_setting medium image =
    pick (same_bytes (part 10 6 image) label_rest) (setting_of medium (label_config image) (length image)) None

-- These ten bytes are a valid label's: the six zeros and the image's length count too.
unfoldable pub label_holds : Medium → (image config : List ℕ) → Bool
label_holds medium image config = is_valid (label_setting medium image) && same_bytes (label_config image) config

-- ---- Request E8, a bound of Initialize alone: a configuration and a label above it are valid all the same
-- On a hard disk bytes 7-8, the cylinder from which on the drive precompensates, high byte first, are at most the cylinder count.
abbrev pub precompensation_in : Medium → (config : List ℕ) → Bool
precompensation_in medium c = is_floppy medium || leb (byte c 7 * 256 + byte c 8) (byte c 0 * 256 + byte c 1)
