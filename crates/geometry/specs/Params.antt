-- Document 01, 'Tracks and slots' and the end of 'Parameters': what the parameters C, H, n and D give.
use Rattle.std.specs.Prelude.{ℕ, suc, ◌+◌, ◌-◌, ◌*◌, ◌/◌, ◌%◌, ◌≤◌, ◌<◌}
use Rattle.geometry.specs.declared.params.Lba.{Lba}
use Rattle.geometry.specs.declared.params.Track.{Track}
use Rattle.geometry.specs.declared.params.Params.{Params}

-- The ranges that every proof about tracks goes by: any n from 2 to 32 and any D up to 512.
pub record Within (p : Params) : Type 0 where
  pub cylinders_some : 1 ≤ p.cylinders
  pub cylinders_most : p.cylinders ≤ 1024
  pub heads_some : 1 ≤ p.heads
  pub heads_most : p.heads ≤ 7
  pub sectors_some : 2 ≤ p.sectors
  pub sectors_most : p.sectors ≤ 32
  pub size_most : p.size ≤ 512

-- The parameters give track count, slot size and image length.
abbrev pub track_count : Params → ℕ
track_count p = p.cylinders * p.heads

-- A slot is 8 ID bytes and D data bytes.
abbrev pub slot_size : Params → ℕ
slot_size p = 8 + p.size

-- A track has n slots.
abbrev pub track_size : Params → ℕ
track_size p = p.sectors * slot_size p

-- 16 + C × H × n × (8 + D)
abbrev pub image_length : Params → ℕ
image_length p = 16 + track_count p * track_size p

-- Tracks follow the label in order.
abbrev pub track_start : Params → Track → ℕ
track_start p t = 16 + t.0 * track_size p

-- Track = address div n, sector = address mod n.
abbrev pub track_of : Params → Lba → Track
track_of p a = record { 0 = a.0 / p.sectors }

abbrev pub sector_of : Params → Lba → ℕ
sector_of p a = a.0 % p.sectors

-- Cylinder = track div H, head = track mod H.
abbrev pub cylinder_of : Params → Track → ℕ
cylinder_of p t = t.0 / p.heads

abbrev pub head_of : Params → Track → ℕ
head_of p t = t.0 % p.heads

-- The last address of the drive.
abbrev pub last_address : Params → Lba
last_address p = record { 0 = track_count p * p.sectors - 1 }

-- ---- Addresses and tracks one after the other
-- Addresses of the drive.
abbrev pub address_count : Params → ℕ
address_count p = track_count p * p.sectors

abbrev pub OnDrive : Params → Lba → Type 0
OnDrive p a = a.0 < address_count p

-- An address in three bytes, high byte first.
abbrev pub lba_of : (high middle low : ℕ) → Lba
lba_of high middle low = record { 0 = high * 65536 + middle * 256 + low }

-- The address n further on, and the next one.
abbrev pub further : Lba → (n : ℕ) → Lba
further a n = record { 0 = a.0 + n }

abbrev pub next : Lba → Lba
next a = record { 0 = suc a.0 }

-- Track number k, and the next one.
abbrev pub track : (k : ℕ) → Track
track k = record { 0 = k }

abbrev pub next_track : Track → Track
next_track t = record { 0 = suc t.0 }
