-- What the checks have shown by the time that a command's function runs: what contracts below the public calls may ask for.
use Rattle.std.specs.Prelude.{ℕ, ◌+◌, ◌*◌, ◌≤◌, ◌<◌, List}
use Rattle.geometry.specs.declared.params.Params.{Params}
use Rattle.geometry.specs.Params.{track_count, track_of, address_count}
use Rattle.track.specs.Image.{Fits}
use Rattle.copying.specs.Listwise.{filled_by, Fitting}
use Rattle.model.specs.declared.block.Block.{Block}
use Rattle.model.specs.declared.block.CopyBlock.{CopyBlock}
use Rattle.model.specs.Block.{count_of}
use Rattle.model.specs.Copies.{route_of}

-- An address has 21 bits.
abbrev pub address_limit : ℕ
address_limit = 2097152

-- A block taken apart names one of four drives and an address of 21 bits.
pub record WellFormed (b : Block) : Type 0 where
  pub drive : b.drive < 4
  pub address : b.address.0 < address_limit

-- A command on the track of its block's address, with an interleave.
pub record OnTrack (b : Block) (p : Params) (image : List ℕ) : Type 0 where
  pub fits : Fits p image
  pub block : WellFormed b
  pub track : (track_of p b.address).0 < track_count p
  pub interleave : b.extra < p.sectors

-- A command on as many sectors as its count says, with room for their bytes.
pub record OnSectors (b : Block) (p : Params) (image : List ℕ) (room : ℕ) : Type 0 where
  pub fits : Fits p image
  pub block : WellFormed b
  pub inside : b.address.0 + count_of b ≤ address_count p
  pub enough : count_of b * p.size ≤ room

-- A Copy over two ranges that lie on their drives and apart; it fills no more than 1,024 sectors.
pub record OnDrives (k : CopyBlock) (p q : Params) (images : List (List ℕ)) : Type 0 where
  pub from : WellFormed k.from
  pub to : WellFormed k.to
  pub fitting : Fitting (route_of k p q) (count_of k.from) images
  pub few : filled_by (count_of k.from) p.size q.size ≤ 1024
