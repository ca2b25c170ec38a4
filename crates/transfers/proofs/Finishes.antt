-- What Read and Write leave, by what was transferred.
use mathlib.Core.Path.{◌≡◌}
use mathlib.Core.Bool.{Bool, true, false}
use mathlib.Core.List.{List}
use Prim.Native.Nat.{ℕ, ◌+◌, ◌*◌, ◌≤◌, ◌<◌}
use native.Mathlib.Omega.{arith}
use native.Mathlib.Nat.{mul-le-mul_right}
use lib.ListN.{length}
use lib.Dec.{eqb}
use Rattle.base.specs.Pick.{pick}
use Rattle.base.specs.Part.{splice}
use Rattle.geometry.specs.declared.params.Lba.{Lba}
use Rattle.geometry.specs.Params.{further}
use Rattle.sectors.specs.Transfer.{Transfer}
use Rattle.model.specs.declared.block.Block.{Block}
use Rattle.model.specs.declared.record.Drive.{Drive}
use Rattle.model.specs.declared.record.Ending.{Ending}
use Rattle.model.specs.Block.{count_of}
use Rattle.model.specs.Record.{effect}
use Rattle.model.specs.Commands.{transfer_ending, transferred}
use Rattle.model.specs.Premises.{address_limit}

-- what a transfer leaves, with the last sector at the buffer's front
pub transfer_is : (b : Block) (entry : Drive) (x : Transfer) (sectors code bytes : ℕ) (last before after : List ℕ) (r : Ending)
    → after ≡ splice 0 last before → r ≡ transfer_ending b sectors code bytes entry
    → sectors ≡ x.done → code ≡ x.code → bytes ≡ length x.handed → last ≡ x.last
    → effect r after x.handed x.image ≡ transferred b entry before x
unfolding transferred
transfer_is b entry x sectors code bytes last before after r ea er es ec eb el = rw (er, ea, es, ec, eb, el)

-- ---- counts
pick_most : (t : Bool) (m n k : ℕ) → m ≤ k → n ≤ k → pick t m n ≤ k
unfolding pick
pick_most true m n k hm hn = hm
pick_most false m n k hm hn = hn

pub count_most : (b : Block) (n : ℕ) → b.extra < 256 → n ≡ count_of b → n ≤ 256
unfolding count_of
count_most b n h e = rw e (pick_most (eqb b.extra 0) 256 b.extra 256 (omega arith) (omega arith))

-- an address of 21 bits has sectors of a transfer behind it
pub further_below : (a b : Lba) (sectors : ℕ) → sectors ≤ 256 → a.0 + 256 < address_limit → b ≡ further a sectors → b.0 < address_limit
further_below a b sectors h l e = rw e (omega arith)

-- the sectors asked for have room
pub room_all : (n m size len : ℕ) → n ≡ m → m * size ≤ len → n * size ≤ len
room_all n m size len e h = rw e h

-- so do those done
pub room_done : (k n m size len : ℕ) → k ≤ n → n ≡ m → m * size ≤ len → k * size ≤ len
room_done k n m size len l e h = omega (arith, mul-le-mul_right size l, room_all n m size len e h)
