-- Bounds of a turn: all is within the scratch, and small.
use mathlib.Core.Path.{◌≡◌, sym, ap, ◌∙◌}
use mathlib.Core.List.{List}
use Prim.Native.Nat.{ℕ, ◌+◌, ◌-◌, ◌*◌, ◌/◌, ◌≤◌, ◌<◌}
use native.Mathlib.Omega.{arith}
use native.Mathlib.Nat.{add-mul, mul_assoc, mul-le-mul, mul-le-mul_right, div-mul-le_self}
use lib.ListN.{length, take}
use lib.Seq.{length-take-le}
use Rattle.copying.specs.Ends.{as_end}
use Rattle.copying.specs.declared.route.Route.{Route}
use Rattle.copying.specs.Ends.{Going}
use Rattle.copying.proofs.Laws.{Even}
use Rattle.pouring.specs.declared.turn.Progress.{Progress}
use Rattle.pouring.specs.Promises.{turn_most, scratch_length, standing, Underway}

pub times_some : (k size : ℕ) → 0 < size → k ≤ k * size
times_some k size h = let z : k * 1 ≤ k * size = mul-le-mul {n₁ = k} {n₂ = k} (omega arith) h in omega (arith, z)

-- ---- how many source sectors a turn reads
-- a track longer than a turn: 17 of its sectors
pub long_track : (here left size : ℕ) → here ≤ left → size ≤ 512 → turn_most < here * size → (1 ≤ 17) × (17 ≤ left) × (17 * size ≤ turn_most)
long_track here left size hl hs over =
    let most : here * size ≤ here * 512 = mul-le-mul {n₁ = here} {n₂ = here} (omega arith) hs in
    (omega arith, omega (arith, most, over, hl), omega (arith, hs))

-- those here, and whole tracks
pub tracks_bytes : (here sectors size : ℕ) → here * size ≤ turn_most
    → (here + (turn_most - here * size) / (sectors * size) * sectors) * size ≤ turn_most
tracks_bytes here sectors size fits =
    let k = (turn_most - here * size) / (sectors * size) in
    let e = add-mul here (k * sectors) size in
    let a = mul_assoc k sectors size in
    omega (arith, e, a, fits, div-mul-le_self (turn_most - here * size) (sectors * size))

pub tracks_few : (here sectors size : ℕ) → 0 < size → here * size ≤ turn_most
    → here + (turn_most - here * size) / (sectors * size) * sectors ≤ turn_most
tracks_few here sectors size some fits =
    let m = here + (turn_most - here * size) / (sectors * size) * sectors in
    omega (arith, tracks_bytes here sectors size fits, times_some m size some)

pub fewer_bytes : (m left size : ℕ) → left ≤ m → m * size ≤ turn_most → left * size ≤ turn_most
fewer_bytes m left size l h = omega (arith, mul-le-mul_right size l, h)

pub some_bytes : (n size : ℕ) → 1 ≤ n → 0 < size → 0 < n * size
some_bytes n size hn hs = omega (arith, times_some n size hs, hn)

-- ---- the bounds of a turn
module _ (r : Route) (n : ℕ) (s : Progress) (scratch : List ℕ) (images : List (List ℕ)) (u : Underway r n s scratch images)
    (going : as_end s.fault ≡ Going) where
  -- what waits is as long as it says
  pub held_long : length (take s.held scratch) ≡ s.held
  held_long = length-take-le s.held scratch (omega (arith, u.short, u.fitting.target_fits.within.size_most, u.scratch_long))

  pub stands_even : (last : List ℕ) → Even r (standing s scratch images last)
  stands_even last = u.even going ∙ ap (λ (i : ℕ). s.done * r.q.size + i) (sym held_long)

  pub stands_short : length (take s.held scratch) < r.q.size
  stands_short = rw held_long u.short

  module _ (m : ℕ) (hm : (1 ≤ m) × (m ≤ n - s.read) × (m * r.p.size ≤ turn_most)) (l : s.read < n) where
    pub in_turn : s.read + m ≤ n
    in_turn = omega (arith, hm.1, l)

    pub turn_fits : s.held + m * r.p.size ≤ scratch_length
    turn_fits = omega (arith, hm.2, u.short, u.fitting.target_fits.within.size_most)

    -- c of them are read
    module _ (c : ℕ) (lc : c ≤ m) where
      read_bytes_lem : c * r.p.size ≤ m * r.p.size
      read_bytes_lem = mul-le-mul_right r.p.size lc

      pub read_fits : s.held + c * r.p.size ≤ scratch_length
      read_fits = omega (arith, read_bytes_lem, turn_fits)

      pub read_few : s.read + c ≤ 256
      read_few = omega (arith, lc, in_turn, u.few)

      -- d destination sectors of them are written
      module _ (d : ℕ) (ld : d ≤ (s.held + c * r.p.size) / r.q.size) where
        pub stored_bytes : d * r.q.size ≤ s.held + c * r.p.size
        stored_bytes = omega (arith, mul-le-mul_right r.q.size ld, div-mul-le_self (s.held + c * r.p.size) r.q.size)

        all_bytes : (s.read + c) * r.p.size ≤ 131072
        all_bytes = mul-le-mul {n₂ = 256} {m₂ = 512} read_few u.fitting.source_fits.within.size_most

        pub done_bytes : (s.done + d) * r.q.size ≤ 131072
        done_bytes = omega (arith, stored_bytes, all_bytes, u.even going, add-mul s.read c r.p.size, add-mul s.done d r.q.size)

        pub done_few : s.done + d ≤ 131072
        done_few = omega (arith, done_bytes, times_some (s.done + d) r.q.size u.fitting.target_some)
