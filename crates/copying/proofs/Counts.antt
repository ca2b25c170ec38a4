-- How many sectors a number of bytes fills.
use mathlib.Core.Path.{◌≡◌, sym, ap, ◌∙◌}
use Prim.Native.Nat.{ℕ, suc, ◌+◌, ◌-◌, ◌*◌, ◌/◌, ◌%◌, ◌≤◌, ◌<◌}
use native.Mathlib.Omega.{arith}
use native.Mathlib.Nat.{suc-mul, one-mul, add-mul, mul-le-mul_right, div-add-mod', mod-lt}
use native.Mathlib.Decide.{dec_lt}

-- `bytes` are k whole sectors of `size` bytes, and less than one more
pub record Full (size k bytes : ℕ) : Type 0 where
  pub enough : k * size ≤ bytes
  pub no_more : bytes < k * size + size

pub full_quotient : (size bytes : ℕ) → 0 < size → Full size (bytes / size) bytes
full_quotient size bytes h =
    let e = div-add-mod' bytes size in
    let l = mod-lt bytes h in
    record { enough = omega (arith, e); no_more = omega (arith, e, l) }

pub full_most : (size k j bytes more : ℕ) → Full size k bytes → Full size j more → bytes ≤ more → k ≤ j
full_most size k j bytes more f g l = by (dec_lt j k)
  where
    by : Dec (j < k) → k ≤ j
    by (no h) = omega arith
    by (yes h) =
        let z : suc j * size ≤ k * size = mul-le-mul_right size h in
        absurd (omega (arith, z, suc-mul j size, f.enough, g.no_more))

full_is : (size k bytes : ℕ) → 0 < size → Full size k bytes → bytes / size ≡ k
full_is size k bytes h f =
    let g = full_quotient size bytes h in
    let l = full_most size k (bytes / size) bytes bytes f g (omega arith) in
    let m = full_most size (bytes / size) k bytes bytes g f (omega arith) in
    omega (arith, l, m)

-- those of the bytes at the front, and those behind
pub record Split (size k j : ℕ) : Type 0 where
  pub more : ℕ
  pub sum : k + more ≡ j
  pub times : k * size + more * size ≡ j * size

pub full_split : (size k j bytes more : ℕ) → Full size k bytes → Full size j more → bytes ≤ more → Split size k j
full_split size k j bytes more f g l =
    let most = full_most size k j bytes more f g l in
    let s : k + (j - k) ≡ j = omega arith in
    record { more = j - k; sum = s; times = sym (add-mul k (j - k) size) ∙ ap (λ (i : ℕ). i * size) s }

-- ---- one source sector of ds bytes more, after which k sectors of dd bytes are written
module _ (ds dd read done rest k : ℕ) (even : read * ds ≡ done * dd + rest) where
  pub even_next : (left : ℕ) → left + k * dd ≡ rest + ds → suc read * ds ≡ (done + k) * dd + left
  even_next left e = omega (arith, even, e, suc-mul read ds, add-mul done k dd)

  -- the sector behind v of them needed that source sector, and no more
  pub needed_enough : k * dd ≤ rest + ds → (v : ℕ) → v < done + k → suc v * dd ≤ suc read * ds
  needed_enough h v l =
      let z : suc v * dd ≤ (done + k) * dd = mul-le-mul_right dd l in
      omega (arith, even, h, z, suc-mul read ds, add-mul done k dd)

  pub needed_no_more : rest < dd → (v : ℕ) → done ≤ v → suc read * ds < suc v * dd + ds
  needed_no_more h v l =
      let z : done * dd ≤ v * dd = mul-le-mul_right dd l in
      omega (arith, even, h, z, suc-mul read ds, suc-mul v dd)

-- ---- the last sector filled whole, or in part
pub filled_whole : (bytes size : ℕ) → 0 < size → bytes % size ≡ 0 → (bytes + (size - 1)) / size ≡ bytes / size
filled_whole bytes size h z =
    let e = div-add-mod' bytes size in
    full_is size (bytes / size) (bytes + (size - 1)) h (record { enough = omega (arith, e, z); no_more = omega (arith, e, z) })

pub filled_part : (bytes size : ℕ) → 0 < size → (bytes % size ≡ 0 → ⊥) → (bytes + (size - 1)) / size ≡ suc (bytes / size)
filled_part bytes size h z =
    let e = div-add-mod' bytes size in
    let l = mod-lt bytes h in
    let some : 0 < bytes % size = not_none (bytes % size) z in
    let s = suc-mul (bytes / size) size in
    full_is size (suc (bytes / size)) (bytes + (size - 1)) h (record { enough = omega (arith, e, l, some, s); no_more = omega (arith, e, l, some, s) })
  where
    not_none : (k : ℕ) → (k ≡ 0 → ⊥) → 0 < k
    not_none k ne = by (dec_lt 0 k)
      where
        by : Dec (0 < k) → 0 < k
        by (yes g) = g
        by (no g) = absurd (ne (omega arith))

pub filled_most : (c n ds dd k : ℕ) → 0 < dd → c ≤ n → Full dd k (c * ds) → k ≤ (n * ds + (dd - 1)) / dd
filled_most c n ds dd k h l f =
    full_most dd k ((n * ds + (dd - 1)) / dd) (c * ds) (n * ds + (dd - 1)) f (full_quotient dd (n * ds + (dd - 1)) h)
    (let z : c * ds ≤ n * ds = mul-le-mul_right ds l in omega (arith, z))

-- some bytes fill some sector
pub filled_some : (n ds dd : ℕ) → 0 < n → 0 < ds → 0 < dd → 0 < (n * ds + (dd - 1)) / dd
filled_some n ds dd hn hs hd =
    let z : 1 * ds ≤ n * ds = mul-le-mul_right ds hn in
    let one = one-mul dd in
    full_most dd 1 ((n * ds + (dd - 1)) / dd) dd (n * ds + (dd - 1)) (record { enough = omega (arith, one); no_more = omega (arith, one) })
    (full_quotient dd (n * ds + (dd - 1)) hd) (omega (arith, z, one-mul ds))

-- ---- the source sectors needed
pub needed_is : (ds bytes read : ℕ) → 0 < ds → bytes ≤ read * ds → read * ds < bytes + ds → (bytes + (ds - 1)) / ds ≡ read
needed_is ds bytes read h l m = full_is ds read (bytes + (ds - 1)) h (record { enough = omega arith; no_more = omega arith })

pub needed_most : (ds dd c k v read : ℕ) → Full dd k (c * ds) → v < k → read * ds < suc v * dd + ds → read ≤ c
needed_most ds dd c k v read f l m = by (dec_lt c read)
  where
    by : Dec (c < read) → read ≤ c
    by (no h) = omega arith
    by (yes h) =
        let y : suc c * ds ≤ read * ds = mul-le-mul_right ds h in
        let z : suc v * dd ≤ k * dd = mul-le-mul_right dd l in
        absurd (omega (arith, y, z, m, suc-mul c ds, f.enough))

pub needed_past : (ds bytes n : ℕ) → 0 < ds → n * ds < bytes → n < (bytes + (ds - 1)) / ds
needed_past ds bytes n h l =
    let z = full_most ds (suc n) ((bytes + (ds - 1)) / ds) (suc n * ds) (bytes + (ds - 1))
    (record { enough = omega arith; no_more = omega arith }) (full_quotient ds (bytes + (ds - 1)) h) (omega (arith, suc-mul n ds)) in
    omega (arith, z)
