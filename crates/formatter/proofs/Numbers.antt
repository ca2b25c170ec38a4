-- Laws of bytes as a number: equally many bytes have the same number exactly where they are the same; and the sector of
-- an ID, behind which stand three bytes, counts 256 ^ 3.
use mathlib.Core.Path.{◌≡◌, refl, sym, ap, ap₂, ◌∙◌}
use mathlib.Core.Bool.{Bool, true, false}
use mathlib.Core.List.{List, [], ◌∷◌}
use Prim.Native.Nat.{ℕ, suc, ◌+◌, ◌*◌, ◌/◌, ◌%◌, ◌<◌}
use native.Mathlib.Omega.{arith}
use native.Mathlib.Decide.{ℕ_discrete}
use lib.ListN.{length, drop, get_or, drop_of_length-le}
use lib.Seq.{drop-cons}
use lib.Dec.{eqb}
use borrow.Author.Tests.{eq-eqb, ne_eqb}
use Rattle.std.specs.Int.{from_be_bytes, w64}
use Rattle.base.specs.Same.{same_bytes}
use Rattle.base.proofs.Sames.{same_self, same_eq}
use Rattle.track.specs.declared.id.Id.{Id}
use Rattle.track.specs.Id.{id_bytes, with_sector}
use Rattle.formatter.specs.Number.{number_from, number_of}

-- ---- lists of bytes: each number is below 256
pub data Low : List ℕ → Type 0 where
  low_none : Low []
  low_more : {x : ℕ} {xs : List ℕ} → x < 256 → Low xs → Low (x ∷ xs)

pub low_of : (xs : List ℕ) → ((i : ℕ) → get_or xs i 0 < 256) → Low xs
low_of [] h = low_none
low_of (x ∷ xs) h = low_more (h 0) (low_of xs (λ i. h (suc i)))

-- ---- the number of eight bytes, as std makes it
pub number_eight : (bytes : List ℕ) → length bytes ≡ 8
    → from_be_bytes w64 (get_or bytes 0 0 ∷ get_or bytes 1 0 ∷ get_or bytes 2 0 ∷ get_or bytes 3 0 ∷ get_or bytes 4 0 ∷ get_or bytes 5 0 ∷ get_or bytes 6 0 ∷ get_or bytes 7 0 ∷ [])
    ≡ number_of bytes
unfolding number_from number_of
number_eight bytes l =
    let on : (high i : ℕ) → i < 8 → number_from high (drop i bytes) ≡ number_from (high * 256 + get_or bytes i 0) (drop (suc i) bytes) =
    λ high i h. rw (drop-cons bytes i 0 (omega arith)) in
    let none : drop 8 bytes ≡ [] = drop_of_length-le bytes {i = 8} (omega arith) in
    let all =
    on 0 0 (omega arith) ∙ on _ 1 (omega arith) ∙ on _ 2 (omega arith) ∙ on _ 3 (omega arith) ∙ on _ 4 (omega arith)
    ∙ on _ 5 (omega arith) ∙ on _ 6 (omega arith) ∙ on _ 7 (omega arith) ∙ ap (number_from _) none in
    omega (arith, all)

-- ---- one byte more makes a number below m one below m × 256
grown : (m : ℕ) → List ℕ → ℕ
grown m [] = m
grown m (x ∷ xs) = grown (m * 256) xs

number_grown : (high m : ℕ) {bytes : List ℕ} → high < m → Low bytes → number_from high bytes < grown m bytes
unfolding number_from grown
number_grown high m h low_none = h
number_grown high m h (low_more {x} b l) = number_grown (high * 256 + x) (m * 256) (omega arith) l

-- ---- digits: the last bytes of two equal numbers are equal, and so is what stands before them
digit : (h g x y : ℕ) → x < 256 → y < 256 → h * 256 + x ≡ g * 256 + y → (h ≡ g) × (x ≡ y)
digit h g x y hx hy e = (omega arith, omega arith)

digits : (h g : ℕ) (a b : List ℕ) → length a ≡ length b → Low a → Low b → number_from h a ≡ number_from g b → (h ≡ g) × (a ≡ b)
unfolding number_from
digits h g [] [] l la lb e = (e, refl)
digits h g [] (y ∷ b) l la lb e = absurd (omega arith)
digits h g (x ∷ a) [] l la lb e = absurd (omega arith)
digits h g (x ∷ a) (y ∷ b) l (low_more hx la) (low_more hy lb) e =
    let r = digits (h * 256 + x) (g * 256 + y) a b (omega arith) la lb e in
    let d = digit h g x y hx hy r.0 in
    (d.0, ap₂ {C = List ℕ} (λ c t. c ∷ t) d.1 r.1)

-- the same bytes, the same number, and the other way
pub same_number : (a b : List ℕ) → length a ≡ length b → Low a → Low b → same_bytes a b ≡ eqb (number_of a) (number_of b)
unfolding number_of
same_number a b l la lb = by (ℕ_discrete (number_of a) (number_of b)) _ refl
  where
    by : Dec (number_of a ≡ number_of b) → (is : Bool) → same_bytes a b ≡ is → same_bytes a b ≡ eqb (number_of a) (number_of b)
    by (yes e) is q = ap (same_bytes a) (sym (digits 0 0 a b l la lb e).1) ∙ same_self a ∙ sym (eq-eqb _ _ e)
    by (no ne) true q = absurd (ne (ap number_of (same_eq a b q)))
    by (no ne) false q = q ∙ sym (ne_eqb _ _ ne)

-- ---- an ID: each field is as narrow as its bytes
pub record Narrow (id : Id) : Type 0 where
  pub mark : id.mark < 256
  pub cylinder : id.cylinder < 65536
  pub head : id.head < 256
  pub flag : id.flag < 256
  pub partner : id.partner.0 < 65536

-- a number of two bytes
high_low : (x : ℕ) → x < 65536 → (x / 256 < 256) × (x % 256 < 256)
high_low x h = (omega arith, omega arith)

-- byte 4 of eight, apart
apart : (a b c d s e f g : ℕ) → number_of (a ∷ b ∷ c ∷ d ∷ s ∷ e ∷ f ∷ g ∷ []) ≡ number_of (a ∷ b ∷ c ∷ d ∷ 0 ∷ e ∷ f ∷ g ∷ []) + s * 0x1000000
unfolding number_from number_of
apart a b c d s e f g = omega arith

module _ (id : Id) (s : ℕ) where
  pub low_id : Narrow id → s < 256 → Low (id_bytes (with_sector id s))
  unfolding id_bytes with_sector
  low_id n h =
      let c = high_low id.cylinder n.cylinder in
      let u = high_low id.partner.0 n.partner in
      low_more n.mark (low_more c.0 (low_more c.1 (low_more n.head (low_more h (low_more n.flag (low_more u.0 (low_more u.1 low_none)))))))

  -- the number of the ID with another sector
  pub number_id : id.sector ≡ 0 → number_of (id_bytes (with_sector id s)) ≡ number_of (id_bytes id) + s * 0x1000000
  unfolding id_bytes with_sector
  number_id z = rw z (apart id.mark (id.cylinder / 256) (id.cylinder % 256) id.head s id.flag (id.partner.0 / 256) (id.partner.0 % 256))

  pub id_fits : Narrow id → s < 256 → number_of (id_bytes (with_sector id s)) < 0x10000000000000000
  unfolding number_of grown id_bytes with_sector
  id_fits n h = number_grown 0 1 (omega arith) (low_id n h)
