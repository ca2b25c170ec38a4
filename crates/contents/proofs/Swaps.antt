-- Transfers of addresses that lie apart, in either order: the same image, and each goes as it would alone.
use mathlib.Core.Path.{◌≡◌, refl, sym, ap, ap₂, ◌∙◌}
use mathlib.Core.Logic.{◌⊎◌, inl, inr}
use mathlib.Core.List.{List}
use Prim.Native.Nat.{ℕ, zero, suc, ◌+◌, ◌≤◌, ◌<◌}
use native.Mathlib.Omega.{arith}
use lib.ListN.{length, take, drop}
use Rattle.geometry.specs.declared.params.Params.{Params}
use Rattle.geometry.specs.declared.params.Lba.{Lba}
use Rattle.geometry.specs.Params.{address_count, OnDrive, further, next}
use Rattle.track.specs.Image.{Fits}
use Rattle.sectors.specs.Transfer.{begun, reading, writing}
use Rattle.contents.specs.Content.{put}
use Rattle.contents.proofs.Terms.{put_all, Given}
use Rattle.contents.proofs.Puts.{put_fits, put_comm}
use Rattle.contents.proofs.PutAlls.{first_on, first_long, rest_given, given_less}
use Rattle.contents.proofs.Writings.{writing_most, writing_puts, writing_fits, writing_found, writing_elsewhere}
use Rattle.contents.proofs.Alikes.{Alike, begun_alike, reading_alike, writing_alike}

-- n addresses from a on and m from b on have none in common
abbrev pub Apart : (a : Lba) → (n : ℕ) → (b : Lba) → (m : ℕ) → Type 0
Apart a n b m = (a.0 + n ≤ b.0) ⊎ (b.0 + m ≤ a.0)

-- ---- puts
module _ (p : Params) where
  -- one sector past others
  all_past : (n : ℕ) (a : Lba) (given image : List ℕ) → Fits p image → Given p n a given → (b : Lba) → OnDrive p b → (b.0 < a.0) ⊎ (a.0 + n ≤ b.0)
      → (y : List ℕ) → length y ≡ p.size → put p b y (put_all p n a given image) ≡ put_all p n a given (put p b y image)
  unfolding put_all
  all_past zero a given image f g b hb out y ly = refl
  all_past (suc n) a given image f g b hb out y ly =
      let on = first_on p n a given g in
      let long = first_long p n a given g in
      all_past n (next a) (drop p.size given) _ (put_fits p image f a on _ long) (rest_given p n a given g) b hb (onward out) y ly
      ∙ ap (put_all p n (next a) (drop p.size given)) (put_comm p image f b a hb on y (take p.size given) ly long (other out))
    where
      onward : (b.0 < a.0) ⊎ (a.0 + suc n ≤ b.0) → (b.0 < suc a.0) ⊎ (suc a.0 + n ≤ b.0)
      onward (inl h) = inl (omega arith)
      onward (inr h) = inr (omega arith)

      other : (b.0 < a.0) ⊎ (a.0 + suc n ≤ b.0) → b ≡ a → ⊥
      other (inl h) e = omega (arith, ap (λ (c : Lba). c.0) e)
      other (inr h) e = omega (arith, ap (λ (c : Lba). c.0) e)

  pub all_comm : (m : ℕ) (b : Lba) (h : List ℕ) (n : ℕ) (a : Lba) (g image : List ℕ) → Fits p image → Given p m b h → Given p n a g → Apart a n b m
      → put_all p m b h (put_all p n a g image) ≡ put_all p n a g (put_all p m b h image)
  unfolding put_all
  all_comm zero b h n a g image f gb ga apart = refl
  all_comm (suc m) b h n a g image f gb ga apart =
      let on = first_on p m b h gb in
      let long = first_long p m b h gb in
      ap (put_all p m (next b) (drop p.size h)) (all_past n a g image f ga b on (first apart) (take p.size h) long)
      ∙ all_comm m (next b) (drop p.size h) n a g (put p b (take p.size h) image) (put_fits p image f b on _ long) (rest_given p m b h gb) ga (rest apart)
    where
      first : Apart a n b (suc m) → (b.0 < a.0) ⊎ (a.0 + n ≤ b.0)
      first (inl l) = inr l
      first (inr l) = inl (omega arith)

      rest : Apart a n b (suc m) → Apart a n (next b) m
      rest (inl l) = inl (omega arith)
      rest (inr l) = inr (omega arith)

-- ---- a Write of n sectors at a, and a transfer of m sectors at b
module _ (p : Params) (image : List ℕ) (f : Fits p image) (n : ℕ) (a : Lba) (g : List ℕ) (ga : Given p n a g) (m : ℕ) (b : Lba) (apart : Apart a n b m) where
  abbrev written : List ℕ
  written = (writing p n a g (begun image)).image

  is_begun_lem : (l : List ℕ) → (begun l).image ≡ l
  unfolding begun
  is_begun_lem l = refl

  -- a Read gets what it would have got before the Write
  pub reading_past : b.0 + m ≤ address_count p → Alike (reading p m b (begun written)) (reading p m b (begun image))
  reading_past on =
      reading_alike p m b (begun written) (begun image) (begun_alike written image)
      (λ i l.
      rw (is_begun_lem written, is_begun_lem image)
      (writing_elsewhere p n a g image f ga (further b i) (omega arith) (out i l apart)))
    where
      out : (i : ℕ) → i < m → Apart a n b m → (b.0 + i < a.0) ⊎ (a.0 + (writing p n a g (begun image)).done ≤ b.0 + i)
      out i l (inl h) = inr (omega (arith, writing_most p n a g image))
      out i l (inr h) = inl (omega arith)

  -- another Write comes as far as it would have come before
  pub writing_past : (h : List ℕ) → Given p m b h → Alike (writing p m b h (begun written)) (writing p m b h (begun image))
  writing_past h gb =
      writing_alike p m b h (begun written) (begun image) (rw (is_begun_lem written) (writing_fits p n a g image f ga)) (rw (is_begun_lem image) f) gb (begun_alike written image)
      (λ c hc. rw (is_begun_lem written, is_begun_lem image) (writing_found p n a g image f ga c hc))

-- ---- two Writes, in either order
module _ (p : Params) (image : List ℕ) (f : Fits p image) where
  -- the one after the other, as puts of what each does alone
  both_put : (n : ℕ) (a : Lba) (g : List ℕ) → Given p n a g → (m : ℕ) (b : Lba) (h : List ℕ) → Given p m b h → Apart a n b m
      → (writing p m b h (begun (writing p n a g (begun image)).image)).image
      ≡ put_all p (writing p m b h (begun image)).done b h (put_all p (writing p n a g (begun image)).done a g image)
  both_put n a g ga m b h gb apart =
      writing_puts p m b h (writing p n a g (begun image)).image
      ∙ ap₂ {C = List ℕ} (λ d i. put_all p d b h i) (writing_past p image f n a g ga m b apart h gb).done (writing_puts p n a g image)

  pub writing_comm : (n : ℕ) (a : Lba) (g : List ℕ) → Given p n a g → (m : ℕ) (b : Lba) (h : List ℕ) → Given p m b h → Apart a n b m
      → (writing p m b h (begun (writing p n a g (begun image)).image)).image ≡ (writing p n a g (begun (writing p m b h (begun image)).image)).image
  writing_comm n a g ga m b h gb apart =
      let ln = writing_most p n a g image in
      let lm = writing_most p m b h image in
      both_put n a g ga m b h gb apart
      ∙ all_comm p _ b h _ a g image f (given_less p m _ b h lm gb) (given_less p n _ a g ln ga)
      (fewer (writing p n a g (begun image)).done (writing p m b h (begun image)).done ln lm apart)
      ∙ sym (both_put m b h gb n a g ga (other apart))
    where
      other : Apart a n b m → Apart b m a n
      other (inl l) = inr l
      other (inr l) = inl l

      fewer : (dn dm : ℕ) → dn ≤ n → dm ≤ m → Apart a n b m → Apart a dn b dm
      fewer dn dm ln lm (inl l) = inl (omega arith)
      fewer dn dm ln lm (inr l) = inr (omega arith)
