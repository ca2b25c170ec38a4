-- Sectors put one after the other at addresses of the drive: each address among them reads what was given, every other as before.
use mathlib.Core.Path.{◌≡◌, refl, sym, ap, ◌∙◌}
use mathlib.Core.Logic.{◌⊎◌, inl, inr}
use mathlib.Core.List.{List}
use Prim.Native.Nat.{ℕ, zero, suc, ◌+◌, ◌*◌, ◌≤◌, ◌<◌}
use native.Mathlib.Omega.{arith}
use native.Mathlib.Nat.{suc-mul, zero-mul, add-zero, mul-le-mul_right}
use lib.ListN.{length, take, drop, length-take, length-drop}
use lib.Seq.{drop-drop}
use Rattle.base.specs.Part.{part}
use Rattle.geometry.specs.declared.params.Params.{Params}
use Rattle.geometry.specs.declared.params.Lba.{Lba}
use Rattle.geometry.specs.Params.{OnDrive, further, next}
use Rattle.geometry.proofs.Addresses.{same_lba, further_next}
use Rattle.track.specs.Image.{Fits}
use Rattle.sectors.specs.Transfer.{found}
use Rattle.contents.specs.Content.{Bytes, content_of}
use Rattle.contents.proofs.Terms.{Stands, stands, put_all, Given}
use Rattle.contents.proofs.Puts.{put_length, put_fits, put_found, put_same, put_other}

module _ (p : Params) (n : ℕ) (a : Lba) (given : List ℕ) (g : Given p (suc n) a given) where
  pub first_on : OnDrive p a
  first_on = omega (arith, g.on_drive_lem)

  pub first_long : length (take p.size given) ≡ p.size
  first_long = simp length-take (omega (arith, suc-mul n p.size, g.enough))

  pub rest_given : Given p n (next a) (drop p.size given)
  rest_given = record { on_drive_lem = omega (arith, g.on_drive_lem); enough = simp length-drop (omega (arith, suc-mul n p.size, g.enough)) }

-- fewer of them
pub given_less : (p : Params) (n m : ℕ) (a : Lba) (given : List ℕ) → m ≤ n → Given p n a given → Given p m a given
given_less p n m a given h g = record { on_drive_lem = omega (arith, g.on_drive_lem); enough = omega (arith, g.enough, mul-le-mul_right p.size h) }

module _ (p : Params) where
  pub all_fits : (n : ℕ) (a : Lba) (given image : List ℕ) → Fits p image → Given p n a given → Fits p (put_all p n a given image)
  unfolding put_all
  all_fits zero a given image f g = f
  all_fits (suc n) a given image f g =
      all_fits n (next a) (drop p.size given) _ (put_fits p image f a (first_on p n a given g) _ (first_long p n a given g)) (rest_given p n a given g)

  pub all_length : (n : ℕ) (a : Lba) (given image : List ℕ) → Fits p image → Given p n a given → length (put_all p n a given image) ≡ length image
  unfolding put_all
  all_length zero a given image f g = refl
  all_length (suc n) a given image f g =
      let on = first_on p n a given g in
      let long = first_long p n a given g in
      all_length n (next a) (drop p.size given) _ (put_fits p image f a on _ long) (rest_given p n a given g) ∙ put_length p image f a on _ long

  -- every address is found where it was
  pub all_found : (n : ℕ) (a : Lba) (given image : List ℕ) → Fits p image → Given p n a given → (b : Lba) → OnDrive p b
      → found p b (put_all p n a given image) ≡ found p b image
  unfolding put_all
  all_found zero a given image f g b hb = refl
  all_found (suc n) a given image f g b hb =
      let on = first_on p n a given g in
      let long = first_long p n a given g in
      all_found n (next a) (drop p.size given) _ (put_fits p image f a on _ long) (rest_given p n a given g) b hb ∙ put_found p image f a on _ long b hb

  -- an address that is not among them reads as before
  pub all_elsewhere : (n : ℕ) (a : Lba) (given image : List ℕ) → Fits p image → Given p n a given → (b : Lba) → OnDrive p b → (b.0 < a.0) ⊎ (a.0 + n ≤ b.0)
      → content_of p b (put_all p n a given image) ≡ content_of p b image
  unfolding put_all
  all_elsewhere zero a given image f g b hb out = refl
  all_elsewhere (suc n) a given image f g b hb out =
      let on = first_on p n a given g in
      let long = first_long p n a given g in
      all_elsewhere n (next a) (drop p.size given) _ (put_fits p image f a on _ long) (rest_given p n a given g) b hb (onward out)
      ∙ put_other p image f a on _ long b hb (other out)
    where
      onward : (b.0 < a.0) ⊎ (a.0 + suc n ≤ b.0) → (b.0 < suc a.0) ⊎ (suc a.0 + n ≤ b.0)
      onward (inl h) = inl (omega arith)
      onward (inr h) = inr (omega arith)

      other : (b.0 < a.0) ⊎ (a.0 + suc n ≤ b.0) → a ≡ b → ⊥
      other (inl h) e = omega (arith, ap (λ (c : Lba). c.0) e)
      other (inr h) e = omega (arith, ap (λ (c : Lba). c.0) e)

  -- the first given, and one behind it
  part_first : (given : List ℕ) → take p.size given ≡ part (0 * p.size) p.size given
  unfolding part
  part_first given = rw zero-mul

  part_next : (i : ℕ) (given : List ℕ) → part (i * p.size) p.size (drop p.size given) ≡ part (suc i * p.size) p.size given
  unfolding part
  part_next i given =
      let e : p.size + i * p.size ≡ suc i * p.size = omega (arith, suc-mul i p.size) in
      ap (take p.size) (drop-drop (i * p.size) p.size given ∙ ap (λ (d : ℕ). drop d given) e)

  -- one that is among them, and is found, reads what was given for it
  pub all_given : (n : ℕ) (a : Lba) (given image : List ℕ) → Fits p image → Given p n a given → (i : ℕ) → i < n → Stands p (further a i) image
      → content_of p (further a i) (put_all p n a given image) ≡ Bytes (part (i * p.size) p.size given)
  unfolding put_all
  all_given zero a given image f g i h s = absurd (omega arith)
  all_given (suc n) a given image f g zero h (stands u k e) =
      let on = first_on p n a given g in
      let long = first_long p n a given g in
      let here : further a 0 ≡ a = same_lba (further a 0) a (add-zero a.0) in
      rw here
      (all_elsewhere n (next a) (drop p.size given) _ (put_fits p image f a on _ long) (rest_given p n a given g) a on (inl (omega arith))
      ∙ put_same p image f a on _ long u k (ap (λ (b : Lba). found p b image) (sym here) ∙ e) ∙ ap Bytes (part_first given))
  all_given (suc n) a given image f g (suc i) h (stands u k e) =
      let on = first_on p n a given g in
      let long = first_long p n a given g in
      let on_further : further a (suc i) ≡ further (next a) i = sym (further_next a i) in
      let there : OnDrive p (further (next a) i) = omega (arith, g.on_drive_lem) in
      rw on_further
      (all_given n (next a) (drop p.size given) _ (put_fits p image f a on _ long) (rest_given p n a given g) i (omega arith)
      (stands u k (put_found p image f a on _ long (further (next a) i) there ∙ ap (λ (b : Lba). found p b image) (sym on_further) ∙ e))
      ∙ ap Bytes (part_next i given))
