-- Writing in parts, and the loop that goes track by track.
use mathlib.Core.Path.{◌≡◌, refl, sym, ap, ◌∙◌}
use mathlib.Core.List.{List, [], ◌∷◌}
use Prim.Native.Nat.{ℕ, zero, suc, ◌+◌, ◌-◌, ◌*◌, ◌≤◌}
use native.Mathlib.Omega.{arith}
use native.Mathlib.Nat.{zero-mul, one-mul, suc-mul, add-mul, mul-le-mul_right, add-zero, zero-add, suc-add}
use lib.ListN.{length, take, drop}
use lib.Seq.{take-nil, take-take, drop-drop}
use mathlib.Core.Bool.{true, false}
use Rattle.std.specs.Prelude.{None, is_some}
use Rattle.codes.specs.Numbers.{code_number}
use Rattle.codes.proofs.Faults.{fault_none, fault_some}
use Rattle.geometry.specs.declared.params.Params.{Params}
use Rattle.geometry.specs.declared.params.Lba.{Lba}
use Rattle.geometry.specs.declared.params.Track.{Track}
use Rattle.geometry.specs.Params.{further, next}
use Rattle.track.specs.Image.{Fits}
use Rattle.sectors.specs.Transfer.{Transfer, begun, ended, write_slot, found, writing}
use Rattle.sectors.specs.declared.transfer.Done.{Done}
use Rattle.sectors.specs.Promises.{HasWritten}
use Rattle.sectors.proofs.Founds.{found_fault}
use Rattle.sectors.proofs.Onwards.{onward_has, onward_both}

-- ---- the next sector of what is given for some, and the rest
pub drop_take : (n m : ℕ) (xs : List ℕ) → drop n (take (n + m) xs) ≡ take m (drop n xs)
drop_take zero m xs = ap (λ (k : ℕ). take k xs) (zero-add m)
drop_take (suc n) m [] = ap (drop (suc n)) (take-nil (suc n + m)) ∙ sym (take-nil m)
drop_take (suc n) m (x ∷ xs) = rw (suc-add n m) (drop_take n m xs)

module _ (m size : ℕ) (given : List ℕ) where
  next_same : take size given ≡ take size (take (suc m * size) given)
  next_same = sym (take-take size (suc m * size) given (omega (arith, suc-mul m size)))

  rest_same : take (m * size) (drop size given) ≡ drop size (take (suc m * size) given)
  rest_same = let e : suc m * size ≡ size + m * size = omega (arith, suc-mul m size) in rw e (sym (drop_take size (m * size) given))

-- ---- writing that starts elsewhere, with no more data than it needs: d sectors were done before, and all else is the same
record Beside (d : ℕ) (x y : Transfer) : Type 0 where
  pub done : x.done ≡ d + y.done
  pub code : x.code ≡ y.code
  pub image : x.image ≡ y.image

beside_ended : (d code : ℕ) (x y : Transfer) → Beside d x y → Beside d (ended code x) (ended code y)
unfolding ended
beside_ended d code x y b = record { done = b.done; code = refl; image = b.image }

beside_slot : (p : Params) (d : ℕ) (sector : List ℕ) (x y : Transfer) (u : Track) (k : ℕ) → Beside d x y
    → Beside d (write_slot p sector x u k) (write_slot p sector y u k)
unfolding write_slot
beside_slot p d sector x y u k b = record { done = omega (arith, b.done); code = refl; image = rw b.image refl }

beside : (p : Params) (d m : ℕ) (a : Lba) (given : List ℕ) (x y : Transfer) → Beside d x y
    → Beside d (writing p m a given x) (writing p m a (take (m * p.size) given) y)
unfolding writing
beside p d zero a given x y b = b
beside p d (suc m) a given x y b =
    onward_both (Beside d) x y _ _ _ _ (ap (found p a) b.image) (λ code e. beside_ended d code x y b)
    (λ u k. rw (← next_same m p.size given, ← rest_same m p.size given)
    (beside p d m (next a) (drop p.size given) _ _ (beside_slot p d (take p.size given) x y u k b)))

-- one sector alone, from the front of what is given
pub front_written : (p : Params) (n : ℕ) (a : Lba) (given image after : List ℕ) (r : Done) → n ≡ 1
    → HasWritten p 1 a (take (p.size - 0) (drop 0 given)) r image after → HasWritten p n a given r image after
front_written p n a given image after r en w =
    let wide : p.size - 0 ≡ 1 * p.size = omega (arith, one-mul p.size) in
    let h : HasWritten p 1 a (take (1 * p.size) given) r image after = rw wide at w in
    let b = beside p 0 1 a given (begun image) (begun image) (record { done = sym (zero-add (begun image).done); code = refl; image = refl }) in
    rw en (record { sectors = omega (arith, h.sectors, b.done); code = h.code ∙ sym b.code; image = h.image ∙ sym b.image })

-- ---- parts put together
module _ (p : Params) (k : ℕ) where
  -- all of a part was written: what comes behind it goes on from there
  joined : (m : ℕ) (a : Lba) (given : List ℕ) (x : Transfer) → (writing p m a given x).code ≡ 0
      → writing p (m + k) a given x ≡ writing p k (further a m) (drop (m * p.size) given) (writing p m a given x)
  unfolding writing ended
  joined zero a given x z = rw (zero-add, zero-mul, add-zero) refl
  joined (suc m) a given x z =
      let on : suc a.0 + m ≡ a.0 + suc m = omega arith in
      let far : p.size + m * p.size ≡ suc m * p.size = omega (arith, suc-mul m p.size) in
      let past : drop (m * p.size) (drop p.size given) ≡ drop (suc m * p.size) given =
      drop-drop (m * p.size) p.size given ∙ ap (λ (i : ℕ). drop i given) far in
      rw suc-add
      (onward_both (λ l r. r.code ≡ 0 → l ≡ writing p k (further a (suc m)) (drop (suc m * p.size) given) r) x x _ _ _ _ refl
      (λ code e zc. absurd (omega (arith, (found_fault p a x.image code e).0)))
      (λ u j zc. rw (← on, ← past) (joined m (next a) (drop p.size given) _ zc)) z)

  -- a part ended before: nothing comes behind it
  stopped : (m : ℕ) (a : Lba) (given : List ℕ) (x : Transfer) → x.code ≡ 0 → ((writing p m a given x).code ≡ 0 → ⊥)
      → writing p (m + k) a given x ≡ writing p m a given x
  unfolding writing write_slot
  stopped zero a given x z n = absurd (n z)
  stopped (suc m) a given x z n =
      rw suc-add
      (onward_both (λ l r. (r.code ≡ 0 → ⊥) → l ≡ r) x x _ _ _ _ refl (λ code e nc. refl)
      (λ u j nc. stopped m (next a) (drop p.size given) _ refl nc) n)

-- ---- how many sectors
pub record Counted (n : ℕ) (x : Transfer) : Type 0 where
  pub most : x.done ≤ n
  pub all : x.code ≡ 0 → x.done ≡ n

pub writing_counted : (p : Params) (n m : ℕ) (a : Lba) (given : List ℕ) (x : Transfer) → x.done + m ≡ n → Counted n (writing p m a given x)
unfolding writing write_slot ended
writing_counted p n zero a given x e = record { most = omega arith; all = λ z. omega arith }
writing_counted p n (suc m) a given x e =
    onward_has (Counted n) x _ (found p a x.image)
    (λ code ef. record { most = omega arith; all = λ z. absurd (omega (arith, (found_fault p a x.image code ef).0)) })
    (λ u k ef. writing_counted p n m (next a) (drop p.size given) _ (omega arith))

module _ (p : Params) (n : ℕ) (a : Lba) (given image after : List ℕ) (r : Done) (w : HasWritten p n a given r image after) where
  has_counted : Counted n (writing p n a given (begun image))
  unfolding begun
  has_counted = writing_counted p n n a given (begun image) (omega arith)

  -- no more than were asked for, and as many if none failed
  pub written_most : r.sectors ≤ n
  written_most = rw w.sectors has_counted.most

  pub written_all : is_some r.fault ≡ false → r.sectors ≡ n
  written_all z = w.sectors ∙ has_counted.all (sym w.code ∙ ap code_number (fault_none _ z))

-- ---- what parts have written, put together
begun_beside : (i : ℕ) (image : List ℕ) (x : Transfer) → i ≡ x.done → 0 ≡ x.code → image ≡ x.image → Beside i x (begun image)
unfolding begun
begun_beside i image x ed ec ei = record { done = omega arith; code = sym ec; image = sym ei }

module _ (p : Params) (a : Lba) (given image₀ : List ℕ) where
  -- i sectors, and then m more
  has_joined : (i m : ℕ) (image after : List ℕ) (r : Done) → HasWritten p i a given (record { sectors = i; fault = None }) image₀ image
      → HasWritten p m (further a i) (take (m * p.size) (drop (i * p.size) given)) r image after
      → HasWritten p (i + m) a given (record { sectors = i + r.sectors; fault = r.fault }) image₀ after
  has_joined i m image after r w h =
      let x = writing p i a given (begun image₀) in
      let b = beside p i m (further a i) (drop (i * p.size) given) x (begun image) (begun_beside i image x w.sectors w.code w.image) in
      rw (joined p m i a given (begun image₀) (sym w.code))
      (record { sectors = omega (arith, h.sectors, b.done); code = h.code ∙ sym b.code; image = h.image ∙ sym b.image })

  -- one failed, and so no more follow
  has_stopped : (m k : ℕ) (after : List ℕ) (r : Done) → HasWritten p m a given r image₀ after → (is_some r.fault ≡ true)
      → HasWritten p (m + k) a given r image₀ after
  unfolding begun
  has_stopped m k after r w n = rw (stopped p k m a given (begun image₀) refl (λ z. fault_some _ n (w.code ∙ z))) w

-- ---- the loop: i sectors are written, one part behind the other
pub record Writing (p : Params) (n : ℕ) (a : Lba) (given image₀ image : List ℕ) (i at : ℕ) : Type 0 where
  pub most : i ≤ n
  pub place : at ≡ i * p.size
  pub len : length image ≡ length image₀
  pub is : HasWritten p i a given (record { sectors = i; fault = None }) image₀ image

module _ (p : Params) (n : ℕ) (a : Lba) (given image₀ : List ℕ) where
  pub writing_none : Writing p n a given image₀ image₀ 0 0
  unfolding writing begun
  writing_none = record {
    most = omega arith;
    place = sym (zero-mul p.size);
    len = refl;
    is = record { sectors = refl; code = refl; image = refl };
  }

  module _ (image : List ℕ) (i at : ℕ) (w : Writing p n a given image₀ image i at) where
    pub writing_fits : Fits p image₀ → Fits p image
    writing_fits f = record { within = f.within; long = rw w.len f.long }

    pub writing_all : n ≤ i → HasWritten p n a given (record { sectors = i; fault = None }) image₀ image
    writing_all l = let e : i ≡ n = omega (arith, w.most) in rw (← e) w.is

    -- m more sectors have their data
    pub writing_room : (m : ℕ) → m ≤ n - i → n * p.size ≤ length given → at + m * p.size ≤ length given
    writing_room m l h =
        let k : i + m ≤ n = omega (arith, w.most) in
        omega (arith, w.place, add-mul i m p.size, mul-le-mul_right p.size k)

    -- a part of m sectors is written
    module _ (m : ℕ) (l : m ≤ n - i) (b : Lba) (eb : b ≡ further a i) (part : Done) (after : List ℕ)
        (was : HasWritten p m b (take (at + m * p.size - at) (drop at given)) part image after) where
      h : HasWritten p m (further a i) (take (at + m * p.size - at) (drop at given)) part image after
      h = rw eb at was

      together : HasWritten p (i + m) a given (record { sectors = i + part.sectors; fault = part.fault }) image₀ after
      together =
          let wide : at + m * p.size - at ≡ m * p.size = omega arith in
          has_joined p a given image₀ i m image after part w.is (rw (← w.place) (rw wide at h))

      pub writing_stop : is_some part.fault ≡ true → HasWritten p n a given (record { sectors = i + part.sectors; fault = part.fault }) image₀ after
      writing_stop failed =
          let e : i + m + (n - (i + m)) ≡ n = omega (arith, w.most) in
          rw e at (has_stopped p a given image₀ (i + m) (n - (i + m)) after _ together failed)

      pub writing_more : is_some part.fault ≡ false → length after ≡ length image → Writing p n a given image₀ after (i + part.sectors) (at + m * p.size)
      writing_more z la =
          let e : part.sectors ≡ m = written_all p m (further a i) _ image after part h z in
          record {
            most = omega (arith, w.most);
            place = rw (e, add-mul) (omega (arith, w.place));
            len = la ∙ w.len;
            is = rw e (rw (e, fault_none _ z) at together);
          }
