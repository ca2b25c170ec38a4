-- Transfers that go alike: a Read in images with the same contents, a Write in images where the same slots are found.
use mathlib.Core.Path.{◌≡◌, refl, sym, ap, ap₂, ◌∙◌}
use mathlib.Core.List.{List, ◌++◌}
use Prim.Native.Nat.{ℕ, zero, suc, ◌<◌}
use native.Mathlib.Omega.{arith}
use native.Mathlib.Nat.{add-zero}
use lib.ListN.{take, drop}
use Rattle.geometry.specs.declared.params.Params.{Params}
use Rattle.geometry.specs.declared.params.Lba.{Lba}
use Rattle.geometry.specs.declared.params.Track.{Track}
use Rattle.geometry.specs.Params.{OnDrive, further, next}
use Rattle.geometry.proofs.Addresses.{same_lba, further_next}
use Rattle.track.specs.Image.{Fits, track_bytes, slot_data}
use Rattle.track.specs.Find.{Sector}
use Rattle.track.specs.Find.{Slot, Fault}
use Rattle.sectors.specs.Transfer.{Transfer, begun, ended, read_slot, write_slot, onward, found, reading, writing}
use Rattle.contents.specs.Content.{Missing, content_in, content_of}
use Rattle.contents.proofs.Terms.{Given}
use Rattle.contents.proofs.Puts.{bytes_same, missing_bytes, put_fits, put_found}
use Rattle.contents.proofs.PutAlls.{first_on, first_long, rest_given}
use Rattle.contents.proofs.Writings.{wrote}

-- two transfers that say the same of all but their images
pub record Alike (x y : Transfer) : Type 0 where
  pub done : x.done ≡ y.done
  pub handed : x.handed ≡ y.handed
  pub last : x.last ≡ y.last
  pub code : x.code ≡ y.code

pub begun_alike : (a b : List ℕ) → Alike (begun a) (begun b)
unfolding begun
begun_alike a b = record { done = refl; handed = refl; last = refl; code = refl }

ended_alike : (c d : ℕ) (x y : Transfer) → c ≡ d → Alike x y → Alike (ended c x) (ended d y)
unfolding ended
ended_alike c d x y e k = record { done = k.done; handed = k.handed; last = k.last; code = e }

missing_same : (c d : ℕ) → Missing c ≡ Missing d → c ≡ d
missing_same c d e = cc

-- ---- Read
module _ (p : Params) where
  read_alike : (x y : Transfer) (u v : Track) (k j : ℕ) → slot_data p k (track_bytes p u x.image) ≡ slot_data p j (track_bytes p v y.image) → Alike x y
      → Alike (read_slot p x u k) (read_slot p y v j)
  unfolding read_slot
  read_alike x y u v k j e same = record {
    done = ap suc same.done;
    handed = ap₂ {C = List ℕ} (λ h d. h ++ d) same.handed e;
    last = e;
    code = refl;
  }

  read_image : (x : Transfer) (u : Track) (k : ℕ) → (read_slot p x u k).image ≡ x.image
  unfolding read_slot
  read_image x u k = refl

  onward_read : (x y : Transfer) (f g : Track → ℕ → Transfer) (s r : Sector) → content_in p x.image s ≡ content_in p y.image r → Alike x y
      → ((u v : Track) (k j : ℕ) → Alike (read_slot p x u k) (read_slot p y v j) → Alike (f u k) (g v j)) → Alike (onward x f s) (onward y g r)
  unfolding onward content_in
  onward_read x y f g (Fault c) (Fault d) e same next = ended_alike c d x y (missing_same c d e) same
  onward_read x y f g (Fault c) (Slot v j) e same next = absurd (missing_bytes c _ e)
  onward_read x y f g (Slot u k) (Fault d) e same next = absurd (missing_bytes d _ (sym e))
  onward_read x y f g (Slot u k) (Slot v j) e same next = next u v k j (read_alike x y u v k j (bytes_same _ _ e) same)

  pub reading_alike : (n : ℕ) (a : Lba) (x y : Transfer) → Alike x y → ((i : ℕ) → i < n → content_of p (further a i) x.image ≡ content_of p (further a i) y.image)
      → Alike (reading p n a x) (reading p n a y)
  unfolding reading content_of
  reading_alike zero a x y same h = same
  reading_alike (suc n) a x y same h =
      onward_read x y _ _ (found p a x.image) (found p a y.image) (rw (same_lba (further a 0) a (add-zero a.0)) at (h 0 (omega arith))) same
      (λ u v k j now.
      reading_alike n (next a) (read_slot p x u k) (read_slot p y v j) now
      (λ i l. rw (read_image x u k, read_image y v j, further_next a i) (h (suc i) (omega arith))))

-- ---- Write
module _ (p : Params) where
  write_alike : (sector : List ℕ) (x y : Transfer) (u : Track) (k : ℕ) → Alike x y → Alike (write_slot p sector x u k) (write_slot p sector y u k)
  unfolding write_slot
  write_alike sector x y u k same = record { done = ap suc same.done; handed = same.handed; last = refl; code = refl }

  onward_write : (x y : Transfer) (f g : Track → ℕ → Transfer) (s r : Sector) → s ≡ r → Alike x y
      → ((u : Track) (k : ℕ) → s ≡ Slot u k → Alike (f u k) (g u k)) → Alike (onward x f s) (onward y g r)
  unfolding onward
  onward_write x y f g (Fault c) r e same next = rw (← e) (ended_alike c c x y refl same)
  onward_write x y f g (Slot u k) r e same next = rw (← e) (next u k refl)

  pub writing_alike : (n : ℕ) (a : Lba) (given : List ℕ) (x y : Transfer) → Fits p x.image → Fits p y.image → Given p n a given → Alike x y
      → ((b : Lba) → OnDrive p b → found p b x.image ≡ found p b y.image) → Alike (writing p n a given x) (writing p n a given y)
  unfolding writing
  writing_alike zero a given x y fx fy g same h = same
  writing_alike (suc n) a given x y fx fy g same h =
      let on = first_on p n a given g in
      let sector = take p.size given in
      let long = first_long p n a given g in
      onward_write x y _ _ (found p a x.image) (found p a y.image) (h a on) same
      (λ u k e.
      let ex = wrote p a sector x u k e in
      let ey = wrote p a sector y u k (sym (h a on) ∙ e) in
      writing_alike n (next a) (drop p.size given) (write_slot p sector x u k) (write_slot p sector y u k)
      (rw ex (put_fits p x.image fx a on sector long)) (rw ey (put_fits p y.image fy a on sector long)) (rest_given p n a given g)
      (write_alike sector x y u k same)
      (λ b hb. rw (ex, ey) (put_found p x.image fx a on sector long b hb ∙ h b hb ∙ sym (put_found p y.image fy a on sector long b hb))))
