-- A Read is the contents of its done sectors, one behind the other; so images with the same contents read alike.
use mathlib.Core.Path.{◌≡◌, refl, sym, ap, ap₂, ◌∙◌}
use mathlib.Core.List.{List, [], ◌++◌, append-nil, append_assoc}
use Prim.Native.Nat.{ℕ, zero, suc, ◌+◌, ◌≤◌, ◌<◌}
use native.Mathlib.Omega.{arith}
use native.Mathlib.Nat.{add-zero}
use Rattle.geometry.specs.declared.params.Params.{Params}
use Rattle.geometry.specs.declared.params.Lba.{Lba}
use Rattle.geometry.specs.declared.params.Track.{Track}
use Rattle.geometry.specs.Params.{further, next}
use Rattle.geometry.proofs.Addresses.{same_lba, further_next}
use Rattle.track.specs.Image.{track_bytes, slot_data}
use Rattle.track.specs.Find.{Slot}
use Rattle.sectors.specs.Transfer.{Transfer, begun, ended, read_slot, found, reading}
use Rattle.sectors.proofs.Laws.{onward_has}
use Rattle.contents.specs.Content.{read_bytes, Missing, content_in, content_of}
use Rattle.contents.proofs.Terms.{Stands, stands, bytes_at}
use Rattle.contents.proofs.Places.{content_fault}

first_of : (a : Lba) → further a 0 ≡ a
first_of a = same_lba (further a 0) a (add-zero a.0)

-- the transfer y is x and `count` sectors more, read
pub record ReadsOf (p : Params) (n : ℕ) (a : Lba) (x y : Transfer) : Type 0 where
  pub count : ℕ
  pub most : count ≤ n
  pub done : y.done ≡ x.done + count
  pub handed : y.handed ≡ x.handed ++ bytes_at p count a x.image
  pub image : y.image ≡ x.image
  pub finds : (i : ℕ) → i < count → Stands p (further a i) x.image
  pub whole : count ≡ n → x.code ≡ 0 → y.code ≡ 0
  pub stop : count < n → content_of p (further a count) x.image ≡ Missing y.code

module _ (p : Params) where
  -- the sector read is the content
  its_bytes : (a : Lba) (image : List ℕ) (u : Track) (k : ℕ) → found p a image ≡ Slot u k → read_bytes (content_of p a image) ≡ slot_data p k (track_bytes p u image)
  unfolding content_of content_in read_bytes
  its_bytes a image u k e = rw e refl

  read_fields : (x : Transfer) (u : Track) (k : ℕ)
      → ((read_slot p x u k).done ≡ suc x.done) × ((read_slot p x u k).handed ≡ x.handed ++ slot_data p k (track_bytes p u x.image))
      × ((read_slot p x u k).image ≡ x.image) × ((read_slot p x u k).code ≡ 0)
  unfolding read_slot
  read_fields x u k = (refl, refl, refl, refl)

  none_read : (n : ℕ) (a : Lba) (x y : Transfer) → y.done ≡ x.done → y.handed ≡ x.handed → y.image ≡ x.image → (n ≡ 0 → x.code ≡ 0 → y.code ≡ 0)
      → (0 < n → content_of p a x.image ≡ Missing y.code) → ReadsOf p n a x y
  unfolding bytes_at
  none_read n a x y d h i w s = record {
    count = 0;
    most = omega arith;
    done = omega arith;
    handed = h ∙ sym (append-nil x.handed);
    image = i;
    finds = λ j l. absurd (omega arith);
    whole = λ z c. w (sym z) c;
    stop = λ l. rw (first_of a) (s l);
  }

  ended_fields : (code : ℕ) (x : Transfer)
      → ((ended code x).done ≡ x.done) × ((ended code x).handed ≡ x.handed) × ((ended code x).image ≡ x.image) × ((ended code x).code ≡ code)
  unfolding ended
  ended_fields code x = (refl, refl, refl, refl)

  one_more : (n : ℕ) (a : Lba) (x y : Transfer) (u : Track) (k : ℕ) → found p a x.image ≡ Slot u k → ReadsOf p n (next a) (read_slot p x u k) y → ReadsOf p (suc n) a x y
  unfolding bytes_at
  one_more n a x y u k e r =
      let is = read_fields x u k in
      record {
        count = suc r.count;
        most = omega (arith, r.most);
        done = omega (arith, r.done, is.0);
        handed =
            r.handed ∙ ap₂ {C = List ℕ} (λ h i. h ++ bytes_at p r.count (next a) i) is.1 is.2
            ∙ append_assoc x.handed (slot_data p k (track_bytes p u x.image)) (bytes_at p r.count (next a) x.image)
            ∙ ap (λ (l : List ℕ). x.handed ++ (l ++ bytes_at p r.count (next a) x.image)) (sym (its_bytes a x.image u k e));
        image = r.image ∙ is.2;
        finds = λ i l. first i l (λ j m. rw is.2 at (r.finds j m));
        whole = λ z c. r.whole (omega arith) is.3;
        stop = λ l. rw (← further_next a r.count) (rw is.2 at (r.stop (omega arith)));
      }
    where
      first : (i : ℕ) → i < suc r.count → ((j : ℕ) → j < r.count → Stands p (further (next a) j) x.image) → Stands p (further a i) x.image
      first zero l more = rw (first_of a) (stands u k e)
      first (suc i) l more = rw (← further_next a i) (more i (omega arith))

  pub reading_by : (n : ℕ) (a : Lba) (x : Transfer) → ReadsOf p n a x (reading p n a x)
  unfolding reading
  reading_by zero a x = none_read 0 a x x refl refl refl (λ z c. c) (λ l. absurd (omega arith))
  reading_by (suc n) a x =
      onward_has (ReadsOf p (suc n) a x) x _ (found p a x.image)
      (λ code e.
      let is = ended_fields code x in
      none_read (suc n) a x (ended code x) is.0 is.1 is.2 (λ z. absurd (omega arith))
      (λ l. content_fault p a x.image code e ∙ ap Missing (sym is.3)))
      (λ u k e. one_more n a x _ u k e (reading_by n (next a) (read_slot p x u k)))

-- ---- n sectors from address a on, read
module _ (p : Params) (n : ℕ) (a : Lba) (image : List ℕ) where
  none_done : ((begun image).done ≡ 0) × ((begun image).handed ≡ []) × ((begun image).image ≡ image) × ((begun image).code ≡ 0)
  unfolding begun
  none_done = (refl, refl, refl, refl)

  by_contents : ReadsOf p n a (begun image) (reading p n a (begun image))
  by_contents = reading_by p n a (begun image)

  many : by_contents.count ≡ (reading p n a (begun image)).done
  many = omega (arith, by_contents.done, none_done.0)

  pub reading_most : (reading p n a (begun image)).done ≤ n
  reading_most = omega (arith, many, by_contents.most)

  -- what is handed over are the contents of the sectors done
  pub reading_contents : (reading p n a (begun image)).handed ≡ bytes_at p (reading p n a (begun image)).done a image
  reading_contents =
      by_contents.handed ∙ ap (λ (l : List ℕ). l ++ bytes_at p by_contents.count a (begun image).image) none_done.1
      ∙ ap₂ {C = List ℕ} (λ i c. bytes_at p c a i) none_done.2 many

  pub reading_image : (reading p n a (begun image)).image ≡ image
  reading_image = by_contents.image ∙ none_done.2

  -- each sector that is done is found
  pub reading_finds : (i : ℕ) → i < (reading p n a (begun image)).done → Stands p (further a i) image
  reading_finds i l = rw none_done.2 at (by_contents.finds i (omega (arith, many)))

  -- code 0 where all are done; else the first that is not done is missing, for the code that ended it
  pub reading_whole : (reading p n a (begun image)).done ≡ n → (reading p n a (begun image)).code ≡ 0
  reading_whole e = by_contents.whole (many ∙ e) none_done.3

  pub reading_stop : (reading p n a (begun image)).done < n
      → content_of p (further a (reading p n a (begun image)).done) image ≡ Missing (reading p n a (begun image)).code
  unfolding begun
  reading_stop l = rw many at (by_contents.stop (omega (arith, many)))
