-- A Write is its done sectors put one after the other; each of them reads what was given, every other address as before.
use mathlib.Core.Path.{◌≡◌, refl, sym, ap, ◌∙◌}
use mathlib.Core.Logic.{◌⊎◌}
use mathlib.Core.List.{List}
use Prim.Native.Nat.{ℕ, zero, suc, ◌+◌, ◌*◌, ◌≤◌, ◌<◌}
use native.Mathlib.Omega.{arith}
use native.Mathlib.Nat.{add-zero}
use lib.ListN.{length, take, drop}
use Rattle.base.specs.Part.{part}
use Rattle.geometry.specs.declared.params.Params.{Params}
use Rattle.geometry.specs.declared.params.Lba.{Lba}
use Rattle.geometry.specs.declared.params.Track.{Track}
use Rattle.geometry.specs.Params.{OnDrive, further, next}
use Rattle.geometry.proofs.Addresses.{same_lba, further_next}
use Rattle.track.specs.Image.{Fits}
use Rattle.track.specs.Find.{Slot, Fault}
use Rattle.sectors.specs.Transfer.{Transfer, begun, ended, write_slot, found, writing}
use Rattle.sectors.proofs.Laws.{onward_has, writing_counted}
use Rattle.contents.specs.Content.{Bytes, content_of, put_in, put}
use Rattle.contents.proofs.Terms.{Stands, stands, put_all, Given}
use Rattle.contents.proofs.Puts.{put_fits, put_found}
use Rattle.contents.proofs.PutAlls.{first_on, first_long, rest_given, given_less, all_fits, all_length, all_found, all_elsewhere, all_given}

-- the transfer y is x and `count` sectors more, put
pub record PutsOf (p : Params) (n : ℕ) (a : Lba) (given : List ℕ) (x y : Transfer) : Type 0 where
  pub count : ℕ
  pub most : count ≤ n
  pub done : y.done ≡ x.done + count
  pub image : y.image ≡ put_all p count a given x.image
  pub whole : count ≡ n → x.code ≡ 0 → y.code ≡ 0
  pub stop : count < n → found p (further a count) y.image ≡ Fault y.code

module _ (p : Params) where
  -- one sector written is one put
  pub wrote : (a : Lba) (sector : List ℕ) (x : Transfer) (u : Track) (k : ℕ) → found p a x.image ≡ Slot u k → (write_slot p sector x u k).image ≡ put p a sector x.image
  unfolding write_slot put put_in
  wrote a sector x u k e = rw e refl

  counted : (sector : List ℕ) (x : Transfer) (u : Track) (k : ℕ) → (write_slot p sector x u k).done ≡ suc x.done
  unfolding write_slot
  counted sector x u k = refl

  fresh : (sector : List ℕ) (x : Transfer) (u : Track) (k : ℕ) → (write_slot p sector x u k).code ≡ 0
  unfolding write_slot
  fresh sector x u k = refl

  stopped : (n : ℕ) (a : Lba) (given : List ℕ) (x : Transfer) (code : ℕ) → found p a x.image ≡ Fault code → PutsOf p (suc n) a given x (ended code x)
  unfolding ended put_all
  stopped n a given x code e = record {
    count = 0;
    most = omega arith;
    done = omega arith;
    image = refl;
    whole = λ z c. absurd (omega arith);
    stop = λ l. ap (λ (b : Lba). found p b x.image) (same_lba (further a 0) a (add-zero a.0)) ∙ e;
  }

  stepped : (n : ℕ) (a : Lba) (given : List ℕ) (x y : Transfer) (u : Track) (k : ℕ) → found p a x.image ≡ Slot u k
      → PutsOf p n (next a) (drop p.size given) (write_slot p (take p.size given) x u k) y → PutsOf p (suc n) a given x y
  unfolding put_all
  stepped n a given x y u k e r = record {
    count = suc r.count;
    most = omega (arith, r.most);
    done = omega (arith, r.done, counted (take p.size given) x u k);
    image = r.image ∙ ap (put_all p r.count (next a) (drop p.size given)) (wrote a (take p.size given) x u k e);
    whole = λ z c. r.whole (omega arith) (fresh (take p.size given) x u k);
    stop = λ l. rw (← further_next a r.count) (r.stop (omega arith));
  }

  pub writing_by : (n : ℕ) (a : Lba) (given : List ℕ) (x : Transfer) → PutsOf p n a given x (writing p n a given x)
  unfolding writing put_all
  writing_by zero a given x = record {
    count = 0;
    most = omega arith;
    done = omega arith;
    image = refl;
    whole = λ z c. c;
    stop = λ l. absurd (omega arith);
  }
  writing_by (suc n) a given x =
      onward_has (PutsOf p (suc n) a given x) x _ (found p a x.image) (λ code e. stopped n a given x code e)
      (λ u k e. stepped n a given x _ u k e (writing_by n (next a) (drop p.size given) (write_slot p (take p.size given) x u k)))

  -- ---- each sector that is done was found in the image before
  ended_done : (code : ℕ) (x : Transfer) → (ended code x).done ≡ x.done
  unfolding ended
  ended_done code x = refl

  -- the first, and those behind it: they are found where they were before the first was put
  finds_more : (n : ℕ) (a : Lba) (given : List ℕ) (x : Transfer) (done : ℕ) → Fits p x.image → Given p (suc n) a given → (u : Track) (k : ℕ) → found p a x.image ≡ Slot u k
      → ((i : ℕ) → suc x.done + i < done → Stands p (further (next a) i) (put p a (take p.size given) x.image))
      → done ≤ x.done + suc n → (i : ℕ) → x.done + i < done → Stands p (further a i) x.image
  finds_more n a given x done f g u k e rest most zero l = stands u k (ap (λ (b : Lba). found p b x.image) (same_lba (further a 0) a (add-zero a.0)) ∙ e)
  finds_more n a given x done f g u k e rest most (suc i) l = by (rest i (omega arith))
    where
      by : Stands p (further (next a) i) (put p a (take p.size given) x.image) → Stands p (further a (suc i)) x.image
      by (stands v j e') =
          let there : OnDrive p (further (next a) i) = omega (arith, g.on_drive_lem) in
          stands v j
          (ap (λ (b : Lba). found p b x.image) (sym (further_next a i))
          ∙ sym (put_found p x.image f a (first_on p n a given g) (take p.size given) (first_long p n a given g) (further (next a) i) there) ∙ e')

  finds : (n : ℕ) (a : Lba) (given : List ℕ) (x : Transfer) → Fits p x.image → Given p n a given → (i : ℕ) → x.done + i < (writing p n a given x).done
      → Stands p (further a i) x.image
  unfolding writing
  finds zero a given x f g i l = absurd (omega arith)
  finds (suc n) a given x f g i l =
      onward_has (λ y. y.done ≤ x.done + suc n → x.done + i < y.done → Stands p (further a i) x.image) x _ (found p a x.image)
      (λ code e m l'. absurd (omega (arith, ended_done code x)))
      (λ u k e m l'.
      let sector = take p.size given in
      let is = wrote a sector x u k e in
      finds_more n a given x _ f g u k e
      (λ j l''.
      rw is at
      (finds n (next a) (drop p.size given) (write_slot p sector x u k)
      (rw is (put_fits p x.image f a (first_on p n a given g) sector (first_long p n a given g))) (rest_given p n a given g) j
      (omega (arith, l'', counted sector x u k))))
      m i l')
      (let r = writing_by (suc n) a given x in omega (arith, r.done, r.most)) l

-- ---- n sectors from address a on, written
module _ (p : Params) (n : ℕ) (a : Lba) (given image : List ℕ) where
  none_done : ((begun image).done ≡ 0) × ((begun image).image ≡ image) × ((begun image).code ≡ 0)
  unfolding begun
  none_done = (refl, refl, refl)

  many : (writing_by p n a given (begun image)).count ≡ (writing p n a given (begun image)).done
  many = let r = writing_by p n a given (begun image) in omega (arith, r.done, none_done.0)

  pub writing_most : (writing p n a given (begun image)).done ≤ n
  writing_most = let r = writing_by p n a given (begun image) in omega (arith, r.done, r.most, none_done.0)

  -- the image is the fold of puts of the sectors done
  pub writing_puts : (writing p n a given (begun image)).image ≡ put_all p (writing p n a given (begun image)).done a given image
  writing_puts =
      let r = writing_by p n a given (begun image) in
      r.image ∙ ap (put_all p r.count a given) none_done.1 ∙ ap (λ (m : ℕ). put_all p m a given image) many

  -- code 0 where all are done
  pub writing_whole : (writing p n a given (begun image)).done ≡ n → (writing p n a given (begun image)).code ≡ 0
  writing_whole e = (writing_by p n a given (begun image)).whole (many ∙ e) none_done.2

  -- and all are done where the code is 0
  pub writing_all : (writing p n a given (begun image)).code ≡ 0 → (writing p n a given (begun image)).done ≡ n
  writing_all = (writing_counted p n n a given (begun image) (omega (arith, none_done.0))).all

  module _ (f : Fits p image) (g : Given p n a given) where
    given_done : Given p (writing p n a given (begun image)).done a given
    given_done = given_less p n _ a given writing_most g

    -- each sector that is done was found
    pub writing_finds : (i : ℕ) → i < (writing p n a given (begun image)).done → Stands p (further a i) image
    writing_finds i l =
        rw none_done.1 at (finds p n a given (begun image) (rw none_done.1 f) g i (omega (arith, none_done.0)))

    pub writing_length : length (writing p n a given (begun image)).image ≡ length image
    writing_length = ap length writing_puts ∙ all_length p _ a given image f given_done

    pub writing_fits : Fits p (writing p n a given (begun image)).image
    writing_fits = rw writing_puts (all_fits p _ a given image f given_done)

    -- every address is found where it was
    pub writing_found : (b : Lba) → OnDrive p b → found p b (writing p n a given (begun image)).image ≡ found p b image
    writing_found b hb = ap (found p b) writing_puts ∙ all_found p _ a given image f given_done b hb

    -- an address that is not among those done reads as before
    pub writing_elsewhere : (b : Lba) → OnDrive p b → (b.0 < a.0) ⊎ (a.0 + (writing p n a given (begun image)).done ≤ b.0)
        → content_of p b (writing p n a given (begun image)).image ≡ content_of p b image
    writing_elsewhere b hb out = ap (content_of p b) writing_puts ∙ all_elsewhere p _ a given image f given_done b hb out

    -- each of those done reads what was given for it
    pub writing_given : (i : ℕ) → i < (writing p n a given (begun image)).done
        → content_of p (further a i) (writing p n a given (begun image)).image ≡ Bytes (part (i * p.size) p.size given)
    writing_given i l = ap (content_of p (further a i)) writing_puts ∙ all_given p _ a given image f given_done i l (writing_finds i l)

    -- the first that is not done was not found, for the code that ended it
    pub writing_stop : (writing p n a given (begun image)).done < n
        → found p (further a (writing p n a given (begun image)).done) image ≡ Fault (writing p n a given (begun image)).code
    writing_stop l =
        sym (writing_found (further a (writing p n a given (begun image)).done) (omega (arith, g.on_drive_lem)))
        ∙ rw many at ((writing_by p n a given (begun image)).stop (omega (arith, many)))
