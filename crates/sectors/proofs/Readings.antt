-- Laws of reading.
use mathlib.Core.Path.{◌≡◌, refl, sym, ap, ◌∙◌}
use mathlib.Core.Bool.{Bool}
use mathlib.Core.Option.{Option, none, some}
use mathlib.Core.List.{List, [], ◌++◌, append_assoc, append-nil}
use Prim.Native.Nat.{ℕ, zero, suc, ◌+◌, ◌*◌, ◌≤◌, ◌<◌}
use native.Mathlib.Omega.{arith}
use native.Mathlib.Numerals.{one-add}
use native.Mathlib.Nat.{zero-mul, suc-mul, zero-add, add-zero}
use lib.ListN.{length, length-append}
use lib.Seq.{take_all, drop_at}
use lib.Dec.{eqb, ltb, leb-suc-suc}
use borrow.Author.Tests.{lt-ltb, le-ltb, eq-eqb, ne_eqb}
use Rattle.base.specs.Pick.{pick}
use Rattle.base.specs.Part.{part}
use Rattle.base.proofs.Decide.{pick_true, pick-false}
use Rattle.geometry.specs.declared.params.Params.{Params}
use Rattle.geometry.specs.declared.params.Lba.{Lba}
use Rattle.geometry.specs.declared.params.Track.{Track}
use Rattle.geometry.specs.Params.{track_count, address_count, further, next}
use Rattle.track.specs.Find.{On}
use Rattle.track.specs.Image.{Fits, track_bytes, slot_data}
use Rattle.track.specs.Find.{Sector}
use Rattle.track.specs.Find.{Slot, Fault}
use Rattle.track.specs.Find.{where_of, slot_used, sector_in}
use Rattle.track.proofs.Laws.{length_track, length_data, Code}
use Rattle.sectors.specs.Run.{on_slot, run_done, run_read}
use Rattle.sectors.specs.Transfer.{Transfer, begun, ended, read_slot, onward, found, reading}
use Rattle.sectors.proofs.Founds.{found_slot, found_fault}
use Rattle.sectors.proofs.Onwards.{onward_has}
use Rattle.sectors.proofs.Along.{Along, along_next, along_on}

-- ---- from elsewhere: x has d sectors and the bytes h more than y, and is where y is
pub record Ahead (d : ℕ) (h : List ℕ) (x y : Transfer) : Type 0 where
  pub done : x.done ≡ d + y.done
  pub handed : x.handed ≡ h ++ y.handed
  pub image : x.image ≡ y.image
  pub code : x.code ≡ y.code

module _ (d : ℕ) (h : List ℕ) (p : Params) where
  module _ (x y : Transfer) (w : Ahead d h x y) where
    ahead_slot : (u : Track) (k : ℕ) → Ahead d h (read_slot p x u k) (read_slot p y u k)
    unfolding read_slot
    ahead_slot u k = record {
      done = omega (arith, w.done);
      handed = rw (w.handed, w.image) (append_assoc h y.handed (slot_data p k (track_bytes p u y.image)));
      image = w.image;
      code = refl;
    }

    ahead_onward : (f g : Track → ℕ → Transfer) → ((u : Track) (k : ℕ) → Ahead d h (f u k) (g u k)) → (s : Sector)
        → Ahead d h (onward x f s) (onward y g s)
    unfolding onward ended
    ahead_onward f g next (Fault code) = record { done = w.done; handed = w.handed; image = w.image; code = refl }
    ahead_onward f g next (Slot u k) = next u k

  -- it stays so
  ahead_on : (m : ℕ) (a : Lba) (x y : Transfer) → Ahead d h x y → Ahead d h (reading p m a x) (reading p m a y)
  unfolding reading
  ahead_on zero a x y w = w
  ahead_on (suc m) a x y w =
      let same : found p a x.image ≡ found p a y.image = ap (found p a) w.image in
      rw same
      (ahead_onward x y w _ _ (λ u k. ahead_on m (next a) (read_slot p x u k) (read_slot p y u k) (ahead_slot x y w u k)) (found p a y.image))

-- reading on is reading from the start, added to what is done
pub reading_ahead : (p : Params) (m : ℕ) (a : Lba) (x : Transfer) (image : List ℕ) → x.code ≡ 0 → x.image ≡ image
    → Ahead x.done x.handed (reading p m a x) (reading p m a (begun image))
unfolding begun
reading_ahead p m a x image z e =
    ahead_on x.done x.handed p m a x (begun image)
    (record { done = sym (add-zero x.done); handed = sym (append-nil x.handed); image = e; code = z })

-- ---- in parts: k more sectors from address a on, unless a code has ended the transfer
abbrev behind : Params → (k : ℕ) → Lba → Transfer → Transfer
behind p k a x = pick (eqb x.code 0) (reading p k a x) x

module _ (p : Params) (k : ℕ) where
  behind_on : (a : Lba) (x : Transfer) → x.code ≡ 0 → behind p k a x ≡ reading p k a x
  behind_on a x z = pick_true _ _ _ (eq-eqb x.code 0 z)

  behind_ended : (a : Lba) (x : Transfer) → (x.code ≡ 0 → ⊥) → behind p k a x ≡ x
  behind_ended a x n = pick-false _ _ _ (ne_eqb x.code 0 n)

  behind_onward : (a : Lba) (x : Transfer) (f g : Track → ℕ → Transfer) → ((u : Track) (j : ℕ) → f u j ≡ behind p k a (g u j)) → (s : Sector)
      → ((code : ℕ) → s ≡ Fault code → Code code) → onward x f s ≡ behind p k a (onward x g s)
  unfolding onward ended
  behind_onward a x f g next (Fault code) coded =
      sym (behind_ended a (ended code x) (λ z. omega (arith, (coded code refl).0)))
  behind_onward a x f g next (Slot u j) coded = next u j

  parts : (m : ℕ) (a : Lba) (x : Transfer) → x.code ≡ 0 → reading p (m + k) a x ≡ behind p k (further a m) (reading p m a x)
  unfolding reading read_slot
  parts zero a x z = rw (zero-add k, add-zero a.0) (sym (behind_on a x z))
  parts (suc m) a x z =
      let e : suc m + k ≡ suc (m + k) = omega arith in
      let on : a.0 + suc m ≡ suc a.0 + m = omega arith in
      rw (e, on)
      (behind_onward (further (next a) m) x _ _ (λ u j. parts m (next a) (read_slot p x u j) refl)
      (found p a x.image) (found_fault p a x.image))

  module _ (m : ℕ) (a : Lba) (x : Transfer) (z : x.code ≡ 0) where
    -- the first part went well: the second goes on from there
    pub reading_parts : (reading p m a x).code ≡ 0 → reading p (m + k) a x ≡ reading p k (further a m) (reading p m a x)
    reading_parts y = parts m a x z ∙ behind_on (further a m) (reading p m a x) y

    -- it did not: that is the whole
    pub reading_ended : ((reading p m a x).code ≡ 0 → ⊥) → reading p (m + k) a x ≡ reading p m a x
    reading_ended n = parts m a x z ∙ behind_ended (further a m) (reading p m a x) n

-- ---- n sectors asked for: no more are done, and all where no code has ended it; each is D bytes, one behind the other
pub record Handed (p : Params) (n : ℕ) (image : List ℕ) (x : Transfer) : Type 0 where
  pub most : x.done ≤ n
  pub all : x.code ≡ 0 → x.done ≡ n
  pub code : x.code < 0x80
  pub same : x.image ≡ image
  pub long : length x.handed ≡ x.done * p.size
  pub last_none : x.done ≡ 0 → x.last ≡ []
  pub last : (k : ℕ) → x.done ≡ suc k → x.last ≡ part (k * p.size) p.size x.handed

-- one more sector behind some of the same size
last_more : (n size : ℕ) (xs ys : List ℕ) → length xs ≡ n * size → length ys ≡ size → ys ≡ part (n * size) size (xs ++ ys)
unfolding part
last_more n size xs ys e l = rw (drop_at xs ys (n * size) e) (sym (take_all size ys (omega arith)))

suc_same : {m n : ℕ} → suc m ≡ suc n → m ≡ n
suc_same e = omega arith

module _ (p : Params) (image : List ℕ) (fits : Fits p image) where
  handed_none : Handed p 0 image (begun image)
  unfolding begun
  handed_none = record {
    most = omega arith;
    all = λ z. refl;
    code = omega arith;
    same = refl;
    long = sym (zero-mul p.size);
    last_none = λ z. refl;
    last = λ k z. absurd (omega arith);
  }

  module _ (n : ℕ) (x : Transfer) (w : Handed p n image x) where
    handed_ended : (m code : ℕ) → Code code → Handed p (n + m) image (ended code x)
    unfolding ended
    handed_ended m code h = record {
      most = omega (arith, w.most);
      all = λ z. absurd (omega (arith, h.0));
      code = h.1;
      same = w.same;
      long = w.long;
      last_none = w.last_none;
      last = w.last;
    }

    handed_slot : (u : Track) (k : ℕ) → x.code ≡ 0 → u.0 < track_count p → k < p.sectors → Handed p (suc n) image (read_slot p x u k)
    unfolding read_slot
    handed_slot u k z hu hk =
        let bytes = slot_data p k (track_bytes p u x.image) in
        let lb : length bytes ≡ p.size =
        ap (λ (i : List ℕ). length (slot_data p k (track_bytes p u i))) w.same
        ∙ length_data p (track_bytes p u image) (length_track p image fits.long u hu) k hk in
        record {
          most = omega (arith, w.most);
          all = λ z'. ap suc (w.all z);
          code = omega arith;
          same = w.same;
          long = length-append x.handed bytes ∙ rw suc-mul (omega (arith, w.long, lb));
          last_none = λ z. absurd (omega arith);
          last = λ i e. last_more i p.size x.handed bytes (w.long ∙ ap (λ (j : ℕ). j * p.size) (suc_same e)) lb;
        }

  handed_on : (m n : ℕ) (a : Lba) (x : Transfer) → Handed p n image x → x.code ≡ 0 → a.0 + m ≤ address_count p
      → Handed p (n + m) image (reading p m a x)
  unfolding reading read_slot
  handed_on zero n a x w z h = rw add-zero w
  handed_on (suc m) n a x w z h =
      onward_has (Handed p (n + suc m) image) x _ (found p a x.image)
      (λ code e. handed_ended n x w (suc m) code (found_fault p a x.image code e))
      (λ u k e.
      let there = found_slot p a x.image u k fits.within (omega arith) e in
      let more = handed_slot n x w u k z there.0 there.1 in
      let on : n + suc m ≡ suc n + m = omega arith in
      rw on (handed_on m (suc n) (next a) (read_slot p x u k) more refl (omega arith)))

  pub reading_handed : (n : ℕ) (a : Lba) → a.0 + n ≤ address_count p → Handed p n image (reading p n a (begun image))
  unfolding begun
  reading_handed n a h = rw zero-add at (handed_on n 0 a (begun image) handed_none refl h)

-- ---- along a track, reading is what a run reads
abbrev pub ReadAlong : Params → (m s : ℕ) → (bytes : List ℕ) → Transfer → Type 0
ReadAlong p m s bytes x = (x.done ≡ run_done p m s bytes) × (x.handed ≡ run_read p m s bytes) × (x.code ≡ pick (ltb (run_done p m s bytes) m) 0x14 0)

module _ (p : Params) (image : List ℕ) (u : Track) where
  -- one more in front
  ran_more : (m : ℕ) (a : Lba) (s : ℕ) (o : Option ℕ) → slot_used p s (track_bytes p u image) ≡ o → found p a image ≡ sector_in u o
      → ReadAlong p m (suc s) (track_bytes p u image) (reading p m (next a) (begun image))
      → ReadAlong p (suc m) s (track_bytes p u image) (reading p (suc m) a (begun image))
  unfolding run_done run_read on_slot sector_in reading onward begun ended read_slot
  ran_more m a s none e f r = rw (e, f) (refl, refl, sym (pick_true _ _ _ (lt-ltb 0 (suc m) (omega arith))))
  ran_more m a s (some k) e f r =
      let w = reading_ahead p m (next a) (read_slot p (begun image) u k) image refl refl in
      let d = run_done p m (suc s) (track_bytes p u image) in
      rw (e, f) (
        w.done ∙ ap (λ (i : ℕ). 1 + i) r.0 ∙ one-add d,
        w.handed ∙ ap (λ (l : List ℕ). slot_data p k (track_bytes p u image) ++ l) r.1,
        w.code ∙ r.2 ∙ ap (λ (b : Bool). pick b 0x14 0) (sym (leb-suc-suc (suc d) m)),
      )

  pub reading_ran : (t : Track) → where_of p t image ≡ On u → (m : ℕ) (a : Lba) (s : ℕ) → Along p m a t s
      → ReadAlong p m s (track_bytes p u image) (reading p m a (begun image))
  unfolding run_done run_read reading begun
  reading_ran t on zero a s along = (refl, refl, sym (pick-false _ _ _ (le-ltb 0 0 (omega arith))))
  reading_ran t on (suc m) a s along =
      ran_more m a s (slot_used p s (track_bytes p u image)) refl (along_on p image m a t s along u on)
      (reading_ran t on m (next a) (suc s) (along_next p m a t s along))
