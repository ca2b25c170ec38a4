-- Reading the sectors of one track, and the loop that goes track by track.
use mathlib.Core.Path.{◌≡◌, refl, sym, ap, ◌∙◌}
use mathlib.Core.List.{List}
use Prim.Native.Nat.{ℕ, zero, suc, ◌+◌, ◌-◌, ◌*◌, ◌≤◌}
use native.Mathlib.Omega.{arith}
use native.Mathlib.Nat.{zero-add, zero-mul, one-mul, add-mul, add-zero, mul-le-mul_right}
use lib.ListN.{length, take, drop}
use lib.Dec.{ltb}
use borrow.Rule.Slice.PartMut.{put_mid}
use mathlib.Core.Bool.{true, false}
use Rattle.std.specs.Prelude.{Some, None, is_some}
use Rattle.codes.specs.declared.Code.{Code}
use Rattle.codes.specs.Numbers.{number_of, code_number}
use Rattle.codes.proofs.Faults.{fault_none, fault_some}
use Rattle.base.specs.Pick.{pick}
use Rattle.base.specs.Part.{part, splice}
use Rattle.base.proofs.Parts.{length_part, length_splice, part_lent, splice_lent, splice_splice, splice_on}
use Rattle.geometry.specs.declared.params.Params.{Params}
use Rattle.geometry.specs.declared.params.Lba.{Lba}
use Rattle.geometry.specs.declared.params.Track.{Track}
use Rattle.geometry.specs.Params.{track_of, sector_of, address_count, further}
use Rattle.track.specs.Find.{Where}
use Rattle.track.specs.Find.{On, Off}
use Rattle.track.specs.Image.{Fits, track_bytes}
use Rattle.track.specs.Find.{where_of}
use Rattle.sectors.specs.Run.{run_done, run_read}
use Rattle.sectors.specs.Transfer.{Transfer, begun, ended, onward, reading}
use Rattle.sectors.specs.declared.transfer.Done.{Done}
use Rattle.sectors.specs.Promises.{ReadBy, HasRead}
use Rattle.sectors.proofs.Ones.{one_room}
use Rattle.sectors.proofs.Along.{Along, along_here, along_off}
use Rattle.sectors.proofs.Readings.{Ahead, Handed, reading_ahead, reading_parts, reading_ended, reading_handed, reading_ran}

-- ---- n sectors of one track
off_along : (p : Params) (n : ℕ) (a : Lba) (image : List ℕ) (t : Track) (s : ℕ) (code : Code) (places : List ℕ) → Along p n a t s → 1 ≤ n
    → where_of p t image ≡ Off (number_of code) → HasRead p n a image (record { sectors = 0; fault = Some code }) places places
unfolding reading onward ended begun splice
off_along p zero a image t s code places along h e = absurd (omega arith)
off_along p (suc m) a image t s code places along h e =
    rw (along_off p image m a t s along (number_of code) e) (record { sectors = refl; code = refl; area = refl })

module _ (p : Params) (n : ℕ) (a : Lba) (image : List ℕ) (t : Track) (w : Where) (h : sector_of p a + n ≤ p.sectors)
    (et : t ≡ track_of p a) (ew : w ≡ where_of p t image) where
  along : Along p n a t (sector_of p a)
  along = rw et (along_here p n a h)

  -- no track is searched for them
  pub part_off : (code : Code) (places : List ℕ) → 1 ≤ n → w ≡ Off (number_of code) → HasRead p n a image (record { sectors = 0; fault = Some code }) places places
  part_off code places some e = off_along p n a image t (sector_of p a) code places along some (sym ew ∙ e)

  -- track u is: what its run reads
  pub part_on : (u : Track) (first : ℕ) (lent places₀ places : List ℕ) (r : ℕ) (done : Done) → w ≡ On u
      → first ≡ sector_of p a → lent ≡ track_bytes p u image
      → (r ≡ run_done p n first lent) × (places ≡ splice 0 (run_read p n first lent) places₀)
      → (done.sectors ≡ r) × (code_number done.fault ≡ pick (ltb r n) 0x14 0) → HasRead p n a image done places₀ places
  part_on u first lent places₀ places r done e ef el ran d =
      let x = reading_ran p image u t (sym ew ∙ e) n a (sector_of p a) along in
      let is = rw (ef, el) at ran in
      record {
        sectors = d.0 ∙ is.0 ∙ sym x.0;
        code = d.1 ∙ ap (λ (k : ℕ). pick (ltb k n) 0x14 0) is.0 ∙ sym x.2;
        area = is.1 ∙ ap (λ (l : List ℕ). splice 0 l places₀) (sym x.1);
      }

-- ---- parts put one behind the other
-- what is put at the front of a part lent is put at the part's place
pub front_lent : (at size end : ℕ) (ys xs after : List ℕ) → end ≡ at + size → end ≤ length xs → length ys ≤ size
    → after ≡ splice 0 ys (take (end - at) (drop at xs)) → put_mid at (end - at) xs after ≡ splice at ys xs
front_lent at size end ys xs after ee room few e =
    let is : after ≡ splice 0 ys (part at size xs) = e ∙ ap (splice 0 ys) (part_lent at end size xs (sym ee)) in
    let lp : length (part at size xs) ≡ size = length_part at size xs (omega arith) in
    let la : length after ≡ size = ap length is ∙ length_splice 0 ys (part at size xs) (omega arith) ∙ lp in
    splice_lent at end xs after (omega arith) ∙ ap (λ (l : List ℕ). splice at l xs) is
    ∙ splice_splice at size 0 ys xs (omega arith) (omega arith) ∙ ap (λ (i : ℕ). splice i ys xs) (add-zero at)

-- one sector alone, read to the front
pub front_read : (p : Params) (n : ℕ) (a : Lba) (image area after : List ℕ) (done : Done) → Fits p image → a.0 + n ≤ address_count p
    → n * p.size ≤ length area → n ≡ 1 → HasRead p 1 a image done (take (p.size - 0) (drop 0 area)) after
    → HasRead p n a image done area (put_mid 0 (p.size - 0) area after)
front_read p n a image area after done fits h h₀ en r =
    let here = reading_handed p image fits 1 a (omega arith) in
    let few : length (reading p 1 a (begun image)).handed ≤ p.size =
    omega (arith, here.long, mul-le-mul_right p.size here.most, one-mul p.size) in
    let put = front_lent 0 p.size p.size (reading p 1 a (begun image)).handed area after (sym (zero-add p.size))
    (one_room n p.size (length area) en h₀) few r.area in
    rw en (record { sectors = r.sectors; code = r.code; area = put })

-- a part read behind what was read before: `size` bytes lent at `at`
read_on : (x y z : Transfer) (i at size end : ℕ) (done : Done) (area₀ area after : List ℕ) → Ahead y.done y.handed x z
    → ReadBy y (record { sectors = i; fault = None }) area₀ area → ReadBy z done (take (end - at) (drop at area)) after
    → length y.handed ≡ at → length z.handed ≤ size → end ≡ at + size → end ≤ length area
    → ReadBy x (record { sectors = i + done.sectors; fault = done.fault }) area₀ (put_mid at (end - at) area after)
read_on x y z i at size end done area₀ area after w ry rz ly lz ee room = record {
  sectors = omega (arith, w.done, ry.sectors, rz.sectors);
  code = rz.code ∙ sym w.code;
  area = front_lent at size end z.handed area after ee room lz rz.area ∙ ap (splice at z.handed) ry.area
      ∙ splice_on y.handed z.handed area₀ at ly ∙ ap (λ (l : List ℕ). splice 0 l area₀) (sym w.handed);
}

-- ---- the loop: i sectors are read, and all went well
pub record Reading (p : Params) (n : ℕ) (a : Lba) (image area₀ area : List ℕ) (i at : ℕ) : Type 0 where
  pub most : i ≤ n
  pub place : at ≡ i * p.size
  pub len : length area ≡ length area₀
  pub read : HasRead p i a image (record { sectors = i; fault = None }) area₀ area

module _ (p : Params) (n : ℕ) (a : Lba) (image area₀ : List ℕ) where
  pub reading_none : Reading p n a image area₀ area₀ 0 0
  unfolding reading begun splice
  reading_none = record {
    most = omega arith;
    place = sym (zero-mul p.size);
    len = refl;
    read = record { sectors = refl; code = refl; area = refl };
  }

  module _ (area : List ℕ) (i at : ℕ) (w : Reading p n a image area₀ area i at) where
    pub reading_all : n ≤ i → HasRead p n a image (record { sectors = i; fault = None }) area₀ area
    reading_all l = let e : n ≡ i = omega (arith, w.most) in rw e w.read

    module _ (fits : Fits p image) (h : a.0 + n ≤ address_count p) (h₀ : n * p.size ≤ length area₀) (m : ℕ) (hm : i + m ≤ n) where
      -- room for m sectors more
      pub reading_room : at + m * p.size ≤ length area
      reading_room = omega (arith, w.place, w.len, add-mul i m p.size, mul-le-mul_right p.size hm)

      module _ (b : Lba) (eb : b ≡ further a i) (done : Done) (after : List ℕ) (end : ℕ) (ee : end ≡ at + m * p.size)
          (part : HasRead p m b image done (take (end - at) (drop at area)) after) where
        r : HasRead p m (further a i) image done (take (end - at) (drop at area)) after
        r = rw eb at part

        before : Handed p i image (reading p i a (begun image))
        before = reading_handed p image fits i a (omega arith)

        here : Handed p m image (reading p m (further a i) (begun image))
        here = reading_handed p image fits m (further a i) (omega arith)

        -- with those before
        together : HasRead p (i + m) a image (record { sectors = i + done.sectors; fault = done.fault }) area₀ (put_mid at (end - at) area after)
        unfolding begun
        together =
            let y = reading p i a (begun image) in
            let few : length (reading p m (further a i) (begun image)).handed ≤ m * p.size =
            omega (arith, here.long, mul-le-mul_right p.size here.most) in
            let filled : length y.handed ≡ at = before.long ∙ rw (← w.read.sectors) (sym w.place) in
            let ahead = reading_ahead p m (further a i) y image (sym w.read.code) before.same in
            rw (reading_parts p m i a (begun image) refl (sym w.read.code))
            (read_on _ y (reading p m (further a i) (begun image)) i at (m * p.size) end done area₀ area after
            ahead w.read r filled few ee (omega (arith, reading_room)))

        pub reading_most : i + done.sectors ≤ n
        reading_most = omega (arith, r.sectors, here.most)

        pub reading_stop : (is_some done.fault ≡ true)
            → HasRead p n a image (record { sectors = i + done.sectors; fault = done.fault }) area₀ (put_mid at (end - at) area after)
        unfolding begun
        reading_stop ne =
            let all : n ≡ i + m + (n - (i + m)) = omega arith in
            let ends = reading_ended p (n - (i + m)) (i + m) a (begun image) refl (λ z. fault_some _ ne (together.code ∙ z)) in
            rw (all, ends) together

        module _ (failed : is_some done.fault ≡ false) where
          z : done.fault ≡ None
          z = fault_none _ failed

          -- all m are read
          pub reading_whole : done.sectors ≡ m
          reading_whole = r.sectors ∙ here.all (sym r.code ∙ ap code_number z)

          pub reading_more : Reading p n a image area₀ (put_mid at (end - at) area after) (i + done.sectors) end
          reading_more =
              let e : i + done.sectors ≡ i + m = omega (arith, reading_whole) in
              let now = reading_handed p image fits (i + m) a (omega arith) in
              let handed = (reading p (i + m) a (begun image)).handed in
              let few : 0 + length handed ≤ length area₀ =
              omega (arith, now.long, mul-le-mul_right p.size now.most, mul-le-mul_right p.size hm) in
              record {
                most = omega arith;
                place = rw (e, add-mul) (omega (arith, w.place));
                len = ap length together.area ∙ length_splice 0 handed area₀ few;
                read = rw e (rw (e, z) at together);
              }
