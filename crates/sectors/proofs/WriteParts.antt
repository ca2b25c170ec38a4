-- Sectors of one track written one after the other, as defined, leave what a run of them leaves.
use mathlib.Core.Path.{◌≡◌, refl, sym, ap, ◌∙◌}
use mathlib.Core.Option.{Option, none, some}
use mathlib.Core.List.{List}
use Prim.Native.Nat.{ℕ, zero, suc, ◌+◌, ◌-◌, ◌*◌, ◌≤◌, ◌<◌}
use native.Mathlib.Omega.{arith}
use native.Mathlib.Nat.{suc-mul}
use lib.ListN.{length, take, drop, length-take, length-drop}
use lib.Dec.{ltb, leb-suc-suc}
use borrow.Author.Tests.{lt-ltb}
use borrow.Rule.Slice.PartMut.{put_mid}
use Rattle.std.specs.Prelude.{Some}
use Rattle.codes.specs.declared.Code.{Code}
use Rattle.codes.specs.Numbers.{number_of, code_number}
use Rattle.base.specs.Pick.{pick}
use Rattle.base.proofs.Parts.{splice_lent}
use Rattle.base.proofs.Splices.{splice_part, splice_again}
use Rattle.geometry.specs.declared.params.Params.{Params}
use Rattle.geometry.specs.declared.params.Lba.{Lba}
use Rattle.geometry.specs.declared.params.Track.{Track}
use Rattle.geometry.specs.Params.{track_count, track_size, track_start, track_of, sector_of, OnDrive, next}
use Rattle.track.specs.Find.{On, Off}
use Rattle.track.specs.Image.{Fits, track_bytes, with_track, with_data}
use Rattle.track.specs.Find.{where_of, slot_used, sector_in}
use Rattle.track.proofs.Laws.{track_room, length_track, length_with_track, track_same, length_with_data, track_lent, where_in, used_holds, slot_kept}
use Rattle.track.proofs.Laws.{where_same, data_keeps}
use Rattle.sectors.specs.Run.{on_slot, run_done, run_written}
use Rattle.sectors.specs.Transfer.{Transfer, begun, ended, write_slot, onward, writing}
use Rattle.sectors.specs.declared.transfer.Done.{Done}
use Rattle.sectors.specs.Promises.{HasWritten}
use Rattle.sectors.proofs.Founds.{track_below}
use Rattle.sectors.proofs.Along.{found_on, found_off, address_of, track_at, sector_at_lem}

-- ---- what the runs leave
-- sectors that are found in the same slots give as many
done_same : (p : Params) (x y : List ℕ) → ((s : ℕ) → slot_used p s x ≡ slot_used p s y) → (m s : ℕ) → run_done p m s x ≡ run_done p m s y
unfolding run_done
done_same p x y h zero s = refl
done_same p x y h (suc m) s = rw (h s, done_same p x y h m (suc s))

-- what holds where a slot is found and where none is
slot_has : (P : List ℕ → Type 0) (o : Option ℕ) (a : List ℕ) (next : ℕ → List ℕ)
    → (o ≡ none → P a) → ((k : ℕ) → o ≡ some k → P (next k)) → P (on_slot o a next)
unfolding on_slot
slot_has P none a next hn hs = hn refl
slot_has P (some k) a next hn hs = hs k refl

-- the next sector given, and what is given behind it
next_long : (m size : ℕ) (given : List ℕ) → suc m * size ≤ length given → length (take size given) ≡ size
next_long m size given h = simp length-take (omega (arith, suc-mul m size))

rest_long : (m size : ℕ) (given : List ℕ) → suc m * size ≤ length given → m * size ≤ length (drop size given)
rest_long m size given h = simp length-drop (omega (arith, suc-mul m size))

length_run : (p : Params) (m s : ℕ) (given bytes : List ℕ) → length bytes ≡ track_size p → m * p.size ≤ length given
    → length (run_written p m s given bytes) ≡ track_size p
unfolding run_written
length_run p zero s given bytes l h = l
length_run p (suc m) s given bytes l h =
    slot_has (λ b. length b ≡ track_size p) (slot_used p s bytes) bytes _ (λ e. l)
    (λ k e. length_run p m (suc s) (drop p.size given) _
    (length_with_data p bytes l k (take p.size given) (used_holds p s bytes k e).0 (next_long m p.size given h)) (rest_long m p.size given h))

-- ---- what is left after m sectors of track u from s on
record WrittenAlong (p : Params) (m s : ℕ) (u : Track) (given : List ℕ) (x y : Transfer) : Type 0 where
  pub done : y.done ≡ x.done + run_done p m s (track_bytes p u x.image)
  pub code : y.code ≡ pick (ltb (run_done p m s (track_bytes p u x.image)) m) 0x14 0
  pub image : y.image ≡ with_track p u (run_written p m s given (track_bytes p u x.image)) x.image

module _ (p : Params) (u : Track) (hu : u.0 < track_count p) (x : Transfer) (f : Fits p x.image) where
  abbrev bytes : List ℕ
  bytes = track_bytes p u x.image

  long : length bytes ≡ track_size p
  long = length_track p x.image f.long u hu

  same : with_track p u bytes x.image ≡ x.image
  unfolding with_track track_bytes
  same = splice_part (track_start p u) (track_size p) x.image (track_room p u (length x.image) hu f.long)

  ran_none : (s : ℕ) (given : List ℕ) → x.code ≡ 0 → WrittenAlong p 0 s u given x x
  unfolding run_done run_written pick
  ran_none s given z = record { done = omega arith; code = z; image = sym same }

  module _ (m s : ℕ) (given : List ℕ) where
    ran_miss : slot_used p s bytes ≡ none → WrittenAlong p (suc m) s u given x (ended 0x14 x)
    unfolding run_done run_written on_slot ended pick
    ran_miss e = record { done = rw e (omega arith); code = rw (e, lt-ltb 0 (suc m) (omega arith)); image = rw e (sym same) }

    ran_on : (next : Track → ℕ → Transfer) (o : Option ℕ) → slot_used p s bytes ≡ o
        → ((k : ℕ) → slot_used p s bytes ≡ some k → WrittenAlong p (suc m) s u given x (next u k))
        → WrittenAlong p (suc m) s u given x (onward x next (sector_in u o))
    unfolding onward sector_in
    ran_on next none e hit = ran_miss e
    ran_on next (some k) e hit = hit k e

    -- the sector is written
    module _ (k : ℕ) (e : slot_used p s bytes ≡ some k) (enough : suc m * p.size ≤ length given) where
      abbrev sector : List ℕ
      sector = take p.size given

      abbrev after : Transfer
      after = write_slot p sector x u k

      below : k < p.sectors
      below = (used_holds p s bytes k e).0

      sector_long : length sector ≡ p.size
      sector_long = next_long m p.size given enough

      with_long : length (with_data p k sector bytes) ≡ track_size p
      with_long = length_with_data p bytes long k sector below sector_long

      next_fits : Fits p after.image
      unfolding write_slot
      next_fits = record {
        within = f.within;
        long = rw (length_with_track p x.image f.long u (with_data p k sector bytes) hu with_long) f.long;
      }

      next_bytes : track_bytes p u after.image ≡ with_data p k sector bytes
      unfolding write_slot
      next_bytes = track_same p x.image f.long u (with_data p k sector bytes) hu with_long

      -- the search goes on in the same track as before
      next_where : (t : Track) → t.0 < track_count p → where_of p t after.image ≡ where_of p t x.image
      unfolding write_slot
      next_where =
          where_same p _ x.image (omega (arith, f.within.sectors_some))
          (data_keeps p x.image u k sector f.long hu below sector_long)

      run_again : with_track p u (run_written p m (suc s) (drop p.size given) (track_bytes p u after.image)) after.image
          ≡ with_track p u (run_written p (suc m) s given bytes) x.image
      unfolding run_written on_slot with_track write_slot
      run_again =
          let run = run_written p m (suc s) (drop p.size given) (with_data p k sector bytes) in
          let as_long = length_run p m (suc s) (drop p.size given) (with_data p k sector bytes) with_long (rest_long m p.size given enough) in
          rw (next_bytes, e)
          (splice_again (track_start p u) run (with_data p k sector bytes) x.image (as_long ∙ sym with_long)
          (omega (arith, track_room p u (length x.image) hu f.long)))

      ran_hit : (y : Transfer) → WrittenAlong p m (suc s) u (drop p.size given) after y → WrittenAlong p (suc m) s u given x y
      unfolding run_done on_slot write_slot
      ran_hit y r =
          let kept : run_done p m (suc s) (track_bytes p u after.image) ≡ run_done p m (suc s) bytes =
          ap (run_done p m (suc s)) next_bytes ∙ done_same p _ bytes (slot_kept p bytes long k sector below sector_long) m (suc s) in
          record {
            done = rw e (omega (arith, r.done, kept));
            code = rw (e, leb-suc-suc) (r.code ∙ ap (λ (d : ℕ). pick (ltb d m) 0x14 0) kept);
            image = r.image ∙ run_again;
          }

-- one run is the definition's steps
runs : (p : Params) (t u : Track) → t.0 < track_count p → u.0 < track_count p → (m : ℕ) (a : Lba) (s : ℕ) (given : List ℕ) (x : Transfer)
    → Fits p x.image → x.code ≡ 0 → where_of p t x.image ≡ On u → a.0 ≡ t.0 * p.sectors + s → s + m ≤ p.sectors
    → m * p.size ≤ length given → WrittenAlong p m s u given x (writing p m a given x)
unfolding writing write_slot
runs p t u ht hu zero a s given x f z on ea l enough = ran_none p u hu x f s given z
runs p t u ht hu (suc m) a s given x f z on ea l enough =
    let h : s < p.sectors = omega arith in
    rw (found_on p a x.image t (track_at p t s a h ea) u s (sector_at_lem p t s a h ea) on)
    (ran_on p u hu x f m s given _ (slot_used p s (track_bytes p u x.image)) refl
    (λ k e.
    ran_hit p u hu x f m s given k e enough _
    (runs p t u ht hu m (next a) (suc s) (drop p.size given) (write_slot p (take p.size given) x u k)
    (next_fits p u hu x f m s given k e enough) refl (next_where p u hu x f m s given k e enough t ht ∙ on)
    (omega arith) (omega arith) (rest_long m p.size given enough))))

-- ---- what is written of one track's sectors is what is promised
module _ (p : Params) (a : Lba) (given image : List ℕ) (t : Track) (et : t ≡ track_of p a) where
  -- the search ends at the track
  pub part_off : (n : ℕ) (code : Code) → where_of p t image ≡ Off (number_of code) → 1 ≤ n → HasWritten p n a given (record { sectors = 0; fault = Some code }) image image
  unfolding writing onward ended begun
  part_off zero code off h = absurd (omega arith)
  part_off (suc n) code off h = rw (found_off p a image t et (number_of code) off) (record { sectors = refl; code = refl; image = refl })

  -- it goes on in track u
  module _ (f : Fits p image) (ha : OnDrive p a) (u : Track) (on : where_of p t image ≡ On u)
      (n s : ℕ) (es : s ≡ sector_of p a) (l : s + n ≤ p.sectors) (lg : length given ≡ n * p.size) where
    in_drive : u.0 < track_count p
    in_drive = where_in p t image (where_of p t image) refl (track_below p a t f.within ha et) u on

    part_ran : WrittenAlong p n s u given (begun image) (writing p n a given (begun image))
    unfolding begun
    part_ran =
        runs p t u (track_below p a t f.within ha et) in_drive n a s given (begun image) f refl on
        (address_of p t s a et es) l (omega arith)

    -- the track was lent for the run, and changed
    pub part_on : (start end sectors : ℕ) (after : List ℕ) (r : Done) → start ≡ track_start p u → end ≡ track_start p u + track_size p
        → (sectors ≡ run_done p n s (take (end - start) (drop start image))) × (after ≡ run_written p n s given (take (end - start) (drop start image)))
        → (r.sectors ≡ sectors) × (code_number r.fault ≡ pick (ltb sectors n) 0x14 0)
        → HasWritten p n a given r image (put_mid start (end - start) image after)
    unfolding begun with_track
    part_on start end sectors after r e₀ e₁ run done =
        let lent : take (end - start) (drop start image) ≡ track_bytes p u image = track_lent p u image start end e₀ e₁ in
        let many : sectors ≡ run_done p n s (track_bytes p u image) = run.0 ∙ ap (run_done p n s) lent in
        let is : after ≡ run_written p n s given (track_bytes p u image) = run.1 ∙ ap (run_written p n s given) lent in
        let long : length after ≡ track_size p =
        ap length is ∙ length_run p n s given _ (length_track p image f.long u in_drive) (omega arith) in
        record {
          sectors = omega (arith, done.0, many, part_ran.done);
          code = done.1 ∙ ap (λ (d : ℕ). pick (ltb d n) 0x14 0) many ∙ sym part_ran.code;
          image = splice_lent start end image after (omega arith) ∙ rw (e₀, is) (sym part_ran.image);
        }
