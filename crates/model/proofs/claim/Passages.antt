-- Read and Write: the engine's transfer and the machine's go sector by sector together.
use Prim.Native.Nat.{ℕ, zero, suc, ◌+◌, ◌-◌, ◌*◌, ◌≤◌}
use mathlib.Core.Path.{◌≡◌, refl, sym, ap, ◌∙◌}
use mathlib.Core.List.{List, [], ◌++◌, append_assoc, append-nil}
use native.Mathlib.Omega.{arith}
use native.Mathlib.Nat.{zero-add}
use lib.ListN.{length, take, drop, length-append, length-drop}
use lib.Seq.{length-take-le, drop-append-add, drop-drop}
use Rattle.base.specs.Part.{splice}
use Rattle.base.proofs.Parts.{length_splice, splice_none}
use Rattle.geometry.specs.declared.params.Lba.{Lba}
use Rattle.geometry.specs.declared.params.Track.{Track}
use Rattle.geometry.specs.declared.params.Params.{Params}
use Rattle.geometry.specs.Params.{Within, image_length, address_count, OnDrive, further, next}
use Rattle.track.specs.Image.{track_bytes, slot_data}
use Rattle.sectors.specs.Transfer.{Transfer, begun, ended as ended_by, read_slot, write_slot, onward, found, reading, writing}
use Rattle.model.specs.Verdicts.{Verdict}
use Rattle.model.specs.Verdicts.{Refused, Faulty, Passed}
use Rattle.model.specs.Machine.{Disk, Passage, storing, finished, with_first, passing, read_from, write_from, inARow, leaving}
use Rattle.model.proofs.claim.Mirrors.{Mirrors, KeepsLabel}
use Rattle.model.proofs.claim.Finding.{Found, goes, stops, found_by}
use Rattle.model.proofs.claim.Storing.{length_held, stored_keeps, stored_mirrors}

-- How it ends: all done, or one code at the address after the sectors done.
pub data Ended (first : Lba) (done code : ℕ) (end : Verdict) : Type 0 where
  all_done : code ≡ 0 → end ≡ Passed → Ended first done code end
  stopped : (code ≡ 0 → ⊥) → end ≡ Faulty code (further first done) → Ended first done code end

-- A whole transfer of n sectors from address a on, in the engine (x) and in the machine (y).
pub record Together (p : Params) (n : ℕ) (a : Lba) (x : Transfer) (y : Passage) : Type 0 where
  pub most : length y.sectors ≤ n
  pub done : x.done ≡ length y.sectors
  pub bytes : length (inARow y.sectors) ≡ length y.sectors * p.size
  pub buffer : (buffer : List ℕ) → p.size ≤ length buffer → splice 0 x.last buffer ≡ leaving y.sectors buffer
  pub room : (buffer : List ℕ) → p.size ≤ length buffer → length (splice 0 x.last buffer) ≡ length buffer
  pub ended : Ended a x.done x.code y.end

-- Of the disk only the bytes held change.
pub record OnlyHeld (u v : Disk) : Type 0 where
  pub len : v.len ≡ u.len
  pub stored : v.stored ≡ u.stored
  pub force : v.force ≡ u.force
  pub pending : v.pending ≡ u.pending

-- ---- sectors left in the buffer, one upon the other
leave_one : (sector buffer : List ℕ) → splice 0 sector buffer ≡ sector ++ drop (length sector) buffer
unfolding splice
leave_one sector buffer = rw zero-add

-- a sector that is no shorter covers the one before
leave_again : (sector last buffer : List ℕ) → length last ≤ length sector
    → sector ++ drop (length sector) (splice 0 last buffer) ≡ splice 0 sector buffer
leave_again sector last buffer h =
    let n : ℕ = length sector - length last in
    let e : length sector ≡ length last + n = omega arith in
    rw (leave_one sector buffer, leave_one last buffer)
    (ap (λ (l : List ℕ). sector ++ l)
    (ap (λ (i : ℕ). drop i (last ++ drop (length last) buffer)) e ∙ drop-append-add last (drop (length last) buffer) n
    ∙ drop-drop n (length last) buffer ∙ ap (λ (i : ℕ). drop i buffer) (sym e)))

-- ---- n sectors more, from address a on: the engine's transfer goes from x to r, and the machine's passage is y
record Went (p : Params) (n : ℕ) (a : Lba) (x r : Transfer) (y : Passage) : Type 0 where
  most : length y.sectors ≤ n
  done : r.done ≡ x.done + length y.sectors
  bytes : length (inARow y.sectors) ≡ length y.sectors * p.size
  buffer : (buffer : List ℕ) → splice 0 r.last buffer ≡ leaving y.sectors (splice 0 x.last buffer)
  short : length r.last ≤ p.size
  ended : Ended a (length y.sectors) r.code y.end

module _ (p : Params) (x : Transfer) (u : Disk) (short : length x.last ≤ p.size) where
  went_none : (a : Lba) → x.code ≡ 0 → Went p 0 a x x (finished Passed u)
  unfolding finished inARow leaving
  went_none a e =
      record { most = omega arith; done = omega arith; bytes = omega arith; buffer = λ b. refl; short = short; ended = all_done e refl }

  went_stop : (n : ℕ) (a : Lba) (code : ℕ) → (code ≡ 0 → ⊥) → Went p n a x (ended_by code x) (finished (Faulty code a) u)
  unfolding finished ended_by inARow leaving
  went_stop n a code ne =
      let e : a.0 ≡ a.0 + 0 = omega arith in
      record {
        most = omega arith;
        done = omega arith;
        bytes = omega arith;
        buffer = λ b. refl;
        short = short;
        ended = stopped ne (ap (λ (i : ℕ). Faulty code (record { 0 = i })) e);
      }

ended_next : (a : Lba) (n code : ℕ) (end : Verdict) → Ended (next a) n code end → Ended a (suc n) code end
ended_next a n code end (all_done c e) = all_done c e
ended_next a n code end (stopped c e) =
    let z : suc a.0 + n ≡ a.0 + suc n = omega arith in
    stopped c (e ∙ ap (λ (i : ℕ). Faulty code (record { 0 = i })) z)

module _ (p : Params) (x : Transfer) (short : length x.last ≤ p.size) (sector : List ℕ) (whole : length sector ≡ p.size) where
  went_more : (n : ℕ) (a : Lba) (one r : Transfer) (y : Passage) → one.done ≡ suc x.done → one.last ≡ sector → Went p n (next a) one r y
      → Went p (suc n) a x r (with_first sector y)
  unfolding with_first inARow leaving
  went_more n a one r y ed el rest = record {
    most = omega (arith, rest.most);
    done = rest.done ∙ omega (arith, ed);
    bytes = length-append sector (inARow y.sectors) ∙ omega (arith, whole, rest.bytes);
    buffer = λ b. rest.buffer b ∙ ap (leaving y.sectors) (rw el (sym (leave_again sector x.last b (omega (arith, whole, short)))));
    short = rest.short;
    ended = ended_next a (length y.sectors) r.code y.end rest.ended;
  }

-- from the start on
went_together : (p : Params) (n : ℕ) (a : Lba) (image : List ℕ) (r : Transfer) (y : Passage) → Went p n a (begun image) r y → Together p n a r y
unfolding begun
went_together p n a image r y w =
    let e : length y.sectors ≡ r.done = omega (arith, w.done) in
    record {
      most = w.most;
      done = sym e;
      bytes = w.bytes;
      buffer = λ b l. w.buffer b ∙ ap (leaving y.sectors) (splice_none b);
      room = λ b l. length_splice 0 r.last b (omega (arith, w.short));
      ended = rw e at w.ended;
    }

-- ---- Read
record ReadOn (p : Params) (n : ℕ) (a : Lba) (x r : Transfer) (y : Passage) : Type 0 where
  went : Went p n a x r y
  handed : r.handed ≡ x.handed ++ inARow y.sectors
  image : r.image ≡ x.image

module _ (p : Params) (x : Transfer) (u : Disk) (short : length x.last ≤ p.size) where
  read_none : (a : Lba) → x.code ≡ 0 → ReadOn p 0 a x x (finished Passed u)
  unfolding finished inARow
  read_none a e = record { went = went_none p x u short a e; handed = sym (append-nil x.handed); image = refl }

  read_stop : (n : ℕ) (a : Lba) (code : ℕ) → (code ≡ 0 → ⊥) → ReadOn p n a x (ended_by code x) (finished (Faulty code a) u)
  unfolding finished ended_by inARow
  read_stop n a code ne = record { went = went_stop p x u short n a code ne; handed = sym (append-nil x.handed); image = refl }

module _ (p : Params) (w : Within p) (u : Disk) where
  module _ (x : Transfer) (fits : image_length p ≤ length x.image) (mirror : Mirrors p u.kind u.inter u.held x.image)
      (short : length x.last ≤ p.size) (n : ℕ) (a : Lba) (here : OnDrive p a)
      (rest : (t : Track) (k : ℕ) → length (slot_data p k (track_bytes p t x.image)) ≡ p.size
      → ReadOn p n (next a) (read_slot p x t k) (reading p n (next a) (read_slot p x t k)) (read_from p n (next a) u)) where
    abbrev sector : List ℕ
    sector = u.held a

    read_more : (t : Track) (k : ℕ) → slot_data p k (track_bytes p t x.image) ≡ sector → length sector ≡ p.size
        → ReadOn p (suc n) a x (reading p n (next a) (read_slot p x t k)) (with_first sector (read_from p n (next a) u))
    unfolding read_slot with_first inARow
    read_more t k e l =
        let r = rest t k (ap length e ∙ l) in
        let others = inARow (read_from p n (next a) u).sectors in
        record {
          went = went_more p x short sector l n a (read_slot p x t k) _ _ refl e r.went;
          handed = r.handed ∙ ap (λ (s : List ℕ). (x.handed ++ s) ++ others) e ∙ append_assoc x.handed sector others;
          image = r.image;
        }

    read_step : Found p u.kind u.inter u.held x.image a
        → ReadOn p (suc n) a x (reading p (suc n) a x) (read_from p (suc n) a u)
    unfolding reading read_from found onward passing
    read_step (goes k j f e) =
        rw (j, f) (read_more _ _ e (length_held p w u.kind u.inter u.held x.image fits mirror a here k))
    read_step (stops code c j f) = rw (j, f) (read_stop p x u short (suc n) a code c)

  read_on : (n : ℕ) (a : Lba) (x : Transfer) → image_length p ≤ length x.image → Mirrors p u.kind u.inter u.held x.image
      → length x.last ≤ p.size → x.code ≡ 0 → a.0 + n ≤ address_count p → ReadOn p n a x (reading p n a x) (read_from p n a u)
  unfolding reading read_from read_slot
  read_on zero a x fits mirror short c inside = read_none p x u short a c
  read_on (suc n) a x fits mirror short c inside =
      let here : OnDrive p a = omega arith in
      read_step x fits mirror short n a here
      (λ t k l. read_on n (next a) (read_slot p x t k) fits mirror (omega (arith, l)) refl (omega arith))
      (found_by p w u.kind u.inter u.held x.image fits mirror a here)

  -- reading leaves the disk
  passing_disk : (v : Verdict) (y : Passage) → y.disk ≡ u → (passing v u y).disk ≡ u
  unfolding passing finished
  passing_disk (Refused number) y e = refl
  passing_disk (Faulty code at) y e = refl
  passing_disk Passed y e = e

  first_disk : (sector : List ℕ) (y : Passage) → y.disk ≡ u → (with_first sector y).disk ≡ u
  unfolding with_first
  first_disk sector y e = e

  read_leaves : (n : ℕ) (a : Lba) → (read_from p n a u).disk ≡ u
  unfolding read_from finished
  read_leaves zero a = refl
  read_leaves (suc n) a = passing_disk _ _ (first_disk _ _ (read_leaves n (next a)))

-- ---- Write
record WriteOn (p : Params) (n : ℕ) (a : Lba) (x r : Transfer) (u : Disk) (y : Passage) : Type 0 where
  went : Went p n a x r y
  handed : r.handed ≡ x.handed
  mirror : Mirrors p y.disk.kind y.disk.inter y.disk.held r.image
  keeps : KeepsLabel x.image r.image
  only : OnlyHeld u y.disk

label_same : (image : List ℕ) → KeepsLabel image image
label_same image = record { len = refl; label = λ at size h. refl }

label_then : (a b c : List ℕ) → KeepsLabel a b → KeepsLabel b c → KeepsLabel a c
label_then a b c x y = record { len = y.len ∙ x.len; label = λ at size h. y.label at size h ∙ x.label at size h }

only_same : (u : Disk) → OnlyHeld u u
only_same u = record { len = refl; stored = refl; force = refl; pending = refl }

only_first : (u v : Disk) (at : Lba) (sector : List ℕ) → OnlyHeld (storing at sector u) v → OnlyHeld u v
unfolding storing
only_first u v at sector x = record { len = x.len; stored = x.stored; force = x.force; pending = x.pending }

module _ (p : Params) (x : Transfer) (u : Disk) (short : length x.last ≤ p.size)
    (mirror : Mirrors p u.kind u.inter u.held x.image) where
  write_none : (a : Lba) → x.code ≡ 0 → WriteOn p 0 a x x u (finished Passed u)
  unfolding finished
  write_none a e = record { went = went_none p x u short a e; handed = refl; mirror = mirror; keeps = label_same x.image; only = only_same u }

  write_stop : (n : ℕ) (a : Lba) (code : ℕ) → (code ≡ 0 → ⊥) → WriteOn p n a x (ended_by code x) u (finished (Faulty code a) u)
  unfolding finished ended_by
  write_stop n a code ne =
      record { went = went_stop p x u short n a code ne; handed = refl; mirror = mirror; keeps = label_same x.image; only = only_same u }

module _ (p : Params) (w : Within p) where
  module _ (u : Disk) (x : Transfer) (fits : image_length p ≤ length x.image) (mirror : Mirrors p u.kind u.inter u.held x.image)
      (short : length x.last ≤ p.size) (n : ℕ) (a : Lba) (here : OnDrive p a) (given : List ℕ)
      (whole : length (take p.size given) ≡ p.size) where
    abbrev written : List ℕ
    written = take p.size given

    -- the disk, the transfer and the passage after this sector
    abbrev disk : Disk
    disk = storing a written u

    abbrev after : Track → ℕ → Transfer
    after t k = write_slot p written x t k

    abbrev on : Track → ℕ → Transfer
    on t k = writing p n (next a) (drop p.size given) (after t k)

    abbrev rest : Passage
    rest = write_from p n (next a) (drop p.size given) disk

    module _ (more : (t : Track) (k : ℕ) → Mirrors p disk.kind disk.inter disk.held (after t k).image
        → KeepsLabel x.image (after t k).image → WriteOn p n (next a) (after t k) (on t k) disk rest) where
      write_more : (t : Track) (k : ℕ) → Mirrors p disk.kind disk.inter disk.held (after t k).image → KeepsLabel x.image (after t k).image
          → WriteOn p (suc n) a x (on t k) u (with_first written rest)
      unfolding write_slot with_first
      write_more t k m l =
          let r = more t k m l in
          record {
            went = went_more p x short written whole n a (after t k) _ _ refl refl r.went;
            handed = r.handed;
            mirror = r.mirror;
            keeps = label_then _ _ _ l r.keeps;
            only = only_first u _ _ _ r.only;
          }

      write_step : Found p u.kind u.inter u.held x.image a
          → WriteOn p (suc n) a x (writing p (suc n) a given x) u (write_from p (suc n) a given u)
      unfolding writing write_from found onward passing write_slot storing
      write_step (goes k j f e) = rw (j, f)
          (write_more _ _
          (stored_mirrors p w u.kind u.inter u.held x.image fits mirror a here k written whole)
          (stored_keeps p w u.kind u.inter u.held x.image fits mirror a here k written whole))
      write_step (stops code c j f) = rw (j, f) (write_stop p x u short mirror (suc n) a code c)

  write_on_lem : (n : ℕ) (a : Lba) (given : List ℕ) (u : Disk) (x : Transfer) → image_length p ≤ length x.image
      → Mirrors p u.kind u.inter u.held x.image → length x.last ≤ p.size → x.code ≡ 0 → a.0 + n ≤ address_count p
      → n * p.size ≤ length given → WriteOn p n a x (writing p n a given x) u (write_from p n a given u)
  unfolding writing write_from write_slot
  write_on_lem zero a given u x fits mirror short c inside enough = write_none p x u short mirror a c
  write_on_lem (suc n) a given u x fits mirror short c inside enough =
      let here : OnDrive p a = omega arith in
      let whole : length (take p.size given) ≡ p.size = length-take-le p.size given (omega arith) in
      write_step u x fits mirror short n a here given whole
      (λ t k m l. write_on_lem n (next a) (drop p.size given) _ _ (rw l.len fits) m (omega (arith, whole)) refl (omega arith)
      (rw (length-drop p.size given) (omega arith)))
      (found_by p w u.kind u.inter u.held x.image fits mirror a here)

-- ---- whole transfers
module _ (p : Params) (w : Within p) (u : Disk) (image : List ℕ) (fits : image_length p ≤ length image)
    (mirror : Mirrors p u.kind u.inter u.held image) (n : ℕ) (a : Lba) (inside : a.0 + n ≤ address_count p) where
  read_all_lem : ReadOn p n a (begun image) (reading p n a (begun image)) (read_from p n a u)
  unfolding begun
  read_all_lem = read_on p w u n a (begun image) fits mirror (omega arith) refl inside

  pub read_together : Together p n a (reading p n a (begun image)) (read_from p n a u)
  read_together = went_together p n a image _ _ read_all_lem.went

  pub read_handed : (reading p n a (begun image)).handed ≡ inARow (read_from p n a u).sectors
  unfolding begun
  read_handed = read_all_lem.handed

  pub read_image : (reading p n a (begun image)).image ≡ image
  unfolding begun
  read_image = read_all_lem.image

  pub read_disk : (read_from p n a u).disk ≡ u
  read_disk = read_leaves p w u n a

  module _ (given : List ℕ) (enough : n * p.size ≤ length given) where
    write_all_lem : WriteOn p n a (begun image) (writing p n a given (begun image)) u (write_from p n a given u)
    unfolding begun
    write_all_lem = write_on_lem p w n a given u (begun image) fits mirror (omega arith) refl inside enough

    pub write_together : Together p n a (writing p n a given (begun image)) (write_from p n a given u)
    write_together = went_together p n a image _ _ write_all_lem.went

    pub write_handed : (writing p n a given (begun image)).handed ≡ []
    unfolding begun
    write_handed = write_all_lem.handed

    pub write_mirror : Mirrors p (write_from p n a given u).disk.kind (write_from p n a given u).disk.inter (write_from p n a given u).disk.held
        (writing p n a given (begun image)).image
    write_mirror = write_all_lem.mirror

    pub write_keeps : KeepsLabel image (writing p n a given (begun image)).image
    unfolding begun
    write_keeps = write_all_lem.keeps

    pub write_only : OnlyHeld u (write_from p n a given u).disk
    write_only = write_all_lem.only
