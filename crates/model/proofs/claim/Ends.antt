-- How a command ends: engine and machine change sense, buffer and drive alike, and reply alike.
use Prim.Native.Nat.{ℕ}
use mathlib.Core.Path.{◌≡◌, refl}
use mathlib.Core.Bool.{Bool, true, false}
use mathlib.Core.List.{List, []}
use lib.ListN.{length, take}
use lib.Seq.{take-append_seam}
use borrow.Author.Tests.{eq-eqb, ne_eqb}
use Rattle.base.specs.Pick.{pick}
use Rattle.base.specs.Part.{splice}
use Rattle.base.proofs.Decide.{pick_true, pick-false, pick-both}
use Rattle.geometry.specs.declared.params.Lba.{Lba}
use Rattle.geometry.specs.declared.medium.Medium.{Medium}
use Rattle.geometry.specs.Medium.{medium_of}
use Rattle.model.specs.declared.block.Block.{Block}
use Rattle.model.specs.declared.record.Drive.{Drive}
use Rattle.model.specs.declared.record.Ending.{Ending}
use Rattle.model.specs.Verdicts.{Verdict}
use Rattle.model.specs.Verdicts.{Refused, Faulty, Passed}
use Rattle.model.specs.Sense.{addressed, sense_of}
use Rattle.model.specs.Record.{sensed, refused, failed, good, unless, Effect, effect, Made, made, unless_named}
use Rattle.model.specs.Commands.{as_effect}
use Rattle.model.specs.Feed.{Reply, bare}
use Rattle.model.specs.Machine.{Disk, Machine, changed, with_sense, with_buffer, with_disk, failing, well, providing, failing_on, providing_on}
use Rattle.model.specs.Claim.{reply_of}
use Rattle.model.proofs.claim.Agrees.{Drives, InStep, Follows}

-- ---- one test for both
module _ {ℓ} {A B : Type ℓ} (P : A → B → Type 0) where
  pub pick_both_by : (b : Bool) {x y : A} {u v : B} → (b ≡ true → P x u) → (b ≡ false → P y v) → P (pick b x y) (pick b u v)
  unfolding pick
  pick_both_by true hx hy = hx refl
  pick_both_by false hx hy = hy refl

-- ---- one place changed
module _ {ℓ} {A : Type ℓ} (f : ℕ → A) (i : ℕ) (x : A) where
  pub changed_same : changed f i x i ≡ x
  unfolding changed
  changed_same = pick_true _ _ _ (eq-eqb i i refl)

  pub changed_other : (j : ℕ) → (j ≡ i → ⊥) → changed f i x j ≡ f j
  unfolding changed
  changed_other j ne = pick-false _ _ _ (ne_eqb j i ne)

pub sense_length : (code drive : ℕ) (at : Lba) → length (sense_of code drive at) ≡ 4
unfolding sense_of
sense_length code drive at = pick-both (λ (l : List ℕ). length l ≡ 4) (addressed code) _ _ refl refl

-- ---- the reply: the front of the data area is what was handed over
pub front : (handed area : List ℕ) → take (length handed) (splice 0 handed area) ≡ handed
unfolding splice
front handed area = take-append_seam handed _

-- ---- a drive's sense is no part of what else is said of it
pub resensed : (medium : Medium) (sense : List ℕ) (entry : Drive) (image : List ℕ) (u : Disk) → Drives medium entry image u
    → Drives medium (sensed sense entry) image u
unfolding sensed
resensed medium sense entry image u o =
    record { len = o.len; force = o.force; pending = o.pending; current = o.current; stored = o.stored }

-- ---- what a command has done before its sense is set: engine and machine, which was m and is now n
pub record Done (d : ℕ) (image : List ℕ) (m : Machine) (entry : Drive) (buffer after : List ℕ) (n : Machine) : Type 0 where
  pub buffered : buffer ≡ n.buffer
  pub whole : length buffer ≡ 512
  pub drive : Drives (medium_of d) entry after (n.disks d)
  pub others : (j : ℕ) → (j ≡ d → ⊥) → (n.senses j ≡ m.senses j) × (n.disks j ≡ m.disks j)
  pub len : length after ≡ length image

module _ (d : ℕ) (entry : Drive) (buffer image : List ℕ) (m : Machine) (alike : InStep d entry buffer image m) where
  pub done_nothing : Done d image m entry buffer image m
  done_nothing =
      record { buffered = alike.buffered; whole = alike.whole; drive = alike.drive; others = λ j ne. (refl, refl); len = refl }

  pub done_buffer : (x y : List ℕ) → x ≡ y → length x ≡ 512 → Done d image m entry x image (with_buffer y m)
  unfolding with_buffer
  done_buffer x y e l = record { buffered = e; whole = l; drive = alike.drive; others = λ j ne. (refl, refl); len = refl }

  module _ (other : Drive) (after : List ℕ) (u : Disk) (new : Drives (medium_of d) other after u) (len : length after ≡ length image) where
    pub done_drive : Done d image m other buffer after (with_disk d u m)
    unfolding with_disk
    done_drive = record {
      buffered = alike.buffered;
      whole = alike.whole;
      drive = rw (changed_same m.disks d u) new;
      others = λ j ne. (refl, changed_other m.disks d u j ne);
      len = len;
    }

    pub done_both : (x y : List ℕ) → x ≡ y → length x ≡ 512 → Done d image m other x after (with_disk d u (with_buffer y m))
    unfolding with_disk with_buffer
    done_both x y e l = record {
      buffered = e;
      whole = l;
      drive = rw (changed_same m.disks d u) new;
      others = λ j ne. (refl, changed_other m.disks d u j ne);
      len = len;
    }

-- ---- the three ways in which a command ends
module _ (b : Block) (area image : List ℕ) (m : Machine) where
  module _ (entry : Drive) (buffer after : List ℕ) (n : Machine) (done : Done b.drive image m entry buffer after n)
      (sectors : ℕ) (handed : List ℕ) where
    -- the sense is set alike
    alike_sensed : (sense : List ℕ) → length sense ≡ 4
        → InStep b.drive (sensed sense entry) buffer after (with_sense b.drive sense n)
    unfolding with_sense sensed
    alike_sensed sense four = record {
      buffered = done.buffered;
      whole = done.whole;
      sense = rw (changed_same n.senses b.drive sense);
      four = four;
      drive = resensed _ sense entry after (n.disks b.drive) done.drive;
    }

    others_sensed : (sense : List ℕ) (j : ℕ) → (j ≡ b.drive → ⊥)
        → ((with_sense b.drive sense n).senses j ≡ m.senses j) × ((with_sense b.drive sense n).disks j ≡ m.disks j)
    unfolding with_sense
    others_sensed sense j ne = let o = done.others j ne in (rw (changed_other n.senses b.drive sense j ne) o.0, o.1)

    pub well_follows : Follows b.drive area image m (effect (good b.drive sectors (length handed) entry) buffer handed after) (well b sectors handed n)
    unfolding good well reply_of
    well_follows = record {
      reply = rw (front handed area);
      alike = alike_sensed _ (sense_length 0 b.drive _);
      others = others_sensed _;
      len = done.len;
    }

    pub failing_follows : (code : ℕ) (at : Lba)
        → Follows b.drive area image m (effect (failed b.drive b.drive code at sectors (length handed) entry) buffer handed after)
        (failing b code at sectors handed n)
    unfolding failed failing_on reply_of
    failing_follows code at = record {
      reply = rw (front handed area);
      alike = alike_sensed _ (sense_length code b.drive at);
      others = others_sensed _;
      len = done.len;
    }

  module _ (entry : Drive) (buffer : List ℕ) (alike : InStep b.drive entry buffer image m) where
    refused_follows : (number : ℕ) → Follows b.drive area image m (effect (refused number entry) buffer [] image) (bare number, m)
    unfolding refused reply_of
    refused_follows number = record { reply = refl; alike = alike; others = λ j ne. (refl, refl); len = refl }

    -- where nothing but the sense changes
    pub done_follows : Follows b.drive area image m (effect (good b.drive 0 0 entry) buffer [] image) (well b 0 [] m)
    done_follows = well_follows entry buffer image m (done_nothing _ entry buffer image m alike) 0 []

    pub fault_follows : (code : ℕ) (at : Lba)
        → Follows b.drive area image m (effect (failed b.drive b.drive code at 0 0 entry) buffer [] image) (failing b code at 0 [] m)
    fault_follows = failing_follows entry buffer image m (done_nothing _ entry buffer image m alike) 0 []

    -- one verdict for both
    pub verdict_follows : (v : Verdict) (e : Effect) (x : Reply × Machine) → (v ≡ Passed → Follows b.drive area image m e x)
        → Follows b.drive area image m (unless v b.drive entry (λ ending. effect ending buffer [] image) e) (providing v b m x)
    unfolding unless_named providing_on
    verdict_follows (Refused number) e x go = refused_follows number
    verdict_follows (Faulty code at) e x go = fault_follows code at
    verdict_follows Passed e x go = go refl

    -- the same for a command that leaves the buffer
    pub made_follows : (v : Verdict) (y : Made) (x : Reply × Machine) → (v ≡ Passed → Follows b.drive area image m (as_effect buffer y) x)
        → Follows b.drive area image m (as_effect buffer (unless v b.drive entry (λ ending. made ending image) y)) (providing v b m x)
    unfolding unless_named providing_on as_effect
    made_follows (Refused number) y x go = refused_follows number
    made_follows (Faulty code at) y x go = fault_follows code at
    made_follows Passed y x go = go refl

    -- the same for one that leaves the image too
    pub ending_follows : (v : Verdict) (y : Ending) (x : Reply × Machine) → (v ≡ Passed → Follows b.drive area image m (effect y buffer [] image) x)
        → Follows b.drive area image m (effect (unless v b.drive entry (λ ending. ending) y) buffer [] image) (providing v b m x)
    unfolding unless_named providing_on
    ending_follows (Refused number) y x go = refused_follows number
    ending_follows (Faulty code at) y x go = fault_follows code at
    ending_follows Passed y x go = go refl
