-- Some source sectors of a Copy at once: what reading them, and then writing the sectors that are full, leaves.
use mathlib.Core.Path.{◌≡◌, refl, sym, ap, ◌∙◌}
use mathlib.Core.List.{List, [], ◌++◌, append-nil}
use Prim.Native.Nat.{ℕ, zero, suc, ◌+◌, ◌-◌, ◌*◌, ◌/◌, ◌≤◌, ◌<◌}
use native.Mathlib.Omega.{arith}
use native.Mathlib.Nat.{add-zero, add-mul}
use native.Mathlib.Decide.{dec_lt}
use lib.ListN.{length, drop, set, length-append, length-drop}
use Rattle.geometry.specs.declared.params.Lba.{Lba}
use Rattle.geometry.specs.Params.{further}
use Rattle.geometry.proofs.Addresses.{same_lba}
use Rattle.sectors.specs.Transfer.{Transfer, begun, reading, writing}
use Rattle.sectors.proofs.Laws.{Handed, reading_handed}
use Rattle.contents.specs.Content.{Missing, content_of}
use Rattle.contents.proofs.Laws.{Given, reading_contents, reading_finds, reading_stop, reading_whole, writing_most, writing_all, writing_whole, writing_length}
use Rattle.copying.specs.declared.route.Route.{Route}
use Rattle.copying.specs.Ends.{Going, SourceFault, TargetFault}
use Rattle.copying.specs.Images.{image_of}
use Rattle.copying.specs.Copying.{Copying, stopped, unless_ended, poured_by, copying}
use Rattle.copying.specs.Listwise.{filled_by, Fitting}
use Rattle.copying.proofs.Counts.{Full, full_quotient, filled_most, needed_is}
use Rattle.copying.proofs.Drives.{image_kept, fitting_still}
use Rattle.copying.proofs.Holds.{Holds, found_holds}
use Rattle.copying.proofs.Steps.{copying_more, none_more}
use Rattle.copying.proofs.Follows.{Along, Halted, SameSource}
use Rattle.copying.proofs.Pours.{Even, Needed, copying_by}
use Rattle.copying.proofs.Clears.{clear_of}
use Rattle.copying.proofs.Onto.{Onto, from_front, goes_on}

-- ---- c source sectors from where the Copy x stands
module _ (r : Route) (x : Copying) (c : ℕ) where
  -- the Read of them
  abbrev pub turn_read : Transfer
  turn_read = reading r.p c (further r.a x.read) (begun (image_of r.source x.images))

  abbrev pub turn_bytes : List ℕ
  turn_bytes = x.rest ++ turn_read.handed

  -- and the Write of the sectors that are full
  abbrev pub turn_full : ℕ
  turn_full = length turn_bytes / r.q.size

  abbrev pub turn_written : Transfer
  turn_written = writing r.q turn_full (further r.b x.done) turn_bytes (begun (image_of r.target x.images))

-- what they leave is the Copy y, where the Write so far is v
record Turned (r : Route) (x : Copying) (c : ℕ) (y : Copying) (v : Transfer) : Type 0 where
  pub done : y.done ≡ v.done
  pub last : y.last ≡ v.last
  pub images : y.images ≡ set x.images r.target v.image
  pub target : v.done < x.done + turn_full r x c → (y.end ≡ TargetFault v.code) × (y.rest ≡ []) × Needed r v.done y.read
  pub source : v.done ≡ x.done + turn_full r x c → (turn_read r x c).done < c
      → (y.end ≡ SourceFault (turn_read r x c).code) × (y.rest ≡ []) × (y.read ≡ x.read + (turn_read r x c).done)
  pub whole : v.done ≡ x.done + turn_full r x c → (turn_read r x c).done ≡ c
      → (y.end ≡ Going) × (y.rest ≡ drop (turn_full r x c * r.q.size) (turn_bytes r x c)) × (y.read ≡ x.read + c)

-- the same, by the codes; the Copy y can go on
pub record Turn (r : Route) (n : ℕ) (x : Copying) (c : ℕ) (y : Copying) : Type 0 where
  pub done : y.done ≡ x.done + (turn_written r x c).done
  pub images : y.images ≡ set x.images r.target (turn_written r x c).image
  pub fitting : Fitting r n y.images
  pub target : ((turn_written r x c).code ≡ 0 → ⊥)
      → (y.end ≡ TargetFault (turn_written r x c).code) × (y.rest ≡ []) × (y.read ≡ filled_by (suc y.done) r.q.size r.p.size)
  pub source : (turn_written r x c).code ≡ 0 → ((turn_read r x c).code ≡ 0 → ⊥)
      → (y.end ≡ SourceFault (turn_read r x c).code) × (y.rest ≡ []) × (y.read ≡ x.read + (turn_read r x c).done)
  pub whole : (turn_written r x c).code ≡ 0 → (turn_read r x c).code ≡ 0
      → (y.end ≡ Going) × (y.rest ≡ drop (turn_full r x c * r.q.size) (turn_bytes r x c)) × (y.read ≡ x.read + c)
  pub even : (turn_written r x c).code ≡ 0 → (turn_read r x c).code ≡ 0 → Even r y × (length y.rest < r.q.size)

module _ (r : Route) (n : ℕ) (x : Copying) (fit : Fitting r n x.images) (going : x.end ≡ Going) (even : Even r x) (short : length x.rest < r.q.size)
    (c : ℕ) (le : x.read + c ≤ n) where
  abbrev S : Transfer
  S = turn_read r x c

  abbrev k : ℕ
  k = turn_full r x c

  abbrev here : Lba
  here = further r.a x.read

  handed : Handed r.p c (image_of r.source x.images) S
  handed = reading_handed r.p _ fit.source_fits c here (omega (arith, fit.source_on))

  held : Holds r.p (image_of r.source x.images) S.done here S.handed
  held =
      rw (reading_contents r.p c here (image_of r.source x.images))
      (found_holds r.p _ fit.source_fits S.done here (omega (arith, handed.most, fit.source_on)) (reading_finds r.p c here (image_of r.source x.images)))

  full : Full r.q.size k (length (turn_bytes r x c))
  full = full_quotient r.q.size _ fit.target_some

  -- all that was read, from the start
  sum : (x.read + S.done) * r.p.size ≡ x.done * r.q.size + length (turn_bytes r x c)
  sum = omega (arith, even, add-mul x.read S.done r.p.size, handed.long, length-append x.rest S.handed)

  -- the full sectors lie on the drive
  pub turn_room : x.done + k ≤ filled_by n r.p.size r.q.size
  turn_room =
      filled_most (x.read + S.done) n r.p.size r.q.size (x.done + k) fit.target_some (omega (arith, handed.most))
      (record {
        enough = omega (arith, sum, full.enough, add-mul x.done k r.q.size);
        no_more = omega (arith, sum, full.no_more, add-mul x.done k r.q.size);
      })

  -- the Write so far
  abbrev so_far : Transfer
  so_far = record { done = x.done; handed = []; last = x.last; image = image_of r.target x.images; code = 0 }

  own : set x.images r.target (image_of r.target x.images) ≡ x.images
  own = image_kept r.target x.images

  along : Along r x.images x so_far
  along = record { going = going; done = refl; last = refl; images = sym own; fits = fit.target_fits }

  -- where not all were read, the next is missing, whatever was written
  missing : (y : Copying) (v : Transfer) → S.done < c → Along r x.images y v → y.read ≡ x.read + S.done
      → SameSource r x.images n (image_of r.target x.images) v.image
      → content_of r.p (further r.a y.read) (image_of r.source y.images) ≡ Missing S.code
  missing y v l at e same =
      let there : further r.a y.read ≡ further here S.done = same_lba _ _ (omega (arith, e)) in
      ap (λ (now : List (List ℕ)). content_of r.p (further r.a y.read) (image_of r.source now)) at.images
      ∙ same y.read (omega (arith, e, le))
      ∙ ap (λ (now : List (List ℕ)). content_of r.p (further r.a y.read) (image_of r.source now)) own
      ∙ ap (λ (b : Lba). content_of r.p b (image_of r.source x.images)) there
      ∙ reading_stop r.p c here (image_of r.source x.images) l

  source_missing : (y : Copying) (e code : ℕ) → content_of r.p (further r.a y.read) (image_of r.source y.images) ≡ Missing code
      → copying r (suc e) y ≡ stopped (SourceFault code) y
  unfolding copying poured_by
  source_missing y e code z = rw z refl

  written_whole : (y : Copying) (v : Transfer) → Along r x.images y v → y.done ≡ x.done + k → y.rest ≡ drop (k * r.q.size) (turn_bytes r x c)
      → y.read ≡ x.read + S.done → SameSource r x.images n (image_of r.target x.images) v.image → Turned r x c (copying r (c - S.done) y) v
  written_whole y v at d rest z same = by (dec_lt S.done c)
    where
      by : Dec (S.done < c) → Turned r x c (copying r (c - S.done) y) v
      by (yes l) =
          let more : c - S.done ≡ suc (c - suc S.done) = omega arith in
          rw (more, source_missing y (c - suc S.done) S.code (missing y v l at z same))
          (record {
            done = at.done;
            last = at.last;
            images = at.images;
            target = λ few. absurd (omega (arith, few, at.done, d));
            source = λ e l'. (refl, refl, z);
            whole = λ e all. absurd (omega (arith, l, all));
          })
      by (no l) =
          let none : c - S.done ≡ zero = omega (arith, l, handed.most) in
          rw (none, none_more r y)
          (record {
            done = at.done;
            last = at.last;
            images = at.images;
            target = λ few. absurd (omega (arith, few, at.done, d));
            source = λ e l'. absurd (l l');
            whole = λ e all. (at.going, rest, omega (arith, z, all));
          })

  halted : (y : Copying) (v : Transfer) → Halted r x.images y v → v.done < x.done + k → Needed r v.done y.read → Turned r x c y v
  halted y v h l needed = record {
    done = h.done;
    last = h.last;
    images = h.images;
    target = λ few. (h.end, h.rest, needed);
    source = λ e l'. absurd (omega (arith, l, e));
    whole = λ e all. absurd (omega (arith, l, e));
  }

  turned_on : Turned r x c (copying r c x) (writing r.q k (further r.b x.done) (turn_bytes r x c) so_far)
  unfolding writing
  turned_on =
      let all : c ≡ S.done + (c - S.done) = omega (arith, handed.most) in
      let by_parts : copying r c x ≡ unless_ended (copying r S.done x) (λ y. copying r (c - S.done) y) =
      ap (λ (i : ℕ). copying r i x) all ∙ copying_more r S.done (c - S.done) x going in
      let goes =
      copying_by r x.images n (filled_by n r.p.size r.q.size) (clear_of r n x.images fit) fit.target_some (Turned r x c)
      (λ y. copying r (c - S.done) y) zero [] S.done here S.handed x so_far (rw own held) refl (omega (arith, handed.most, le)) along even short k full turn_room
      (λ y v at d l z same. written_whole y v at d l z same) (λ y v h l needed. halted y v h l needed)
      in
      rw by_parts (rw (add-zero, append-nil) at goes)

  -- ---- by the codes
  abbrev W : Transfer
  W = turn_written r x c

  abbrev T : List ℕ
  T = image_of r.target x.images

  first_onto : Onto x.done x.last r.q.size (turn_bytes r x c) so_far (begun T)
  unfolding begun
  first_onto = record { done = sym (add-zero x.done); code = refl; image = refl; none = λ z. refl; some = λ z. absurd (z refl) }

  onto : Onto x.done x.last r.q.size (turn_bytes r x c) (writing r.q k (further r.b x.done) (turn_bytes r x c) so_far) W
  onto =
      goes_on r.q x.done x.last (turn_bytes r x c) k (further r.b x.done) (turn_bytes r x c) so_far (begun T) none_before first_onto
    where
      none_before : turn_bytes r x c ≡ drop ((begun T).done * r.q.size) (turn_bytes r x c)
      none_before = from_front T r.q.size (turn_bytes r x c)

  most : W.done ≤ k
  most = writing_most r.q k (further r.b x.done) T (turn_bytes r x c)

  all : W.code ≡ 0 → W.done ≡ k
  all = writing_all r.q k (further r.b x.done) T (turn_bytes r x c)

  few : (W.code ≡ 0 → ⊥) → W.done < k
  few failed = by (dec_lt W.done k)
    where
      by : Dec (W.done < k) → W.done < k
      by (yes l) = l
      by (no l) = absurd (failed (writing_whole r.q k (further r.b x.done) T (turn_bytes r x c) (omega (arith, most, l))))

  not_all : (S.code ≡ 0 → ⊥) → S.done < c
  not_all failed = by (dec_lt S.done c)
    where
      by : Dec (S.done < c) → S.done < c
      by (yes l) = l
      by (no l) = absurd (failed (reading_whole r.p c here (image_of r.source x.images) (omega (arith, handed.most, l))))

  given : Given r.q k (further r.b x.done) (turn_bytes r x c)
  given = record { on_drive_lem = omega (arith, turn_room, fit.target_on); enough = full.enough }

  pub turned : Turn r n x c (copying r c x)
  turned =
      let t = turned_on in
      let done : (copying r c x).done ≡ x.done + W.done = t.done ∙ onto.done in
      let images : (copying r c x).images ≡ set x.images r.target W.image = t.images ∙ ap (set x.images r.target) onto.image in
      let went : W.code ≡ 0 → S.code ≡ 0 → ((copying r c x).end ≡ Going) × ((copying r c x).rest ≡ drop (k * r.q.size) (turn_bytes r x c)) × ((copying r c x).read ≡ x.read + c) =
      λ z e. t.whole (omega (arith, onto.done, all z)) (handed.all e) in
      record {
        done = done;
        images = images;
        fitting = rw images (fitting_still r n x.images fit W.image (writing_length r.q k (further r.b x.done) T (turn_bytes r x c) fit.target_fits given));
        target = λ failed.
            let is = t.target (omega (arith, onto.done, few failed)) in
            let needed = needed_is r.p.size (suc (copying r c x).done * r.q.size) (copying r c x).read fit.source_some
            (rw t.done is.2.enough) (rw t.done is.2.no_more) in
            (is.0 ∙ ap TargetFault onto.code, is.1, sym needed);
        source = λ z failed. t.source (omega (arith, onto.done, all z)) (not_all failed);
        whole = went;
        even = λ z e.
            let is = went z e in
            let left : length (copying r c x).rest + k * r.q.size ≡ length (turn_bytes r x c) =
            rw is.1 (simp length-drop (omega (arith, full.enough))) in
            let so : (x.read + c) * r.p.size ≡ x.done * r.q.size + length (turn_bytes r x c) = rw (handed.all e) at sum in (
              rw (is.2, done, all z) (omega (arith, so, left, add-mul x.done k r.q.size)),
              omega (arith, left, full.no_more),
            );
      }
