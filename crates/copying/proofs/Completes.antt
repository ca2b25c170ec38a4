-- The last sector of a Copy, completed with zeros.
use mathlib.Core.Path.{◌≡◌, refl, sym, ap, ◌∙◌}
use mathlib.Core.List.{List, [], ◌∷◌}
use Prim.Native.Nat.{ℕ, suc, ◌+◌, ◌-◌, ◌*◌, ◌/◌, ◌≤◌, ◌<◌}
use native.Mathlib.Omega.{arith}
use native.Mathlib.Nat.{add-zero, suc-mul}
use native.Mathlib.Decide.{dec_lt}
use lib.ListN.{length, take, set}
use lib.Seq.{take_all}
use Rattle.geometry.specs.Params.{further}
use Rattle.sectors.specs.Transfer.{Transfer, begun, write_slot, writing}
use Rattle.contents.proofs.Laws.{writing_most, writing_all, writing_whole}
use Rattle.copying.specs.declared.route.Route.{Route}
use Rattle.copying.specs.Ends.{Going, TargetFault, Short}
use Rattle.copying.specs.Images.{image_of}
use Rattle.copying.specs.Copying.{Copying, stopped, with_rest, filled, completed}
use Rattle.copying.specs.Listwise.{filled_by, Fitting}
use Rattle.copying.proofs.Counts.{full_most, full_quotient}
use Rattle.copying.proofs.Drives.{image_kept}
use Rattle.copying.proofs.Steps.{part_completed, filled_long}
use Rattle.copying.proofs.Follows.{Along, Halted, store_by}
use Rattle.copying.proofs.Pours.{Even}
use Rattle.copying.proofs.Clears.{clear_of}
use Rattle.copying.proofs.Onto.{Onto, from_front, goes_on}

-- the Write of the bytes that wait, with zeros
abbrev pub last_written : (r : Route) → (x : Copying) → Transfer
last_written r x =
    writing r.q 1 (further r.b x.done) (filled r.q.size x.rest) (begun (image_of r.target x.images))

-- what it leaves is the Copy y, where the Write so far is v
record Written (r : Route) (x y : Copying) (v : Transfer) : Type 0 where
  pub read : y.read ≡ x.read
  pub done : y.done ≡ v.done
  pub last : y.last ≡ v.last
  pub images : y.images ≡ set x.images r.target v.image
  pub target : v.done ≡ x.done → y.end ≡ TargetFault v.code
  pub short : v.done ≡ suc x.done → y.end ≡ Short

-- the same, by its code
pub record Completion (r : Route) (x y : Copying) : Type 0 where
  pub read : y.read ≡ x.read
  pub done : y.done ≡ x.done + (last_written r x).done
  pub images : y.images ≡ set x.images r.target (last_written r x).image
  pub target : ((last_written r x).code ≡ 0 → ⊥) → y.end ≡ TargetFault (last_written r x).code
  pub short : (last_written r x).code ≡ 0 → y.end ≡ Short

-- there is a sector for them
pub last_room : (ds dd n done rest : ℕ) → 0 < dd → n * ds ≡ done * dd + rest → 0 < rest → done < filled_by n ds dd
last_room ds dd n done rest h even some =
    let bytes = n * ds + (dd - 1) in
    full_most dd (suc done) (bytes / dd) (suc done * dd) bytes (record { enough = omega arith; no_more = omega arith }) (full_quotient dd bytes h)
    (omega (arith, even, some, suc-mul done dd))

module _ (r : Route) (n : ℕ) (x : Copying) (fit : Fitting r n x.images) (going : x.end ≡ Going) (even : Even r x) (all : x.read ≡ n) where
  abbrev W : Transfer
  W = last_written r x

  abbrev T : List ℕ
  T = image_of r.target x.images

  abbrev given : List ℕ
  given = filled r.q.size x.rest

  abbrev so_far : Transfer
  so_far = record { done = x.done; handed = []; last = x.last; image = T; code = 0 }

  along : Along r x.images (with_rest [] x) so_far
  along = record { going = going; done = refl; last = refl; images = sym (image_kept r.target x.images); fits = fit.target_fits }

  halted : (y : Copying) (v : Transfer) → Halted r x.images y v → v.done ≡ x.done → y.read ≡ x.read → Written r x y v
  halted y v h e z = record {
    read = z;
    done = h.done;
    last = h.last;
    images = h.images;
    target = λ same. h.end;
    short = λ more. absurd (omega (arith, e, more));
  }

  stored : (y : Copying) (v : Transfer) → Along r x.images y v → y.done ≡ suc x.done → y.read ≡ x.read → Written r x (stopped Short y) v
  stored y v at e z = record {
    read = z;
    done = at.done;
    last = at.last;
    images = at.images;
    target = λ same. absurd (omega (arith, e, same, at.done));
    short = λ more. refl;
  }

  module _ (byte : ℕ) (more : List ℕ) (is : x.rest ≡ byte ∷ more) where
    some : 0 < length x.rest
    some = rw is (omega arith)

    room : x.done < filled_by n r.p.size r.q.size
    room = last_room r.p.size r.q.size n x.done (length x.rest) fit.target_some (rw all at even) some

    written : Written r x (completed r x) (writing r.q 1 (further r.b x.done) given so_far)
    unfolding writing
    written =
        let sector : take r.q.size given ≡ given = take_all r.q.size given (omega (arith, filled_long r.q.size x.rest)) in
        rw (part_completed r x byte more going is, sector)
        (store_by r x.images n (filled_by n r.p.size r.q.size) (clear_of r n x.images fit) (with_rest [] x) so_far along given
        (filled_long r.q.size x.rest) room (Written r x) (λ c. stopped Short c) _
        (λ y t k at e d z same. stored y (write_slot r.q given so_far t k) at e z) (λ y v h e z. halted y v h e z))

    first_onto : Onto x.done x.last r.q.size given so_far (begun T)
    unfolding begun
    first_onto = record { done = sym (add-zero x.done); code = refl; image = refl; none = λ z. refl; some = λ z. absurd (z refl) }

    onto : Onto x.done x.last r.q.size given (writing r.q 1 (further r.b x.done) given so_far) W
    onto = goes_on r.q x.done x.last given 1 (further r.b x.done) given so_far (begun T) (from_front T r.q.size given) first_onto

    most : W.done ≤ 1
    most = writing_most r.q 1 (further r.b x.done) T given

    none : (W.code ≡ 0 → ⊥) → W.done ≡ 0
    none failed = by (dec_lt W.done 1)
      where
        by : Dec (W.done < 1) → W.done ≡ 0
        by (yes l) = omega arith
        by (no l) = absurd (failed (writing_whole r.q 1 (further r.b x.done) T given (omega (arith, most, l))))

    completes_by : Completion r x (completed r x)
    completes_by =
        let w = written in
        record {
          read = w.read;
          done = w.done ∙ onto.done;
          images = w.images ∙ ap (set x.images r.target) onto.image;
          target = λ failed. w.target (omega (arith, onto.done, none failed)) ∙ ap TargetFault onto.code;
          short = λ z. w.short (omega (arith, onto.done, writing_all r.q 1 (further r.b x.done) T given z));
        }

  pub completes : 0 < length x.rest → Completion r x (completed r x)
  completes some = by x.rest refl
    where
      by : (rest : List ℕ) → x.rest ≡ rest → Completion r x (completed r x)
      by [] e = absurd (let none : length x.rest ≡ 0 = ap length e in omega (arith, none, some))
      by (byte ∷ more) e = completes_by byte more e
