-- How far a Copy can come: no more sectors than were asked for, and where its last one is completed, some.
use mathlib.Core.Path.{◌≡◌, refl, sym, ap, ◌∙◌}
use mathlib.Core.Bool.{Bool, true, false}
use mathlib.Core.List.{List, ◌++◌}
use Prim.Native.Nat.{ℕ, ◌*◌, ◌/◌, ◌%◌, ◌≤◌, ◌<◌}
use native.Mathlib.Omega.{arith}
use native.Mathlib.Nat.{min-le_left}
use native.Mathlib.Decide.{ℕ_discrete}
use borrow.Author.Tests.{ltb-false}
use lib.Dec.{ltb, eqb}
use lib.ListN.{replicate}
use Rattle.base.specs.Pick.{pick}
use Rattle.base.proofs.Decide.{pick-both}
use Rattle.sectors.specs.Transfer.{Transfer}
use Rattle.contents.proofs.Laws.{writing_most}
use Rattle.copying.specs.declared.route.Route.{Route}
use Rattle.copying.specs.Ends.{End}
use Rattle.copying.specs.Ends.{Going, SourceFault, TargetFault, Short}
use Rattle.copying.specs.Images.{image_of}
use Rattle.copying.specs.Copying.{Copying, copied}
use Rattle.copying.specs.Listwise.{filled_by, read_all, sectors_for, write_all, end_of, read_of, copied_at_once, Fitting}
use Rattle.copying.proofs.Counts.{full_quotient, filled_most, filled_some}
use Rattle.copying.proofs.Sources.{is_read, all_for, some_for}
use Rattle.copying.proofs.AtOnce.{copied_listwise}

-- what ended it, by the Read's code and the Write's
pub data EndedBy (source target : ℕ) : End → Type 0 where
  going : EndedBy source target Going
  by_source : EndedBy source target (SourceFault source)
  by_target : EndedBy source target (TargetFault target)
  short : EndedBy source target Short

module _ (r : Route) (n : ℕ) (images : List (List ℕ)) (fit : Fitting r n images) where
  abbrev x : Transfer
  x = read_all r n images

  abbrev w : Transfer
  w = write_all r n images x

  abbrev most : ℕ
  most = filled_by n r.p.size r.q.size

  is : copied r n images ≡ copied_at_once r n images
  is = copied_listwise r n images fit

  few : Dec (x.done ≡ n) → sectors_for r n x.done ≤ most
  few (yes e) = omega (arith, all_for r n x.done e ∙ ap (λ (c : ℕ). filled_by c r.p.size r.q.size) e)
  few (no ne) =
      omega (
        arith,
        some_for r n x.done ne,
        filled_most x.done n r.p.size r.q.size (x.done * r.p.size / r.q.size) fit.target_some (is_read r n images fit).most
            (full_quotient r.q.size (x.done * r.p.size) fit.target_some),
      )

  -- no more destination sectors than the source fills
  pub copied_most : (copied r n images).done ≤ most
  copied_most =
      omega (
        arith,
        ap (λ (y : Copying). y.done) is,
        few (ℕ_discrete x.done n),
        writing_most r.q (sectors_for r n x.done) r.b (image_of r.target images) (x.handed ++ replicate r.q.size 0),
      )

  -- and no more source sectors than were asked for
  read_of_most : read_of r n x w ≤ n
  unfolding read_of
  read_of_most =
      pick-both (λ (c : ℕ). c ≤ n) (ltb w.done (sectors_for r n x.done)) _ _ (min-le_left n _) (is_read r n images fit).most

  pub copied_read : (copied r n images).read ≤ n
  copied_read = omega (arith, ap (λ (y : Copying). y.read) is, read_of_most)

  end_by : EndedBy x.code w.code (end_of r n x w)
  unfolding end_of
  end_by =
      pick-both (EndedBy x.code w.code) (ltb w.done (sectors_for r n x.done)) _ _ by_target
      (pick-both (EndedBy x.code w.code) (ltb x.done n) _ _ by_source (pick-both (EndedBy x.code w.code) (eqb (n * r.p.size % r.q.size) 0) _ _ going short))

  pub copied_ended : EndedBy x.code w.code (copied r n images).end
  copied_ended = rw (ap (λ (y : Copying). y.end) is) end_by

  -- ---- a last sector that is completed is there
  whole_or : (b : Bool) (y z : End) → (y ≡ Short → ⊥) → pick b y z ≡ Short → (b ≡ false) × (z ≡ Short)
  unfolding pick
  whole_or true y z ne e = absurd (ne e)
  whole_or false y z ne e = (refl, e)

  pub short_some : 0 < n → (copied r n images).end ≡ Short → 1 ≤ (copied r n images).done
  unfolding end_of
  short_some hn e =
      let end : end_of r n x w ≡ Short = sym (ap (λ (y : Copying). y.end) is) ∙ e in
      let one = whole_or _ _ _ (λ z. let clash : ◌≡◌ {A = ℕ} 0 1 = cc in omega arith) end in
      let two = whole_or _ _ _ (λ z. let clash : ◌≡◌ {A = ℕ} 0 1 = cc in omega arith) one.1 in
      let read : x.done ≡ n = omega (arith, ltb-false x.done n two.0, (is_read r n images fit).most) in
      let all = all_for r n x.done read ∙ ap (λ (c : ℕ). filled_by c r.p.size r.q.size) read in
      omega (
        arith,
        ltb-false w.done (sectors_for r n x.done) one.0,
        all,
        filled_some n r.p.size r.q.size hn fit.source_some fit.target_some,
        ap (λ (y : Copying). y.done) is,
      )
