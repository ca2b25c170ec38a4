-- The last destination sector done: what was written there, and what it reads.
use Prim.Native.Nat.{ℕ, suc}
use mathlib.Core.Path.{◌≡◌, sym, ap, ◌∙◌}
use mathlib.Core.List.{List, [], ◌++◌}
use native.Mathlib.Omega.{arith}
use lib.ListN.{replicate}
use Rattle.geometry.specs.Params.{further}
use Rattle.sectors.specs.Transfer.{Transfer}
use Rattle.sectors.specs.Last.{last_of}
use Rattle.sectors.proofs.Laws.{writing_taken}
use Rattle.contents.specs.Content.{Bytes, content_of}
use Rattle.copying.specs.declared.route.Route.{Route}
use Rattle.copying.specs.Images.{image_of}
use Rattle.copying.specs.Copying.{Copying, copied}
use Rattle.copying.specs.Listwise.{read_all, sectors_for, Fitting}
use Rattle.copying.proofs.AtOnce.{copied_listwise}
use Rattle.copying.proofs.Lefts.{copied_given}

module _ (r : Route) (n : ℕ) (images : List (List ℕ)) (fit : Fitting r n images) where
  abbrev x : Transfer
  x = read_all r n images

  its_last : (copied r n images).last ≡ last_of (copied r n images).done r.q.size (x.handed ++ replicate r.q.size 0)
  its_last =
      let is = copied_listwise r n images fit in
      let given = x.handed ++ replicate r.q.size 0 in
      ap (λ (y : Copying). y.last) is
      ∙ (writing_taken r.q (sectors_for r n x.done) r.b given (image_of r.target images)).last
      ∙ ap (λ (m : ℕ). last_of m r.q.size given) (sym (ap (λ (y : Copying). y.done) is))

  pub last_none : (copied r n images).done ≡ 0 → (copied r n images).last ≡ []
  unfolding last_of
  last_none e = its_last ∙ ap (λ (m : ℕ). last_of m r.q.size (x.handed ++ replicate r.q.size 0)) e

  -- it reads so
  pub last_reads : (m : ℕ) → (copied r n images).done ≡ suc m
      → content_of r.q (further r.b m) (image_of r.target (copied r n images).images) ≡ Bytes (copied r n images).last
  unfolding last_of
  last_reads m e =
      let last = its_last ∙ ap (λ (i : ℕ). last_of i r.q.size (x.handed ++ replicate r.q.size 0)) e in
      copied_given r n images fit m (omega (arith, e)) ∙ ap Bytes (sym last)
