-- What a Copy's Read gives, and that its bytes suffice for the Write.
use mathlib.Core.Path.{◌≡◌, sym, ap, ◌∙◌}
use mathlib.Core.List.{List, ◌++◌}
use Prim.Native.Nat.{ℕ, ◌+◌, ◌-◌, ◌*◌, ◌/◌, ◌≤◌, ◌<◌}
use native.Mathlib.Omega.{arith}
use native.Mathlib.Nat.{div-mul-le_self}
use native.Mathlib.Decide.{ℕ_discrete}
use borrow.Author.Tests.{eq-eqb, ne_eqb}
use lib.ListN.{length, replicate, length-append, length-replicate}
use Rattle.base.proofs.Decide.{pick_true, pick-false}
use Rattle.geometry.specs.Params.{further}
use Rattle.sectors.specs.Transfer.{Transfer}
use Rattle.sectors.proofs.Laws.{Handed, reading_handed}
use Rattle.contents.specs.Content.{Missing, content_of}
use Rattle.contents.proofs.Laws.{Given, reading_contents, reading_finds, reading_stop}
use Rattle.copying.specs.declared.route.Route.{Route}
use Rattle.copying.specs.Images.{image_of}
use Rattle.copying.specs.Listwise.{filled_by, read_all, sectors_for, Fitting}
use Rattle.copying.proofs.Counts.{full_quotient, filled_most}
use Rattle.copying.proofs.Holds.{Holds, found_holds}

-- x is what a Read of n source sectors gives
pub record IsRead (r : Route) (n : ℕ) (images : List (List ℕ)) (x : Transfer) : Type 0 where
  pub most : x.done ≤ n
  pub long : length x.handed ≡ x.done * r.p.size
  pub held : Holds r.p (image_of r.source images) x.done r.a x.handed
  pub stop : x.done < n → content_of r.p (further r.a x.done) (image_of r.source images) ≡ Missing x.code

-- ---- the sectors to be written, where all were read and where not
module _ (r : Route) (n read : ℕ) where
  pub all_for : read ≡ n → sectors_for r n read ≡ filled_by read r.p.size r.q.size
  unfolding sectors_for
  all_for e = pick_true _ _ _ (eq-eqb read n e) ∙ ap (λ (c : ℕ). filled_by c r.p.size r.q.size) (sym e)

  pub some_for : (read ≡ n → ⊥) → sectors_for r n read ≡ read * r.p.size / r.q.size
  unfolding sectors_for
  some_for ne = pick-false _ _ _ (ne_eqb read n ne)

module _ (r : Route) (n : ℕ) (images : List (List ℕ)) (fit : Fitting r n images) where
  abbrev S : List ℕ
  S = image_of r.source images

  abbrev x : Transfer
  x = read_all r n images

  abbrev ds : ℕ
  ds = r.p.size

  abbrev dd : ℕ
  dd = r.q.size

  handed : Handed r.p n S x
  handed = reading_handed r.p S fit.source_fits n r.a fit.source_on

  -- the bytes read are those of the sectors read
  pub read_long : length x.handed ≡ x.done * ds
  read_long = handed.long

  pub is_read : IsRead r n images x
  is_read = record {
    most = handed.most;
    long = read_long;
    held =
        rw (reading_contents r.p n r.a S)
        (found_holds r.p S fit.source_fits x.done r.a (omega (arith, handed.most, fit.source_on)) (reading_finds r.p n r.a S));
    stop = reading_stop r.p n r.a S;
  }

  -- the Write has its bytes, with the zeros, and lies on the drive
  pub given_all : Given r.q (sectors_for r n x.done) r.b (x.handed ++ replicate dd 0)
  given_all = by (ℕ_discrete x.done n)
    where
      long : length (x.handed ++ replicate dd 0) ≡ x.done * ds + dd
      long = omega (arith, length-append x.handed (replicate dd 0), length-replicate {A = ℕ} dd 0, read_long)

      by : Dec (x.done ≡ n) → Given r.q (sectors_for r n x.done) r.b (x.handed ++ replicate dd 0)
      by (yes e) =
          let most = div-mul-le_self (x.done * ds + (dd - 1)) dd in
          let same : filled_by x.done ds dd ≡ filled_by n ds dd = ap (λ (c : ℕ). filled_by c ds dd) e in
          rw (all_for r n x.done e) (record { on_drive_lem = rw same fit.target_on; enough = omega (arith, long, most, fit.target_some) })
      by (no ne) =
          let most = div-mul-le_self (x.done * ds) dd in
          let few = filled_most x.done n ds dd (x.done * ds / dd) fit.target_some handed.most (full_quotient dd (x.done * ds) fit.target_some) in
          rw (some_for r n x.done ne) (record { on_drive_lem = omega (arith, few, fit.target_on); enough = omega (arith, long, most) })
