-- How Check Track ends.
use mathlib.Core.Path.{◌≡◌, refl, sym, ap, ◌∙◌}
use mathlib.Core.Bool.{not}
use mathlib.Core.List.{List, [], ◌++◌}
use Prim.Native.Nat.{ℕ, ◌-◌, ◌<◌}
use native.Mathlib.Omega.{arith}
use lib.ListN.{take, replicate}
use borrow.Author.Tests.{eq-eqb, ne_eqb}
use Rattle.std.specs.Prelude.{Result, Ok, Err}
use Rattle.codes.specs.declared.Code.{Code}
use Rattle.codes.specs.Numbers.{number_of, end_number}
use Rattle.codes.proofs.Faults.{number_range}
use Rattle.geometry.specs.declared.params.Params.{Params}
use Rattle.geometry.specs.declared.params.Track.{Track}
use Rattle.geometry.specs.Params.{track_of}
use Rattle.interleave.specs.Layout.{layout_of}
use Rattle.formatter.specs.Check.{check_code}
use Rattle.model.specs.declared.block.Block.{Block}
use Rattle.model.specs.declared.record.Drive.{Drive}
use Rattle.model.specs.declared.record.Ending.{Ending}
use Rattle.model.specs.Verdicts.{Faulty}
use Rattle.model.specs.Record.{failed, good, unless_named}
use Rattle.model.specs.Commands.{check_tests, check_track}
use Rattle.model.proofs.engine.Judged.{judged_hit, judged_on, judged_none}
use Rattle.formats.proofs.Makings.{layout_lent}

-- ---- the two ends
module _ (b : Block) (p : Params) (entry : Drive) (image map : List ℕ) (r : Ending) (t : Track) {T : Type 0} (end : Result T Code)
    (h : b.extra < p.sectors) (em : map ≡ layout_of p.sectors b.extra ++ replicate (32 - p.sectors) p.sectors) (et : t ≡ track_of p b.address)
    (ec : end_number end ≡ check_code p t (take (p.sectors - 0) map) image) where
  is_end : check_code p (track_of p b.address) (layout_of p.sectors b.extra) image ≡ end_number end
  is_end = sym (ec ∙ rw (et, layout_lent p.sectors b.extra map h em))

  pub check_fails : (code : Code) → end ≡ Err code → r ≡ failed b.drive b.drive (number_of code) b.address 0 0 entry
      → r ≡ check_track b p entry image
  unfolding check_track check_tests unless_named
  check_fails code e er =
      let some = ne_eqb (number_of code) 0 (λ z. omega (arith, (number_range code).0, z)) in
      rw (is_end, ap end_number e, judged_hit _ (Faulty (number_of code) b.address) [] (ap not some)) er

  pub check_well : (x : T) → end ≡ Ok x → r ≡ good b.drive 0 0 entry → r ≡ check_track b p entry image
  unfolding check_track check_tests unless_named
  check_well x e er = rw (is_end, ap end_number e, judged_on _ (Faulty 0 b.address) [] (ap not (eq-eqb 0 0 refl)), judged_none) er
