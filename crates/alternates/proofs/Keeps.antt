-- Assign Alternate with keep: what is asked of A, that it can be moved then, and how it ends.
use mathlib.Core.Path.{◌≡◌, sym, ap, ◌∙◌}
use mathlib.Core.Bool.{not}
use mathlib.Core.List.{List, ◌++◌}
use Prim.Native.Nat.{ℕ, ◌-◌, ◌<◌}
use native.Mathlib.Omega.{arith}
use lib.ListN.{take, replicate}
use borrow.Author.Tests.{ne_eqb}
use Rattle.std.specs.Prelude.{Result, Ok, Err}
use Rattle.codes.specs.declared.Code.{Code}
use Rattle.codes.specs.Numbers.{number_of, end_number}
use Rattle.codes.proofs.Faults.{number_range}
use Rattle.geometry.specs.declared.params.Lba.{Lba}
use Rattle.geometry.specs.declared.params.Track.{Track}
use Rattle.geometry.specs.declared.params.Params.{Params}
use Rattle.geometry.specs.Params.{track_count, track_of}
use Rattle.interleave.specs.Layout.{layout_of}
use Rattle.track.specs.Image.{Fits}
use Rattle.keeping.specs.Keep.{keep_code, kept, Mapped, Keepable}
use Rattle.keeping.proofs.Laws.{layout_maps}
use Rattle.model.specs.declared.block.Block.{Block}
use Rattle.model.specs.declared.record.Drive.{Drive}
use Rattle.model.specs.declared.record.Ending.{Ending}
use Rattle.model.specs.Verdicts.{Faulty, Passed}
use Rattle.model.specs.Block.{alternate_of}
use Rattle.model.specs.Checks.{judged}
use Rattle.model.specs.Record.{failed, good, made}
use Rattle.model.specs.Commands.{check_tests}
use Rattle.model.proofs.engine.Assignable.{assignable, keepable}
use Rattle.model.proofs.engine.Judged.{judged_hit}
use Rattle.endings.proofs.Verdicts.{ends_faulty, ends_well}
use Rattle.formats.proofs.Makings.{layout_lent}
use Rattle.alternates.proofs.Assigns.{verdict_on, none_asked, kept_or}

code_hits : (code : Code) (a : Lba) → judged (check_tests (number_of code) a) ≡ Faulty (number_of code) a
unfolding check_tests
code_hits code a = judged_hit _ _ _ (ap not (ne_eqb (number_of code) 0 (λ z. omega (arith, (number_range code).0, z))))

-- ---- the layout lent is a map
pub map_lent : (n f : ℕ) (map : List ℕ) → f < n → map ≡ layout_of n f ++ replicate (32 - n) n → Mapped n (take (n - 0) map)
map_lent n f map h e = rw (layout_lent n f map h e) (layout_maps n f (omega arith))

-- ---- A can be moved, and the two ends
module _ (b : Block) (p : Params) (given image : List ℕ) (from : Track) (ef : from ≡ track_of p b.address) {T : Type 0}
    (end : Result T Code) (ec : end_number end ≡ keep_code p from image) where
  is_end : keep_code p (track_of p b.address) image ≡ end_number end
  is_end = rw (← ef) (sym ec)

  pub code_keeps : Fits p image → (track_of p b.address).0 < track_count p → (first : ℕ) → verdict_on p first b.address (alternate_of given) image ≡ Passed
      → (alternate : Lba) → alternate ≡ alternate_of given → (to : Track) → to ≡ track_of p alternate → (x : T) → end ≡ Ok x → Keepable p from to image
  code_keeps fits h first passed alternate ea to et x e =
      rw (ef, et, ea) (keepable p image fits b.address (alternate_of given) 0 (assignable p first _ _ _ _ 0 passed) h (is_end ∙ ap end_number e))

  module _ (entry : Drive) (r : Ending) where
    pub kept_fails : (code : Code) → end ≡ Err code → r ≡ failed b.drive b.drive (number_of code) b.address 0 0 entry
        → made r image ≡ kept_or b p given entry image
    kept_fails code e er = rw (is_end, e) (ends_faulty _ entry image _ r _ (number_of code) _ (code_hits code _) er)

    pub kept_well : (x : T) → end ≡ Ok x → b.extra < p.sectors → (map : List ℕ) → map ≡ layout_of p.sectors b.extra ++ replicate (32 - p.sectors) p.sectors
        → (alternate : Lba) → alternate ≡ alternate_of given → (to : Track) → to ≡ track_of p alternate
        → (left : List ℕ) → left ≡ kept p from to (take (p.sectors - 0) map) image → r ≡ good b.drive 0 0 entry
        → made r left ≡ kept_or b p given entry image
    kept_well x e h map em alternate ea to et left el er =
        rw (is_end, e)
        (ends_well _ entry image _ r _ left (none_asked b.address)
        (rw (er, el, ef, et, ea, layout_lent p.sectors b.extra map h em)))
