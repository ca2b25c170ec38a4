-- How a Copy ends, and what it leaves, by what was copied.
use mathlib.Core.Path.{◌≡◌, sym, ◌∙◌}
use mathlib.Core.List.{List}
use Prim.Native.Nat.{ℕ, ◌-◌, ◌≤◌}
use native.Mathlib.Omega.{arith}
use Rattle.geometry.specs.declared.params.Lba.{Lba}
use Rattle.geometry.specs.declared.params.Params.{Params}
use Rattle.geometry.specs.Params.{further}
use Rattle.geometry.proofs.Sizes.{sectors_most}
use Rattle.copying.specs.declared.route.Route.{Route}
use Rattle.copying.specs.Ends.{End, as_end, Going, SourceFault, TargetFault, Short}
use Rattle.copying.specs.declared.route.Copied.{Copied}
use Rattle.copying.specs.Copying.{copied}
use Rattle.copying.specs.Listwise.{Fitting}
use Rattle.copying.proofs.Laws.{copied_most, copied_read, short_some}
use Rattle.pouring.specs.Promises.{RouteReady, CopiedBy}
use Rattle.model.specs.declared.block.CopyBlock.{CopyBlock}
use Rattle.model.specs.declared.record.Drive.{Drive}
use Rattle.model.specs.declared.record.Ending.{Ending}
use Rattle.model.specs.Block.{count_of}
use Rattle.model.specs.Record.{failed, good}
use Rattle.model.specs.Copies.{copy_effect, route_of, copy_ending, copy_left}
use Rattle.model.specs.Premises.{OnDrives}
use Rattle.model.proofs.engine.Checked.{count_some}
use Rattle.copies.specs.Ends.{CanEnd}

-- ---- a copy can begin
pub copies_on : (k : CopyBlock) (p q : Params) (m : ℕ) (images : List (List ℕ)) → m ≡ count_of k.from → OnDrives k p q images → m ≤ 256
    → RouteReady (route_of k p q) m images
copies_on k p q m images e ready few =
    record { source_there = ready.from.drive; target_there = ready.to.drive; most = few; fitting = rw e ready.fitting }

-- ---- a copy that has ended can be answered
module _ (k : CopyBlock) (p q : Params) (images : List (List ℕ)) (ready : OnDrives k p q images) where
  abbrev r : Route
  r = route_of k p q

  abbrev n : ℕ
  n = count_of k.from

  fit : Fitting r n images
  fit = ready.fitting

  can_end_so : (c : Copied) (before after : List ℕ) (left : List (List ℕ)) → CopiedBy (copied r n images) c before after left → CanEnd k c
  can_end_so c before after left by = record {
    from = ready.from;
    to = ready.to;
    few = omega (arith, by.done, copied_most r n images fit, ready.few);
    source_below = omega (arith, by.read, copied_read r n images fit, fit.source_on, sectors_most p fit.source_fits.within);
    target_below = omega (arith, by.done, copied_most r n images fit, fit.target_on, sectors_most q fit.target_fits.within);
    short_some = λ e. omega (arith, by.done, short_some r n images fit (count_some k.from) (sym by.end ∙ e));
  }

  pub can_end : (m : ℕ) (c : Copied) (before after : List ℕ) (left : List (List ℕ)) → m ≡ n → CopiedBy (copied r m images) c before after left → CanEnd k c
  can_end m c before after left e by = can_end_so c before after left (rw e at by)

  -- ---- what it leaves
  pub copy_leaves : (entry : Drive) (m : ℕ) (c : Copied) (before after : List ℕ) (left : List (List ℕ)) (ending : Ending) → m ≡ n
      → CopiedBy (copied r m images) c before after left → ending ≡ copy_ending k c.read c.done (as_end c.fault) entry → copy_effect ending after left ≡ copy_left k entry before (copied r n images)
  unfolding copy_left
  copy_leaves entry m c before after left ending em by e = rw (e, by.read, by.done, by.end, by.front, by.left, em)

-- ---- the four ends
module _ (k : CopyBlock) (read done : ℕ) (end : End) (entry : Drive) (r : Ending) where
  pub ends_well : end ≡ Going → r ≡ good k.from.drive done 0 entry → r ≡ copy_ending k read done end entry
  unfolding copy_ending
  ends_well e er = rw (e, er)

  pub ends_source : (code : ℕ) (at : Lba) → end ≡ SourceFault code → at ≡ further k.from.address read
      → r ≡ failed k.from.drive k.from.drive code at done 0 entry → r ≡ copy_ending k read done end entry
  unfolding copy_ending
  ends_source code at e ea er = rw (e, er, ea)

  pub ends_target : (code : ℕ) (at : Lba) → end ≡ TargetFault code → at ≡ further k.to.address done
      → r ≡ failed k.from.drive k.to.drive code at done 0 entry → r ≡ copy_ending k read done end entry
  unfolding copy_ending
  ends_target code at e ea er = rw (e, er, ea)

  pub ends_short : (at : Lba) → end ≡ Short → at ≡ further k.to.address (done - 1)
      → r ≡ failed k.from.drive k.to.drive 0x23 at done 0 entry → r ≡ copy_ending k read done end entry
  unfolding copy_ending
  ends_short at e ea er = rw (e, er, ea)
