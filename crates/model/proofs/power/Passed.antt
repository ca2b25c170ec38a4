-- What follows where an Assign Alternate with keep ends well: its checks have passed, and A can be moved to B with its contents.
use Prim.Native.Nat.{ℕ}
use mathlib.Core.Path.{◌≡◌, refl, sym, ◌∙◌}
use mathlib.Core.Bool.{true, false, true≢false}
use mathlib.Core.List.{List}
use lib.ListN.{length}
use Rattle.base.specs.Pick.{pick}
use Rattle.base.specs.Byte.{byte}
use Rattle.base.proofs.Decide.{pick_true}
use Rattle.geometry.specs.declared.params.Track.{Track}
use Rattle.geometry.specs.declared.params.Params.{Params}
use Rattle.std.specs.Prelude.{Some}
use Rattle.geometry.specs.Params.{track_of}
use Rattle.geometry.specs.Medium.{medium_of}
use Rattle.interleave.specs.Layout.{layout_of}
use Rattle.track.specs.Image.{Fits}
use Rattle.track.specs.Pair.{state_of}
use Rattle.keeping.specs.Keep.{kept, Keepable}
use Rattle.model.specs.declared.block.Block.{Block}
use Rattle.model.specs.declared.table.Command.TheVariants.{OnDisk}
use Rattle.model.specs.declared.table.DiskCommand.TheVariants.{TrackWork}
use Rattle.model.specs.declared.table.TrackCommand.TheVariants.{AssignAlternate}
use Rattle.model.specs.declared.record.Drive.{Drive}
use Rattle.model.specs.Verdicts.{Verdict}
use Rattle.model.specs.Verdicts.{Passed}
use Rattle.model.specs.Block.{keeps, alternate_of}
use Rattle.model.specs.Table.{check_number, is_among, row_for}
use Rattle.model.specs.Checks.{judged, judge}
use Rattle.model.specs.Record.{setting_in, good_answer, failed, good, Effect, Made, made, unless_named, unless}
use Rattle.model.specs.Commands.{assign_tests, missing_in, alternated, assigned, assign_alternate, fill_of, do_track, as_effect, do_disk, carry_out}
use Rattle.model.specs.Engine.{view_of, obey}
use Rattle.model.specs.Records.{is_good}
use Rattle.model.proofs.engine.Checked.{opcode_for, TrackCleared, one_track_lem}
use Rattle.model.proofs.engine.Assignable.{Assignable, assignable, keepable, missing_kept}
use Rattle.model.proofs.engine.Leaving.{Verdicts, fault, pass, judge_by, assign_judged}
use Rattle.model.proofs.engine.Beyond.{w, fits, clear}
use Rattle.model.proofs.records.Commands.{not_good}
use Rattle.model.proofs.records.Calls.{by_verdict}

-- own checks: with good status they have passed
good_own : (drive : ℕ) (entry : Drive) (image : List ℕ) (after : Made) {v : Verdict} → Verdicts false v
    → is_good drive (unless v drive entry (λ e. made e image) after).ending.answer ≡ true → v ≡ Passed
unfolding unless_named failed
good_own drive entry image after (fault code at some) ok = absurd (true≢false (sym ok ∙ not_good drive 0 0))
good_own drive entry image after pass ok = refl

module _ (b : Block) (given : List ℕ) (area : ℕ) (entry : Drive) (buffer image : List ℕ) (p : Params)
    (is : (row_for b.opcode).command ≡ OnDisk (TrackWork AssignAlternate)) (valid : setting_in (medium_of b.drive) entry (length image) ≡ Some p) where
  abbrev A : Track
  A = track_of p b.address

  abbrev B : Track
  B = track_of p (alternate_of given)

  -- the verdicts of the order of checks, and of the command's own
  abbrev in_order : Verdict
  in_order = judge b (view_of (medium_of b.drive) entry (length image)) (length given) area

  abbrev own : Verdict
  own = judged (assign_tests p (byte given 0) b.address (alternate_of given) (state_of p A image) (state_of p B image) (missing_in b p A image))

  setting : (view_of (medium_of b.drive) entry (length image)).setting ≡ Some p
  unfolding view_of
  setting = valid

  own_good : is_good b.drive (carry_out b (Some p) given entry buffer image (OnDisk (TrackWork AssignAlternate))).ending.answer ≡ true → own ≡ Passed
  unfolding carry_out do_disk do_track as_effect assign_alternate
  own_good ok = good_own b.drive entry image _ (assign_judged p (byte given 0) b.address (alternate_of given) _ _ _) ok

  pub good_passed : is_good b.drive (obey b given area entry buffer image).ending.answer ≡ true → (in_order ≡ Passed) × (own ≡ Passed)
  unfolding obey
  good_passed =
      by_verdict (λ (e : Effect). is_good b.drive e.ending.answer ≡ true → (in_order ≡ Passed) × (own ≡ Passed)) b.drive entry buffer image _
      (judge_by b _ (length given) area) (λ x n ok. absurd (true≢false (sym ok ∙ n.bad)))
      (λ passed ok. (passed, own_good (rw (setting, is) at ok)))

  module _ (passed : in_order ≡ Passed) (own_passed : own ≡ Passed) (keep : keeps b ≡ true) where
    pub fit : Fits p image
    fit = record { within = w b given area entry buffer image passed p valid; long = fits b given area entry buffer image passed p valid }

    pub on_track : TrackCleared b p entry.pending
    unfolding row_for opcode_for is_among check_number
    on_track = one_track_lem fit.within (clear b given area entry buffer image passed p valid (OnDisk (TrackWork AssignAlternate)) is) refl refl refl refl refl

    pub found : Assignable p b.address (alternate_of given) (state_of p A image) (state_of p B image) (missing_in b p A image)
    found = assignable p (byte given 0) b.address (alternate_of given) _ _ _ own_passed

    pub may_move : Keepable p A B image
    may_move = keepable p image fit b.address (alternate_of given) _ found on_track.ours (missing_kept b p A image keep found.none_missing)

    -- what the command leaves: the answer, and the image of all its writes
    moved : pick (keeps b) (kept p A B (layout_of p.sectors b.extra) image) (assigned b p A B (fill_of b p buffer) image) ≡ kept p A B (layout_of p.sectors b.extra) image
    moved = pick_true _ _ _ keep

    pub leaves : ((obey b given area entry buffer image).image ≡ kept p A B (layout_of p.sectors b.extra) image)
        × ((obey b given area entry buffer image).ending.answer ≡ good_answer b.drive 0 0)
    unfolding obey carry_out do_disk do_track as_effect assign_alternate alternated unless_named good
    leaves = rw (passed, setting, is, own_passed) (moved, refl)
