-- How Format Drive, Format Track and Format Bad Track end.
use mathlib.Core.Path.{◌≡◌, sym, ap, ◌∙◌}
use mathlib.Core.Bool.{Bool, true, false}
use mathlib.Core.List.{List}
use Prim.Native.Nat.{ℕ, ◌-◌}
use lib.ListN.{take}
use Rattle.base.specs.Part.{part}
use Rattle.geometry.specs.declared.params.Params.{Params}
use Rattle.geometry.specs.declared.params.Track.{Track}
use Rattle.geometry.specs.Params.{track_of}
use Rattle.track.specs.declared.state.State.{State}
use Rattle.track.specs.Pair.{state_of, pair_split}
use Rattle.track.specs.State.{is_moved, is_taken}
use Rattle.model.specs.declared.block.Block.{Block}
use Rattle.model.specs.declared.record.Drive.{Drive}
use Rattle.model.specs.declared.record.Ending.{Ending}
use Rattle.model.specs.Record.{failed, good, made}
use Rattle.model.specs.Commands.{fill_of, made_at, drive_formatted, pending_ended, format_drive, alone_tests, format_track}
use Rattle.model.proofs.engine.Judged.{judged_hit, judged_on, judged_none}
use Rattle.endings.proofs.Verdicts.{ends_faulty, ends_well}
use Rattle.formats.proofs.Makings.{fill_lent}

module _ (b : Block) (p : Params) (entry : Drive) (image : List ℕ) (r : Ending) (t : Track) (et : t ≡ track_of p b.address) where
  -- ---- Format Drive
  module _ (buffer : List ℕ) (split : Bool) (es : split ≡ pair_split p t image) where
    is_split : pair_split p (track_of p b.address) image ≡ split
    is_split = sym (es ∙ ap (λ (u : Track). pair_split p u image) et)

    pub drive_fails : split ≡ true → r ≡ failed b.drive b.drive 0x1D b.address 0 0 entry
        → made r image ≡ format_drive b p buffer entry image
    unfolding format_drive
    drive_fails h er = ends_faulty _ entry image _ r _ 0x1D b.address (judged_hit _ _ _ (is_split ∙ h)) er

    pub drive_well : (fill left : List ℕ) (other : Drive) → split ≡ false → part 0 p.size fill ≡ fill_of b p buffer
        → left ≡ drive_formatted b p entry.config (take (p.size - 0) fill) image → other ≡ pending_ended entry
        → r ≡ good b.drive 0 0 other → made r left ≡ format_drive b p buffer entry image
    unfolding format_drive
    drive_well fill left other h ef el eo er =
        ends_well _ entry image _ r _ left (judged_on _ _ _ (is_split ∙ h) ∙ judged_none)
        (rw (er, eo, el, fill_lent p.size fill ∙ ef))

  -- ---- Format Track and Format Bad Track
  module _ (state : State) (fill : List ℕ) (old : State) (es : old ≡ state_of p t image) (moved : Bool) (em : moved ≡ is_moved old) where
    is_old : old ≡ state_of p (track_of p b.address) image
    is_old = es ∙ ap (λ (u : Track). state_of p u image) et

    is_moved_lem : is_moved (state_of p (track_of p b.address) image) ≡ moved
    is_moved_lem = sym (em ∙ ap is_moved is_old)

    pub track_moved : moved ≡ true → r ≡ failed b.drive b.drive 0x1D b.address 0 0 entry
        → made r image ≡ format_track b p state fill entry image
    unfolding format_track alone_tests
    track_moved h er = ends_faulty _ entry image _ r _ 0x1D b.address (judged_hit _ _ _ (is_moved_lem ∙ h)) er

    module _ (h : moved ≡ false) (taken : Bool) (ek : taken ≡ is_taken old) where
      is_taken_lem : is_taken (state_of p (track_of p b.address) image) ≡ taken
      is_taken_lem = sym (ek ∙ ap is_taken is_old)

      pub track_taken : taken ≡ true → r ≡ failed b.drive b.drive 0x1C b.address 0 0 entry
          → made r image ≡ format_track b p state fill entry image
      unfolding format_track alone_tests
      track_taken k er =
          ends_faulty _ entry image _ r _ 0x1C b.address (judged_on _ _ _ (is_moved_lem ∙ h) ∙ judged_hit _ _ _ (is_taken_lem ∙ k)) er

      pub track_well : (lent left : List ℕ) → taken ≡ false → lent ≡ fill → left ≡ made_at b p t state lent image
          → r ≡ good b.drive 0 0 entry → made r left ≡ format_track b p state fill entry image
      unfolding format_track alone_tests
      track_well lent left k ef el er =
          ends_well _ entry image _ r _ left
          (judged_on _ _ _ (is_moved_lem ∙ h) ∙ judged_on _ _ _ (is_taken_lem ∙ k) ∙ judged_none) (rw (er, el, et, ef))
