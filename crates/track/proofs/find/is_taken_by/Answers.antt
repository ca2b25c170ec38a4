use mathlib.Core.Path.{◌≡◌, sym}
use mathlib.Core.Bool.{true}
use lib.Dec.{ltb}
use borrow.Author.Tests.{ltb-true}
use Rattle.base.proofs.Bools.{test_on, test_off}
use Rattle.geometry.specs.Params.{track_count}
use Rattle.track.specs.Find.{taken_by}
use Rattle.track.proofs.Takens.{taken_past}
use mathlib.Core.Path.{ap}
use mathlib.Core.Bool.{not}
use Rattle.track.proofs.find.is_taken_by.Goals as goal

pub returns-then-not-has_track : goal.returns-then-not-has_track
returns-then-not-has_track c = sym (taken_past _ _ _ _ (test_off _ _ c.has_track.ensures (ap not c.if-not-has_track.true)))

pub first_id-id-requires : goal.first_id-id-requires
first_id-id-requires c = (c.requires, ltb-true _ _ (let on_drive_lem : ltb c.args.u.0 (track_count c.args.p) ≡ true = test_on _ _ c.has_track.ensures (ap not c.if-not-has_track.false) in on_drive_lem))

pub is_own-requires : goal.is_own-requires
is_own-requires c = (c.requires.within, ltb-true _ _ (let on_drive_lem : ltb c.args.u.0 (track_count c.args.p) ≡ true = test_on _ _ c.has_track.ensures (ap not c.if-not-has_track.false) in on_drive_lem))

pub returns : goal.returns
unfolding taken_by
returns c =
    simp (c.says_taken_by.ensures, (let on_drive_lem : ltb c.args.u.0 (track_count c.args.p) ≡ true = test_on _ _ c.has_track.ensures (ap not c.if-not-has_track.false) in on_drive_lem), c.is_own.ensures, c.first_id-id.ensures)
