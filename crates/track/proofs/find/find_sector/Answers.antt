use mathlib.Core.Path.{refl}
use Rattle.std.proofs.lemmas.Result.{err_from_is_err_and}
use Rattle.track.specs.Find.{On}
use Rattle.track.proofs.Finds.{where_in}
use Rattle.track.proofs.Seeks.{finds_none, finds_in}
use Rattle.track.proofs.find.find_sector.Goals as goal

pub track_of-requires : goal.track_of-requires
track_of-requires c =
    (c.requires.0, where_in _ _ _ (On c.in_ok-u.u) c.in_ok-u.ensures c.requires.1 _ refl)

pub returns-in_err-u : goal.returns-in_err-u
returns-in_err-u c =
    let p = err_from_is_err_and c.from_residual.result c.from_residual.ensures.1 in
    rw (p.1, p.2) (finds_none _ _ _ _ _ c.in_err-u.ensures _ refl)

pub returns : goal.returns
returns c =
    finds_in _ _ _ _ (On c.in_ok-u.u) c.in_ok-u.ensures _ _ _ refl
    c.track_of.ensures.1 (rw c.track_of.ensures.0 at c.find_in.ensures)
