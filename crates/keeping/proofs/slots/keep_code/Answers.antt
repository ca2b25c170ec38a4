use mathlib.Core.Path.{refl}
use Rattle.std.proofs.lemmas.Result.{err_from_is_err_and}
use Rattle.track.specs.Find.{On}
use Rattle.track.proofs.Laws.{where_in}
use Rattle.keeping.proofs.Notes.{none_length, none_noted, answer_off, answer_on}
use Rattle.keeping.proofs.slots.keep_code.Goals as goal

pub track_of-requires : goal.track_of-requires
track_of-requires c =
    (c.requires.0, where_in _ _ _ (On c.in_ok-u.u) c.in_ok-u.ensures c.requires.1 _ refl)

pub note_all-requires : goal.note_all-requires
note_all-requires c = (none_length _ c.requires.2, none_noted _ c.requires.2 _ _)

pub returns-in_err-u : goal.returns-in_err-u
returns-in_err-u c =
    let p = err_from_is_err_and c.from_residual.result c.from_residual.ensures.1 in
    rw (p.1, p.2) (answer_off _ _ _ _ _ c.in_err-u.ensures c.requires.0.within _ refl (none_length _ c.requires.2))

pub returns : goal.returns
returns c =
    let noted = rw c.track_of.ensures.0 at c.note_all.ensures.1 in
    answer_on _ _ _ _ _ c.in_ok-u.ensures c.requires.0.within _ _ refl c.note_all.ensures.0 _
    c.track_of.ensures.1 noted c.each_noted.ensures
