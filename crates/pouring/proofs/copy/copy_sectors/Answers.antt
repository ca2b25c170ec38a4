use mathlib.Core.Path.{sym}
use Rattle.pouring.specs.Lent.{lent}
use Rattle.pouring.proofs.Lasts.{went_fits, went_on, kept}
use Rattle.pouring.proofs.copy.copy_sectors.Goals as goal

pub keep_done-requires : goal.keep_done-requires
keep_done-requires c =
    let ready = c.requires in
    rw c.shared.ensures (
      ready.target_there,
      went_fits _ _ _ ready.fitting _ (lent c.copy_through-copied.new.images) c.copy_through-copied.ensures.went,
      went_on _ _ _ ready.fitting _ (lent c.copy_through-copied.new.images) c.copy_through-copied.ensures.went,
    )

pub returns-clause-copied : goal.returns-clause-copied
returns-clause-copied c =
    kept _ _ _ c.requires.fitting _ _ c.copy_through-copied.ensures.went _ _ (rw (sym c.shared.ensures) c.keep_done.ensures)
