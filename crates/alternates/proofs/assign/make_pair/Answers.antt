use native.Mathlib.Omega.{arith}
use Rattle.geometry.proofs.Sizes.{count_most}
use Rattle.track.specs.State.{partner_of}
use Rattle.formats.proofs.Makings.{plain_of}
use Rattle.alternates.proofs.Assigns.{pair_made_lem}
use borrow.Author.Rules.{rules}
use Rattle.alternates.proofs.assign.make_pair.Goals as goal

pub make_at-requires : goal.make_at-requires
unfolding partner_of
make_at-requires c =
    (c.requires.0, c.requires.1, omega (arith, count_most _ c.requires.0.within, c.requires.2), c.requires.3, search rules)

pub make_at-requires-2 : goal.make_at-requires-2
unfolding partner_of
make_at-requires-2 c =
    let within = c.requires.0.within in
    (record { within = within; long = omega arith }, c.requires.2, omega (arith, count_most _ within, c.requires.1), c.requires.3, c.requires.4)

pub returns : goal.returns
returns c =
    pair_made_lem _ _ _ _ _ _ _ _ _ (plain_of _ _ _ _ c.medium_of.ensures c.plain_fill-plain.ensures.0) c.make_at.ensures
    c.make_at-2.ensures
