use Rattle.track.specs.declared.state.State.TheVariants.{Sound}
use Rattle.track.specs.State.{partner_of}
use Rattle.model.specs.Commands.{format_track}
use Rattle.formats.proofs.Makings.{fill_lent}
use native.Mathlib.Omega.{arith}
use Prim.Native.Nat.{ℕ}
use mathlib.Core.List.{List}
use mathlib.Core.Path.{ap, ◌∙◌}
use borrow.Author.Rules.{rules}
use Rattle.formats.proofs.format.format_sound.Goals as goal

pub format_track-requires : goal.format_track-requires
unfolding partner_of
format_track-requires c =
    (c.requires, omega arith, search rules)

pub returns : goal.returns
returns c =
    c.format_track.ensures
    ∙ ap (λ (fill : List ℕ). format_track c.args.b c.args.p Sound fill c.args.entry c.args.image.now) (fill_lent c.args.p.size _ ∙ c.fill_of-fill.ensures.0)
