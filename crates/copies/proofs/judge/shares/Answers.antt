use borrow.Author.Rules.{rules}
use mathlib.Core.Path.{◌≡◌, refl}
use lib.Dec.{ltb}
use Rattle.model.specs.Checks.{shares}
use Rattle.copies.proofs.Judges.{all_of}
use Rattle.copies.proofs.judge.shares.Goals as goal

pub returns : goal.returns
unfolding shares
returns c =
    let k = c.args.k in
    let one : c.gt.result ≡ ltb k.from.address.0 c.further.result.0 = search rules in
    let other : c.gt-2.result ≡ ltb k.to.address.0 c.further-2.result.0 = search rules in
    all_of k _ _ c.further.ensures one c.further-2.ensures other refl refl
