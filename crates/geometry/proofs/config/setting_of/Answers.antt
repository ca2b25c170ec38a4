use borrow.Author.Rules.{rules}
use mathlib.Core.Path.{◌≡◌, ◌∙◌}
use lib.ListN.{length}
use Rattle.geometry.proofs.Settings.{setting_of_ten}
use Rattle.geometry.proofs.config.setting_of.Goals as goal

pub returns : goal.returns
returns c =
    let e : length c.args.config ≡ 10 = search rules in
    setting_of_ten _ _ _ e _ (c.from.ensures ∙ c.from_be_bytes.ensures) _ c.setting_by.ensures
