use borrow.Author.Rules.{rules}
use Rattle.pouring.proofs.Drives.{same_more}
use Rattle.frames.proofs.Going.{heard_on, heard_fits, heard_text, taken_part, left_less, fed_first, fed_talk, fed_text, fed_more, fed_cut}
use Rattle.frames.proofs.feed.Goals as goal

pub loop-rest-init : goal.loop-rest-init
loop-rest-init g c = (c.requires.talking, fed_first _ _ _, search rules)

pub say-requires : goal.say-requires
say-requires g c = heard_fits _ c.hear-got.result _ _ _ _ _ c.hear-got.ensures.speaks

pub returns-in-Err-clause-talking_after : goal.returns-in-Err-clause-talking_after
returns-in-Err-clause-talking_after g c = heard_on c.hear-got.result _ _ _ _ _ _ c.loop-rest.invariant.0 c.hear-got.ensures.speaks

pub returns-in-Err-clause-cut : goal.returns-in-Err-clause-cut
returns-in-Err-clause-cut g c =
    fed_cut _ _ _ _ c.loop-rest.rest.now c.loop-rest.invariant.1 c.hear-got.result.taken _
    (rw (heard_text _ c.hear-got.result _ _ _ _ _ c.hear-got.ensures.speaks) at c.in-Err.ensures.err)

pub loop-rest-preserved : goal.loop-rest-preserved
loop-rest-preserved g c =
    let heard = c.hear-got in
    let inv = c.loop-rest.invariant in (
      heard_on heard.result _ _ _ _ _ _ inv.0 heard.ensures.speaks,
      fed_more _ _ _ _ c.loop-rest.rest.now inv.1 heard.result.taken _ _ heard.ensures.speaks.0
          (rw (heard_text _ heard.result _ _ _ _ _ heard.ensures.speaks) at c.in_default.ensures.ok),
      same_more _ _ _ inv.2 heard.ensures.same,
    )

pub slice_bounds-rest-count : goal.slice_bounds-rest-count
slice_bounds-rest-count g c = (taken_part c.loop-rest.rest.now _ (search rules) c.hear-got.ensures.taken_value).1

pub slice_bounds-rest-start : goal.slice_bounds-rest-start
slice_bounds-rest-start g c = (taken_part c.loop-rest.rest.now _ (search rules) c.hear-got.ensures.taken_value).1

pub loop-rest-smaller : goal.loop-rest-smaller
loop-rest-smaller g c =
    left_less c.loop-rest.rest.now _ (taken_part c.loop-rest.rest.now _ (search rules) c.hear-got.ensures.taken_value)

pub returns-clause-heard : goal.returns-clause-heard
returns-clause-heard g c = fed_talk _ _ _ _ c.loop-rest.rest.now c.loop-rest.invariant.1 (search rules)

pub returns-clause-said : goal.returns-clause-said
returns-clause-said g c = fed_text _ _ _ _ c.loop-rest.rest.now c.loop-rest.invariant.1 (search rules)
