use native.Mathlib.Omega.{arith}
use Prim.Native.Nat.{◌<◌}
use lib.ListN.{length}
use Rattle.lines.proofs.Talks.{feed_within}
use Rattle.lines.proofs.Standing.{stands, text_room}
use Rattle.lines.proofs.Hearings.{open_heard, line_heard, still_fits}
use borrow.Author.Rules.{rules}
use Rattle.lines.proofs.talk.hear.Goals as goal

pub slice_bounds-accept_all-end : goal.slice_bounds-accept_all-end
slice_bounds-accept_all-end c = omega (arith, c.first_feed-end.ensures, feed_within c.args.input.now)

pub accept_all-line-requires : goal.accept_all-line-requires
accept_all-line-requires c = (stands c.requires.talking).small

pub returns-then-end-input : goal.returns-then-end-input
returns-then-end-input c =
    let heard =
    open_heard c.args.session c.args.input.now _ _ c.args.text.now _ _ _ _
    c.first_feed-end.ensures c.accept_all-line.ensures.0 c.if-end-input.true in
    record { taken_value = heard.0; speaks = heard.1; same = search rules }

pub overflow_add-end : goal.overflow_add-end
overflow_add-end c =
    let found = c.first_feed-end in
    let input = c.args.input.now in
    let before : found.result < length input = omega (arith, found.ensures, feed_within input, c.if-end-input.false) in
    search (rules, before)

pub answer-requires : goal.answer-requires
answer-requires c = (
  text_room _ c.requires.talking c.requires.text_length_in_bounds,
  still_fits c.args.session c.args.input.now _ _ c.args.text.now _ _ _ _ c.first_feed-end.ensures c.accept_all-line.ensures.0 c.requires.talking,
)

pub returns : goal.returns
returns c =
    let answered = c.answer in
    let heard =
    line_heard c.args.session c.args.input.now _ _ c.args.text.now _ _ _ _
    c.first_feed-end.ensures c.accept_all-line.ensures.0 c.if-end-input.false answered.result _ _ _
    answered.ensures.taken_value answered.ensures.speaks in
    record { taken_value = heard.0; speaks = heard.1; same = search rules }
