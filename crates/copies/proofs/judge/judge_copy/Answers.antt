use Rattle.std.proofs.lemmas.Result.{err_from_is_err_and}
use Rattle.copies.proofs.Judges.{source_fails, target_fails, rows_pass}
use Rattle.copies.proofs.judge.judge_copy.Goals as goal

pub returns-in_err-judge_row : goal.returns-in_err-judge_row
returns-in_err-judge_row c =
    let p = err_from_is_err_and c.from_residual.result c.from_residual.ensures.1 in
    rw (p.1, p.2)
    (source_fails _ _ _ c.requires.5 c.count_of-n.ensures.0 c.filling_of-m.ensures.0 _ c.judge_row.ensures _ c.in_err-judge_row.was)

pub returns-in_err-judge_row-2 : goal.returns-in_err-judge_row-2
returns-in_err-judge_row-2 c =
    let p = err_from_is_err_and c.from_residual-in_err-judge_row-2.result c.from_residual-in_err-judge_row-2.ensures.1 in
    rw (p.1, p.2)
    (target_fails _ _ _ c.requires.5 c.count_of-n.ensures.0 c.filling_of-m.ensures.0 _ c.judge_row.ensures _ c.in_ok-judge_row.was
    _ c.judge_row-2.ensures _ c.in_err-judge_row-2.was)

pub returns : goal.returns
returns c =
    rows_pass _ _ _ c.requires.5 c.count_of-n.ensures.0 c.filling_of-m.ensures.0 _ c.judge_row.ensures _ c.in_ok-judge_row.was
    _ c.judge_row-2.ensures _ c.in_ok-judge_row-2.was _ c.share_test.ensures
