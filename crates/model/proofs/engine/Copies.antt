-- A Copy fails with a code before its first sector, or it goes on as `copied` says, over two ranges that lie on their drives and apart.
use Prim.Native.Nat.{ℕ, ◌+◌, ◌≤◌, ◌<◌}
use mathlib.Core.Path.{◌≡◌, refl, sym, ap, ◌∙◌}
use mathlib.Core.Logic.{inl, inr}
use mathlib.Core.Bool.{Bool, true, false, ◌&&◌, true≢false}
use mathlib.Core.List.{List, [], ◌∷◌}
use native.Mathlib.Omega.{arith}
use lib.ListN.{length}
use lib.Dec.{ltb}
use borrow.Author.Tests.{eq-eqb, ltb-false}
use Rattle.base.specs.Pick.{pick}
use Rattle.geometry.specs.declared.params.Lba.{Lba}
use Rattle.geometry.specs.declared.params.Params.{Params}
use Rattle.geometry.specs.declared.medium.Medium.{Medium}
use Rattle.geometry.specs.Config.{Setting}
use Rattle.std.specs.Prelude.{Some, None}
use Rattle.geometry.specs.Params.{address_count}
use Rattle.geometry.specs.Medium.{medium_of}
use Rattle.geometry.proofs.Settings.{setting_within, setting_some}
use Rattle.track.specs.Image.{Fits}
use Rattle.copying.specs.Copying.{copied}
use Rattle.copying.specs.Listwise.{filled_by, Apart, Fitting}
use Rattle.copying.proofs.Laws.{filled_some}
use Rattle.model.specs.declared.block.Block.{Block}
use Rattle.model.specs.declared.block.CopyBlock.{CopyBlock}
use Rattle.model.specs.declared.record.Drive.{Drive}
use Rattle.model.specs.declared.verdict.View.{View}
use Rattle.model.specs.Verdicts.{Verdict}
use Rattle.model.specs.Verdicts.{Refused, Faulty, Passed}
use Rattle.model.specs.Verdicts.{Judgement}
use Rattle.model.specs.Block.{count_of}
use Rattle.model.specs.Table.{Address, Counted, Settled, SparedWhole, check_number, is_among, applies, row_for}
use Rattle.model.specs.Checks.{on, judged, reach_of, in_order, judge_over, judge, filling_of, shares, saying_of, judge_copy}
use Rattle.model.specs.Record.{setting_in, failed, unless_named}
use Rattle.model.specs.Copies.{CopyEffect, copy_effect, route_of, copy_left, copy_with}
use Rattle.model.specs.Engine.{view_of, image_of, obey_copy}
use Rattle.model.proofs.engine.Checked.{cleared_over, reach_in, not_pending, count_some}
use Rattle.model.proofs.engine.Known.{setting_known}
use Rattle.model.proofs.engine.Leaving.{Verdicts, fault, pass, copy_judge_by}

-- ---- One drive's row of checks, passed
module _ (b : Block) (reach : ℕ) (v : View) (is : b.opcode ≡ 0x20) (passed : judge_over b reach v 0 0 ≡ Passed)
    (p : Params) (valid : v.setting ≡ Some p) where
  has : applies Address (row_for b.opcode) ≡ true
  unfolding row_for is_among check_number
  has = ap (λ (opcode : ℕ). applies Address (row_for opcode)) is

  settled : applies Settled (row_for b.opcode) ≡ true
  unfolding row_for is_among check_number
  settled = ap (λ (opcode : ℕ). applies Settled (row_for opcode)) is

  not_whole : applies SparedWhole (row_for b.opcode) ≡ false
  unfolding row_for is_among check_number
  not_whole = ap (λ (opcode : ℕ). applies SparedWhole (row_for opcode)) is

  pub row_reach : (image : List ℕ) → Fits p image → 0 < reach → b.address.0 + reach ≤ address_count p
  row_reach image f some = reach_in f.within (cleared_over b reach v 0 0 passed p valid) has some

  pub row_settled : (image : List ℕ) → Fits p image → v.pending ≡ false
  row_settled image f = not_pending f.within (cleared_over b reach v 0 0 passed p valid) settled not_whole

-- ---- The codes of the checks: not 0, and none above 22h
abbrev pub CheckCode : ℕ → Type 0
CheckCode code = (1 ≤ code) × (code ≤ 0x22)

abbrev Low : Verdict → Type 0
Low said = (code : ℕ) (at : Lba) → said ≡ Faulty code at → code ≤ 0x22

low_faulty : (c : ℕ) (a : Lba) → c ≤ 0x22 → Low (Faulty c a)
low_faulty c a l code at e = let z : c ≡ code = cc in omega (arith, l, z)

low_refused : (number : ℕ) → Low (Refused number)
low_refused number code at e = absurd (let z : ◌≡◌ {A = ℕ} 0 1 = cc in omega arith)

low_passed : Low Passed
low_passed code at e = absurd (let z : ◌≡◌ {A = ℕ} 0 1 = cc in omega arith)

low_pick : (b : Bool) (x y : Verdict) → Low x → Low y → Low (pick b x y)
unfolding pick
low_pick true x y hx hy = hx
low_pick false x y hx hy = hy

row_low : (b : Block) (reach : ℕ) (v : View) → Low (judge_over b reach v 0 0)
unfolding judged in_order
row_low b reach v =
    low_pick _ _ _ (low_faulty _ _ (omega arith))
    (low_pick _ _ _ (low_faulty _ _ (omega arith))
    (low_pick _ _ _ (low_faulty _ _ (omega arith))
    (low_pick _ _ _ (low_faulty _ _ (omega arith))
    (low_pick _ _ _ (low_faulty _ _ (omega arith))
    (low_pick _ _ _ (low_faulty _ _ (omega arith))
    (low_pick _ _ _ (low_faulty _ _ (omega arith))
    (low_pick _ _ _ (low_refused _) (low_pick _ _ _ (low_refused _) low_passed))))))))

-- Copy's byte 4 is a count, by its row: the source's sectors must all be there.
pub judge_counted : (b : Block) (v : View) → b.opcode ≡ 0x20 → judge b v 0 0 ≡ judge_over b (count_of b) v 0 0
unfolding judge reach_of row_for is_among check_number pick
judge_counted b v is =
    ap (λ (reach : ℕ). judge_over b reach v 0 0) (ap (λ (opcode : ℕ). reach_of (applies Counted (row_for opcode)) b) is)

-- ---- Both drives'
pub data CopyJudged (k : CopyBlock) (v w : View) : Judgement → Type 0 where
  copy_fault : (named code : ℕ) (at : Lba) → CheckCode code → CopyJudged k v w (record { named = named; verdict = Faulty code at })
  copy_pass : (named : ℕ) → judge_over k.from (count_of k.from) v 0 0 ≡ Passed
      → judge_over k.to (filling_of (count_of k.from) v.setting w.setting) w 0 0 ≡ Passed
      → shares k (count_of k.from) (filling_of (count_of k.from) v.setting w.setting) ≡ false
      → CopyJudged k v w (record { named = named; verdict = Passed })

module _ (k : CopyBlock) (v w : View) (from : k.from.opcode ≡ 0x20) (to : k.to.opcode ≡ 0x20) where
  said_first : (named : ℕ) {first : Verdict} (second : Judgement) → Verdicts false first → Low first → (first ≡ Passed → CopyJudged k v w second)
      → CopyJudged k v w (saying_of first (record { named = named; verdict = first }) second)
  unfolding saying_of
  said_first named second (fault code at some) low next = copy_fault named code at (some, low code at refl)
  said_first named second pass low next = next refl

  said_last : (named : ℕ) (hit : Bool) (at : Lba) → (hit ≡ false → CopyJudged k v w (record { named = named; verdict = Passed }))
      → CopyJudged k v w (record { named = named; verdict = judged (on hit 0x22 at ∷ []) })
  unfolding judged pick
  said_last named true at next = copy_fault named 0x22 at (omega arith, omega arith)
  said_last named false at next = next refl

  pub judge_copy_by : CopyJudged k v w (judge_copy k v w)
  unfolding judge_copy
  judge_copy_by =
      let counts = judge_counted k.from v from in
      rw counts
      (said_first k.from.drive _ (copy_judge_by k.from _ v from) (row_low k.from _ v)
      (λ one.
      said_first k.to.drive _ (copy_judge_by k.to _ w to) (row_low k.to _ w)
      (λ two. said_last k.from.drive _ _ (λ three. copy_pass k.from.drive one two three))))

-- ---- What both rows and the last test give
apart_by : (a b n m : ℕ) (x y : Bool) → ltb a (b + m) ≡ x → ltb b (a + n) ≡ y → (x && y) ≡ false → Apart a n b m
apart_by a b n m false y e g off = inr (ltb-false a (b + m) e)
apart_by a b n m true false e g off = inl (ltb-false b (a + n) g)
apart_by a b n m true true e g off = absurd (true≢false off)

not_shared : (k : CopyBlock) (n m : ℕ) → shares k n m ≡ false → k.from.drive ≡ k.to.drive → Apart k.from.address.0 n k.to.address.0 m
unfolding shares
not_shared k n m off same =
    apart_by k.from.address.0 k.to.address.0 n m _ _ refl refl (rw (eq-eqb k.from.drive k.to.drive same) at off)

its_fits : (medium : Medium) (entry : Drive) (image : List ℕ) (p : Params) → setting_in medium entry (length image) ≡ Some p
    → Fits p image × (0 < p.size)
its_fits medium entry image p valid =
    let known = setting_known medium entry (length image) p valid in
    let w = setting_within medium entry.config (length image) p known in
    (record { within = w.0; long = w.1 }, omega (arith, setting_some medium entry.config (length image) p known))

module _ (k : CopyBlock) (source target : Drive) (images : List (List ℕ)) (from : k.from.opcode ≡ 0x20) (to : k.to.opcode ≡ 0x20)
    (one_drive : k.from.drive ≡ k.to.drive → source ≡ target) where
  abbrev S : List ℕ
  S = image_of k.from.drive images

  abbrev T : List ℕ
  T = image_of k.to.drive images

  abbrev n : ℕ
  n = count_of k.from

  -- the parameters of both drives, and that no sector is pending, past an end, or shared
  pub record Copies (p q : Params) : Type 0 where
    pub source_valid : setting_in (medium_of k.from.drive) source (length S) ≡ Some p
    pub target_valid : setting_in (medium_of k.to.drive) target (length T) ≡ Some q
    pub source_settled : source.pending ≡ false
    pub target_settled : target.pending ≡ false
    pub fitting : Fitting (route_of k p q) n images

  module _ (p q : Params) (sp : setting_in (medium_of k.from.drive) source (length S) ≡ Some p)
      (sq : setting_in (medium_of k.to.drive) target (length T) ≡ Some q)
      (one : judge_over k.from n (view_of (medium_of k.from.drive) source (length S)) 0 0 ≡ Passed)
      (two : judge_over k.to (filled_by n p.size q.size) (view_of (medium_of k.to.drive) target (length T)) 0 0 ≡ Passed)
      (three : shares k n (filled_by n p.size q.size) ≡ false) where
    same_params : k.from.drive ≡ k.to.drive → p ≡ q
    same_params e =
        let z : Some p ≡ Some q = sym sp ∙ rw (e, one_drive e) sq in
        cc

    pub passed_copies : Copies p q
    unfolding view_of
    passed_copies =
        let f = its_fits _ source S p sp in
        let g = its_fits _ target T q sq in
        let some = filled_some n p.size q.size (count_some k.from) f.1 g.1 in
        record {
          source_valid = sp;
          target_valid = sq;
          source_settled = row_settled k.from n _ from one p sp S f.0;
          target_settled = row_settled k.to _ _ to two q sq T g.0;
          fitting = record {
            source_fits = f.0;
            target_fits = g.0;
            source_some = f.1;
            target_some = g.1;
            source_on = row_reach k.from n _ from one p sp S f.0 (count_some k.from);
            target_on = row_reach k.to _ _ to two q sq T g.0 some;
            apart = λ e. (same_params e, not_shared k n _ three e);
          };
        }

  -- ---- What it leaves
  pub data CopyObeyed (buffer : List ℕ) : CopyEffect → Type 0 where
    copy_failed : (named code : ℕ) (at : Lba) → CheckCode code
        → CopyObeyed buffer (copy_effect (failed k.from.drive named code at 0 0 source) buffer images)
    copy_done : (p q : Params) → Copies p q → CopyObeyed buffer (copy_left k source buffer (copied (route_of k p q) n images))

  module _ (buffer : List ℕ) where
    abbrev v : View
    v = view_of (medium_of k.from.drive) source (length S)

    abbrev w : View
    w = view_of (medium_of k.to.drive) target (length T)

    passed_obeyed : (s t : Setting) → setting_in (medium_of k.from.drive) source (length S) ≡ s → setting_in (medium_of k.to.drive) target (length T) ≡ t
        → judge_over k.from n v 0 0 ≡ Passed → judge_over k.to (filling_of n s t) w 0 0 ≡ Passed → shares k n (filling_of n s t) ≡ false
        → CopyObeyed buffer (copy_with k s t source buffer images)
    unfolding copy_with filling_of
    passed_obeyed None t es et one two three = copy_failed k.from.drive 0x0A k.from.address (omega arith, omega arith)
    passed_obeyed (Some p) None es et one two three = copy_failed k.to.drive 0x0A k.to.address (omega arith, omega arith)
    passed_obeyed (Some p) (Some q) es et one two three = copy_done p q (passed_copies p q es et one two three)

    judged_obeyed : {said : Judgement} → CopyJudged k v w said
        → CopyObeyed buffer
        (unless_named said.verdict k.from.drive said.named source (λ e. copy_effect e buffer images)
        (copy_with k (setting_in (medium_of k.from.drive) source (length S)) (setting_in (medium_of k.to.drive) target (length T)) source buffer images))
    unfolding unless_named view_of
    judged_obeyed (copy_fault named code at some) = copy_failed named code at some
    judged_obeyed (copy_pass named one two three) = passed_obeyed _ _ refl refl one two three

    pub copy_obeyed : CopyObeyed buffer (obey_copy k source target buffer images)
    unfolding obey_copy view_of
    copy_obeyed = judged_obeyed (judge_copy_by k v w from to)
