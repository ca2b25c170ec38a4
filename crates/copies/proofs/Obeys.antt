-- What a Copy leaves, by the verdict of its checks.
use mathlib.Core.Path.{◌≡◌, refl, sym, ap, ◌∙◌}
use mathlib.Core.Bool.{Bool}
use mathlib.Core.List.{List, [], ◌∷◌}
use Prim.Native.Nat.{ℕ, ◌<◌}
use native.Mathlib.Omega.{arith}
use lib.ListN.{length}
use Rattle.geometry.specs.declared.params.Lba.{Lba}
use Rattle.geometry.specs.declared.params.Params.{Params}
use Rattle.geometry.specs.Config.{Setting}
use Rattle.std.specs.Prelude.{Some, None}
use Rattle.geometry.specs.Medium.{medium_of}
use Rattle.geometry.proofs.Settings.{setting_within, setting_some}
use Rattle.copying.specs.Copying.{copied}
use Rattle.copying.specs.Listwise.{filled_by}
use Rattle.model.specs.declared.block.CopyBlock.{CopyBlock}
use Rattle.model.specs.declared.record.Drive.{Drive}
use Rattle.model.specs.declared.record.Ending.{Ending}
use Rattle.model.specs.declared.verdict.View.{View}
use Rattle.model.specs.Verdicts.{Verdict, Refused, Faulty, Passed, Judgement}
use Rattle.model.specs.Block.{count_of}
use Rattle.model.specs.Checks.{on, judged, judge_over, judge, filling_of, shares, saying_of, judge_copy}
use Rattle.model.specs.Record.{setting_in, refused, failed, unless_named}
use Rattle.model.specs.Copies.{CopyEffect, copy_effect, route_of, copy_left, copy_with}
use Rattle.model.specs.Engine.{view_of, image_of, obey_copy}
use Rattle.model.specs.Premises.{address_limit, WellFormed, OnDrives}
use Rattle.model.proofs.engine.Judged.{fault_in, fault_none}
use Rattle.model.proofs.engine.Known.{setting_known}
use Rattle.model.proofs.engine.Copies.{Copies, CopyJudged, copy_fault, copy_pass, judge_copy_by, passed_copies}
use Rattle.checks.proofs.Orders.{count_bounds}
use Rattle.copies.proofs.Judges.{filled_most}
use Rattle.checks.proofs.Views.{fault_over}
use Rattle.copies.specs.Ready.{TwoDrives, Copyable}

-- ---- by the parameters of both drives
module _ (k : CopyBlock) (source : Drive) (buffer : List ℕ) (images : List (List ℕ)) where
  pub none_copies : (from to : Setting) (r : Ending) → from ≡ None → r ≡ failed k.from.drive k.from.drive 0x0A k.from.address 0 0 source
      → copy_effect r buffer images ≡ copy_with k from to source buffer images
  unfolding copy_with
  none_copies from to r e er = rw (e, er)

  pub one_copies : (from to : Setting) (r : Ending) (p : Params) → from ≡ Some p → to ≡ None
      → r ≡ failed k.from.drive k.to.drive 0x0A k.to.address 0 0 source → copy_effect r buffer images ≡ copy_with k from to source buffer images
  unfolding copy_with
  one_copies from to r p ef et er = rw (ef, et, er)

  pub both_copy : (from to : Setting) (p q : Params) (x : CopyEffect) → from ≡ Some p → to ≡ Some q
      → x ≡ copy_left k source buffer (copied (route_of k p q) (count_of k.from) images) → x ≡ copy_with k from to source buffer images
  unfolding copy_with
  both_copy from to p q x ef et ex = rw (ef, et) ex

-- ---- what is said fits the sense: the code, its address, and the drive that it names
abbrev Sayable : Judgement → Type 0
Sayable said = (code : ℕ) (at : Lba) → said.verdict ≡ Faulty code at → (said.named < 4) × (code < 0x80) × (at.0 < address_limit)

said_by : (verdict : Verdict) (first second : Judgement) → Sayable first → Sayable second → Sayable (saying_of verdict first second)
unfolding saying_of
said_by (Refused number) first second f s = f
said_by (Faulty code at) first second f s = f
said_by Passed first second f s = s

module _ (k : CopyBlock) (v w : View) (from : WellFormed k.from) (to : WellFormed k.to) where
  shared_below : (hit : Bool) → Sayable (record { named = k.from.drive; verdict = judged (on hit 0x22 k.from.address ∷ []) })
  shared_below hit code at e =
      let P : ℕ → Lba → Type 0 = λ c l. (c < 0x80) × (l.0 < address_limit) in
      let b = fault_in P code at hit 0x22 k.from.address [] (omega arith, from.address) (λ _. fault_none P code at) e in
      (from.drive, b.0, b.1)

  pub copy_below : (said : Judgement) → said ≡ judge_copy k v w → Sayable said
  unfolding judge_copy judge
  copy_below said is =
      rw is
      (said_by _ _ _ (λ code at e. let b = fault_over k.from _ v 0 0 _ refl code at e from.address in (from.drive, b.0, b.1))
      (said_by _ _ _ (λ code at e. let b = fault_over k.to _ w 0 0 _ refl code at e to.address in (to.drive, b.0, b.1)) (shared_below _)))

-- ---- where all is passed, it can go on
passed_faulty : (code : ℕ) (at : Lba) → Faulty code at ≡ Passed → ⊥
passed_faulty code at e = let z : ◌≡◌ {A = ℕ} 0 1 = cc in omega arith

module _ (k : CopyBlock) (source target : Drive) (images : List (List ℕ)) (ready : TwoDrives k source target) (few : k.from.extra < 256) where
  abbrev S : List ℕ
  S = image_of k.from.drive images

  abbrev T : List ℕ
  T = image_of k.to.drive images

  abbrev v : View
  v = view_of (medium_of k.from.drive) source (length S)

  abbrev w : View
  w = view_of (medium_of k.to.drive) target (length T)

  both_drives : (p q : Params) → setting_in (medium_of k.from.drive) source (length S) ≡ Some p → setting_in (medium_of k.to.drive) target (length T) ≡ Some q
      → Copies k source target images ready.from_copy ready.to_copy ready.one_drive p q → OnDrives k p q images
  both_drives p q sp sq copies =
      let kp = setting_known _ source (length S) p sp in
      let kq = setting_known _ target (length T) q sq in
      record {
        from = ready.from;
        to = ready.to;
        fitting = copies.fitting;
        few =
            filled_most (count_of k.from) p.size q.size (count_bounds k.from few).1 (setting_within _ _ (length S) p kp).0.size_most
            (setting_some _ _ (length T) q kq, (setting_within _ _ (length T) q kq).0.size_most);
      }

  filling_is : (p q : Params) (s t : Setting) → s ≡ Some p → t ≡ Some q → filling_of (count_of k.from) s t ≡ filled_by (count_of k.from) p.size q.size
  unfolding filling_of
  filling_is p q s t es et = rw (es, et) refl

  can_go : {said : Judgement} → CopyJudged k v w said → said.verdict ≡ Passed → (p q : Params)
      → setting_in (medium_of k.from.drive) source (length S) ≡ Some p → setting_in (medium_of k.to.drive) target (length T) ≡ Some q → OnDrives k p q images
  unfolding view_of
  can_go (copy_fault named code at some) e p q sp sq = absurd (passed_faulty code at e)
  can_go (copy_pass named one two three) e p q sp sq =
      let fills = filling_is p q _ _ sp sq in
      both_drives p q sp sq
      (passed_copies k source target images ready.from_copy ready.to_copy ready.one_drive p q sp sq one
      (ap (λ (m : ℕ). judge_over k.to m w 0 0) (sym fills) ∙ two) (ap (shares k (count_of k.from)) (sym fills) ∙ three))

  -- ---- by the views and the judgement that the code has made
  module _ (seen_from seen_to : View) (ev : seen_from ≡ v) (ew : seen_to ≡ w) (said : Judgement) (is : said ≡ judge_copy k seen_from seen_to) where
    said_is : said ≡ judge_copy k v w
    said_is = rw (ev, ew) at is

    pub copyable : said.verdict ≡ Passed → Copyable k seen_from.setting seen_to.setting images
    unfolding view_of
    copyable e =
        rw (ev, ew)
        (record {
          from_well = ready.from;
          to_well = ready.to;
          both = λ p q sp sq. can_go (judge_copy_by k v w ready.from_copy ready.to_copy) (ap (λ (j : Judgement). j.verdict) (sym said_is) ∙ e) p q sp sq;
        })

    -- ---- what is left
    module _ (buffer : List ℕ) where
      pub copy_refused : (r : Ending) (number : ℕ) → said.verdict ≡ Refused number → r ≡ refused number source
          → copy_effect r buffer images ≡ obey_copy k source target buffer images
      unfolding obey_copy unless_named
      copy_refused r number e er = rw (← said_is, e, er)

      pub copy_failed : (r : Ending) (code : ℕ) (at : Lba) → said.verdict ≡ Faulty code at → r ≡ failed k.from.drive said.named code at 0 0 source
          → copy_effect r buffer images ≡ obey_copy k source target buffer images
      unfolding obey_copy unless_named
      copy_failed r code at e er = rw (← said_is, e, er)

      pub copy_carried : (x : CopyEffect) → said.verdict ≡ Passed → x ≡ copy_with k seen_from.setting seen_to.setting source buffer images
          → x ≡ obey_copy k source target buffer images
      unfolding obey_copy unless_named
      copy_carried x e ex = rw (← said_is, e) (rw (ev, ew) at ex)
