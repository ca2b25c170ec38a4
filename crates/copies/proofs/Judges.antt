-- Laws of Copy's checks: bounds, sharing, what its calls come to.
use mathlib.Core.Path.{◌≡◌, refl, sym, ap, ◌∙◌}
use mathlib.Core.Bool.{Bool, true, false, not, ◌&&◌, ◌||◌}
use mathlib.Core.List.{[], ◌∷◌}
use Prim.Native.Nat.{ℕ, ◌+◌, ◌-◌, ◌*◌, ◌≤◌, ◌<◌}
use native.Mathlib.Nat.{mul-le-mul, div-mul-le_self}
use native.Mathlib.Decide.{dec_lt}
use native.Mathlib.Omega.{arith}
use lib.Dec.{eqb, ltb}
use Rattle.geometry.specs.declared.params.Lba.{Lba}
use Rattle.geometry.specs.Config.{Setting, is_valid}
use Rattle.std.specs.Prelude.{Some, None, Result, Ok, Err}
use Rattle.geometry.specs.Params.{further}
use Rattle.copying.specs.Listwise.{filled_by}
use Rattle.model.specs.declared.block.Block.{Block}
use Rattle.model.specs.declared.block.CopyBlock.{CopyBlock}
use Rattle.model.specs.Verdicts.{Verdict, Faulty, Passed, stop_verdict, as_judgement, Judgement}
use Rattle.model.specs.declared.verdict.Stop.{Stop}
use Rattle.model.specs.declared.verdict.Stop.TheVariants.{Refuse, Fail}
use Rattle.model.specs.declared.verdict.NamedStop.{NamedStop}
use Rattle.model.specs.declared.verdict.View.{View}
use Rattle.model.specs.Block.{count_of}
use Rattle.model.specs.Table.{check_number, is_among, row_for}
use Rattle.model.specs.Checks.{on, judged, is_unknown, control_wrong, block_wrong, with_params, past_end, not_spared, bytes_of, hits_of, judge_over, filling_of, shares, saying_of, first_of, judge_copy}
use Rattle.checks.proofs.Orders.{hits, hits_same}
use Rattle.model.proofs.engine.Judged.{judged_hit, judged_on, judged_none}
use Rattle.model.proofs.engine.Copies.{judge_counted}

-- ---- bounds
pub source_bytes : (n ds : ℕ) → n ≤ 256 → ds ≤ 512 → n * ds ≤ 131072
source_bytes n ds hn hs = mul-le-mul {n₂ = 256} {m₂ = 512} hn hs

pub filled_most : (n ds dd : ℕ) → n ≤ 256 → ds ≤ 512 → (128 ≤ dd) × (dd ≤ 512) → filled_by n ds dd ≤ 1024
filled_most n ds dd hn hs hd = by (dec_lt 1024 (filled_by n ds dd))
  where
    by : Dec (1024 < filled_by n ds dd) → filled_by n ds dd ≤ 1024
    by (no h) = omega arith
    by (yes h) =
        let bytes = source_bytes n ds hn hs in
        let z : 1025 * dd ≤ filled_by n ds dd * dd = mul-le-mul {n₂ = filled_by n ds dd} {m₂ = dd} h (omega arith) in
        absurd (omega (arith, bytes, z, div-mul-le_self (n * ds + (dd - 1)) dd, hd.0, hd.1))

-- ---- what is said of one drive
abbrev pub said : (named : ℕ) → Verdict → Judgement
said named verdict = record { named = named; verdict = verdict }

-- ---- sharing
pub all_of : (k : CopyBlock) (n m : ℕ) {past-b past-a : Lba} {x y both all : Bool} → past-b ≡ further k.to.address m
    → x ≡ ltb k.from.address.0 past-b.0 → past-a ≡ further k.from.address n → y ≡ ltb k.to.address.0 past-a.0 → both ≡ (x && y)
    → all ≡ (eqb k.from.drive k.to.drive && both) → all ≡ shares k n m
unfolding shares
all_of k n m pb ex pa ey eb ea = rw (ea, eb, ex, ey, pa, pb)

module _ (hit : Bool) (at : Lba) (named : ℕ) {shared : Bool} (is : shared ≡ hit) where
  pub shared_on : shared ≡ true → said named (Faulty 0x22 at) ≡ said named (judged (on hit 0x22 at ∷ []))
  shared_on e = ap (said named) (sym (judged_hit hit (Faulty 0x22 at) [] (sym is ∙ e)))

  pub shared_off : shared ≡ false → said named Passed ≡ said named (judged (on hit 0x22 at ∷ []))
  shared_off e = ap (said named) (sym (judged_on hit (Faulty 0x22 at) [] (sym is ∙ e) ∙ judged_none))

-- ---- the row of Copy
-- pending hits wherever there are parameters
held_valid : (setting : Setting) (a : Lba) → is_valid setting ≡ with_params setting (not_spared false a)
unfolding is_valid with_params not_spared
held_valid None a = refl
held_valid (Some p) a = refl

row_hits : (b : Block) (reach : ℕ) (v : View)
    → hits false (b.top || control_wrong false false b.control) (not v.present) (not (is_valid v.setting)) false
    (with_params v.setting (past_end b.address reach)) (v.pending && with_params v.setting (not_spared false b.address)) false false
    ≡ hits_of (row_for 0x20) b reach v 0 0
unfolding hits_of row_for is_unknown block_wrong is_among check_number bytes_of
row_hits b reach v = refl

pub copy_hits : (b : Block) (reach : ℕ) (v : View) → b.opcode ≡ 0x20 → {control wrong valid past pending : Bool} → control ≡ control_wrong false false b.control
    → wrong ≡ (b.top || control) → valid ≡ is_valid v.setting → past ≡ with_params v.setting (past_end b.address reach)
    → pending ≡ (v.pending && valid) → hits false wrong (not v.present) (not valid) false past pending false false ≡ hits_of (row_for b.opcode) b reach v 0 0
copy_hits b reach v is ec ew ev ea ep =
    let pends = ap (λ (x : Bool). v.pending && x) (held_valid v.setting b.address) in
    hits_same refl (ew ∙ ap (λ (x : Bool). b.top || x) ec) refl (ap not ev) refl ea (ep ∙ ap (λ (x : Bool). v.pending && x) ev ∙ pends) refl refl
    ∙ row_hits b reach v ∙ ap (λ (opcode : ℕ). hits_of (row_for opcode) b reach v 0 0) (sym is)

-- ---- all three: the first that fails is what is said
stop_first : (stop : Stop) (first later : Judgement) → saying_of (stop_verdict stop) first later ≡ first
unfolding saying_of
stop_first (Refuse refusal) first later = refl
stop_first (Fail code at) first later = refl

first_fails : {T : Type 0} (named : ℕ) (end : Result T NamedStop) (row later : Judgement) (stop : NamedStop) → as_judgement named end ≡ row → end ≡ Err stop
    → first_of row later ≡ said stop.named (stop_verdict stop.stop)
first_fails named end row later stop is e = rw (← is, e) (stop_first stop.stop _ later)

first_passes : {T : Type 0} (named : ℕ) (end : Result T NamedStop) (row later : Judgement) (x : T) → as_judgement named end ≡ row → end ≡ Ok x
    → first_of row later ≡ later
unfolding saying_of
first_passes named end row later x is e = rw (← is, e)

module _ (k : CopyBlock) (v w : View) {n m : ℕ} (is : k.from.opcode ≡ 0x20) (en : n ≡ count_of k.from) (em : m ≡ filling_of n v.setting w.setting)
    {T : Type 0} (one : Result T NamedStop) (e1 : as_judgement k.from.drive one ≡ said k.from.drive (judge_over k.from n v 0 0)) where
  abbrev target : Judgement
  target = said k.to.drive (judge_over k.to m w 0 0)

  abbrev shared : Judgement
  shared = said k.from.drive (judged (on (shares k n m) 0x22 k.from.address ∷ []))

  by_rows : first_of (said k.from.drive (judge_over k.from n v 0 0)) (first_of target shared) ≡ judge_copy k v w
  unfolding judge_copy
  by_rows = rw (judge_counted k.from v is, em, en)

  pub source_fails : (stop : NamedStop) → one ≡ Err stop → said stop.named (stop_verdict stop.stop) ≡ judge_copy k v w
  source_fails stop e = sym (first_fails _ one _ (first_of target shared) stop e1 e) ∙ by_rows

  module _ (x : T) (p1 : one ≡ Ok x) (two : Result T NamedStop) (e2 : as_judgement k.to.drive two ≡ target) where
    past_one : first_of target shared ≡ judge_copy k v w
    past_one = sym (first_passes _ one _ _ x e1 p1) ∙ by_rows

    pub target_fails : (stop : NamedStop) → two ≡ Err stop → said stop.named (stop_verdict stop.stop) ≡ judge_copy k v w
    target_fails stop e = sym (first_fails _ two _ shared stop e2 e) ∙ past_one

    pub rows_pass : (y : T) → two ≡ Ok y → (j : Judgement) → j ≡ shared → j ≡ judge_copy k v w
    rows_pass y e j ej = ej ∙ sym (first_passes _ two _ _ y e2 e) ∙ past_one
