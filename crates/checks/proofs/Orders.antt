-- Laws of the checks: control bits, bounds on counts and lengths, what the code's calls come to.
use mathlib.Core.Path.{◌≡◌, refl}
use mathlib.Core.Bool.{Bool, true, false, true≢false, false≢true, not, ◌&&◌, ◌||◌, and-true, and-false, or-false}
use Prim.Native.Nat.{ℕ, ◌+◌, ◌-◌, ◌*◌, ◌%◌, ◌≤◌, ◌<◌}
use native.Mathlib.Nat.{mul-le-mul}
use native.Mathlib.Omega.{arith}
use native.Mathlib.Decide.{ℕ_discrete, dec_lt}
use lib.Dec.{eqb, ltb}
use borrow.Author.Tests.{eq-eqb, ne_eqb, lt-ltb, le-ltb}
use Rattle.base.specs.Pick.{pick}
use Rattle.base.proofs.Decide.{pick_true, pick-false}
use Rattle.geometry.specs.declared.params.Lba.{Lba}
use Rattle.geometry.specs.declared.params.Params.{Params}
use Rattle.geometry.specs.Config.{Setting, is_valid}
use Rattle.std.specs.Prelude.{Some, None, is_some}
use Rattle.geometry.specs.Params.{last_address, further}
use Rattle.model.specs.declared.block.Block.{Block}
use Rattle.model.specs.declared.table.Data.{Data}
use Rattle.model.specs.declared.verdict.Hits.{Hits}
use Rattle.model.specs.Verdicts.{Verdict}
use Rattle.model.specs.declared.verdict.View.{View}
use Rattle.model.specs.Block.{count_of}
use Rattle.model.specs.Table.{Check, FillBit, KeepBit, Counted, SparedWhole, TableRow, applies, row_for}
use Rattle.model.specs.Checks.{judged, is_unknown, control_wrong, with_params, past_end, not_spared, size_in, bytes_of, reach_of, hits_of, in_order, judge}
use Rattle.table.specs.declared.rows.Row.{Row}
use Rattle.table.specs.Rows.{has, Says}
use Rattle.checks.specs.Legal.{Legal}

-- ---- a control byte, by its seven low bits
module _ (fill keep : Bool) (control : ℕ) (some : control % 128 ≡ 0 → ⊥) where
  pub wrong_fill : control % 128 ≡ 32 → not fill ≡ control_wrong fill keep control
  unfolding control_wrong
  wrong_fill h = rw (h, and-true, and-false, or-false)

  pub wrong_keep : control % 128 ≡ 16 → not keep ≡ control_wrong fill keep control
  unfolding control_wrong
  wrong_keep h = rw (h, and-true, and-false)

  pub wrong_other : (control % 128 ≡ 32 → ⊥) → (control % 128 ≡ 16 → ⊥) → true ≡ control_wrong fill keep control
  unfolding control_wrong
  wrong_other h k = rw (ne_eqb _ _ some, ne_eqb _ _ h, ne_eqb _ _ k, and-false fill, and-false keep)

-- ---- the last of `reach` addresses, by the ends behind both
pub past_by : (p : Params) (a last end there : Lba) (reach : ℕ) (past : Bool) → last ≡ last_address p → end ≡ further last 1 → there ≡ further a reach
    → past ≡ ltb end.0 there.0 → past ≡ past_end a reach p
unfolding past_end
past_by p a last end there reach past el ee et e = rw (e, ee, el, et) (ends (last_address p).0 (a.0 + reach))
  where
    ends : (l t : ℕ) → ltb (l + 1) t ≡ ltb l (t - 1)
    ends l t = by (dec_lt (l + 1) t)
      where
        by : Dec (l + 1 < t) → ltb (l + 1) t ≡ ltb l (t - 1)
        by (yes h) = rw (lt-ltb (l + 1) t h, lt-ltb l (t - 1) (omega arith))
        by (no h) = rw (le-ltb (l + 1) t (omega arith), le-ltb l (t - 1) (omega arith))

-- ---- whether there are none
pub unset_none : (setting : Setting) {none : Bool} → is_some setting ≡ not none → none ≡ not (is_valid setting)
unfolding is_valid
unset_none None {none = true} e = refl
unset_none None {none = false} e = absurd (false≢true e)
unset_none (Some p) {none = true} e = absurd (true≢false e)
unset_none (Some p) {none = false} e = refl

-- ---- bounds
pub count_bounds : (b : Block) → b.extra < 256 → (1 ≤ count_of b) × (count_of b ≤ 256)
unfolding count_of
count_bounds b h = by (ℕ_discrete b.extra 0)
  where
    by : Dec (b.extra ≡ 0) → (1 ≤ pick (eqb b.extra 0) 256 b.extra) × (pick (eqb b.extra 0) 256 b.extra ≤ 256)
    by (yes e) = let z = pick_true (eqb b.extra 0) 256 b.extra (eq-eqb _ _ e) in (omega arith, omega arith)
    by (no n) = let z = pick-false (eqb b.extra 0) 256 b.extra (ne_eqb _ _ n) in (omega arith, omega arith)

size_most : (setting : Setting) → Legal setting → size_in setting ≤ 512
unfolding size_in
size_most None l = omega arith
size_most (Some p) l = (l p refl).size_most

pub bytes_most : (b : Block) (setting : Setting) → b.extra < 256 → Legal setting → count_of b * size_in setting ≤ 131072
bytes_most b setting h l = mul-le-mul {n₂ = 256} {m₂ = 512} (count_bounds b h).1 (size_most setting l)

-- ---- what the code asks of a row's checks is what the definition asks of the entry
module _ {row : Row} {e : TableRow} (says : Says row e) where
  -- a check that applies, and hits
  pub checked : (check : Check) {bit answer hit asked : Bool} → bit ≡ has row.checks check → answer ≡ asked → hit ≡ (bit && answer)
      → hit ≡ (applies check e && asked)
  checked check b a h = rw (h, b, a, says.checks check)

  pub control_checked : (control : ℕ) {fill keep wrong : Bool} → fill ≡ has row.checks FillBit → keep ≡ has row.checks KeepBit
      → wrong ≡ control_wrong fill keep control → wrong ≡ control_wrong (applies FillBit e) (applies KeepBit e) control
  control_checked control f k w = rw (w, f, k, says.checks FillBit, says.checks KeepBit)

  pub held_checked : (setting : Setting) (a : Lba) {whole held : Bool} → whole ≡ has row.checks SparedWhole
      → held ≡ with_params setting (not_spared whole a) → held ≡ with_params setting (not_spared (applies SparedWhole e) a)
  held_checked setting a w h = rw (h, w, says.checks SparedWhole)

  pub unknown_checked : {unknown : Bool} → unknown ≡ is_unknown row.command → unknown ≡ is_unknown e.command
  unknown_checked u = rw (u, says.command)

pub bytes_checked : {kind stated : Data} (b : Block) (setting : Setting) (n : ℕ) {bytes : ℕ} → kind ≡ stated → bytes ≡ bytes_of kind b setting
    → ltb n bytes ≡ ltb n (bytes_of stated b setting)
bytes_checked b setting n k h = rw (h, k)

-- tests of which some are asked in other words
pub any_of : (a : Bool) {b c b' c' rest all : Bool} → b ≡ b' → c ≡ c' → rest ≡ (b || c) → all ≡ (a || rest) → all ≡ (a || (b' || c'))
any_of a b c r h = rw (h, r, b, c)

pub with_pending : (pending : Bool) {held held' all : Bool} → held ≡ held' → all ≡ (pending && held) → all ≡ (pending && held')
with_pending pending h a = rw (a, h)

-- the nine hits, one by one
abbrev pub hits : (unknown wrong absent unset interleave past pending short small : Bool) → Hits
hits unknown wrong absent unset interleave past pending short small =
    record {
      unknown = unknown;
      wrong = wrong;
      absent = absent;
      unset = unset;
      interleave = interleave;
      past = past;
      pending = pending;
      short = short;
      small = small;
    }

pub hits_same : {a b c d e f g h i a' b' c' d' e' f' g' h' i' : Bool}
    → a ≡ a' → b ≡ b' → c ≡ c' → d ≡ d' → e ≡ e' → f ≡ f' → g ≡ g' → h ≡ h' → i ≡ i' → hits a b c d e f g h i ≡ hits a' b' c' d' e' f' g' h' i'
hits_same p₁ p₂ p₃ p₄ p₅ p₆ p₇ p₈ p₉ = cc

-- ---- a block's verdict
pub judge_checked : {row : Row} (b : Block) (v : View) (given area : ℕ) {reach : ℕ} {counted : Bool} {found : Hits} {verdict : Verdict}
    → Says row (row_for b.opcode) → counted ≡ has row.checks Counted → reach ≡ reach_of counted b
    → found ≡ hits_of (row_for b.opcode) b reach v given area → verdict ≡ judged (in_order b.address found) → verdict ≡ judge b v given area
unfolding judge
judge_checked b v given area says n r f h = rw (h, f, r, n, says.checks Counted)
