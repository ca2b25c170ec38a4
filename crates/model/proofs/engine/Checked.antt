-- What it says of a command that its checks have passed: once for any row of the table that has the flag.
use Prim.Native.Nat.{ℕ, ◌+◌, ◌-◌, ◌≤◌, ◌<◌}
use mathlib.Core.Path.{◌≡◌, refl, sym, subst, ◌∙◌}
use mathlib.Core.Logic.{◌⊎◌, inl, inr}
use mathlib.Core.Bool.{Bool, true, false, not, ◌&&◌, true≢false, false≢true}
use native.Mathlib.Omega.{arith}
use lib.Dec.{ltb, eqb}
use borrow.Author.Tests.{eqb-true, eqb-false, ltb-false}
use Rattle.base.specs.Pick.{pick}
use Rattle.base.proofs.Bools.{or_off}
use Rattle.base.proofs.Decide.{pick_true, pick-false}
use Rattle.geometry.specs.declared.params.Params.{Params}
use Rattle.geometry.specs.Config.{Setting}
use Rattle.std.specs.Prelude.{Some}
use Rattle.geometry.specs.Params.{Within, track_count, track_of, last_address, address_count}
use Rattle.geometry.proofs.Sizes.{sectors_some}
use Rattle.geometry.proofs.Addresses.{track_in}
use Rattle.model.specs.declared.block.Block.{Block}
use Rattle.model.specs.declared.table.Command.{Command}
use Rattle.model.specs.declared.table.Command.TheVariants.{Free, OnDisk, Copy, Unknown}
use Rattle.model.specs.declared.table.FreeCommand.TheVariants.{RequestSense, WriteBuffer, ReadBuffer, Initialize}
use Rattle.model.specs.declared.table.DiskCommand.TheVariants.{ArmWork, TrackWork, SectorWork}
use Rattle.model.specs.declared.table.ArmCommand.TheVariants.{TestReady, Recalibrate, Seek}
use Rattle.model.specs.declared.table.TrackCommand.TheVariants.{FormatDrive, CheckTrack, FormatTrack, FormatBadTrack, AssignAlternate}
use Rattle.model.specs.declared.table.SectorCommand.TheVariants.{Read, Write}
use Rattle.model.specs.declared.verdict.View.{View}
use Rattle.model.specs.Verdicts.{Passed}
use Rattle.model.specs.Block.{count_of}
use Rattle.model.specs.Table.{Interleave, Address, Counted, Settled, SparedWhole, TableRow, applies, table, unknown, row_for}
use Rattle.model.specs.Checks.{with_params, interleave_wrong, past_end, not_spared, bytes_of, reach_of, hits_of, in_order, judge_over, judge}
use Rattle.model.proofs.engine.Rows.{none, also, each_row}
use Rattle.model.proofs.engine.Judged.{passed_on, not_refused}

-- ---- a command has one row
-- an opcode that has the command
unfoldable pub opcode_for : Command → ℕ
opcode_for (OnDisk (ArmWork TestReady)) = 0
opcode_for (OnDisk (ArmWork Recalibrate)) = 1
opcode_for (Free RequestSense) = 3
opcode_for (OnDisk (TrackWork FormatDrive)) = 4
opcode_for (OnDisk (TrackWork CheckTrack)) = 5
opcode_for (OnDisk (TrackWork FormatTrack)) = 6
opcode_for (OnDisk (TrackWork FormatBadTrack)) = 7
opcode_for (OnDisk (SectorWork Read)) = 8
opcode_for (OnDisk (SectorWork Write)) = 10
opcode_for (OnDisk (ArmWork Seek)) = 11
opcode_for (OnDisk (TrackWork AssignAlternate)) = 14
opcode_for (Free WriteBuffer) = 15
opcode_for (Free ReadBuffer) = 16
opcode_for (Free Initialize) = 17
opcode_for Unknown = 2
opcode_for Copy = 32

pub row_of : (opcode : ℕ) → row_for opcode ≡ row_for (opcode_for (row_for opcode).command)
unfolding row_for opcode_for
row_of opcode =
    each_row (λ n e. e ≡ row_for (opcode_for e.command)) table unknown
    (also refl (also refl (also refl (also refl (also refl (also refl (also refl (also refl (also refl
    (also refl (also refl (also refl (also refl (also refl (also refl (also refl (also refl (also refl
    (also refl (also refl (also refl (also refl (also refl (also refl (also refl (also refl (also refl
    (also refl (also refl (also refl (also refl (also refl (also refl none))))))))))))))))))))))))))))))))) (λ n past. refl) opcode

and_off : (a b : Bool) → a ≡ true → (a && b) ≡ false → b ≡ false
and_off true b e h = h
and_off false b e h = absurd (false≢true e)

-- ---- what has passed, with parameters p
pub record ClearedOver (e : TableRow) (b : Block) (reach : ℕ) (p : Params) (pending : Bool) (given : ℕ) : Type 0 where
  pub interleave : (applies Interleave e && interleave_wrong b.extra p) ≡ false
  pub address : (applies Address e && past_end b.address reach p) ≡ false
  pub unpended : (pending && (applies Settled e && not_spared (applies SparedWhole e) b.address p)) ≡ false
  pub enough : bytes_of e.takes b (Some p) ≤ given

-- of a command of six bytes, with the reach of its row
abbrev pub Cleared : TableRow → Block → Params → (pending : Bool) → (given : ℕ) → Type 0
Cleared e b p pending given = ClearedOver e b (reach_of (applies Counted e) b) p pending given

module _ (b : Block) (reach : ℕ) (v : View) (given area : ℕ) (passed : judge_over b reach v given area ≡ Passed) where
  -- all nine tests, one after the other
  record Nine (e : TableRow) : Type 0 where
    interleave : (applies Interleave e && with_params v.setting (interleave_wrong b.extra)) ≡ false
    past : (applies Address e && with_params v.setting (past_end b.address reach)) ≡ false
    pending : (v.pending && (applies Settled e && with_params v.setting (not_spared (applies SparedWhole e) b.address))) ≡ false
    taken : bytes_of e.takes b v.setting ≤ given
    handed : bytes_of e.gives b v.setting ≤ area

  nine : Nine (row_for b.opcode)
  unfolding in_order hits_of
  nine =
      let t₁ = passed_on _ _ _ _ passed in
      let t₂ = passed_on _ _ _ _ t₁.1 in
      let t₃ = passed_on _ _ _ _ t₂.1 in
      let t₄ = passed_on _ _ _ _ t₃.1 in
      let t₅ = passed_on _ _ _ _ t₄.1 in
      let t₆ = passed_on _ _ _ _ t₅.1 in
      let t₇ = passed_on _ _ _ _ t₆.1 in
      let t₈ = not_refused _ _ _ t₇.1 in
      let t₉ = not_refused _ _ _ t₈.1 in
      record { interleave = t₅.0; past = t₆.0; pending = t₇.0; taken = ltb-false _ _ t₈.0; handed = ltb-false _ _ t₉.0 }

  pub given_over : bytes_of (row_for b.opcode).takes b v.setting ≤ given
  given_over = nine.taken

  pub area_over : bytes_of (row_for b.opcode).gives b v.setting ≤ area
  area_over = nine.handed

  asked : (p : Params) → v.setting ≡ Some p → (applied : Bool) (ask : Params → Bool) → (applied && with_params v.setting ask) ≡ false
      → (applied && ask p) ≡ false
  unfolding with_params
  asked p valid applied ask h = subst (λ (s : Setting). (applied && with_params s ask) ≡ false) valid h

  pub cleared_over : (p : Params) → v.setting ≡ Some p → ClearedOver (row_for b.opcode) b reach p v.pending given
  unfolding with_params
  cleared_over p valid =
      let e = row_for b.opcode in
      record {
        interleave = asked p valid (applies Interleave e) (interleave_wrong b.extra) nine.interleave;
        address = asked p valid (applies Address e) (past_end b.address reach) nine.past;
        unpended = subst (λ (s : Setting). (v.pending && (applies Settled e && with_params s (not_spared (applies SparedWhole e) b.address))) ≡ false) valid nine.pending;
        enough = subst (λ (s : Setting). bytes_of e.takes b s ≤ given) valid given_over;
      }

module _ (b : Block) (v : View) (given area : ℕ) (passed : judge b v given area ≡ Passed) where
  pub given_enough : bytes_of (row_for b.opcode).takes b v.setting ≤ given
  unfolding judge
  given_enough = given_over b _ v given area passed

  pub area_enough : bytes_of (row_for b.opcode).gives b v.setting ≤ area
  unfolding judge
  area_enough = area_over b _ v given area passed

  pub cleared : (p : Params) → v.setting ≡ Some p → Cleared (row_for b.opcode) b p v.pending given
  unfolding judge
  cleared = cleared_over b _ v given area passed

pending_spared : (pending settled whole first : Bool) → settled ≡ true → (pending && (settled && not (whole && first))) ≡ false
    → (pending ≡ false) ⊎ ((whole ≡ true) × (first ≡ true))
pending_spared false settled whole first s off = inl refl
pending_spared true false whole first s off = absurd (false≢true s)
pending_spared true true false first s off = absurd (true≢false off)
pending_spared true true true false s off = absurd (true≢false off)
pending_spared true true true true s off = inr (refl, refl)

module _ {e : TableRow} {b : Block} {reach : ℕ} {p : Params} {pending : Bool} {given : ℕ} (w : Within p) (clear : ClearedOver e b reach p pending given) where
  -- an interleave of 1 to n - 1
  pub interleave_in : applies Interleave e ≡ true → (0 < b.extra) × (b.extra < p.sectors)
  unfolding interleave_wrong
  interleave_in flag =
      let o = or_off (ltb b.extra 1) (ltb (p.sectors - 1) b.extra) (and_off (applies Interleave e) _ flag clear.interleave) in
      (omega (arith, ltb-false b.extra 1 o.0), omega (arith, ltb-false (p.sectors - 1) b.extra o.1, w.sectors_some))

  -- the address, and the last one of a count, is on the drive
  pub reach_in : applies Address e ≡ true → 0 < reach → b.address.0 + reach ≤ address_count p
  unfolding past_end
  reach_in flag some =
      omega (arith, ltb-false (last_address p).0 (b.address.0 + reach - 1) (and_off (applies Address e) _ flag clear.address), sectors_some p w)

  pub not_pending : applies Settled e ≡ true → applies SparedWhole e ≡ false → pending ≡ false
  unfolding not_spared
  not_pending flag some = by (pending_spared pending (applies Settled e) (applies SparedWhole e) (eqb (track_of p b.address).0 0) flag clear.unpended)
    where
      by : (pending ≡ false) ⊎ ((applies SparedWhole e ≡ true) × (eqb (track_of p b.address).0 0 ≡ true)) → pending ≡ false
      by (inl off) = off
      by (inr o) = absurd (true≢false (sym o.0 ∙ some))

  -- pending spares Format Drive from track 0 on only
  pub pending_first : applies Settled e ≡ true → (pending ≡ false) ⊎ ((track_of p b.address).0 ≡ 0)
  unfolding not_spared
  pending_first flag = by (pending_spared pending (applies Settled e) (applies SparedWhole e) (eqb (track_of p b.address).0 0) flag clear.unpended)
    where
      by : (pending ≡ false) ⊎ ((applies SparedWhole e ≡ true) × (eqb (track_of p b.address).0 0 ≡ true)) → (pending ≡ false) ⊎ ((track_of p b.address).0 ≡ 0)
      by (inl off) = inl off
      by (inr o) = inr (eqb-true _ _ o.1)

-- ---- counts and tracks
pub count_some : (b : Block) → 0 < count_of b
unfolding count_of
count_some b = by (eqb b.extra 0) refl
  where
    by : (t : Bool) → eqb b.extra 0 ≡ t → 0 < pick (eqb b.extra 0) 256 b.extra
    by true e = rw (e, pick_true true 256 b.extra refl) (omega arith)
    by false e = rw (e, pick-false false 256 b.extra refl) (let ne = eqb-false b.extra 0 e in omega arith)

-- a command on one track: settled, its track on the drive, its interleave good
pub record TrackCleared (b : Block) (p : Params) (pending : Bool) : Type 0 where
  pub calm : pending ≡ false
  pub ours : (track_of p b.address).0 < track_count p
  pub inter : (0 < b.extra) × (b.extra < p.sectors)

module _ {e : TableRow} {b : Block} {p : Params} {pending : Bool} {given : ℕ} (w : Within p) (clear : Cleared e b p pending given) where
  pub track_cleared : applies Address e ≡ true → applies Counted e ≡ false → (track_of p b.address).0 < track_count p
  unfolding reach_of
  track_cleared flag once =
      let one : reach_of (applies Counted e) b ≡ 1 = pick-false (applies Counted e) (count_of b) 1 once in
      track_in p w b.address (omega (arith, one, reach_in w clear flag (omega (arith, one))))

  pub count_cleared : applies Address e ≡ true → applies Counted e ≡ true → b.address.0 + count_of b ≤ address_count p
  unfolding reach_of
  count_cleared flag many =
      let all : reach_of (applies Counted e) b ≡ count_of b = pick_true (applies Counted e) (count_of b) 1 many in
      omega (arith, all, reach_in w clear flag (omega (arith, all, count_some b)))

  pub one_track_lem : applies Settled e ≡ true → applies SparedWhole e ≡ false → applies Address e ≡ true → applies Counted e ≡ false → applies Interleave e ≡ true → TrackCleared b p pending
  one_track_lem s o a n i = record {
    calm = not_pending w clear s o;
    ours = track_cleared a n;
    inter = interleave_in w clear i;
  }
