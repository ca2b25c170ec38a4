-- Document 01, 'Order of checks', and rows 2 and 3 of the table of returned values: a function of a small view of the drive.
use Rattle.std.specs.Prelude.{ℕ, ◌+◌, ◌-◌, ◌*◌, ◌%◌, Bool, true, false, not, ◌&&◌, ◌||◌, List, [], ◌∷◌, leb, ltb, eqb}
use Rattle.base.specs.Pick.{pick}
use Rattle.geometry.specs.declared.params.Lba.{Lba}
use Rattle.geometry.specs.declared.params.Params.{Params}
use Rattle.geometry.specs.Config.{Setting}
use Rattle.std.specs.Prelude.{Some, None}
use Rattle.geometry.specs.Params.{track_of, last_address}
use Rattle.geometry.specs.Medium.{is_floppy}
use Rattle.geometry.specs.Config.{is_valid}
use Rattle.copying.specs.Listwise.{filled_by}
use Rattle.model.specs.declared.block.Block.{Block}
use Rattle.model.specs.declared.block.CopyBlock.{CopyBlock}
use Rattle.model.specs.declared.table.Command.{Command}
use Rattle.model.specs.declared.table.Command.TheVariants.{Free, OnDisk, Copy, Unknown}
use Rattle.model.specs.declared.table.Data.{Data}
use Rattle.model.specs.declared.table.Data.TheVariants.{Nothing, Sense, Alternate, Configuration, Buffer, Sectors}
use Rattle.model.specs.declared.verdict.View.{View}
use Rattle.model.specs.declared.verdict.Hits.{Hits}
use Rattle.model.specs.Verdicts.{Verdict}
use Rattle.model.specs.Verdicts.{Refused, Faulty, Passed}
use Rattle.model.specs.Verdicts.{Judgement}
use Rattle.model.specs.Block.{count_of}
use Rattle.model.specs.Table.{HardOnly, Control, FillBit, KeepBit, Present, Parameters, Interleave, Address, Counted, Settled, SparedWhole, TableRow, applies, row_for}

-- A test, and the verdict where it hits.
pub record Test : Type 0 where
  pub hit : Bool
  pub verdict : Verdict

-- A code, with the address that goes with it; or a refusal.
abbrev pub on : Bool → (code : ℕ) → Lba → Test
on hit code at = record { hit = hit; verdict = Faulty code at }

abbrev pub refuses : Bool → (number : ℕ) → Test
refuses hit number = record { hit = hit; verdict = Refused number }

-- The first test that hits decides.
unfoldable pub judged : List Test → Verdict
judged [] = Passed
judged (test ∷ tests) = pick test.hit test.verdict (judged tests)

-- An image under 16 bytes is an absent drive.
unfoldable pub present_with : (image : ℕ) → Bool
present_with image = leb 16 image

-- ---- What each check asks
unfoldable pub is_unknown : Command → Bool
is_unknown (Free command) = false
is_unknown (OnDisk command) = false
is_unknown Copy = false
is_unknown Unknown = true

-- Only control bit 7, without effect, and 5 and 4 where named are defined, not both at once.
unfoldable pub control_wrong : (fill keep : Bool) → (control : ℕ) → Bool
control_wrong fill keep control = not (eqb (control % 128) 0 || ((fill && eqb (control % 128) 32) || (keep && eqb (control % 128) 16)))

-- Byte 1 bit 7 in any command, a command that only hard disks have, or an undefined control bit.
unfoldable pub block_wrong : TableRow → Block → View → Bool
block_wrong e b v =
    b.top
    || ((applies HardOnly e && is_floppy v.medium) || (applies Control e && control_wrong (applies FillBit e) (applies KeepBit e) b.control))

-- A question about the parameters in force: without any, 0Ah has come before it.
unfoldable pub with_params : Setting → (Params → Bool) → Bool
with_params None ask = false
with_params (Some p) ask = ask p

-- An interleave is 1 to n - 1.
unfoldable pub interleave_wrong : (f : ℕ) → Params → Bool
interleave_wrong f p = ltb f 1 || ltb (p.sectors - 1) f

-- The address, or the last of `reach` addresses, is past the end.
unfoldable pub past_end : Lba → (reach : ℕ) → Params → Bool
past_end a reach p = ltb (last_address p).0 (a.0 + reach - 1)

-- Pending does not spare the command: it spares a Format Drive whose s is 0.
unfoldable pub not_spared : (whole : Bool) → Lba → Params → Bool
not_spared whole a p = not (whole && eqb (track_of p a).0 0)

unfoldable pub size_in : Setting → ℕ
size_in None = 0
size_in (Some p) = p.size

-- The bytes of each kind of data. In 08 and 0Ah the lengths are count × D.
unfoldable pub bytes_of : Data → Block → Setting → ℕ
bytes_of Nothing b setting = 0
bytes_of Sense b setting = 4
bytes_of Alternate b setting = 3
bytes_of Configuration b setting = 10
bytes_of Buffer b setting = 512
bytes_of Sectors b setting = count_of b * size_in setting

-- The sectors from the address on that must be on the drive.
unfoldable pub reach_of : (counted : Bool) → Block → ℕ
reach_of counted b = pick counted (count_of b) 1

-- ---- The checks that hit, on one drive. Data given shorter than taken is number 2, a data area shorter than handed over 3.
unfoldable pub hits_of : TableRow → Block → (reach : ℕ) → View → (given area : ℕ) → Hits
hits_of e b reach v given area = record {
  unknown = is_unknown e.command;
  wrong = block_wrong e b v;
  absent = applies Present e && not v.present;
  unset = applies Parameters e && not (is_valid v.setting);
  interleave = applies Interleave e && with_params v.setting (interleave_wrong b.extra);
  past = applies Address e && with_params v.setting (past_end b.address reach);
  pending = v.pending && (applies Settled e && with_params v.setting (not_spared (applies SparedWhole e) b.address));
  short = ltb given (bytes_of e.takes b v.setting);
  small = ltb area (bytes_of e.gives b v.setting);
}

-- ---- The order: 20h; 22h; 04h; 0Ah; interleave, 22h; 21h; 16h; numbers 2, 3.
unfoldable pub in_order : Lba → Hits → List Test
in_order a hits =
    on hits.unknown 0x20 a
    ∷ on hits.wrong 0x22 a
    ∷ on hits.absent 0x04 a
    ∷ on hits.unset 0x0A a
    ∷ on hits.interleave 0x22 a
    ∷ on hits.past 0x21 a
    ∷ on hits.pending 0x16 a
    ∷ refuses hits.short 2
    ∷ refuses hits.small 3
    ∷ []

-- On one drive, where `reach` sectors from the address on must be there.
abbrev pub judge_over : Block → (reach : ℕ) → View → (given area : ℕ) → Verdict
judge_over b reach v given area = judged (in_order b.address (hits_of (row_for b.opcode) b reach v given area))

-- On one drive, with as many sectors as the row says: a command of six bytes, up to its own checks, and a Copy's source.
unfoldable pub judge : Block → View → (given area : ℕ) → Verdict
judge b v given area = judge_over b (reach_of (applies Counted (row_for b.opcode)) b) v given area

-- ---- Copy (request E5): the same row of checks for the source, then for the destination, then 22h where both share a sector.
-- The sectors that n source sectors fill, the last perhaps in part. Without parameters 0Ah comes first.
unfoldable pub filling_of : (n : ℕ) → (from to : Setting) → ℕ
filling_of n None to = 0
filling_of n (Some p) None = 0
filling_of n (Some p) (Some q) = filled_by n p.size q.size

-- One drive, and an address that is among n of the source's and m of the destination's.
unfoldable pub shares : CopyBlock → (n m : ℕ) → Bool
shares k n m =
    eqb k.from.drive k.to.drive
    && (ltb k.from.address.0 (k.to.address.0 + m) && ltb k.to.address.0 (k.from.address.0 + n))

-- What is said first, of the drive that it is said of.
unfoldable pub saying_of : Verdict → Judgement → Judgement → Judgement
saying_of (Refused number) first second = first
saying_of (Faulty code at) first second = first
saying_of Passed first second = second

abbrev pub first_of : Judgement → Judgement → Judgement
first_of first second = saying_of first.verdict first second

unfoldable pub judge_copy : CopyBlock → (from to : View) → Judgement
judge_copy k v w =
    let n = count_of k.from in
    let m = filling_of n v.setting w.setting in
    first_of (record { named = k.from.drive; verdict = judge k.from v 0 0 })
    (first_of (record { named = k.to.drive; verdict = judge_over k.to m w 0 0 })
    (record { named = k.from.drive; verdict = judged (on (shares k n m) 0x22 k.from.address ∷ []) }))
