-- Assign Alternate: its tests one by one, what they say of the tracks and of the codes, and how it ends.
use mathlib.Core.Path.{◌≡◌, refl, sym, ap, ◌∙◌}
use mathlib.Core.Bool.{Bool, true, false, not, ◌||◌}
use mathlib.Core.List.{List, [], ◌∷◌}
use Prim.Native.Nat.{ℕ, ◌-◌, ◌≤◌, ◌<◌}
use native.Mathlib.Omega.{arith}
use lib.ListN.{take}
use lib.Dec.{eqb, ltb}
use borrow.Author.Tests.{lt-ltb, le-ltb, ltb-false}
use Rattle.base.specs.Pick.{pick}
use Rattle.base.specs.Part.{part}
use Rattle.base.specs.Byte.{byte}
use Rattle.geometry.specs.declared.params.Lba.{Lba}
use Rattle.geometry.specs.declared.params.Track.{Track}
use Rattle.geometry.specs.declared.params.Params.{Params}
use Rattle.geometry.specs.Params.{Within, track_count, track_of, last_address}
use Rattle.geometry.specs.Medium.{medium_of}
use Rattle.geometry.proofs.Addresses.{track_in}
use Rattle.geometry.proofs.Sizes.{sectors_some}
use Rattle.interleave.specs.Layout.{layout_of}
use Rattle.track.specs.declared.state.State.{State}
use Rattle.track.specs.declared.state.State.TheVariants.{Moved, Taken}
use Rattle.track.specs.Image.{Fits}
use Rattle.track.specs.Pair.{state_of}
use Rattle.track.specs.State.{is_bad, is_moved, is_taken, is_taken_by_other}
use Rattle.keeping.specs.Keep.{keep_code, kept}
use Rattle.model.specs.declared.block.Block.{Block}
use Rattle.model.specs.declared.record.Drive.{Drive}
use Rattle.model.specs.declared.record.Ending.{Ending}
use Rattle.model.specs.Verdicts.{Verdict, Refused, Faulty, Passed}
use Rattle.model.specs.Block.{keeps, alternate_of}
use Rattle.model.specs.Checks.{Test, on, judged}
use Rattle.model.specs.Record.{failed, good, unless, unless_named, Made, made}
use Rattle.model.specs.Commands.{fill_of, plain_fill, made_at, check_tests, assign_tests, assigned, missing_in, alternated, assign_alternate}
use Rattle.model.specs.Premises.{address_limit}
use Rattle.model.proofs.engine.Assignable.{assignable, alternate_in}
use Rattle.model.proofs.engine.Judged.{judged_hit, judged_on, fault_in, fault_none}
use Rattle.endings.proofs.Verdicts.{ends_faulty}
use Rattle.formats.proofs.Makings.{fill_lent}

-- the alternate track is of this drive
pub before_last : (p : Params) → Within p → (alternate last : Lba) → last ≡ last_address p → alternate.0 ≤ last.0
    → (track_of p alternate).0 < track_count p
before_last p w alternate last el h =
    let k : alternate.0 ≤ (last_address p).0 = rw el at h in
    track_in p w alternate (omega (arith, sectors_some p w))

-- what its own checks say of an image, up to what is missing in A
abbrev pub verdict_on : Params → (first : ℕ) → (a alternate : Lba) → List ℕ → Verdict
verdict_on p first a alternate image =
    judged (assign_tests p first a alternate (state_of p (track_of p a) image) (state_of p (track_of p alternate) image) 0)

-- ---- the tests, one by one
-- where nothing is missing the last never hits
none_missing : (a alternate : Lba) (moved taken same away unfit : Bool)
    → judged (on moved 0x1D a ∷ on taken 0x1C a ∷ on same 0x22 a ∷ on away 0x1D alternate ∷ on unfit 0x1F alternate ∷ on (not (eqb 0 0)) 0 a ∷ [])
    ≡ judged (on moved 0x1D a ∷ on taken 0x1C a ∷ on same 0x22 a ∷ on away 0x1D alternate ∷ on unfit 0x1F alternate ∷ [])
unfolding judged pick
none_missing a alternate moved taken same away unfit = refl

module _ (p : Params) (first : ℕ) (a alternate : Lba) (state_a state_b : State) where
  pub first_past : 0x1F < first → Faulty 0x22 a ≡ judged (assign_tests p first a alternate state_a state_b 0)
  unfolding assign_tests
  first_past h = sym (judged_hit _ _ _ (lt-ltb _ _ h))

  module _ (h : first ≤ 0x1F) (last : Lba) (el : last ≡ last_address p) where
    pub alternate_past : ltb last.0 alternate.0 ≡ true → Faulty 0x21 alternate ≡ judged (assign_tests p first a alternate state_a state_b 0)
    unfolding assign_tests
    alternate_past k = sym (judged_on _ _ _ (le-ltb _ _ h) ∙ judged_hit _ _ _ (rw el at k))

    pair_rest : ltb last.0 alternate.0 ≡ false
        → judged
        (on (is_moved state_a) 0x1D a ∷ on (is_taken state_a) 0x1C a ∷ on (eqb (track_of p alternate).0 (track_of p a).0) 0x22 a
        ∷ on (is_taken_by_other (track_of p a) state_b) 0x1D alternate ∷ on (is_moved state_b || is_bad state_b) 0x1F alternate ∷ [])
        ≡ judged (assign_tests p first a alternate state_a state_b 0)
    unfolding assign_tests
    pair_rest k = sym (judged_on _ _ _ (le-ltb _ _ h) ∙ judged_on _ _ _ (rw el at k) ∙ none_missing a alternate _ _ _ _ _)

-- the tests of the pair, as calls make them
module _ (p : Params) (first : ℕ) (a alternate : Lba) (image : List ℕ) (h : first ≤ 0x1F)
    (last : Lba) (el : last ≡ last_address p) (k : ltb last.0 alternate.0 ≡ false) (from to : Track) (ef : from ≡ track_of p a) (et : to ≡ track_of p alternate)
    (one other : State) (eo : one ≡ state_of p from image) (eb : other ≡ state_of p to image) where
  pub pair_judged : (moved taken same away gone bad unfit : Bool) (verdict : Verdict) → moved ≡ is_moved one → taken ≡ is_taken one → same ≡ eqb to.0 from.0 → away ≡ is_taken_by_other from other
      → gone ≡ is_moved other → bad ≡ is_bad other → unfit ≡ (gone || bad)
      → verdict
      ≡ judged
      (on moved 0x1D a ∷ on taken 0x1C a ∷ on same 0x22 a ∷ on away 0x1D alternate ∷ on unfit 0x1F alternate ∷ [])
      → verdict ≡ verdict_on p first a alternate image
  pair_judged moved taken same away gone bad unfit verdict em en es ea eg ed eu ev =
      ev ∙ rw (em, en, es, ea, eu, eg, ed, eo, eb, ef, et) (pair_rest p first a alternate _ _ h last el k)

-- ---- the last test, of what is missing in A
-- a verdict, and where it is passed the next one
unfoldable ended : (verdict next : Verdict) → Verdict
ended (Refused number) next = Refused number
ended (Faulty code at) next = Faulty code at
ended Passed next = next

ended_on : (next : Verdict) (hit : Bool) (code : ℕ) (at : Lba) (tests others : List Test) → judged others ≡ ended (judged tests) next
    → judged (on hit code at ∷ others) ≡ ended (judged (on hit code at ∷ tests)) next
unfolding judged pick ended
ended_on next true code at tests others e = refl
ended_on next false code at tests others e = e

-- the code 0 never hits
pub none_asked : (a : Lba) → judged (check_tests 0 a) ≡ Passed
unfolding check_tests judged pick
none_asked a = refl

ended_last : (next : Verdict) (a : Lba) → next ≡ ended (judged (check_tests 0 a)) next
unfolding ended
ended_last next a = rw (none_asked a)

then_missing : (p : Params) (first : ℕ) (a alternate : Lba) (state_a state_b : State) (missing : ℕ)
    → judged (assign_tests p first a alternate state_a state_b missing)
    ≡ ended (judged (assign_tests p first a alternate state_a state_b 0)) (judged (check_tests missing a))
unfolding assign_tests check_tests
then_missing p first a alternate state_a state_b missing =
    let next = judged (on (not (eqb missing 0)) missing a ∷ []) in
    ended_on next _ _ _ _ _ (ended_on next _ _ _ _ _ (ended_on next _ _ _ _ _ (ended_on next _ _ _ _ _ (ended_on next _ _ _ _ _ (ended_on next _ _ _ _ _
    (ended_on next _ _ _ _ _ (ended_last next a)))))))

-- ---- what a verdict says
module _ (p : Params) (first : ℕ) (a alternate : Lba) (image : List ℕ) (verdict : Verdict) (ev : verdict ≡ verdict_on p first a alternate image) where
  -- where all is passed, the alternate is of this drive
  pub passed_in : Fits p image → verdict ≡ Passed → (track_of p alternate).0 < track_count p
  passed_in fits e = alternate_in p image fits a alternate 0 (assignable p first a alternate _ _ 0 (sym ev ∙ e))

  -- a fault gives the block's address, or the alternate's, which is looked at only where the first byte is at most 1Fh
  pub fault_below : (m : ℕ) → a.0 < m → (first ≤ 0x1F → alternate.0 < m) → (code : ℕ) (at : Lba) → verdict ≡ Faulty code at
      → (code < 0x80) × (at.0 < m)
  unfolding assign_tests
  fault_below m ha hb code at e =
      let P : ℕ → Lba → Type 0 = λ k l. (k < 0x80) × (l.0 < m) in
      fault_in P code at _ _ _ _ (omega arith, ha)
      (λ z.
      let h = hb (ltb-false _ _ z) in
      fault_in P code at _ _ _ _ (omega arith, h)
      (λ _. fault_in P code at _ _ _ _ (omega arith, ha)
      (λ _. fault_in P code at _ _ _ _ (omega arith, ha)
      (λ _. fault_in P code at _ _ _ _ (omega arith, ha)
      (λ _. fault_in P code at _ _ _ _ (omega arith, h)
      (λ _. fault_in P code at _ _ _ _ (omega arith, h)
      (λ _. fault_in P code at _ _ _ _ (omega arith, ha)
      (λ _. fault_none P code at))))))))
      (sym ev ∙ e)

-- three bytes, of which the first is at most 1Fh, make an address of 21 bits
pub alternate_below : (given : List ℕ) (alternate : Lba) → alternate ≡ alternate_of given → byte given 1 < 256 → byte given 2 < 256
    → byte given 0 ≤ 0x1F → alternate.0 < address_limit
unfolding alternate_of
alternate_below given alternate e h₁ h₂ h₀ = rw e (omega arith)

-- ---- what is made, and the three ends
pub pair_made_lem : (b : Block) (p : Params) (from to : Track) (plain fill image one left : List ℕ) → part 0 p.size plain ≡ plain_fill (medium_of b.drive) p
    → one ≡ made_at b p from (Moved to) (take (p.size - 0) plain) image → left ≡ made_at b p to (Taken from) fill one
    → left ≡ assigned b p from to fill image
unfolding assigned
pair_made_lem b p from to plain fill image one left ep eo el = rw (← ep, ← fill_lent p.size plain, ← eo) el

-- with keep: the code of what is missing in A, or A moved
abbrev pub kept_or : Block → Params → (given : List ℕ) → Drive → (image : List ℕ) → Made
kept_or b p given entry image =
    unless (judged (check_tests (keep_code p (track_of p b.address) image) b.address)) b.drive entry (λ e. made e image)
    (made (good b.drive 0 0 entry) (kept p (track_of p b.address) (track_of p (alternate_of given)) (layout_of p.sectors b.extra) image))

-- without: both formatted
abbrev pub formatted_to : Block → Params → (buffer : List ℕ) → Drive → (to : Track) → (image : List ℕ) → Made
formatted_to b p buffer entry to image =
    made (good b.drive 0 0 entry) (assigned b p (track_of p b.address) to (fill_of b p buffer) image)

-- the verdict by the bytes given
pub by_given : (p : Params) (a : Lba) (given image : List ℕ) (alternate : Lba) → alternate ≡ alternate_of given → (verdict : Verdict)
    → verdict ≡ verdict_on p (byte given 0) a alternate image → verdict_on p (byte given 0) a (alternate_of given) image ≡ verdict
by_given p a given image alternate ea verdict ev = sym (ev ∙ rw ea)

pub formatted_well : (b : Block) (p : Params) (buffer : List ℕ) (entry : Drive) (image : List ℕ) (r : Ending) (from to : Track) (fill left : List ℕ)
    → from ≡ track_of p b.address → part 0 p.size fill ≡ fill_of b p buffer → left ≡ assigned b p from to (take (p.size - 0) fill) image
    → r ≡ good b.drive 0 0 entry → made r left ≡ formatted_to b p buffer entry to image
formatted_well b p buffer entry image r from to fill left ef ep el er = rw (er, el, ef, fill_lent p.size fill ∙ ep)

module _ (b : Block) (p : Params) (buffer given : List ℕ) (entry : Drive) (image : List ℕ) (r : Ending)
    (alternate : Lba) (ea : alternate ≡ alternate_of given) (verdict : Verdict)
    (ev : verdict ≡ verdict_on p (byte given 0) b.address alternate image) where
  -- what is missing in A
  abbrev gap : ℕ
  gap = missing_in b p (track_of p b.address) image

  -- all its checks, by those before the last
  whole : (v : Verdict) → verdict ≡ v
      → judged
      (assign_tests p (byte given 0) b.address (alternate_of given) (state_of p (track_of p b.address) image)
      (state_of p (track_of p (alternate_of given)) image) gap)
      ≡ ended v (judged (check_tests gap b.address))
  whole v e =
      then_missing p _ _ _ _ _ _
      ∙ ap (λ (x : Verdict). ended x (judged (check_tests gap b.address))) (by_given p b.address given image alternate ea verdict ev ∙ e)

  pub assign_fails : (code : ℕ) (at : Lba) → verdict ≡ Faulty code at → r ≡ failed b.drive b.drive code at 0 0 entry
      → made r image ≡ assign_alternate b p buffer given entry image
  unfolding assign_alternate ended
  assign_fails code at e er = ends_faulty _ entry image _ r _ code at (whole _ e) er

  module _ (e : verdict ≡ Passed) (left : List ℕ) where
    pub assign_keeps : keeps b ≡ true → made r left ≡ kept_or b p given entry image → made r left ≡ assign_alternate b p buffer given entry image
    unfolding assign_alternate ended missing_in alternated pick
    assign_keeps keep er = rw (whole _ e, keep) er

    pub assign_formats : keeps b ≡ false → (to : Track) → to ≡ track_of p alternate → made r left ≡ formatted_to b p buffer entry to image
        → made r left ≡ assign_alternate b p buffer given entry image
    unfolding assign_alternate ended missing_in alternated pick unless_named
    assign_formats keep to et er = rw (whole _ e, keep, none_asked b.address, ← ea, ← et) er
