-- What each command that changes an image leaves of the contents at addresses that it does not name, in any image.
use Prim.Native.Nat.{ℕ, ◌+◌, ◌*◌, ◌≤◌, ◌<◌}
use mathlib.Core.Path.{◌≡◌, refl, sym, ap, ◌∙◌}
use mathlib.Core.Bool.{Bool, true, false, not, ◌&&◌, ◌||◌, true≢false}
use mathlib.Core.Logic.{◌⊎◌, inl, inr}
use mathlib.Core.List.{List, ◌++◌}
use native.Mathlib.Omega.{arith}
use lib.ListN.{length}
use lib.Dec.{leb, ltb, eqb}
use borrow.Author.Tests.{eq-eqb, ne_eqb, eqb-true, eqb-false, leb-false, ltb-false}
use Rattle.base.specs.Part.{part}
use Rattle.base.proofs.Bools.{or_off}
use Rattle.base.specs.Pick.{pick}
use Rattle.base.proofs.Decide.{pick-both}
use Rattle.geometry.specs.declared.params.Lba.{Lba}
use Rattle.geometry.specs.declared.params.Track.{Track}
use Rattle.geometry.specs.declared.params.Params.{Params}
use Rattle.geometry.specs.Params.{track_count, track_of, OnDrive, further}
use Rattle.geometry.specs.Medium.{medium_of}
use Rattle.geometry.specs.Config.{label_rest}
use Rattle.geometry.proofs.Labels.{sixteen}
use Rattle.interleave.specs.Layout.{layout_of}
use Rattle.interleave.proofs.Layouts.{layout_length}
use Rattle.track.specs.declared.state.State.TheVariants.{Sound, Bad}
use Rattle.track.specs.Image.{Fits}
use Rattle.track.specs.Pair.{state_of}
use Rattle.sectors.specs.Transfer.{begun, writing}
use Rattle.contents.specs.Content.{Bytes, content_of}
use Rattle.contents.proofs.Laws.{Given, ForTracks, NotTaken, writing_all, writing_given, writing_elsewhere}
use Rattle.contents.proofs.Laws.{format_track_elsewhere, format_bad_track_elsewhere, format_drive_elsewhere, assign_elsewhere}
use Rattle.model.specs.declared.block.Block.{Block}
use Rattle.model.specs.declared.record.Drive.{Drive}
use Rattle.model.specs.declared.record.Ending.{Ending}
use Rattle.model.specs.Verdicts.{Verdict}
use Rattle.model.specs.Verdicts.{Passed}
use Rattle.keeping.specs.Keep.{kept}
use Rattle.keeping.proofs.Laws.{layout_maps, kept_late, power}
use Rattle.model.specs.Block.{count_of, keeps, alternate_of}
use Rattle.model.specs.Checks.{judged}
use Rattle.model.specs.Record.{failed_answer, good_answer, good, failed, unless, Made, made}
use Rattle.model.specs.Commands.{plain_fill, fill_of, made_at, drive_formatted, format_drive, alone_tests, format_track, transfer_ending, transferred, write}
use Rattle.model.specs.Commands.{missing_in, assigned, alternated, assign_alternate}
use Rattle.model.specs.Records.{is_good, one_track}
use Rattle.model.proofs.engine.Judged.{passed_on}
use Rattle.model.proofs.engine.Outside.{plain_most, fill_most}
use Rattle.model.proofs.engine.Assignable.{Assignable, assignable, not_taken, alternate_in, first_free, second_free, keepable, missing_kept}
use Rattle.model.proofs.engine.Beyond.{unless_left}

-- ---- Good status
pub is_good_lem : (drive sectors bytes : ℕ) → is_good drive (good_answer drive sectors bytes) ≡ true
unfolding is_good
is_good_lem drive sectors bytes = eq-eqb (32 * drive) (32 * drive) refl

pub not_good : (drive sectors bytes : ℕ) → is_good drive (failed_answer drive sectors bytes) ≡ false
unfolding is_good
not_good drive sectors bytes = ne_eqb (2 + 32 * drive) (32 * drive) (λ e. omega arith)

-- ---- What it says that an address is not named
pub other_track : (p : Params) (a b : Lba) → one_track p a b ≡ false → (track_of p a).0 ≡ (track_of p b).0 → ⊥
unfolding one_track
other_track p a b off = eqb-false _ _ off

and-false : (x y : Bool) → (x && y) ≡ false → (x ≡ false) ⊎ (y ≡ false)
and-false true y e = inr e
and-false false y e = inl refl

-- before the sectors done, or behind them
pub not_done : (a first done : ℕ) → (leb first a && ltb a (first + done)) ≡ false → (a < first) ⊎ (first + done ≤ a)
not_done a first done off = by (and-false (leb first a) (ltb a (first + done)) off)
  where
    by : (leb first a ≡ false) ⊎ (ltb a (first + done) ≡ false) → (a < first) ⊎ (first + done ≤ a)
    by (inl e) = inl (leb-false _ _ e)
    by (inr e) = inr (ltb-false _ _ e)

-- ---- A command on the track of its block's address, on the drive; the buffer may be of any length
module _ (p : Params) (image : List ℕ) (f : Fits p image) (b : Block) (buffer : List ℕ) (entry : Drive)
    (here : (track_of p b.address).0 < track_count p) (a : Lba) (ha : OnDrive p a) where
  abbrev map : List ℕ
  map = layout_of p.sectors b.extra

  abbrev first : Track
  first = track_of p b.address

  abbrev plain : List ℕ
  plain = plain_fill (medium_of b.drive) p

  abbrev fill : List ℕ
  fill = fill_of b p buffer

  makes : (l : List ℕ) → length l ≤ p.size → ForTracks p map l
  makes l h = record { slots = layout_length p.sectors b.extra (omega (arith, f.within.sectors_some)); most = h }

  plain_makes : ForTracks p map plain
  plain_makes = makes plain (plain_most (medium_of b.drive) p)

  fill_makes : ForTracks p map fill
  fill_makes = makes fill (fill_most b p buffer)

  abbrev Same : List ℕ → Type 0
  Same after = content_of p a after ≡ content_of p a image

  -- by its own checks; what ends well has named its addresses
  abbrev Spared : Bool → Made → Type 0
  Spared on x = (is_good b.drive x.ending.answer && on) ≡ false → Same x.image

  own : (on : Bool) (v : Verdict) (next : Drive) (after : List ℕ) → (v ≡ Passed → on ≡ false → Same after)
      → Spared on (unless v b.drive entry (λ e. made e image) (made (good b.drive 0 0 next) after))
  unfolding good
  own on v next after h =
      unless_left (Spared on) v b.drive entry (λ e. made e image) (made (good b.drive 0 0 next) after) (λ e off. refl)
      (λ passed off. h passed (rw (is_good_lem b.drive 0 0) at off))

  -- ---- 06 Format Track, 07 Format Bad Track: a track that is taken is not formatted
  alone_free : judged (alone_tests (state_of p first image) b.address) ≡ Passed → NotTaken p first image
  unfolding alone_tests
  alone_free e = not_taken p first image (passed_on _ _ _ _ (passed_on _ _ _ _ e).1).0

  pub format_track_other : Spared (one_track p a b.address) (format_track b p Sound fill entry image)
  unfolding format_track made_at
  format_track_other =
      own _ _ _ _ (λ e off. format_track_elsewhere p image f a ha map fill fill_makes first here (alone_free e) (other_track p a b.address off))

  pub format_bad_track_other : Spared (one_track p a b.address) (format_track b p Bad plain entry image)
  unfolding format_track made_at
  format_bad_track_other =
      own _ _ _ _ (λ e off. format_bad_track_elsewhere p image f a ha map plain plain_makes first here (alone_free e) (other_track p a b.address off))

  -- ---- 04 Format Drive: no pair is split, and the label is no track
  pub format_drive_other : length entry.config ≡ 10 → Spared (leb first.0 (track_of p a).0) (format_drive b p buffer entry image)
  unfolding format_drive drive_formatted
  format_drive_other ten =
      own _ _ _ _ (λ e off.
      format_drive_elsewhere p image f a ha map fill fill_makes first (omega arith) (passed_on _ _ _ _ e).0
      (entry.config ++ label_rest) (sixteen entry.config ten) (leb-false _ _ off))

  -- ---- 0Eh Assign Alternate
  module _ (given : List ℕ) where
    abbrev other : Track
    other = track_of p (alternate_of given)

    abbrev Found : Type 0
    Found = Assignable p b.address (alternate_of given) (state_of p first image) (state_of p other image) (missing_in b p first image)

    -- without keep every address outside both tracks, with keep every one outside B
    assigned_other : Found → (one_track p a b.address || one_track p a (alternate_of given)) ≡ false → content_of p a (assigned b p first other fill image) ≡ content_of p a image
    unfolding assigned made_at
    assigned_other r off =
        let both = or_off (one_track p a b.address) (one_track p a (alternate_of given)) off in
        assign_elsewhere p image f a ha map fill fill_makes plain plain_makes first other here
        (alternate_in p image f b.address (alternate_of given) _ r) r.another
        (first_free p image f b.address (alternate_of given) _ r) (second_free p image f b.address (alternate_of given) _ r)
        (other_track p a b.address both.0) (other_track p a (alternate_of given) both.1)

    kept_other : Found → keeps b ≡ true → one_track p a (alternate_of given) ≡ false → content_of p a (kept p first other map image) ≡ content_of p a image
    kept_other r keep off =
        let may = keepable p image f b.address (alternate_of given) _ r here (missing_kept b p first image keep r.none_missing) in
        let maps = layout_maps p.sectors b.extra (omega (arith, f.within.sectors_some)) in
        power p first other map image f maps may _ (kept_late p first other map image f maps may) a ha (other_track p a (alternate_of given) off)

    alternated_other : Found → (k : Bool) → keeps b ≡ k → ((not k && one_track p a b.address) || one_track p a (alternate_of given)) ≡ false
        → content_of p a (pick k (kept p first other map image) (assigned b p first other fill image)) ≡ content_of p a image
    unfolding pick
    alternated_other r true keep off = kept_other r keep off
    alternated_other r false keep off = assigned_other r off

    pub assign_alternate_other : Spared ((not (keeps b) && one_track p a b.address) || one_track p a (alternate_of given)) (assign_alternate b p buffer given entry image)
    unfolding assign_alternate alternated
    assign_alternate_other = own _ _ _ _ (λ e off. alternated_other (assignable p _ b.address (alternate_of given) _ _ _ e) (keeps b) refl off)

-- ---- 0Ah Write: the sectors counted are those done
module _ (p : Params) (image : List ℕ) (f : Fits p image) (b : Block) (given : List ℕ) (g : Given p (count_of b) b.address given) (entry : Drive) (buffer : List ℕ) where
  abbrev count : ℕ
  count = (write b p given entry buffer image).ending.answer.sectors

  counted : (sectors code bytes : ℕ) → (transfer_ending b sectors code bytes entry).answer.sectors ≡ sectors
  unfolding transfer_ending good failed
  counted sectors code bytes = pick-both (λ (x : Ending). x.answer.sectors ≡ sectors) _ _ _ refl refl

  count_done : count ≡ (writing p (count_of b) b.address given (begun image)).done
  unfolding write transferred
  count_done = counted _ _ _

  written : (write b p given entry buffer image).image ≡ (writing p (count_of b) b.address given (begun image)).image
  unfolding write transferred
  written = refl

  pub write_other : (a : Lba) → OnDrive p a → (leb b.address.0 a.0 && ltb a.0 (b.address.0 + count)) ≡ false
      → content_of p a (write b p given entry buffer image).image ≡ content_of p a image
  write_other a ha off =
      ap (content_of p a) written
      ∙ writing_elsewhere p (count_of b) b.address image given f g a ha (rw count_done at (not_done a.0 b.address.0 count off))

  pub write_given : (i : ℕ) → i < count
      → content_of p (further b.address i) (write b p given entry buffer image).image ≡ Bytes (part (i * p.size) p.size given)
  write_given i l =
      ap (content_of p (further b.address i)) written ∙ writing_given p (count_of b) b.address image given f g i (omega (arith, count_done))

  -- with good status no sector has failed, and so all are done
  abbrev ended_by : (none : Bool) (sectors code bytes : ℕ) → Ending
  ended_by none sectors code bytes =
      pick none (good b.drive sectors bytes entry) (failed b.drive b.drive code (further b.address sectors) sectors bytes entry)

  code_by : (none : Bool) (sectors code bytes : ℕ) → eqb code 0 ≡ none → is_good b.drive (ended_by none sectors code bytes).answer ≡ true → code ≡ 0
  unfolding pick failed
  code_by true sectors code bytes e ok = eqb-true _ _ e
  code_by false sectors code bytes e ok = absurd (true≢false (sym ok ∙ not_good b.drive sectors bytes))

  code_none : (sectors code bytes : ℕ) → is_good b.drive (transfer_ending b sectors code bytes entry).answer ≡ true → code ≡ 0
  unfolding transfer_ending
  code_none sectors code bytes ok = code_by (eqb code 0) sectors code bytes refl ok

  pub write_whole : is_good b.drive (write b p given entry buffer image).ending.answer ≡ true → count ≡ count_of b
  unfolding write transferred
  write_whole ok = count_done ∙ writing_all p (count_of b) b.address image given (code_none _ _ _ ok)
